-- What feedback edges give of MIDI, by the births of ports.
--     Gave plan heard benches      the MIDI outputs of the benches have what was heard of their nodes
--     KeepsEvents last now      what a feedback edge of `now` gives behind a cycle of `last`
--     BringsCarried last now old new frames      that it brings what was carried
use Rattle.std.specs.Prelude.{◌≡◌, ℕ, ◌<◌, ◌==◌, false, Contains, [], length, replicate, if◌then◌else◌}
use Rattle.jack_types.specs.declared.ports.Mark.TheVariants.{Feedback}
use Rattle.session_model.specs.Benches.{Bench, node_at, outputs_of}
use Rattle.session_model.specs.Cycles.{Settled, midi_outputs}
use Rattle.session_model.specs.Driving.{kept_from}
use Rattle.session_model.specs.Soundness.{IsEnd}
use Rattle.session_model.specs.State.{Connection}
use Rattle.port_registry.specs.Registered.{open_clients}
use Rattle.client_wiring.specs.cycle_plan.specs.Plans.{Planned, state_of_plan}
use Rattle.client_wiring.specs.Wirings.{source_birth}
use Rattle.midi_wiring.specs.Hearings.{AreCarried}
use Rattle.driver_words.specs.Hearings.{Heard, carried_at, played_at}

abbrev pub Gave : Planned → Heard → (ℕ → Bench) → Type 0
Gave plan heard benches = (n : ℕ) → n < length plan.nodes → (benches n).midi ≡ replicate (length (midi_outputs (state_of_plan plan) (node_at (open_clients plan.nodes) n).name)) (played_at heard n)

-- what the output of the source's birth carried, where the period stays
abbrev pub KeepsEvents : Planned → Planned → Type 0
KeepsEvents last now = (edge : Connection) → Contains (state_of_plan now).edges edge → IsEnd (state_of_plan now) false false edge.source → edge.mark ≡ Feedback
    → (last_period frames : ℕ) (at : Settled) (heard : Heard) (benches : ℕ → Bench) → at.graph ≡ state_of_plan last → AreCarried last heard → Gave last heard benches
    → (kept_from last_period (state_of_plan last) (outputs_of at (open_clients last.nodes) benches) (state_of_plan now) frames).midi edge.source
    ≡ (if last_period == frames then carried_at heard.carried (source_birth (state_of_plan now) edge) else [])

-- where `old` was heard of `last`, and `new` of `now`, in a cycle of so many frames
abbrev pub BringsCarried : Planned → Planned → Heard → Heard → ℕ → Type 0
BringsCarried last now old new frames = (edge : Connection) → Contains (state_of_plan now).edges edge → IsEnd (state_of_plan now) false false edge.source → edge.mark ≡ Feedback
    → (at : Settled) (benches : ℕ → Bench) → at.graph ≡ state_of_plan last → Gave last old benches
    → (kept_from old.period (state_of_plan last) (outputs_of at (open_clients last.nodes) benches) (state_of_plan now) frames).midi edge.source ≡ carried_at new.before (source_birth (state_of_plan now) edge)
