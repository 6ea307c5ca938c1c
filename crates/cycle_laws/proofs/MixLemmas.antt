-- What the playback mixes.
--     mix-now      what the definitions give it
use Rattle.std.proofs.Common.{◌≡◌, ℕ, ◌+◌, ◌*◌, ◌<◌, Bool, List, [], length, map, replicate, ℤ, Option, Some, sym, ◌∙◌, ap, ap₂}
use Rattle.std.specs.Prelude.{slice_index_or}
use Rattle.jack_types.specs.declared.kinds.Kind.TheVariants.{Pass}
use Rattle.jack_types.specs.declared.moments.Moment.{Moment}
use Rattle.session_model.specs.Benches.{outputs_of}
use Rattle.session_model.specs.Cycles.{Settled, edges_into}
use Rattle.session_model.specs.Kinds.{Sound}
use Rattle.session_model.specs.Samples.{below, interleaved, mix, sample, silence}
use Rattle.session_model.specs.State.{Connection, playback_port}
use Rattle.client_kinds.specs.Scores.{Score}
use Rattle.port_registry.specs.Registered.{open_clients}
use Rattle.graph_word.specs.declared.plans.Base.{Base}
use Rattle.plan_transport.specs.cycle_plan.specs.Plans.{IsPlanned, Planned, state_of_plan}
use Rattle.plan_transport.specs.client_benches.specs.Seen.{Seen, bench_in, new_bench}
use Rattle.playback_laws.specs.client_wiring.specs.Wirings.{Wired, wired_of}
use Rattle.playback_laws.specs.client_wiring.specs.declared.joints.Heard.{Heard}
use Rattle.playback_laws.specs.device_periods.specs.Captures.{Reads}
use Rattle.plan_transport.specs.driver_laws.specs.Cycling.{MayCycle, StepsOnce}
use Rattle.plan_transport.specs.driver_laws.specs.Drivers.{Driver, bench_at}
use Rattle.plan_transport.specs.driver_laws.specs.Playing.{mixed_now, played_now, settled_now}
use Rattle.playback_laws.specs.playback_mix.specs.Mixes.{channel_mix}
use Rattle.play_laws.specs.Plays.{bench_of}
use Rattle.cycle_laws.specs.Gears.{Gear, IsGear, driver_of}
use Rattle.cycle_laws.specs.Turnings.{Turns}
use Rattle.cycle_laws.proofs.SeenLemmas.{audio-seen, outputs-same}
use Rattle.cycle_laws.proofs.SettledLemmas.{base-now, captured-now, channels-now, graph-now}

abbrev names : ℕ → List (List ℕ)
names playback = map (λ i. (playback_port i).name) (below playback)

module _ (sounding : Score → Sound) {freewheel : Bool} {before after : Gear} {plan : Planned} {moment : Moment} (gear : IsGear sounding before) (may : MayCycle (driver_of sounding before) freewheel) (turns : Turns sounding freewheel before plan moment after)
    (steps : StepsOnce (driver_of sounding before) (driver_of sounding after)) (left : List ℤ) (told : (driver_of sounding before).left ≡ Some left)
    (as_many_read : (left : List ℤ) (rest : Option (List ℤ)) (channels : List (List ℤ)) (count frames : ℕ) → Reads (Some left) rest channels count frames → length channels ≡ count)
    (was_read : (left : List ℤ) (rest : Option (List ℤ)) (channels : List (List ℤ)) (count frames c : ℕ) → Reads (Some left) rest channels count frames → c < count
    → slice_index_or channels c [] ≡ map (λ i. sample left (i * count + c)) (below frames))
    (rested : (channels : List (List ℤ)) (count frames : ℕ) → channels ≡ replicate count (silence frames) → (length channels ≡ count) × ((c : ℕ) → c < count → slice_index_or channels c [] ≡ silence frames))
    (mixes : (plan : Planned) (scores : List Sound) (benches : List Seen) (channels : List (List ℤ)) (at : Settled) → IsPlanned plan → at.graph ≡ state_of_plan plan → length channels ≡ plan.base.capture
    → ((c : ℕ) → c < length channels → at.capture c ≡ slice_index_or channels c [])
    → map (channel_mix at.frames benches channels (wired_of plan).heard) (below plan.base.playback)
    ≡ map (λ port. mix at.frames (map (λ (edge : Connection). (outputs_of at (open_clients plan.nodes) (λ n. bench_in scores (slice_index_or benches n (new_bench Pass 0)).kept)).audio edge.source) (edges_into at.graph port))) (names plan.base.playback)) where
  abbrev driver : Driver
  driver = driver_of sounding before

  abbrev played : Driver
  played = driver_of sounding after

  abbrev at : Settled
  at = settled_now driver played left

  captures : length after.capture.channels ≡ plan.base.capture
  captures = channels-now sounding gear may turns steps left told as_many_read was_read rested ∙ sym (ap (λ (b : Base). b.capture) (base-now sounding gear may turns steps))

  playbacks : plan.base.playback ≡ before.script.header.playback
  playbacks = ap (λ (b : Base). b.playback) (base-now sounding gear may turns steps)

  -- what a mix of these outputs is
  abbrev mixed : (List ℕ → List ℤ) → List ℤ
  mixed audio = interleaved before.set (map (λ port. mix before.set (map (λ (edge : Connection). audio edge.source) (edges_into at.graph port))) (names plan.base.playback))

  pub mix-now : interleaved before.set (map (channel_mix before.set after.stage.staged.racked.benches after.capture.channels after.stage.staged.wiring.heard) (below before.script.header.playback)) ≡ played_now driver played left
  mix-now =
      ap₂ (λ (heard : List Heard) playback. interleaved before.set (map (channel_mix before.set after.stage.staged.racked.benches after.capture.channels heard) (below playback))) (ap (λ (w : Wired). w.heard) turns.stands.stands.wiring) (sym playbacks)
      ∙ ap (interleaved before.set) (mixes plan (map sounding after.stage.staged.owned.scores) after.stage.staged.racked.benches after.capture.channels at turns.planned (graph-now sounding gear may turns steps) captures (captured-now sounding gear may turns steps left told as_many_read was_read rested))
      ∙ ap (λ nodes. mixed (outputs_of at nodes (bench_of sounding after.stage.staged)).audio) (sym (ap open_clients turns.stands.stands.nodes))
      ∙ ap mixed (sym (outputs-same at (open_clients after.stage.staged.nodes) (bench_at played) (bench_of sounding after.stage.staged) (audio-seen sounding after)))
      ∙ ap (λ playback. interleaved before.set (map (mixed_now driver played left) (names playback))) playbacks
