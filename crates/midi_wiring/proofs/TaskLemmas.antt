-- What was heard is what the clients' tasks play.
--     PlaysTask-heard      by its task a client plays what was heard
--     BringsCarried-heard      feedback edges bring what was carried
use Rattle.std.proofs.Common.{◌≡◌, ℕ, ◌<◌, ◌==◌, Bool, true, false, cond, List, [], get_or, length, refl, sym, ◌∙◌, ap, ap₂}
use Rattle.jack_types.specs.declared.events.Event.{Event}
use Rattle.jack_types.specs.declared.kinds.Kind.{Kind}
use Rattle.jack_types.specs.declared.kinds.Kind.TheVariants.{Pass, Gain, Mix, Delay, Tone, Click, Meter, Tape, Guest, Midiplay, Midithru, Midilog, Disk}
use Rattle.jack_types.specs.declared.moments.Moment.{Moment}
use Rattle.session_model.specs.Benches.{Signal, Task, merged, node_at, task_of}
use Rattle.session_model.specs.Courses.{Course}
use Rattle.session_model.specs.Cycles.{Settled, list_of}
use Rattle.session_model.specs.Kinds.{midi_play}
use Rattle.session_model.specs.State.{OpenClient}
use Rattle.port_registry.specs.Registered.{open_clients}
use Rattle.client_wiring.specs.cycle_plan.specs.Plans.{IsPlanned, Planned, state_of_plan}
use Rattle.client_wiring.specs.Wirings.{source_birth}
use Rattle.midi_wiring.specs.Hearings.{AreCarried, HearsPlan}
use Rattle.driver_words.specs.Hearings.{Carried, Heard, carried_at, listed_for}
use Rattle.midi_wiring.specs.Keeping.{BringsCarried, KeepsEvents}
use Rattle.midi_wiring.specs.Setting.{HandsOver, PlaysTask}
use Rattle.midi_wiring.proofs.SettingLemmas.{SetsEvents-wired}

listed-is : (course : Course) (lists : List (List (ℕ × Event))) → course.script.events ≡ lists → (kind : Kind) → list_of course kind ≡ listed_for lists kind
listed-is course lists e (Midiplay list) = ap (λ all. get_or all list []) e
listed-is course lists e Midithru = refl
listed-is course lists e Midilog = refl
listed-is course lists e Pass = refl
listed-is course lists e (Gain _ _) = refl
listed-is course lists e Mix = refl
listed-is course lists e (Delay _) = refl
listed-is course lists e (Tone _ _) = refl
listed-is course lists e (Click _) = refl
listed-is course lists e Meter = refl
listed-is course lists e (Tape _) = refl
listed-is course lists e (Guest _) = refl
listed-is course lists e (Disk _) = refl

pub PlaysTask-heard : (course : Course) (at : Settled) (plan : Planned) (old new : Heard) (n : ℕ) (given : List (List Signal)) → IsPlanned plan → at.graph ≡ state_of_plan plan → course.script.events ≡ old.lists
    → HearsPlan old plan at.moment at.frames new → n < length plan.nodes → HandsOver plan at new n given → PlaysTask course at plan old new n given
PlaysTask-heard course at plan old new n given planned graph lists hears low hands memory log =
    ap₂ (λ list inputs. midi_play list client.kind memory task.midi_count at.moment at.frames inputs) (listed-is course old.lists lists client.kind) ((SetsEvents-wired plan planned).merged_is course at new n given low graph hands)
    ∙ hears.plays n low task.midi_count memory log
  where
    client : OpenClient
    client = node_at (open_clients plan.nodes) n

    task : Task
    task = task_of course at (open_clients plan.nodes) plan.links n

carried-if : (t : Bool) (carried : List Carried) (birth : ℕ) → cond t (carried_at carried birth) [] ≡ carried_at (cond t carried []) birth
carried-if true carried birth = refl
carried-if false carried birth = refl

pub BringsCarried-heard : (last now : Planned) (old new : Heard) (moment : Moment) (frames : ℕ) → AreCarried last old → HearsPlan old now moment frames new → KeepsEvents last now → BringsCarried last now old new frames
BringsCarried-heard last now old new moment frames carried hears keeps edge listed end mark at benches graph gave =
    keeps edge listed end mark old.period frames at old benches graph carried gave
    ∙ carried-if (old.period == frames) old.carried (source_birth (state_of_plan now) edge)
    ∙ ap (λ all. carried_at all (source_birth (state_of_plan now) edge)) (sym hears.before)
