use Rattle.std.proofs.Common.{◌≡◌, subst, sym}
use Rattle.midi_wiring.specs.Setting.{SetsEvents}
use Rattle.midi_wiring.specs.Wirings.{MidiWired, midi_wired_of}
use Rattle.midi_wiring.proofs.SettingLemmas.{SetsEvents-wired}
use Rattle.midi_wiring.proofs.wiring.MidiWiring.fill.Goals as goal

pub returns-clause-events : goal.returns-clause-events
returns-clause-events c =
    let same : (let made : MidiWired = record { widths = c.count_widths.new.widths.items; joints = c.join_edges.new.joints.items; given = c.give_outputs.new.given.items } in made) ≡ midi_wired_of c.args.plan.now =
    λ i. record { widths = c.count_widths.ensures.widths i; joints = c.join_edges.ensures.joints i; given = c.give_outputs.ensures.given i } in
    subst (SetsEvents c.args.plan.now) (sym same) (SetsEvents-wired c.args.plan.now c.ports-ports.ensures.planned)
