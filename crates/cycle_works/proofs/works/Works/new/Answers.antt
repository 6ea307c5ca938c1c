use Rattle.std.proofs.Common.{◌≤◌, length, map, sym, subst}
use Rattle.std.specs.Prelude.{IfOk}
use Rattle.std.proofs.lemmas.List.{length-map}
use Rattle.midi_stage.specs.driver_laws.specs.Openings.{IsNew}
use Rattle.midi_stage.specs.task_laws.specs.Calls.{guests_needed}
use Rattle.cycle_laws.specs.Gears.{Gear, driver_of}
use Rattle.cycle_works.proofs.OpeningLemmas.{made-disks, made-own, made-rings, made-scores}
use Rattle.cycle_works.proofs.works.Works.new.Goals as goal

pub over-requires-clause-made : goal.over-requires-clause-made
over-requires-clause-made g c = made-own c.args.script.now (map g.G.Guest.score c.args.guests.items) c.in-Ok.made c.in-Ok.ensures

pub over-requires-clause-guests : goal.over-requires-clause-guests
over-requires-clause-guests g c =
    subst (λ scores. guests_needed c.args.script.now ≤ length scores) (sym (made-scores c.args.script.now (map g.G.Guest.score c.args.guests.items) c.in-Ok.made c.in-Ok.ensures))
    (subst (λ n. guests_needed c.args.script.now ≤ n) (sym (length-map c.args.guests.items _)) c.requires.guests)

pub returns-in-Ok-clause-new : goal.returns-in-Ok-clause-new
returns-in-Ok-clause-new g c =
    subst (λ scores. IfOk c.over.result (λ (gear : Gear). IsNew c.args.script.now (map g.G.Guest.sound scores) (driver_of g.G.Guest.sound gear))) (made-scores c.args.script.now (map g.G.Guest.score c.args.guests.items) c.in-Ok.made c.in-Ok.ensures) c.over.ensures.new

pub returns-in-Ok-clause-rings : goal.returns-in-Ok-clause-rings
returns-in-Ok-clause-rings g c = made-rings c.args.script.now (map g.G.Guest.score c.args.guests.items) c.in-Ok.made c.in-Ok.ensures c.over.result c.over.ensures.rings

pub returns-in-Ok-clause-disks : goal.returns-in-Ok-clause-disks
returns-in-Ok-clause-disks g c = made-disks c.args.script.now (map g.G.Guest.score c.args.guests.items) c.in-Ok.made c.in-Ok.ensures c.over.result c.over.ensures.disks
