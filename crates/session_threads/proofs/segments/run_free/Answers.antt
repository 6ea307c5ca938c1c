use Rattle.std.proofs.Common.{arith, ◌≡◌, Some, get_or, refl, sym, ◌∙◌, subst}
use Rattle.std.proofs.lemmas.Option.{slice_get-get_or}
use Rattle.session_works.specs.DeskWords.{Desk}
use Rattle.turn_word.specs.Turns.{Handle, pass_of}
use Rattle.desk_turn.specs.Lanes.{IsOpen}
use Rattle.thread_laws.specs.Faults.{InWheel}
use Rattle.thread_laws.specs.Segments.{Wheels}
use Rattle.session_works.specs.Insides.{beside, parts_with, seen_with}
use Rattle.session_threads.specs.Wheels.{WheelBroke}
use Rattle.session_threads.proofs.PhaseLemmas.{source-back}
use Rattle.session_works.proofs.BesideLemmas.{stays-given_back}
use Rattle.session_threads.proofs.BoundLemmas.{caller-kept, group-behind, lanes-behind}
use Rattle.session_works.proofs.PairedLemmas.{disks-sound, paired-sound}
use Rattle.std.proofs.lemmas.Result.{on_err_weaker, on_ok_weaker}
use Rattle.session_works.proofs.ResultLemmas.{on-ok_any}
use Rattle.session_threads.proofs.segments.run_free.Goals as goal

pub wheel_beside-passes-requires-clause-four : goal.wheel_beside-passes-requires-clause-four
wheel_beside-passes-requires-clause-four g c κs within = c.open-turn.ensures.open.many ∙ c.open-turn.ensures.turn.1

pub wheel_beside-passes-requires-clause-open : goal.wheel_beside-passes-requires-clause-open
wheel_beside-passes-requires-clause-open g c κs within k d low =
    let all = c.open-turn.ensures.open in let p : Handle Desk = get_or c.open-turn.result.1.items k d in
    let is : p ≡ pass_of c.open-turn.result.0.table c.open-turn.result.0.passes (Some c.args.rig.works.desk) k p = all.each k p (slice_get-get_or c.open-turn.result.1.items k d low) in
    subst (IsOpen c.open-turn.result.0.table) (sym is) (record { table_is = refl; live = omega arith; free = refl; opened = c.args.rig.works.desk; open_is = refl; begun = c.requires.begun.0; group = c.requires.begun.1 })

pub wheel_beside-passes-requires-clause-settled : goal.wheel_beside-passes-requires-clause-settled
wheel_beside-passes-requires-clause-settled g c κs within = record { desk = c.args.rig.works.desk; settled = c.requires.settled; files = c.requires.files }

pub wheel_beside-passes-requires-clause-caller : goal.wheel_beside-passes-requires-clause-caller
wheel_beside-passes-requires-clause-caller g c κs within = (Some c.args.rig.works.desk, c.open-turn.ensures.caller)

pub shut-lanes-requires-clause-caller : goal.shut-lanes-requires-clause-caller
shut-lanes-requires-clause-caller g c = (c.args.rig.works.desk, caller-kept c.open-turn.result.0 _ c.open-turn.result.2 c.wheel_beside-passes.result.1.2 c.wheel_beside-passes.ensures.caller c.open-turn.ensures.caller)

pub shut-lanes-requires-clause-open : goal.shut-lanes-requires-clause-open
shut-lanes-requires-clause-open g c =
    (c.args.rig.works.desk, c.behind_the_lanes.ensures.all _ _ (Some c.args.rig.works.desk) _ _ c.wheel_beside-passes.ensures.passes c.open-turn.ensures.open)

pub returns-clause-whole : goal.returns-clause-whole
returns-clause-whole g c =
    on_ok_weaker c.wheel_beside-passes.result.1.1 (λ wheeled. record { served = (seen_with g.G.Guest.sound (beside c.args.rig.works.desk c.wheel_beside-passes.result.1.0.readers.items) c.wheel_beside-passes.result.1.0.driver c.wheel_beside-passes.result.1.0.recorders.items); joins = Wheels refl wheeled; goes = (record { goes = (c.shut-lanes.ensures.goes c.args.rig.works.desk (c.behind_the_lanes.ensures.all _ _ (Some c.args.rig.works.desk) _ _ c.wheel_beside-passes.ensures.passes c.open-turn.ensures.open)); desk = c.shut-lanes.ensures.desk; same = refl }) }) (c.wheel_beside-passes.ensures.wheeled.wheeled c.args.rig.works.desk c.requires.settled)

pub returns-clause-fails : goal.returns-clause-fails
returns-clause-fails g c =
    on_err_weaker c.wheel_beside-passes.result.1.1 (λ (broke : WheelBroke c.args.cycles (seen_with g.G.Guest.sound (beside c.args.rig.works.desk c.args.rig.works.readers.items) c.args.rig.works.driver c.args.rig.works.recorders.items) (seen_with g.G.Guest.sound (beside c.args.rig.works.desk c.wheel_beside-passes.result.1.0.readers.items) c.wheel_beside-passes.result.1.0.driver c.wheel_beside-passes.result.1.0.recorders.items)). (broke.kept, record { served = (seen_with g.G.Guest.sound (beside c.args.rig.works.desk c.wheel_beside-passes.result.1.0.readers.items) c.wheel_beside-passes.result.1.0.driver c.wheel_beside-passes.result.1.0.recorders.items); joins = InWheel broke.whole broke.wheeled refl broke.fewer broke.wheels broke.fails; goes = (record { goes = (c.shut-lanes.ensures.goes c.args.rig.works.desk (c.behind_the_lanes.ensures.all _ _ (Some c.args.rig.works.desk) _ _ c.wheel_beside-passes.ensures.passes c.open-turn.ensures.open)); desk = c.shut-lanes.ensures.desk; same = refl }) }))
    (c.wheel_beside-passes.ensures.wheeled.failed c.args.rig.works.desk c.requires.settled)

pub returns-clause-stays : goal.returns-clause-stays
returns-clause-stays g c = stays-given_back g.G.Guest.sound (parts_with (beside c.args.rig.works.desk c.args.rig.works.readers.items) c.args.rig.works.driver c.args.rig.works.recorders.items) c.args.rig.works.desk c.shut-lanes.result.1 c.wheel_beside-passes.result.1.0.readers.items c.wheel_beside-passes.result.1.0.driver c.wheel_beside-passes.result.1.0.recorders.items (c.wheel_beside-passes.ensures.wheeled.stays c.args.rig.works.desk)

pub returns-clause-pairs : goal.returns-clause-pairs
returns-clause-pairs g c = c.wheel_beside-passes.ensures.wheeled.pairs (paired-sound g.G.Guest.sound (parts_with (beside c.args.rig.works.desk c.args.rig.works.readers.items) c.args.rig.works.driver c.args.rig.works.recorders.items) c.requires.settled.sound)

pub returns-clause-disks : goal.returns-clause-disks
returns-clause-disks g c = c.wheel_beside-passes.ensures.wheeled.disks (disks-sound g.G.Guest.sound (parts_with (beside c.args.rig.works.desk c.args.rig.works.readers.items) c.args.rig.works.driver c.args.rig.works.recorders.items) c.requires.settled.sound)

pub returns-clause-read : goal.returns-clause-read
returns-clause-read g c is = source-back (parts_with (beside c.args.rig.works.desk c.args.rig.works.readers.items) c.args.rig.works.driver c.args.rig.works.recorders.items) c.args.rig.works.desk c.shut-lanes.result.1 c.wheel_beside-passes.result.1.0.readers.items c.wheel_beside-passes.result.1.0.driver c.wheel_beside-passes.result.1.0.recorders.items (c.wheel_beside-passes.ensures.wheeled.read c.args.rig.works.desk is)

pub returns-clause-table : goal.returns-clause-table
returns-clause-table g c = (c.shut-lanes.ensures.goes c.args.rig.works.desk (c.behind_the_lanes.ensures.all _ _ (Some c.args.rig.works.desk) _ _ c.wheel_beside-passes.ensures.passes c.open-turn.ensures.open)).table ∙ c.requires.settled.sound.one.table ∙ sym c.wheel_beside-passes.ensures.wheeled.table

pub returns-clause-phase : goal.returns-clause-phase
returns-clause-phase g c = (c.shut-lanes.ensures.goes c.args.rig.works.desk (c.behind_the_lanes.ensures.all _ _ (Some c.args.rig.works.desk) _ _ c.wheel_beside-passes.ensures.passes c.open-turn.ensures.open)).phase

pub returns-clause-group : goal.returns-clause-group
returns-clause-group g c = on-ok_any c.wheel_beside-passes.result.1.1 (group-behind c.goes_on.ensures.done (seen_with g.G.Guest.sound (beside c.args.rig.works.desk c.args.rig.works.readers.items) c.args.rig.works.driver c.args.rig.works.recorders.items) c.shut-lanes.result.1 c.requires.settled.sound c.shut-lanes.ensures.desk (c.shut-lanes.ensures.goes c.args.rig.works.desk (c.behind_the_lanes.ensures.all _ _ (Some c.args.rig.works.desk) _ _ c.wheel_beside-passes.ensures.passes c.open-turn.ensures.open)) c.requires.begun.1)

pub returns-clause-write : goal.returns-clause-write
returns-clause-write g c is = c.wheel_beside-passes.ensures.wheeled.write c.args.rig.works.desk is

pub returns-clause-lanes : goal.returns-clause-lanes
returns-clause-lanes g c = lanes-behind c.behind_the_lanes.ensures.done c.open-turn.result.1.items c.wheel_beside-passes.result.0.items c.shut-lanes.result.1 c.open-turn.result.2 c.wheel_beside-passes.result.1.2 c.wheel_beside-passes.result.1.1 (c.open-turn.ensures.open.many ∙ c.open-turn.ensures.turn.1) c.wheel_beside-passes.ensures.passes c.wheel_beside-passes.ensures.caller c.open-turn.ensures.quiet c.shut-lanes.ensures.told c.shut-lanes.ensures.seen
