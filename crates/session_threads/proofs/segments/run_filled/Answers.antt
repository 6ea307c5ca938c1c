use Rattle.std.proofs.Common.{All, List, arith, ◌≡◌, ℕ, OnErr, OnOk, Some, get_or, refl, sym, ◌∙◌, ap, subst}
use Rattle.std.proofs.lemmas.Option.{slice_get-get_or}
use Rattle.std.proofs.lemmas.Result.{on_ok_weaker}
use Rattle.session_works.specs.DeskWords.{Desk, GoesOn}
use Rattle.session_works.specs.Drivers.{Gear}
use Rattle.recorder_files.specs.Recorders.{Recording}
use Rattle.turn_word.specs.Turns.{Handle, pass_of}
use Rattle.desk_turn.specs.Lanes.{IsOpen}
use Rattle.session_works.specs.RunWords.{Playing}
use Rattle.session_works.specs.Insides.{ArePaired, DisksPaired, Stays, beside, parts_with, seen_with}
use Rattle.session_works.specs.Parts.{OneRose, SourceRose, stores_in}
use Rattle.session_works.specs.disk_files.specs.Serving.{HaveFailed as HaveBroken, IsGoing as IsReading}
use Rattle.session_threads.specs.Phases.{Bound, BoundFails}
use Rattle.session_threads.specs.Serving.{HaveFailed, IsUntorn}
use Rattle.session_threads.proofs.BoundLemmas.{bound-broke, bound-disks, bound-pairs, bound-read, bound-rose, bound-stays, bound-torn, bound-unread, bound-unwritten, bound-whole, bound-write, caller-kept, going-of, group-behind, lanes-behind, may-serve-all, on-both}
use Rattle.session_threads.proofs.DiskLemmas.{keeps-driven, may-read-all}
use Rattle.session_threads.proofs.OutcomeLemmas.{by-either, by-outcome}
use Rattle.session_works.proofs.PairedLemmas.{disks-sound, few-recorders}
use Rattle.session_works.proofs.StayLemmas.{ends-many}
use Rattle.session_works.proofs.ResultLemmas.{of-ok, on-ok_any}
use Rattle.session_threads.proofs.segments.run_filled.Goals as goal

pub run_beside-passes-requires-clause-four : goal.run_beside-passes-requires-clause-four
run_beside-passes-requires-clause-four g c κs within = c.open-turn.ensures.open.many ∙ c.open-turn.ensures.turn.1

pub run_beside-passes-requires-clause-open : goal.run_beside-passes-requires-clause-open
run_beside-passes-requires-clause-open g c κs within k d low =
    let all = c.open-turn.ensures.open in let p : Handle Desk = get_or c.open-turn.result.1.items k d in
    let is : p ≡ pass_of c.open-turn.result.0.table c.open-turn.result.0.passes (Some c.args.rig.works.desk) k p = all.each k p (slice_get-get_or c.open-turn.result.1.items k d low) in
    subst (IsOpen c.open-turn.result.0.table) (sym is) (record { table_is = refl; live = omega arith; free = refl; opened = c.args.rig.works.desk; open_is = refl; begun = c.requires.begun.0; group = c.requires.begun.1 })

pub run_beside-passes-requires-clause-may : goal.run_beside-passes-requires-clause-may
run_beside-passes-requires-clause-may g c κs within = may-serve-all g.G.Guest.sound (parts_with (beside c.args.rig.works.desk c.args.rig.works.readers.items) c.args.rig.works.driver c.args.rig.works.recorders.items) c.requires.sound c.requires.files

pub run_beside-passes-requires-clause-few : goal.run_beside-passes-requires-clause-few
run_beside-passes-requires-clause-few g c κs within = few-recorders g.G.Guest.sound (parts_with (beside c.args.rig.works.desk c.args.rig.works.readers.items) c.args.rig.works.driver c.args.rig.works.recorders.items) c.requires.sound

pub run_beside-passes-requires-clause-reading : goal.run_beside-passes-requires-clause-reading
run_beside-passes-requires-clause-reading g c κs within = may-read-all (seen_with g.G.Guest.sound (beside c.args.rig.works.desk c.args.rig.works.readers.items) c.args.rig.works.driver c.args.rig.works.recorders.items) c.requires.sound.going

pub run_beside-passes-requires-clause-few_disks : goal.run_beside-passes-requires-clause-few_disks
run_beside-passes-requires-clause-few_disks g c κs within = (disks-sound g.G.Guest.sound (parts_with (beside c.args.rig.works.desk c.args.rig.works.readers.items) c.args.rig.works.driver c.args.rig.works.recorders.items) c.requires.sound).few

pub run_beside-passes-requires-clause-many : goal.run_beside-passes-requires-clause-many
run_beside-passes-requires-clause-many g c κs within = ends-many g.G.Guest.sound (parts_with (beside c.args.rig.works.desk c.args.rig.works.readers.items) c.args.rig.works.driver c.args.rig.works.recorders.items) c.requires.sound

pub run_beside-passes-requires-clause-many_disks : goal.run_beside-passes-requires-clause-many_disks
run_beside-passes-requires-clause-many_disks g c κs within = (disks-sound g.G.Guest.sound (parts_with (beside c.args.rig.works.desk c.args.rig.works.readers.items) c.args.rig.works.driver c.args.rig.works.recorders.items) c.requires.sound).as_many

pub run_beside-passes-requires-clause-going : goal.run_beside-passes-requires-clause-going
run_beside-passes-requires-clause-going g c κs within = going-of (seen_with g.G.Guest.sound (beside c.args.rig.works.desk c.args.rig.works.readers.items) c.args.rig.works.driver c.args.rig.works.recorders.items) c.requires.sound

pub run_beside-passes-requires-clause-caller : goal.run_beside-passes-requires-clause-caller
run_beside-passes-requires-clause-caller g c κs within = (Some c.args.rig.works.desk, c.open-turn.ensures.caller)

pub shut-lanes-requires-clause-caller : goal.shut-lanes-requires-clause-caller
shut-lanes-requires-clause-caller g c = (c.args.rig.works.desk, caller-kept c.open-turn.result.0 _ c.open-turn.result.2 c.run_beside-passes.result.1.2 c.run_beside-passes.ensures.caller c.open-turn.ensures.caller)

pub shut-lanes-requires-clause-open : goal.shut-lanes-requires-clause-open
shut-lanes-requires-clause-open g c =
    (c.args.rig.works.desk, c.behind_the_lanes.ensures.all _ _ (Some c.args.rig.works.desk) _ _ c.run_beside-passes.ensures.passes c.open-turn.ensures.open)

pub returns-clause-whole : goal.returns-clause-whole
returns-clause-whole g c =
    subst (λ (gear : Gear). OnOk c.outcome_of-outcome.result (Bound c.args.cycles (seen_with g.G.Guest.sound (beside c.args.rig.works.desk c.args.rig.works.readers.items) c.args.rig.works.driver c.args.rig.works.recorders.items) (seen_with g.G.Guest.sound (beside c.shut-lanes.result.1 c.run_beside-passes.result.0.1.1.items) gear c.run_beside-passes.result.0.1.0.items))) (sym c.run_beside-passes.ensures.driven.2)
    (on-both c.outcome_of-outcome.result c.run_beside-passes.result.1.1 c.outcome_of-outcome.ensures.whole c.outcome_of-outcome.ensures.ok c.run_beside-passes.ensures.driven.1.ok (λ going cycles. bound-whole g.G.Guest.sound c.args.cycles c.args.rig.works.desk c.args.rig.works.driver c.run_beside-passes.ensures.driven.0 c.args.rig.works.recorders.items c.run_beside-passes.result.0.1.0.items c.args.rig.works.readers.items c.run_beside-passes.result.0.1.1.items c.shut-lanes.result.1 c.requires.sound c.requires.files c.run_beside-passes.ensures.driven.1.stays c.run_beside-passes.ensures.many c.run_beside-passes.ensures.served c.run_beside-passes.ensures.many_disks c.run_beside-passes.ensures.read goes c.shut-lanes.ensures.desk cycles (subst (λ (l : List Recording). All IsUntorn l) c.deref.ensures.value going.0, subst (λ (l : List Playing). All IsReading l) c.deref-2.ensures.value going.1)))
  where
    goes : GoesOn c.args.rig.works.desk c.shut-lanes.result.1
    goes = c.shut-lanes.ensures.goes c.args.rig.works.desk (c.behind_the_lanes.ensures.all _ _ (Some c.args.rig.works.desk) _ _ c.run_beside-passes.ensures.passes c.open-turn.ensures.open)

pub returns-clause-fails : goal.returns-clause-fails
returns-clause-fails g c =
    subst (λ (gear : Gear). OnErr c.outcome_of-outcome.result ((kept : ℕ) × BoundFails c.args.cycles kept (seen_with g.G.Guest.sound (beside c.args.rig.works.desk c.args.rig.works.readers.items) c.args.rig.works.driver c.args.rig.works.recorders.items) (seen_with g.G.Guest.sound (beside c.shut-lanes.result.1 c.run_beside-passes.result.0.1.1.items) gear c.run_beside-passes.result.0.1.0.items))) (sym c.run_beside-passes.ensures.driven.2)
    (by-outcome c.outcome_of-outcome.result c.run_beside-passes.result.1.1 c.outcome_of-outcome.ensures.read c.outcome_of-outcome.ensures.write (λ is. bound-read g.G.Guest.sound c.args.cycles c.args.rig.works.desk c.args.rig.works.driver c.run_beside-passes.ensures.driven.0 c.args.rig.works.recorders.items c.run_beside-passes.result.0.1.0.items c.args.rig.works.readers.items c.run_beside-passes.result.0.1.1.items c.shut-lanes.result.1 c.requires.sound c.requires.files c.run_beside-passes.ensures.driven.1.stays c.run_beside-passes.ensures.many c.run_beside-passes.ensures.served c.run_beside-passes.ensures.many_disks c.run_beside-passes.ensures.read goes c.shut-lanes.ensures.desk (c.run_beside-passes.ensures.driven.1.read is)) (λ is. bound-write g.G.Guest.sound c.args.cycles c.args.rig.works.desk c.args.rig.works.driver c.run_beside-passes.ensures.driven.0 c.args.rig.works.recorders.items c.run_beside-passes.result.0.1.0.items c.args.rig.works.readers.items c.run_beside-passes.result.0.1.1.items c.shut-lanes.result.1 c.requires.sound c.requires.files c.run_beside-passes.ensures.driven.1.stays c.run_beside-passes.ensures.many c.run_beside-passes.ensures.served c.run_beside-passes.ensures.many_disks c.run_beside-passes.ensures.read goes c.shut-lanes.ensures.desk (c.run_beside-passes.ensures.driven.1.write is))
    (λ ok. bound-torn g.G.Guest.sound c.args.cycles c.args.rig.works.desk c.args.rig.works.driver c.run_beside-passes.ensures.driven.0 c.args.rig.works.recorders.items c.run_beside-passes.result.0.1.0.items c.args.rig.works.readers.items c.run_beside-passes.result.0.1.1.items c.shut-lanes.result.1 c.requires.sound c.requires.files c.run_beside-passes.ensures.driven.1.stays c.run_beside-passes.ensures.many c.run_beside-passes.ensures.served c.run_beside-passes.ensures.many_disks c.run_beside-passes.ensures.read goes c.shut-lanes.ensures.desk (of-ok c.run_beside-passes.result.1.1 ok c.run_beside-passes.ensures.driven.1.ok)))
  where
    goes : GoesOn c.args.rig.works.desk c.shut-lanes.result.1
    goes = c.shut-lanes.ensures.goes c.args.rig.works.desk (c.behind_the_lanes.ensures.all _ _ (Some c.args.rig.works.desk) _ _ c.run_beside-passes.ensures.passes c.open-turn.ensures.open)

pub returns-clause-stays : goal.returns-clause-stays
returns-clause-stays g c =
    subst (λ (gear : Gear). Stays g.G.Guest.sound (parts_with (beside c.args.rig.works.desk c.args.rig.works.readers.items) c.args.rig.works.driver c.args.rig.works.recorders.items) (parts_with (beside c.shut-lanes.result.1 c.run_beside-passes.result.0.1.1.items) gear c.run_beside-passes.result.0.1.0.items)) (sym c.run_beside-passes.ensures.driven.2)
    (bound-stays g.G.Guest.sound c.args.cycles c.args.rig.works.desk c.args.rig.works.driver c.run_beside-passes.ensures.driven.0 c.args.rig.works.recorders.items c.run_beside-passes.result.0.1.0.items c.args.rig.works.readers.items c.run_beside-passes.result.0.1.1.items c.shut-lanes.result.1 c.requires.sound c.requires.files c.run_beside-passes.ensures.driven.1.stays c.run_beside-passes.ensures.many c.run_beside-passes.ensures.served c.run_beside-passes.ensures.many_disks c.run_beside-passes.ensures.read goes c.shut-lanes.ensures.desk c.run_beside-passes.ensures.driven.1.capture)
  where
    goes : GoesOn c.args.rig.works.desk c.shut-lanes.result.1
    goes = c.shut-lanes.ensures.goes c.args.rig.works.desk (c.behind_the_lanes.ensures.all _ _ (Some c.args.rig.works.desk) _ _ c.run_beside-passes.ensures.passes c.open-turn.ensures.open)

pub returns-clause-pairs : goal.returns-clause-pairs
returns-clause-pairs g c =
    subst (λ (gear : Gear). ArePaired gear c.run_beside-passes.result.0.1.0.items) (sym c.run_beside-passes.ensures.driven.2)
    (bound-pairs g.G.Guest.sound c.args.cycles c.args.rig.works.desk c.args.rig.works.driver c.run_beside-passes.ensures.driven.0 c.args.rig.works.recorders.items c.run_beside-passes.result.0.1.0.items c.args.rig.works.readers.items c.run_beside-passes.result.0.1.1.items c.shut-lanes.result.1 c.requires.sound c.requires.files c.run_beside-passes.ensures.driven.1.stays c.run_beside-passes.ensures.many c.run_beside-passes.ensures.served c.run_beside-passes.ensures.many_disks c.run_beside-passes.ensures.read goes c.shut-lanes.ensures.desk)
  where
    goes : GoesOn c.args.rig.works.desk c.shut-lanes.result.1
    goes = c.shut-lanes.ensures.goes c.args.rig.works.desk (c.behind_the_lanes.ensures.all _ _ (Some c.args.rig.works.desk) _ _ c.run_beside-passes.ensures.passes c.open-turn.ensures.open)

pub returns-clause-write : goal.returns-clause-write
returns-clause-write g c is =
    subst (λ (gear : Gear). OneRose (stores_in (parts_with (beside c.args.rig.works.desk c.args.rig.works.readers.items) c.args.rig.works.driver c.args.rig.works.recorders.items)) (stores_in (parts_with (beside c.shut-lanes.result.1 c.run_beside-passes.result.0.1.1.items) gear c.run_beside-passes.result.0.1.0.items))) (sym c.run_beside-passes.ensures.driven.2)
    (by-either (c.outcome_of-outcome.ensures.write is) (λ wrote. bound-unwritten g.G.Guest.sound c.args.cycles c.args.rig.works.desk c.args.rig.works.driver c.run_beside-passes.ensures.driven.0 c.args.rig.works.recorders.items c.run_beside-passes.result.0.1.0.items c.args.rig.works.readers.items c.run_beside-passes.result.0.1.1.items c.shut-lanes.result.1 c.requires.sound c.requires.files c.run_beside-passes.ensures.driven.1.stays c.run_beside-passes.ensures.many c.run_beside-passes.ensures.served c.run_beside-passes.ensures.many_disks c.run_beside-passes.ensures.read goes c.shut-lanes.ensures.desk (c.run_beside-passes.ensures.driven.1.write_cause wrote)) (λ torn. bound-rose g.G.Guest.sound c.args.cycles c.args.rig.works.desk c.args.rig.works.driver c.run_beside-passes.ensures.driven.0 c.args.rig.works.recorders.items c.run_beside-passes.result.0.1.0.items c.args.rig.works.readers.items c.run_beside-passes.result.0.1.1.items c.shut-lanes.result.1 c.requires.sound c.requires.files c.run_beside-passes.ensures.driven.1.stays c.run_beside-passes.ensures.many c.run_beside-passes.ensures.served c.run_beside-passes.ensures.many_disks c.run_beside-passes.ensures.read goes c.shut-lanes.ensures.desk (subst (λ (l : List Recording). HaveFailed l) c.deref.ensures.value torn.1)))
  where
    goes : GoesOn c.args.rig.works.desk c.shut-lanes.result.1
    goes = c.shut-lanes.ensures.goes c.args.rig.works.desk (c.behind_the_lanes.ensures.all _ _ (Some c.args.rig.works.desk) _ _ c.run_beside-passes.ensures.passes c.open-turn.ensures.open)

pub returns-clause-table : goal.returns-clause-table
returns-clause-table g c = (c.shut-lanes.ensures.goes c.args.rig.works.desk (c.behind_the_lanes.ensures.all _ _ (Some c.args.rig.works.desk) _ _ c.run_beside-passes.ensures.passes c.open-turn.ensures.open)).table ∙ c.requires.sound.one.table ∙ sym c.run_beside-passes.ensures.driven.1.stays.table ∙ ap (λ (gear : Gear). gear.reading.table) (sym c.run_beside-passes.ensures.driven.2)

pub returns-clause-phase : goal.returns-clause-phase
returns-clause-phase g c = (c.shut-lanes.ensures.goes c.args.rig.works.desk (c.behind_the_lanes.ensures.all _ _ (Some c.args.rig.works.desk) _ _ c.run_beside-passes.ensures.passes c.open-turn.ensures.open)).phase

pub returns-clause-group : goal.returns-clause-group
returns-clause-group g c = on-ok_any c.outcome_of-outcome.result (group-behind c.goes_on.ensures.done (seen_with g.G.Guest.sound (beside c.args.rig.works.desk c.args.rig.works.readers.items) c.args.rig.works.driver c.args.rig.works.recorders.items) c.shut-lanes.result.1 c.requires.sound c.shut-lanes.ensures.desk (c.shut-lanes.ensures.goes c.args.rig.works.desk (c.behind_the_lanes.ensures.all _ _ (Some c.args.rig.works.desk) _ _ c.run_beside-passes.ensures.passes c.open-turn.ensures.open)) c.requires.begun.1)

pub returns-clause-read : goal.returns-clause-read
returns-clause-read g c is =
    subst (λ (gear : Gear). SourceRose (parts_with (beside c.args.rig.works.desk c.args.rig.works.readers.items) c.args.rig.works.driver c.args.rig.works.recorders.items) (parts_with (beside c.shut-lanes.result.1 c.run_beside-passes.result.0.1.1.items) gear c.run_beside-passes.result.0.1.0.items)) (sym c.run_beside-passes.ensures.driven.2)
    (by-either (c.outcome_of-outcome.ensures.read is) (λ unread. bound-unread g.G.Guest.sound c.args.cycles c.args.rig.works.desk c.args.rig.works.driver c.run_beside-passes.ensures.driven.0 c.args.rig.works.recorders.items c.run_beside-passes.result.0.1.0.items c.args.rig.works.readers.items c.run_beside-passes.result.0.1.1.items c.shut-lanes.result.1 c.requires.sound c.requires.files c.run_beside-passes.ensures.driven.1.stays c.run_beside-passes.ensures.many c.run_beside-passes.ensures.served c.run_beside-passes.ensures.many_disks c.run_beside-passes.ensures.read goes c.shut-lanes.ensures.desk (c.run_beside-passes.ensures.driven.1.read_cause unread)) (λ broke. bound-broke g.G.Guest.sound c.args.cycles c.args.rig.works.desk c.args.rig.works.driver c.run_beside-passes.ensures.driven.0 c.args.rig.works.recorders.items c.run_beside-passes.result.0.1.0.items c.args.rig.works.readers.items c.run_beside-passes.result.0.1.1.items c.shut-lanes.result.1 c.requires.sound c.requires.files c.run_beside-passes.ensures.driven.1.stays c.run_beside-passes.ensures.many c.run_beside-passes.ensures.served c.run_beside-passes.ensures.many_disks c.run_beside-passes.ensures.read goes c.shut-lanes.ensures.desk (subst (λ (l : List Playing). HaveBroken l) c.deref-2.ensures.value broke.1)))
  where
    goes : GoesOn c.args.rig.works.desk c.shut-lanes.result.1
    goes = c.shut-lanes.ensures.goes c.args.rig.works.desk (c.behind_the_lanes.ensures.all _ _ (Some c.args.rig.works.desk) _ _ c.run_beside-passes.ensures.passes c.open-turn.ensures.open)

pub returns-clause-disks : goal.returns-clause-disks
returns-clause-disks g c =
    subst (λ (gear : Gear). DisksPaired gear c.run_beside-passes.result.0.1.1.items) (sym c.run_beside-passes.ensures.driven.2)
    (bound-disks g.G.Guest.sound c.args.cycles c.args.rig.works.desk c.args.rig.works.driver c.run_beside-passes.ensures.driven.0 c.args.rig.works.recorders.items c.run_beside-passes.result.0.1.0.items c.args.rig.works.readers.items c.run_beside-passes.result.0.1.1.items c.shut-lanes.result.1 c.requires.sound c.requires.files c.run_beside-passes.ensures.driven.1.stays c.run_beside-passes.ensures.many c.run_beside-passes.ensures.served c.run_beside-passes.ensures.many_disks c.run_beside-passes.ensures.read goes c.shut-lanes.ensures.desk (disks-sound g.G.Guest.sound (parts_with (beside c.args.rig.works.desk c.args.rig.works.readers.items) c.args.rig.works.driver c.args.rig.works.recorders.items) c.requires.sound) (keeps-driven g.G.Guest.sound c.args.cycles c.args.rig.works.driver c.run_beside-passes.ensures.driven.0 c.run_beside-passes.result.1.1 c.run_beside-passes.ensures.driven.1))
  where
    goes : GoesOn c.args.rig.works.desk c.shut-lanes.result.1
    goes = c.shut-lanes.ensures.goes c.args.rig.works.desk (c.behind_the_lanes.ensures.all _ _ (Some c.args.rig.works.desk) _ _ c.run_beside-passes.ensures.passes c.open-turn.ensures.open)

pub returns-clause-lanes : goal.returns-clause-lanes
returns-clause-lanes g c = on_ok_weaker c.outcome_of-outcome.result (λ went. of-ok c.run_beside-passes.result.1.1 went (lanes-behind c.behind_the_lanes.ensures.done c.open-turn.result.1.items c.run_beside-passes.result.0.0.items c.shut-lanes.result.1 c.open-turn.result.2 c.run_beside-passes.result.1.2 c.run_beside-passes.result.1.1 (c.open-turn.ensures.open.many ∙ c.open-turn.ensures.turn.1) c.run_beside-passes.ensures.passes c.run_beside-passes.ensures.caller c.open-turn.ensures.quiet c.shut-lanes.ensures.told c.shut-lanes.ensures.seen)) c.outcome_of-outcome.ensures.whole
