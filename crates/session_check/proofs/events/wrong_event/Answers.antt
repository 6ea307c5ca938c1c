use Rattle.std.proofs.Common.{◌≡◌, ◌+◌, map, slice_get, Some, sym, ◌∙◌, ap, subst, arith}
use Rattle.check_laws.proofs.PlaceLists.{slice-at, some-same}
use Rattle.report_reader.specs.Forms.{printed_event}
use Rattle.check_model.specs.Checking.{IsFirstNot, SameAt}
use Rattle.session_check.specs.Logs.{events_in}
use Rattle.session_check.proofs.EventLemmas.{IsLoggedTo, event-more, event-wrong, events-all, logged-one, logged-other}
use Rattle.session_check.proofs.LeftLemmas.{none-of}
use Rattle.session_check.proofs.events.wrong_event.Goals as goal
use Rattle.session_check.proofs.events.wrong_event.Goals.{in-Some+in-Ok, in_default}

pub returns-in-Err-clause-wrong : goal.returns-in-Err-clause-wrong
returns-in-Err-clause-wrong g c n e course along all =
    subst (IsFirstNot (SameAt (map printed_event c.args.rows.now) (events_in course c.args.changes.now))) (some-same (c.in-Err.wrong + 1) n e)
    (event-wrong g.G.Guest.sound c.args.changes.now c.args.walk.now c.args.rows.now c.loop-at.at c.loop-at.place c.index-changes-at.result c.loop-at.invariant change-at c.in-Some.client (sym c.log_in.ensures ∙ c.in-Some.is) c.log-log.result.now (λ course behind. c.log-log.ensures.last course behind.along behind.all)
    c.lists_by_places.ensures.first_event c.in-Err.wrong c.in-Err.ensures.wrong course (record { along = along; all = all }))
  where
    change-at : slice_get c.args.changes.now c.loop-at.at ≡ Some c.index-changes-at.result
    change-at = slice-at c.args.changes.now c.loop-at.at c.index-changes-at.result (omega (arith, c.loop-at-test.true)) ∙ ap Some (sym c.index-changes-at.is)

pub loop-at-preserved : goal.loop-at-preserved
loop-at-preserved g c = elim c.match-log_in.branch [
  | in-Some+in-Ok w ↦
      subst (IsLoggedTo g.G.Guest.sound c.args.changes.now c.args.walk.now c.args.rows.now (c.loop-at.at + 1)) (sym w.place-is)
      (logged-one g.G.Guest.sound c.args.changes.now c.args.walk.now c.args.rows.now c.loop-at.at c.loop-at.place c.index-changes-at.result c.loop-at.invariant change-at w.in-Some.client (sym c.log_in.ensures ∙ w.in-Some.is) w.log-log.result.now (λ course behind. w.log-log.ensures.last course behind.along behind.all) w.in-Ok.next w.in-Ok.ensures.told)
  | in_default w ↦
      subst (IsLoggedTo g.G.Guest.sound c.args.changes.now c.args.walk.now c.args.rows.now (c.loop-at.at + 1)) (sym w.place-is)
      (logged-other g.G.Guest.sound c.args.changes.now c.args.walk.now c.args.rows.now c.loop-at.at c.loop-at.place c.index-changes-at.result c.loop-at.invariant change-at (sym c.log_in.ensures ∙ none-of c.log_in.result w.in_default.not-Some))
]
  where
    change-at : slice_get c.args.changes.now c.loop-at.at ≡ Some c.index-changes-at.result
    change-at = slice-at c.args.changes.now c.loop-at.at c.index-changes-at.result (omega (arith, c.loop-at-test.true)) ∙ ap Some (sym c.index-changes-at.is)

pub returns-then-place-rows-clause-wrong : goal.returns-then-place-rows-clause-wrong
returns-then-place-rows-clause-wrong g c n e course along all =
    subst (IsFirstNot (SameAt (map printed_event c.args.rows.now) (events_in course c.args.changes.now))) (some-same (c.loop-at.place + 1) n e)
    (event-more g.G.Guest.sound c.args.changes.now c.args.walk.now c.args.rows.now c.loop-at.at c.loop-at.place c.loop-at.invariant (omega (arith, c.loop-at-test.false)) c.lists_by_places.ensures.first_event (omega (arith, c.if-place-rows.true)) course (record { along = along; all = all }))

pub returns-clause-right : goal.returns-clause-right
returns-clause-right g c e course along all =
    events-all g.G.Guest.sound c.args.changes.now c.args.walk.now c.args.rows.now c.loop-at.at c.loop-at.place c.loop-at.invariant (omega (arith, c.loop-at-test.false)) (omega (arith, c.if-place-rows.false)) course (record { along = along; all = all })
