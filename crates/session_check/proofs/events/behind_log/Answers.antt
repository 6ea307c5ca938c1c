use Rattle.std.proofs.Common.{◌≡◌, ◌<◌, length, slice_get, Some, sym, ◌∙◌, ap, arith}
use Rattle.check_laws.proofs.PlaceLists.{slice-at, slice-inside}
use Rattle.run_laws.proofs.PlaceLemmas.{some_at}
use Rattle.report_reader.specs.declared.rows.EventLine.{EventLine}
use Rattle.session_check.proofs.EventLemmas.{behind-all, behind-none, behind-one, departs, departs-other}
use Rattle.session_check.proofs.events.behind_log.Goals as goal

pub returns-then-next-rows-clause-wrong : goal.returns-then-next-rows-clause-wrong
returns-then-next-rows-clause-wrong c =
    let logged = some_at c.args.log.now c.loop-at.at c.loop-at-test.true in
    departs c.args.client.now c.args.log.now c.args.rows.now c.args.place c.loop-at.at c.loop-at.next logged.0 c.loop-at.invariant logged.1 (λ row there. absurd (past row (slice-inside c.args.rows.now c.loop-at.next row there)))
  where
    past : (row : EventLine) → c.loop-at.next < length c.args.rows.now → ⊥
    past row low = omega (arith, low, c.if-next-rows.true)

pub returns-then-not-is_told-clause-wrong : goal.returns-then-not-is_told-clause-wrong
returns-then-not-is_told-clause-wrong c =
    departs-other c.args.client.now c.args.log.now c.args.rows.now c.args.place c.loop-at.at c.loop-at.next c.index-rows-next.result _ c.loop-at.invariant row-at (slice-at c.args.log.now c.loop-at.at _ c.loop-at-test.true) (sym c.is_told.ensures ∙ c.if-not-is_told.true)
  where
    row-at : slice_get c.args.rows.now c.loop-at.next ≡ Some c.index-rows-next.result
    row-at = slice-at c.args.rows.now c.loop-at.next c.index-rows-next.result (omega (arith, c.if-next-rows.false)) ∙ ap Some (sym c.index-rows-next.is)

pub loop-at-preserved : goal.loop-at-preserved
loop-at-preserved c =
    behind-one c.args.client.now c.args.log.now c.args.rows.now c.args.place c.loop-at.at c.loop-at.next c.index-rows-next.result _ c.loop-at.invariant row-at (slice-at c.args.log.now c.loop-at.at _ c.loop-at-test.true) (sym c.is_told.ensures ∙ c.if-not-is_told.false)
  where
    row-at : slice_get c.args.rows.now c.loop-at.next ≡ Some c.index-rows-next.result
    row-at = slice-at c.args.rows.now c.loop-at.next c.index-rows-next.result (omega (arith, c.if-next-rows.false)) ∙ ap Some (sym c.index-rows-next.is)

pub loop-at-init : goal.loop-at-init
loop-at-init c = behind-none c.args.client.now c.args.log.now c.args.rows.now c.args.place c.requires

pub returns-clause-told : goal.returns-clause-told
returns-clause-told c = behind-all c.args.client.now c.args.log.now c.args.rows.now c.args.place c.loop-at.at c.loop-at.next (omega (arith, c.loop-at-test.false)) c.loop-at.invariant
