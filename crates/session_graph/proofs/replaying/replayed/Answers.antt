use Rattle.std.proofs.Common.{List, get_or, refl, sym, subst, arith}
use Rattle.std.proofs.lemmas.List.{take_more}
use Rattle.std.proofs.lemmas.Option.{slice_get-get_or}
use Rattle.cycle_plan.specs.Graphs.{state_of}
use Rattle.report_reader.specs.declared.rows.CallLine.{CallLine}
use Rattle.report_reader.specs.declared.rows.ReplyLine.TheVariants.{Accepted}
use Rattle.session_graph.specs.Replays.{IsOfReplay, IsReplay}
use Rattle.session_graph.proofs.ReplayLemmas.{too-many, used-front, wrong-call}
use Rattle.session_graph.proofs.replaying.replayed.Goals as goal

abbrev none : CallLine
none = record { lane = 0; index = 0; reply = Accepted 0 }

pub returns-then-from-number-clause-used : goal.returns-then-from-number-clause-used
returns-then-from-number-clause-used c =
    let n = c.loop-place.invariant.behind.next_is in
    used-front c.args.script.now c.args.lines.now c.loop-place.place c.args.number (state_of c.loop-place.replay.graph) c.loop-place.replay.calls c.loop-place.replay.next c.loop-place.invariant.behind
    (omega (arith, n, c.if-from-number.true, c.from.ensures))

pub returns-then-not-make-clause-fault : goal.returns-then-not-make-clause-fault
returns-then-not-make-clause-fault c =
    let n = c.loop-place.invariant.behind.next_is in
    subst (IsOfReplay c.args.script.now c.args.lines.now c.args.number c.args.cycle) (sym c.wrong.ensures) (
      refl,
      wrong-call c.args.script.now c.args.lines.now c.loop-place.place c.args.number (state_of c.loop-place.replay.graph) c.loop-place.replay.calls c.loop-place.replay.next c.loop-place.invariant.behind
          (get_or c.args.lines.now c.loop-place.place none) (slice_get-get_or c.args.lines.now c.loop-place.place none c.loop-place-test.true)
          (omega (arith, n, c.loop-place.invariant.within, c.if-from-number.false, c.from.ensures)) (c.make.ensures.wrong c.if-not-make.true),
    )

pub loop-place-preserved : goal.loop-place-preserved
loop-place-preserved c =
    let n = c.loop-place.invariant.behind.next_is in
    record {
      behind = subst (λ (ls : List CallLine). IsReplay c.args.script.now ls (state_of c.make.new.self.graph) c.make.new.self.calls c.make.new.self.next)
          (sym (take_more c.args.lines.now c.loop-place.place none c.loop-place-test.true)) (c.make.ensures.right c.if-not-make.false);
      within = omega (arith, n, c.make.ensures.step, c.loop-place.invariant.within, c.if-from-number.false, c.from.ensures);
      few = omega (arith, c.make.ensures.step, c.loop-place.invariant.few);
    }

pub returns-clause-fault : goal.returns-clause-fault
returns-clause-fault c =
    let n = c.loop-place.invariant.behind.next_is in
    subst (IsOfReplay c.args.script.now c.args.lines.now c.args.number c.args.cycle) (sym c.wrong-2.ensures) (
      refl,
      (
        refl,
        too-many c.args.script.now c.args.lines.now c.loop-place.place c.args.number (state_of c.loop-place.replay.graph) c.loop-place.replay.calls c.loop-place.replay.next c.loop-place.invariant.behind
            c.loop-place-test.false (omega (arith, n, c.loop-place.invariant.within, c.if-from-number-2.false, c.from-2.ensures)),
      ),
    )
