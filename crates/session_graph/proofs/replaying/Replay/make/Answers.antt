use Rattle.std.proofs.Common.{◌+◌, sym, ap, arith}
use Rattle.cycle_plan.specs.Graphs.{state_of}
use Rattle.call_laws.proofs.StateLemmas.{command-tempo}
use Rattle.lane_calls.specs.Plans.{plan_of}
use Rattle.session_graph.proofs.ReplayLemmas.{replay-more}
use Rattle.session_graph.proofs.ShortLemmas.{plan-lawful}
use Rattle.session_graph.proofs.replaying.Replay.make.Goals as goal

pub answer-reply-requires-clause-tempo : goal.answer-reply-requires-clause-tempo
answer-reply-requires-clause-tempo c =
    command-tempo c.args.script.now.header (c.in-Some.planned).call.command
    (plan-lawful c.args.script.now c.requires.behind.lawful c.args.line.now (plan_of c.in-Some.planned) (sym (c.in-Some.ensures c.args.script.now c.requires.behind.calls_are)))

pub answer-reply-requires-clause-delays : goal.answer-reply-requires-clause-delays
answer-reply-requires-clause-delays c = c.requires.behind.short

pub returns-clause-right : goal.returns-clause-right
returns-clause-right c = λ t.
    let made = c.made_by.ensures.count in
    let index = c.if-line-made_by.false in
    replay-more c.args.script.now c.args.before.now c.args.line.now (state_of c.args.self.now.graph) c.args.self.now.calls c.args.self.now.next c.requires.behind
    (plan_of c.in-Some.planned) c.answer-reply.result (state_of c.answer-reply.new.graph) (c.args.self.now.next + c.changes_by.result)
    (sym (c.in-Some.ensures c.args.script.now c.requires.behind.calls_are))
    (omega (arith, made, index))
    c.answer-reply.ensures.reply c.answer-reply.ensures.after
    (c.is_told.ensures.0 t)
    (ap (λ n. c.args.self.now.next + n) (c.changes_by.ensures.count (c.in-Some.planned).call))
