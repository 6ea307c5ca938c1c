use Rattle.std.proofs.Common.{◌≡◌, ◌<◌, ◌+◌, ◌++◌, ◌∷◌, [], ap, arith, get_or, length, refl, slice_set, subst, sym, ◌∙◌}
use Rattle.call_laws.specs.cycle_plan.specs.Graphs.{state_of}
use Rattle.jack_types.specs.declared.replies.Entry.{Entry}
use Rattle.session_model.specs.Serial.{answered}
use Rattle.lane_calls.specs.Plans.{plan_of}
use Rattle.control_desk.specs.Past.{IsNext, Past}
use Rattle.control_desk.proofs.PastLemmas.{calls-left, changes-left, count-left, entry-answered, past-made, short-now, tempo-next}
use Rattle.control_desk.proofs.history.History.answer.Goals as goal

pub overflow_cast-number : goal.overflow_cast-number
overflow_cast-number c = let left = changes-left (record { script = c.self.inside.script; history = c.self.inside.entries.items }) c.self.inside.calls c.self.inside.made c.self.inside.changes.items (state_of c.self.inside.graph) c.self.invariant.0 (plan_of c.args.planned.now) (subst (λ (p : Past). IsNext p.script p.history (plan_of c.args.planned.now)) (sym c.self.view_is) c.requires) in omega (arith, left, c.len.ensures, c.self.inside.changes.ok.0)

pub overflow_add-number : goal.overflow_add-number
overflow_add-number c = let left = changes-left (record { script = c.self.inside.script; history = c.self.inside.entries.items }) c.self.inside.calls c.self.inside.made c.self.inside.changes.items (state_of c.self.inside.graph) c.self.invariant.0 (plan_of c.args.planned.now) (subst (λ (p : Past). IsNext p.script p.history (plan_of c.args.planned.now)) (sym c.self.view_is) c.requires) in omega (arith, left, c.len.ensures, c.self.inside.changes.ok.0)

pub answer-reply-requires-clause-tempo : goal.answer-reply-requires-clause-tempo
answer-reply-requires-clause-tempo c = tempo-next (record { script = c.self.inside.script; history = c.self.inside.entries.items }) c.self.inside.calls c.self.inside.made c.self.inside.changes.items (state_of c.self.inside.graph) c.self.invariant.0 (plan_of c.args.planned.now) (subst (λ (p : Past). IsNext p.script p.history (plan_of c.args.planned.now)) (sym c.self.view_is) c.requires)

pub answer-reply-requires-clause-delays : goal.answer-reply-requires-clause-delays
answer-reply-requires-clause-delays c = short-now (record { script = c.self.inside.script; history = c.self.inside.entries.items }) c.self.inside.calls c.self.inside.made c.self.inside.changes.items (state_of c.self.inside.graph) c.self.invariant.0 (plan_of c.args.planned.now) (subst (λ (p : Past). IsNext p.script p.history (plan_of c.args.planned.now)) (sym c.self.view_is) c.requires)

pub keep_change-requires : goal.keep_change-requires
keep_change-requires c = let left = changes-left (record { script = c.self.inside.script; history = c.self.inside.entries.items }) c.self.inside.calls c.self.inside.made c.self.inside.changes.items (state_of c.self.inside.graph) c.self.invariant.0 (plan_of c.args.planned.now) (subst (λ (p : Past). IsNext p.script p.history (plan_of c.args.planned.now)) (sym c.self.view_is) c.requires) in omega (arith, left, c.self.invariant.2)

pub push_reserved-requires : goal.push_reserved-requires
push_reserved-requires c = let left = calls-left (record { script = c.self.inside.script; history = c.self.inside.entries.items }) c.self.inside.calls c.self.inside.made c.self.inside.changes.items (state_of c.self.inside.graph) c.self.invariant.0 (plan_of c.args.planned.now) (subst (λ (p : Past). IsNext p.script p.history (plan_of c.args.planned.now)) (sym c.self.view_is) c.requires) in omega (arith, left, c.self.invariant.1, c.self.inside.entries.ok.0)

pub overflow_add-self : goal.overflow_add-self
overflow_add-self c = let left = count-left (record { script = c.self.inside.script; history = c.self.inside.entries.items }) c.self.inside.calls c.self.inside.made c.self.inside.changes.items (state_of c.self.inside.graph) c.self.invariant.0 (plan_of c.args.planned.now) (subst (λ (p : Past). IsNext p.script p.history (plan_of c.args.planned.now)) (sym c.self.view_is) c.requires) in omega (arith, left)

pub invariant_of-self : goal.invariant_of-self
invariant_of-self c =
    let size : c.len.result + 1 ≡ length c.self.inside.changes.items + 1 = ap (λ n. n + 1) (c.len.ensures ∙ c.self.inside.changes.ok.0) in (
      past-made (record { script = c.self.inside.script; history = c.self.inside.entries.items }) c.self.inside.calls c.self.inside.made c.self.inside.changes.items (state_of c.self.inside.graph) c.self.invariant.0 (plan_of c.args.planned.now) (subst (λ (p : Past). IsNext p.script p.history (plan_of c.args.planned.now)) (sym c.self.view_is) c.requires)
          (slice_set c.self.inside.made c.args.planned.now.call.lane (get_or c.self.inside.made c.args.planned.now.call.lane 0 + 1)) c.keep_change.new.changes.items (state_of c.answer-reply.new.graph) c.answer-reply.result (c.len.result + 1)
          c.push_reserved.new.self.items c.answer-reply.ensures.reply size refl c.keep_change.ensures.changes c.answer-reply.ensures.after c.push_reserved.ensures.items,
      omega (arith, c.self.invariant.1, c.push_reserved.ensures.capacity),
      omega (arith, c.self.invariant.2, c.keep_change.ensures.room),
    )

pub returns-clause-history : goal.returns-clause-history
returns-clause-history c =
    let size : c.len.result + 1 ≡ length c.self.inside.changes.items + 1 = ap (λ n. n + 1) (c.len.ensures ∙ c.self.inside.changes.ok.0) in
    let entered : c.push_reserved.new.self.items ≡ c.self.inside.entries.items ++ answered c.self.inside.script c.self.inside.entries.items c.args.planned.now.call ∷ [] =
    c.push_reserved.ensures.items ∙ ap (λ (e : Entry). c.self.inside.entries.items ++ e ∷ []) (entry-answered (record { script = c.self.inside.script; history = c.self.inside.entries.items }) c.self.inside.calls c.self.inside.made c.self.inside.changes.items (state_of c.self.inside.graph) c.self.invariant.0 (plan_of c.args.planned.now) (subst (λ (p : Past). IsNext p.script p.history (plan_of c.args.planned.now)) (sym c.self.view_is) c.requires) c.answer-reply.result (c.len.result + 1) c.answer-reply.ensures.reply size) in
    ap (λ es. record { script = c.self.inside.script; history = es }) entered
    ∙ ap (λ (p : Past). record { script = p.script; history = p.history ++ answered p.script p.history c.args.planned.now.call ∷ [] }) c.self.view_is
