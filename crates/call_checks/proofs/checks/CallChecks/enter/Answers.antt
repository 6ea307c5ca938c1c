use Rattle.std.proofs.Common.{◌≡◌, ◌+◌, ◌∙◌, ap, arith, get_or, map, refl, rules, set, subst, sym, true}
use Rattle.std.proofs.lemmas.List.{length-map}
use Rattle.cycle_plan.specs.Graphs.{state_of}
use Rattle.lane_calls.specs.Plans.{plan_of}
use Rattle.session_model.specs.Serial.{answered}
use Rattle.call_checks.specs.Checks.{Checks}
use Rattle.call_checks.specs.Kept.{IsNext, entry_of}
use Rattle.call_checks.proofs.KeptLemmas.{calls-left, changes-left, count-left, entered-history, enters-right, kept-pushed, reply-now, short-now, tempo-next}
use Rattle.call_checks.proofs.checks.CallChecks.enter.Goals as goal

pub overflow_cast-before : goal.overflow_cast-before
overflow_cast-before c =
    let left = changes-left (record { script = c.self.inside.script; history = map entry_of c.self.inside.right.items; wrong = c.self.inside.wrong }) c.self.inside.calls c.self.inside.made c.self.inside.right.items c.self.inside.changes.items (state_of c.self.inside.graph) c.self.invariant.0 (plan_of c.args.planned.now) (subst (λ (p : Checks). IsNext p.script p.history (plan_of c.args.planned.now)) (sym c.self.view_is) c.requires.next) in
    omega (arith, left, c.len-before.ensures, c.self.inside.changes.ok.0)

pub overflow_add-before : goal.overflow_add-before
overflow_add-before c =
    let left = changes-left (record { script = c.self.inside.script; history = map entry_of c.self.inside.right.items; wrong = c.self.inside.wrong }) c.self.inside.calls c.self.inside.made c.self.inside.right.items c.self.inside.changes.items (state_of c.self.inside.graph) c.self.invariant.0 (plan_of c.args.planned.now) (subst (λ (p : Checks). IsNext p.script p.history (plan_of c.args.planned.now)) (sym c.self.view_is) c.requires.next) in
    omega (arith, left, c.len-before.ensures, c.self.inside.changes.ok.0)

pub answer-reply-requires-clause-tempo : goal.answer-reply-requires-clause-tempo
answer-reply-requires-clause-tempo c = tempo-next (record { script = c.self.inside.script; history = map entry_of c.self.inside.right.items; wrong = c.self.inside.wrong }) c.self.inside.calls c.self.inside.made c.self.inside.right.items c.self.inside.changes.items (state_of c.self.inside.graph) c.self.invariant.0 (plan_of c.args.planned.now) (subst (λ (p : Checks). IsNext p.script p.history (plan_of c.args.planned.now)) (sym c.self.view_is) c.requires.next)

pub answer-reply-requires-clause-delays : goal.answer-reply-requires-clause-delays
answer-reply-requires-clause-delays c = short-now (record { script = c.self.inside.script; history = map entry_of c.self.inside.right.items; wrong = c.self.inside.wrong }) c.self.inside.calls c.self.inside.made c.self.inside.right.items c.self.inside.changes.items (state_of c.self.inside.graph) c.self.invariant.0 (plan_of c.args.planned.now) (subst (λ (p : Checks). IsNext p.script p.history (plan_of c.args.planned.now)) (sym c.self.view_is) c.requires.next) (ap (λ (p : Checks). p.wrong) c.self.view_is ∙ c.requires.right)

pub returns-then-ne : goal.returns-then-ne
returns-then-ne c = (
  λ e.
      let own : c.answer-reply.result ≡ (answered c.self.inside.script (map entry_of c.self.inside.right.items) c.args.planned.now.call).reply =
      reply-now (record { script = c.self.inside.script; history = map entry_of c.self.inside.right.items; wrong = c.self.inside.wrong }) c.self.inside.calls c.self.inside.made c.self.inside.right.items c.self.inside.changes.items (state_of c.self.inside.graph) c.self.invariant.0 (plan_of c.args.planned.now) (subst (λ (p : Checks). IsNext p.script p.history (plan_of c.args.planned.now)) (sym c.self.view_is) c.requires.next) (ap (λ (p : Checks). p.wrong) c.self.view_is ∙ c.requires.right) c.answer-reply.result (c.len-before.result + 1) c.answer-reply.ensures.reply (ap (λ n. n + 1) (c.len-before.ensures ∙ c.self.inside.changes.ok.0)) in
      let same : c.answer-reply.result ≡ c.args.told.now = own ∙ ap (λ (p : Checks). (answered p.script p.history c.args.planned.now.call).reply) c.self.view_is ∙ sym e in
      search rules,
  ap (λ (p : Checks). record p { wrong = true }) c.self.view_is,
)

pub keep_change-requires : goal.keep_change-requires
keep_change-requires c =
    let left = changes-left (record { script = c.self.inside.script; history = map entry_of c.self.inside.right.items; wrong = c.self.inside.wrong }) c.self.inside.calls c.self.inside.made c.self.inside.right.items c.self.inside.changes.items (state_of c.self.inside.graph) c.self.invariant.0 (plan_of c.args.planned.now) (subst (λ (p : Checks). IsNext p.script p.history (plan_of c.args.planned.now)) (sym c.self.view_is) c.requires.next) in
    omega (arith, left, c.self.invariant.2)

pub overflow_add-self : goal.overflow_add-self
overflow_add-self c =
    let left = count-left (record { script = c.self.inside.script; history = map entry_of c.self.inside.right.items; wrong = c.self.inside.wrong }) c.self.inside.calls c.self.inside.made c.self.inside.right.items c.self.inside.changes.items (state_of c.self.inside.graph) c.self.invariant.0 (plan_of c.args.planned.now) (subst (λ (p : Checks). IsNext p.script p.history (plan_of c.args.planned.now)) (sym c.self.view_is) c.requires.next) in
    omega (arith, left)

pub push_reserved-requires : goal.push_reserved-requires
push_reserved-requires c =
    let left = calls-left (record { script = c.self.inside.script; history = map entry_of c.self.inside.right.items; wrong = c.self.inside.wrong }) c.self.inside.calls c.self.inside.made c.self.inside.right.items c.self.inside.changes.items (state_of c.self.inside.graph) c.self.invariant.0 (plan_of c.args.planned.now) (subst (λ (p : Checks). IsNext p.script p.history (plan_of c.args.planned.now)) (sym c.self.view_is) c.requires.next) in
    let size = length-map c.self.inside.right.items entry_of in
    omega (arith, left, size, c.self.invariant.1, c.self.inside.right.ok.0)

pub invariant_of-self-2 : goal.invariant_of-self-2
invariant_of-self-2 c = (
  kept-pushed c.self.inside.script c.self.inside.wrong c.self.inside.calls c.self.inside.made c.self.inside.right.items c.self.inside.changes.items (state_of c.self.inside.graph) c.self.invariant.0 (plan_of c.args.planned.now) (subst (λ (p : Checks). IsNext p.script p.history (plan_of c.args.planned.now)) (sym c.self.view_is) c.requires.next) (ap (λ (p : Checks). p.wrong) c.self.view_is ∙ c.requires.right) (record { planned = c.args.planned.now; reply = c.answer-reply.result; before = c.len-before.result }) refl (c.len-before.result + 1) c.answer-reply.ensures.reply (ap (λ n. n + 1) (c.len-before.ensures ∙ c.self.inside.changes.ok.0)) c.push_reserved.new.self.items c.push_reserved.ensures.items
      (set c.self.inside.made c.args.planned.now.call.lane (get_or c.self.inside.made c.args.planned.now.call.lane 0 + 1)) c.keep_change.new.changes.items (state_of c.answer-reply.new.graph)
      (c.len-before.ensures ∙ c.self.inside.changes.ok.0) refl c.keep_change.ensures.changes c.answer-reply.ensures.after,
  omega (arith, c.self.invariant.1, c.push_reserved.ensures.capacity),
  omega (arith, c.self.invariant.2, c.keep_change.ensures.room),
)

pub returns : goal.returns
returns c =
    let own : c.answer-reply.result ≡ (answered c.self.inside.script (map entry_of c.self.inside.right.items) c.args.planned.now.call).reply =
    reply-now (record { script = c.self.inside.script; history = map entry_of c.self.inside.right.items; wrong = c.self.inside.wrong }) c.self.inside.calls c.self.inside.made c.self.inside.right.items c.self.inside.changes.items (state_of c.self.inside.graph) c.self.invariant.0 (plan_of c.args.planned.now) (subst (λ (p : Checks). IsNext p.script p.history (plan_of c.args.planned.now)) (sym c.self.view_is) c.requires.next) (ap (λ (p : Checks). p.wrong) c.self.view_is ∙ c.requires.right) c.answer-reply.result (c.len-before.result + 1) c.answer-reply.ensures.reply (ap (λ n. n + 1) (c.len-before.ensures ∙ c.self.inside.changes.ok.0)) in
    let told : c.args.told.now ≡ c.answer-reply.result = search rules in
    enters-right (record { script = c.self.inside.script; history = map entry_of c.self.inside.right.items; wrong = c.self.inside.wrong }) c.args.self.now (plan_of c.args.planned.now) c.args.told.now
    (record { script = c.self.inside.script; history = map entry_of c.push_reserved.new.self.items; wrong = c.self.inside.wrong }) c.self.view_is (told ∙ own)
    (ap (λ es. record { script = c.self.inside.script; history = es; wrong = c.self.inside.wrong }) (entered-history c.self.inside.script c.self.inside.wrong c.self.inside.calls c.self.inside.made c.self.inside.right.items c.self.inside.changes.items (state_of c.self.inside.graph) c.self.invariant.0 (plan_of c.args.planned.now) (subst (λ (p : Checks). IsNext p.script p.history (plan_of c.args.planned.now)) (sym c.self.view_is) c.requires.next) (ap (λ (p : Checks). p.wrong) c.self.view_is ∙ c.requires.right) (record { planned = c.args.planned.now; reply = c.answer-reply.result; before = c.len-before.result }) refl (c.len-before.result + 1) c.answer-reply.ensures.reply (ap (λ n. n + 1) (c.len-before.ensures ∙ c.self.inside.changes.ok.0)) c.push_reserved.new.self.items c.push_reserved.ensures.items))
