use Rattle.std.proofs.Common.{◌≡◌, ◌*◌, ◌+◌, ◌++◌, ◌<◌, ◌∷◌, [], ap, length, subst, sym, ◌∙◌}
use Rattle.session_model.specs.Grammar.{IsScript}
use Rattle.session_model.specs.Histories.{accepted, state_after}
use Rattle.session_model.specs.Replies.{reply}
use Rattle.session_model.specs.Serial.{answered}
use Rattle.lane_calls.specs.Plans.{plan_of}
use Rattle.control_desk.specs.Desks.{Desk, HasSeen, IsDesk}
use Rattle.control_desk.specs.Past.{IsNext, Past}
use Rattle.control_desk.proofs.StepLemmas.{IsDesk-kept, IsDesk-published, base-kept, history-made, new-changes, new-few, new-front, new-lawful, new-tempos, publishing-kept, script-same}
use Rattle.control_desk.proofs.desk.Desk.make.Goals as goal

pub publish-requires-clause-more : goal.publish-requires-clause-more
publish-requires-clause-more c = (_, new-changes (record { script = c.self.inside.history.script; history = c.self.inside.history.history; phase = c.self.inside.phase; publishing = c.self.inside.publisher.0 }) c.self.invariant.1 c.self.invariant.0 (plan_of c.args.planned.now) (subst (λ (d : Desk). IsNext d.script d.history (plan_of c.args.planned.now)) (sym c.self.view_is) c.requires.next) c.answer-reply.new.self c.answer-reply.ensures.history c.changes.result.now c.in-Accepted.field-0 c.changes.ensures.value (sym c.answer-reply.ensures.reply ∙ c.in-Accepted.is))

pub publish-requires-clause-held : goal.publish-requires-clause-held
publish-requires-clause-held c = new-front (record { script = c.self.inside.history.script; history = c.self.inside.history.history; phase = c.self.inside.phase; publishing = c.self.inside.publisher.0 }) c.self.invariant.1 c.self.invariant.0 (plan_of c.args.planned.now) (subst (λ (d : Desk). IsNext d.script d.history (plan_of c.args.planned.now)) (sym c.self.view_is) c.requires.next) c.answer-reply.new.self c.answer-reply.ensures.history c.changes.result.now c.changes.ensures.value

pub publish-requires-clause-lawful : goal.publish-requires-clause-lawful
publish-requires-clause-lawful c = new-lawful (record { script = c.self.inside.history.script; history = c.self.inside.history.history; phase = c.self.inside.phase; publishing = c.self.inside.publisher.0 }) c.self.invariant.1 c.self.invariant.0 (plan_of c.args.planned.now) (subst (λ (d : Desk). IsNext d.script d.history (plan_of c.args.planned.now)) (sym c.self.view_is) c.requires.next) c.answer-reply.new.self c.answer-reply.ensures.history c.changes.result.now c.changes.ensures.value

pub publish-requires-clause-few : goal.publish-requires-clause-few
publish-requires-clause-few c = new-few (record { script = c.self.inside.history.script; history = c.self.inside.history.history; phase = c.self.inside.phase; publishing = c.self.inside.publisher.0 }) c.self.invariant.1 c.self.invariant.0 (plan_of c.args.planned.now) (subst (λ (d : Desk). IsNext d.script d.history (plan_of c.args.planned.now)) (sym c.self.view_is) c.requires.next) c.answer-reply.new.self c.answer-reply.ensures.history c.changes.result.now c.changes.ensures.value

pub publish-requires-clause-tempos : goal.publish-requires-clause-tempos
publish-requires-clause-tempos c = new-tempos (record { script = c.self.inside.history.script; history = c.self.inside.history.history; phase = c.self.inside.phase; publishing = c.self.inside.publisher.0 }) c.self.invariant.1 c.self.invariant.0 (plan_of c.args.planned.now) (subst (λ (d : Desk). IsNext d.script d.history (plan_of c.args.planned.now)) (sym c.self.view_is) c.requires.next) c.answer-reply.new.self c.answer-reply.ensures.history c.changes.result.now c.changes.ensures.value

pub invariant_of-self : goal.invariant_of-self
invariant_of-self c = (
  IsDesk-published (record { script = c.self.inside.history.script; history = c.self.inside.history.history; phase = c.self.inside.phase; publishing = c.self.inside.publisher.0 }) c.self.invariant.1 c.self.invariant.0 (plan_of c.args.planned.now) (subst (λ (d : Desk). IsNext d.script d.history (plan_of c.args.planned.now)) (sym c.self.view_is) c.requires.next) c.answer-reply.new.self c.answer-reply.ensures.history (subst (λ (d : Desk). c.args.planned.now.stage < 2 * d.phase) (sym c.self.view_is) c.requires.phase) (subst (λ (d : Desk). HasSeen d (plan_of c.args.planned.now)) (sym c.self.view_is) c.requires.seen) c.publish.new.publisher.0 c.changes.result.now c.changes.ensures.value c.publish.ensures.all c.publish.ensures.held,
  c.changes.ensures.script,
  base-kept (record { script = c.self.inside.history.script; history = c.self.inside.history.history; phase = c.self.inside.phase; publishing = c.self.inside.publisher.0 }) c.self.invariant.1 c.self.invariant.0 (plan_of c.args.planned.now) (subst (λ (d : Desk). IsNext d.script d.history (plan_of c.args.planned.now)) (sym c.self.view_is) c.requires.next) c.answer-reply.new.self c.answer-reply.ensures.history c.publish.new.publisher.1.base (c.publish.ensures.base ∙ ap (λ p. p.base) c.publish.ensures.all ∙ c.self.invariant.0.base),
)

pub invariant_of-self-in_default : goal.invariant_of-self-in_default
invariant_of-self-in_default c = (
  IsDesk-kept (record { script = c.self.inside.history.script; history = c.self.inside.history.history; phase = c.self.inside.phase; publishing = c.self.inside.publisher.0 }) c.self.invariant.1 c.self.invariant.0 (plan_of c.args.planned.now) (subst (λ (d : Desk). IsNext d.script d.history (plan_of c.args.planned.now)) (sym c.self.view_is) c.requires.next) c.answer-reply.new.self c.answer-reply.ensures.history (subst (λ (d : Desk). c.args.planned.now.stage < 2 * d.phase) (sym c.self.view_is) c.requires.phase) (subst (λ (d : Desk). HasSeen d (plan_of c.args.planned.now)) (sym c.self.view_is) c.requires.seen) (λ number e. c.in_default.not-Accepted number (c.answer-reply.ensures.reply ∙ e)),
  subst IsScript (sym (script-same (record { script = c.self.inside.history.script; history = c.self.inside.history.history; phase = c.self.inside.phase; publishing = c.self.inside.publisher.0 }) c.self.invariant.1 c.self.invariant.0 (plan_of c.args.planned.now) (subst (λ (d : Desk). IsNext d.script d.history (plan_of c.args.planned.now)) (sym c.self.view_is) c.requires.next) c.answer-reply.new.self c.answer-reply.ensures.history)) c.self.invariant.1,
  base-kept (record { script = c.self.inside.history.script; history = c.self.inside.history.history; phase = c.self.inside.phase; publishing = c.self.inside.publisher.0 }) c.self.invariant.1 c.self.invariant.0 (plan_of c.args.planned.now) (subst (λ (d : Desk). IsNext d.script d.history (plan_of c.args.planned.now)) (sym c.self.view_is) c.requires.next) c.answer-reply.new.self c.answer-reply.ensures.history c.self.inside.publisher.1.base c.self.invariant.2,
)

pub returns-in_default : goal.returns-in_default
returns-in_default c = record {
  history = history-made (record { script = c.self.inside.history.script; history = c.self.inside.history.history; phase = c.self.inside.phase; publishing = c.self.inside.publisher.0 }) c.self.invariant.1 c.self.invariant.0 (plan_of c.args.planned.now) (subst (λ (d : Desk). IsNext d.script d.history (plan_of c.args.planned.now)) (sym c.self.view_is) c.requires.next) c.answer-reply.new.self c.answer-reply.ensures.history ∙ ap (λ (d : Desk). d.history ++ answered d.script d.history c.args.planned.now.call ∷ []) c.self.view_is;
  reply = c.answer-reply.ensures.reply ∙ ap (λ (d : Desk). reply (state_after d.script d.history) (length (accepted d.history) + 1) c.args.planned.now.call.command) c.self.view_is;
  publishes =
      publishing-kept (record { script = c.self.inside.history.script; history = c.self.inside.history.history; phase = c.self.inside.phase; publishing = c.self.inside.publisher.0 }) c.self.invariant.1 c.self.invariant.0 (plan_of c.args.planned.now) (subst (λ (d : Desk). IsNext d.script d.history (plan_of c.args.planned.now)) (sym c.self.view_is) c.requires.next) c.answer-reply.new.self c.answer-reply.ensures.history (λ number e. c.in_default.not-Accepted number (c.answer-reply.ensures.reply ∙ e))
      ∙ ap (λ (d : Desk). record d.publishing { all = accepted c.answer-reply.new.self.history; held = c.self.inside.publisher.0.held }) c.self.view_is;
  same =
      ap (λ s. record { script = s; history = c.answer-reply.new.self.history; phase = c.self.inside.phase; publishing = c.self.inside.publisher.0 }) (script-same (record { script = c.self.inside.history.script; history = c.self.inside.history.history; phase = c.self.inside.phase; publishing = c.self.inside.publisher.0 }) c.self.invariant.1 c.self.invariant.0 (plan_of c.args.planned.now) (subst (λ (d : Desk). IsNext d.script d.history (plan_of c.args.planned.now)) (sym c.self.view_is) c.requires.next) c.answer-reply.new.self c.answer-reply.ensures.history)
      ∙ ap (λ (d : Desk). record d { history = c.answer-reply.new.self.history; publishing = c.self.inside.publisher.0 }) c.self.view_is;
}
