use Rattle.std.proofs.Common.{◌≡◌, ◌++◌, ◌∷◌, [], ap, arith, refl, subst, sym, ◌∙◌}
use Rattle.session_model.specs.Serial.{answered}
use Rattle.lane_calls.specs.Plans.{plan_of}
use Rattle.control_desk.specs.Desks.{Desk}
use Rattle.control_desk.specs.Past.{IsNext}
use Rattle.control_desk.proofs.DeskLemmas.{IsNext-step, is_lane, is_planned}
use Rattle.control_desk.proofs.StepLemmas.{HasSeen-looked}
use Rattle.control_desk.proofs.desk.Desk.step.Goals as goal

pub returns-then-seen-planned : goal.returns-then-seen-planned
returns-then-seen-planned c = record {
  plan = plan_of c.in-Some.planned;
  next = sym c.in-Some.ensures.next;
  asked_is = refl;
  behind = c.if-seen-planned.true;
  looks = c.look-seen.ensures.looks;
  same = c.look-seen.ensures.same;
}

pub make-requires-clause-next : goal.make-requires-clause-next
make-requires-clause-next c =
    subst (λ (d : Desk). IsNext d.script d.history (plan_of c.in-Some.planned)) (sym c.look-seen.ensures.same)
    (IsNext-step c.args.self.now c.next.ensures.script c.next.ensures.desk c.args.lane c.requires (plan_of c.in-Some.planned) (sym c.in-Some.ensures.next))

pub make-requires-clause-seen : goal.make-requires-clause-seen
make-requires-clause-seen c =
    HasSeen-looked c.args.self.now c.look-seen.new.self c.args.lane c.look-seen.result (plan_of c.in-Some.planned) c.next.ensures.script c.next.ensures.desk
    (is_planned c.args.self.now c.next.ensures.script c.next.ensures.desk c.args.lane c.requires (plan_of c.in-Some.planned) (sym c.in-Some.ensures.next))
    (is_lane c.args.self.now c.next.ensures.script c.next.ensures.desk c.args.lane c.requires (plan_of c.in-Some.planned) (sym c.in-Some.ensures.next))
    c.look-seen.ensures.looks c.look-seen.ensures.same (omega (arith, c.if-seen-planned.false))

pub returns : goal.returns
returns c = record {
  plan = plan_of c.in-Some.planned;
  next = sym c.in-Some.ensures.next;
  history = c.make.ensures.history ∙ ap (λ (d : Desk). d.history ++ answered d.script d.history c.in-Some.planned.call ∷ []) c.look-seen.ensures.same;
  reply_is = c.make.ensures.reply ∙ ap (λ (d : Desk). (answered d.script d.history c.in-Some.planned.call).reply) c.look-seen.ensures.same;
  seen = c.look-seen.result;
  asked = omega (arith, c.if-seen-planned.false);
  looked = c.look-seen.new.self.publishing;
  looks = c.look-seen.ensures.looks;
  publishes = c.make.ensures.publishes;
  same = c.make.ensures.same ∙ ap (λ (d : Desk). record d { history = c.make.new.self.history; publishing = c.make.new.self.publishing }) c.look-seen.ensures.same;
}
