use Rattle.std.proofs.Common.{rules, arith, ap, ap₂, sym, ◌∙◌, ◌≡◌, ◌+◌, ◌/◌, ◌%◌, ℕ, false, length}
use Rattle.record_ring.specs.declared.view.SeatView.{SeatView}
use Rattle.record_ring.specs.declared.block.Block.{Block}
use Rattle.driver_words.specs.Rings.{Getting}
use Rattle.record_ring.specs.Steps.{Sat}
use Rattle.record_ring.proofs.Takes.{finds, draws, not_true}
use Rattle.record_ring.proofs.consumer.Consumer.get.Goals as goal

pub load-found-requires : goal.load-found-requires
load-found-requires c = let i = c.self.invariant in (search rules, search rules, finds _ _ _ c.self.inside.seat.me i.consumes i.alone i.next)

pub store-requires : goal.store-requires
store-requires c =
    let p = c.self.inside in let i = c.self.invariant in let v : SeatView = c.load-found.new.seat.me.0 in let n : ℕ = c.deref.result.now.shared.table_id.slots in
    let slots : n ≡ p.capacity = search rules in let all = i.taken in let low = c.load-found.ensures.2.1 in let ne = c.if-sent-self.false in let is = c.self.view_is in
    let did = c.load-found.ensures.2.6 (omega arith) in let same : length v.consumer.got ≡ p.taken = ap (λ (u : Sat). length u.0.consumer.got) did.2 ∙ sym all in (
      search rules,
      search rules,
      draws _ n _ v _ _ _ c.swap.new.y _ (ap (λ (u : Sat). u.0.is_consumer) did.2 ∙ i.consumes) (ap (λ (u : Sat). u.0.is_producer) did.2 ∙ i.alone) (ap (λ (u : Sat). u.0.consumer.next) did.2)
          (ap₂ (λ (a b : ℕ). a % b) (sym same) (sym slots))
          (ap (λ (b : Block). b.samples.room) c.swap.ensures.y_after ∙ (c.requires ∙ (ap (λ (q : Getting). q.samples) (sym is) ∙ ap (λ (u : Sat). u.0.size.samples) (sym did.2)))) (ap (λ (q : ℕ). q + 1) (sym same)),
    )

pub returns-clause-gets : goal.returns-clause-gets
returns-clause-gets c =
    let done = c.load-found.ensures.2.3 in let is = c.self.view_is in let all = c.self.invariant.taken in let ne = c.if-sent-self.false in
    let going : c.self.inside.seat.me.0.consumer.done ≡ false = not_true c.self.inside.seat.me.0.consumer.done (λ yes. let at = (done yes).0 in absurd (omega arith)) in
    (c.load-found.result / 2, (ap (λ (q : Getting). q.done) (sym is) ∙ going, search rules, search rules, search rules))
