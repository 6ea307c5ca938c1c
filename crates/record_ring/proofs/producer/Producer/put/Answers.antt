use Rattle.std.proofs.Common.{rules, arith, ap, ap₂, sym, ◌∙◌, ◌≡◌, ◌≤◌, ◌+◌, ◌*◌, ◌%◌, ℕ, length, subst}
use Rattle.record_ring.specs.declared.view.SeatView.{SeatView}
use Rattle.record_ring.specs.declared.block.Block.{Block}
use Rattle.driver_words.specs.Rings.{Sending, items_of}
use Rattle.record_ring.proofs.Puts.{looks, sends}
use Rattle.record_ring.proofs.producer.Producer.put.Goals as goal

pub load-taken-requires : goal.load-taken-requires
load-taken-requires c = let i = c.self.invariant in (search rules, search rules, looks _ _ _ c.self.inside.seat.me i.produces i.alone i.holds)

pub store-requires : goal.store-requires
store-requires c =
    let p = c.self.inside in let i = c.self.invariant in let v : SeatView = c.load-taken.new.seat.me.0 in let n : ℕ = c.deref.result.now.shared.table_id.slots in let y : Block = c.swap.new.y in
    let slots : n ≡ p.capacity = search rules in let all = i.sent in let is = c.self.view_is in
    let did = c.load-taken.ensures.2.4 (omega arith) in let same : length v.producer.put ≡ p.sent = ap (λ (u : SeatView). length u.producer.put) did.0 ∙ sym all in
    let few : items_of p.seat.me.0.producer.put + length y.samples.items ≤ p.seat.me.0.size.most = subst (λ (q : Sending × Block). items_of q.0.put + length q.1.samples.items ≤ q.0.most) (λ j. (sym is j, sym c.swap.ensures.y_after j)) c.requires.most in (
      search rules,
      search rules,
      sends _ n _ v _ _ y _ (ap (λ (u : SeatView). u.is_producer) did.0 ∙ i.produces) (ap (λ (u : SeatView). u.is_consumer) did.0 ∙ i.alone) (ap (λ (u : SeatView). u.producer.holds) did.0)
          (ap (λ (u : SeatView). u.producer.ended) did.0 ∙ (ap (λ (q : Sending). q.ended) is ∙ c.requires.going)) (ap₂ (λ (a b : ℕ). a % b) (sym same) (sym slots))
          (ap (λ (b : Block). b.samples.room) c.swap.ensures.y_after ∙ (c.requires.room ∙ (ap (λ (q : Sending). q.samples) (sym is) ∙ ap (λ (u : SeatView). u.size.samples) (sym did.0))))
          (subst (λ (u : SeatView). items_of u.producer.put + length y.samples.items ≤ u.size.most) (sym did.0) few) (ap (λ (q : ℕ). 2 * (q + 1)) (sym same)),
    )
