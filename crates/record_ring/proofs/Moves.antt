-- What stays of the ring's rule where one seat moves.
use Rattle.std.proofs.Common.{◌≡◌, ℕ, ◌+◌, ◌≤◌, Bool, true, false, List, length, get_or, take, set, sym, ap, ◌∙◌, subst, le_trans, arith, length-set}
use Rattle.std.proofs.lemmas.List.{length-take-le}
use mathlib.Core.Option.{Option, some}
use lib.ListN.{get_elem?}
use Rattle.atomic_table.specs.Table.{State, Act, Valid, carried_after, stepped}
use Rattle.table_lemmas.proofs.Views.{each_set}
use Rattle.driver_words.specs.session_model.specs.Rings.{RingBlock, IsRing}
use Rattle.record_ring.specs.declared.block.Block.{Block}
use Rattle.record_ring.specs.declared.view.Size.{Size}
use Rattle.record_ring.specs.declared.view.ProducerView.{ProducerView}
use Rattle.record_ring.specs.declared.view.ConsumerView.{ConsumerView}
use Rattle.record_ring.specs.declared.view.SeatView.{SeatView}
use Rattle.driver_words.specs.Rings.{items_of}
use Rattle.record_ring.specs.Rule.{KnowsPut, KnowsGot, RingRule, shown}
use Rattle.record_ring.specs.Steps.{Sat, with_producer, with_consumer}

abbrev pub St : Type 0
St = State Block SeatView

-- what a step owes at a state
abbrev pub Goes : Size → St → ℕ → ℕ → Sat → (ℕ → Sat → Type 0) → ℕ → Type 0
Goes z s i id me then x = (w : SeatView) × (a : Act Block) × Valid s.homes me.1 a × RingRule z (stepped s i x id me.1 w a) × then (get_or s.words i 0) (w, carried_after me.1 a)

-- the machine is valid
pub shows : (z : Size) (put : List RingBlock) (taken : ℕ) (ended : Bool) (slots : ℕ) → taken ≤ length put → length put ≤ taken + slots → items_of put ≤ z.most → IsRing (shown z put taken ended slots)
shows z put taken ended slots behind within few = let same : length (take taken put) ≡ taken = length-take-le taken put behind in record {
  prefix = ap (λ (q : ℕ). take q put) (sym same);
  behind = omega arith;
  within = omega arith;
  bounded = few;
}

-- it has as many slots after one was set
pub reset : (z : Size) (put : List RingBlock) (taken : ℕ) (ended : Bool) (hs : List (Option Block)) (i : ℕ) (o : Option Block) → IsRing (shown z put taken ended (length hs)) → IsRing (shown z put taken ended (length (set hs i o)))
reset z put taken ended hs i o valid = subst (λ (q : ℕ). IsRing (shown z put taken ended q)) (sym (length-set hs i o)) valid

module _ (z : Size) (s : St) (r : RingRule z s) (id : ℕ) (v : SeatView) (at : get_elem? s.views id ≡ some v) where
  abbrev pub Producers : List RingBlock → Bool → ℕ → ℕ → List SeatView → Type 0
  Producers put ended taken lent vs = (j : ℕ) (u : SeatView) → get_elem? vs j ≡ some u → u.is_producer ≡ true → (j ≡ r.producer) × KnowsPut z put ended taken lent u.size u.producer

  abbrev pub Consumers : List RingBlock → Bool → ℕ → ℕ → List SeatView → Type 0
  Consumers put ended taken drawn vs = (j : ℕ) (u : SeatView) → get_elem? vs j ≡ some u → u.is_consumer ≡ true → (j ≡ r.consumer) × KnowsGot z put ended taken drawn u.size u.consumer

  pub producer_moves : v.is_producer ≡ true → (put : List RingBlock) (ended : Bool) (lent : ℕ) (p : ProducerView) → KnowsPut z put ended r.taken lent v.size p → Producers put ended r.taken lent (set s.views id (with_producer v p))
  producer_moves is put ended lent p mine = let here = (r.each_producer id v at is).0 in
      each_set (λ j u. u.is_producer ≡ true → (j ≡ r.producer) × KnowsPut z put ended r.taken lent u.size u.producer) s.views id (with_producer v p) (λ _. (here, mine))
      (λ j u other e produces. absurd (other ((r.each_producer j u e produces).0 ∙ sym here)))

  pub consumer_stays : v.is_consumer ≡ false → (put : List RingBlock) (ended : Bool) (p : ProducerView) → ((u : SeatView) → KnowsGot z r.put r.ended r.taken r.drawn u.size u.consumer → KnowsGot z put ended r.taken r.drawn u.size u.consumer)
      → Consumers put ended r.taken r.drawn (set s.views id (with_producer v p))
  consumer_stays not put ended p more =
      each_set (λ j u. u.is_consumer ≡ true → (j ≡ r.consumer) × KnowsGot z put ended r.taken r.drawn u.size u.consumer) s.views id (with_producer v p) (λ is. absurd (cc))
      (λ j u other e consumes. let old = r.each_consumer j u e consumes in (old.0, more u old.1))

  pub consumer_moves : v.is_consumer ≡ true → (ended : Bool) (taken drawn : ℕ) (e : ConsumerView) → KnowsGot z r.put ended taken drawn v.size e → Consumers r.put ended taken drawn (set s.views id (with_consumer v e))
  consumer_moves is ended taken drawn e mine = let here = (r.each_consumer id v at is).0 in
      each_set (λ j u. u.is_consumer ≡ true → (j ≡ r.consumer) × KnowsGot z r.put ended taken drawn u.size u.consumer) s.views id (with_consumer v e) (λ _. (here, mine))
      (λ j u other at' consumes. absurd (other ((r.each_consumer j u at' consumes).0 ∙ sym here)))

  pub producer_stays : v.is_producer ≡ false → (taken : ℕ) (e : ConsumerView) → r.taken ≤ taken → Producers r.put r.ended taken r.lent (set s.views id (with_consumer v e))
  producer_stays not taken e more =
      each_set (λ j u. u.is_producer ≡ true → (j ≡ r.producer) × KnowsPut z r.put r.ended taken r.lent u.size u.producer) s.views id (with_consumer v e) (λ is. absurd (cc))
      (λ j u other at' produces. let old = r.each_producer j u at' produces in let k = old.1 in
      (old.0, record { same_size = k.same_size; all_put = k.all_put; mark = k.mark; slot_out = k.slot_out; least_low = le_trans k.least_low more; looks_low = k.looks_low }))
