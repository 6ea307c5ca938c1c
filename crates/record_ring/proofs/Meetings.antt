-- The steps by which the two ends meet keep the ring's rule.
use Rattle.std.proofs.Common.{◌≡◌, ◌≢◌, ℕ, ◌+◌, ◌*◌, ◌≤◌, Bool, true, false, List, [], ◌∷◌, length, get_or, take, set, sym, refl, ap, ◌∙◌, subst, ⊎_elim, arith}
use Rattle.std.proofs.lemmas.List.{length-take-le}
use mathlib.Core.Option.{none, some}
use lib.Seq.{take-length}
use lib.ListN.{get_elem?}
use Rattle.atomic_table.specs.Table.{step, keeps, stepped, Allows, Splits, Joins}
use Rattle.atomic_table.proofs.Lists.{set_else}
use Rattle.table_lemmas.proofs.Views.{each_set, at_snoc_last}
use Rattle.record_ring.specs.declared.block.Block.{Block}
use Rattle.record_ring.specs.declared.view.Size.{Size}
use Rattle.record_ring.specs.declared.view.SeatView.{SeatView}
use Rattle.record_ring.specs.Rule.{weight, KnowsPut, KnowsGot, RingRule}
use Rattle.record_ring.specs.Steps.{Sat, without_consumer, without_producer, joined, nobody, Meets, renew_after, Renewed, tell_after, Told}
use Rattle.record_ring.proofs.Moves.{St}

pub parts : (z : Size) (id : ℕ) (v : SeatView) → v.is_consumer ≡ true → Splits (RingRule z) id v (without_consumer v) (without_producer v)
parts z id v consumes s r at =
    let mine = r.each_consumer id v at consumes in let vs : List SeatView = set s.views id (without_consumer v) in let last : ℕ = length vs in
    record {
      put = r.put;
      taken = r.taken;
      ended = r.ended;
      producer = r.producer;
      consumer = last;
      lent = r.lent;
      drawn = r.drawn;
      words_are = r.words_are;
      valid = r.valid;
      behind = r.behind;
      within = r.within;
      waiting = r.waiting;
      spare = r.spare;
      each_producer = λ j u e produces. ⊎_elim
          (λ (h : get_elem? vs j ≡ some u). each_set (λ i w. w.is_producer ≡ true → (i ≡ r.producer) × KnowsPut z r.put r.ended r.taken r.lent w.size w.producer) s.views id (without_consumer v)
          (r.each_producer id v at) (λ i w other e'. r.each_producer i w e') j u h produces)
          (λ (h : (j ≡ last) × (without_producer v ≡ u)). let no : false ≡ u.is_producer = ap (λ (w : SeatView). w.is_producer) h.1 in absurd (cc))
          (at_snoc_last vs (without_producer v) u j e);
      each_consumer = λ j u e gets. ⊎_elim
          (λ (h : get_elem? vs j ≡ some u). absurd (each_set (λ i w. w.is_consumer ≡ true → ⊥) s.views id (without_consumer v) (λ (is : false ≡ true). cc)
          (λ i w other e' gets'. other ((r.each_consumer i w e' gets').0 ∙ sym mine.0)) j u h gets))
          (λ (h : (j ≡ last) × (without_producer v ≡ u)). (h.0, subst (λ (w : SeatView). KnowsGot z r.put r.ended r.taken r.drawn w.size w.consumer) h.1 mine.1))
          (at_snoc_last vs (without_producer v) u j e);
    }

pub joins : (z : Size) (id : ℕ) (v : SeatView) (other : ℕ) (w : SeatView) → v.is_producer ≡ true → w.is_consumer ≡ true → Joins (RingRule z) id v other w (joined v w) nobody
joins z id v other w produces consumes s r at two at' =
    let first : List SeatView = set s.views id (joined v w) in let mine = r.each_producer id v at produces in let was : get_elem? s.views other ≡ some w = sym (set_else s.views id other (joined v w) two) ∙ at' in
    let theirs = r.each_consumer other w was consumes in let same : v.size ≡ w.size = mine.1.same_size ∙ sym theirs.1.same_size in
    record {
      put = r.put;
      taken = r.taken;
      ended = r.ended;
      producer = id;
      consumer = id;
      lent = r.lent;
      drawn = r.drawn;
      words_are = r.words_are;
      valid = r.valid;
      behind = r.behind;
      within = r.within;
      waiting = r.waiting;
      spare = r.spare;
      each_producer = each_set (λ i u. u.is_producer ≡ true → (i ≡ id) × KnowsPut z r.put r.ended r.taken r.lent u.size u.producer) first other nobody (λ (is : false ≡ true). absurd (cc))
          (λ j u apart' e. each_set (λ i u'. u'.is_producer ≡ true → (i ≡ id) × KnowsPut z r.put r.ended r.taken r.lent u'.size u'.producer) s.views id (joined v w) (λ _. (refl, mine.1))
          (λ i u' far e' produces'. absurd (far ((r.each_producer i u' e' produces').0 ∙ sym mine.0))) j u e);
      each_consumer = each_set (λ i u. u.is_consumer ≡ true → (i ≡ id) × KnowsGot z r.put r.ended r.taken r.drawn u.size u.consumer) first other nobody (λ (is : false ≡ true). absurd (cc))
          (λ j u apart' e. each_set (λ i u'. i ≢ other → u'.is_consumer ≡ true → (i ≡ id) × KnowsGot z r.put r.ended r.taken r.drawn u'.size u'.consumer) s.views id (joined v w)
          (λ _ _. (refl, subst (λ (q : Size). KnowsGot z r.put r.ended r.taken r.drawn q w.consumer) (sym same) theirs.1))
          (λ i u' far e' not consumes'. absurd (not ((r.each_consumer i u' e' consumes').0 ∙ sym theirs.0))) j u e apart');
    }

-- what the rule says of a seat that is both ends
meets : (z : Size) (s : St) (r : RingRule z s) (id : ℕ) (v : SeatView) → get_elem? s.views id ≡ some v → v.is_producer ≡ true → v.is_consumer ≡ true → Meets (length s.homes) v.producer v.consumer
meets z s r id v at produces consumes =
    let p = (r.each_producer id v at produces).1 in let e = (r.each_consumer id v at consumes).1 in let t : ℕ = r.taken in let behind : t + r.drawn ≤ length r.put = r.behind in let within : length r.put + r.lent ≤ t + length s.homes = r.within in
    let got : length v.consumer.got ≡ t = ap length e.first_put ∙ length-take-le t r.put (omega arith) in let all : length v.producer.put ≡ length r.put = ap length p.all_put in
    let low : v.producer.least ≤ t = p.least_low in let short : v.consumer.least ≤ length r.put = e.least_low in
    record {
      front = λ i. (e.first_put ∙ λ j. take (sym got j) (sym p.all_put j)) i;
      behind = omega arith;
      within = omega arith;
      looks = λ i d l. let under = p.looks_low i d l in omega arith;
      looks_least = omega arith;
      finds = λ i d l. let under = e.finds_low i d l in omega arith;
      finds_least = omega arith;
      whole = λ done. let d = e.all_done done in (e.first_put ∙ (ap (λ (q : ℕ). take q r.put) (sym d.1) ∙ (take-length r.put ∙ sym p.all_put)), p.mark ∙ d.0);
    }

-- a step of a seat that is both ends, which may change the end mark
both_move : (z : Size) (s : St) (r : RingRule z s) (id new : ℕ) (l : List (ℕ × Block)) (v : SeatView) (ended' : Bool) (w : SeatView) → get_elem? s.views id ≡ some v → v.is_producer ≡ true → v.is_consumer ≡ true
    → new ≡ 2 * length r.put + weight ended' → KnowsPut z r.put ended' r.taken r.lent w.size w.producer → KnowsGot z r.put ended' r.taken r.drawn w.size w.consumer → RingRule z (stepped s 0 new id l w keeps)
both_move z s r id new l v ended' w at produces consumes now p e =
    let mine = r.each_producer id v at produces in let theirs = r.each_consumer id v at consumes in
    record {
      put = r.put;
      taken = r.taken;
      ended = ended';
      producer = r.producer;
      consumer = r.consumer;
      lent = r.lent;
      drawn = r.drawn;
      words_are = ap (λ (ws : List ℕ). set ws 0 new) r.words_are ∙ ap (λ (q : ℕ). q ∷ r.taken ∷ []) now;
      valid = record { prefix = r.valid.prefix; behind = r.valid.behind; within = r.valid.within; bounded = r.valid.bounded };
      behind = r.behind;
      within = r.within;
      waiting = r.waiting;
      spare = r.spare;
      each_producer = each_set (λ i u. u.is_producer ≡ true → (i ≡ r.producer) × KnowsPut z r.put ended' r.taken r.lent u.size u.producer) s.views id w (λ _. (mine.0, p))
          (λ j u other e' produces'. absurd (other ((r.each_producer j u e' produces').0 ∙ sym mine.0)));
      each_consumer = each_set (λ i u. u.is_consumer ≡ true → (i ≡ r.consumer) × KnowsGot z r.put ended' r.taken r.drawn u.size u.consumer) s.views id w (λ _. (theirs.0, e))
          (λ j u other e' consumes'. absurd (other ((r.each_consumer j u e' consumes').0 ∙ sym theirs.0)));
    }

pub renews : (z : Size) (n id : ℕ) (me : Sat) (new : ℕ) → me.0.is_producer ≡ true → me.0.is_consumer ≡ true → new ≡ 2 * length me.0.producer.put
    → Allows (RingRule z) n id me 0 (λ _. new) (λ _. Renewed (step n 0 new 0 none) me new)
renews z n id me new produces consumes now s r wide at _ =
    let p = (r.each_producer id me.0 at produces).1 in let e = (r.each_consumer id me.0 at consumes).1 in let know = meets z s r id me.0 at produces consumes in
    let all : length me.0.producer.put ≡ length r.put = ap length p.all_put in let behind : r.taken + r.drawn ≤ length r.put = r.behind in
    let got : length me.0.consumer.got ≡ r.taken = ap length e.first_put ∙ length-take-le r.taken r.put (omega arith) in (
      renew_after me.0,
      keeps,
      tt,
      both_move z s r id new me.1 me.0 false (renew_after me.0) at produces consumes (omega arith)
          record { same_size = p.same_size; all_put = p.all_put; mark = refl; slot_out = p.slot_out; least_low = omega arith; looks_low = know.looks }
          record { same_size = e.same_size; first_put = e.first_put; next_put = e.next_put; least_low = omega arith; finds_low = know.finds; told_end = λ (is : false ≡ true). absurd (cc); all_done = λ (is : false ≡ true). absurd (cc) },
      (subst (λ (q : ℕ). Meets q me.0.producer me.0.consumer) wide know, refl),
    )

pub tells : (z : Size) (n id : ℕ) (me : Sat) → me.0.is_producer ≡ true → me.0.is_consumer ≡ true → Allows (RingRule z) n id me 0 (λ x. x) (Told (step n 0 0 0 none) me)
tells z n id me produces consumes s r wide at _ =
    let p = (r.each_producer id me.0 at produces).1 in let e = (r.each_consumer id me.0 at consumes).1 in let know = meets z s r id me.0 at produces consumes in
    let all : length me.0.producer.put ≡ length r.put = ap length p.all_put in let behind : r.taken + r.drawn ≤ length r.put = r.behind in
    let got : length me.0.consumer.got ≡ r.taken = ap length e.first_put ∙ length-take-le r.taken r.put (omega arith) in (
      tell_after me.0,
      keeps,
      tt,
      both_move z s r id (get_or s.words 0 0) me.1 me.0 r.ended (tell_after me.0) at produces consumes (ap (λ (ws : List ℕ). get_or ws 0 0) r.words_are)
          record { same_size = p.same_size; all_put = p.all_put; mark = p.mark; slot_out = p.slot_out; least_low = omega arith; looks_low = know.looks }
          record { same_size = e.same_size; first_put = e.first_put; next_put = e.next_put; least_low = omega arith; finds_low = know.finds; told_end = λ is. sym p.mark ∙ is; all_done = e.all_done },
      (subst (λ (q : ℕ). Meets q me.0.producer me.0.consumer) wide know, refl),
    )
