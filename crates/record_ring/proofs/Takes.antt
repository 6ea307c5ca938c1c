-- The steps of the consumer keep the ring's rule.
use Rattle.std.proofs.Common.{◌≡◌, ℕ, suc, ◌+◌, ◌*◌, ◌/◌, ◌%◌, ◌<◌, ◌≤◌, Bool, true, false, List, [], ◌∷◌, ◌++◌, length, get_or, take, set, sym, refl, ap, ◌∙◌, subst, le_trans, le_refl, arith, length-set, mod-lt, take-suc}
use Rattle.std.proofs.lemmas.List.{length-take-le}
use Rattle.std.proofs.lemmas.List.Sums.{sum_by-take-le}
use Rattle.std.proofs.lemmas.List.Elements.{All-append, All-cons, All-nil}
use Rattle.std.specs.List.{All}
use mathlib.Core.Logic.{dite}
use mathlib.Core.Option.{none, some}
use native.Mathlib.Decide.{dec_lt, ℕ_discrete}
use native.Mathlib.Nat.{add-mod_right}
use lib.Seq.{set-get_or}
use lib.ListN.{get_elem?}
use Rattle.atomic_table.specs.Table.{step, stepped, keeps, takes, gives, Allows}
use Rattle.atomic_table.proofs.Lists.{set_here}
use Rattle.table_lemmas.proofs.Readings.{get_at}
use Rattle.table_lemmas.proofs.Slots.{apart, stays_at}
use Rattle.driver_words.specs.session_model.specs.Rings.{RingBlock}
use Rattle.record_ring.specs.declared.block.Block.{Block}
use Rattle.record_ring.specs.declared.view.Size.{Size}
use Rattle.record_ring.specs.declared.view.ConsumerView.{ConsumerView}
use Rattle.record_ring.specs.declared.view.SeatView.{SeatView}
use Rattle.record_ring.specs.Rings.{content}
use Rattle.driver_words.specs.Rings.{items_of}
use Rattle.record_ring.specs.Rule.{weight, HasRoomFor, IsNext, RingRule}
use Rattle.record_ring.specs.Steps.{Sat, with_consumer, find_after, Found, Peeked, take_after, Took}
use Rattle.record_ring.proofs.Moves.{Goes, shows, reset, consumer_moves, producer_stays}

pub small : (b : Bool) → weight b ≤ 1
small true = omega arith
small false = omega arith

marked : (b : Bool) → weight b ≡ 1 → b ≡ true
marked true e = refl
marked false e = absurd (omega arith)

pub finds : (z : Size) (n id : ℕ) (me : Sat) → me.0.is_consumer ≡ true → me.0.is_producer ≡ false → me.0.consumer.next ≡ [] → Allows (RingRule z) n id me 0 (λ x. x) (Found (step n 0 0 0 none) me)
finds z n id me consumes alone free s r wide at _ =
    let k : ℕ = get_or s.words 0 0 in let m : ℕ = length s.homes in let t : ℕ = r.taken in let len : ℕ = length r.put in let e : ConsumerView = me.0.consumer in
    let mine = (r.each_consumer id me.0 at consumes).1 in let mark : ℕ = weight r.ended in let low_mark : mark ≤ 1 = small r.ended in
    let is : k ≡ 2 * len + mark = ap (λ (ws : List ℕ). get_or ws 0 0) r.words_are in let half : k / 2 ≡ len = omega arith in let odd : k % 2 ≡ mark = omega arith in
    let none_out : r.drawn ≡ 0 = subst (λ (l : List RingBlock). IsNext r.put t r.drawn l) free mine.next_put in let behind : t + r.drawn ≤ len = r.behind in let within : len + r.lent ≤ t + m = r.within in
    let all : length e.got ≡ t = ap length mine.first_put ∙ length-take-le t r.put (omega arith) in let low : e.least ≤ k / 2 = le_trans mine.least_low (omega arith) in
    let risen : All (λ q. q ≤ k / 2) (e.finds ++ k / 2 ∷ []) = All-append (λ q. q ≤ k / 2) e.finds (k / 2 ∷ []) (λ i d l. le_trans (mine.finds_low i d l) low) (All-cons (λ q. q ≤ k / 2) (k / 2) [] (le_refl (k / 2)) (All-nil (λ q. q ≤ k / 2))) in
    let told : e.told ≡ true → k % 2 ≡ 1 = λ yes. odd ∙ ap weight (mine.told_end yes) in
    let done_is : e.done ≡ true → (k / 2 ≡ length e.got) × (k % 2 ≡ 1) = λ yes. let d = mine.all_done yes in (half ∙ (d.1 ∙ sym all), odd ∙ ap weight d.0) in
    let stays : (done : Bool) → (done ≡ true → (r.ended ≡ true) × (len ≡ t)) → RingRule z (stepped s 0 k id me.1 (with_consumer me.0 (find_after e (k / 2) [] done)) keeps) = λ done all_done. let e' : ConsumerView = find_after e (k / 2) [] done in record {
      put = r.put;
      taken = t;
      ended = r.ended;
      producer = r.producer;
      consumer = r.consumer;
      lent = r.lent;
      drawn = 0;
      words_are = set-get_or s.words 0 0 ∙ r.words_are;
      valid = r.valid;
      behind = omega arith;
      within = r.within;
      waiting = λ q a b. r.waiting q (omega arith) b;
      spare = r.spare;
      each_producer = producer_stays z s r id me.0 at alone t e' (le_refl t);
      each_consumer = consumer_moves z s r id me.0 at consumes r.ended t 0 e' record { same_size = mine.same_size; first_put = mine.first_put; next_put = refl; least_low = omega arith; finds_low = risen; told_end = mine.told_end; all_done = all_done };
    } in
    subst (λ (q : ℕ). Goes z s 0 id me (Found (step q 0 0 0 none) me) k) wide (dite (dec_lt t len)
    (λ more. let x = r.waiting t (omega arith) more in let i : ℕ = t % m in let e' : ConsumerView = find_after e (k / 2) (content x.0 ∷ []) e.done in (
      with_consumer me.0 e',
      takes i x.0,
      x.2,
      record {
        put = r.put;
        taken = t;
        ended = r.ended;
        producer = r.producer;
        consumer = r.consumer;
        lent = r.lent;
        drawn = 1;
        words_are = set-get_or s.words 0 0 ∙ r.words_are;
        valid = reset z r.put t r.ended s.homes i none r.valid;
        behind = omega arith;
        within = omega (arith, length-set s.homes i none);
        waiting = λ q a b. let w = r.waiting q (omega arith) b in (w.0, w.1, stays_at s.homes i q none w.0 (apart t q m (omega arith) (omega arith)) w.2, w.3);
        spare = λ q a b. let near : q < t + m = omega (arith, length-set s.homes i none) in let u = r.spare q a near in (u.0, u.1, stays_at s.homes i q none u.0 (apart t q m (omega arith) (omega arith)) u.2);
        each_producer = producer_stays z s r id me.0 at alone t e' (le_refl t);
        each_consumer = consumer_moves z s r id me.0 at consumes r.ended t 1 e'
            record { same_size = mine.same_size; first_put = mine.first_put; next_put = (refl, x.1); least_low = omega arith; finds_low = risen; told_end = mine.told_end; all_done = mine.all_done };
      },
      (
        low,
        omega arith,
        told,
        done_is,
        (λ same _. absurd (omega arith)),
        (λ same _. absurd (omega arith)),
        λ _. (x.0, x.3 ∙ ap (λ (q : Size). q.samples) (sym mine.same_size), ap (λ (q : ℕ). (with_consumer me.0 e', (q % m, x.0) ∷ me.1)) (sym all)),
      ),
    ))
    (λ none_left. dite (ℕ_discrete (k % 2) 1)
    (λ end. (
      with_consumer me.0 (find_after e (k / 2) [] true),
      keeps,
      tt,
      stays true (λ _. (marked r.ended (sym odd ∙ end), omega arith)),
      (low, omega arith, told, done_is, (λ same no. absurd (omega arith)), (λ same yes. refl), λ more. absurd (omega arith)),
    ))
    (λ open'. (
      with_consumer me.0 (find_after e (k / 2) [] e.done),
      keeps,
      tt,
      stays e.done mine.all_done,
      (low, omega arith, told, done_is, (λ same no. refl), (λ same yes. absurd (open' yes)), λ more. absurd (omega arith)),
    ))))

pub peeks : (z : Size) (n id : ℕ) (me : Sat) → me.0.is_consumer ≡ true → me.0.is_producer ≡ false → Allows (RingRule z) n id me 0 (λ x. x) (Peeked (step n 0 0 0 none) me)
peeks z n id me consumes alone s r wide at _ =
    let k : ℕ = get_or s.words 0 0 in let len : ℕ = length r.put in let e : ConsumerView = me.0.consumer in
    let mine = (r.each_consumer id me.0 at consumes).1 in let mark : ℕ = weight r.ended in let low_mark : mark ≤ 1 = small r.ended in
    let is : k ≡ 2 * len + mark = ap (λ (ws : List ℕ). get_or ws 0 0) r.words_are in let half : k / 2 ≡ len = omega arith in let odd : k % 2 ≡ mark = omega arith in
    let low : e.least ≤ k / 2 = subst (λ (q : ℕ). e.least ≤ q) (sym half) mine.least_low in (
      me.0,
      keeps,
      tt,
      record {
        put = r.put;
        taken = r.taken;
        ended = r.ended;
        producer = r.producer;
        consumer = r.consumer;
        lent = r.lent;
        drawn = r.drawn;
        words_are = set-get_or s.words 0 0 ∙ r.words_are;
        valid = r.valid;
        behind = r.behind;
        within = r.within;
        waiting = r.waiting;
        spare = r.spare;
        each_producer = producer_stays z s r id me.0 at alone r.taken e (le_refl r.taken);
        each_consumer = consumer_moves z s r id me.0 at consumes r.ended r.taken r.drawn e mine;
      },
      (low, (λ told. odd ∙ ap weight (mine.told_end told)), (λ done. odd ∙ ap weight (mine.all_done done).0), refl),
    )

pub draws : (z : Size) (n id : ℕ) (v : SeatView) (k new : ℕ) (x : RingBlock) (y : Block) (tail : List (ℕ × Block)) → v.is_consumer ≡ true → v.is_producer ≡ false → v.consumer.next ≡ x ∷ []
    → k ≡ length v.consumer.got % n → HasRoomFor v.size.samples y → new ≡ length v.consumer.got + 1
    → Allows (RingRule z) n id (v, (k, y) ∷ tail) 1 (λ _. new) (λ _. Took (step n 1 new 0 none) (v, (k, y) ∷ tail) new)
draws z n id v k new x y tail consumes alone holds slot roomy now s r wide at _ =
    let m : ℕ = length s.homes in let t : ℕ = r.taken in let len : ℕ = length r.put in let e : ConsumerView = v.consumer in
    let mine = (r.each_consumer id v at consumes).1 in let next : (r.drawn ≡ 1) × (get_elem? r.put t ≡ some x) = subst (λ (l : List RingBlock). IsNext r.put t r.drawn l) holds mine.next_put in let out : r.drawn ≡ 1 = next.0 in
    let behind : t + r.drawn ≤ len = r.behind in let within : len + r.lent ≤ t + m = r.within in let all : length e.got ≡ t = ap length mine.first_put ∙ length-take-le t r.put (omega arith) in
    let i : k ≡ t % m = slot ∙ (ap (λ (q : ℕ). q % n) all ∙ ap (λ (q : ℕ). t % q) (sym wide)) in let is : new ≡ t + 1 = omega arith in let after : suc t ≡ t + 1 = omega arith in
    let e' : ConsumerView = take_after e in let same : length (set s.homes k (some y)) ≡ m = length-set s.homes k (some y) in let inside : k < m = subst (λ (q : ℕ). q < m) (sym i) (mod-lt t (omega arith)) in
    let first : e.got ++ e.next ≡ take (t + 1) r.put = (λ j. mine.first_put j ++ holds j) ∙ (ap (λ (b : RingBlock). take t r.put ++ b ∷ []) (sym (get_at r.put t x x next.1)) ∙ (sym (take-suc r.put t x (omega arith)) ∙ ap (λ (q : ℕ). take q r.put) after)) in
    let part : items_of (take (t + 1) r.put) ≤ items_of r.put = sum_by-take-le (λ (b : RingBlock). length b.samples) r.put (t + 1) in (
      with_consumer v e',
      gives,
      tt,
      record {
        put = r.put;
        taken = t + 1;
        ended = r.ended;
        producer = r.producer;
        consumer = r.consumer;
        lent = r.lent;
        drawn = 0;
        words_are = ap (λ (ws : List ℕ). set ws 1 new) r.words_are ∙ ap (λ (q : ℕ). (2 * len + weight r.ended) ∷ q ∷ []) is;
        valid = shows z r.put (t + 1) r.ended (length (set s.homes k (some y))) (omega arith) (omega arith) r.valid.bounded;
        behind = omega arith;
        within = omega arith;
        waiting = λ q a b. let w = r.waiting q (omega arith) b in (w.0, w.1, stays_at s.homes k q (some y) w.0 (λ o. apart t q m (omega arith) (omega arith) (o ∙ i)) w.2, w.3);
        spare = λ q a b. dite (dec_lt q (t + m))
            (λ old. let u = r.spare q (omega arith) old in (u.0, u.1, stays_at s.homes k q (some y) u.0 (λ o. apart t q m (omega arith) (omega arith) (o ∙ i)) u.2))
            (λ not. let last : q ≡ t + m = omega arith in (
              y,
              roomy ∙ ap (λ (u : Size). u.samples) mine.same_size,
              ap (λ (j : ℕ). get_elem? (set s.homes k (some y)) j) (ap (λ (j : ℕ). q % j) same ∙ (ap (λ (j : ℕ). j % m) last ∙ (add-mod_right t m ∙ sym i))) ∙ set_here s.homes k (some y) inside,
            ));
        each_producer = producer_stays z s r id v at alone (t + 1) e' (omega arith);
        each_consumer = consumer_moves z s r id v at consumes r.ended (t + 1) 0 e' record {
          same_size = mine.same_size;
          first_put = first;
          next_put = refl;
          least_low = mine.least_low;
          finds_low = mine.finds_low;
          told_end = mine.told_end;
          all_done = λ done. let whole : len ≡ t = (mine.all_done done).1 in absurd (omega arith);
        };
      },
      (refl, subst (λ (q : List RingBlock × Size). items_of q.0 ≤ q.1.most) (λ j. (sym first j, sym mine.same_size j)) (le_trans part r.valid.bounded)),
    )

pub not_true : (b : Bool) → (b ≡ true → ⊥) → b ≡ false
not_true true never = absurd (never refl)
not_true false never = refl
