-- The steps of the producer keep the ring's rule.
use Rattle.std.proofs.Common.{◌≡◌, ℕ, ◌+◌, ◌*◌, ◌%◌, ◌<◌, ◌≤◌, true, false, List, [], ◌∷◌, ◌++◌, length, get_or, set, sym, refl, ap, ◌∙◌, subst, le_trans, le_refl, arith, length-set, length-append, mod-lt}
use Rattle.std.proofs.lemmas.List.{take-append-le}
use Rattle.std.proofs.lemmas.List.Sums.{sum_by_push}
use Rattle.std.proofs.lemmas.List.Elements.{All-append, All-cons, All-nil}
use Rattle.std.specs.List.{All}
use mathlib.Core.Logic.{dite}
use mathlib.Core.Option.{none, some}
use native.Mathlib.Decide.{dec_lt}
use lib.Seq.{set-get_or}
use lib.ListN.{get_elem?}
use Rattle.atomic_table.specs.Table.{step, keeps, takes, gives, Allows}
use Rattle.atomic_table.proofs.Lists.{set_here, at_longer, at_last}
use Rattle.table_lemmas.proofs.Slots.{apart, stays_at}
use Rattle.driver_words.specs.session_model.specs.Rings.{RingBlock}
use Rattle.record_ring.specs.declared.block.Block.{Block}
use Rattle.record_ring.specs.declared.view.Size.{Size}
use Rattle.record_ring.specs.declared.view.ProducerView.{ProducerView}
use Rattle.record_ring.specs.declared.view.SeatView.{SeatView}
use Rattle.record_ring.specs.Rings.{content}
use Rattle.driver_words.specs.Rings.{items_of}
use Rattle.record_ring.specs.Rule.{weight, HasRoomFor, IsNext, RingRule}
use Rattle.record_ring.specs.Steps.{Sat, with_producer, look_after, Looked, Glanced, send_after, Sent, Marked}
use Rattle.record_ring.proofs.Moves.{Goes, shows, reset, producer_moves, consumer_stays}

pub looks : (z : Size) (n id : ℕ) (me : Sat) → me.0.is_producer ≡ true → me.0.is_consumer ≡ false → me.0.producer.holds ≡ false → Allows (RingRule z) n id me 1 (λ x. x) (Looked (step n 1 0 0 none) me)
looks z n id me produces alone free s r wide at _ =
    let k : ℕ = get_or s.words 1 0 in let m : ℕ = length s.homes in let t : ℕ = r.taken in let len : ℕ = length r.put in
    let mine = (r.each_producer id me.0 at produces).1 in let is : k ≡ t = ap (λ (ws : List ℕ). get_or ws 1 0) r.words_are in
    let none_out : r.lent ≡ 0 = sym mine.slot_out ∙ ap weight free in
    let all : length me.0.producer.put ≡ len = ap length mine.all_put in
    let low : me.0.producer.least ≤ k = le_trans mine.least_low (omega arith) in
    let risen : All (λ n. n ≤ k) (me.0.producer.looks ++ k ∷ []) = All-append (λ n. n ≤ k) me.0.producer.looks (k ∷ []) (λ i d l. le_trans (mine.looks_low i d l) low) (All-cons (λ n. n ≤ k) k [] (le_refl k) (All-nil (λ n. n ≤ k))) in
    let behind : t + r.drawn ≤ len = r.behind in let within : len + r.lent ≤ t + m = r.within in
    subst (λ (q : ℕ). Goes z s 1 id me (Looked (step q 1 0 0 none) me) k) wide (dite (dec_lt len (t + m))
    (λ room. let y = r.spare len (omega arith) (omega arith) in let i : ℕ = len % m in let p : ProducerView = look_after me.0.producer k true in (
      with_producer me.0 p,
      takes i y.0,
      y.2,
      record {
        put = r.put;
        taken = t;
        ended = r.ended;
        producer = r.producer;
        consumer = r.consumer;
        lent = 1;
        drawn = r.drawn;
        words_are = set-get_or s.words 1 0 ∙ r.words_are;
        valid = reset z r.put t r.ended s.homes i none r.valid;
        behind = r.behind;
        within = omega (arith, length-set s.homes i none);
        waiting = λ q a b. let w = r.waiting q a b in (w.0, w.1, stays_at s.homes i q none w.0 (λ e. apart q len m b (omega arith) (sym e)) w.2, w.3);
        spare = λ q a b. let near : q < t + m = omega (arith, length-set s.homes i none) in let u = r.spare q (omega arith) near in (u.0, u.1, stays_at s.homes i q none u.0 (apart len q m (omega arith) (omega arith)) u.2);
        each_producer = producer_moves z s r id me.0 at produces r.put r.ended 1 p record { same_size = mine.same_size; all_put = mine.all_put; mark = mine.mark; slot_out = refl; least_low = omega arith; looks_low = risen };
        each_consumer = consumer_stays z s r id me.0 at alone r.put r.ended p (λ u h. h);
      },
      (
        low,
        omega arith,
        omega arith,
        (λ full. absurd (omega arith)),
        λ _. (refl, (y.0, y.1 ∙ ap (λ (q : Size). q.samples) (sym mine.same_size), ap (λ (q : ℕ). (q % m, y.0) ∷ me.1) (sym all))),
      ),
    ))
    (λ full. let p : ProducerView = look_after me.0.producer k false in (
      with_producer me.0 p,
      keeps,
      tt,
      record {
        put = r.put;
        taken = t;
        ended = r.ended;
        producer = r.producer;
        consumer = r.consumer;
        lent = 0;
        drawn = r.drawn;
        words_are = set-get_or s.words 1 0 ∙ r.words_are;
        valid = r.valid;
        behind = r.behind;
        within = omega arith;
        waiting = r.waiting;
        spare = λ q a b. r.spare q (omega arith) b;
        each_producer = producer_moves z s r id me.0 at produces r.put r.ended 0 p record { same_size = mine.same_size; all_put = mine.all_put; mark = mine.mark; slot_out = refl; least_low = omega arith; looks_low = risen };
        each_consumer = consumer_stays z s r id me.0 at alone r.put r.ended p (λ u h. h);
      },
      (low, omega arith, omega arith, (λ _. refl), λ room. absurd (omega arith)),
    )))

pub glances : (z : Size) (n id : ℕ) (me : Sat) → me.0.is_producer ≡ true → me.0.is_consumer ≡ false → Allows (RingRule z) n id me 1 (λ x. x) (Glanced (step n 1 0 0 none) me)
glances z n id me produces alone s r wide at _ =
    let k : ℕ = get_or s.words 1 0 in let mine = (r.each_producer id me.0 at produces).1 in let is : k ≡ r.taken = ap (λ (ws : List ℕ). get_or ws 1 0) r.words_are in
    let low : me.0.producer.least ≤ k = le_trans mine.least_low (omega arith) in (
      me.0,
      keeps,
      tt,
      record {
        put = r.put;
        taken = r.taken;
        ended = r.ended;
        producer = r.producer;
        consumer = r.consumer;
        lent = r.lent;
        drawn = r.drawn;
        words_are = set-get_or s.words 1 0 ∙ r.words_are;
        valid = r.valid;
        behind = r.behind;
        within = r.within;
        waiting = r.waiting;
        spare = r.spare;
        each_producer = producer_moves z s r id me.0 at produces r.put r.ended r.lent me.0.producer mine;
        each_consumer = consumer_stays z s r id me.0 at alone r.put r.ended me.0.producer (λ u h. h);
      },
      (low, refl),
    )

-- a longer list of blocks put has the same first ones
longer_next : (put : List RingBlock) (x : RingBlock) (taken out : ℕ) (next : List RingBlock) → IsNext put taken out next → IsNext (put ++ x ∷ []) taken out next
longer_next put x taken out [] h = h
longer_next put x taken out (y ∷ ys) h = (h.0, at_longer put (x ∷ []) taken y h.1)

pub sends : (z : Size) (n id : ℕ) (v : SeatView) (k new : ℕ) (x : Block) (tail : List (ℕ × Block)) → v.is_producer ≡ true → v.is_consumer ≡ false → v.producer.holds ≡ true → v.producer.ended ≡ false
    → k ≡ length v.producer.put % n → HasRoomFor v.size.samples x → items_of v.producer.put + length x.samples.items ≤ v.size.most → new ≡ 2 * (length v.producer.put + 1)
    → Allows (RingRule z) n id (v, (k, x) ∷ tail) 0 (λ _. new) (λ _. Sent (step n 0 new 0 none) (v, (k, x) ∷ tail) new)
sends z n id v k new x tail produces alone holds open' slot roomy few now s r wide at _ =
    let m : ℕ = length s.homes in let t : ℕ = r.taken in let len : ℕ = length r.put in let b : RingBlock = content x in let put : List RingBlock = r.put ++ b ∷ [] in
    let mine = (r.each_producer id v at produces).1 in let out : r.lent ≡ 1 = sym mine.slot_out ∙ ap weight holds in let unended : r.ended ≡ false = sym mine.mark ∙ open' in
    let all : length v.producer.put ≡ len = ap length mine.all_put in let behind : t + r.drawn ≤ len = r.behind in let within : len + r.lent ≤ t + m = r.within in
    let i : k ≡ len % m = slot ∙ (ap (λ (q : ℕ). q % n) all ∙ ap (λ (q : ℕ). len % q) (sym wide)) in let more : length put ≡ len + 1 = length-append r.put (b ∷ []) in
    let p : ProducerView = send_after v.producer (b ∷ []) in let same : length (set s.homes k (some x)) ≡ m = length-set s.homes k (some x) in
    let inside : k < m = subst (λ (q : ℕ). q < m) (sym i) (mod-lt len (omega arith)) in
    let bound : items_of r.put + length x.samples.items ≤ z.most = subst (λ (q : List RingBlock × Size). items_of q.0 + length x.samples.items ≤ q.1.most) (λ j. (mine.all_put j, mine.same_size j)) few in
    let total : items_of put ≡ items_of r.put + length b.samples = sum_by_push (λ (c : RingBlock). length c.samples) r.put b in (
      with_producer v p,
      gives,
      tt,
      record {
        put = put;
        taken = t;
        ended = r.ended;
        producer = r.producer;
        consumer = r.consumer;
        lent = 0;
        drawn = r.drawn;
        words_are = ap (λ (ws : List ℕ). set ws 0 new) r.words_are ∙ ap (λ (q : ℕ). q ∷ t ∷ []) (let w : weight r.ended ≡ 0 = ap weight unended in let g : new ≡ 2 * length put + weight r.ended = omega arith in g);
        valid = shows z put t r.ended (length (set s.homes k (some x))) (omega arith) (omega arith) (subst (λ (q : ℕ). q ≤ z.most) (sym total) bound);
        behind = omega arith;
        within = omega arith;
        waiting = λ q a c. dite (dec_lt q len)
            (λ old. let w = r.waiting q a old in (w.0, at_longer r.put (b ∷ []) q (content w.0) w.1, stays_at s.homes k q (some x) w.0 (λ e. apart q len m old (omega arith) (sym (e ∙ i))) w.2, w.3))
            (λ not. let is : q ≡ len = omega arith in (
              x,
              at_last r.put b q (sym is),
              ap (λ (j : ℕ). get_elem? (set s.homes k (some x)) j) (ap (λ (j : ℕ). j % length (set s.homes k (some x))) is ∙ (ap (λ (j : ℕ). len % j) same ∙ sym i)) ∙ set_here s.homes k (some x) inside,
              roomy ∙ ap (λ (u : Size). u.samples) mine.same_size,
            ));
        spare = λ q a c. let near : q < t + m = omega arith in let u = r.spare q (omega arith) near in (u.0, u.1, stays_at s.homes k q (some x) u.0 (λ e. apart len q m (omega arith) (omega arith) (e ∙ i)) u.2);
        each_producer = producer_moves z s r id v at produces put r.ended 0 p
            record { same_size = mine.same_size; all_put = ap (λ (l : List RingBlock). l ++ b ∷ []) mine.all_put; mark = mine.mark; slot_out = refl; least_low = mine.least_low; looks_low = mine.looks_low };
        each_consumer = consumer_stays z s r id v at alone put r.ended p (λ u h. record {
          same_size = h.same_size;
          first_put = h.first_put ∙ sym (take-append-le t r.put (b ∷ []) (omega arith));
          next_put = longer_next r.put b t r.drawn u.consumer.next h.next_put;
          least_low = let low = h.least_low in omega arith;
          finds_low = h.finds_low;
          told_end = h.told_end;
          all_done = λ is. let stands : r.ended ≡ true = (h.all_done is).0 in absurd (cc);
        });
      },
      refl,
    )

pub marks : (z : Size) (n id : ℕ) (me : Sat) (new : ℕ) → me.0.is_producer ≡ true → me.0.is_consumer ≡ false → new ≡ 2 * length me.0.producer.put + 1
    → Allows (RingRule z) n id me 0 (λ _. new) (λ _. Marked (step n 0 new 0 none) me new)
marks z n id me new produces alone now s r wide at _ =
    let mine = (r.each_producer id me.0 at produces).1 in let t : ℕ = r.taken in let p : ProducerView = record me.0.producer { ended = true } in
    let all : length me.0.producer.put ≡ length r.put = ap length mine.all_put in (
      with_producer me.0 p,
      keeps,
      tt,
      record {
        put = r.put;
        taken = t;
        ended = true;
        producer = r.producer;
        consumer = r.consumer;
        lent = r.lent;
        drawn = r.drawn;
        words_are = ap (λ (ws : List ℕ). set ws 0 new) r.words_are ∙ ap (λ (q : ℕ). q ∷ t ∷ []) (let g : new ≡ 2 * length r.put + 1 = omega arith in g);
        valid = record { prefix = r.valid.prefix; behind = r.valid.behind; within = r.valid.within; bounded = r.valid.bounded };
        behind = r.behind;
        within = r.within;
        waiting = r.waiting;
        spare = r.spare;
        each_producer = producer_moves z s r id me.0 at produces r.put true r.lent p record { same_size = mine.same_size; all_put = mine.all_put; mark = refl; slot_out = mine.slot_out; least_low = mine.least_low; looks_low = mine.looks_low };
        each_consumer = consumer_stays z s r id me.0 at alone r.put true p (λ u h. record {
          same_size = h.same_size;
          first_put = h.first_put;
          next_put = h.next_put;
          least_low = h.least_low;
          finds_low = h.finds_low;
          told_end = λ _. refl;
          all_done = λ done. (refl, (h.all_done done).1);
        });
      },
      refl,
    )
