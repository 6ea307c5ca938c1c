-- Passes and parts, as they are lent and taken back.
use Rattle.std.proofs.Common.{◌≡◌, ◌≢◌, ℕ, ◌+◌, ◌-◌, ◌<◌, ◌≤◌, List, [], ◌∷◌, ◌++◌, length, get_or, Some, None, unwrap_or, vec_capacity, sym, refl, ap, ◌∙◌, subst, arith}
use Rattle.std.specs.Global.{Global, Vec}
use lib.ListN.{get_or-append}
use Rattle.std.proofs.lemmas.List.{get_or_default}
use mathlib.Core.Logic.{dite}
use native.Mathlib.Decide.{ℕ_discrete}
use Rattle.crossbeam_deque.specs.Handles.{Pass, IsPassOf, worker_deque}
use Rattle.cycle_workers.specs.activation.specs.declared.takens.Seat.{Seat}
use Rattle.steal_workers.specs.declared.tallies.Tally.{Tally}
use Rattle.steal_workers.specs.declared.ends.Deque.{Deque}
use Rattle.steal_workers.specs.declared.places.Place.{Place}
use Rattle.steal_workers.specs.declared.places.Thief.{Thief}
use Rattle.steal_workers.specs.Deques.{SameDeque, IsPassOn}
use Rattle.steal_workers.specs.Places.{Paired, parts_of, IsPassAt, Lends, TakesBack, thief_of, TakesPlace, MayLeave}
use Rattle.steal_workers.proofs.Changing.{paired_map, last_of, any_of}

pub one_less : (old new : ℕ) → 1 < old → new ≡ old - 1 → new + 1 ≡ old
one_less old new many is = omega (arith, many, is)

pub pass_stays : (old new : Deque) (pass : Pass ℕ Tally Global) → SameDeque old new → IsPassOn old pass → IsPassOn new pass
pass_stays old new pass same h = (subst (λ id. IsPassOf id pass) (sym same) h.0, h.1)

module _ {B Y M : Type 0} where
  pub lends_more : (count : ℕ) (a b c : Place B Y M) → Lends count a b → Lends 1 b c → Lends (count + 1) a c
  lends_more count a b c p q = record {
    deque = q.deque ∙ p.deque;
    parts = let x = p.parts in let y = q.parts in omega (arith, x, y);
    thief = q.thief ∙ p.thief;
  }

  pub takes_more : (count : ℕ) (a b c : Place B Y M) → TakesBack count a b → TakesBack 1 b c → TakesBack (count + 1) a c
  takes_more count a b c p q = record {
    deque = q.deque ∙ p.deque;
    parts = let x = p.parts in let y = q.parts in omega (arith, x, y);
    thief = q.thief ∙ p.thief;
  }

  -- the passes of a row stay where the deques are the same
  pub row_stays : (old new : List (Place B Y M)) (row : List (Pass ℕ Tally Global)) → Paired (λ (a b : Place B Y M). SameDeque a.deque b.deque) old new → Paired IsPassAt old row → Paired IsPassAt new row
  row_stays old new row same h =
      let long = same.0 in
      (h.0 ∙ sym same.0, λ k x y low. pass_stays (get_or old k x).deque (get_or new k x).deque (get_or row k y) (same.1 k x x (omega (arith, low, long))) (h.1 k x y (omega (arith, low, long))))

  pub none_lent : (places : List (Place B Y M)) → Paired (Lends 0) places places
  none_lent places = (refl, λ k x y low. subst (λ (p : Place B Y M). Lends 0 (get_or places k x) p) (get_or_default places k x y low) record { deque = refl; parts = omega arith; thief = refl })

  pub none_left : (places : List (Place B Y M)) → Paired (TakesBack 0) places places
  none_left places = (refl, λ k x y low. subst (λ (p : Place B Y M). TakesBack 0 (get_or places k x) p) (get_or_default places k x y low) record { deque = refl; parts = omega arith; thief = refl })

  -- where each deque has more parts than are lent, and not all are lent yet
  pub has_part : (count most : ℕ) (old new : List (Place B Y M)) → count < most → Paired (Lends count) old new → ((k : ℕ) (d : Place B Y M) → k < length old → most < parts_of (get_or old k d)) → (k : ℕ) (d : Place B Y M) → k < length new → 1 < parts_of (get_or new k d)
  has_part count most old new few p many k d low =
      let long = p.0 in
      let inside : k < length old = omega (arith, low, long) in
      let lent = (p.1 k d d inside).parts in
      let all = many k d inside in
      omega (arith, few, lent, all)

  same_deques : (count : ℕ) (old new : List (Place B Y M)) → Paired (TakesBack count) old new → Paired (λ (a b : Place B Y M). SameDeque a.deque b.deque) old new
  same_deques count old new p = paired_map (TakesBack count) (λ (a b : Place B Y M). SameDeque a.deque b.deque) old new (λ a b t. t.deque) p

  pub row_left : (count : ℕ) (old new : List (Place B Y M)) (row : List (Pass ℕ Tally Global)) → Paired (TakesBack count) old new → Paired IsPassAt old row → Paired IsPassAt new row
  row_left count old new row p = row_stays old new row (same_deques count old new p)

  pub row_lent : (count : ℕ) (old new : List (Place B Y M)) (row : List (Pass ℕ Tally Global)) → Paired (Lends count) old new → Paired IsPassAt old row → Paired IsPassAt new row
  row_lent count old new row p = row_stays old new row (paired_map (Lends count) (λ (a b : Place B Y M). SameDeque a.deque b.deque) old new (λ a b t. t.deque) p)

-- one more seat has risen, with its passes
pub thieves_more : {B Y M : Type 0} (old : List (Place B Y M)) (seats : List (Seat B Y M)) (rows : List (Vec (Pass ℕ Tally Global))) (i : ℕ) (s : Seat B Y M) (r : Vec (Pass ℕ Tally Global)) → length seats ≡ i → length rows ≡ i
    → ((d : Place B Y M) → (get_or old i d).thief ≡ Some (thief_of s r))
    → ((k : ℕ) (place : Place B Y M) (seat : Seat B Y M) (row : Vec (Pass ℕ Tally Global)) → k < i → (get_or old k place).thief ≡ Some (thief_of (get_or seats k seat) (get_or rows k row)))
    → (k : ℕ) (place : Place B Y M) (seat : Seat B Y M) (row : Vec (Pass ℕ Tally Global)) → k < i + 1 → (get_or old k place).thief ≡ Some (thief_of (get_or (seats ++ s ∷ []) k seat) (get_or (rows ++ r ∷ []) k row))
thieves_more old seats rows i s r long long' this each k place seat row less = dite (ℕ_discrete k i)
    (λ (is : k ≡ i).
    let a : get_or (seats ++ s ∷ []) k seat ≡ s = ap (λ (j : ℕ). get_or (seats ++ s ∷ []) j seat) is ∙ last_of seats i s seat long in
    let b : get_or (rows ++ r ∷ []) k row ≡ r = ap (λ (j : ℕ). get_or (rows ++ r ∷ []) j row) is ∙ last_of rows i r row long' in
    ap (λ (j : ℕ). (get_or old j place).thief) is ∙ (this place ∙ (λ j. Some (thief_of (sym a j) (sym b j)))))
    (λ (ne : k ≢ i).
    let a = get_or-append seats (s ∷ []) seat k (omega (arith, less, ne, long)) in
    let b = get_or-append rows (r ∷ []) row k (omega (arith, less, ne, long')) in
    each k place seat row (omega (arith, less, ne)) ∙ (λ j. Some (thief_of (sym a j) (sym b j))))

pub some_same : {A : Type 0} (x y : A) → Some x ≡ Some y → x ≡ y
some_same x y e = ap (λ o. unwrap_or o x) e

module _ {B Y M : Type 0} where
  -- each seat took its place, behind the lending
  pub took_places : (old mid new : List (Place B Y M)) (seats : List (Seat B Y M)) (rows : List (Vec (Pass ℕ Tally Global))) → length rows ≡ length old → Paired (Lends (length rows)) old mid
      → ((k : ℕ) (d : Vec (Pass ℕ Tally Global)) → k < length rows → Paired IsPassAt mid (get_or rows k d).items × (length old ≤ vec_capacity (get_or rows k d)))
      → length new ≡ length mid
      → ((k : ℕ) (place : Place B Y M) (seat : Seat B Y M) (row : Vec (Pass ℕ Tally Global)) → k < length mid → get_or new k place ≡ record (get_or mid k place) { thief = Some (thief_of (get_or seats k seat) (get_or rows k row)) })
      → (k : ℕ) (place : Place B Y M) (seat : Seat B Y M) → k < length old → TakesPlace new (get_or seats k seat) (get_or old k place) (get_or new k place)
  took_places old mid new seats rows count lent passes long sat k place seat low =
      let row = any_of rows k (omega (arith, low, count)) in
      let inside : k < length mid = (let l = lent.0 in omega (arith, low, l)) in
      let is = sat k place seat row inside in
      let lends = lent.1 k place place low in
      let mine = passes k row (omega (arith, low, count)) in
      let same : Paired (λ (a b : Place B Y M). SameDeque a.deque b.deque) mid new = (
        long,
        λ j x y low'.
            ap (λ (p : Place B Y M). worker_deque p.deque.worker) (sym (get_or_default new j x y (omega (arith, low', long))) ∙ sat j x seat row low'),
      ) in record {
        deque = ap (λ (p : Place B Y M). worker_deque p.deque.worker) is ∙ lends.deque;
        parts = let a = lends.parts in let b = ap (λ (p : Place B Y M). parts_of p) is in let l = lent.0 in omega (arith, a, b, l, long, count);
        passes = get_or rows k row;
        there = ap (λ (p : Place B Y M). p.thief) is;
        each = row_stays mid new (get_or rows k row).items same mine.0;
        room = let m = mine.1 in let l = lent.0 in omega (arith, m, l, long);
      }

  -- the passes of each seat that rose
  pub rose : (old mid : List (Place B Y M)) (seats : List (Seat B Y M)) (rows : List (Vec (Pass ℕ Tally Global))) → length rows ≡ length old → length seats ≡ length old → length mid ≡ length old
      → ((k : ℕ) (place : Place B Y M) → k < length old → MayLeave old (get_or old k place))
      → ((k : ℕ) (place : Place B Y M) (seat : Seat B Y M) (row : Vec (Pass ℕ Tally Global)) → k < length old → (get_or old k place).thief ≡ Some (thief_of (get_or seats k seat) (get_or rows k row)))
      → ((k : ℕ) (place : Place B Y M) → k < length old → get_or mid k place ≡ record (get_or old k place) { thief = None })
      → (k : ℕ) (d : Vec (Pass ℕ Tally Global)) → k < length rows → Paired IsPassAt mid (get_or rows k d).items × (length mid ≤ vec_capacity (get_or rows k d))
  rose old mid seats rows count count' long may thieves bare k d low =
      let inside : k < length old = omega (arith, low, count) in
      let place = any_of old k inside in
      let seat = any_of seats k (omega (arith, inside, count')) in
      let it = may k place inside in
      let is : it.thief.passes ≡ get_or rows k d = ap (λ (t : Thief B Y M). t.passes) (some_same it.thief (thief_of (get_or seats k seat) (get_or rows k d)) (sym it.there ∙ thieves k place seat d inside)) in
      let same : Paired (λ (a b : Place B Y M). SameDeque a.deque b.deque) old mid = (long, λ j x y low'. ap (λ (p : Place B Y M). worker_deque p.deque.worker) (sym (get_or_default mid j x y (omega (arith, low', long))) ∙ bare j x low')) in
      subst (λ (row : Vec (Pass ℕ Tally Global)). Paired IsPassAt mid row.items × (length mid ≤ vec_capacity row)) is (row_stays old mid it.thief.passes.items same it.each, (let room = it.room in omega (arith, room, long)))
