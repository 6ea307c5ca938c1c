-- What the one seat knows, to which the seats of a crew are joined one by one.
use Rattle.std.proofs.Common.{◌≡◌, ℕ, zero, suc, ◌+◌, ◌%◌, ◌<◌, ◌≤◌, true, List, [], ◌∷◌, ◌++◌, length, map, get_or, set, All, Option, sym, ◌∙◌, ap, subst, arith, get_or-set_same, get_or-set_other}
use Rattle.std.proofs.lemmas.List.{length-map, map-set, set-get_or}
use mathlib.Core.Logic.{dite}
use native.Mathlib.Decide.{ℕ_discrete}
use Rattle.atomic_table.specs.Table.{Me}
use Rattle.atomic_table.specs.Seated.{TableId}
use Rattle.atomic_table.specs.declared.shared.Seat.{Seat as Token}
use Rattle.session_laws.specs.jack_types.specs.declared.ports.Link.{Link}
use Rattle.session_laws.specs.session_model.specs.Samples.{below}
use Rattle.session_laws.proofs.SequentialLemmas.{length-below, get_or-below}
use Rattle.activation.specs.declared.takens.Seat.{Seat}
use Rattle.activation.specs.declared.views.Duty.{Duty}
use Rattle.session_laws.specs.session_model.specs.Activation.{AreLinks}
use Rattle.activation.specs.declared.views.Item.{Item}
use Rattle.activation.specs.declared.views.View.{View}
use Rattle.activation.specs.Rule.{has}
use Rattle.activation.specs.Plays.{joined}
use Rattle.activation.specs.Contents.{from_to}
use Rattle.activation.specs.Seats.{IsAt, Sits, IsShare, new_duty}
use Rattle.activation.specs.Rounds.{AreSeats, HavePlayed, AreUnused, Know, AreFresh}
use Rattle.activation.proofs.Listed.{get_or-map}
use Rattle.activation.proofs.Testing.{has_left, has_right}

pub from_to-snoc : (first count : ℕ) → from_to first count ++ (first + count) ∷ [] ≡ from_to first (suc count)
from_to-snoc first zero = let e : first + 0 ≡ first = omega arith in ap (λ n. n ∷ []) e
from_to-snoc first (suc count) = let e : first + suc count ≡ suc first + count = omega arith in ap (λ n. first ∷ (from_to (suc first) count ++ n ∷ [])) e ∙ ap (λ l. first ∷ l) (from_to-snoc (suc first) count)

module _ {B Y M : Type 0} where
  -- the numbers of all seats are their places
  pub number_at : (all : List (Seat B Y M)) (count k : ℕ) (d : Seat B Y M) → map (λ (seat : Seat B Y M). seat.number) all ≡ below count → k < count → (get_or all k d).number ≡ k
  number_at all count k d numbers low =
      let long : length all ≡ count = sym (length-map all (λ (seat : Seat B Y M). seat.number)) ∙ (ap length numbers ∙ length-below count) in
      sym (get_or-map (λ (seat : Seat B Y M). seat.number) all k d d.number (omega (arith, low, long))) ∙ (ap (λ l. get_or l k d.number) numbers ∙ get_or-below count k d.number low)

  pub long_as : (all : List (Seat B Y M)) (count : ℕ) → map (λ (seat : Seat B Y M). seat.number) all ≡ below count → length all ≡ count
  long_as all count numbers = sym (length-map all (λ (seat : Seat B Y M). seat.number)) ∙ (ap length numbers ∙ length-below count)

  -- one seat is renewed under its number
  pub same_numbers : (all : List (Seat B Y M)) (k : ℕ) (seat : Seat B Y M) → k < length all → (get_or all k seat).number ≡ seat.number → map (λ (s : Seat B Y M). s.number) (set all k seat) ≡ map (λ (s : Seat B Y M). s.number) all
  same_numbers all k seat low is =
      map-set (λ (s : Seat B Y M). s.number) all k seat
      ∙ (ap (set (map (λ (s : Seat B Y M). s.number) all) k) (sym is ∙ sym (get_or-map (λ (s : Seat B Y M). s.number) all k seat 0 low)) ∙ set-get_or (map (λ (s : Seat B Y M). s.number) all) k 0)

  module _ (id : TableId) (links : List Link) (nodes count : ℕ) (all : List (Seat B Y M)) where
    -- behind the first k seats
    pub record Joined (k : ℕ) (one : Token (Option (Item B Y)) (View (Option (Item B Y)) B)) : Type 0 where
      pub at : IsAt id links nodes one
      pub seats : one.me.0.duty.seats ≡ count
      pub shares : one.me.0.duty.shares ≡ from_to 0 k
      pub empty : one.me.0.duty.held ≡ []
      pub looked : one.me.0.duty.left ≡ []
      pub before : (before : List B) → Know before all → one.me.0.duty.before ≡ before
      pub played : HavePlayed nodes count all → (n : ℕ) → n < nodes → n % count < k → has one.me.0.duty.started n ≡ true
      pub unused : AreUnused all → one.me.0.duty.started ≡ []

    pub sits : (are : AreSeats id links nodes count all) (k : ℕ) (d : Seat B Y M) → k < count → Sits id links nodes count k (get_or all k d).token
    sits are k d low = subst (λ n. Sits id links nodes count n (get_or all k d).token) (number_at all count k d are.numbers low) (are.each k d (omega (arith, low, long_as all count are.numbers))).0

    pub empty_at : (are : AreSeats id links nodes count all) (k : ℕ) (d : Seat B Y M) → k < count → (get_or all k d).token.me.0.duty.held ≡ []
    empty_at are k d low = (are.each k d (omega (arith, low, long_as all count are.numbers))).1

    pub looked_at : (are : AreSeats id links nodes count all) (k : ℕ) (d : Seat B Y M) → k < count → (get_or all k d).token.me.0.duty.left ≡ []
    looked_at are k d low = (are.each k d (omega (arith, low, long_as all count are.numbers))).2

    pub joined_first : (are : AreSeats id links nodes count all) (d : Seat B Y M) (one : Token (Option (Item B Y)) (View (Option (Item B Y)) B)) → 0 < count → one.table_id ≡ id → one.me ≡ (get_or all 0 d).token.me → Joined 1 one
    joined_first are d one some table is =
        let long = long_as all count are.numbers in
        let low : 0 < length all = omega (arith, some, long) in
        let s = sits are 0 d some in
        record {
          at = record {
            table = table;
            idle = record { live = ap (λ (m : Me (Option (Item B Y)) (View (Option (Item B Y)) B)). m.0.is_live) is ∙ s.at.idle.live; off = ap (λ (m : Me (Option (Item B Y)) (View (Option (Item B Y)) B)). m.0.is_still) is ∙ s.at.idle.off; none_out = ap (λ (m : Me (Option (Item B Y)) (View (Option (Item B Y)) B)). m.0.hand.out) is ∙ s.at.idle.none_out; clear = ap (λ (m : Me (Option (Item B Y)) (View (Option (Item B Y)) B)). m.1) is ∙ s.at.idle.clear };
            same_links = ap (λ (m : Me (Option (Item B Y)) (View (Option (Item B Y)) B)). m.0.duty.links) is ∙ s.at.same_links;
            same_nodes = ap (λ (m : Me (Option (Item B Y)) (View (Option (Item B Y)) B)). length m.0.duty.before) is ∙ s.at.same_nodes;
          };
          seats = ap (λ (m : Me (Option (Item B Y)) (View (Option (Item B Y)) B)). m.0.duty.seats) is ∙ s.same_seats;
          shares = ap (λ (m : Me (Option (Item B Y)) (View (Option (Item B Y)) B)). m.0.duty.shares) is ∙ s.shares;
          empty = ap (λ (m : Me (Option (Item B Y)) (View (Option (Item B Y)) B)). m.0.duty.held) is ∙ empty_at are 0 d some;
          looked = ap (λ (m : Me (Option (Item B Y)) (View (Option (Item B Y)) B)). m.0.duty.left) is ∙ looked_at are 0 d some;
          before = λ before know. ap (λ (m : Me (Option (Item B Y)) (View (Option (Item B Y)) B)). m.0.duty.before) is ∙ know 0 d low;
          played = λ all' n inside h. let zero' : n % count ≡ 0 = omega (arith, h) in ap (λ (m : Me (Option (Item B Y)) (View (Option (Item B Y)) B)). has m.0.duty.started n) is ∙ all' 0 d low n inside (zero' ∙ sym (number_at all count 0 d are.numbers some));
          unused = λ none. ap (λ (m : Me (Option (Item B Y)) (View (Option (Item B Y)) B)). m.0.duty.started) is ∙ none 0 d low;
        }

    pub joined_more : (are : AreSeats id links nodes count all) (k : ℕ) (d : Seat B Y M) (one other new : Token (Option (Item B Y)) (View (Option (Item B Y)) B)) → k < count → Joined k one → other.me ≡ (get_or all k d).token.me → new.table_id ≡ one.table_id → new.me ≡ (joined one.me.0 other.me.0, one.me.1) → Joined (suc k) new
    joined_more are k d one other new low j is table now =
        let long = long_as all count are.numbers in
        let inside : k < length all = omega (arith, low, long) in
        let s = sits are k d low in
        let zero_more : k ≡ 0 + k = omega arith in
        record {
          at = record {
            table = table ∙ j.at.table;
            idle = record { live = ap (λ (m : Me (Option (Item B Y)) (View (Option (Item B Y)) B)). m.0.is_live) now ∙ j.at.idle.live; off = ap (λ (m : Me (Option (Item B Y)) (View (Option (Item B Y)) B)). m.0.is_still) now ∙ j.at.idle.off; none_out = ap (λ (m : Me (Option (Item B Y)) (View (Option (Item B Y)) B)). m.0.hand.out) now ∙ j.at.idle.none_out; clear = ap (λ (m : Me (Option (Item B Y)) (View (Option (Item B Y)) B)). m.1) now ∙ j.at.idle.clear };
            same_links = ap (λ (m : Me (Option (Item B Y)) (View (Option (Item B Y)) B)). m.0.duty.links) now ∙ j.at.same_links;
            same_nodes = ap (λ (m : Me (Option (Item B Y)) (View (Option (Item B Y)) B)). length m.0.duty.before) now ∙ j.at.same_nodes;
          };
          seats = ap (λ (m : Me (Option (Item B Y)) (View (Option (Item B Y)) B)). m.0.duty.seats) now ∙ j.seats;
          shares = ap (λ (m : Me (Option (Item B Y)) (View (Option (Item B Y)) B)). m.0.duty.shares) now ∙ ((λ i. j.shares i ++ (ap (λ m. m.0.duty.shares) is ∙ s.shares) i) ∙ (ap (λ n. from_to 0 k ++ n ∷ []) zero_more ∙ from_to-snoc 0 k));
          empty = ap (λ (m : Me (Option (Item B Y)) (View (Option (Item B Y)) B)). m.0.duty.held) now ∙ j.empty;
          looked = ap (λ (m : Me (Option (Item B Y)) (View (Option (Item B Y)) B)). m.0.duty.left) now ∙ j.looked;
          before = λ before know. ap (λ (m : Me (Option (Item B Y)) (View (Option (Item B Y)) B)). m.0.duty.before) now ∙ j.before before know;
          played = λ all' n within h. ap (λ (m : Me (Option (Item B Y)) (View (Option (Item B Y)) B)). has m.0.duty.started n) now ∙ dite (ℕ_discrete (n % count) k)
              (λ e. has_right one.me.0.duty.started other.me.0.duty.started n (ap (λ m. has m.0.duty.started n) is ∙ all' k d inside n within (e ∙ sym (number_at all count k d are.numbers low))))
              (λ ne. has_left one.me.0.duty.started other.me.0.duty.started n (j.played all' n within (omega (arith, h, ne))));
          unused = λ none. ap (λ (m : Me (Option (Item B Y)) (View (Option (Item B Y)) B)). m.0.duty.started) now ∙ (λ i. j.unused none i ++ (ap (λ m. m.0.duty.started) is ∙ none k d inside) i);
        }

  -- the seats to which the shares were dealt
  pub seats_dealt : (id : TableId) (links : List Link) (before : List B) (nodes count : ℕ) (all : List (Seat B Y M)) → map (λ (seat : Seat B Y M). seat.number) all ≡ below count → length before ≡ nodes
      → All (λ (seat : Seat B Y M). IsShare id links before count seat.number seat.token) all → AreSeats id links nodes count all × AreFresh links before count all
  seats_dealt id links before nodes count all numbers long each = (
    record {
      numbers = numbers;
      each = λ k d low.
          let s = each k d low in (
            record {
              at = record { table = s.table; idle = s.idle; same_links = ap (λ duty. duty.links) s.duty; same_nodes = ap (λ duty. length duty.before) s.duty ∙ long };
              shares = ap (λ duty. duty.shares) s.duty;
              few = s.few;
              same_seats = ap (λ duty. duty.seats) s.duty;
            },
            ap (λ duty. duty.held) s.duty,
            ap (λ duty. duty.left) s.duty,
          );
    },
    (λ k d low. (each k d low).duty),
  )

  -- a share more is dealt
  pub one_dealt : (all : List (Seat B Y M)) (k : ℕ) (seat : Seat B Y M) (P : ℕ → Token (Option (Item B Y)) (View (Option (Item B Y)) B) → Type 0) → k < length all → P k seat.token → ((j : ℕ) (d : Seat B Y M) → j < k → P j (get_or all j d).token)
      → (j : ℕ) (d : Seat B Y M) → j < k + 1 → P j (get_or (set all k seat) j d).token
  one_dealt all k seat P low new old j d h = dite (ℕ_discrete j k)
      (λ e. subst (λ i. P i (get_or (set all k seat) i d).token) (sym e) (subst (λ (s : Seat B Y M). P k s.token) (sym (get_or-set_same all k seat d low)) new))
      (λ ne. subst (λ (s : Seat B Y M). P j s.token) (sym (get_or-set_other all k j seat d ne)) (old j d (omega (arith, h, ne))))

pub dealable : {B : Type 0} (d : Duty B) (links : List Link) (before : List B) (seats count : ℕ) → d ≡ new_duty links before seats (from_to 0 seats) → seats ≡ count → d ≡ new_duty d.links d.before count (from_to 0 count)
dealable {B} d links before seats count is same = is ∙ (λ i. new_duty (ap (λ (e : Duty B). e.links) (sym is) i) (ap (λ (e : Duty B). e.before) (sym is) i) (same i) (from_to 0 (same i)))

-- links within more nodes
pub are_more : (n m : ℕ) (links : List Link) → n ≤ m → AreLinks n links → AreLinks m links
are_more n m links low are = record { upward = are.upward; within = λ k d h. (let w = are.within k d h in omega (arith, w, low)); distinct = are.distinct }
