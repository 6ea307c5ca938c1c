-- A new table, and what becomes of it once its benches and counters are laid.
use Rattle.std.proofs.Common.{◌≡◌, ℕ, zero, suc, ◌+◌, ◌-◌, ◌<◌, ◌≤◌, Bool, true, List, [], ◌∷◌, ◌++◌, length, map, set, replicate, All, Option, Some, None, refl, sym, ◌∙◌, ap, subst, ⊎_elim, inr, arith, vec_capacity}
use Rattle.std.proofs.lemmas.List.{get_or_append_left}
use Rattle.std.proofs.Math.Seq.{get_or-append_seam}
use Rattle.std.specs.Global.{Vec}
use Rattle.atomic_table.proofs.Lists.{set_here, set_else, at_last}
use Rattle.table_lemmas.proofs.Views.{at_snoc_last}
use mathlib.Core.Logic.{dite}
use mathlib.Core.Option.{none, some, some-injective, some-ne-none}
use native.Mathlib.Decide.{ℕ_discrete}
use lib.ListN.{get_elem?}
use Rattle.atomic_table.specs.Table.{Me, step, Allows, opening}
use Rattle.session_laws.specs.jack_types.specs.declared.ports.Link.{Link}
use Rattle.session_laws.specs.session_model.specs.Activation.{AreLinks, incoming}
use Rattle.session_laws.specs.session_model.specs.Samples.{below}
use Rattle.activation.specs.declared.views.Tray.{Tray}
use Rattle.activation.specs.declared.views.View.{View}
use Rattle.activation.specs.declared.views.Item.{Item}
use Rattle.activation.specs.declared.views.Item.TheVariants.{Bench}
use Rattle.activation.specs.Rule.{has, Rule}
use Rattle.activation.specs.Contents.{most_links, AreEmpty, HasRoomFor, AreLaid, IsFull, IsDone, benches_in, benches_of, first_view, from_to}
use Rattle.activation.specs.Plays.{AreClear, begin_after, begun}
use Rattle.activation.specs.Seats.{IsIdle, IsSole, new_duty}
use Rattle.activation.specs.Rounds.{IsLaidOut}
use Rattle.activation.proofs.Beginning.{begins}
use Rattle.activation.proofs.Shares.{has_from_to, within_from_to}

pub opens_still : {B Y : Type 0} (full done : List Link → List B → ℕ → Option (Item B Y) → Type 0) (links : List Link) (words : List ℕ) (slots seats : ℕ) → words ≡ replicate (slots + 65) 0
    → Rule full done (opening words (replicate slots None) (first_view links slots seats))
opens_still {B} {Y} full done links words slots seats is = inr record {
  sole = 0;
  view = first_view links slots seats;
  there = refl;
  still = refl;
  one = λ j u e l. first_only j u e;
  words_are = is;
  homes_are = refl;
}
  where
    first_only : (j : ℕ) (u : View (Option (Item B Y)) B) → get_elem? (first_view links slots seats ∷ []) j ≡ some u → j ≡ 0
    first_only zero u e = refl
    first_only (suc j) u e = absurd (some-ne-none u (sym e))

-- the benches that were laid are those in the slots
pub laid-in : {B Y : Type 0} (benches : List B) (items : List (Option (Item B Y))) → AreLaid benches items → benches_in (length benches) items ≡ benches
laid-in [] items laid = refl
laid-in {B} {Y} (b ∷ benches) [] laid = absurd (some-ne-none (Some (Bench (laid 0 b refl).0)) (sym (laid 0 b refl).1))
laid-in {B} {Y} (b ∷ benches) (x ∷ items) laid =
    let first = laid 0 b refl in
    let is : x ≡ Some (Bench first.0) = some-injective x (Some (Bench first.0)) first.1 in
    ap (λ o. benches_in (suc (length benches)) (o ∷ items)) is ∙ (λ i. first.2 i ∷ laid-in benches items (λ n bench e. laid (suc n) bench e) i)

pub laid-of : {B Y : Type 0} (benches : List B) (items : List (Option (Item B Y))) (slots : ℕ) → slots ≡ length benches + 512 → AreLaid benches items → benches_of slots items ≡ benches
laid-of benches items slots is laid = let n : slots - 512 ≡ length benches = omega (arith, is) in ap (λ k. benches_in k items) n ∙ laid-in benches items laid

pub laid_out : {B Y : Type 0} (benches : List B) (slots : ℕ) (v : View (Option (Item B Y)) B) → slots ≡ length benches + 512 → AreLaid benches v.shelf.items → AreLinks (length benches) v.duty.links → AreClear (length benches) v.shelf.words
    → ((others : List ℕ) × (v.shelf.words ≡ map (λ n. length (incoming v.duty.links n) + 1) (below (length benches)) ++ others)) → length benches + length v.duty.links ≤ length v.shelf.items
    → 0 < v.duty.seats → v.duty.shares ≡ from_to 0 v.duty.seats → IsLaidOut slots v
laid_out benches slots v is laid are clear counters long more shares =
    let same : benches ≡ benches_of slots v.shelf.items = sym (laid-of benches v.shelf.items slots is laid) in record {
      are = subst (λ bs. AreLinks (length bs) v.duty.links) same are;
      laid = subst (λ bs. AreLaid bs v.shelf.items) same laid;
      clear = subst (λ bs. AreClear (length bs) v.shelf.words) same clear;
      counters = (counters.0, counters.1 ∙ ap (λ bs. map (λ n. length (incoming v.duty.links n) + 1) (below (length bs)) ++ counters.0) same);
      long = subst (λ bs. length bs + length v.duty.links ≤ length v.shelf.items) same long;
      some_seat = more;
      shares = shares;
    }

pub full_bench : {B M Y : Type 0} (memory : B → M) (has_room : B → ℕ → Bool) (after : M → List Y → M) (gives : M → List Y → ℕ → Y) (links : List Link) (benches : List B) (items : List (Option (Item B Y))) → AreLaid benches items
    → (n : ℕ) → n < length benches → (x : Option (Item B Y)) × IsFull memory has_room after gives links benches n x × (get_elem? items n ≡ some x)
full_bench memory has_room after gives links benches items laid n low =
    let b = there benches n low in
    let it = laid n b.0 b.1 in (
      Some (Bench it.0),
      ((λ _. (it.0, refl, b.1 ∙ ap some (sym it.2), it.3)), (λ high. absurd (omega (arith, low, high)))),
      it.1,
    )
  where
    there : {A : Type 0} (xs : List A) (k : ℕ) → k < length xs → (x : A) × (get_elem? xs k ≡ some x)
    there [] k h = absurd (omega (arith, h))
    there (x ∷ xs) zero h = (x, refl)
    there (x ∷ xs) (suc k) h = there xs k (omega (arith, h))

pub map-map : {A C D : Type 0} (f : C → D) (g : A → C) (xs : List A) → map f (map g xs) ≡ map (λ x. f (g x)) xs
map-map f g [] = refl
map-map f g (x ∷ xs) = ap (λ ys. f (g x) ∷ ys) (map-map f g xs)

-- the next cycle begins
pub begins_laid : {B M Y : Type 0} (memory : B → M) (has_room : B → ℕ → Bool) (after : M → List Y → M) (gives : M → List Y → ℕ → Y) (n id i : ℕ) (me : Me (Option (Item B Y)) (View (Option (Item B Y)) B)) → IsSole me → IsLaidOut n me.0
    → Allows (Rule (IsFull memory has_room after gives) (IsDone memory has_room after gives)) n id me i (λ c. c) (begun benches_of (step n i 0 0 none) me)
begins_laid memory has_room after gives n id i me sole out =
    let links = me.0.duty.links in
    let benches = benches_of n me.0.shelf.items in
    begins (IsFull memory has_room after gives) (IsDone memory has_room after gives) benches_of n id me.0 i out.counters.0 me.1 sole.live sole.on sole.none_out
    (λ seat h. let r = within_from_to 0 me.0.duty.seats seat (subst (λ (xs : List ℕ). has xs seat ≡ true) out.shares h) in omega (arith, r.1))
    (0, subst (λ (xs : List ℕ). has xs 0 ≡ true) (sym out.shares) (has_from_to 0 me.0.duty.seats 0 (omega arith) (let some = out.some_seat in omega (arith, some))))
    out.are out.counters.1 out.long out.clear (full_bench memory has_room after gives links benches me.0.shelf.items out.laid)

pub begun_laid : {B Y : Type 0} (slots : ℕ) (me new : Me (Option (Item B Y)) (View (Option (Item B Y)) B)) → IsSole me → IsLaidOut slots me.0 → new ≡ (begin_after (benches_of slots) me.0, me.1)
    → IsIdle new × (new.0.duty ≡ new_duty me.0.duty.links (benches_of slots me.0.shelf.items) me.0.duty.seats (from_to 0 me.0.duty.seats))
begun_laid {B} {Y} slots me new sole out is = (
  record {
    live = ap (λ (m : Me (Option (Item B Y)) (View (Option (Item B Y)) B)). m.0.is_live) is ∙ sole.live;
    off = ap (λ (m : Me (Option (Item B Y)) (View (Option (Item B Y)) B)). m.0.is_still) is;
    none_out = ap (λ (m : Me (Option (Item B Y)) (View (Option (Item B Y)) B)). m.0.hand.out) is;
    clear = ap (λ (m : Me (Option (Item B Y)) (View (Option (Item B Y)) B)). m.1) is ∙ sole.clear;
  },
  ap (λ (m : Me (Option (Item B Y)) (View (Option (Item B Y)) B)). m.0.duty) is ∙ ap (new_duty me.0.duty.links (benches_of slots me.0.shelf.items) me.0.duty.seats) out.shares,
)

pub at_replicate : {A : Type 0} (n k : ℕ) (a : A) → k < n → get_elem? (replicate n a) k ≡ some a
at_replicate zero k a h = absurd (omega (arith, h))
at_replicate (suc n) zero a h = refl
at_replicate (suc n) (suc k) a h = at_replicate n k a (omega (arith, h))

pub long_replicate : {A : Type 0} (n : ℕ) (a : A) → length (replicate n a) ≡ n
long_replicate zero a = refl
long_replicate (suc n) a = ap suc (long_replicate n a)

-- ---- a bench is laid

front-of : {A : Type 0} (xs : List A) (x : A) (n : ℕ) (y : A) → n < length xs → get_elem? (xs ++ x ∷ []) n ≡ some y → get_elem? xs n ≡ some y
front-of xs x n y low e = ⊎_elim (λ h. h) (λ (h : (n ≡ length xs) × (x ≡ y)). absurd (let is = h.0 in omega (arith, low, is))) (at_snoc_last xs x y n e)

last-of : {A : Type 0} (xs : List A) (x : A) (y : A) → get_elem? (xs ++ x ∷ []) (length xs) ≡ some y → x ≡ y
last-of xs x y e = some-injective x y (sym (at_last xs x (length xs) refl) ∙ e)

longer : {A : Type 0} (xs : List A) (x : A) → length (xs ++ x ∷ []) ≡ suc (length xs)
longer [] x = refl
longer (y ∷ ys) x = ap suc (longer ys x)

all-front : {A : Type 0} (P : A → Type 0) (xs : List A) (x : A) → All P (xs ++ x ∷ []) → All P xs × P x
all-front P xs x h = (
  (λ k d low. subst P (get_or_append_left xs (x ∷ []) d k low) (h k d (omega (arith, low, longer xs x)))),
  subst P (get_or-append_seam xs x [] x) (h (length xs) x (omega (arith, longer xs x))),
)

pub lays_one : {B Y : Type 0} (first old new : List B) (bench : B) (items next : List (Option (Item B Y))) (rooms rooms' : List (Vec (Option Y))) (given : Vec (Option Y)) → old ≡ new ++ bench ∷ [] → rooms ≡ rooms' ++ given ∷ []
    → next ≡ set items (length new) (Some (Bench record { bench = bench; given = given })) → length first ≤ length items → length old ≤ length first
    → ((n : ℕ) (b : B) → n < length old → get_elem? first n ≡ some b → get_elem? old n ≡ some b)
    → ((n : ℕ) (b : B) → length old ≤ n → get_elem? first n ≡ some b → (tray : Tray B Y) × (get_elem? items n ≡ some (Some (Bench tray))) × (tray.bench ≡ b) × HasRoomFor tray)
    → length rooms ≡ length old → AreEmpty rooms
    → (length new ≤ length first)
    × ((n : ℕ) (b : B) → n < length new → get_elem? first n ≡ some b → get_elem? new n ≡ some b)
    × ((n : ℕ) (b : B) → length new ≤ n → get_elem? first n ≡ some b → (tray : Tray B Y) × (get_elem? next n ≡ some (Some (Bench tray))) × (tray.bench ≡ b) × HasRoomFor tray)
    × ((slot : ℕ) → length first ≤ slot → get_elem? next slot ≡ get_elem? items slot)
    × (length rooms' ≡ length new) × AreEmpty rooms'
lays_one {B} {Y} first old new bench items next rooms rooms' given is room_is next_is long few left laid count empty =
    let one : length old ≡ suc (length new) = ap length is ∙ longer new bench in
    let two : length rooms ≡ suc (length rooms') = ap length room_is ∙ longer rooms' given in
    let parts = all-front (λ room. (room.items ≡ []) × (most_links ≤ vec_capacity room)) rooms' given (subst AreEmpty room_is empty) in
    let tray : Tray B Y = record { bench = bench; given = given } in (
      omega (arith, one, few),
      (λ n b low e. front-of new bench n b low (ap (λ l. get_elem? l n) (sym is) ∙ left n b (omega (arith, low, one)) e)),
      (λ n b high e. dite (ℕ_discrete n (length new))
          (λ same. (
            tray,
            ap (get_elem? next) same ∙ (ap (λ l. get_elem? l (length new)) next_is ∙ set_here items (length new) (Some (Bench tray)) (omega (arith, one, few, long))),
            last-of new bench b (ap (λ l. get_elem? l (length new)) (sym is) ∙ left (length new) b (omega (arith, one)) (ap (get_elem? first) (sym same) ∙ e)),
            parts.1,
          ))
          (λ ne. let it = laid n b (omega (arith, one, high, ne)) e in (it.0, ap (λ l. get_elem? l n) next_is ∙ (set_else items (length new) n (Some (Bench tray)) ne ∙ it.1), it.2, it.3))),
      (λ slot high. ap (λ l. get_elem? l slot) next_is ∙ set_else items (length new) slot (Some (Bench tray)) (λ e. absurd (omega (arith, e, one, few, high)))),
      omega (arith, one, two, count),
      parts.0,
    )
