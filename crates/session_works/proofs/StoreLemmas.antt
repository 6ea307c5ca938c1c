-- Stores that a session holds.
--     later_same, later-next      one store, later and later
--     later_refl, later-trans      the stores of a session
--     rose-mono      a count rose also from an earlier one, and to a later one
--     rose-before, rose-behind      a rise behind or before what is later
--     HeldLater before after      a place that may hold a store
--     held_same, held-file      it is the same, or its file in the making is
--     parts-later      where each place of a session's parts is later, its stores are
--     parts-rose, playback-rose      and where the store of a recorder or of the playback rose
use Rattle.std.proofs.Common.{◌≡◌, ℕ, zero, suc, ◌<◌, ◌≤◌, List, [], ◌∷◌, length, map, filter_map, slice_get, Option, Some, None, refl, sym, ◌∙◌, ap, subst, arith}
use Rattle.std.proofs.lemmas.Option.{none-some, same_Some, slice_get_within}
use Rattle.std.proofs.lemmas.List.{length-map}
use Rattle.jack_host.specs.Causes.{Rose}
use Rattle.driver_words.specs.Tapes.{SameFile, Tape}
use Rattle.recorder_files.specs.Recorders.{Recording, Stored, held_in, held_or}
use Rattle.session_laws.proofs.ListLemmas.{slice_get-map}
use Rattle.run_laws.proofs.PlaceLemmas.{mapped_there, some_at}
use Rattle.session_works.specs.Parts.{AreLater, IsLater, OneRose, Parts, stores_in}

pub later_same : (store : Stored) → IsLater store store
later_same store = record { name = refl; tells = refl; faults = omega arith }

pub later-next : (before between after : Stored) → IsLater before between → IsLater between after → IsLater before after
later-next before between after first second = record {
  name = second.name ∙ first.name;
  tells = second.tells ∙ first.tells;
  faults = omega (arith, first.faults, second.faults);
}

pub later_refl : (stores : List Stored) → AreLater stores stores
later_refl stores = record {
  as_many = refl;
  each = λ i old new was is. subst (λ (store : Stored). IsLater old store) (same_Some old new (sym was ∙ is)) (later_same old);
}

pub later-trans : (before between after : List Stored) → AreLater before between → AreLater between after → AreLater before after
later-trans before between after first second = record {
  as_many = second.as_many ∙ first.as_many;
  each = λ i old new was is.
      let there = some_at between i (subst (λ n. i < n) (sym first.as_many) (slice_get_within before i old was)) in
      later-next old there.0 new (first.each i old there.0 was there.1) (second.each i there.0 new there.1 is);
}

pub rose-mono : (earlier before now later : ℕ) → earlier ≤ before → Rose before now → now ≤ later → Rose earlier later
rose-mono earlier before now later low rose high = omega (arith, low, rose, high)

pub rose-behind : (before between after : List Stored) → AreLater before between → OneRose between after → OneRose before after
rose-behind before between after later rose =
    let there = some_at before rose.place (subst (λ n. rose.place < n) later.as_many (slice_get_within between rose.place rose.old rose.was)) in
    record {
      place = rose.place;
      old = there.0;
      new = rose.new;
      was = there.1;
      is = rose.is;
      rose = rose-mono _ _ _ _ (later.each rose.place there.0 rose.old there.1 rose.was).faults rose.rose (omega arith);
    }

pub rose-before : (before between after : List Stored) → OneRose before between → AreLater between after → OneRose before after
rose-before before between after rose later =
    let there = some_at after rose.place (subst (λ n. rose.place < n) (sym later.as_many) (slice_get_within between rose.place rose.new rose.is)) in
    record {
      place = rose.place;
      old = rose.old;
      new = there.0;
      was = rose.was;
      is = there.1;
      rose = rose-mono _ _ _ _ (omega arith) rose.rose (later.each rose.place rose.new there.0 rose.is there.1).faults;
    }

abbrev pub HeldLater : Option Stored → Option Stored → Type 0
HeldLater None None = Unit {0}
HeldLater None (Some new) = ⊥
HeldLater (Some old) None = ⊥
HeldLater (Some old) (Some new) = IsLater old new

pub held_same : (held : Option Stored) → HeldLater held held
held_same None = tt
held_same (Some store) = later_same store

pub held-file : (store store_after : Option Stored) (file file_after : Option Tape) (tape tape_after : Tape) → file ≡ Some tape → file_after ≡ Some tape_after → SameFile tape tape_after → HeldLater (held_or store file) (held_or store_after file_after)
held-file store store_after file file_after tape tape_after was is same =
    subst (λ (f : Option Tape). HeldLater (held_or store f) (held_or store_after file_after)) (sym was)
    (subst (λ (f : Option Tape). HeldLater (held_or store (Some tape)) (held_or store_after f)) (sym is) record { name = same.name; tells = same.tells; faults = same.later })

-- the stores at places that may hold one
abbrev pub stores_of : List (Option Stored) → List Stored
stores_of places = filter_map (λ (held : Option Stored). held) places

abbrev pub EachLater : List (Option Stored) → List (Option Stored) → Type 0
EachLater places after = (i : ℕ) (old new : Option Stored) → slice_get places i ≡ Some old → slice_get after i ≡ Some new → HeldLater old new

later-cons : (x y : Stored) (xs ys : List Stored) → IsLater x y → AreLater xs ys → AreLater (x ∷ xs) (y ∷ ys)
later-cons x y xs ys first later = record { as_many = ap suc later.as_many; each = at }
  where
    at : (i : ℕ) (old new : Stored) → slice_get (x ∷ xs) i ≡ Some old → slice_get (y ∷ ys) i ≡ Some new → IsLater old new
    at zero old new was is = subst (λ (s : Stored). IsLater s new) (same_Some x old was) (subst (λ (s : Stored). IsLater x s) (same_Some y new is) first)
    at (suc i) old new was is = later.each i old new was is

pub stores-later : (places after : List (Option Stored)) → length after ≡ length places → EachLater places after → AreLater (stores_of places) (stores_of after)
stores-later [] [] same each = later_refl []
stores-later [] (y ∷ ys) same each = absurd (omega (arith, same))
stores-later (x ∷ xs) [] same each = absurd (omega (arith, same))
stores-later (x ∷ xs) (y ∷ ys) same each = go x y (each zero x y refl refl) (stores-later xs ys (omega (arith, same)) (λ i old new was is. each (suc i) old new was is))
  where
    go : (a b : Option Stored) → HeldLater a b → AreLater (stores_of xs) (stores_of ys) → AreLater (stores_of (a ∷ xs)) (stores_of (b ∷ ys))
    go None None first rest = rest
    go None (Some new) first rest = absurd first
    go (Some old) None first rest = absurd first
    go (Some old) (Some new) first rest = later-cons old new _ _ first rest

pub stores-rose : (places after : List (Option Stored)) (i : ℕ) (old new : Stored) → EachLater places after → slice_get places i ≡ Some (Some old) → slice_get after i ≡ Some (Some new) → Rose old.faults new.faults
    → OneRose (stores_of places) (stores_of after)
stores-rose [] after i old new each was is rose = absurd (none-some (Some old) was)
stores-rose (x ∷ xs) [] i old new each was is rose = absurd (none-some (Some new) is)
stores-rose (x ∷ xs) (y ∷ ys) zero old new each was is rose = here x y (same_Some x (Some old) was) (same_Some y (Some new) is)
  where
    here : (a b : Option Stored) → a ≡ Some old → b ≡ Some new → OneRose (stores_of (a ∷ xs)) (stores_of (b ∷ ys))
    here None b e f = absurd (none-some old e)
    here (Some a) None e f = absurd (none-some new f)
    here (Some a) (Some b) e f = record { place = 0; old = old; new = new; was = e; is = f; rose = rose }
stores-rose (x ∷ xs) (y ∷ ys) (suc i) old new each was is rose =
    go x y (each zero x y refl refl) (stores-rose xs ys i old new (λ k a b p q. each (suc k) a b p q) was is rose)
  where
    go : (a b : Option Stored) → HeldLater a b → OneRose (stores_of xs) (stores_of ys) → OneRose (stores_of (a ∷ xs)) (stores_of (b ∷ ys))
    go None None first rest = rest
    go None (Some b) first rest = absurd first
    go (Some a) None first rest = absurd first
    go (Some a) (Some b) first rest = record { place = suc rest.place; old = rest.old; new = rest.new; was = rest.was; is = rest.is; rose = rest.rose }

-- what a session's playback holds
abbrev pub playback_in : Parts → Option Stored
playback_in parts = held_or parts.playback parts.gear.playback

-- the recorders' places are the same, later
abbrev pub RecordersLater : Parts → Parts → Type 0
RecordersLater parts after = (i : ℕ) (old new : Recording) → slice_get parts.recorders i ≡ Some old → slice_get after.recorders i ≡ Some new → HeldLater (held_in old) (held_in new)

places-later : (parts after : Parts) → HeldLater (playback_in parts) (playback_in after) → RecordersLater parts after → EachLater (playback_in parts ∷ map held_in parts.recorders) (playback_in after ∷ map held_in after.recorders)
places-later parts after playback recorders zero old new was is =
    subst (λ (h : Option Stored). HeldLater h new) (same_Some (playback_in parts) old was) (subst (λ (h : Option Stored). HeldLater (playback_in parts) h) (same_Some (playback_in after) new is) playback)
places-later parts after playback recorders (suc i) old new was is =
    let a = slice_get-map held_in parts.recorders i old was in
    let b = slice_get-map held_in after.recorders i new is in
    subst (λ (h : Option Stored). HeldLater h new) a.2 (subst (λ (h : Option Stored). HeldLater (held_in a.0) h) b.2 (recorders i a.0 b.0 a.1 b.1))

pub parts-later : (parts after : Parts) → HeldLater (playback_in parts) (playback_in after) → length after.recorders ≡ length parts.recorders → RecordersLater parts after → AreLater (stores_in parts) (stores_in after)
parts-later parts after playback same recorders =
    stores-later (playback_in parts ∷ map held_in parts.recorders) (playback_in after ∷ map held_in after.recorders)
    (ap suc (length-map after.recorders held_in ∙ same ∙ sym (length-map parts.recorders held_in))) (places-later parts after playback recorders)

pub parts-rose : (parts after : Parts) (recorder : ℕ) (recording recording_after : Recording) (old new : Stored) → HeldLater (playback_in parts) (playback_in after) → RecordersLater parts after
    → slice_get parts.recorders recorder ≡ Some recording → slice_get after.recorders recorder ≡ Some recording_after → held_in recording ≡ Some old → held_in recording_after ≡ Some new → Rose old.faults new.faults
    → OneRose (stores_in parts) (stores_in after)
parts-rose parts after recorder recording recording_after old new playback recorders was is held held_after rose =
    stores-rose (playback_in parts ∷ map held_in parts.recorders) (playback_in after ∷ map held_in after.recorders) (suc recorder) old new (places-later parts after playback recorders)
    (mapped_there held_in parts.recorders recorder recording was ∙ ap Some held) (mapped_there held_in after.recorders recorder recording_after is ∙ ap Some held_after) rose

pub playback-rose : (parts after : Parts) (old new : Stored) → HeldLater (playback_in parts) (playback_in after) → RecordersLater parts after
    → playback_in parts ≡ Some old → playback_in after ≡ Some new → Rose old.faults new.faults → OneRose (stores_in parts) (stores_in after)
playback-rose parts after old new playback recorders held held_after rose =
    stores-rose (playback_in parts ∷ map held_in parts.recorders) (playback_in after ∷ map held_in after.recorders) 0 old new (places-later parts after playback recorders) (ap Some held) (ap Some held_after) rose
