-- What one seat knows of benches and values once it knows the whole table.
use Rattle.std.proofs.Common.{◌≡◌, ◌≢◌, ℕ, zero, suc, ◌+◌, ◌<◌, ◌≤◌, Bool, true, List, [], ◌∷◌, length, ◌++◌, ◌⊎◌, ⊎_elim, inl, inr, Option, Some, refl, sym, ◌∙◌, ap, subst, arith, vec_capacity}
use mathlib.Core.Logic.{dite}
use mathlib.Core.Option.{none, some, some-injective, some-ne-none}
use native.Mathlib.Decide.{ℕ_discrete}
use lib.ListN.{get_elem?}
use Rattle.atomic_table.specs.Table.{Me, step}
use Rattle.session_laws.specs.jack_types.specs.declared.ports.Link.{Link}
use Rattle.session_laws.specs.session_model.specs.Activation.{AreLinks, no_link, link_at, place_among, fresh}
use Rattle.activation.specs.declared.views.Tray.{Tray}
use Rattle.activation.specs.declared.views.Item.{Item}
use Rattle.activation.specs.declared.views.Item.TheVariants.{Bench, Value}
use Rattle.activation.specs.declared.views.View.{View}
use Rattle.activation.specs.Rule.{has}
use Rattle.activation.specs.Plays.{AreClear, entered}
use Rattle.activation.specs.Contents.{most_links, HasRoomFor, IsFull, IsDone, IsHomeBench, AreLaid, benches_in}
use Rattle.activation.specs.Seats.{IsIdle, IsSole}
use Rattle.activation.specs.Returns.{BenchAt, AreSpent, IsBack}
use Rattle.activation.specs.Rounds.{IsReturned}
use Rattle.activation.proofs.Turning.{there_is, same_tray}

-- the benches of so many slots that all have one
pub laid_from : {B Y : Type 0} (n : ℕ) (items : List (Option (Item B Y))) → ((k : ℕ) → k < n → (tray : Tray B Y) × BenchAt items k tray × HasRoomFor tray)
    → (length (benches_in n items) ≡ n) × AreLaid (benches_in n items) items × ((k : ℕ) (tray : Tray B Y) → k < n → BenchAt items k tray → get_elem? (benches_in n items) k ≡ some tray.bench)
laid_from zero items each = (refl, (λ k bench e. absurd (some-ne-none bench (sym e))), (λ k tray low at. absurd (omega (arith, low))))
laid_from {B} {Y} (suc n) [] each = let it = each 0 (omega arith) in absurd (some-ne-none (Some (Bench it.0)) (sym it.1))
laid_from {B} {Y} (suc n) (x ∷ items) each =
    let first = each 0 (omega arith) in
    let is : x ≡ Some (Bench first.0) = some-injective x (Some (Bench first.0)) first.1 in
    let more = laid_from n items (λ k low. each (suc k) (omega (arith, low))) in
    let whole : benches_in (suc n) (x ∷ items) ≡ first.0.bench ∷ benches_in n items = ap (λ o. benches_in (suc n) (o ∷ items)) is in (
      ap length whole ∙ ap suc more.0,
      (λ k bench e. front k bench first.0 x items n is first.2 more.1 (ap (λ l. get_elem? l k) (sym whole) ∙ e)),
      (λ k tray low at. ap (λ l. get_elem? l k) whole ∙ taken k tray first.0 x items n is more.2 low at),
    )
  where
    front : (k : ℕ) (bench : B) (tray : Tray B Y) (x : Option (Item B Y)) (items : List (Option (Item B Y))) (n : ℕ) → x ≡ Some (Bench tray) → HasRoomFor tray → AreLaid (benches_in n items) items → get_elem? (tray.bench ∷ benches_in n items) k ≡ some bench
        → (d : Tray B Y) × BenchAt (x ∷ items) k d × (d.bench ≡ bench) × HasRoomFor d
    front zero bench tray x items n is room laid e = (tray, ap some is, some-injective tray.bench bench e, room)
    front (suc k) bench tray x items n is room laid e = laid k bench e

    taken : (k : ℕ) (d tray : Tray B Y) (x : Option (Item B Y)) (items : List (Option (Item B Y))) (n : ℕ) → x ≡ Some (Bench tray) → ((j : ℕ) (e : Tray B Y) → j < n → BenchAt items j e → get_elem? (benches_in n items) j ≡ some e.bench)
        → k < suc n → BenchAt (x ∷ items) k d → get_elem? (tray.bench ∷ benches_in n items) k ≡ some d.bench
    taken zero d tray x items n is old low at = ap (λ (z : Tray B Y). some z.bench) (same_tray tray d (sym is ∙ some-injective x (Some (Bench d)) at))
    taken (suc k) d tray x items n is old low at = old k d (omega (arith, low)) at

-- a place is that of some link out of the node, or of none
pub placed : (links : List Link) (n place count : ℕ) → ((l : ℕ) × (l < count) × ((link_at links l).from ≡ n) × (place_among links l ≡ place)) ⊎ ((l : ℕ) → l < count → (link_at links l).from ≡ n → place_among links l ≢ place)
placed links n place zero = inr (λ l low. absurd (omega (arith, low)))
placed links n place (suc count) = ⊎_elim
    (λ (h : (l : ℕ) × (l < count) × ((link_at links l).from ≡ n) × (place_among links l ≡ place)). inl (h.0, omega (arith, h.1), h.2, h.3))
    (λ (h : (l : ℕ) → l < count → (link_at links l).from ≡ n → place_among links l ≢ place). dite (ℕ_discrete (link_at links count).from n)
    (λ from. dite (ℕ_discrete (place_among links count) place)
    (λ is. inl (count, omega arith, from, is))
    (λ ne. inr (λ l low e is. dite (ℕ_discrete l count) (λ same. ne (ap (place_among links) (sym same) ∙ is)) (λ apart. h l (omega (arith, low, apart)) e is))))
    (λ ne. inr (λ l low e is. dite (ℕ_discrete l count) (λ same. ne (ap (λ j. (link_at links j).from) (sym same) ∙ e)) (λ apart. h l (omega (arith, low, apart)) e is))))
    (placed links n place count)

module _ {B M Y : Type 0} (memory : B → M) (has_room : B → ℕ → Bool) (after : M → List Y → M) (gives : M → List Y → ℕ → Y) where
  module _ (slots word r : ℕ) (me new : Me (Option (Item B Y)) (View (Option (Item B Y)) B))
      (told : entered (IsFull memory has_room after gives) (IsDone memory has_room after gives) (step slots word 0 0 none) me r new) where
    pub items_are : new.0.shelf.items ≡ told.1
    items_are = ap (λ (m : Me (Option (Item B Y)) (View (Option (Item B Y)) B)). m.0.shelf.items) told.2

    pub same_duty : new.0.duty ≡ me.0.duty
    same_duty = ap (λ (m : Me (Option (Item B Y)) (View (Option (Item B Y)) B)). m.0.duty) told.2

    pub is_sole : IsIdle me → IsSole new
    is_sole idle = record {
      live = ap (λ (m : Me (Option (Item B Y)) (View (Option (Item B Y)) B)). m.0.is_live) told.2 ∙ idle.live;
      on = ap (λ (m : Me (Option (Item B Y)) (View (Option (Item B Y)) B)). m.0.is_still) told.2;
      none_out = ap (λ (m : Me (Option (Item B Y)) (View (Option (Item B Y)) B)). m.0.shelf.out) told.2;
      clear = ap (λ (m : Me (Option (Item B Y)) (View (Option (Item B Y)) B)). m.1) told.2 ∙ idle.clear;
    }

    pub size_is : length new.0.shelf.items ≡ slots
    size_is = ap length items_are ∙ told.3

    pub words_long : length me.0.duty.before ≤ length new.0.shelf.words
    words_long = omega (arith, told.8, ap (λ (m : Me (Option (Item B Y)) (View (Option (Item B Y)) B)). length m.0.shelf.words) told.2)

    pub clear_is : (nodes : ℕ) → length me.0.duty.before ≡ nodes → AreClear nodes new.0.shelf.words
    clear_is nodes same = subst (λ n. AreClear n new.0.shelf.words) same (λ n low. ap (λ (m : Me (Option (Item B Y)) (View (Option (Item B Y)) B)). get_elem? m.0.shelf.words (length me.0.duty.before + 513 + n)) told.2 ∙ told.9 n low)

    pub tray_unused : me.0.duty.started ≡ [] → (n : ℕ) → n < length me.0.duty.before → (tray : Tray B Y) × BenchAt new.0.shelf.items n tray × (get_elem? me.0.duty.before n ≡ some tray.bench) × HasRoomFor tray
    tray_unused unused n low =
        let x = (told.5 (λ k h. ap (λ (xs : List ℕ). has xs k) unused)).0.0 n low in
        let d = x.1.0 low in
        (d.0, ap (λ l. get_elem? l n) items_are ∙ (x.2 ∙ ap some d.1), d.2, d.3)

    pub words_unused : me.0.duty.started ≡ [] → (others : List ℕ) × (new.0.shelf.words ≡ (fresh (length me.0.duty.before) me.0.duty.links).counters ++ others)
    words_unused unused =
        let w = (told.5 (λ k h. ap (λ (xs : List ℕ). has xs k) unused)).0.1 in
        (w.0, ap (λ (m : Me (Option (Item B Y)) (View (Option (Item B Y)) B)). m.0.shelf.words) told.2 ∙ w.1)

    pub above_unused : me.0.duty.started ≡ [] → word < length me.0.duty.before → 0 < r
    above_unused unused low = (told.5 (λ k h. ap (λ (xs : List ℕ). has xs k) unused)).1 low

    module _ (all : (n : ℕ) → n < length me.0.duty.before → has me.0.duty.started n ≡ true) where
      pub tray_played : (n : ℕ) → n < length me.0.duty.before → (tray : Tray B Y) × BenchAt new.0.shelf.items n tray × IsHomeBench memory has_room after gives me.0.duty.links me.0.duty.before n tray
      tray_played n low =
          let x = (told.4 all).0.0 n low in
          let d = x.1.0 low in
          (d.0, ap (λ l. get_elem? l n) items_are ∙ (x.2 ∙ ap some d.1), d.2)

      pub value_played : (l : ℕ) → l < length me.0.duty.links → (value : Y) × (get_elem? new.0.shelf.items (length me.0.duty.before + l) ≡ some (Some (Value value)))
      value_played l low =
          let x = (told.4 all).0.1 l low in
          let v = x.1.1 (omega arith) in
          (v.0, ap (λ q. get_elem? q (length me.0.duty.before + l)) items_are ∙ (x.2 ∙ ap some v.1))

      pub spent_below : word < length me.0.duty.before → r ≡ 0
      spent_below low = (told.4 all).1 low

      pub home_tray : (n : ℕ) (tray : Tray B Y) → n < length me.0.duty.before → BenchAt new.0.shelf.items n tray → IsHomeBench memory has_room after gives me.0.duty.links me.0.duty.before n tray
      home_tray n tray low at =
          let it = tray_played n low in
          subst (IsHomeBench memory has_room after gives me.0.duty.links me.0.duty.before n) (same_tray it.0 tray (some-injective (Some (Bench it.0)) (Some (Bench tray)) (sym it.1 ∙ at))) it.2

      pub spent_played : (links : List Link) (nodes : ℕ) → me.0.duty.links ≡ links → length me.0.duty.before ≡ nodes → AreLinks nodes links → AreSpent has_room links nodes new.0.shelf.items
      spent_played links nodes same long are = subst (λ (z : List Link × ℕ). AreLinks z.1 z.0 → AreSpent has_room z.0 z.1 new.0.shelf.items) (λ i. (same i, long i))
          (λ are'. record {
            benches = λ n low. let it = tray_played n low in (it.0, it.1);
            rooms = λ l tray low at.
                let up = are'.upward l no_link low in
                let within = are'.within l no_link low in
                let from : (link_at me.0.duty.links l).from < length me.0.duty.before = omega (arith, up, within) in
                let home = home_tray (link_at me.0.duty.links l).from tray from at in
                let old = there_is me.0.duty.before (link_at me.0.duty.links l).from from in
                (home.2 old.0 old.1).places l low refl;
            values = value_played;
          }) are

      -- a bench that has its values back
      pub returned : (links : List Link) (nodes : ℕ) → me.0.duty.links ≡ links → (n : ℕ) (old now : Tray B Y) → n < length me.0.duty.before → BenchAt new.0.shelf.items n old → IsBack memory has_room links n old now
          → IsReturned memory has_room after gives links me.0.duty.before n now.bench × HasRoomFor now
      returned links nodes same n old now low at back =
          let home = subst (λ ls. IsHomeBench memory has_room after gives ls me.0.duty.before n old) same (home_tray n old low at) in (
            (
              (λ before tells. back.memory_stays ∙ home.0 before tells),
              (λ first first_is place. ⊎_elim
                  (λ (h : (l : ℕ) × (l < length links) × ((link_at links l).from ≡ n) × (place_among links l ≡ place)).
                  ap (has_room now.bench) (sym h.3) ∙ (back.places h.0 h.1 h.2 ∙ (sym ((home.2 first first_is).had h.0 h.1 h.2 refl) ∙ ap (has_room first) h.3)))
                  (λ (h : (l : ℕ) → l < length links → (link_at links l).from ≡ n → place_among links l ≢ place). back.others place h ∙ (home.2 first first_is).others place h)
                  (placed links n place (length links))),
            ),
            subst (λ given. (given.items ≡ []) × (most_links ≤ vec_capacity given)) (sym back.given) home.1,
          )
