-- What a seat finds in the slots of a node, and what the play of its bench does.
use Rattle.std.proofs.Common.{rules, take, ◌++◌, ◌≡◌, ℕ, zero, suc, ◌+◌, ◌-◌, ◌<◌, ◌≤◌, Bool, true, false, cond, List, [], ◌∷◌, length, map, get_or, All, Option, Some, None, IsSome, refl, sym, ◌∙◌, ap, subst, arith, true≢false}
use Rattle.std.proofs.lemmas.List.{length-map}
use Rattle.session_laws.specs.jack_types.specs.declared.ports.Link.{Link}
use Rattle.session_laws.specs.session_model.specs.Activation.{place_among, value_of, given_to}
use Rattle.session_laws.specs.session_model.specs.Samples.{below}
use Rattle.session_laws.proofs.ActivationLemmas.{given_to-values, length-map_below, get_or-map_below}
use Rattle.activation.specs.declared.views.Tray.{Tray}
use Rattle.activation.specs.declared.views.Duty.{Duty}
use Rattle.activation.specs.declared.views.Item.{Item}
use Rattle.activation.specs.declared.views.Item.TheVariants.{Bench, Value}
use Rattle.activation.specs.Values.{values_of}
use Rattle.std.proofs.Math.Seq.{take-suc}
use Rattle.activation.specs.Contents.{most_links, Tells, IsFull, IsValueOf, AreValuesOf}
use Rattle.activation.specs.Takens.{IsUnplayed, IsPlayed}
use Rattle.activation.proofs.Listed.{get_or-map, values_of-some}

pub at_mapped : {A C : Type 0} (f : A → C) (xs : List A) (g : ℕ → C) (n k : ℕ) (d : A) → map f xs ≡ map g (below n) → k < n → f (get_or xs k d) ≡ g k
at_mapped f xs g n k d e h =
    let long : length xs ≡ n = sym (length-map xs f) ∙ (ap length e ∙ length-map_below g n) in
    sym (get_or-map f xs k d (f d) (omega (arith, h, long))) ∙ (ap (λ l. get_or l k (f d)) e ∙ get_or-map_below g n k (f d) h)

pub length-mapped : {A C : Type 0} (f : A → C) (xs : List A) (g : ℕ → C) (n : ℕ) → map f xs ≡ map g (below n) → length xs ≡ n
length-mapped f xs g n e = sym (length-map xs f) ∙ (ap length e ∙ length-map_below g n)

pub at_listed : (xs : List ℕ) (g : ℕ → ℕ) (n k d : ℕ) → xs ≡ map g (below n) → k < n → get_or xs k d ≡ g k
at_listed xs g n k d e h = ap (λ l. get_or l k d) e ∙ get_or-map_below g n k d h

pub all_some : {A : Type 0} (xs : List A) → All (λ o. IsSome o) (map Some xs)
all_some [] k d h = absurd (omega (arith, h))
all_some (x ∷ xs) zero d h = search rules
all_some (x ∷ xs) (suc k) d h = all_some xs k d (omega (arith, h))

value_or : {B Y : Type 0} → Option (Item B Y) → Y → Y
value_or (Some (Value y)) d = y
value_or (Some (Bench tray)) d = d
value_or None d = d

pub room_is : (n : ℕ) → most_links ≤ n → 512 ≤ n
unfolding most_links
room_is n h = h

pub has_room_is : (n : ℕ) → 512 ≤ n → most_links ≤ n
unfolding most_links
has_room_is n h = h

pub map-snoc : {A C : Type 0} (f : A → C) (xs : List A) (x : A) → map f (xs ++ x ∷ []) ≡ map f xs ++ f x ∷ []
map-snoc f [] x = refl
map-snoc f (y ∷ ys) x = ap (λ l. f y ∷ l) (map-snoc f ys x)

length-snoc : {A : Type 0} (xs : List A) (x : A) → length (xs ++ x ∷ []) ≡ suc (length xs)
length-snoc [] x = refl
length-snoc (y ∷ ys) x = ap suc (length-snoc ys x)

module _ {B M Y : Type 0} (memory : B → M) (has_room : B → ℕ → Bool) (value_at : B → ℕ → Y) (after : M → List Y → M) (gives : M → List Y → ℕ → Y) where
  pub value_from : (old links : List Link) (benches : List B) (nodes link : ℕ) (value : Y) (x : Option (Item B Y)) → old ≡ links → length benches ≡ nodes
      → IsFull memory has_room after gives old benches (nodes + link) x → x ≡ Some (Value value) → IsValueOf memory has_room after gives links benches link value
  unfolding value_or
  value_from old links benches nodes link value x same long full is =
      let it = full.1 (omega (arith, long)) in
      let one : it.0 ≡ value = ap (λ o. value_or o it.0) (sym it.1 ∙ is) in
      let back : nodes + link - length benches ≡ link = omega (arith, long) in
      subst (λ (z : List Link × ℕ × Y). IsValueOf memory has_room after gives z.0 benches z.1 z.2) (λ i. (same i, back i, one i)) it.2

  pub plays : (duty : Duty B) (node : ℕ) (tray : Tray B Y) (bench : B) → memory bench ≡ after (memory tray.bench) (values_of tray.given.items)
      → ((place : ℕ) → has_room tray.bench place ≡ true → value_at bench place ≡ gives (memory tray.bench) (values_of tray.given.items) place) → ((place : ℕ) → has_room bench place ≡ has_room tray.bench place)
      → IsUnplayed memory has_room value_at after gives duty node tray → IsPlayed memory has_room value_at after gives duty node (record tray { bench = bench })
  plays duty node tray bench is values room u = record {
    held = u.held;
    old = tray.bench;
    old_is = u.bench;
    bench = λ before tells. is ∙ (λ i. after (sym (tells node tray.bench u.bench) i) (given before tells i));
    room = u.room;
    given = (u.given.0, u.given.1, u.given.2);
    rooms = record {
      places = λ l h e. room (place_among duty.links l) ∙ ap (λ b. cond b false (has_room tray.bench (place_among duty.links l))) (sym (u.none_released l h e));
      had = λ l h e on. absurd (true≢false (sym on ∙ u.none_released l h e));
      others = λ place no. room place;
    };
    shown = λ l h e off on before tells.
        values (place_among duty.links l) (sym (room (place_among duty.links l)) ∙ on)
        ∙ ((λ i. gives (sym (tells node tray.bench u.bench) i) (given before tells i) (place_among duty.links l))
        ∙ ap (λ k. gives (before k) (given_to after gives duty.links before k) (place_among duty.links l)) (sym e));
  }
    where
      given : (before : ℕ → M) → Tells memory has_room after gives duty.before before → values_of tray.given.items ≡ given_to after gives duty.links before node
      given before tells =
          ap values_of u.given.1 ∙ (values_of-some u.given.0 ∙ (u.given.3 before tells ∙ sym (given_to-values after gives duty.links before (length duty.before) u.are node)))

  -- one value more
  pub more_values : (links : List Link) (benches : List B) (xs : List ℕ) (i : ℕ) (given : List (Option Y)) (value : Y) → i < length xs → AreValuesOf memory has_room after gives links benches (take i xs) given
      → IsValueOf memory has_room after gives links benches (get_or xs i 0) value → AreValuesOf memory has_room after gives links benches (take (suc i) xs) (given ++ Some value ∷ [])
  more_values links benches xs i given value low so_far is = (
    so_far.0 ++ value ∷ [],
    ap (λ l. l ++ Some value ∷ []) so_far.1 ∙ sym (map-snoc Some so_far.0 value),
    length-snoc so_far.0 value ∙ (ap suc so_far.2 ∙ (sym (length-snoc (take i xs) (get_or xs i 0)) ∙ ap length (sym (take-suc xs i 0 low)))),
    λ before tells. (λ j. so_far.3 before tells j ++ is before tells j ∷ []) ∙ (sym (map-snoc (value_of after gives links before) (take i xs) (get_or xs i 0)) ∙ ap (map (value_of after gives links before)) (sym (take-suc xs i 0 low))),
  )
