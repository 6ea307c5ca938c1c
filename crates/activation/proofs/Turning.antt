-- What the one seat does with benches and values between two cycles, step by step.
use Rattle.std.proofs.Common.{◌≡◌, ◌≢◌, ℕ, zero, suc, ◌+◌, ◌<◌, ◌≤◌, Bool, true, false, List, [], ◌∷◌, ◌++◌, length, get_or, set, Option, Some, None, refl, sym, ◌∙◌, ap, subst, arith, length-set}
use mathlib.Core.Logic.{dite}
use mathlib.Core.Option.{some, some-injective}
use native.Mathlib.Decide.{ℕ_discrete}
use lib.ListN.{get_elem?}
use Rattle.atomic_table.proofs.Lists.{set_here, set_else, at_longer, at_last}
use Rattle.table_lemmas.proofs.Readings.{inside}
use Rattle.session_laws.specs.jack_types.specs.declared.ports.Link.{Link}
use Rattle.session_laws.specs.session_model.specs.Activation.{link_at, place_among}
use Rattle.activation.specs.declared.views.Tray.{Tray}
use Rattle.activation.specs.declared.views.Item.{Item}
use Rattle.activation.specs.declared.views.Item.TheVariants.{Bench, Value}
use Rattle.activation.specs.Returns.{BenchAt, AreSpent, AreBack}
use Rattle.activation.proofs.Slots.{place-apart}

-- lists with the same items are the same
pub same_items : {A : Type 0} (xs ys : List A) → length xs ≡ length ys → ((n : ℕ) (x : A) → get_elem? xs n ≡ some x → get_elem? ys n ≡ some x) → xs ≡ ys
same_items [] [] long each = refl
same_items [] (y ∷ ys) long each = absurd (omega (arith, long))
same_items (x ∷ xs) [] long each = absurd (omega (arith, long))
same_items (x ∷ xs) (y ∷ ys) long each = λ i. sym (some-injective y x (each 0 x refl)) i ∷ same_items xs ys (omega (arith, long)) (λ n z e. each (suc n) z e) i

pub there_is : {A : Type 0} (xs : List A) (n : ℕ) → n < length xs → (x : A) × (get_elem? xs n ≡ some x)
there_is [] n low = absurd (omega (arith, low))
there_is (x ∷ xs) zero low = (x, refl)
there_is (x ∷ xs) (suc n) low = there_is xs n (omega (arith, low))

module _ {B Y : Type 0} where
  abbrev some_bench : Tray B Y → Option (Item B Y)
  some_bench tray = Some (Bench tray)

  tray_or : Option (Item B Y) → Tray B Y → Tray B Y
  tray_or (Some (Bench tray)) d = tray
  tray_or (Some (Value y)) d = d
  tray_or None d = d

  pub same_tray : (a b : Tray B Y) → Some (Bench a) ≡ Some (Bench b) → a ≡ b
  unfolding tray_or
  same_tray a b e = ap (λ o. tray_or o a) e

  -- what a slot was found to hold is what lies there
  pub found_tray : (items : List (Option (Item B Y))) (n : ℕ) (a b : Tray B Y) (x : Option (Item B Y)) → get_elem? items n ≡ some x → x ≡ Some (Bench a) → BenchAt items n b → b ≡ a
  found_tray items n a b x found is at = same_tray b a (some-injective (Some (Bench b)) (Some (Bench a)) (sym at ∙ (found ∙ ap some is)))

  pub only_bench : (items : List (Option (Item B Y))) (n : ℕ) (tray : Tray B Y) (x : Option (Item B Y)) → get_elem? items n ≡ some x → BenchAt items n tray → x ≡ Some (Bench tray)
  only_bench items n tray x found at = some-injective x (Some (Bench tray)) (sym found ∙ at)

  pub only_value : (items : List (Option (Item B Y))) (n : ℕ) (y : Y) (x : Option (Item B Y)) → get_elem? items n ≡ some x → get_elem? items n ≡ some (Some (Value y)) → x ≡ Some (Value y)
  only_value items n y x found at = some-injective x (Some (Value y)) (sym found ∙ at)

  -- a bench more is taken
  pub one_taken : (first items next : List (Option (Item B Y))) (taken more : List B) (node : ℕ) (x : Option (Item B Y)) (tray : Tray B Y) → next ≡ set items node None → get_elem? items node ≡ some x → x ≡ Some (Bench tray)
      → length taken ≡ node → more ≡ taken ++ tray.bench ∷ [] → ((k : ℕ) → node ≤ k → get_elem? items k ≡ get_elem? first k) → ((n : ℕ) (d : Tray B Y) → n < node → BenchAt first n d → get_elem? taken n ≡ some d.bench)
      → ((k : ℕ) → node + 1 ≤ k → get_elem? next k ≡ get_elem? first k) × ((n : ℕ) (d : Tray B Y) → n < node + 1 → BenchAt first n d → get_elem? more n ≡ some d.bench)
  one_taken first items next taken more node x tray next_is found is long more_is rest old = (
    (λ k h. let ne : k ≢ node = λ e. absurd (omega (arith, h, e)) in ap (λ l. get_elem? l k) next_is ∙ (set_else items node k None ne ∙ rest k (omega (arith, h)))),
    (λ n d low at. ap (λ l. get_elem? l n) more_is ∙ dite (ℕ_discrete n node)
        (λ e. ap (get_elem? (taken ++ tray.bench ∷ [])) e
        ∙ (at_last taken tray.bench node long
        ∙ ap (λ (z : Tray B Y). some z.bench) (sym (found_tray items node tray d x found is (rest node (omega arith) ∙ (ap (get_elem? first) (sym e) ∙ at))))))
        (λ ne. at_longer taken (tray.bench ∷ []) n d.bench (old n d (omega (arith, low, ne)) at))),
  )

  -- a bench more is exchanged
  pub one_swapped : (first items next : List (Option (Item B Y))) (benches now after : List B) (node : ℕ) (x : Option (Item B Y)) (tray new : Tray B Y) (P : Tray B Y → Type 0) → next ≡ set (set items node None) node (Some (Bench new))
      → after ≡ set now node tray.bench → get_elem? items node ≡ some x → x ≡ Some (Bench tray) → node < length items → node < length now → get_elem? now node ≡ some new.bench → P new
      → ((k : ℕ) → node ≤ k → get_elem? items k ≡ get_elem? first k) → ((k : ℕ) → node ≤ k → get_elem? now k ≡ get_elem? benches k)
      → ((n : ℕ) (bench : B) → n < node → get_elem? benches n ≡ some bench → (d : Tray B Y) × BenchAt items n d × (d.bench ≡ bench) × P d) → ((n : ℕ) (d : Tray B Y) → n < node → BenchAt first n d → get_elem? now n ≡ some d.bench)
      → ((k : ℕ) → node + 1 ≤ k → get_elem? next k ≡ get_elem? first k) × ((k : ℕ) → node + 1 ≤ k → get_elem? after k ≡ get_elem? benches k)
      × ((n : ℕ) (bench : B) → n < node + 1 → get_elem? benches n ≡ some bench → (d : Tray B Y) × BenchAt next n d × (d.bench ≡ bench) × P d)
      × ((n : ℕ) (d : Tray B Y) → n < node + 1 → BenchAt first n d → get_elem? after n ≡ some d.bench)
  one_swapped first items next benches now after node x tray new P next_is after_is found is low low' mine good rest rest' laid old = (
    (λ k h. let ne : k ≢ node = λ e. absurd (omega (arith, h, e)) in there k ne ∙ rest k (omega (arith, h))),
    (λ k h. let ne : k ≢ node = λ e. absurd (omega (arith, h, e)) in ap (λ l. get_elem? l k) after_is ∙ (set_else now node k tray.bench ne ∙ rest' k (omega (arith, h)))),
    (λ n bench h at. dite (ℕ_discrete n node)
        (λ e. (
          new,
          ap (get_elem? next) e ∙ (ap (λ l. get_elem? l node) next_is ∙ set_here (set items node None) node (Some (Bench new)) (omega (arith, low, length-set items node None))),
          some-injective new.bench bench (sym mine ∙ (rest' node (omega arith) ∙ (ap (get_elem? benches) (sym e) ∙ at))),
          good,
        ))
        (λ ne. let it = laid n bench (omega (arith, h, ne)) at in (it.0, there n ne ∙ it.1, it.2, it.3))),
    (λ n d h at. ap (λ l. get_elem? l n) after_is ∙ dite (ℕ_discrete n node)
        (λ e. ap (get_elem? (set now node tray.bench)) e ∙ (set_here now node tray.bench low' ∙ ap (λ (z : Tray B Y). some z.bench) (sym (found_tray items node tray d x found is (rest node (omega arith) ∙ (ap (get_elem? first) (sym e) ∙ at))))))
        (λ ne. set_else now node n tray.bench ne ∙ old n d (omega (arith, h, ne)) at)),
  )
    where
      there : (k : ℕ) → k ≢ node → get_elem? next k ≡ get_elem? items k
      there k ne = ap (λ l. get_elem? l k) next_is ∙ (set_else (set items node None) node k (Some (Bench new)) ne ∙ set_else items node k None ne)

  -- the values of the first k links are back
  pub record PartBack {M : Type 0} (memory : B → M) (has_room : B → ℕ → Bool) (links : List Link) (k n : ℕ) (old new : Tray B Y) : Type 0 where
    pub given : new.given ≡ old.given
    pub memory_stays : memory new.bench ≡ memory old.bench
    pub places : (l : ℕ) → l < k → l < length links → (link_at links l).from ≡ n → has_room new.bench (place_among links l) ≡ true
    pub rest : (l : ℕ) → k ≤ l → l < length links → (link_at links l).from ≡ n → has_room new.bench (place_among links l) ≡ false
    pub others : (place : ℕ) → ((l : ℕ) → l < length links → (link_at links l).from ≡ n → place_among links l ≢ place) → has_room new.bench place ≡ has_room old.bench place

  abbrev pub ArePartBack : {M : Type 0} → (B → M) → (B → ℕ → Bool) → List Link → ℕ → ℕ → List (Option (Item B Y)) → List (Option (Item B Y)) → Type 0
  ArePartBack memory has_room links nodes k old new =
      ((n : ℕ) (before : Tray B Y) → n < nodes → BenchAt old n before → (tray : Tray B Y) × BenchAt new n tray × PartBack memory has_room links k n before tray)
      × ((l : ℕ) → k ≤ l → l < length links → (value : Y) × (get_elem? new (nodes + l) ≡ some (Some (Value value))))

  module _ {M : Type 0} (memory : B → M) (has_room : B → ℕ → Bool) (links : List Link) (nodes : ℕ) where
    pub none_back : (items : List (Option (Item B Y))) → AreSpent has_room links nodes items → ArePartBack memory has_room links nodes 0 items items
    none_back items spent = (
      (λ n before low at. (
        before,
        at,
        record {
          given = refl;
          memory_stays = refl;
          places = λ l h low' from. absurd (omega (arith, h));
          rest = λ l h low' from. spent.rooms l before low' (ap (get_elem? items) from ∙ at);
          others = λ place no. refl;
        },
      )),
      (λ l h low. spent.values l low),
    )

    pub all_back : (old new : List (Option (Item B Y))) (k : ℕ) → length links ≤ k → ArePartBack memory has_room links nodes k old new → AreBack memory has_room links nodes old new
    all_back old new k end are n before low at =
        let it = are.0 n before low at in
        (it.0, it.1, record { given = it.2.given; memory_stays = it.2.memory_stays; places = λ l h from. it.2.places l (omega (arith, h, end)) h from; others = it.2.others })

    pub one_back : (first items next : List (Option (Item B Y))) (k : ℕ) → k < length links → (link_at links k).from < nodes → (tray : Tray B Y) (bench : B) → BenchAt items (link_at links k).from tray → BenchAt next (link_at links k).from record { bench = bench; given = tray.given }
        → memory bench ≡ memory tray.bench → has_room bench (place_among links k) ≡ true → ((other : ℕ) → other ≢ place_among links k → has_room bench other ≡ has_room tray.bench other)
        → ((other : ℕ) → other ≢ (link_at links k).from → other ≢ nodes + k → get_elem? next other ≡ get_elem? items other) → ArePartBack memory has_room links nodes k first items → ArePartBack memory has_room links nodes (k + 1) first next
    one_back first items next k low inside' tray bench at now kept here others stays are = (
      (λ n before low' old. let it = are.0 n before low' old in dite (ℕ_discrete n (link_at links k).from)
          (λ e.
          let same : it.0 ≡ tray = same_tray it.0 tray (some-injective (Some (Bench it.0)) (Some (Bench tray)) (sym it.1 ∙ (ap (get_elem? items) e ∙ at))) in
          let part = subst (PartBack memory has_room links k n before) same it.2 in (
            record { bench = bench; given = tray.given },
            ap (get_elem? next) e ∙ now,
            record {
              given = part.given;
              memory_stays = kept ∙ part.memory_stays;
              places = λ l h inside' from. dite (ℕ_discrete l k)
                  (λ is. ap (λ j. has_room bench (place_among links j)) is ∙ here)
                  (λ ne. others (place_among links l) (far l inside' (from ∙ e) ne) ∙ part.places l (omega (arith, h, ne)) inside' from);
              rest = λ l h inside' from. let ne : l ≢ k = λ is. absurd (omega (arith, h, is)) in others (place_among links l) (far l inside' (from ∙ e) ne) ∙ part.rest l (omega (arith, h)) inside' from;
              others = λ place no. others place (λ is. no k low (sym e) (sym is)) ∙ part.others place no;
            },
          ))
          (λ ne. (
            it.0,
            stays n ne (λ is. absurd (omega (arith, is, low'))) ∙ it.1,
            record {
              given = it.2.given;
              memory_stays = it.2.memory_stays;
              places = λ l h inside' from. let apart : l ≢ k = λ is. ne (sym from ∙ ap (λ j. (link_at links j).from) is) in it.2.places l (omega (arith, h, apart)) inside' from;
              rest = λ l h inside' from. it.2.rest l (omega (arith, h)) inside' from;
              others = it.2.others;
            },
          ))),
      (λ l h low'.
          let ne : nodes + l ≢ (link_at links k).from = λ is. absurd (omega (arith, is, inside')) in
          let ne' : nodes + l ≢ nodes + k = λ is. absurd (omega (arith, is, h)) in
          let it = are.1 l (omega (arith, h)) low' in (it.0, stays (nodes + l) ne ne' ∙ it.1)),
    )
      where
        far : (l : ℕ) → l < length links → (link_at links l).from ≡ (link_at links k).from → l ≢ k → place_among links l ≢ place_among links k
        far l inside from ne is = ne (place-apart links l k inside low from is)

pub at_got : {A : Type 0} (l : List A) (i : ℕ) (d : A) → i < length l → get_elem? l i ≡ some (get_or l i d)
at_got [] i d h = absurd (omega (arith, h))
at_got (x ∷ xs) zero d h = refl
at_got (x ∷ xs) (suc i) d h = at_got xs i d (omega (arith, h))
