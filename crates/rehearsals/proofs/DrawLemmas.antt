-- What was drawn turn by turn.
--     adds_none      no turn
--     adds_more      one turn more
--     adds_all, adds_shut      all turns
use Rattle.std.proofs.Common.{◌≡◌, ℕ, zero, suc, ◌+◌, ◌≤◌, List, [], ◌++◌, refl, sym, ◌∙◌, subst, arith, append_assoc, append-nil}
use Rattle.rand_pcg.specs.Lcg.{Lcg}
use Rattle.rehearsal_laws.specs.Lines.{Adds}
use Rattle.rehearsal_model.specs.Rehearsals.{Drawn, drawn}

module _ {X : Type 0} where
  pub adds_none : (turn : ℕ → Lcg → Drawn (List X)) (i : ℕ) (old : List X) (g : Lcg) → Adds old g (drawn turn 0 i g) old g
  adds_none turn i old g = record { items = sym (append-nil old); generator = refl }

  next : (turn : ℕ → Lcg → Drawn (List X)) (n i k : ℕ) (old now new : List X) (g h after : Lcg) → k ≡ i + n → Adds old g (drawn turn n i g) now h → Adds now h (turn k h) new after → Adds old g (drawn turn (suc n) i g) new after
  next turn zero i k old now new g h after at so_far one =
      let index : k ≡ i = omega (arith, at) in
      let from : h ≡ g = so_far.generator in
      let front : now ≡ old = so_far.items ∙ append-nil old in
      record {
        items = rw (one.items, front, index, from, append-nil (turn i g).0) refl;
        generator = rw (one.generator, index, from) refl;
      }
  next turn (suc n) i k old now new g h after at so_far one =
      let first = turn i g in
      let others = drawn turn n (i + 1) first.1 in
      let all = next turn n (i + 1) k (old ++ first.0) now new first.1 h after (omega (arith, at))
      (record { items = so_far.items ∙ sym (append_assoc old first.0 others.0); generator = so_far.generator }) one in
      record { items = all.items ∙ append_assoc old first.0 (drawn turn (suc n) (i + 1) first.1).0; generator = all.generator }

  -- the turn of this index follows on so many
  pub adds_more : (turn : ℕ → Lcg → Drawn (List X)) (n i k m : ℕ) (old now new : List X) (g h after : Lcg) → k ≡ i + n → m ≡ n + 1 → Adds old g (drawn turn n i g) now h → Adds now h (turn k h) new after → Adds old g (drawn turn m i g) new after
  adds_more turn n i k m old now new g h after at more so_far one =
      subst (λ count. Adds old g (drawn turn count i g) new after) (sym (same m n more)) (next turn n i k old now new g h after at so_far one)
    where
      same : (m n : ℕ) → m ≡ n + 1 → m ≡ suc n
      same m n is = omega (arith, is)

  -- behind the last turn all were made
  pub adds_all : (turn : ℕ → Lcg → Drawn (List X)) (n count i : ℕ) (old new : List X) (g after : Lcg) → count ≤ n → n ≤ count → Adds old g (drawn turn n i g) new after → Adds old g (drawn turn count i g) new after
  adds_all turn n count i old new g after ge le so_far = subst (λ m. Adds old g (drawn turn m i g) new after) (same n count ge le) so_far
    where
      same : (n m : ℕ) → m ≤ n → n ≤ m → n ≡ m
      same n m ge le = omega (arith, ge, le)

  -- the same where the count is shut
  pub adds_shut : (turn : ℕ → Lcg → Drawn (List X)) (n count shut : ℕ) (new : List X) (g after : Lcg) → count ≤ n → n ≤ count → shut ≡ count → Adds [] g (drawn turn n 0 g) new after → Adds [] g (drawn turn shut 0 g) new after
  adds_shut turn n count shut new g after ge le is so_far = subst (λ m. Adds [] g (drawn turn m 0 g) new after) (same n count shut ge le is) so_far
    where
      same : (n m shut : ℕ) → m ≤ n → n ≤ m → shut ≡ m → n ≡ shut
      same n m shut ge le is = omega (arith, ge, le, is)
