-- Which bench a client gets.
--     past      nobody's past the last
--     own-is      whose bench it is
--     nobodys      no bench is
--     seat-within, seat-kind, seat-was      one that is there, of its kind, that was its own, or nobody's where it had none
use Rattle.std.proofs.Common.{◌≡◌, ℕ, zero, suc, ◌<◌, ◌≤◌, Bool, true, false, cond, ◌==◌, ◌⊎◌, inl, inr, List, [], ◌∷◌, get_or, length, position, Option, Some, None, is_none, nat_lt, refl, sym, ◌∙◌, ap, arith, eq-eqb, eqb-true, ltb-false, ltb-true, true≢false}
use Rattle.std.specs.List.{position_or_len}
use Rattle.std.proofs.lemmas.List.{get_or_default}
use Rattle.std.proofs.lemmas.List.Quantifiers.{position-Some}
use Rattle.session_laws.proofs.LoopLemmas.{and_parts}
use Rattle.session_laws.proofs.PlaceLemmas.{position-found}
use Rattle.midi_seats.specs.declared.seating.Owned.{Owned}
use Rattle.midi_seats.specs.Seating.{is_free, is_own, is_owned_by, no_owned, seat_for, seat_from}

one : (a b : ℕ) → Some a ≡ Some b → a ≡ b
one a b e = cc

nothing-some : (a : ℕ) → None ≡ Some a → ⊥
nothing-some a e = cc

pub past : (benches : List Owned) (b : ℕ) → length benches ≤ b → get_or benches b no_owned ≡ no_owned
past [] b h = refl
past (bench ∷ benches) zero h = absurd (omega (arith, h))
past (bench ∷ benches) (suc b) h = past benches b (omega (arith, h))

pub own-is : (birth : ℕ) (owner : Option ℕ) → is_own birth owner ≡ true → owner ≡ Some birth
own-is birth None e = absurd (true≢false (sym e))
own-is birth (Some other) e = ap Some (eqb-true other birth e)

is-own : (birth : ℕ) (owner : Option ℕ) → owner ≡ Some birth → is_own birth owner ≡ true
is-own birth None e = absurd (nothing-some birth e)
is-own birth (Some other) e = eq-eqb other birth (one other birth e)

free-is : (owner : Option ℕ) → is_none owner ≡ true → owner ≡ None
free-is None e = refl
free-is (Some other) e = absurd (true≢false (sym e))

-- whose birth no bench has
pub nobodys : (benches : List Owned) (birth : ℕ) → position (is_owned_by birth) benches ≡ None → (b : ℕ) → (get_or benches b no_owned).owner ≡ Some birth → ⊥
nobodys benches birth none b e = go (nat_lt b (length benches)) refl
  where
    go : (t : Bool) → nat_lt b (length benches) ≡ t → ⊥
    go true f =
        let within : b < length benches = ltb-true b (length benches) f in
        let bench : Owned = get_or benches b no_owned in
        nothing-some (position_or_len (is_owned_by birth) benches)
        (sym none ∙ position-found (is_owned_by birth) benches bench (b, within, get_or_default benches b bench no_owned within) (is-own birth bench.owner e))
    go false f = nothing-some birth (sym (ap (λ (bench : Owned). bench.owner) (past benches b (ltb-false b (length benches) f))) ∙ e)

record IsSeat (benches : List Owned) (birth code place : ℕ) : Type 0 where
  within : place < length benches
  kind : (get_or benches place no_owned).code ≡ code
  was : ((get_or benches place no_owned).owner ≡ Some birth) ⊎ (((get_or benches place no_owned).owner ≡ None) × ((b : ℕ) → (get_or benches b no_owned).owner ≡ Some birth → ⊥))

module _ (benches : List Owned) (birth code place : ℕ) (e : seat_for birth code benches ≡ Some place) where
  its : IsSeat benches birth code place
  its = go (position (is_owned_by birth) benches) refl e
    where
      free : position (is_owned_by birth) benches ≡ None → position (is_free code) benches ≡ Some place → IsSeat benches birth code place
      free none f =
          let w = position-Some (is_free code) benches place no_owned f in
          let both = and_parts (is_none (get_or benches place no_owned).owner) ((get_or benches place no_owned).code == code) w.1 in
          record {
            within = w.0;
            kind = eqb-true (get_or benches place no_owned).code code both.1;
            was = inr (free-is (get_or benches place no_owned).owner both.0, nobodys benches birth none);
          }

      own : (p : ℕ) → position (is_owned_by birth) benches ≡ Some p → (t : Bool) → ((get_or benches p no_owned).code == code) ≡ t → cond t (Some p) None ≡ Some place → IsSeat benches birth code place
      own p f false g h = absurd (nothing-some place h)
      own p f true g h =
          let same : p ≡ place = one p place h in
          let w = position-Some (is_owned_by birth) benches p no_owned f in
          record {
            within = (let low : p < length benches = w.0 in omega (arith, low, same));
            kind = ap (λ q. (get_or benches q no_owned).code) (sym same) ∙ eqb-true (get_or benches p no_owned).code code g;
            was = inl (ap (λ q. (get_or benches q no_owned).owner) (sym same) ∙ own-is birth (get_or benches p no_owned).owner w.1);
          }

      go : (o : Option ℕ) → position (is_owned_by birth) benches ≡ o → seat_from code benches o ≡ Some place → IsSeat benches birth code place
      go None f g = free f g
      go (Some p) f g = own p f ((get_or benches p no_owned).code == code) refl g

  pub seat-within : place < length benches
  seat-within = its.within

  pub seat-kind : (get_or benches place no_owned).code ≡ code
  seat-kind = its.kind

  pub seat-was : ((get_or benches place no_owned).owner ≡ Some birth) ⊎ (((get_or benches place no_owned).owner ≡ None) × ((b : ℕ) → (get_or benches b no_owned).owner ≡ Some birth → ⊥))
  seat-was = its.was
