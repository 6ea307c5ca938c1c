-- A new rack, whose benches nobody owns.
--     same-owned, pool-of, map-empty      the parts of new owners
--     IsSeating-new      it is a seating, with all guests in the pool
use Rattle.std.proofs.Common.{◌≡◌, ℕ, zero, suc, ◌<◌, inl, List, [], ◌∷◌, length, map, replicate, get_or, slice_get, Option, Some, None, IsSome, option_map, true≢false, refl, sym, ◌∙◌, ap, subst, arith}
use Rattle.std.proofs.lemmas.List.{length-map, length-replicate}
use Rattle.jack_types.specs.declared.kinds.Kind.{Kind}
use Rattle.jack_types.specs.declared.kinds.Kind.TheVariants.{Pass, Gain, Mix, Delay, Tone, Click, Meter, Tape, Guest, Midiplay, Midithru, Midilog, Disk}
use Rattle.session_model.specs.Kinds.{first}
use Rattle.bench_rack.specs.client_kinds.specs.Scores.{Score}
use Rattle.bench_rack.specs.client_benches.specs.Seen.{Seen, new_bench, new_standing}
use Rattle.driver_laws.specs.Drivers.{Remembered}
use Rattle.client_seats.specs.Owners.{Owned}
use Rattle.client_seats.specs.Seatings.{IsBare, IsScored, IsSeating}

pub same-owned : (a b : List (Option ℕ)) (s t : List Score) (u v : List (Option Score)) (x y : List Remembered) → a ≡ b → s ≡ t → u ≡ v → x ≡ y
    → ◌≡◌ {A = Owned} (record { births = a; scores = s; pool = u; past = x }) (record { births = b; scores = t; pool = v; past = y })
same-owned a b s t u v x y e f g h =
    ap (λ births. record { births = births; scores = s; pool = u; past = x }) e
    ∙ ap (λ scores. record { births = b; scores = scores; pool = u; past = x }) f
    ∙ ap (λ pool. record { births = b; scores = t; pool = pool; past = x }) g
    ∙ ap (λ past. record { births = b; scores = t; pool = v; past = past }) h

pub pool-of : {X : Type 0} (score : X → Score) (items : List X) → map (option_map score) (map (λ guest. Some guest) items) ≡ map (λ x. Some x) (map score items)
pool-of score [] = refl
pool-of score (guest ∷ items) = ap (λ rest. Some (score guest) ∷ rest) (pool-of score items)

pub map-empty : {X : Type 0} (f : X → Remembered) (xs : List X) → xs ≡ [] → map f xs ≡ []
map-empty f xs h = ap (map f) h

nobody-at : (n p : ℕ) → get_or (replicate {A = Option ℕ} n None) p None ≡ None
nobody-at zero p = refl
nobody-at (suc n) zero = refl
nobody-at (suc n) (suc p) = nobody-at n p

record IsNewBench (bench : Seen) : Type 0 where
  kind : Kind
  period : ℕ
  is : bench ≡ new_bench kind period

new-at : (kinds : List Kind) (period p : ℕ) → IsNewBench (get_or (map (λ kind. new_bench kind period) kinds) p (new_bench Pass 0))
new-at [] period p = record { kind = Pass; period = 0; is = refl }
new-at (kind ∷ kinds) period zero = record { kind = kind; period = period; is = refl }
new-at (kind ∷ kinds) period (suc p) = new-at kinds period p

bare-first : (kind : Kind) → IsBare kind (first [] kind)
bare-first (Guest guest) = refl
bare-first Pass = tt
bare-first (Gain factor shift) = tt
bare-first Mix = tt
bare-first (Delay frames) = tt
bare-first (Tone half level) = tt
bare-first (Click level) = tt
bare-first Meter = tt
bare-first (Tape recorder) = tt
bare-first (Midiplay list) = tt
bare-first Midithru = tt
bare-first Midilog = tt
bare-first (Disk disk) = tt

all-pooled : (scores : List Score) (guest : ℕ) → guest < length scores → IsSome (get_or (map (λ score. Some score) scores) guest None)
all-pooled [] guest h = absurd (omega arith)
all-pooled (score ∷ scores) zero h = refl
all-pooled (score ∷ scores) (suc guest) h = all-pooled scores guest (omega (arith, h))

pooled-is : (scores : List Score) (guest : ℕ) (score : Score) → get_or (map (λ score. Some score) scores) guest None ≡ Some score → slice_get scores guest ≡ Some score
pooled-is [] guest score h = cc
pooled-is (x ∷ scores) zero score h = h
pooled-is (x ∷ scores) (suc guest) score h = pooled-is scores guest score h

pub IsSeating-new : (kinds : List Kind) (period links : ℕ) (scores : List Score) (benches : ℕ) → length kinds ≡ benches
    → IsSeating (record { benches = map (λ kind. new_bench kind period) kinds; links = links })
    (record { births = replicate benches None; scores = scores; pool = map (λ score. Some score) scores; past = [] })
IsSeating-new kinds period links scores benches many = record {
  as_many = length-replicate benches None ∙ sym many ∙ sym (length-map kinds (λ kind. new_bench kind period));
  as_many_guests = length-map scores (λ score. Some score);
  apart = λ p q birth h k. let e : None ≡ Some birth = sym (nobody-at benches p) ∙ h in cc;
  free = λ p h. subst (λ (x : Seen). x.kept.standing ≡ new_standing x.kept.standing.kind x.kept.standing.period) (sym (new-at kinds period p).is) refl;
  lent = λ p birth h. let e : None ≡ Some birth = sym (nobody-at benches p) ∙ h in cc;
  scored = λ p. subst (λ (x : Seen). IsScored x.kept.standing scores) (sym (new-at kinds period p).is) (λ some. absurd (true≢false (sym some)));
  bare = λ p. subst (λ (x : Seen). IsBare x.kept.standing.kind x.kept.standing.memory) (sym (new-at kinds period p).is) (bare-first (new-at kinds period p).kind);
  pool = pooled-is scores;
  guests = λ guest within. inl (all-pooled scores guest within);
  past = λ kept p c h. absurd (omega (arith, c.1));
  past_apart = λ one other c d e. absurd (omega (arith, c.1));
  past_peaks = λ kept c. absurd (omega (arith, c.1));
}
