-- A filter, tap by tap and frame by frame.
--     weighted_more      one tap more
--     behind-same      the past and what sounds alike behind it
--     past-same      what of the past is not yet stepped
--     stepped      one sample of the past stepped
--     past-kept      the past behind a period
use Rattle.std.proofs.Common.{◌≡◌, ℕ, zero, suc, ◌+◌, ◌-◌, ◌<◌, ◌≤◌, ◌⊎◌, inl, inr, List, [], ◌∷◌, ◌++◌, add-one, length, map, take, set, get_or, get_or-set_other, ℤ, pos, ◌+ℤ◌, ◌*ℤ◌, refl, sym, ◌∙◌, ap, arith, length-append, length-drop, get_or-drop}
use Rattle.std.specs.Int.{int_shr}
use Rattle.std.proofs.lemmas.Bool.{cases_lt}
use Rattle.std.proofs.lemmas.List.{ext_get_or, get_or_append_left, length-set, map-append}
use Rattle.std.proofs.lemmas.List.Sums.{fold-append}
use Rattle.guests.specs.Sounds.{filtered_at, last}
use Rattle.session_model.specs.Samples.{below, clamp, sample, total}
use Rattle.session_laws.proofs.ActivationLemmas.{get_or-map_below, length-map_below}
use Rattle.session_laws.proofs.PlaceLemmas.{map-same}
use Rattle.client_kinds.proofs.FillLemmas.{fill_more}
use Rattle.guests.specs.Turns.{SoundsAs, weighted}

sample_right : (xs ys : List ℤ) (i j : ℕ) → i ≡ length xs + j → sample (xs ++ ys) i ≡ sample ys j
sample_right [] ys i j h = ap (λ n. sample ys n) (omega (arith, h))
sample_right (x ∷ xs) ys zero j h = absurd (omega (arith, h))
sample_right (x ∷ xs) ys (suc i) j h = sample_right xs ys i j (omega (arith, h))

pub weighted_more : (taps inputs : List ℤ) (at i : ℕ) → weighted taps inputs at (i + 1) ≡ weighted taps inputs at i +ℤ (sample taps i *ℤ sample inputs (at - i))
weighted_more taps inputs at i =
    ap (weighted taps inputs at) (add-one i)
    ∙ ap total (map-append (λ k. sample taps k *ℤ sample inputs (at - k)) (below i) (i ∷ []))
    ∙ fold-append ◌+ℤ◌ (pos 0) (map (λ k. sample taps k *ℤ sample inputs (at - k)) (below i)) ((sample taps i *ℤ sample inputs (at - i)) ∷ [])

pub behind-same : (past x sound : List ℤ) → SoundsAs x sound → SoundsAs (past ++ x) (past ++ sound)
behind-same [] x sound same i = same i
behind-same (a ∷ past) x sound same zero = refl
behind-same (a ∷ past) x sound same (suc i) = behind-same past x sound same i

pub filtered-same : (taps : List ℤ) (shift : ℕ) (inputs others : List ℤ) → SoundsAs inputs others → (n : ℕ) → filtered_at taps shift inputs n ≡ filtered_at taps shift others n
filtered-same taps shift inputs others same n =
    ap (λ v. clamp (int_shr (total v) shift))
    (map-same (λ i. sample taps i *ℤ sample inputs (n + (length taps - 1) - i)) (λ i. sample taps i *ℤ sample others (n + (length taps - 1) - i)) (below (length taps))
    (λ i. ap (λ v. sample taps i *ℤ v) (same (n + (length taps - 1) - i))))

pub past-same : (past first x : List ℤ) (j k : ℕ) → length past ≡ length first → ((i : ℕ) → j ≤ i → get_or past i (pos 0) ≡ get_or first i (pos 0)) → j ≤ k → sample (past ++ x) k ≡ sample (first ++ x) k
past-same past first x j k size rest low = go (cases_lt k (length past))
  where
    go : (k < length past) ⊎ (length past ≤ k) → sample (past ++ x) k ≡ sample (first ++ x) k
    go (inl h) = get_or_append_left past x (pos 0) k h ∙ rest k low ∙ sym (get_or_append_left first x (pos 0) k (omega (arith, h, size)))
    go (inr h) = sample_right past x k (k - length past) (omega (arith, h)) ∙ sym (sample_right first x k (k - length past) (omega (arith, h, size)))

pub past-kept : (past x sound : List ℤ) (period : ℕ) → SoundsAs x sound → length sound ≡ period → map (λ k. sample (past ++ x) (k + period)) (below (length past)) ≡ last (length past) (past ++ sound)
past-kept past x sound period same size =
    ext_get_or (pos 0) (map (λ k. sample (past ++ x) (k + period)) (below (length past))) (last (length past) (past ++ sound))
    (length-map_below (λ k. sample (past ++ x) (k + period)) (length past) ∙ sym lengths)
    (λ k h.
    get_or-map_below (λ i. sample (past ++ x) (i + period)) (length past) k (pos 0) (omega (arith, h, length-map_below (λ i. sample (past ++ x) (i + period)) (length past)))
    ∙ behind-same past x sound same (k + period)
    ∙ ap (sample (past ++ sound)) (turn k)
    ∙ sym (get_or-drop (length (past ++ sound) - length past) (past ++ sound) k (pos 0)))
  where
    all : length (past ++ sound) ≡ length past + period
    all = length-append past sound ∙ ap (λ n. length past + n) size

    lengths : length (last (length past) (past ++ sound)) ≡ length past
    lengths = omega (arith, all, length-drop (length (past ++ sound) - length past) (past ++ sound))

    turn : (k : ℕ) → k + period ≡ length (past ++ sound) - length past + k
    turn k = omega (arith, all)

-- one sample of the past stepped
pub record IsStepped (past first x : List ℤ) (period j : ℕ) : Type 0 where
  pub size : length past ≡ length first
  pub done : take j past ≡ map (λ k. sample (first ++ x) (k + period)) (below j)
  pub rest : (k : ℕ) → j ≤ k → get_or past k (pos 0) ≡ get_or first k (pos 0)

pub stepped : (past first x : List ℤ) (period j : ℕ) (y : ℤ) → j < length past → IsStepped past first x period j → y ≡ sample (past ++ x) (j + period) → IsStepped (set past j y) first x period (j + 1)
stepped past first x period j y within h is = record {
  size = length-set past j y ∙ h.size;
  done = fill_more (λ k. sample (first ++ x) (k + period)) past j y within h.done (is ∙ past-same past first x j (j + period) h.size h.rest (omega arith));
  rest = λ k low. get_or-set_other past j k y (pos 0) (λ e. apart k low e) ∙ h.rest k (omega (arith, low));
}
  where
    apart : (k : ℕ) → j + 1 ≤ k → k ≡ j → ⊥
    apart k low e = omega (arith, low, e)
