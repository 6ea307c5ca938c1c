-- Two lists beside each other, as the ends of rings and those who have the other ends, before and behind calls of some of them.
--     AreEach P rings recordings rings_after recordings_after      what holds at each place
--     each-none      before the first call
--     each-set      behind one more
--     each-weaker      what follows at each place
--     GivenUpTo, BrokenAt      the recorders below a place gave up blocks, and the one there failed
--     up_to-none, up_to-more, up_to-all, up_to-broken      up to which place
use Rattle.std.proofs.Common.{◌≡◌, ◌≢◌, ℕ, ◌+◌, ◌<◌, ◌≤◌, ◌⊎◌, inl, inr, List, length, set, slice_get, Some, refl, sym, ◌∙◌, subst, arith, length-set}
use Rattle.std.proofs.lemmas.Bool.{cases_lt}
use Rattle.std.proofs.lemmas.Option.{same_Some, slice_get_within}
use Rattle.graph_word.proofs.Fronts.{got_else, got_here}
use Rattle.driver_words.specs.Rings.{Sending}
use Rattle.recorder_files.specs.Recorders.{Recording}
use Rattle.session_works.specs.Giving.{BrokeOff, GaveUp}

module _ {A B : Type 0} where
  pub record AreEach (P : ℕ → A → B → A → B → Type 0) (rings : List A) (recordings : List B) (rings_after : List A) (recordings_after : List B) : Type 0 where
    pub rings_same : length rings_after ≡ length rings
    pub recordings_same : length recordings_after ≡ length recordings
    pub each : (i : ℕ) (ring : A) (recording : B) (ring_after : A) (recording_after : B) → slice_get rings i ≡ Some ring → slice_get recordings i ≡ Some recording
        → slice_get rings_after i ≡ Some ring_after → slice_get recordings_after i ≡ Some recording_after → P i ring recording ring_after recording_after

  pub each-weaker : (P Q : ℕ → A → B → A → B → Type 0) (rings : List A) (recordings : List B) (rings_after : List A) (recordings_after : List B)
      → ((i : ℕ) (ring : A) (recording : B) (ring_after : A) (recording_after : B) → i < length recordings → P i ring recording ring_after recording_after → Q i ring recording ring_after recording_after)
      → AreEach P rings recordings rings_after recordings_after → AreEach Q rings recordings rings_after recordings_after
  each-weaker P Q rings recordings rings_after recordings_after weaker are = record {
    rings_same = are.rings_same;
    recordings_same = are.recordings_same;
    each = λ i ring recording ring_after recording_after a b c d. weaker i ring recording ring_after recording_after (slice_get_within recordings i recording b) (are.each i ring recording ring_after recording_after a b c d);
  }

  pub each-none : (P : ℕ → A → B → A → B → Type 0) (rings : List A) (recordings : List B) → ((i : ℕ) (ring : A) (recording : B) → P i ring recording ring recording)
      → AreEach P rings recordings rings recordings
  each-none P rings recordings holds = record {
    rings_same = refl;
    recordings_same = refl;
    each = λ i ring recording ring_after recording_after a b c d.
        subst (λ (s : A). P i ring recording s recording_after) (same_Some ring ring_after (sym a ∙ c))
        (subst (λ (r : B). P i ring recording ring r) (same_Some recording recording_after (sym b ∙ d)) (holds i ring recording));
  }

  pub each-set : (P Q : ℕ → A → B → A → B → Type 0) (rings : List A) (recordings : List B) (rings_met : List A) (recordings_met : List B)
      (i : ℕ) (ring ring_after : A) (recording recording_after : B) → slice_get rings_met i ≡ Some ring → slice_get recordings_met i ≡ Some recording
      → ((k : ℕ) (a : A) (b : B) (c : A) (d : B) → k ≢ i → P k a b c d → Q k a b c d)
      → ((a : A) (b : B) → P i a b ring recording → Q i a b ring_after recording_after)
      → AreEach P rings recordings rings_met recordings_met → AreEach Q rings recordings (set rings_met i ring_after) (set recordings_met i recording_after)
  each-set P Q rings recordings rings_met recordings_met i ring ring_after recording recording_after ring_there recording_there others here are = record {
    rings_same = length-set rings_met i ring_after ∙ are.rings_same;
    recordings_same = length-set recordings_met i recording_after ∙ are.recordings_same;
    each = λ k a b c d p q r s. at k a b c d p q r s (cases_lt k i) (cases_lt i k);
  }
    where
      elsewhere : (k : ℕ) (a : A) (b : B) (c : A) (d : B) → slice_get rings k ≡ Some a → slice_get recordings k ≡ Some b
          → slice_get (set rings_met i ring_after) k ≡ Some c → slice_get (set recordings_met i recording_after) k ≡ Some d → k ≢ i → Q k a b c d
      elsewhere k a b c d p q r s other = others k a b c d other (are.each k a b c d p q (sym (got_else rings_met i k ring_after other) ∙ r) (sym (got_else recordings_met i k recording_after other) ∙ s))

      there : (a : A) (b : B) (c : A) (d : B) → slice_get rings i ≡ Some a → slice_get recordings i ≡ Some b
          → slice_get (set rings_met i ring_after) i ≡ Some c → slice_get (set recordings_met i recording_after) i ≡ Some d → Q i a b c d
      there a b c d p q r s =
          let ring_is : ring_after ≡ c = same_Some ring_after c (sym (got_here rings_met i ring_after (slice_get_within rings_met i ring ring_there)) ∙ r) in
          let recording_is : recording_after ≡ d = same_Some recording_after d (sym (got_here recordings_met i recording_after (slice_get_within recordings_met i recording recording_there)) ∙ s) in
          subst (λ (x : A). Q i a b x d) ring_is (subst (λ (y : B). Q i a b ring_after y) recording_is (here a b (are.each i a b ring recording p q ring_there recording_there)))

      at : (k : ℕ) (a : A) (b : B) (c : A) (d : B) → slice_get rings k ≡ Some a → slice_get recordings k ≡ Some b
          → slice_get (set rings_met i ring_after) k ≡ Some c → slice_get (set recordings_met i recording_after) k ≡ Some d → (k < i) ⊎ (i ≤ k) → (i < k) ⊎ (k ≤ i) → Q k a b c d
      at k a b c d p q r s (inl below) y = elsewhere k a b c d p q r s (λ e. less k i below e)
        where
          less : (m n : ℕ) → m < n → m ≡ n → ⊥
          less m n h e = omega (arith, h, e)
      at k a b c d p q r s (inr x) (inl above) = elsewhere k a b c d p q r s (λ e. more k i above e)
        where
          more : (m n : ℕ) → n < m → m ≡ n → ⊥
          more m n h e = omega (arith, h, e)
      at k a b c d p q r s (inr x) (inr y) = same (omega (arith, x, y)) p q r s
        where
          same : i ≡ k → slice_get rings k ≡ Some a → slice_get recordings k ≡ Some b → slice_get (set rings_met i ring_after) k ≡ Some c → slice_get (set recordings_met i recording_after) k ≡ Some d → Q k a b c d
          same e p q r s =
              subst (λ (n : ℕ). Q n a b c d) e
              (there a b c d (subst (λ (n : ℕ). slice_get rings n ≡ Some a) (sym e) p) (subst (λ (n : ℕ). slice_get recordings n ≡ Some b) (sym e) q)
              (subst (λ (n : ℕ). slice_get (set rings_met i ring_after) n ≡ Some c) (sym e) r) (subst (λ (n : ℕ). slice_get (set recordings_met i recording_after) n ≡ Some d) (sym e) s))

-- nothing happened to a recorder and its ring
abbrev pub IsLeft : Sending → Recording → Sending → Recording → Type 0
IsLeft ring recording ring_after after = (ring_after ≡ ring) × (after ≡ recording)

abbrev pub GivenUpTo : ℕ → ℕ → ℕ → Sending → Recording → Sending → Recording → Type 0
GivenUpTo most place i ring recording ring_after after = (i < place → GaveUp most ring recording ring_after after) × (place ≤ i → IsLeft ring recording ring_after after)

abbrev pub BrokenAt : ℕ → ℕ → ℕ → Sending → Recording → Sending → Recording → Type 0
BrokenAt most place i ring recording ring_after after = (i < place → GaveUp most ring recording ring_after after) × (i ≡ place → BrokeOff ring recording ring_after after) × (place < i → IsLeft ring recording ring_after after)

pub up_to-none : (most : ℕ) (rings : List Sending) (recordings : List Recording) → AreEach (GivenUpTo most 0) rings recordings rings recordings
up_to-none most rings recordings = each-none (GivenUpTo most 0) rings recordings (λ i ring recording. (λ low. absurd (none i low), λ _. (refl, refl)))
  where
    none : (n : ℕ) → n < 0 → ⊥
    none n p = omega (arith, p)

-- what a recorder was before its call, and its ring
left-of : (most place : ℕ) (a : Sending) (b : Recording) (ring : Sending) (recording : Recording) → GivenUpTo most place place a b ring recording → IsLeft a b ring recording
left-of most place a b ring recording given = given.1 (omega arith)

pub up_to-more : (most place : ℕ) (rings : List Sending) (recordings : List Recording) (rings_met : List Sending) (recordings_met : List Recording) (ring ring_after : Sending) (recording recording_after : Recording)
    → slice_get rings_met place ≡ Some ring → slice_get recordings_met place ≡ Some recording → GaveUp most ring recording ring_after recording_after
    → AreEach (GivenUpTo most place) rings recordings rings_met recordings_met → AreEach (GivenUpTo most (place + 1)) rings recordings (set rings_met place ring_after) (set recordings_met place recording_after)
up_to-more most place rings recordings rings_met recordings_met ring ring_after recording recording_after ring_there recording_there gave are =
    each-set (GivenUpTo most place) (GivenUpTo most (place + 1)) rings recordings rings_met recordings_met place ring ring_after recording recording_after ring_there recording_there
    (λ k a b c d other given. (λ low. given.0 (below k place other low), λ high. given.1 (above k place high)))
    (λ a b given. let left = left-of most place a b ring recording given in
    (λ low. subst (λ (s : Sending). GaveUp most s b ring_after recording_after) left.0 (subst (λ (r : Recording). GaveUp most ring r ring_after recording_after) left.1 gave), λ high. absurd (never place high)))
    are
  where
    below : (k n : ℕ) → k ≢ n → k < n + 1 → k < n
    below k n other low = go (cases_lt k n)
      where
        go : (k < n) ⊎ (n ≤ k) → k < n
        go (inl h) = h
        go (inr h) = absurd (other (omega (arith, h, low)))

    above : (k n : ℕ) → n + 1 ≤ k → n ≤ k
    above k n h = omega (arith, h)

    never : (n : ℕ) → n + 1 ≤ n → ⊥
    never n h = omega (arith, h)

pub up_to-broken : (most place : ℕ) (rings : List Sending) (recordings : List Recording) (rings_met : List Sending) (recordings_met : List Recording) (ring ring_after : Sending) (recording recording_after : Recording)
    → slice_get rings_met place ≡ Some ring → slice_get recordings_met place ≡ Some recording → BrokeOff ring recording ring_after recording_after
    → AreEach (GivenUpTo most place) rings recordings rings_met recordings_met → AreEach (BrokenAt most place) rings recordings (set rings_met place ring_after) (set recordings_met place recording_after)
up_to-broken most place rings recordings rings_met recordings_met ring ring_after recording recording_after ring_there recording_there broke are =
    each-set (GivenUpTo most place) (BrokenAt most place) rings recordings rings_met recordings_met place ring ring_after recording recording_after ring_there recording_there
    (λ k a b c d other given. (given.0, λ same. absurd (other same), λ high. given.1 (above k place high)))
    (λ a b given. let left = left-of most place a b ring recording given in (
      λ low. absurd (never place low),
      λ same. subst (λ (s : Sending). BrokeOff s b ring_after recording_after) left.0 (subst (λ (r : Recording). BrokeOff ring r ring_after recording_after) left.1 broke),
      λ high. absurd (never place high),
    ))
    are
  where
    above : (k n : ℕ) → n < k → n ≤ k
    above k n h = omega (arith, h)

    never : (n : ℕ) → n < n → ⊥
    never n h = omega (arith, h)

pub up_to-all : (most place : ℕ) (rings : List Sending) (recordings : List Recording) (rings_after : List Sending) (recordings_after : List Recording) → length recordings ≤ place
    → AreEach (GivenUpTo most place) rings recordings rings_after recordings_after → AreEach (λ (i : ℕ). GaveUp most) rings recordings rings_after recordings_after
up_to-all most place rings recordings rings_after recordings_after all are =
    each-weaker (GivenUpTo most place) (λ (i : ℕ). GaveUp most) rings recordings rings_after recordings_after (λ i ring recording ring_after recording_after low given. given.0 (omega (arith, low, all))) are
