-- The playing clients in any order in which links go upward are a plan's nodes.
--     IsPlan-from      so it is in every sound state
--     IsSound-opening, IsSound-graph      the opening state is sound, and the state of each cycle
--     FeedbackInside-graph      the feedback edges of each cycle are between clients
use Rattle.std.proofs.Common.{take, ◌≡◌, ℕ, zero, suc, ◌<◌, ◌≤◌, Bool, true, false, cond, not, ◌&&◌, ◌++◌, decimal, codes, ◌+◌, ◌^◌, List, [], ◌∷◌, length, map, filter, find, set, get_or, swap, Contains, Some, IsPermutation, inl, inr, ◌⊎◌, refl, sym, ◌∙◌, ap, subst, arith, true≢false, get_or-set_same, get_or-set_other, eq-eqb, eqb-true, ◌==◌}
use Rattle.std.specs.List.{position_or_len}
use Rattle.std.specs.Str.{bytes_eq}
use Rattle.std.proofs.lemmas.Bool.{cases_eq}
use Rattle.std.proofs.lemmas.List.{get_or_default, length-set}
use Rattle.std.proofs.lemmas.List.Edits.{swap_is, length-swap}
use Rattle.std.proofs.lemmas.List.Quantifiers.{position-Some}
use Rattle.std.proofs.lemmas.List.Sorted.{IsPermutation-keeps, IsPermutation-sym, length_permutation, Contains-permutation}
use Rattle.session_model.specs.jack_types.specs.declared.ports.Link.{Link}
use Rattle.session_model.specs.jack_types.specs.declared.ports.Mark.TheVariants.{Direct}
use Rattle.session_model.specs.jack_types.specs.Names.{client_part}
use Rattle.session_model.specs.Activation.{AreLinks}
use Rattle.session_model.specs.Benches.{node_at, place_in, IsPlan}
use Rattle.session_model.specs.Courses.{Course, first_state, number, graph, players}
use Rattle.session_model.specs.Replies.{AreLawful}
use Rattle.session_laws.proofs.FeedbackLemmas.{FeedbackInside, FeedbackInside-replay, FeedbackInside-opening}
use Rattle.session_model.specs.Soundness.{Apart, IsSound}
use Rattle.session_model.specs.State.{State, OpenClient, OpenPort, Connection, system_client, is_system, opening, capture_port, playback_port}
use Rattle.session_laws.proofs.CycleLemmas.{bytes_same}
use Rattle.session_laws.proofs.LoopLemmas.{Contains-later, Contains-first, Contains-cases}
use Rattle.session_laws.proofs.PlaceLemmas.{position-found}
use Rattle.session_laws.proofs.SoundLemmas.{IsSound-replay, Apart-same, Apart-filter, Apart-push, contains-map}
use Rattle.session_laws.proofs.LoopFreeLemmas.{Contains-append_cases}
use Rattle.session_laws.proofs.SequentialLemmas.{Contains-below}
use Rattle.session_model.specs.Samples.{below}
use Rattle.std.proofs.lemmas.Fmt.{decimal_injective}
use Rattle.std.proofs.lemmas.List.{append_cancel_left, map-append}
use lib.Pointwise.{bytes_decides}

none_below : {n : ℕ} → n < 0 → ⊥
none_below p = omega arith

-- the same by places
abbrev pub Distinct : {X K : Type 0} → (X → K) → List X → Type 0
Distinct {X} key xs = (i j : ℕ) (d : X) → i < length xs → j < length xs → key (get_or xs i d) ≡ key (get_or xs j d) → i ≡ j

-- where an element of a list with two swapped stood before
abbrev StoodAt : ℕ → ℕ → ℕ → ℕ → Type 0
StoodAt i j k old = ((k ≡ j) × (old ≡ i)) ⊎ (((k ≡ j → ⊥) × (k ≡ i) × (old ≡ j)) ⊎ ((k ≡ j → ⊥) × (k ≡ i → ⊥) × (old ≡ k)))

StoodAt-one : (i j a b old : ℕ) → StoodAt i j a old → StoodAt i j b old → a ≡ b
StoodAt-one i j a b old (inl p) (inl q) = omega (arith, p.0, q.0)
StoodAt-one i j a b old (inl p) (inr (inl q)) = absurd (q.0 (omega (arith, p.1, q.1, q.2)))
StoodAt-one i j a b old (inl p) (inr (inr q)) = absurd (q.1 (omega (arith, p.1, q.2)))
StoodAt-one i j a b old (inr (inl p)) (inl q) = absurd (p.0 (omega (arith, q.1, p.1, p.2)))
StoodAt-one i j a b old (inr (inl p)) (inr (inl q)) = omega (arith, p.1, q.1)
StoodAt-one i j a b old (inr (inl p)) (inr (inr q)) = absurd (q.0 (omega (arith, p.2, q.2)))
StoodAt-one i j a b old (inr (inr p)) (inl q) = absurd (p.1 (omega (arith, q.1, p.2)))
StoodAt-one i j a b old (inr (inr p)) (inr (inl q)) = absurd (p.0 (omega (arith, q.2, p.2)))
StoodAt-one i j a b old (inr (inr p)) (inr (inr q)) = omega (arith, p.2, q.2)

module _ {X K : Type 0} (key : X → K) where
  pub Distinct-from_Apart : (xs : List X) → Apart key xs → Distinct key xs
  Distinct-from_Apart [] h i j d p q e = absurd (none_below p)
  Distinct-from_Apart (x ∷ xs) h zero zero d p q e = refl
  Distinct-from_Apart (x ∷ xs) h zero (suc j) d p q e = absurd (h.0 (get_or xs j d) (j, omega (arith, q), get_or_default xs j (get_or xs j d) d (omega (arith, q))) e)
  Distinct-from_Apart (x ∷ xs) h (suc i) zero d p q e = absurd (h.0 (get_or xs i d) (i, omega (arith, p), get_or_default xs i (get_or xs i d) d (omega (arith, p))) (sym e))
  Distinct-from_Apart (x ∷ xs) h (suc i) (suc j) d p q e = let same : i ≡ j = Distinct-from_Apart xs h.1 i j d (omega (arith, p)) (omega (arith, q)) e in ap suc same

  stood_at : (xs : List X) (i j k : ℕ) (d : X) → i < length xs → j < length xs → k < length xs → (old : ℕ) × (old < length xs) × (get_or (swap xs i j) k d ≡ get_or xs old d) × StoodAt i j k old
  stood_at xs i j k d p q r = go (cases_eq k j) (cases_eq k i)
    where
      whole : get_or (swap xs i j) k d ≡ get_or (set (set xs i (get_or xs j d)) j (get_or xs i d)) k d
      whole = ap (λ ys. get_or ys k d) (sym (swap_is xs i j d p q))

      set_size : length (set xs i (get_or xs j d)) ≡ length xs
      set_size = length-set xs i (get_or xs j d)

      go : (k ≡ j) ⊎ (k ≡ j → ⊥) → (k ≡ i) ⊎ (k ≡ i → ⊥) → (old : ℕ) × (old < length xs) × (get_or (swap xs i j) k d ≡ get_or xs old d) × StoodAt i j k old
      go (inl e) other =
          (i, p, whole ∙ ap (λ m. get_or (set (set xs i (get_or xs j d)) j (get_or xs i d)) m d) e ∙ get_or-set_same (set xs i (get_or xs j d)) j (get_or xs i d) d (omega (arith, q, set_size)), inl (e, refl))
      go (inr n) (inl e) =
          (j, q, whole ∙ get_or-set_other (set xs i (get_or xs j d)) j k (get_or xs i d) d n ∙ ap (λ m. get_or (set xs i (get_or xs j d)) m d) e ∙ get_or-set_same xs i (get_or xs j d) d p, inr (inl (n, e, refl)))
      go (inr n) (inr o) =
          (k, r, whole ∙ get_or-set_other (set xs i (get_or xs j d)) j k (get_or xs i d) d n ∙ get_or-set_other xs i k (get_or xs j d) d o, inr (inr (n, o, refl)))

  Distinct-swap : (xs : List X) (i j : ℕ) → i < length xs → j < length xs → Distinct key xs → Distinct key (swap xs i j)
  Distinct-swap xs i j p q h a b d l m e =
      let size : length (swap xs i j) ≡ length xs = length-swap xs i j in
      let u = stood_at xs i j a d p q (omega (arith, l, size)) in
      let v = stood_at xs i j b d p q (omega (arith, m, size)) in
      let same : u.0 ≡ v.0 = h u.0 v.0 d u.1 v.1 (sym (ap key u.2) ∙ e ∙ ap key v.2) in
      StoodAt-one i j a b v.0 (subst (λ old. StoodAt i j a old) same u.3) v.3

  pub Distinct-permutation : (xs ys : List X) → Apart key xs → IsPermutation xs ys → Distinct key ys
  Distinct-permutation xs ys h moved = IsPermutation-keeps xs (Distinct key) (Distinct-from_Apart xs h) Distinct-swap ys moved

module _ {X : Type 0} (test : X → Bool) where
  -- the only element that passes is found
  pub find-one : (xs : List X) (x : X) → Contains xs x → test x ≡ true → ((y : X) → Contains xs y → test y ≡ true → y ≡ x) → find test xs ≡ Some x
  find-one [] x m e only = absurd (none_below m.1)
  find-one (y ∷ xs) x m e only = go (test y) refl (Contains-cases y x xs m) (λ k. find-one xs x k e (λ z r t. only z (Contains-later y z xs r) t))
    where
      go : (b : Bool) → test y ≡ b → (y ≡ x) ⊎ Contains xs x → (Contains xs x → find test xs ≡ Some x) → cond b (Some y) (find test xs) ≡ Some x
      go true t at rest = ap Some (only y (Contains-first y xs) t)
      go false t (inl p) rest = absurd (true≢false (sym e ∙ ap test (sym p) ∙ t))
      go false t (inr k) rest = rest k

  length-filter-le : (xs : List X) → length (filter test xs) ≤ length xs
  length-filter-le [] = omega arith
  length-filter-le (x ∷ xs) = go (test x) (length-filter-le xs)
    where
      go : (b : Bool) → length (filter test xs) ≤ length xs → length (cond b (x ∷ filter test xs) (filter test xs)) ≤ length (x ∷ xs)
      go true h = omega (arith, h)
      go false h = omega (arith, h)

  -- fewer pass where one does not
  pub filter-fewer : (xs : List X) (x : X) → Contains xs x → test x ≡ false → length (filter test xs) < length xs
  filter-fewer [] x m e = absurd (none_below m.1)
  filter-fewer (y ∷ xs) x m e = go (test y) refl (Contains-cases y x xs m) (λ k. filter-fewer xs x k e) (length-filter-le xs)
    where
      go : (b : Bool) → test y ≡ b → (y ≡ x) ⊎ Contains xs x → (Contains xs x → length (filter test xs) < length xs) → length (filter test xs) ≤ length xs
          → length (cond b (y ∷ filter test xs) (filter test xs)) < length (y ∷ xs)
      go true t (inl p) rest most = absurd (true≢false (sym t ∙ ap test p ∙ e))
      go true t (inr k) rest most = let less : length (filter test xs) < length xs = rest k in omega (arith, less)
      go false t at rest most = omega (arith, most)

abbrev plays : OpenClient → Bool
plays client = client.active && not (is_system client.name)

-- the playing clients in any order in which links go upward
pub IsPlan-from : (state : State) (number : ℕ) (nodes : List OpenClient) (links : List Link) → IsSound state number → IsPermutation (players state) nodes → AreLinks (length nodes) links
    → ((edge : Connection) (a b : ℕ) → Contains state.edges edge → edge.mark ≡ Direct
    → place_in nodes (client_part edge.source) ≡ Some a → place_in nodes (client_part edge.destination) ≡ Some b → Contains links (record { from = a; to = b }))
    → IsPlan state nodes links
IsPlan-from state number nodes links sound moved upward joined = record {
  placed = placed;
  named = λ n h. find-one (λ (c : OpenClient). bytes_eq c.name (node_at nodes n).name) (players state) (node_at nodes n) (among n h) ((bytes_decides (node_at nodes n).name (node_at nodes n).name).1 refl)
      (λ y m t. Apart-same (λ (c : OpenClient). c.name) (players state) y (node_at nodes n) names m (among n h) (bytes_same y.name (node_at nodes n).name t));
  born = λ n h. find-one (λ (c : OpenClient). c.birth == (node_at nodes n).birth) (players state) (node_at nodes n) (among n h) (eq-eqb (node_at nodes n).birth (node_at nodes n).birth refl)
      (λ y m t. Apart-same (λ (c : OpenClient). c.birth) (players state) y (node_at nodes n) births m (among n h) (eqb-true y.birth (node_at nodes n).birth t));
  every = λ client m. Contains-permutation (players state) nodes client moved m;
  fewer =
      let size : length nodes ≡ length (players state) = length_permutation (players state) nodes moved in
      let less : length (players state) < length state.clients = filter-fewer plays state.clients system_client sound.system refl in
      omega (arith, size, less);
  upward = upward;
  joined = joined;
}
  where
    names : Apart (λ (c : OpenClient). c.name) (players state)
    names = Apart-filter (λ (c : OpenClient). c.name) plays state.clients sound.names

    births : Apart (λ (c : OpenClient). c.birth) (players state)
    births = Apart-filter (λ (c : OpenClient). c.birth) plays state.clients sound.births

    inside : (n : ℕ) → n < length nodes → Contains nodes (node_at nodes n)
    inside n h = (n, h, get_or_default nodes n (node_at nodes n) system_client h)

    among : (n : ℕ) → n < length nodes → Contains (players state) (node_at nodes n)
    among n h = Contains-permutation nodes (players state) (node_at nodes n) (IsPermutation-sym (players state) nodes moved) (inside n h)

    placed : (n : ℕ) → n < length nodes → place_in nodes (node_at nodes n).name ≡ Some n
    placed n h =
        let found : place_in nodes (node_at nodes n).name ≡ Some (position_or_len (λ (c : OpenClient). bytes_eq c.name (node_at nodes n).name) nodes) =
        position-found (λ (c : OpenClient). bytes_eq c.name (node_at nodes n).name) nodes (node_at nodes n) (inside n h) ((bytes_decides (node_at nodes n).name (node_at nodes n).name).1 refl) in
        let at = position-Some (λ (c : OpenClient). bytes_eq c.name (node_at nodes n).name) nodes (position_or_len (λ (c : OpenClient). bytes_eq c.name (node_at nodes n).name) nodes) system_client found in
        let same : position_or_len (λ (c : OpenClient). bytes_eq c.name (node_at nodes n).name) nodes ≡ n =
        Distinct-permutation (λ (c : OpenClient). c.name) (players state) nodes names moved
        (position_or_len (λ (c : OpenClient). bytes_eq c.name (node_at nodes n).name) nodes) n system_client at.0 h
        (bytes_same (node_at nodes (position_or_len (λ (c : OpenClient). bytes_eq c.name (node_at nodes n).name) nodes)).name (node_at nodes n).name at.1) in
        found ∙ ap Some same

module _ {X K : Type 0} (key : X → K) where
  Apart-append : (xs ys : List X) → Apart key xs → Apart key ys → ((x y : X) → Contains xs x → Contains ys y → key x ≡ key y → ⊥) → Apart key (xs ++ ys)
  Apart-append [] ys h k apart = k
  Apart-append (x ∷ xs) ys h k apart = (first, Apart-append xs ys h.1 k (λ a b m n e. apart a b (Contains-later x a xs m) n e))
    where
      first : (y : X) → Contains (xs ++ ys) y → key x ≡ key y → ⊥
      first y m e = go (Contains-append_cases xs ys y m)
        where
          go : Contains xs y ⊎ Contains ys y → ⊥
          go (inl n) = h.0 y n e
          go (inr n) = apart x y (Contains-first x xs) n e

  pub Apart-below : (f : ℕ → X) (n : ℕ) → ((i j : ℕ) → i < n → j < n → key (f i) ≡ key (f j) → i ≡ j) → Apart key (map f (below n))
  Apart-below f zero one = tt
  Apart-below f (suc n) one =
      subst (Apart key) (sym (map-append f (below n) (n ∷ [])))
      (Apart-push key (map f (below n)) (f n) (Apart-below f n (λ i j p q e. one i j (omega (arith, p)) (omega (arith, q)) e)) fresh)
    where
      fresh : (x : X) → Contains (map f (below n)) x → key x ≡ key (f n) → ⊥
      fresh x m e =
          let w = contains-map f (below n) x m in
          let low : w.0 < n = Contains-below n w.0 w.1 in
          let same : w.0 ≡ n = one w.0 n (omega (arith, low)) (omega arith) (ap key w.2 ∙ e) in
          omega (arith, low, same)

-- a port's name is its number's
capture_one : (i j : ℕ) → i + 1 < 2 ^ 64 → j + 1 < 2 ^ 64 → (capture_port i).name ≡ (capture_port j).name → i ≡ j
capture_one i j p q e =
    let same : i + 1 ≡ j + 1 = decimal_injective (i + 1) (j + 1) p q (append_cancel_left (codes "system:capture_") (decimal (i + 1)) (decimal (j + 1)) e) in
    omega (arith, same)

playback_one : (i j : ℕ) → i + 1 < 2 ^ 64 → j + 1 < 2 ^ 64 → (playback_port i).name ≡ (playback_port j).name → i ≡ j
playback_one i j p q e =
    let same : i + 1 ≡ j + 1 = decimal_injective (i + 1) (j + 1) p q (append_cancel_left (codes "system:playback_") (decimal (i + 1)) (decimal (j + 1)) e) in
    omega (arith, same)

-- the eighth letter tells them apart
capture_playback : (i j : ℕ) → (capture_port i).name ≡ (playback_port j).name → ⊥
capture_playback i j e = let letter : 99 ≡ 112 = ap (λ name. get_or name 7 0) e in omega (arith, letter)

pub IsSound-opening : (capture playback : ℕ) → capture < 2 ^ 63 → playback < 2 ^ 63 → IsSound (opening capture playback) 0
IsSound-opening capture playback p q = record {
  names = ((λ y m e. none_below m.1), tt);
  births = ((λ y m e. none_below m.1), tt);
  bound = λ client m. let same : system_client ≡ client = only client (Contains-cases system_client client [] m) in let zero_birth : 0 ≡ client.birth = ap (λ (c : OpenClient). c.birth) same in omega (arith, zero_birth);
  system = Contains-first system_client [];
  port_names = Apart-append (λ (port : OpenPort). port.name) (map capture_port (below capture)) (map playback_port (below playback))
      (Apart-below (λ (port : OpenPort). port.name) capture_port capture (λ i j a b e. capture_one i j (omega (arith, a, p)) (omega (arith, b, p)) e))
      (Apart-below (λ (port : OpenPort). port.name) playback_port playback (λ i j a b e. playback_one i j (omega (arith, a, q)) (omega (arith, b, q)) e))
      (λ x y m n e. let u = contains-map capture_port (below capture) x m in let v = contains-map playback_port (below playback) y n in
      capture_playback u.0 v.0 (ap (λ (port : OpenPort). port.name) u.2 ∙ e ∙ ap (λ (port : OpenPort). port.name) (sym v.2)));
}
  where
    only : (client : OpenClient) → (system_client ≡ client) ⊎ Contains [] client → system_client ≡ client
    only client (inl e) = e
    only client (inr k) = absurd (none_below k.1)

-- the state of each cycle is sound
pub IsSound-graph : (course : Course) (k : ℕ) → course.script.header.capture < 2 ^ 63 → course.script.header.playback < 2 ^ 63 → AreLawful (first_state course) course.changes → number course k ≤ length course.changes
    → IsSound (graph course k) (number course k)
IsSound-graph course k capture playback lawful within =
    IsSound-replay (first_state course) course.changes (IsSound-opening course.script.header.capture course.script.header.playback capture playback) lawful (number course k) within

-- and its feedback edges are between clients
pub FeedbackInside-graph : (course : Course) (k : ℕ) → FeedbackInside (graph course k).edges
FeedbackInside-graph course k = FeedbackInside-replay (first_state course) (take (number course k) course.changes) (FeedbackInside-opening course.script.header.capture course.script.header.playback)
