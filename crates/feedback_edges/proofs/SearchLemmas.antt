-- The marking search.
use Rattle.std.proofs.Common.{◌≡◌, ℕ, zero, suc, ◌<◌, ◌≤◌, Bool, true, false, cond, not, ◌⊎◌, ◌↔◌, inl, inr, List, [], ◌∷◌, ◌++◌, length, filter, set, get_or, replicate, All, Contains, refl, sym, ◌∙◌, ap, subst, arith, true≢false, get_or-set_same, get_or-set_other}
use Rattle.std.proofs.lemmas.Bool.{cases_eq, cases_order}
use Rattle.std.proofs.lemmas.List.{get_or_past, get_or-replicate, length-replicate, length-set}
use Rattle.connection_set.specs.jack_types.specs.declared.ports.Edge.{Edge}
use Rattle.connection_set.specs.session_model.specs.Loops.{IsPath, Leads}
use Rattle.connection_set.specs.session_model.specs.State.{is_direct}
use Rattle.connection_set.specs.session_laws.proofs.LoopLemmas.{IsPath-append}
use Rattle.connection_set.specs.session_laws.proofs.SoundLemmas.{contains-map, map-contains}
use Rattle.connection_set.specs.session_laws.proofs.ListLemmas.{Contains-filtered, Contains-kept}
use Rattle.connection_set.specs.session_laws.proofs.CycleLemmas.{filter-passes}
use Rattle.feedback_edges.specs.Search.{link_by, number_links, IsMarked, Passes, AreLed, unmarked}

none_below : {n : ℕ} → n < 0 → ⊥
none_below p = omega arith

-- one mark more keeps the others
pub kept_set : (marked : List Bool) (t : ℕ) → t < length marked → (n : ℕ) → IsMarked marked n → IsMarked (set marked t true) n
kept_set marked t h n m = go (cases_eq n t)
  where
    go : (n ≡ t) ⊎ (n ≡ t → ⊥) → get_or (set marked t true) n false ≡ true
    go (inl e) = subst (λ k. get_or (set marked t true) k false ≡ true) (sym e) (get_or-set_same marked t true false h)
    go (inr other) = get_or-set_other marked t n true false other ∙ m

-- and is the only one more
pub set_cases : (marked : List Bool) (t : ℕ) → t < length marked → (n : ℕ) → IsMarked (set marked t true) n → (n ≡ t) ⊎ IsMarked marked n
set_cases marked t h n m = go (cases_eq n t)
  where
    go : (n ≡ t) ⊎ (n ≡ t → ⊥) → (n ≡ t) ⊎ IsMarked marked n
    go (inl e) = inl e
    go (inr other) = inr (sym (get_or-set_other marked t n true false other) ∙ m)

-- there are fewer nodes without a mark
pub unmarked-set : (marked : List Bool) (t : ℕ) → t < length marked → get_or marked t false ≡ false → unmarked (set marked t true) < unmarked marked
unmarked-set [] t h e = absurd (none_below h)
unmarked-set (m ∷ ms) zero h e = go m e
  where
    go : (b : Bool) → b ≡ false → length (filter not ms) < length (cond (not b) (b ∷ filter not ms) (filter not ms))
    go true p = absurd (true≢false p)
    go false p = omega arith
unmarked-set (m ∷ ms) (suc t) h e = go m (unmarked-set ms t (omega (arith, h)) e)
  where
    go : (b : Bool) → unmarked (set ms t true) < unmarked ms → length (cond (not b) (b ∷ filter not (set ms t true)) (filter not (set ms t true))) < length (cond (not b) (b ∷ filter not ms) (filter not ms))
    go true p = p
    go false p = omega (arith, p)

-- the links of direct edges
pub link-there : (table : List ℕ) (edges : List Edge) (edge : Edge) → Contains edges edge → is_direct edge.mark ≡ true → Contains (number_links table edges) (link_by table edge)
link-there table edges edge m direct = map-contains (link_by table) (filter (λ (e : Edge). is_direct e.mark) edges) edge (Contains-kept (λ (e : Edge). is_direct e.mark) edges edge direct m)

-- an edge from a node that is led to leads on
pub led_on : (table : List ℕ) (edges : List Edge) (edge : Edge) (from : ℕ) → Contains edges edge → is_direct edge.mark ≡ true → Leads (number_links table edges) from (link_by table edge).0 → Leads (number_links table edges) from (link_by table edge).1
led_on table edges edge from m direct h = (
  h.0 ++ (link_by table edge).1 ∷ [],
  IsPath-append (number_links table edges) from h.0 (link_by table edge).0 ((link_by table edge).1 ∷ []) (link_by table edge).1 h.1 (link-there table edges edge m direct, refl),
)

-- marks that no edge leads out of hold all that is led to
closed_path : (table : List ℕ) (edges : List Edge) (marked : List Bool) → All (Passes table marked) edges → (path : List ℕ) (a b : ℕ) → IsPath (number_links table edges) a path b → IsMarked marked a → IsMarked marked b
closed_path table edges marked closed [] a b h m = subst (IsMarked marked) h m
closed_path table edges marked closed (next ∷ path) a b h m = closed_path table edges marked closed path next b h.1 (go (contains-map (link_by table) (filter (λ (e : Edge). is_direct e.mark) edges) (a, next) h.0))
  where
    go : ((edge : Edge) × Contains (filter (λ (e : Edge). is_direct e.mark) edges) edge × (link_by table edge ≡ (a, next))) → IsMarked marked next
    go w =
        let direct : is_direct (w.0).mark ≡ true = filter-passes (λ (e : Edge). is_direct e.mark) edges w.0 w.1 in
        let here : Contains edges w.0 = Contains-filtered (λ (e : Edge). is_direct e.mark) edges w.0 w.1 in
        let passes : Passes table marked w.0 = subst (Passes table marked) here.2 (closed here.0 w.0 here.1) in
        subst (IsMarked marked) (ap (λ (l : ℕ × ℕ). l.1) w.2) (passes direct (subst (IsMarked marked) (sym (ap (λ (l : ℕ × ℕ). l.0) w.2)) m))

-- what the search found
pub searched : (table : List ℕ) (edges : List Edge) (from to : ℕ) (marked : List Bool) → IsMarked marked from → AreLed table edges from marked
    → (IsMarked marked to) ⊎ All (Passes table marked) edges → IsMarked marked to ↔ Leads (number_links table edges) from to
searched table edges from to marked first led (inl m) = (λ k. led to k, λ h. m)
searched table edges from to marked first led (inr closed) = (λ k. led to k, λ h. closed_path table edges marked closed h.0 from to h.1 first)

-- one mark more at the end of an edge
pub led_set : (table : List ℕ) (edges : List Edge) (edge : Edge) (from : ℕ) (marked : List Bool) → (link_by table edge).1 < length marked → Contains edges edge → is_direct edge.mark ≡ true
    → IsMarked marked (link_by table edge).0 → AreLed table edges from marked → AreLed table edges from (set marked (link_by table edge).1 true)
led_set table edges edge from marked h m direct start led n k = go (set_cases marked (link_by table edge).1 h n k)
  where
    go : (n ≡ (link_by table edge).1) ⊎ IsMarked marked n → Leads (number_links table edges) from n
    go (inl e) = subst (Leads (number_links table edges) from) (sym e) (led_on table edges edge from m direct (led (link_by table edge).0 start))
    go (inr old) = led n old

pub not_more : (grown : Bool) (marked initial : List Bool) → (grown ≡ false → marked ≡ initial) → (grown ≡ true → unmarked marked < unmarked initial) → unmarked marked ≤ unmarked initial
not_more true marked initial same fewer = let less : unmarked marked < unmarked initial = fewer refl in omega (arith, less)
not_more false marked initial same fewer = let equal : unmarked marked ≡ unmarked initial = ap unmarked (same refl) in omega (arith, equal)

-- the first mark
pub first_size : (n from : ℕ) → length (set (replicate n false) from true) ≡ n
first_size n from = length-set (replicate n false) from true ∙ length-replicate n false

pub first_marked : (n from : ℕ) → from < n → IsMarked (set (replicate n false) from true) from
first_marked n from h = get_or-set_same (replicate n false) from true false (let size : length (replicate n false) ≡ n = length-replicate n false in omega (arith, h, size))

pub first_led : (n : ℕ) (table : List ℕ) (edges : List Edge) (from : ℕ) → from < n → AreLed table edges from (set (replicate n false) from true)
first_led n table edges from h k m = go (set_cases (replicate n false) from (let size : length (replicate n false) ≡ n = length-replicate n false in omega (arith, h, size)) k m) (cases_order k n)
  where
    go : (k ≡ from) ⊎ IsMarked (replicate n false) k → (k ≡ n) ⊎ ((k < n) ⊎ (n < k)) → Leads (number_links table edges) from k
    go (inl e) o = ([], sym e)
    go (inr old) (inr (inl low)) = absurd (true≢false (sym old ∙ get_or-replicate n k false false low))
    go (inr old) (inl same) = absurd (true≢false (sym old ∙ get_or_past (replicate n false) k false (let size : length (replicate n false) ≡ n = length-replicate n false in omega (arith, same, size))))
    go (inr old) (inr (inr more)) = absurd (true≢false (sym old ∙ get_or_past (replicate n false) k false (let size : length (replicate n false) ≡ n = length-replicate n false in omega (arith, more, size))))
