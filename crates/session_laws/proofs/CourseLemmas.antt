-- What a course gets later changes nothing of its earlier cycles.
--     IsSameUpTo course other k      graphs, adopted changes and underruns of the first k cycles are the same
--     cycle-same      then so are these cycles
--     IsSameUpTo-grown      so it is where changes, numbers and later underruns are appended
use Rattle.std.proofs.Common.{true, false, All, Bool, Contains, List, [], ap, ap₂, arith, cond, count_by, drop, eqb-true, filter, get_or, length, length-drop, map, not, refl, slice_index_or, slice_range, suc, sym, take, unwrap_or, zero, ℕ, ◌&&◌, ◌++◌, ◌+◌, ◌-◌, ◌<◌, ◌==◌, ◌||◌, ◌∙◌, ◌∷◌, ◌≡◌, ◌≤◌}
use Rattle.std.specs.List.{list_any}
use Rattle.std.proofs.lemmas.List.{get_or_append_left, take-append-le, drop-append-le}
use Rattle.std.proofs.lemmas.List.Folds.{list_any-append, Any-from_list_any}
use Rattle.std.proofs.lemmas.List.Sums.{length-filter}
use Rattle.session_model.specs.Commands.{replay}
use Rattle.session_model.specs.jack_types.specs.declared.commands.Change.{Change}
use Rattle.session_model.specs.jack_types.specs.declared.kinds.Kind.{Kind}
use Rattle.session_model.specs.jack_types.specs.declared.kinds.Kind.TheVariants.{Disk}
use Rattle.session_model.specs.jack_types.specs.declared.moments.Moment.{Moment}
use Rattle.session_model.specs.jack_types.specs.declared.replies.Underrun.{Underrun}
use Rattle.session_model.specs.Courses.{Course, first_state, number, underruns_of, graph, adopted, period, captured, players, fed, is_disk, is_disk_active, is_underrun, played_before, disk_file, block_channel}
use Rattle.session_model.specs.Cycles.{Settled, Cycle, signals, cycle, cycle_of, settled_after, previous, with_block}
use Rattle.session_model.specs.Kinds.{Memory, first}
use Rattle.session_model.specs.Samples.{below}
use Rattle.session_model.specs.State.{State, OpenClient}
use Rattle.session_model.specs.Transport.{row, next_row, slow_numbers, timeout_of, active_master, shown, moment}
use Rattle.session_laws.proofs.LoopLemmas.{Contains-later, Contains-first}
use Rattle.session_laws.proofs.SequentialLemmas.{Contains-below}

-- the first k cycles take the same graphs and changes, and have the same underruns
pub record IsSameUpTo (course other : Course) (k : ℕ) : Type 0 where
  pub graphs : (j : ℕ) → j ≤ k → graph course j ≡ graph other j
  pub changes : (j : ℕ) → j ≤ k → adopted course j ≡ adopted other j
  pub underrun : (disk j : ℕ) → j ≤ k → is_underrun course disk j ≡ is_underrun other disk j

filter-same : {X : Type 0} (p q : X → Bool) (xs : List X) → ((x : X) → Contains xs x → p x ≡ q x) → filter p xs ≡ filter q xs
filter-same p q [] h = refl
filter-same {X} p q (x ∷ xs) h = ap₂ (λ (b : Bool) rest. cond b (x ∷ rest) rest) (h x (Contains-first x xs)) (filter-same p q xs (λ y m. h y (Contains-later x y xs m)))

count_by-same : {X : Type 0} (p q : X → Bool) (xs : List X) → ((x : X) → Contains xs x → p x ≡ q x) → count_by p xs ≡ count_by q xs
count_by-same p q xs h = sym (length-filter p xs) ∙ ap length (filter-same p q xs h) ∙ length-filter q xs

module _ (course : Course) (later_changes : List Change) (later_numbers : List ℕ) (later_underruns : List (List Underrun)) where
  abbrev pub later : Course
  later = record course { changes = later_changes; numbers = later_numbers; underruns = later_underruns }

  signals-same : (at : Settled) (depth : ℕ) → signals course at depth ≡ signals later at depth
  signals-same at depth = refl

  cycle_of-same : (before : Cycle) (at : Settled) → cycle_of course before at ≡ cycle_of later before at
  cycle_of-same before at = refl

  module _ (k : ℕ) (same : IsSameUpTo course later k) where
    row-same : (j : ℕ) → j ≤ k → row course j ≡ row later j
    row-same zero h = refl
    row-same (suc j) h =
        ap₂ (λ before (changes : List Change). next_row before changes (slow_numbers (graph course (suc j))) (timeout_of (graph course (suc j)) course.script.header.rate (period course (suc j))) (period course (suc j)))
        (row-same j (omega (arith, h))) (same.changes (suc j) h)
        ∙ ap (λ state. next_row (row later j) (adopted later (suc j)) (slow_numbers state) (timeout_of state course.script.header.rate (period course (suc j))) (period course (suc j))) (same.graphs (suc j) h)

    moment-same : (j : ℕ) → j ≤ k → moment course j ≡ moment later j
    moment-same j h = ap₂ (λ before state. shown j before course.script.header.rate (active_master state)) (row-same j h) (same.graphs j h)

    active-same : (disk j : ℕ) → j ≤ k → is_disk_active course disk j ≡ is_disk_active later disk j
    active-same disk j h = ap (λ state. list_any (λ (client : OpenClient). is_disk disk client.kind) (players state)) (same.graphs j h)

    played_before-same : (disk j : ℕ) → j ≤ k → played_before course disk j ≡ played_before later disk j
    played_before-same disk j h = count_by-same
        (λ i. is_disk_active course disk (i + 1) && not (is_underrun course disk (i + 1)))
        (λ i. is_disk_active later disk (i + 1) && not (is_underrun later disk (i + 1)))
        (below (j - 1))
        (λ i m. let low : i < j - 1 = Contains-below (j - 1) i m in
        ap₂ (λ a b. a && not b) (active-same disk (i + 1) (omega (arith, low, h))) (same.underrun disk (i + 1) (omega (arith, low, h))))

    fed-same : (disk j : ℕ) → j ≤ k → fed course disk j ≡ fed later disk j
    fed-same disk j h = ap₂ (λ (b : Bool) block. cond b [] (map (block_channel (disk_file course disk) (period course j) block) (below (disk_file course disk).channels))) (same.underrun disk j h) (played_before-same disk j h)

    with_block-same : (j : ℕ) → j ≤ k → (kind : Kind) (memory : Memory) → with_block course j kind memory ≡ with_block later j kind memory
    with_block-same j h (Disk disk) memory = ap (λ blocks. record memory { fed = blocks }) (fed-same disk j h)
    with_block-same j h _ memory = refl

    -- what is settled before a cycle, from what changes
    abbrev settled_by : ℕ → State → Moment → Cycle → (Kind → Memory → Memory) → Settled
    settled_by j state moment before block = record {
      graph = state;
      moment = moment;
      frames = period course j;
      capture = captured course j;
      before = previous before state (period course j);
      memory = λ client. block client.kind (unwrap_or (before.memory client.birth) (first course.scores client.kind));
    }

    settled-same : (j : ℕ) → suc j ≤ k → cycle course j ≡ cycle later j → settled_after course (suc j) (cycle course j) ≡ settled_after later (suc j) (cycle later j)
    settled-same j h before =
        ap₂ (λ state moment. settled_by (suc j) state moment (cycle course j) (with_block course (suc j))) (same.graphs (suc j) h) (moment-same (suc j) h)
        ∙ ap₂ (λ earlier block. settled_by (suc j) (graph later (suc j)) (moment later (suc j)) earlier block) before (λ i kind memory. with_block-same (suc j) h kind memory i)

    -- the first k cycles
    pub cycle-same : (j : ℕ) → j ≤ k → cycle course j ≡ cycle later j
    cycle-same zero h = refl
    cycle-same (suc j) h = ap₂ (λ before at. cycle_of course before at) (cycle-same j (omega (arith, h))) (settled-same j h (cycle-same j (omega (arith, h))))

or_false : (b : Bool) → (b || false) ≡ b
or_false true = refl
or_false false = refl

slice_range-append : {X : Type 0} (xs ys : List X) (a b : ℕ) → a ≤ length xs → b ≤ length xs → slice_range xs a b ≡ slice_range (xs ++ ys) a b
slice_range-append xs ys a b p q =
    let size : length (drop a xs) ≡ length xs - a = length-drop a xs in
    sym (ap (take (b - a)) (drop-append-le a xs ys p) ∙ take-append-le (b - a) (drop a xs) ys (omega (arith, size, q)))

-- more changes, numbers and underruns change nothing of the first k cycles
pub IsSameUpTo-grown : (course : Course) (more_changes : List Change) (more_numbers : List ℕ) (underruns : List (List Underrun)) (k : ℕ)
    → k ≤ length course.numbers
    → ((j : ℕ) → j ≤ k → number course j ≤ length course.changes)
    → ((disk : ℕ) → (more : List Underrun) × (slice_index_or underruns disk [] ≡ underruns_of course disk ++ more) × All (λ (underrun : Underrun). k < underrun.cycle) more)
    → IsSameUpTo course (later course (course.changes ++ more_changes) (course.numbers ++ more_numbers) underruns) k
IsSameUpTo-grown course more_changes more_numbers underruns k counted bound grown = record {
  graphs = λ j h. ap (replay (first_state course)) (
      sym (take-append-le (number course j) course.changes more_changes (bound j h))
      ∙ ap (λ n. take n (course.changes ++ more_changes)) (same_number j h));
  changes = λ j h. slice_range-append course.changes more_changes (number course (j - 1)) (number course j) (bound (j - 1) (omega (arith, h))) (bound j h)
      ∙ ap₂ (slice_range (course.changes ++ more_changes)) (same_number (j - 1) (omega (arith, h))) (same_number j h);
  underrun = λ disk j h.
      let w = grown disk in
      sym (
      ap (list_any (λ (underrun : Underrun). underrun.cycle == j)) w.1
      ∙ list_any-append (λ (underrun : Underrun). underrun.cycle == j) (underruns_of course disk) w.0
      ∙ ap (λ b. is_underrun course disk j || b) (none_at j h w.0 w.2)
      ∙ or_false (is_underrun course disk j));
}
  where
    same_number : (j : ℕ) → j ≤ k → number course j ≡ get_or (0 ∷ course.numbers ++ more_numbers) j 0
    same_number j h = sym (get_or_append_left (0 ∷ course.numbers) more_numbers 0 j (omega (arith, h, counted)))

    none_at : (j : ℕ) → j ≤ k → (more : List Underrun) → All (λ (underrun : Underrun). k < underrun.cycle) more → list_any (λ (underrun : Underrun). underrun.cycle == j) more ≡ false
    none_at j h more all = go (list_any (λ (underrun : Underrun). underrun.cycle == j) more) refl
      where
        go : (b : Bool) → list_any (λ (underrun : Underrun). underrun.cycle == j) more ≡ b → list_any (λ (underrun : Underrun). underrun.cycle == j) more ≡ false
        go false e = e
        go true e =
            let found = Any-from_list_any (λ (underrun : Underrun). underrun.cycle == j) more e in
            let late : k < (get_or more found.0 found.1).cycle = all found.0 found.1 found.2 in
            let here : found.1.cycle ≡ j = eqb-true found.1.cycle j found.4 in
            let same : (get_or more found.0 found.1).cycle ≡ found.1.cycle = ap (λ (underrun : Underrun). underrun.cycle) found.3 in
            absurd (apart late here same h)
          where
            apart : {a b : ℕ} → k < a → b ≡ j → a ≡ b → j ≤ k → ⊥
            apart p q r t = omega (arith, p, q, r, t)
