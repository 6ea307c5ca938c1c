-- The first cycle of a segment, and the overruns that come behind what was kept before it.
--     segment_start-is      it is the one behind the cycles of the earlier phases
--     IsAfterSegment-from      a look that is not below what was put before the segment
use Rattle.std.proofs.Common.{◌≡◌, ◌≢◌, ℕ, zero, suc, ◌+◌, ◌-◌, ◌<◌, ◌≤◌, ◌==◌, List, [], ◌∷◌, ◌++◌, length, take, slice_index_or, replicate, sum_by, refl, sym, ◌∙◌, ap, subst, arith, eq-eqb, ne_eqb}
use Rattle.std.specs.List.{position_or_len}
use Rattle.std.proofs.lemmas.List.Sums.{sum_by_from}
use Rattle.record_ring.specs.session_model.specs.Courses.{Course, turn, no_turn}
use Rattle.record_ring.specs.session_model.specs.Disks.{segment_start}
use Rattle.record_ring.specs.session_model.specs.Scripts.{Phase, ScriptCycle, phases, turns, turns_from}
use Rattle.record_ring.specs.jack_types.specs.declared.replies.Overrun.{Overrun}
use Rattle.record_ring.specs.session_model.specs.Recorders.{IsAfterSegment, kept_before}
use Rattle.driver_laws.specs.Keeping.{kept_blocks}
use Rattle.driver_laws.specs.Segments.{cycles_before}
use Rattle.driver_laws.proofs.RingLemmas.{kept_blocks-counted}

abbrev pub cycles_in : List Phase → ℕ
cycles_in phs = sum_by (λ (p : Phase). p.cycles) phs

pub cycles_more : (phase : Phase) (phs : List Phase) → cycles_in (phase ∷ phs) ≡ phase.cycles + cycles_in phs
cycles_more phase phs =
    let total : cycles_in (phase ∷ phs) ≡ 0 + phase.cycles + cycles_in phs = sum_by_from (λ (p : Phase). p.cycles) (0 + phase.cycles) phs in
    omega (arith, total)

at_front : (n j : ℕ) (t : ScriptCycle) (rest : List ScriptCycle) → j < n → slice_index_or (replicate n t ++ rest) j no_turn ≡ t
at_front zero j t rest h = absurd (omega (arith, h))
at_front (suc n) zero t rest h = refl
at_front (suc n) (suc j) t rest h = at_front n j t rest (omega (arith, h))

behind_front : (n j : ℕ) (t : ScriptCycle) (rest : List ScriptCycle) → slice_index_or (replicate n t ++ rest) (n + j) no_turn ≡ slice_index_or rest j no_turn
behind_front zero j t rest = let e : 0 + j ≡ j = omega arith in ap (λ m. slice_index_or rest m no_turn) e
behind_front (suc n) j t rest =
    let e : suc n + j ≡ suc (n + j) = omega arith in
    ap (λ m. slice_index_or (t ∷ (replicate n t ++ rest)) m no_turn) e ∙ behind_front n j t rest

pub phase_at : (phs : List Phase) (index p j : ℕ) → cycles_in (take p phs) ≤ j → j < cycles_in (take (suc p) phs) → (slice_index_or (turns_from index phs) j no_turn).phase ≡ index + p
phase_at [] index zero j low high = absurd (omega (arith, high))
phase_at [] index (suc p) j low high = absurd (omega (arith, high))
phase_at (phase ∷ phs) index zero j low high =
    let one : ScriptCycle = record { period = phase.period; is_freewheel = phase.is_freewheel; phase = index } in
    let none : cycles_in (phase ∷ []) ≡ phase.cycles + 0 = cycles_more phase [] in
    let here : index ≡ index + 0 = omega arith in
    ap (λ (t : ScriptCycle). t.phase) (at_front phase.cycles j one (turns_from (index + 1) phs) (omega (arith, high, none))) ∙ here
phase_at (phase ∷ phs) index (suc p) j low high =
    let one : ScriptCycle = record { period = phase.period; is_freewheel = phase.is_freewheel; phase = index } in
    let first : cycles_in (phase ∷ take p phs) ≡ phase.cycles + cycles_in (take p phs) = cycles_more phase (take p phs) in
    let second : cycles_in (phase ∷ take (suc p) phs) ≡ phase.cycles + cycles_in (take (suc p) phs) = cycles_more phase (take (suc p) phs) in
    let place : j ≡ phase.cycles + (j - phase.cycles) = omega (arith, low, first) in
    let next : index + 1 + p ≡ index + suc p = omega arith in
    ap (λ m. (slice_index_or (replicate phase.cycles one ++ turns_from (index + 1) phs) m no_turn).phase) place
    ∙ ap (λ (t : ScriptCycle). t.phase) (behind_front phase.cycles (j - phase.cycles) one (turns_from (index + 1) phs))
    ∙ phase_at phs (index + 1) p (j - phase.cycles) (omega (arith, low, first)) (omega (arith, high, second, low, first))
    ∙ next

not_here : (n q : ℕ) (t : ScriptCycle) (rest : List ScriptCycle) → t.phase ≢ q → position_or_len (λ (o : ScriptCycle). o.phase == q) (replicate n t ++ rest) ≡ n + position_or_len (λ (o : ScriptCycle). o.phase == q) rest
not_here zero q t rest h = omega arith
not_here (suc n) q t rest h = rw (ne_eqb t.phase q h) (let r = not_here n q t rest h in omega (arith, r))

first_at : (phs : List Phase) (index p : ℕ) → cycles_in (take p phs) < cycles_in (take (suc p) phs) → position_or_len (λ (o : ScriptCycle). o.phase == index + p) (turns_from index phs) ≡ cycles_in (take p phs)
first_at [] index zero h = absurd (omega (arith, h))
first_at [] index (suc p) h = absurd (omega (arith, h))
first_at (phase ∷ phs) index zero h =
    let none : cycles_in (phase ∷ []) ≡ phase.cycles + 0 = cycles_more phase [] in
    go phase.cycles (omega (arith, h, none))
  where
    go : (n : ℕ) → 0 < n → position_or_len (λ (o : ScriptCycle). o.phase == index + 0) (replicate n (record { period = phase.period; is_freewheel = phase.is_freewheel; phase = index }) ++ turns_from (index + 1) phs) ≡ 0
    go zero q = absurd (omega (arith, q))
    go (suc n) q = rw (eq-eqb index (index + 0) (omega arith)) refl
first_at (phase ∷ phs) index (suc p) h =
    let one : ScriptCycle = record { period = phase.period; is_freewheel = phase.is_freewheel; phase = index } in
    let first : cycles_in (phase ∷ take p phs) ≡ phase.cycles + cycles_in (take p phs) = cycles_more phase (take p phs) in
    let second : cycles_in (phase ∷ take (suc p) phs) ≡ phase.cycles + cycles_in (take (suc p) phs) = cycles_more phase (take (suc p) phs) in
    let next : index + suc p ≡ index + 1 + p = omega arith in
    let rest = first_at phs (index + 1) p (omega (arith, h, first, second)) in
    not_here phase.cycles (index + suc p) one (turns_from (index + 1) phs) (other index p)
    ∙ ap (λ q. phase.cycles + position_or_len (λ (o : ScriptCycle). o.phase == q) (turns_from (index + 1) phs)) next
    ∙ ap (λ m. phase.cycles + m) rest
    ∙ sym first
  where
    other : (i q : ℕ) → i ≢ i + suc q
    other i q e = omega (arith, e)

-- the first cycle of a cycle's segment is the one behind the cycles of the earlier phases
pub segment_start-is : (course : Course) (phase k : ℕ) → cycles_before course.script phase < k → k ≤ cycles_before course.script (phase + 1) → segment_start course k ≡ cycles_before course.script phase + 1
segment_start-is course phase k low high = go k low high
  where
    start : ℕ
    start = cycles_before course.script phase

    next : phase + 1 ≡ suc phase
    next = omega arith

    go : (k : ℕ) → start < k → k ≤ cycles_before course.script (phase + 1) → segment_start course k ≡ start + 1
    go zero low high = absurd (omega (arith, low))
    go (suc j) low high =
        let top : suc j ≤ cycles_before course.script (suc phase) = subst (λ n. suc j ≤ cycles_before course.script n) next high in
        let zeroth : 0 + phase ≡ phase = omega arith in
        let here : (turn course (suc j)).phase ≡ phase = phase_at (phases course.script) 0 phase j (omega (arith, low)) (omega (arith, top)) ∙ zeroth in
        ap (λ q. position_or_len (λ (o : ScriptCycle). o.phase == q) (turns course.script) + 1) (here ∙ sym zeroth)
        ∙ ap (λ m. m + 1) (first_at (phases course.script) 0 phase (omega (arith, low, top)))

-- the count of the blocks kept before a segment is that of the ring, so a look that is not below it comes behind them
pub IsAfterSegment-from : (course : Course) (losses : List Overrun) (recorder phase : ℕ) (overrun : Overrun) → cycles_before course.script phase < overrun.cycle → overrun.cycle ≤ cycles_before course.script (phase + 1)
    → length (kept_blocks course losses recorder (cycles_before course.script phase)) ≤ overrun.taken → IsAfterSegment course losses recorder overrun
IsAfterSegment-from course losses recorder phase overrun low high look =
    let first = segment_start-is course phase overrun.cycle low high in
    subst (λ n. n ≤ overrun.taken) (kept_blocks-counted course recorder losses (cycles_before course.script phase) ∙ sym (ap (kept_before course losses recorder) first)) look
