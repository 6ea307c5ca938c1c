-- The cycles of a phase, and the number that a cycle takes.
--     cycle-there, cycle-is      a cycle of a phase is the script's cycle behind those of the earlier phases
--     number-exact      a take that finds what is published answers the number of serial mode
--     numbers-next      with that number one front of a list is the next
use Rattle.std.proofs.Common.{◌≡◌, ℕ, zero, suc, ◌+◌, ◌<◌, ◌≤◌, List, [], ◌∷◌, ◌++◌, length, take, All, Contains, slice_get, slice_index, slice_index_or, replicate, Some, sym, ◌∙◌, ap, subst, arith, length-append, sum_by}
use Rattle.std.proofs.lemmas.List.{get_or_append_left, get_or-append-add, get_or-replicate, length-replicate, take_more}
use Rattle.std.proofs.lemmas.List.Elements.{All-contains, Contains-append_right, Contains-push}
use Rattle.std.proofs.lemmas.List.Sums.{sum_by-cons}
use Rattle.std.proofs.lemmas.Option.{none-some, same_Some}
use Rattle.session_model.specs.Courses.{no_turn}
use Rattle.session_model.specs.Scripts.{Phase, Script, ScriptCycle, phases, turns, turns_from}
use Rattle.graph_word.specs.Publications.{Reading, Takes}
use Rattle.run_laws.specs.driver_laws.specs.Drivers.{turn_of}
use Rattle.run_laws.specs.driver_laws.specs.Segments.{cycles_before}

abbrev cycles_in : List Phase → ℕ
cycles_in phs = sum_by (λ (p : Phase). p.cycles) phs

-- the turn of a phase's cycles
abbrev turn_in : ℕ → Phase → ScriptCycle
turn_in index phase = record { period = phase.period; is_freewheel = phase.is_freewheel; phase = index }

turns-more : (phase : Phase) (phs : List Phase) (index : ℕ) → length (turns_from index (phase ∷ phs)) ≡ phase.cycles + length (turns_from (index + 1) phs)
turns-more phase phs index =
    length-append (replicate phase.cycles (turn_in index phase)) (turns_from (index + 1) phs)
    ∙ ap (λ n. n + length (turns_from (index + 1) phs)) (length-replicate phase.cycles (turn_in index phase))

there-from : (phs : List Phase) (index done t : ℕ) (phase : Phase) → slice_get phs done ≡ Some phase → t < phase.cycles → cycles_in (take done phs) + t < length (turns_from index phs)
there-from [] index done t phase here low = absurd (none-some phase here)
there-from (one ∷ phs) index zero t phase here low =
    let cycles : one.cycles ≡ phase.cycles = ap (λ (p : Phase). p.cycles) (same_Some one phase here) in
    omega (arith, turns-more one phs index, cycles, low)
there-from (one ∷ phs) index (suc done) t phase here low =
    omega (arith, turns-more one phs index, sum_by-cons (λ (p : Phase). p.cycles) one (take done phs), there-from phs (index + 1) done t phase here low)

is-from : (phs : List Phase) (index done t : ℕ) (phase : Phase) → slice_get phs done ≡ Some phase → t < phase.cycles
    → slice_index_or (turns_from index phs) (cycles_in (take done phs) + t) no_turn ≡ turn_in (index + done) phase
is-from [] index done t phase here low = absurd (none-some phase here)
is-from (one ∷ phs) index zero t phase here low =
    let same : one ≡ phase = same_Some one phase here in
    let cycles : one.cycles ≡ phase.cycles = ap (λ (p : Phase). p.cycles) same in
    let place : 0 + t ≡ t = omega arith in
    let inside : t < one.cycles = omega (arith, cycles, low) in
    let size : length (replicate one.cycles (turn_in index one)) ≡ one.cycles = length-replicate one.cycles (turn_in index one) in
    let first : index ≡ index + 0 = omega arith in
    ap (λ n. slice_index_or (turns_from index (one ∷ phs)) n no_turn) place
    ∙ get_or_append_left (replicate one.cycles (turn_in index one)) (turns_from (index + 1) phs) no_turn t (omega (arith, size, inside))
    ∙ get_or-replicate one.cycles t (turn_in index one) no_turn inside
    ∙ ap (turn_in index) same
    ∙ ap (λ i. turn_in i phase) first
is-from (one ∷ phs) index (suc done) t phase here low =
    let size : length (replicate one.cycles (turn_in index one)) ≡ one.cycles = length-replicate one.cycles (turn_in index one) in
    let sum : cycles_in (one ∷ take done phs) ≡ one.cycles + cycles_in (take done phs) = sum_by-cons (λ (p : Phase). p.cycles) one (take done phs) in
    let place : cycles_in (one ∷ take done phs) + t ≡ length (replicate one.cycles (turn_in index one)) + (cycles_in (take done phs) + t) = omega (arith, size, sum) in
    let next : index + 1 + done ≡ index + suc done = omega arith in
    ap (λ n. slice_index_or (turns_from index (one ∷ phs)) n no_turn) place
    ∙ get_or-append-add (replicate one.cycles (turn_in index one)) (turns_from (index + 1) phs) (cycles_in (take done phs) + t) no_turn
    ∙ is-from phs (index + 1) done t phase here low
    ∙ ap (λ i. turn_in i phase) next

-- a cycle of a phase is the script's cycle behind those of the earlier phases
pub cycle-there : (script : Script) (done t : ℕ) (phase : Phase) → slice_get (phases script) done ≡ Some phase → t < phase.cycles → cycles_before script done + t < length (turns script)
cycle-there script done t phase here low = there-from (phases script) 0 done t phase here low

pub cycle-is : (script : Script) (done t : ℕ) (phase : Phase) → slice_get (phases script) done ≡ Some phase → t < phase.cycles
    → turn_of script (cycles_before script done + t + 1) ≡ record { period = phase.period; is_freewheel = phase.is_freewheel; phase = done }
cycle-is script done t phase here low =
    let place : cycles_before script done + t + 1 ≡ suc (cycles_before script done + t) = omega arith in
    let first : 0 + done ≡ done = omega arith in
    ap (turn_of script) place ∙ is-from (phases script) 0 done t phase here low ∙ ap (λ i. turn_in i phase) first

-- a take that could not find less than is published, and reads that found no more
pub number-exact : (reading taken : Reading) (number published : ℕ) → Takes reading number taken → reading.least ≡ published → All (λ n. n ≤ published) taken.reads → number ≡ published
number-exact reading taken number published takes least most =
    let inside : Contains taken.reads number = subst (λ ns. Contains ns number) (sym takes.reads) (Contains-append_right reading.reads (takes.earlier ++ number ∷ []) number (Contains-push takes.earlier number)) in
    let high : number ≤ published = All-contains (λ n. n ≤ published) taken.reads number most inside in
    omega (arith, takes.least, least, high)

-- with that number one front of a list is the next
pub numbers-next : (all numbers : List ℕ) (n number : ℕ) → numbers ≡ take n all → n < length all → slice_index all n ≡ number → numbers ++ number ∷ [] ≡ take (n + 1) all
numbers-next all numbers n number front inside is = ap (λ ns. ns ++ number ∷ []) front ∙ ap (λ m. take n all ++ m ∷ []) (sym is) ∙ sym (take_more all n 0 inside)
