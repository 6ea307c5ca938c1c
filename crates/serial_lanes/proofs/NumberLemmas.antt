-- The numbers of serial mode's cycles.
use Rattle.std.proofs.Common.{◌≡◌, ℕ, zero, suc, ◌+◌, ◌-◌, ◌*◌, ◌<◌, ◌≤◌, Bool, true, false, ◌&&◌, ◌==◌, nat_le, List, [], ◌∷◌, ◌++◌, length, map, take, filter, slice_get, slice_index, slice_index_or, Contains, Some, refl, sym, ◌∙◌, ap, ap₂, subst, arith, append_assoc, append-nil, eqb-true}
use Rattle.std.specs.Prelude.{flat_map}
use Rattle.std.specs.Option.{option_map_or}
use Rattle.std.proofs.lemmas.Bool.Decides.{nat_tests}
use Rattle.std.proofs.lemmas.List.Elements.{filter-append}
use Rattle.std.proofs.lemmas.Option.{slice_get_within}
use Rattle.jack_types.specs.declared.commands.Call.{Call}
use Rattle.jack_types.specs.declared.replies.Entry.{Entry}
use Rattle.session_model.specs.Courses.{no_turn}
use Rattle.session_model.specs.Histories.{accepted, calls_of}
use Rattle.session_model.specs.Samples.{below}
use Rattle.session_model.specs.Scripts.{Script, Phase, Planned, ScriptCycle, phases, planned, turns}
use Rattle.session_model.specs.Serial.{answered, due, lanes_at, do_calls, calls_from, serial_calls, serial_history, serial_number, numbers_from, history_with, is_before}
use Rattle.session_laws.proofs.CycleLemmas.{filter-passes}
use Rattle.session_laws.proofs.ListLemmas.{Each, Each-append, Each-contains, Each-from_contains, Each-map, Each-unmap, Each-weaker, Each-flat_map, filter-all, filter-none}
use Rattle.session_laws.proofs.LoopLemmas.{Contains-first, Contains-later}
use Rattle.session_laws.proofs.SerialLawfulLemmas.{KeepsLanes-phases}
use Rattle.session_laws.proofs.SerialLemmas.{plan_of-planned, planned_from_serial, calls_of-history_with}
use Rattle.control_desk.specs.Desks.{cycles_before}
use Rattle.serial_lanes.specs.Lanes.{calls_behind, calls_until}
use Rattle.serial_lanes.proofs.CallFronts.{calls-next_phase, lanes-next}
use Rattle.serial_lanes.proofs.TurnLemmas.{phase_at, cycles_in, cycles_more, turns_total}
use Rattle.serial_lanes.proofs.RoundLemmas.{IsLaterRound, rounds_split, calls_split, due_is}
use Rattle.control_desk.proofs.LegalLemmas.{asked_within}
use Rattle.serial_lanes.proofs.GroupLemmas.{dos_wait}
use Rattle.control_desk.specs.call_laws.proofs.ItemLemmas.{none-some, some-same, mapped_some}
use Rattle.serial_lanes.proofs.ItemLemmas.{there as there_in}
use Rattle.std.proofs.lemmas.List.{length-take-le}
use Rattle.std.proofs.lemmas.List.Sums.{sum_by-take-le}
use Rattle.serial_lanes.specs.Laws.{SerialNumber}

-- the number at a place of the definition's list
index_at : (script : Script) (history : List Entry) (ps : List ℕ) (k j p : ℕ) → slice_get ps j ≡ Some p → slice_index (numbers_from script history k ps) j ≡ serial_number script history p (k + j)
index_at script history [] k j p h = absurd (none-some p h)
index_at script history (q ∷ ps) k zero p h = let e : k ≡ k + 0 = omega arith in ap₂ (serial_number script history) (some-same q p h) e
index_at script history (q ∷ ps) k (suc j) p h = let e : k + 1 + j ≡ k + suc j = omega arith in index_at script history ps (k + 1) j p h ∙ ap (serial_number script history p) e

-- a history that goes on by more calls begins with itself
pub history_front : (script : Script) (history : List Entry) (plans : List Planned) → (more : List Entry) × (history_with script history plans ≡ history ++ more) × (calls_of more ≡ map (λ (plan : Planned). plan.call) plans)
history_front script history [] = ([], sym (append-nil history), refl)
history_front script history (plan ∷ plans) =
    let one : Entry = answered script history plan.call in
    let w = history_front script (history ++ one ∷ []) plans in
    (one ∷ w.0, w.1 ∙ append_assoc history (one ∷ []) w.0, ap (λ cs. plan.call ∷ cs) w.2)

pub history_append : (script : Script) (history : List Entry) (xs ys : List Planned) → history_with script history (xs ++ ys) ≡ history_with script (history_with script history xs) ys
history_append script history [] ys = refl
history_append script history (x ∷ xs) ys = history_append script (history ++ answered script history x.call ∷ []) xs ys

-- entries whose calls all pass, or all fail
kept_by : (test : Call → Bool) (es : List Entry) → Each (λ (c : Call). test c ≡ true) (calls_of es) → filter (λ (e : Entry). test e.call) es ≡ es
kept_by test es h = filter-all (λ (e : Entry). test e.call) es (Each-unmap (λ (c : Call). test c ≡ true) (λ (e : Entry). e.call) es h)

lost_by : (test : Call → Bool) (es : List Entry) → Each (λ (c : Call). test c ≡ false) (calls_of es) → filter (λ (e : Entry). test e.call) es ≡ []
lost_by test es h = filter-none (λ (e : Entry). test e.call) es (Each-unmap (λ (c : Call). test c ≡ false) (λ (e : Entry). e.call) es h)

-- the test of a planned call
before_is : (script : Script) (p k : ℕ) (plan : Planned) → Contains (planned script) plan → is_before script p k plan.call ≡ (nat_le plan.stage (2 * p + 1) && nat_le (plan.asked + 1) k)
before_is script p k plan there = ap (λ o. option_map_or (λ (q : Planned). nat_le q.stage (2 * p + 1) && nat_le (q.asked + 1) k) o false) (plan_of-planned script plan there)

stage_below : (script : Script) (phs : List Phase) (index base : ℕ) → Each (λ (plan : Planned). plan.stage < 2 * (index + length phs)) (calls_from script index base phs)
stage_below script [] index base = tt
stage_below script (phase ∷ phs) index base =
    let limit : ℕ = 2 * (index + suc (length phs)) in
    let Low : Planned → Type 0 = λ plan. plan.stage < limit in
    let rounds : List Planned = flat_map (λ t. lanes_at script index (base + t)) (below (phase.cycles + 1)) in
    let none : flat_map (λ t. lanes_at script index (base + t)) (below (0 + (phase.cycles + 1))) ≡ rounds = let e : 0 + (phase.cycles + 1) ≡ phase.cycles + 1 = omega arith in ap (λ n. flat_map (λ t. lanes_at script index (base + t)) (below n)) e in
    let w = rounds_split script index base 0 (phase.cycles + 1) in
    let rounds_each : Each Low rounds = subst (Each Low) (sym w.1 ∙ none) (Each-weaker (IsLaterRound index (base + 0)) Low (λ plan h. omega (arith, h.0)) w.0 w.2) in
    let dos_each : Each Low (do_calls script index) =
    Each-from_contains Low (do_calls script index) (λ plan c. let s : plan.stage ≡ 2 * index = eqb-true plan.stage (2 * index) (filter-passes (λ (q : Planned). q.stage == 2 * index) (planned script) plan c) in omega (arith, s)) in
    Each-append Low (do_calls script index ++ rounds) (calls_from script (index + 1) (base + phase.cycles) phs)
    (Each-append Low (do_calls script index) rounds dos_each rounds_each)
    (Each-weaker (λ (plan : Planned). plan.stage < 2 * (index + 1 + length phs)) Low (λ plan h. omega (arith, h)) (calls_from script (index + 1) (base + phase.cycles) phs) (stage_below script phs (index + 1) (base + phase.cycles)))

sum_next : (phs : List Phase) (n : ℕ) (phase : Phase) → slice_get phs n ≡ Some phase → cycles_in (take (suc n) phs) ≡ cycles_in (take n phs) + phase.cycles
sum_next [] n phase h = absurd (none-some phase h)
sum_next (one ∷ phs) zero phase h =
    let e : one.cycles ≡ phase.cycles = ap (λ (p : Phase). p.cycles) (some-same one phase h) in
    let s : cycles_in (one ∷ []) ≡ one.cycles + 0 = cycles_more one [] in
    omega (arith, e, s)
sum_next (one ∷ phs) (suc n) phase h = let rest = sum_next phs n phase h in omega (arith, rest, cycles_more one (take (suc n) phs), cycles_more one (take n phs))

-- the calls of the first rounds of a phase
abbrev IsEarlyRound : ℕ → ℕ → Planned → Type 0
IsEarlyRound p k plan = (plan.stage ≡ 2 * p + 1) × (plan.asked < k)

rounds_early : (script : Script) (p base n : ℕ) → Each (IsEarlyRound p (base + n)) (flat_map (λ t. lanes_at script p (base + t)) (below n))
rounds_early script p base zero = tt
rounds_early script p base (suc n) =
    let front : List Planned = flat_map (λ t. lanes_at script p (base + t)) (below n) in
    let last : List Planned = lanes_at script p (base + n) in
    let one : (lane : ℕ) → Each (IsEarlyRound p (base + suc n)) (due script p (base + n) lane) = λ lane.
    Each-from_contains (IsEarlyRound p (base + suc n)) (due script p (base + n) lane) (λ plan c. let d = due_is script p (base + n) lane plan c in (d.0, omega (arith, d.1))) in
    subst (Each (IsEarlyRound p (base + suc n))) (sym (lanes-next script p base n))
    (Each-append (IsEarlyRound p (base + suc n)) front last
    (Each-weaker (IsEarlyRound p (base + n)) (IsEarlyRound p (base + suc n)) (λ plan h. (h.0, omega (arith, h.1))) front (rounds_early script p base n))
    (Each-flat_map (IsEarlyRound p (base + suc n)) (due script p (base + n)) (1 ∷ 2 ∷ 3 ∷ 4 ∷ []) (one 1, (one 2, (one 3, (one 4, tt))))))

in_front_of : {X : Type 0} (xs ys : List X) (x : X) → Contains xs x → Contains (xs ++ ys) x
in_front_of {X} xs ys x c = Each-contains (λ y. Contains (xs ++ ys) y) xs x (each xs) c
  where
    each : (zs : List X) → Each (λ y. Contains (zs ++ ys) y) zs
    each [] = tt
    each (z ∷ zs) = (Contains-first z (zs ++ ys), Each-weaker (λ y. Contains (zs ++ ys) y) (λ y. Contains (z ∷ (zs ++ ys)) y) (λ y d. Contains-later z y (zs ++ ys) d) zs (each zs))

both_true : (a b c d : ℕ) → a ≤ b → c ≤ d → (nat_le a b && nat_le c d) ≡ true
both_true a b c d h k = grind (arith, nat_tests)

first_false : (a b : ℕ) (x : Bool) → b < a → (nat_le a b && x) ≡ false
first_false a b x h = grind (arith, nat_tests)

second_false : (x : Bool) (c d : ℕ) → d < c → (x && nat_le c d) ≡ false
second_false true c d h = grind (arith, nat_tests)
second_false false c d h = refl

pub serial_number_is : SerialNumber
serial_number_is script done t phase is_script here low =
    index_at script history (map (λ (turn : ScriptCycle). turn.phase) (turns script)) 1 j done turn_there
    ∙ ap (λ (es : List Entry). length (accepted es)) (
    ap (filter (λ (e : Entry). test e.call)) whole
    ∙ filter-append (λ (e : Entry). test e.call) first w.0
    ∙ ap₂ (λ a b. a ++ b) (kept_by test first kept) (lost_by test w.0 lost)
    ∙ append-nil first)
  where
    base : ℕ
    base = cycles_before script done

    j : ℕ
    j = base + t

    history : List Entry
    history = serial_history script

    test : Call → Bool
    test call = is_before script done (1 + (base + t)) call

    more : (later : List Planned) × (flat_map (λ u. lanes_at script done (cycles_before script done + u)) (below (t + 1 + (phase.cycles - t))) ≡ flat_map (λ u. lanes_at script done (cycles_before script done + u)) (below (t + 1)) ++ later) × Each (IsLaterRound done (cycles_before script done + (t + 1))) later
    more = rounds_split script done (cycles_before script done) (t + 1) (phase.cycles - t)

    behind : (later : List Planned) × (calls_from script 0 0 (phases script) ≡ calls_from script 0 0 (take (suc done) (phases script)) ++ later) × Each (λ (plan : Planned). 2 * (0 + suc done) ≤ plan.stage) later
    behind = calls_split script (phases script) 0 0 (suc done) (slice_get_within (phases script) done phase here)

    front : List Planned
    front = calls_until script done (suc t)

    rest : List Planned
    rest = more.0 ++ behind.0

    all : serial_calls script ≡ front ++ rest
    all =
        let count : phase.cycles + 1 ≡ t + 1 + (phase.cycles - t) = omega (arith, low) in
        let next : t + 1 ≡ suc t = omega arith in
        let start : List Planned = calls_behind script done ++ do_calls script done in
        behind.1
        ∙ ap (λ xs. xs ++ behind.0) (sym (calls-next_phase script done phase here)
        ∙ ap (λ m. start ++ flat_map (λ u. lanes_at script done (cycles_before script done + u)) (below m)) count
        ∙ ap (λ xs. start ++ xs) more.1
        ∙ sym (append_assoc start (flat_map (λ u. lanes_at script done (cycles_before script done + u)) (below (t + 1))) more.0)
        ∙ ap (λ m. (start ++ flat_map (λ u. lanes_at script done (cycles_before script done + u)) (below m)) ++ more.0) next)
        ∙ append_assoc front more.0 behind.0

    first : List Entry
    first = history_with script [] front

    w : (more : List Entry) × (history_with script first rest ≡ first ++ more) × (calls_of more ≡ map (λ (plan : Planned). plan.call) rest)
    w = history_front script first rest

    whole : history ≡ first ++ w.0
    whole = ap (history_with script []) all ∙ history_append script [] front rest ∙ w.1

    in_plan : (plan : Planned) → Contains (serial_calls script) plan → Contains (planned script) plan
    in_plan plan c = planned_from_serial script (KeepsLanes-phases script is_script) plan c

    Early : Planned → Type 0
    Early plan = Contains (planned script) plan → (plan.stage ≤ 2 * done + 1) × (plan.asked + 1 ≤ 1 + (base + t))

    size : length (take done (phases script)) ≡ done
    size = length-take-le done (phases script) (let p = slice_get_within (phases script) done phase here in omega (arith, p))

    early : Each Early front
    early =
        Each-append Early (calls_behind script done ++ do_calls script done) (flat_map (λ u. lanes_at script done (cycles_before script done + u)) (below (suc t)))
        (Each-append Early (calls_behind script done) (do_calls script done)
        (Each-weaker (λ (plan : Planned). plan.stage < 2 * (0 + length (take done (phases script)))) Early
        (λ plan h there. let b = asked_within script plan done is_script there (omega (arith, h, size)) in (omega (arith, h, size), omega (arith, b))) (calls_behind script done) (stage_below script (take done (phases script)) 0 0))
        (Each-from_contains Early (do_calls script done) (λ plan c there. of_do plan c there)))
        (Each-weaker (IsEarlyRound done (cycles_before script done + suc t)) Early (λ plan h there. (omega (arith, h.0), omega (arith, h.1))) (flat_map (λ u. lanes_at script done (cycles_before script done + u)) (below (suc t))) (rounds_early script done (cycles_before script done) (suc t)))
      where
        of_do : (plan : Planned) → Contains (do_calls script done) plan → Contains (planned script) plan → (plan.stage ≤ 2 * done + 1) × (plan.asked + 1 ≤ 1 + (base + t))
        of_do plan c there =
            let s : plan.stage ≡ 2 * done = eqb-true plan.stage (2 * done) (filter-passes (λ (q : Planned). q.stage == 2 * done) (planned script) plan c) in
            let nothing : plan.asked ≡ 0 = dos_wait script plan done there s in
            (omega (arith, s), omega (arith, nothing))

    kept : Each (λ (c : Call). test c ≡ true) (calls_of first)
    kept =
        subst (Each (λ (c : Call). test c ≡ true)) (sym (calls_of-history_with script [] front))
        (Each-map (λ (c : Call). test c ≡ true) (λ (plan : Planned). plan.call) front
        (Each-from_contains (λ (plan : Planned). test plan.call ≡ true) front (λ plan c.
        let there = in_plan plan (subst (λ ps. Contains ps plan) (sym all) (in_front_of front rest plan c)) in
        let e = Each-contains Early front plan early c there in
        before_is script done (1 + (base + t)) plan there ∙ both_true plan.stage (2 * done + 1) (plan.asked + 1) (1 + (base + t)) e.0 e.1)))

    Late : Planned → Type 0
    Late plan = (nat_le plan.stage (2 * done + 1) && nat_le (plan.asked + 1) (1 + (base + t))) ≡ false

    late : Each Late rest
    late =
        Each-append Late more.0 behind.0
        (Each-weaker (IsLaterRound done (cycles_before script done + (t + 1))) Late (λ plan h. second_false (nat_le plan.stage (2 * done + 1)) (plan.asked + 1) (1 + (base + t)) (omega (arith, h.1))) more.0 more.2)
        (Each-weaker (λ (plan : Planned). 2 * (0 + suc done) ≤ plan.stage) Late (λ plan h. first_false plan.stage (2 * done + 1) (nat_le (plan.asked + 1) (1 + (base + t))) (omega (arith, h))) behind.0 behind.2)

    at_back : (xs ys : List Planned) (x : Planned) → Contains ys x → Contains (xs ++ ys) x
    at_back [] ys x c = c
    at_back (z ∷ xs) ys x c = Contains-later z x (xs ++ ys) (at_back xs ys x c)

    lost : Each (λ (c : Call). test c ≡ false) (calls_of w.0)
    lost =
        subst (Each (λ (c : Call). test c ≡ false)) (sym w.2)
        (Each-map (λ (c : Call). test c ≡ false) (λ (plan : Planned). plan.call) rest
        (Each-from_contains (λ (plan : Planned). test plan.call ≡ false) rest (λ plan c.
        let there = in_plan plan (subst (λ ps. Contains ps plan) (sym all) (at_back front rest plan c)) in
        before_is script done (1 + (base + t)) plan there ∙ Each-contains Late rest plan late c)))

    turn_there : slice_get (map (λ (turn : ScriptCycle). turn.phase) (turns script)) j ≡ Some done
    turn_there =
        let up : cycles_in (take (suc done) (phases script)) ≡ base + phase.cycles = sum_next (phases script) done phase here in
        let most : cycles_in (take (suc done) (phases script)) ≤ cycles_in (phases script) = sum_by-take-le (λ (p : Phase). p.cycles) (phases script) (suc done) in
        let total : cycles_in (phases script) ≡ length (turns script) = turns_total (phases script) 0 in
        let inside : j < length (turns script) = omega (arith, up, most, total, low) in
        let is : (slice_index_or (turns script) j no_turn).phase ≡ 0 + done = phase_at (phases script) 0 done j (omega arith) (omega (arith, up, low)) in
        let zeroth : 0 + done ≡ done = omega arith in
        mapped_some (λ (turn : ScriptCycle). turn.phase) (turns script) j (slice_index_or (turns script) j no_turn) (there_in (turns script) j no_turn inside) ∙ ap Some (is ∙ zeroth)
