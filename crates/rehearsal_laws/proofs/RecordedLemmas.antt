-- The recorder of a rehearsal.
--     taped      in each cycle the tape is active
--     row      its row in the report
--     size      how long its file is
use Rattle.std.proofs.Common.{◌≡◌, ℕ, zero, suc, ◌+◌, ◌*◌, ◌<◌, ◌≤◌, ◌==◌, Bool, true, false, cond, not, ◌&&◌, nat_lt, min, List, [], ◌∷◌, ◌++◌, length, length-append, map, filter, flat_map, take, slice_get, slice_index, count_by, Option, Some, None, refl, sym, ◌∙◌, ap, subst, arith, add-one, append-nil, append_assoc, eq-eqb, eqb-true, true≢false}
use Rattle.std.specs.Prelude.{codes, is_some, if◌then◌else◌, pos, replicate, ℤ}
use Rattle.std.specs.List.{AllByRecursion}
use Rattle.std.specs.Option.{option_map_or}
use Rattle.std.proofs.lemmas.List.{length-replicate}
use Rattle.std.proofs.lemmas.List.Elements.{filter-append}
use Rattle.std.proofs.lemmas.List.Sums.{sum_by-append}
use native.Mathlib.Nat.{min-le_left, le-min}
use Rattle.jack_types.specs.declared.commands.Change.{Change}
use Rattle.jack_types.specs.declared.commands.Command.{Command}
use Rattle.jack_types.specs.declared.commands.Command.TheVariants.{Close, Connect, Deactivate}
use Rattle.jack_types.specs.declared.kinds.Kind.{Kind}
use Rattle.jack_types.specs.declared.kinds.Kind.TheVariants.{Pass, Gain, Mix, Delay, Tape}
use Rattle.jack_types.specs.declared.replies.Entry.{Entry}
use Rattle.jack_types.specs.declared.replies.Overrun.{Overrun}
use Rattle.jack_types.specs.declared.replies.Reply.{Reply}
use Rattle.jack_types.specs.declared.replies.Underrun.{Underrun}
use Rattle.jack_types.specs.declared.replies.Reply.TheVariants.{Accepted, Refused, Latency}
use Rattle.jack_types.specs.declared.scripts.Body.{Body}
use Rattle.jack_types.specs.declared.scripts.Body.TheVariants.{Do, Run, Freewheel, Lane, Period}
use Rattle.rand_pcg.specs.Lcg.{Lcg}
use Rattle.rehearsal_model.specs.Rehearsals.{client_lines, draw, kind_by, output_name, rehearsal}
use Rattle.session_model.specs.Commands.{shares}
use Rattle.session_model.specs.Courses.{Course, DiskFile, graph, number, period, turn}
use Rattle.session_model.specs.Explanations.{course_of, record_text}
use Rattle.session_model.specs.Grammar.{IsScript, opens}
use Rattle.session_model.specs.Histories.{Cycles, accepted, accepted_below, stage_of, state_after}
use Rattle.session_model.specs.Cycles.{audio_inputs, input_of}
use Rattle.session_model.specs.Kinds.{Sound, input_at}
use Rattle.session_model.specs.Recorders.{block, block_of, is_lost, is_taping, kept_before, recorded, recorder_format, taping}
use Rattle.session_model.specs.Reports.{printed_recorder}
use Rattle.session_model.specs.Samples.{below, bytes_of, sample}
use Rattle.session_model.specs.Scripts.{LaneCall, Phase, Planned, Script, ScriptCycle, Uncounted, counted, lane_calls, phases, phases_of, planned, turns, uncounted, with_do}
use Rattle.session_model.specs.Serial.{Counts, answered, calls_from, course_in_serial, lanes_at, counted_in, counts, do_calls, drained, emptied, history_with, put_one, serial, serial_calls, serial_course, serial_history, serial_overruns}
use Rattle.session_model.specs.State.{OpenClient, OpenPort, State}
use Rattle.session_model.specs.WaveFiles.{wave_text}
use Rattle.session_laws.proofs.FilterLemmas.{count-append, count-cons}
use Rattle.session_laws.proofs.ListLemmas.{Each, Each-append, Each-contains, Each-filter, Each-from_contains, Each-weaker, Contains-filtered, filter-all, filter-none}
use Rattle.session_laws.proofs.SerialCallsLemmas.{Each-counted, KeepsLanes}
use Rattle.session_laws.proofs.SerialLawfulLemmas.{KeepsLanes-phases, serial-has_cycles}
use Rattle.session_laws.proofs.SerialLemmas.{plan_of-planned, planned_from_serial}
use Rattle.wave_laws.proofs.WaveSamples.{length-bytes_of}
use Rattle.rehearsal_laws.specs.Lines.{capture_line}
use Rattle.rehearsal_laws.proofs.DrawnLemmas.{all-append}
use Rattle.rehearsal_laws.proofs.PlayedLemmas.{HasTurns, all-pass, file-size, flat-length, plain, told-bytes, turn-plain, turns-are}
use Rattle.rehearsal_laws.proofs.ScriptLemmas.{AreDos, AreLanes, counts as lines-counted, dos-in, dos_of, each-chain, each-client, each-lane, each-other, parts, script}
use Rattle.rehearsal_laws.proofs.TapeLemmas.{HasTape, IsEarlyLine, IsFirst, IsTaped, Made, Stays, accepted-append, commands_in, early-calls, plans_of, state-behind, tape-found, tape-kept, tape-made, tape_lines, uncounted_do}

-- ---- the script in two phases

-- the first has these lines and the segment, the second is empty
abbrev first_phase : List Body → List Body → Phase
first_phase dos lanes = record { dos = commands_in dos; period = 64; is_freewheel = false; cycles = 10000; calls = lane_calls lanes }

abbrev last_phase : Phase
last_phase = record { dos = []; period = 64; is_freewheel = false; cycles = 0; calls = [] }

phases-lanes : (before : ℕ) (lines : List Body) → AreLanes before lines → phases_of 64 lines ≡ last_phase ∷ []
phases-lanes before [] are = refl
phases-lanes before (Do command ∷ lines) are = absurd are
phases-lanes before (Run cycles ∷ lines) are = absurd are
phases-lanes before (Freewheel cycles ∷ lines) are = absurd are
phases-lanes before (Period period ∷ lines) are = absurd are
phases-lanes before (Lane lane begun command ∷ lines) are = phases-lanes begun lines are.4

phases-dos : (dos lanes : List Body) → AreDos dos → AreLanes 0 lanes → phases_of 64 (dos ++ Run 10000 ∷ lanes) ≡ first_phase dos lanes ∷ last_phase ∷ []
phases-dos [] lanes are also = ap (λ (phs : List Phase). first_phase [] lanes ∷ phs) (phases-lanes 0 lanes also)
phases-dos (Do command ∷ dos) lanes are also = ap (with_do command) (phases-dos dos lanes are.1 also)
phases-dos (Run cycles ∷ dos) lanes are also = absurd are.0
phases-dos (Freewheel cycles ∷ dos) lanes are also = absurd are.0
phases-dos (Lane lane begun command ∷ dos) lanes are also = absurd are.0
phases-dos (Period period ∷ dos) lanes are also = absurd are.0

-- the plans of the first uncounted calls, where the others are of other stages
first-kept : (earlier xs ys : List Uncounted) → Each (λ (one : Uncounted). one.stage ≡ 0) xs → Each (λ (one : Uncounted). (one.stage == 0) ≡ false) ys → filter (λ (plan : Planned). plan.stage == 0) (counted earlier (xs ++ ys)) ≡ counted earlier xs
first-kept earlier [] ys all none = filter-none (λ (plan : Planned). plan.stage == 0) (counted earlier ys) (Each-counted (λ (one : Uncounted). (one.stage == 0) ≡ false) earlier ys none)
first-kept earlier (x ∷ xs) ys all none =
    let first : Planned = record { call = record { lane = x.lane; index = count_by (λ (other : Uncounted). other.lane == x.lane) earlier + 1; command = x.command }; stage = x.stage; asked = x.asked } in
    let others : List Planned = filter (λ (plan : Planned). plan.stage == 0) (counted (earlier ++ x ∷ []) (xs ++ ys)) in
    ap (λ b. cond b (first ∷ others) others) (eq-eqb x.stage 0 all.0) ∙ ap (λ (plans : List Planned). first ∷ plans) (first-kept (earlier ++ x ∷ []) xs ys all.1 none)

each-do : (commands : List Command) → Each (λ (one : Uncounted). one.stage ≡ 0) (map uncounted_do commands)
each-do [] = tt
each-do (command ∷ commands) = (refl, each-do commands)

abbrev uncounted_call : LaneCall → Uncounted
uncounted_call call = record { lane = call.lane; command = call.command; stage = 1; asked = 0 + call.begun }

each-call : (calls : List LaneCall) → Each (λ (one : Uncounted). (one.stage == 0) ≡ false) (map uncounted_call calls)
each-call [] = tt
each-call (call ∷ calls) = (refl, each-call calls)

-- ---- no command takes the tape away

abbrev IsStayLine : Body → Type 0
IsStayLine (Do command) = Stays command
IsStayLine (Lane lane begun command) = Stays command
IsStayLine (Run cycles) = ⊥
IsStayLine (Freewheel cycles) = ⊥
IsStayLine (Period period) = ⊥

early-stay : (command : Command) → IsEarlyLine (Do command) → Stays command
early-stay (Close _) early = absurd early
early-stay (Deactivate _) early = absurd early
early-stay _ early = tt

early-lines : (lines : List Body) → AllByRecursion IsEarlyLine lines → AllByRecursion IsStayLine lines
early-lines [] early = tt
early-lines (Do command ∷ lines) early = (early-stay command early.0, early-lines lines early.1)
early-lines (Run cycles ∷ lines) early = absurd early.0
early-lines (Freewheel cycles ∷ lines) early = absurd early.0
early-lines (Lane lane begun command ∷ lines) early = absurd early.0
early-lines (Period period ∷ lines) early = absurd early.0

stay-dos : (lines : List Body) → AllByRecursion IsStayLine lines → Each (λ (one : Uncounted). Stays one.command) (map uncounted_do (commands_in lines))
stay-dos [] stay = tt
stay-dos (Do command ∷ lines) stay = (stay.0, stay-dos lines stay.1)
stay-dos (Run cycles ∷ lines) stay = absurd stay.0
stay-dos (Freewheel cycles ∷ lines) stay = absurd stay.0
stay-dos (Lane lane begun command ∷ lines) stay = stay-dos lines stay.1
stay-dos (Period period ∷ lines) stay = absurd stay.0

stay-calls : (lines : List Body) → AllByRecursion IsStayLine lines → Each (λ (one : Uncounted). Stays one.command) (map uncounted_call (lane_calls lines))
stay-calls [] stay = tt
stay-calls (Do command ∷ lines) stay = tt
stay-calls (Run cycles ∷ lines) stay = absurd stay.0
stay-calls (Freewheel cycles ∷ lines) stay = absurd stay.0
stay-calls (Lane lane begun command ∷ lines) stay = (stay.0, stay-calls lines stay.1)
stay-calls (Period period ∷ lines) stay = absurd stay.0

-- ---- the history

history_with-append : (script : Script) (history : List Entry) (xs ys : List Planned) → history_with script history (xs ++ ys) ≡ history_with script (history_with script history xs) ys
history_with-append script history [] ys = refl
history_with-append script history (x ∷ xs) ys = history_with-append script (history ++ answered script history x.call ∷ []) xs ys

-- what more calls add to a history
record Adds (script : Script) (history : List Entry) (plans : List Planned) : Type 0 where
  later : List Entry
  same : history_with script history plans ≡ history ++ later
  stay : Each (λ (entry : Entry). Stays entry.call.command) later

adds : (script : Script) (history : List Entry) (plans : List Planned) → Each (λ (plan : Planned). Stays plan.call.command) plans → Adds script history plans
adds script history [] stay = record { later = []; same = sym (append-nil history); stay = tt }
adds script history (plan ∷ plans) stay =
    let entry : Entry = answered script history plan.call in
    let more : Adds script (history ++ entry ∷ []) plans = adds script (history ++ entry ∷ []) plans stay.1 in
    record { later = entry ∷ more.later; same = more.same ∙ append_assoc history (entry ∷ []) more.later; stay = (stay.0, more.stay) }

stay-accepted : (history : List Entry) → Each (λ (entry : Entry). Stays entry.call.command) history → Each (λ (change : Change). Stays change.command) (accepted history)
stay-accepted [] stay = tt
stay-accepted (entry ∷ history) stay = go entry.reply (stay-accepted history stay.1)
  where
    go : (r : Reply) → Each (λ (change : Change). Stays change.command) (accepted history) → Each (λ (change : Change). Stays change.command) (accepted (record entry { reply = r } ∷ history))
    go (Accepted number) others = (stay.0, others)
    go (Refused refusal) others = others
    go (Latency range) others = others

each-behind : {X : Type 0} (P : X → Type 0) (xs ys : List X) → Each P (xs ++ ys) → Each P ys
each-behind P [] ys each = each
each-behind P (x ∷ xs) ys each = each-behind P xs ys each.1

each-take : {X : Type 0} (P : X → Type 0) (n : ℕ) (xs : List X) → Each P xs → Each P (take n xs)
each-take P zero xs each = tt
each-take P (suc n) [] each = tt
each-take P (suc n) (x ∷ xs) each = (each.0, each-take P n xs each.1)

-- a front that is not shorter than the first of two lists
take-past : {X : Type 0} (xs ys : List X) (n : ℕ) → length xs ≤ n → (m : ℕ) × (take n (xs ++ ys) ≡ xs ++ take m ys)
take-past [] ys n long = (n, refl)
take-past (x ∷ xs) ys zero long = absurd (none long)
  where
    none : {m : ℕ} → suc m ≤ 0 → ⊥
    none less = omega (arith, less)
take-past (x ∷ xs) ys (suc n) long = let past = take-past xs ys n (omega (arith, long)) in (past.0, ap (λ zs. x ∷ zs) past.1)

-- a script whose first phase opens the tape behind early calls, and whose lanes leave it
record OpensTape (script : Script) : Type 0 where
  front : List Body
  lanes : List Body
  lawful : IsScript script
  phases_are : phases script ≡ first_phase (front ++ tape_lines) lanes ∷ last_phase ∷ []
  early : AllByRecursion IsEarlyLine front
  few : count_by opens front ≤ 62
  stay : AllByRecursion IsStayLine lanes
  turns_are : turns script ≡ replicate 10000 plain

-- behind the first entries the tape is there, and the others leave it
record KeepsTape (script : Script) : Type 0 where
  history : List Entry
  later : List Entry
  same : serial_history script ≡ history ++ later
  tape : HasTape (state_after script history).clients
  made : Each (λ (entry : Entry). IsFirst script entry.call) history
  stay : Each (λ (entry : Entry). Stays entry.call.command) later

module _ (script : Script) (is : OpensTape script) where
  abbrev dos : List Body
  dos = is.front ++ tape_lines

  abbrev first : List Uncounted
  first = map uncounted_do (commands_in dos)

  abbrev calls : List Uncounted
  calls = map uncounted_call (lane_calls is.lanes)

  do-calls : do_calls script 0 ≡ plans_of [] dos
  do-calls =
      ap (λ (phs : List Phase). filter (λ (plan : Planned). plan.stage == 0) (counted [] (uncounted 0 0 phs))) is.phases_are
      ∙ ap (λ (us : List Uncounted). filter (λ (plan : Planned). plan.stage == 0) (counted [] us)) (append_assoc first calls [])
      ∙ first-kept [] first (calls ++ []) (each-do (commands_in dos)) (Each-append (λ (one : Uncounted). (one.stage == 0) ≡ false) calls [] (each-call (lane_calls is.lanes)) tt)

  -- the calls behind those of lane 0
  others : List Planned
  others = flat_map (λ cycles. lanes_at script 0 (0 + cycles)) (below (10000 + 1)) ++ calls_from script 1 (0 + 10000) (last_phase ∷ [])

  serial-calls : serial_calls script ≡ do_calls script 0 ++ others
  unfolding others
  serial-calls =
      ap (calls_from script 0 0) is.phases_are
      ∙ append_assoc (do_calls script 0) (flat_map (λ cycles. lanes_at script 0 (0 + cycles)) (below (10000 + 1))) (calls_from script 1 (0 + 10000) (last_phase ∷ []))

  keeps : Each KeepsLanes (phases script)
  keeps = KeepsLanes-phases script is.lawful

  planned-stay : Each (λ (plan : Planned). Stays plan.call.command) (planned script)
  planned-stay =
      Each-counted (λ (one : Uncounted). Stays one.command) [] (uncounted 0 0 (phases script))
      (subst (λ (phs : List Phase). Each (λ (one : Uncounted). Stays one.command) (uncounted 0 0 phs)) (sym is.phases_are)
      (Each-append (λ (one : Uncounted). Stays one.command) (first ++ calls) []
      (Each-append (λ (one : Uncounted). Stays one.command) first calls
      (stay-dos dos (all-append IsStayLine is.front tape_lines (early-lines is.front is.early) (tt, (tt, (tt, (tt, (tt, tt))))))) (stay-calls is.lanes is.stay)) tt))

  others-stay : Each (λ (plan : Planned). Stays plan.call.command) others
  others-stay =
      each-behind (λ (plan : Planned). Stays plan.call.command) (do_calls script 0) others
      (subst (Each (λ (plan : Planned). Stays plan.call.command)) serial-calls
      (Each-from_contains (λ (plan : Planned). Stays plan.call.command) (serial_calls script)
      (λ plan there. Each-contains (λ (plan : Planned). Stays plan.call.command) (planned script) plan planned-stay (planned_from_serial script keeps plan there))))

  first-calls : Each (λ (plan : Planned). IsFirst script plan.call) (plans_of [] dos)
  first-calls =
      subst (Each (λ (plan : Planned). IsFirst script plan.call)) do-calls
      (Each-from_contains (λ (plan : Planned). IsFirst script plan.call) (do_calls script 0)
      (λ plan there.
      ap (λ (o : Option Planned). option_map_or (λ (p : Planned). p.stage) o 0) (plan_of-planned script plan (Contains-filtered (λ (p : Planned). p.stage == 0) (planned script) plan there))
      ∙ Each-contains (λ (p : Planned). p.stage ≡ 0) (do_calls script 0) plan (Each-filter (λ (p : Planned). p.stage ≡ 0) (λ (p : Planned). p.stage == 0) (planned script) (λ p e. eqb-true p.stage 0 e)) there))

  early-made : Made script 63 [] [] is.front tape_lines
  early-made =
      early-calls script 63 tape_lines is.front 1 [] [] is.early (let few = is.few in omega (arith, few))
      (record { each = ((refl, refl), tt); few = omega arith }) tt first-calls

  taped : IsTaped script early-made.history (plans_of early-made.before tape_lines)
  taped = tape-made script 63 early-made.history early-made.before (omega arith) early-made.clients early-made.made early-made.rest

  keeps-tape : KeepsTape script
  keeps-tape =
      let more : Adds script taped.history (taped.rest ++ others) =
      adds script taped.history (taped.rest ++ others) (Each-append (λ (plan : Planned). Stays plan.call.command) taped.rest others taped.stay others-stay) in
      let dos_made : history_with script [] (do_calls script 0) ≡ history_with script taped.history taped.rest =
      ap (history_with script []) do-calls ∙ early-made.same ∙ taped.same in
      record {
        history = taped.history;
        later = more.later;
        same = ap (history_with script []) serial-calls ∙ history_with-append script [] (do_calls script 0) others
            ∙ ap (λ (entries : List Entry). history_with script entries others) dos_made ∙ sym (history_with-append script taped.history taped.rest others) ∙ more.same;
        tape = taped.tape;
        made = taped.made;
        stay = more.stay;
      }

  -- ---- in each cycle the tape is active

  numbers-low : (xs : List ℕ) (low i : ℕ) → ((k n : ℕ) → slice_get xs k ≡ Some n → low ≤ n) → i < length xs → low ≤ slice_index xs i
  numbers-low [] low i least few = absurd (none few)
    where
      none : {m : ℕ} → m < 0 → ⊥
      none less = omega (arith, less)
  numbers-low (x ∷ xs) low zero least few = least 0 x refl
  numbers-low (x ∷ xs) low (suc i) least few = numbers-low xs low i (λ k n e. least (suc k) n e) (omega (arith, few))

  replicate-at : (n k : ℕ) (x : ScriptCycle) → k < n → slice_get (replicate n x) k ≡ Some x
  replicate-at zero k x few = absurd (none few)
    where
      none : {m : ℕ} → m < 0 → ⊥
      none less = omega (arith, less)
  replicate-at (suc n) zero x few = refl
  replicate-at (suc n) (suc k) x few = replicate-at n k x (omega (arith, few))

  cycles : Cycles script (serial script).history (serial script).numbers
  cycles = serial-has_cycles script is.lawful

  numbers-many : length (serial script).numbers ≡ 10000
  numbers-many = cycles.each ∙ ap length is.turns_are ∙ length-replicate 10000 plain

  -- what the calls of lane 0 made is below each number
  low-number : length (accepted keeps-tape.history) ≤ accepted_below script (serial_history script) 1
  low-number =
      let test : Entry → Bool = λ (entry : Entry). nat_lt (stage_of script entry.call) 1 in
      let all : filter test keeps-tape.history ≡ keeps-tape.history =
      filter-all test keeps-tape.history (Each-weaker (λ (entry : Entry). IsFirst script entry.call) (λ (entry : Entry). test entry ≡ true) (λ entry first. ap (λ n. nat_lt n 1) first) keeps-tape.history keeps-tape.made) in
      let two : length (accepted (filter test (serial_history script))) ≡ length (accepted keeps-tape.history) + length (accepted (filter test keeps-tape.later)) =
      ap (λ (entries : List Entry). length (accepted (filter test entries))) keeps-tape.same
      ∙ ap (λ (entries : List Entry). length (accepted entries)) (filter-append test keeps-tape.history keeps-tape.later)
      ∙ ap length (accepted-append (filter test keeps-tape.history) (filter test keeps-tape.later))
      ∙ length-append (accepted (filter test keeps-tape.history)) (accepted (filter test keeps-tape.later))
      ∙ ap (λ (entries : List Entry). length (accepted entries) + length (accepted (filter test keeps-tape.later))) all in
      omega (arith, two)

  low : (k n : ℕ) → slice_get (serial script).numbers k ≡ Some n → length (accepted keeps-tape.history) ≤ n
  low k n e =
      let few : k < 10000 = within (serial script).numbers k n e numbers-many in
      let bound = (cycles.bounds k n plain e (ap (λ (ts : List ScriptCycle). slice_get ts k) is.turns_are ∙ replicate-at 10000 k plain few)).0 in
      omega (arith, bound, low-number)
    where
      none-some : (m : ℕ) → None ≡ Some m → ⊥
      none-some m f = cc

      inside : (xs : List ℕ) (k n : ℕ) → slice_get xs k ≡ Some n → k < length xs
      inside [] k n f = absurd (none-some n f)
      inside (x ∷ xs) zero n f = omega arith
      inside (x ∷ xs) (suc k) n f = let less = inside xs k n f in omega (arith, less)

      within : (xs : List ℕ) (k n : ℕ) → slice_get xs k ≡ Some n → length xs ≡ 10000 → k < 10000
      within xs k n f many = let less = inside xs k n f in omega (arith, less, many)

  module _ (capture : List ℤ) (disks : List DiskFile) (scores : List Sound) (underruns : List (List Underrun)) where
    abbrev course : Course
    course = course_in_serial script capture disks scores underruns

    has-tape : (i : ℕ) → i < 10000 → HasTape (graph course (i + 1)).clients
    has-tape i few =
        let kept : KeepsTape script = keeps-tape in
        let at : number course (i + 1) ≡ slice_index (serial script).numbers i = behind (serial script).numbers i in
        let least : length (accepted kept.history) ≤ slice_index (serial script).numbers i = numbers-low (serial script).numbers (length (accepted kept.history)) i low (omega (arith, few, numbers-many)) in
        let past = take-past (accepted kept.history) (accepted kept.later) (number course (i + 1)) (omega (arith, at, least)) in
        let changes : take (number course (i + 1)) (accepted (serial_history script)) ≡ accepted kept.history ++ take past.0 (accepted kept.later) =
        ap (λ (entries : List Entry). take (number course (i + 1)) (accepted entries)) kept.same
        ∙ ap (take (number course (i + 1))) (accepted-append kept.history kept.later) ∙ past.1 in
        subst (λ (state : State). HasTape state.clients) (sym (state-behind script kept.history (take (number course (i + 1)) (accepted (serial_history script))) (take past.0 (accepted kept.later)) changes))
        (tape-kept (state_after script kept.history) (take past.0 (accepted kept.later))
        (each-take (λ (change : Change). Stays change.command) past.0 (accepted kept.later) (stay-accepted kept.later kept.stay)) kept.tape)
      where
        behind : (xs : List ℕ) (i : ℕ) → slice_index (0 ∷ xs) (i + 1) ≡ slice_index xs i
        behind xs i = simp add-one

    is-taping : (i : ℕ) → i < 10000 → is_taping course 0 (i + 1) ≡ true
    is-taping i few = tape-found (graph course (i + 1)).clients (has-tape i few)

    has-turns : script.header.playback ≡ 2 → HasTurns course 10000
    has-turns two = record { turns_are = is.turns_are; two = two }

    many : length (turns course.script) ≡ 10000
    many = ap length is.turns_are ∙ length-replicate 10000 plain

    -- a block of each cycle
    keeps-all : kept_before course [] 0 (length (turns course.script) + 1) ≡ 10000
    keeps-all =
        ap (λ n. kept_before course [] 0 (n + 1)) many
        ∙ all-counted (λ j. is_taping course 0 (j + 1) && not (is_lost [] (j + 1))) 10000 (λ j few. ap (λ b. b && true) (is-taping j few))
      where
        passes : (b : Bool) → b ≡ true → cond b 1 0 + 0 ≡ 1
        passes true e = refl
        passes false e = absurd (true≢false (sym e))

        all-counted : (p : ℕ → Bool) (n : ℕ) → ((j : ℕ) → j < n → p j ≡ true) → count_by p (below n) ≡ n
        all-counted p zero each = refl
        all-counted p (suc n) each =
            let both : count_by p (below n ++ n ∷ []) ≡ count_by p (below n) + count_by p (n ∷ []) = sum_by-append (λ x. cond (p x) 1 0) (below n) (n ∷ []) in
            let front : count_by p (below n) ≡ n = all-counted p n (λ j few. each j (omega (arith, few))) in
            let one : count_by p (n ∷ []) ≡ 1 = count-cons p n [] ∙ passes (p n) (each n (omega arith)) in
            omega (arith, both, front, one)

    block-length : script.header.playback ≡ 2 → (recorder_format course 0).channels ≡ 1 → (i : ℕ) → i < 10000 → length (block course 0 (i + 1)) ≡ 64
    block-length two single i few =
        ap (λ channels. length (block_of course channels (i + 1) (taping course 0 (i + 1)))) single
        ∙ go (taping course 0 (i + 1)) (is-taping i few)
      where
        go : (o : Option OpenClient) → is_some o ≡ true → length (block_of course 1 (i + 1) o) ≡ 64
        go None some = absurd (true≢false (sym some))
        go (Some client) some =
            flat-length (λ frame. map (λ buffer. sample buffer frame) (map (input_at (period course (i + 1)) (map (λ (port : OpenPort). input_of course (i + 1) port.name) (audio_inputs (graph course (i + 1)) client.name))) (below 1)))
            1 (period course (i + 1)) (λ frame less. refl)
            ∙ ap (λ (t : ScriptCycle). t.period * 1) (turn-plain course 10000 i (has-turns two) few)

    recorded-length : script.header.playback ≡ 2 → (recorder_format course 0).channels ≡ 1 → length (recorded course [] 0) ≡ 640000
    recorded-length two single =
        ap (λ n. length (flat_map (λ i. block course 0 (i + 1)) (filter (λ i. is_taping course 0 (i + 1) && not (is_lost [] (i + 1))) (below n)))) many
        ∙ ap (λ (is : List ℕ). length (flat_map (λ i. block course 0 (i + 1)) is)) (all-pass (λ i. is_taping course 0 (i + 1) && not (is_lost [] (i + 1))) 10000 (λ i few. ap (λ b. b && true) (is-taping i few)))
        ∙ flat-length (λ i. block course 0 (i + 1)) 64 10000 (block-length two single)

-- ---- no overrun

record IsIdle (kept : Counts) : Type 0 where
  none_left : kept.taken ≡ kept.sent
  no_losses : kept.losses ≡ []

module _ (course : Course) (recorder : ℕ) (room : 1 ≤ course.script.header.ring) (drains : 1 ≤ course.script.header.drain) where
  idle-put : (k : ℕ) (kept : Counts) → IsIdle kept → ((put_one course recorder k kept).losses ≡ []) × (kept.taken ≡ (put_one course recorder k kept).taken) × ((put_one course recorder k kept).sent ≤ kept.taken + 1) × (kept.taken ≤ (put_one course recorder k kept).sent)
  idle-put k kept idle = go (is_taping course recorder k) (kept.sent == kept.taken + course.script.header.ring) refl
    where
      put : Bool → Bool → Counts
      put a b =
          cond (not a) kept
          (cond b (record kept { losses = kept.losses ++ record { recorder = recorder; cycle = k; sent = kept.sent; taken = kept.taken } ∷ [] }) (record kept { sent = kept.sent + 1 }))

      go : (a b : Bool) → (kept.sent == kept.taken + course.script.header.ring) ≡ b → ((put a b).losses ≡ []) × (kept.taken ≡ (put a b).taken) × ((put a b).sent ≤ kept.taken + 1) × (kept.taken ≤ (put a b).sent)
      go false b e = (idle.no_losses, refl, let same = idle.none_left in omega (arith, same), let same = idle.none_left in omega (arith, same))
      go true false e = (idle.no_losses, refl, let same = idle.none_left in omega (arith, same), let same = idle.none_left in omega (arith, same))
      go true true e = let full = eqb-true kept.sent (kept.taken + course.script.header.ring) e in let same = idle.none_left in absurd (omega (arith, full, same, room))

  idle-next : (k : ℕ) (kept : Counts) → IsIdle kept → IsIdle (counted_in course recorder k kept)
  idle-next k kept idle = go (turn course k).is_freewheel
    where
      go : (b : Bool) → IsIdle (cond b (emptied (put_one course recorder k (emptied kept))) (drained course.script.header.drain (put_one course recorder k kept)))
      go true = record { none_left = refl; no_losses = (idle-put k (emptied kept) (record { none_left = refl; no_losses = idle.no_losses })).0 }
      go false =
          let put = idle-put k kept idle in
          let sent : ℕ = (put_one course recorder k kept).sent in
          let taken : ℕ = (put_one course recorder k kept).taken + course.script.header.drain in
          let same = put.1 in
          let most = put.2 in
          let low : sent ≤ min sent taken = le-min (omega arith) (omega (arith, same, most, drains)) in
          let high : min sent taken ≤ sent = min-le_left sent taken in
          record { none_left = omega (arith, low, high); no_losses = put.0 }

  idle : (k : ℕ) → IsIdle (counts course recorder k)
  idle zero = record { none_left = refl; no_losses = refl }
  idle (suc k) = idle-next (suc k) (counts course recorder k) (idle k)

-- ---- of a rehearsal

-- no kind that is drawn takes a recorder
kind-apart : (choice : ℕ) (g : Lcg) → shares (kind_by choice g).0 (Tape 0) ≡ false
kind-apart choice g = go (choice == 0) (choice == 1) (choice == 2)
  where
    kind : Bool → Bool → Bool → Kind × Lcg
    kind a b c = if a then (Pass, g) else if b then (Gain (pos (draw 512 g).0) 8, (draw 512 g).1) else if c then (Mix, g) else (Delay (draw 256 g).0, (draw 256 g).1)

    go : (a b c : Bool) → shares (kind a b c).0 (Tape 0) ≡ false
    go true b c = refl
    go false true c = refl
    go false false true = refl
    go false false false = refl

early-clients : (k : ℕ) (g : Lcg) → AllByRecursion IsEarlyLine (client_lines k g).0
early-clients k g = ((refl, kind-apart (draw 4 g).0 (draw 4 g).1), (tt, (tt, (tt, tt))))

-- what feeds the playback
abbrev playback_lines : ℕ → List Body
playback_lines last = Do (Connect (output_name 31) (codes "system:playback_1")) ∷ Do (Connect (output_name last) (codes "system:playback_2")) ∷ []

-- the lines in front of those that open the tape
abbrev front_of : List Body → List Body → List Body → ℕ → List Body
front_of clients chain others last = clients ++ (capture_line ∷ []) ++ chain ++ others ++ playback_lines last

in-two : (clients chain others : List Body) (last : ℕ) → dos_of clients chain others last ≡ front_of clients chain others last ++ tape_lines
in-two clients chain others last = sym (append_assoc (clients ++ (capture_line ∷ []) ++ chain ++ others) (playback_lines last) tape_lines)

early-front : (n : ℕ) → AllByRecursion IsEarlyLine (front_of (parts n).clients (parts n).chain (parts n).others (parts n).last)
early-front n =
    all-append IsEarlyLine ((parts n).clients ++ (capture_line ∷ []) ++ (parts n).chain ++ (parts n).others) (playback_lines (parts n).last)
    (all-append IsEarlyLine ((parts n).clients ++ (capture_line ∷ []) ++ (parts n).chain) (parts n).others
    (all-append IsEarlyLine ((parts n).clients ++ (capture_line ∷ [])) (parts n).chain
    (all-append IsEarlyLine (parts n).clients (capture_line ∷ []) (each-client IsEarlyLine n early-clients) (tt, tt))
    (each-chain IsEarlyLine n (λ k g. (tt, tt))))
    (each-other IsEarlyLine n (λ k g. (tt, tt)))) (tt, (tt, tt))

stay-lanes : (n : ℕ) → AllByRecursion IsStayLine (parts n).lanes
stay-lanes n = each-lane IsStayLine n (λ k g. (tt, (tt, tt)))

opens-tape : (n : ℕ) → OpensTape (rehearsal n).script
opens-tape n =
    let front : List Body = front_of (parts n).clients (parts n).chain (parts n).others (parts n).last in
    let lines : (rehearsal n).script.lines ≡ front ++ tape_lines ++ Run 10000 ∷ (parts n).lanes =
    (parts n).lines_are ∙ ap (λ (dos : List Body). dos ++ Run 10000 ∷ (parts n).lanes) (in-two (parts n).clients (parts n).chain (parts n).others (parts n).last) in
    record {
      front = front;
      lanes = (parts n).lanes;
      lawful = script n;
      phases_are = ap (phases_of 64) (parts n).lines_are
          ∙ phases-dos (dos_of (parts n).clients (parts n).chain (parts n).others (parts n).last) (parts n).lanes (dos-in n) (parts n).lanes_in
          ∙ ap (λ (dos : List Body). first_phase dos (parts n).lanes ∷ last_phase ∷ []) (in-two (parts n).clients (parts n).chain (parts n).others (parts n).last);
      early = early-front n;
      few = few front (parts n).lanes (sym (ap (count_by opens) lines) ∙ (lines-counted n).opened);
      stay = stay-lanes n;
      turns_are = turns-are n;
    }
  where
    few : (front lanes : List Body) → count_by opens (front ++ tape_lines ++ Run 10000 ∷ lanes) ≡ 33 → count_by opens front ≤ 62
    few front lanes all =
        let two = count-append opens (front ++ tape_lines) (Run 10000 ∷ lanes) in
        let one = count-append opens front tape_lines in
        omega (arith, all, two, one)

-- the course of a rehearsal in serial mode
abbrev course_at : ℕ → Course
course_at n = course_of (rehearsal n) (serial (rehearsal n).script)

no-losses : (n : ℕ) → serial_overruns (rehearsal n).script 0 ≡ []
no-losses n = (idle (serial_course (rehearsal n).script) 0 (omega arith) (omega arith) (length (turns (rehearsal n).script))).no_losses

pub row : (n : ℕ) → printed_recorder (course_at n) (serial (rehearsal n).script).overruns 0 ≡ record { recorder = 0; blocks = 10000; overruns = [] }
row n =
    ap (λ (lost : List Overrun). record { recorder = 0; blocks = kept_before (course_at n) lost 0 (length (turns (course_at n).script) + 1); overruns = lost }) (no-losses n)
    ∙ ap (λ blocks. record { recorder = 0; blocks = blocks; overruns = [] }) (keeps-all (rehearsal n).script (opens-tape n) (rehearsal n).capture [] [] [])

pub size : (n : ℕ) → length (record_text (rehearsal n) (serial (rehearsal n).script) 0) ≡ 1280044
size n =
    ap (λ (lost : List Overrun). length (wave_text (recorder_format (course_at n) 0) (recorded (course_at n) lost 0))) (no-losses n)
    ∙ file-size (record { rate = 48000; channels = 1; bits = 16 }) (bytes_of 16 (recorded (course_at n) [] 0))
    ∙ ap (λ (bytes : List ℕ). 44 + length bytes) (told-bytes 48000 1 (recorded (course_at n) [] 0))
    ∙ total_of (length (bytes_of 16 (recorded (course_at n) [] 0))) (length (recorded (course_at n) [] 0)) (length-bytes_of 16 (recorded (course_at n) [] 0))
    (recorded-length (rehearsal n).script (opens-tape n) (rehearsal n).capture [] [] [] refl refl)
  where
    total_of : (a b : ℕ) → a ≡ b * 2 → b ≡ 640000 → 44 + a ≡ 1280044
    total_of a b two many = omega (arith, two, many)
