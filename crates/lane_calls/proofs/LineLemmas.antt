-- The calls on the lines of a lawful script are those that it plans.
--     planned-on_lines      the calls on all lines, counted
--     take-next, lane-push      one line more
--     kept-own, kept-other, kept-none      what is kept of a line's call
--     room-at, few-at      the numbers at a line are small
use Rattle.std.proofs.Common.{◌≡◌, ℕ, zero, suc, ◌+◌, ◌*◌, ◌≤◌, Bool, true, false, cond, ◌==◌, fold, sum_by, count_by, List, [], ◌∷◌, ◌++◌, length, map, filter, take, slice_get, Option, Some, None, refl, sym, ◌∙◌, ap, subst, arith, append_assoc, append-nil, eqb-true, eq-eqb, ne_eqb}
use Rattle.std.specs.Option.{option_map}
use Rattle.std.proofs.lemmas.List.Elements.{filter-append}
use Rattle.std.proofs.lemmas.List.Sums.{fold_push, sum_by-cons, sum_by-take-le}
use Rattle.jack_types.specs.declared.commands.Command.{Command}
use Rattle.jack_types.specs.declared.scripts.Body.{Body}
use Rattle.jack_types.specs.declared.scripts.Body.TheVariants.{Do, Run, Freewheel, Lane, Period}
use Rattle.jack_types.specs.declared.scripts.Header.{Header}
use Rattle.session_model.specs.Grammar.{IsScript, IsBody, is_call, is_segment, open_segment, segment_after}
use Rattle.session_model.specs.Scripts.{Script, Phase, LaneCall, Planned, Uncounted, phases_of, planned_of, uncounted, counted, lane_calls, with_do}
use Rattle.grammar_laws.proofs.GrammarLimits.{all_cycles-append, cycles_in}
use Rattle.session_laws.proofs.SerialLawfulLemmas.{AreBodies, AreBodies-rest}
use Rattle.lane_calls.specs.declared.calls.PlannedCall.{PlannedCall}
use Rattle.lane_calls.specs.declared.progress.Progress.{Progress}
use Rattle.lane_calls.specs.Lines.{past, segment_behind, call_on, calls_on, with_call, opening, counted_as, of_lane, kept, HasRoom}
use Rattle.lane_calls.specs.Plans.{plan_of}

none-some : {X : Type 0} (x : X) → None ≡ Some x → ⊥
none-some x e = cc

-- a front goes on by the item behind it
pub take-next : {X : Type 0} (xs : List X) (n : ℕ) (x : X) → slice_get xs n ≡ Some x → take n xs ++ x ∷ [] ≡ take (suc n) xs
take-next [] n x h = absurd (none-some x h)
take-next {X} (y ∷ xs) zero x h = ap (λ z. z ∷ []) (same h)
  where
    same : Some y ≡ Some x → x ≡ y
    same e = cc
take-next (y ∷ xs) (suc n) x h = ap (λ zs. y ∷ zs) (take-next xs n x h)

-- ---- the plans of the definitions

-- the calls of the `lane` lines behind a segment's line
abbrev in_segment : Progress → LaneCall → Uncounted
in_segment progress call = record { lane = call.lane; command = call.command; stage = progress.lanes; asked = progress.before + call.begun }

phases-some : (period : ℕ) (lines : List Body) → (phase : Phase) × (phs : List Phase) × (phases_of period lines ≡ phase ∷ phs)
phases-some period [] = (record { dos = []; period = period; is_freewheel = false; cycles = 0; calls = [] }, [], refl)
phases-some period (Do command ∷ lines) = let w = phases-some period lines in (record w.0 { dos = command ∷ (w.0).dos }, w.1, ap (with_do command) w.2)
phases-some period (Run cycles ∷ lines) = (record { dos = []; period = period; is_freewheel = false; cycles = cycles; calls = lane_calls lines }, phases_of period lines, refl)
phases-some period (Freewheel cycles ∷ lines) = (record { dos = []; period = period; is_freewheel = true; cycles = cycles; calls = lane_calls lines }, phases_of period lines, refl)
phases-some period (Lane _ _ _ ∷ lines) = phases-some period lines
phases-some period (Period next ∷ lines) = phases-some next lines

uncounted-do : (command : Command) (index base period : ℕ) (lines : List Body)
    → uncounted index base (with_do command (phases_of period lines)) ≡ record { lane = 0; command = command; stage = 2 * index; asked = 0 } ∷ uncounted index base (phases_of period lines)
uncounted-do command index base period lines =
    let w = phases-some period lines in
    subst (λ ps. uncounted index base (with_do command ps) ≡ record { lane = 0; command = command; stage = 2 * index; asked = 0 } ∷ uncounted index base ps) (sym w.2) refl

module _ (header : Header) where
  first-body : (earlier : List Body) (line : Body) (lines : List Body) → AreBodies header earlier (line ∷ lines) → IsBody header earlier line
  first-body earlier line lines h = subst (λ es. IsBody header es line) (append-nil earlier) (h 0 line refl)

  -- no `lane` line stands where no segment is open
  lane-none : (earlier lines : List Body) → AreBodies header earlier lines → open_segment earlier ≡ None → lane_calls lines ≡ []
  lane-none earlier [] h o = refl
  lane-none earlier (Do _ ∷ lines) h o = refl
  lane-none earlier (Run _ ∷ lines) h o = refl
  lane-none earlier (Freewheel _ ∷ lines) h o = refl
  lane-none earlier (Period _ ∷ lines) h o = refl
  lane-none earlier (Lane lane begun command ∷ lines) h o =
      let b : IsBody header earlier (Lane lane begun command) = first-body earlier (Lane lane begun command) lines h in
      absurd (none-some (b.1).0 (sym o ∙ (b.1).1))

  calls-planned : (lines earlier : List Body) (period index : ℕ) (progress : Progress) → AreBodies header earlier lines → progress.dos ≡ 2 * index
      → calls_on progress lines ≡ map (in_segment progress) (lane_calls lines) ++ uncounted index progress.behind (phases_of period lines)
  calls-planned [] earlier period index progress h e = refl
  calls-planned (Do command ∷ lines) earlier period index progress h e =
      let later : List Body = earlier ++ Do command ∷ [] in
      let all : AreBodies header later lines = AreBodies-rest header earlier (Do command) lines h in
      let none : lane_calls lines ≡ [] = lane-none later lines all (fold_push segment_after None earlier (Do command)) in
      let rest : calls_on progress lines ≡ uncounted index progress.behind (phases_of period lines) =
      calls-planned lines later period index progress all e ∙ ap (λ cs. map (in_segment progress) cs ++ uncounted index progress.behind (phases_of period lines)) none in
      ap (λ (us : List Uncounted). record { lane = 0; command = command; stage = progress.dos; asked = 0 } ∷ us) rest
      ∙ ap (λ (s : ℕ). record { lane = 0; command = command; stage = s; asked = 0 } ∷ uncounted index progress.behind (phases_of period lines)) e
      ∙ sym (uncounted-do command index progress.behind period lines)
  calls-planned (Run cycles ∷ lines) earlier period index progress h e =
      let twice : progress.dos + 2 ≡ 2 * (index + 1) = omega (arith, e) in
      calls-planned lines (earlier ++ Run cycles ∷ []) period (index + 1) (segment_behind progress cycles) (AreBodies-rest header earlier (Run cycles) lines h) twice
      ∙ ap (λ (s : ℕ). map (λ (call : LaneCall). record { lane = call.lane; command = call.command; stage = s + 1; asked = progress.behind + call.begun }) (lane_calls lines) ++ uncounted (index + 1) (progress.behind + cycles) (phases_of period lines)) e
  calls-planned (Freewheel cycles ∷ lines) earlier period index progress h e =
      let twice : progress.dos + 2 ≡ 2 * (index + 1) = omega (arith, e) in
      calls-planned lines (earlier ++ Freewheel cycles ∷ []) period (index + 1) (segment_behind progress cycles) (AreBodies-rest header earlier (Freewheel cycles) lines h) twice
      ∙ ap (λ (s : ℕ). map (λ (call : LaneCall). record { lane = call.lane; command = call.command; stage = s + 1; asked = progress.behind + call.begun }) (lane_calls lines) ++ uncounted (index + 1) (progress.behind + cycles) (phases_of period lines)) e
  calls-planned (Lane lane begun command ∷ lines) earlier period index progress h e =
      ap (λ (us : List Uncounted). record { lane = lane; command = command; stage = progress.lanes; asked = progress.before + begun } ∷ us)
      (calls-planned lines (earlier ++ Lane lane begun command ∷ []) period index progress (AreBodies-rest header earlier (Lane lane begun command) lines h) e)
  calls-planned (Period next ∷ lines) earlier period index progress h e =
      let later : List Body = earlier ++ Period next ∷ [] in
      let all : AreBodies header later lines = AreBodies-rest header earlier (Period next) lines h in
      let none : lane_calls lines ≡ [] = lane-none later lines all (fold_push segment_after None earlier (Period next)) in
      calls-planned lines later next index progress all e ∙ ap (λ cs. map (in_segment progress) cs ++ uncounted index progress.behind (phases_of next lines)) none

pub planned-on_lines : (script : Script) → IsScript script → (lane : ℕ) → of_lane lane (calls_on opening script.lines) ≡ planned_of script lane
planned-on_lines script is lane =
    ap (of_lane lane)
    (calls-planned script.header script.lines [] script.header.period 0 opening is.lines refl
    ∙ ap (λ cs. map (in_segment opening) cs ++ uncounted 0 0 (phases_of script.header.period script.lines)) (lane-none script.header [] script.lines is.lines refl))

-- ---- one line more

abbrev one : Option Uncounted → List Uncounted
one None = []
one (Some call) = call ∷ []

calls_on-push : (progress : Progress) (xs : List Body) (x : Body) → calls_on progress (xs ++ x ∷ []) ≡ calls_on progress xs ++ one (call_on (fold past progress xs) x)
calls_on-push progress [] x = go (call_on progress x)
  where
    go : (o : Option Uncounted) → with_call o [] ≡ one o
    go None = refl
    go (Some call) = refl
calls_on-push progress (y ∷ xs) x = go (call_on progress y) (calls_on-push (past progress y) xs x)
  where
    go : (o : Option Uncounted) → calls_on (past progress y) (xs ++ x ∷ []) ≡ calls_on (past progress y) xs ++ one (call_on (fold past (past progress y) xs) x)
        → with_call o (calls_on (past progress y) (xs ++ x ∷ [])) ≡ with_call o (calls_on (past progress y) xs) ++ one (call_on (fold past (past progress y) xs) x)
    go None e = e
    go (Some call) e = ap (λ (us : List Uncounted). call ∷ us) e

abbrev is_of : ℕ → Uncounted → Bool
is_of lane call = call.lane == lane

counted-push : (earlier us : List Uncounted) (u : Uncounted) → counted earlier (us ++ u ∷ []) ≡ counted earlier us ++ counted_as (count_by (is_of u.lane) (earlier ++ us) + 1) u ∷ []
counted-push earlier [] u = ap (λ es. counted_as (count_by (is_of u.lane) es + 1) u ∷ []) (sym (append-nil earlier))
counted-push earlier (x ∷ us) u =
    ap (λ (ps : List Planned). counted_as (count_by (is_of x.lane) earlier + 1) x ∷ ps)
    (counted-push (earlier ++ x ∷ []) us u ∙ ap (λ es. counted (earlier ++ x ∷ []) us ++ counted_as (count_by (is_of u.lane) es + 1) u ∷ []) (append_assoc earlier (x ∷ []) us))

lane-count : (lane : ℕ) (earlier us : List Uncounted) → length (filter (λ (plan : Planned). plan.call.lane == lane) (counted earlier us)) ≡ count_by (is_of lane) us
lane-count lane earlier [] = refl
lane-count lane earlier (u ∷ us) = go (u.lane == lane) (lane-count lane (earlier ++ u ∷ []) us) ∙ sym (sum_by-cons (λ (call : Uncounted). cond (call.lane == lane) 1 0) u us)
  where
    rest : List Planned
    rest = filter (λ (plan : Planned). plan.call.lane == lane) (counted (earlier ++ u ∷ []) us)

    first : Planned
    first = counted_as (count_by (is_of u.lane) earlier + 1) u

    go : (b : Bool) → length rest ≡ count_by (is_of lane) us → length (cond b (first ∷ rest) rest) ≡ cond b 1 0 + count_by (is_of lane) us
    go true e = omega (arith, e)
    go false e = omega (arith, e)

of_lane-push : (lane : ℕ) (us : List Uncounted) (u : Uncounted) → of_lane lane (us ++ u ∷ []) ≡ kept lane (of_lane lane us) (Some (counted_as (length (of_lane lane us) + 1) u))
of_lane-push lane us u =
    ap (filter (λ (plan : Planned). plan.call.lane == lane)) (counted-push [] us u)
    ∙ filter-append (λ (plan : Planned). plan.call.lane == lane) (counted [] us) (counted_as (count_by (is_of u.lane) us + 1) u ∷ [])
    ∙ go (u.lane == lane) refl
  where
    go : (b : Bool) → (u.lane == lane) ≡ b → of_lane lane us ++ cond b (counted_as (count_by (is_of u.lane) us + 1) u ∷ []) []
        ≡ cond b (of_lane lane us ++ counted_as (length (of_lane lane us) + 1) u ∷ []) (of_lane lane us)
    go true t =
        let same : count_by (is_of u.lane) us ≡ length (of_lane lane us) = ap (λ l. count_by (is_of l) us) (eqb-true u.lane lane t) ∙ sym (lane-count lane [] us) in
        ap (λ n. of_lane lane us ++ counted_as (n + 1) u ∷ []) same
    go false t = append-nil (of_lane lane us)

pub lane-push : (lane : ℕ) (xs : List Body) (x : Body) (progress : Progress) (plans : List Planned) → progress ≡ fold past opening xs → plans ≡ of_lane lane (calls_on opening xs)
    → of_lane lane (calls_on opening (xs ++ x ∷ [])) ≡ kept lane plans (option_map (counted_as (length plans + 1)) (call_on progress x))
lane-push lane xs x progress plans e p =
    ap (of_lane lane) (calls_on-push opening xs x ∙ ap (λ q. calls_on opening xs ++ one (call_on q x)) (sym e))
    ∙ go (call_on progress x)
    ∙ ap (λ ps. kept lane ps (option_map (counted_as (length ps + 1)) (call_on progress x))) (sym p)
  where
    go : (o : Option Uncounted) → of_lane lane (calls_on opening xs ++ one o)
        ≡ kept lane (of_lane lane (calls_on opening xs)) (option_map (counted_as (length (of_lane lane (calls_on opening xs)) + 1)) o)
    go None = ap (of_lane lane) (append-nil (calls_on opening xs))
    go (Some u) = of_lane-push lane (calls_on opening xs) u

-- a call is kept where it is of the lane
pub kept-own : (lane : ℕ) (call : PlannedCall) (old new : List PlannedCall) (found : Option PlannedCall) → found ≡ Some call → call.call.lane ≡ lane → new ≡ old ++ call ∷ []
    → map plan_of new ≡ kept lane (map plan_of old) (option_map plan_of found)
kept-own lane call old new found e own longer =
    ap (map plan_of) longer ∙ pushed old ∙ ap (λ b. cond b (map plan_of old ++ plan_of call ∷ []) (map plan_of old)) (sym (eq-eqb call.call.lane lane own)) ∙ ap (λ o. kept lane (map plan_of old) (option_map plan_of o)) (sym e)
  where
    pushed : (xs : List PlannedCall) → map plan_of (xs ++ call ∷ []) ≡ map plan_of xs ++ plan_of call ∷ []
    pushed [] = refl
    pushed (x ∷ xs) = ap (λ ps. plan_of x ∷ ps) (pushed xs)

pub kept-other : (lane : ℕ) (call : PlannedCall) (old new : List PlannedCall) (found : Option PlannedCall) → found ≡ Some call → (call.call.lane ≡ lane → ⊥) → new ≡ old
    → map plan_of new ≡ kept lane (map plan_of old) (option_map plan_of found)
kept-other lane call old new found e other same =
    ap (map plan_of) same ∙ ap (λ b. cond b (map plan_of old ++ plan_of call ∷ []) (map plan_of old)) (sym (ne_eqb call.call.lane lane other)) ∙ ap (λ o. kept lane (map plan_of old) (option_map plan_of o)) (sym e)

pub kept-none : (lane : ℕ) (old new : List PlannedCall) (found : Option PlannedCall) → found ≡ None → new ≡ old → map plan_of new ≡ kept lane (map plan_of old) (option_map plan_of found)
kept-none lane old new found e same = ap (map plan_of) same ∙ ap (λ o. kept lane (map plan_of old) (option_map plan_of o)) (sym e)

-- ---- the numbers are small

behind-sum : (lines : List Body) (progress : Progress) → (fold past progress lines).behind ≡ progress.behind + sum_by cycles_in lines
behind-sum [] progress = omega arith
behind-sum (line ∷ lines) progress =
    let rest : (fold past (past progress line) lines).behind ≡ (past progress line).behind + sum_by cycles_in lines = behind-sum lines (past progress line) in
    let sum : sum_by cycles_in (line ∷ lines) ≡ cycles_in line + sum_by cycles_in lines = sum_by-cons cycles_in line lines in
    omega (arith, rest, sum, here line)
  where
    here : (l : Body) → (past progress l).behind ≡ progress.behind + cycles_in l
    here (Do _) = omega arith
    here (Run cycles) = refl
    here (Freewheel cycles) = refl
    here (Lane _ _ _) = omega arith
    here (Period _) = omega arith

dos-count : (lines : List Body) (progress : Progress) → (fold past progress lines).dos ≡ progress.dos + 2 * count_by is_segment lines
dos-count [] progress = omega arith
dos-count (line ∷ lines) progress =
    let rest : (fold past (past progress line) lines).dos ≡ (past progress line).dos + 2 * count_by is_segment lines = dos-count lines (past progress line) in
    let sum : count_by is_segment (line ∷ lines) ≡ cond (is_segment line) 1 0 + count_by is_segment lines = sum_by-cons (λ (l : Body). cond (is_segment l) 1 0) line lines in
    omega (arith, rest, sum, here line)
  where
    here : (l : Body) → (past progress l).dos ≡ progress.dos + 2 * cond (is_segment l) 1 0
    here (Do _) = omega arith
    here (Run cycles) = omega arith
    here (Freewheel cycles) = omega arith
    here (Lane _ _ _) = omega arith
    here (Period _) = omega arith

-- the open segment ends where the lines have come to
open-within : (lines : List Body) (progress : Progress) (open_now : Option ℕ) → ((c : ℕ) → open_now ≡ Some c → progress.before + c ≤ progress.behind)
    → (c : ℕ) → fold segment_after open_now lines ≡ Some c → (fold past progress lines).before + c ≤ (fold past progress lines).behind
open-within [] progress open_now within c e = within c e
open-within (line ∷ lines) progress open_now within c e = open-within lines (past progress line) (segment_after open_now line) (here line) c e
  where
    lost : (d : ℕ) → None ≡ Some d → ⊥
    lost d f = cc

    same : (a d : ℕ) → Some a ≡ Some d → a ≡ d
    same a d f = cc

    here : (l : Body) (d : ℕ) → segment_after open_now l ≡ Some d → (past progress l).before + d ≤ (past progress l).behind
    here (Do _) d f = absurd (lost d f)
    here (Run cycles) d f = let s : cycles ≡ d = same cycles d f in omega (arith, s)
    here (Freewheel cycles) d f = let s : cycles ≡ d = same cycles d f in omega (arith, s)
    here (Lane _ _ _) d f = within d f
    here (Period _) d f = absurd (lost d f)

calls_on-count : (lines : List Body) (progress : Progress) → length (calls_on progress lines) ≡ count_by is_call lines
calls_on-count [] progress = refl
calls_on-count (line ∷ lines) progress = here line (calls_on-count lines (past progress line)) ∙ sym (sum_by-cons (λ (l : Body). cond (is_call l) 1 0) line lines)
  where
    here : (l : Body) → length (calls_on (past progress line) lines) ≡ count_by is_call lines → length (with_call (call_on progress l) (calls_on (past progress line) lines)) ≡ cond (is_call l) 1 0 + count_by is_call lines
    here (Do _) e = omega (arith, e)
    here (Run _) e = omega (arith, e)
    here (Freewheel _) e = omega (arith, e)
    here (Lane _ _ _) e = omega (arith, e)
    here (Period _) e = omega (arith, e)

count-within : (lane : ℕ) (us : List Uncounted) → count_by (is_of lane) us ≤ length us
count-within lane [] = omega arith
count-within lane (u ∷ us) =
    let sum : count_by (is_of lane) (u ∷ us) ≡ cond (u.lane == lane) 1 0 + count_by (is_of lane) us = sum_by-cons (λ (call : Uncounted). cond (call.lane == lane) 1 0) u us in
    omega (arith, sum, count-within lane us, small (u.lane == lane))
  where
    small : (b : Bool) → cond b 1 0 ≤ 1
    small true = omega arith
    small false = omega arith

module _ (script : Script) (is : IsScript script) where
  cycles-few : sum_by cycles_in script.lines ≤ 1000000
  cycles-few = let all = all_cycles-append script.header.period [] script.lines in let few = is.few_cycles in omega (arith, all, few)

  pub few-at : (lane i : ℕ) (plans : List Planned) → plans ≡ of_lane lane (calls_on opening (take i script.lines)) → length plans ≤ 4096
  few-at lane i plans e =
      let us : List Uncounted = calls_on opening (take i script.lines) in
      let size : length plans ≡ count_by (is_of lane) us = ap length e ∙ lane-count lane [] us in
      let count : length us ≡ count_by is_call (take i script.lines) = calls_on-count (take i script.lines) opening in
      let fewer : count_by is_call (take i script.lines) ≤ count_by is_call script.lines = sum_by-take-le (λ (l : Body). cond (is_call l) 1 0) script.lines i in
      let all = is.few_calls in
      omega (arith, size, count, fewer, all, count-within lane us)

  pub room-at : (i : ℕ) (line : Body) (progress : Progress) → slice_get script.lines i ≡ Some line → progress ≡ fold past opening (take i script.lines) → HasRoom progress line
  room-at i line progress at e = subst (λ p. HasRoom p line) (sym e) (here line at)
    where
      front : List Body
      front = take i script.lines

      now : Progress
      now = fold past opening front

      behind-now : now.behind ≡ sum_by cycles_in front
      behind-now = let s = behind-sum front opening in omega (arith, s)

      behind-few : now.behind ≤ 1000000
      behind-few = let fewer : sum_by cycles_in front ≤ sum_by cycles_in script.lines = sum_by-take-le cycles_in script.lines i in omega (arith, behind-now, fewer, cycles-few)

      behind-next : (l : Body) → slice_get script.lines i ≡ Some l → now.behind + cycles_in l ≤ 1000000
      behind-next l q =
          let sum : sum_by cycles_in (front ++ l ∷ []) ≡ sum_by cycles_in (take (suc i) script.lines) = ap (sum_by cycles_in) (take-next script.lines i l q) in
          let push : sum_by cycles_in (front ++ l ∷ []) ≡ sum_by cycles_in front + cycles_in l = sum_push front in
          let fewer : sum_by cycles_in (take (suc i) script.lines) ≤ sum_by cycles_in script.lines = sum_by-take-le cycles_in script.lines (suc i) in
          omega (arith, sum, push, fewer, behind-now, cycles-few)
        where
          sum_push : (xs : List Body) → sum_by cycles_in (xs ++ l ∷ []) ≡ sum_by cycles_in xs + cycles_in l
          sum_push [] = let s = sum_by-cons cycles_in l [] in omega (arith, s)
          sum_push (x ∷ xs) = let s = sum_by-cons cycles_in x xs in let t = sum_by-cons cycles_in x (xs ++ l ∷ []) in omega (arith, s, t, sum_push xs)

      dos-now : now.dos ≤ 512
      dos-now =
          let s = dos-count front opening in
          let fewer : count_by is_segment front ≤ count_by is_segment script.lines = sum_by-take-le (λ (l : Body). cond (is_segment l) 1 0) script.lines i in
          let few = is.few_segments in
          omega (arith, s, fewer, few)

      begun-within : (lane begun : ℕ) (command : Command) → slice_get script.lines i ≡ Some (Lane lane begun command) → now.before + begun ≤ now.behind
      begun-within lane begun command q =
          let b : IsBody script.header front (Lane lane begun command) = is.lines i (Lane lane begun command) q in
          let reach : now.before + (b.1).0 ≤ now.behind = open-within front opening None (λ c f. absurd (none-some c f)) (b.1).0 (b.1).1 in
          let low = (b.1).2 in
          omega (arith, reach, low)

      here : (l : Body) → slice_get script.lines i ≡ Some l → HasRoom now l
      here (Do _) q = tt
      here (Period _) q = tt
      here (Run cycles) q = let s = behind-next (Run cycles) q in (omega (arith, dos-now), omega (arith, s))
      here (Freewheel cycles) q = let s = behind-next (Freewheel cycles) q in (omega (arith, dos-now), omega (arith, s))
      here (Lane lane begun command) q = let s = begun-within lane begun command q in omega (arith, s, behind-few)
