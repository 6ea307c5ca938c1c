-- The end of a phase, and a lane's calls there.
--     group_left      what lane 0 has left before a phase
--     behind_none, behind-last, behind-all      a desk between the phases
use Rattle.std.proofs.Common.{◌≡◌, ℕ, suc, ◌+◌, ◌*◌, ◌≤◌, Bool, false, ◌==◌, List, [], ◌∷◌, ◌++◌, length, drop, slice_get, Contains, Some, None, refl, sym, ◌∙◌, ap, subst, arith, append_assoc, append-nil, ne_eqb}
use Rattle.std.specs.Prelude.{flat_map}
use Rattle.std.proofs.lemmas.List.Elements.{filter-append}
use Rattle.std.proofs.lemmas.Option.{slice_get_within}
use Rattle.std.proofs.Math.Seq.{drop-append_seam}
use Rattle.session_model.specs.Grammar.{IsScript}
use Rattle.session_model.specs.Samples.{below}
use Rattle.session_model.specs.Scripts.{Script, Phase, Planned, phases, planned_of}
use Rattle.session_model.specs.Serial.{do_calls, due, lanes_at, history_with}
use Rattle.session_laws.proofs.ListLemmas.{Each, Each-contains, Each-from_contains, Each-flat_map, Each-below, filter-none, Contains-filtered}
use Rattle.session_laws.proofs.SerialCallsLemmas.{lane_of_serial_calls}
use Rattle.session_laws.proofs.SerialLawfulLemmas.{KeepsLanes-phases}
use Rattle.control_desk.specs.Desks.{Desk, IsDone, cycles_before, made, within}
use Rattle.serial_lanes.specs.Lanes.{BehindPhases, calls_behind}
use Rattle.serial_lanes.specs.Laws.{BehindAll, BehindLastRound, BehindNone}
use Rattle.serial_lanes.proofs.CallFronts.{calls-next_phase, calls-whole}
use Rattle.serial_lanes.proofs.GroupLemmas.{dos_own}
use Rattle.control_desk.specs.call_laws.proofs.ItemLemmas.{contained}
use Rattle.serial_lanes.proofs.ItemLemmas.{first_of_rest, none_of_rest}
use Rattle.serial_lanes.proofs.MadeLemmas.{made_behind, within-later, within-none, within-zero}
use Rattle.serial_lanes.proofs.RoundLemmas.{calls_split, due_is, on_lane}

-- rounds have no call of lane 0
rounds_other : (script : Script) (done base n : ℕ) → on_lane 0 (flat_map (λ t. lanes_at script done (base + t)) (below n)) ≡ []
rounds_other script done base n =
    filter-none (λ (plan : Planned). plan.call.lane == 0) (flat_map (λ t. lanes_at script done (base + t)) (below n))
    (Each-flat_map Other (λ t. lanes_at script done (base + t)) (below n) (Each-below (λ t. Each Other (lanes_at script done (base + t))) n (λ t low. round (base + t))))
  where
    Other : Planned → Type 0
    Other plan = (plan.call.lane == 0) ≡ false

    one : (k lane : ℕ) → 1 ≤ lane → Each Other (due script done k lane)
    one k lane some = Each-from_contains Other (due script done k lane) (λ plan c. let own = (due_is script done k lane plan c).2 in ne_eqb plan.call.lane 0 (λ e. omega (arith, own, e, some)))

    round : (k : ℕ) → Each Other (lanes_at script done k)
    round k = Each-flat_map Other (due script done k) (1 ∷ 2 ∷ 3 ∷ 4 ∷ []) (one k 1 (omega arith), (one k 2 (omega arith), (one k 3 (omega arith), (one k 4 (omega arith), tt))))

-- what a lane has left behind so many phases is of later ones
lane_left : (script : Script) (done lane : ℕ) → IsScript script → done ≤ length (phases script) → lane ≤ 4
    → (later : List Planned) × (planned_of script lane ≡ on_lane lane (calls_behind script done) ++ later) × ((plan : Planned) → Contains later plan → 2 * done ≤ plan.stage)
lane_left script done lane is_script there low =
    let test : Planned → Bool = λ plan. plan.call.lane == lane in
    let behind = calls_split script (phases script) 0 0 done there in (
      on_lane lane behind.0,
      sym (lane_of_serial_calls script (KeepsLanes-phases script is_script) lane low) ∙ ap (on_lane lane) behind.1 ∙ filter-append test (calls_behind script done) behind.0,
      λ plan c. let late = Each-contains (λ (p : Planned). 2 * (0 + done) ≤ p.stage) behind.0 plan behind.2 (Contains-filtered test behind.0 plan c) in omega (arith, late),
    )

-- behind so many phases lane 0 goes on with the next one's `do` calls
pub group_left : (script : Script) (done n : ℕ) (phase : Phase) → IsScript script → slice_get (phases script) done ≡ Some phase → n ≡ length (on_lane 0 (calls_behind script done))
    → (later : List Planned) × (drop n (planned_of script 0) ≡ do_calls script done ++ later) × ((plan : Planned) → Contains later plan → 2 * suc done ≤ plan.stage)
group_left script done n phase is_script here count =
    let left = lane_left script (suc done) 0 is_script (slice_get_within (phases script) done phase here) (omega arith) in
    let test : Planned → Bool = λ plan. plan.call.lane == 0 in
    let base : ℕ = cycles_before script done in
    let rounds : List Planned = flat_map (λ t. lanes_at script done (base + t)) (below (phase.cycles + 1)) in
    let own : on_lane 0 (calls_behind script (suc done)) ≡ on_lane 0 (calls_behind script done) ++ do_calls script done =
    ap (on_lane 0) (sym (calls-next_phase script done phase here))
    ∙ filter-append test (calls_behind script done ++ do_calls script done) rounds
    ∙ ap (λ xs. on_lane 0 (calls_behind script done ++ do_calls script done) ++ xs) (rounds_other script done base (phase.cycles + 1))
    ∙ append-nil (on_lane 0 (calls_behind script done ++ do_calls script done))
    ∙ filter-append test (calls_behind script done) (do_calls script done)
    ∙ ap (λ xs. on_lane 0 (calls_behind script done) ++ xs) (dos_own script done is_script) in (
      left.0,
      ap (λ m. drop m (planned_of script 0)) count
          ∙ ap (drop (length (on_lane 0 (calls_behind script done)))) (left.1 ∙ ap (λ xs. xs ++ left.0) own ∙ append_assoc (on_lane 0 (calls_behind script done)) (do_calls script done) left.0)
          ∙ drop-append_seam (on_lane 0 (calls_behind script done)) (do_calls script done ++ left.0),
      left.2,
    )

-- ---- a desk between the phases

none_left : (script : Script) (done lane : ℕ) → IsScript script → done ≤ length (phases script) → lane ≤ 4 → within done (slice_get (planned_of script lane) (length (on_lane lane (calls_behind script done)))) ≡ None
none_left script done lane is_script there low = go left.0 left.1 left.2
  where
    own : List Planned
    own = on_lane lane (calls_behind script done)

    left : (later : List Planned) × (planned_of script lane ≡ own ++ later) × ((plan : Planned) → Contains later plan → 2 * done ≤ plan.stage)
    left = lane_left script done lane is_script there low

    rest : (later : List Planned) → planned_of script lane ≡ own ++ later → drop (length own) (planned_of script lane) ≡ later
    rest later e = ap (drop (length own)) e ∙ drop-append_seam own later

    go : (later : List Planned) → planned_of script lane ≡ own ++ later → ((plan : Planned) → Contains later plan → 2 * done ≤ plan.stage) → within done (slice_get (planned_of script lane) (length own)) ≡ None
    go [] e late = within-none done (slice_get (planned_of script lane) (length own)) (none_of_rest (planned_of script lane) (length own) (rest [] e))
    go (plan ∷ later) e late =
        within-later done (slice_get (planned_of script lane) (length own)) plan (first_of_rest (planned_of script lane) (length own) plan later (rest (plan ∷ later) e)) (late plan (contained (plan ∷ later) 0 plan refl))

-- where the history is that of so many phases, no lane has a call left
pub used-behind : (desk : Desk) (done : ℕ) → IsScript desk.script → done ≤ length (phases desk.script) → desk.history ≡ history_with desk.script [] (calls_behind desk.script done) → desk.phase ≡ done → (lane : ℕ) → lane ≤ 4 → IsDone desk lane
used-behind desk done is_script there history phase lane low =
    let count : made desk.history lane ≡ length (on_lane lane (calls_behind desk.script done)) = ap (λ es. made es lane) history ∙ made_behind desk.script (calls_behind desk.script done) lane in
    ap (λ n. within n (slice_get (planned_of desk.script lane) (made desk.history lane))) phase
    ∙ ap (λ n. within done (slice_get (planned_of desk.script lane) n)) count
    ∙ none_left desk.script done lane is_script there low

pub behind_none : BehindNone
behind_none script publisher desk new = subst (λ d. BehindPhases d 0) (sym new) (record {
  history = refl;
  phase = refl;
  used = λ lane low. within-zero (slice_get (planned_of script lane) (made [] lane));
})

pub behind-last : BehindLastRound
behind-last desk done phase is_script here serial =
    let history : desk.history ≡ history_with desk.script [] (calls_behind desk.script (suc done)) = serial.history ∙ ap (history_with desk.script []) (calls-next_phase desk.script done phase here) in
    record {
      history = history;
      phase = serial.phase;
      used = used-behind desk (suc done) is_script (slice_get_within (phases desk.script) done phase here) history serial.phase;
    }

pub behind-all : BehindAll
behind-all desk behind = behind.history ∙ ap (history_with desk.script []) (calls-whole desk.script)
