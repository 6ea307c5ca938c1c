-- The `do` calls of a phase: lane 0's, of an even stage, waiting for nothing.
use Rattle.std.proofs.Common.{◌≡◌, ℕ, ◌+◌, ◌*◌, ◌/◌, ◌%◌, Bool, true, false, cond, ◌==◌, List, [], ◌∷◌, ◌++◌, Contains, refl, ◌∙◌, ap, arith, eq-eqb, eqb-true}
use Rattle.jack_types.specs.declared.commands.Command.{Command}
use Rattle.session_model.specs.Grammar.{IsScript}
use Rattle.session_model.specs.Scripts.{Script, Phase, LaneCall, Planned, Uncounted, phases, planned, planned_of, uncounted}
use Rattle.session_model.specs.Serial.{do_calls}
use Rattle.session_laws.proofs.CycleLemmas.{filter-passes}
use Rattle.session_laws.proofs.ListLemmas.{Each, Each-all, Each-append, Each-contains, Each-from_contains, Each-map, filter-all, Contains-filtered}
use Rattle.session_laws.proofs.SerialCallsLemmas.{dos_of, calls_at, Each-counted}
use Rattle.control_desk.proofs.LegalLemmas.{stage_of_lane}
use Rattle.serial_lanes.proofs.RoundLemmas.{on_lane}

-- `do` calls wait for nothing
dos_ask : (phs : List Phase) (index base : ℕ) → Each (λ (u : Uncounted). (p : ℕ) → u.stage ≡ 2 * p → u.asked ≡ 0) (uncounted index base phs)
dos_ask [] index base = tt
dos_ask (phase ∷ phs) index base =
    let P : Uncounted → Type 0 = λ u. (p : ℕ) → u.stage ≡ 2 * p → u.asked ≡ 0 in
    Each-append P (dos_of index phase ++ calls_at index base phase) (uncounted (index + 1) (base + phase.cycles) phs)
    (Each-append P (dos_of index phase) (calls_at index base phase)
    (Each-map P (λ (command : Command). record { lane = 0; command = command; stage = 2 * index; asked = 0 }) phase.dos (Each-all (λ (command : Command). (p : ℕ) → 2 * index ≡ 2 * p → 0 ≡ 0) (λ command p e. refl) phase.dos))
    (Each-map P (λ (call : LaneCall). record { lane = call.lane; command = call.command; stage = 2 * index + 1; asked = base + call.begun }) phase.calls
    (Each-all (λ (call : LaneCall). (p : ℕ) → 2 * index + 1 ≡ 2 * p → base + call.begun ≡ 0) (λ call p e. absurd (omega (arith, e))) phase.calls)))
    (dos_ask phs (index + 1) (base + phase.cycles))

pub dos_wait : (script : Script) (plan : Planned) (done : ℕ) → Contains (planned script) plan → plan.stage ≡ 2 * done → plan.asked ≡ 0
dos_wait script plan done there stage =
    Each-contains (λ (p : Planned). (m : ℕ) → p.stage ≡ 2 * m → p.asked ≡ 0) (planned script) plan
    (Each-counted (λ (u : Uncounted). (m : ℕ) → u.stage ≡ 2 * m → u.asked ≡ 0) [] (uncounted 0 0 (phases script)) (dos_ask (phases script) 0 0)) there done stage

-- a call of lane 0 waits for nothing
pub group_waits : (script : Script) (plan : Planned) → IsScript script → Contains (planned_of script 0) plan → plan.asked ≡ 0
group_waits script plan is_script there =
    let listed : Contains (planned script) plan = Contains-filtered (λ (p : Planned). p.call.lane == 0) (planned script) plan there in
    let own : (plan.call.lane == 0) ≡ true = filter-passes (λ (p : Planned). p.call.lane == 0) (planned script) plan there in
    let even : plan.stage % 2 ≡ 0 = stage_of_lane script plan is_script listed ∙ ap (λ b. cond b 0 1) own in
    dos_wait script plan (plan.stage / 2) listed (omega (arith, even))

pub dos_are : (script : Script) (done : ℕ) → IsScript script → (plan : Planned) → Contains (do_calls script done) plan → (plan.stage ≡ 2 * done) × Contains (planned script) plan × (plan.call.lane ≡ 0)
dos_are script done is_script plan c = (stage, listed, own (plan.call.lane == 0) refl (stage_of_lane script plan is_script listed))
  where
    stage : plan.stage ≡ 2 * done
    stage = eqb-true plan.stage (2 * done) (filter-passes (λ (q : Planned). q.stage == 2 * done) (planned script) plan c)

    listed : Contains (planned script) plan
    listed = Contains-filtered (λ (q : Planned). q.stage == 2 * done) (planned script) plan c

    own : (b : Bool) → (plan.call.lane == 0) ≡ b → plan.stage % 2 ≡ cond b 0 1 → plan.call.lane ≡ 0
    own true e rest = eqb-true plan.call.lane 0 e
    own false e rest = absurd (omega (arith, stage, rest))

pub dos_own : (script : Script) (done : ℕ) → IsScript script → on_lane 0 (do_calls script done) ≡ do_calls script done
dos_own script done is_script =
    filter-all (λ (plan : Planned). plan.call.lane == 0) (do_calls script done)
    (Each-from_contains (λ (plan : Planned). (plan.call.lane == 0) ≡ true) (do_calls script done) (λ plan c. eq-eqb plan.call.lane 0 (dos_are script done is_script plan c).2))
