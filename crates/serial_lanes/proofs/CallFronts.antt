-- The fronts of serial mode's calls: one more round of the lanes, the end of a phase, and all of them.
use Rattle.std.proofs.Common.{◌≡◌, ℕ, zero, suc, ◌+◌, List, [], ◌∷◌, ◌++◌, take, slice_get, Some, sym, ◌∙◌, ap, ap₂, subst, arith, append_assoc, append-nil, sum_by}
use Rattle.std.specs.Prelude.{flat_map}
use Rattle.std.proofs.lemmas.List.Concat.{flat_map-append}
use Rattle.std.proofs.lemmas.List.Sums.{sum_by_from}
use Rattle.session_model.specs.Samples.{below}
use Rattle.session_model.specs.Scripts.{Script, Phase, Planned, phases}
use Rattle.session_model.specs.Serial.{calls_from, do_calls, lanes_at}
use Rattle.control_desk.specs.Desks.{cycles_before}
use Rattle.serial_lanes.specs.Lanes.{calls_behind}
use Rattle.control_desk.specs.call_laws.proofs.ItemLemmas.{none-some, some-same}
use Rattle.serial_lanes.proofs.ItemLemmas.{take-whole}
use Rattle.serial_lanes.specs.Laws.{CallsNextRound, CallsWhole, CallsNextPhase}

pub lanes-next : (script : Script) (done base n : ℕ) → flat_map (λ t. lanes_at script done (base + t)) (below (suc n)) ≡ flat_map (λ t. lanes_at script done (base + t)) (below n) ++ lanes_at script done (base + n)
lanes-next script done base n =
    flat_map-append (λ t. lanes_at script done (base + t)) (below n) (n ∷ [])
    ∙ ap (λ rest. flat_map (λ t. lanes_at script done (base + t)) (below n) ++ rest) (append-nil (lanes_at script done (base + n)))

pub calls-next_round : CallsNextRound
calls-next_round script done rounds =
    let base : ℕ = cycles_before script done in
    let old : List Planned = flat_map (λ t. lanes_at script done (base + t)) (below rounds) in
    let last : List Planned = lanes_at script done (base + rounds) in
    ap (λ more. calls_behind script done ++ do_calls script done ++ more) (lanes-next script done base rounds)
    ∙ sym (append_assoc (calls_behind script done ++ do_calls script done) old last)

pub calls-whole : CallsWhole
calls-whole script = ap (calls_from script 0 0) (take-whole (phases script))

calls_from-next : (script : Script) (phs : List Phase) (index base done : ℕ) (phase : Phase) → slice_get phs done ≡ Some phase
    → calls_from script index base (take (suc done) phs)
    ≡ calls_from script index base (take done phs) ++ do_calls script (index + done) ++ flat_map (λ t. lanes_at script (index + done) (base + sum_by (λ (p : Phase). p.cycles) (take done phs) + t)) (below (phase.cycles + 1))
calls_from-next script [] index base done phase h = absurd (none-some phase h)
calls_from-next script (one ∷ phs) index base zero phase h =
    let e : one ≡ phase = some-same one phase h in
    let no_index : index ≡ index + 0 = omega arith in
    let no_base : base ≡ base + 0 = omega arith in
    subst (λ (p : Phase). calls_from script index base (one ∷ []) ≡ do_calls script index ++ flat_map (λ t. lanes_at script index (base + t)) (below (p.cycles + 1))) e
    (append-nil (do_calls script index ++ flat_map (λ t. lanes_at script index (base + t)) (below (one.cycles + 1))))
    ∙ ap₂ (λ i b. do_calls script i ++ flat_map (λ t. lanes_at script i (b + t)) (below (phase.cycles + 1))) no_index no_base
calls_from-next script (one ∷ phs) index base (suc done) phase h =
    let here : List Planned = flat_map (λ t. lanes_at script index (base + t)) (below (one.cycles + 1)) in
    let before : List Planned = calls_from script (index + 1) (base + one.cycles) (take done phs) in
    let sums : ℕ = sum_by (λ (p : Phase). p.cycles) (take done phs) in
    let place : index + 1 + done ≡ index + suc done = omega arith in
    let all : ℕ = sum_by (λ (p : Phase). p.cycles) (one ∷ take done phs) in
    let total : all ≡ 0 + one.cycles + sums = sum_by_from (λ (p : Phase). p.cycles) (0 + one.cycles) (take done phs) in
    let start : base + one.cycles + sums ≡ base + all = omega (arith, total) in
    let dos : List Planned = do_calls script (index + suc done) in
    let rounds : List Planned = flat_map (λ t. lanes_at script (index + suc done) (base + all + t)) (below (phase.cycles + 1)) in
    ap (λ rest. do_calls script index ++ here ++ rest)
    (calls_from-next script phs (index + 1) (base + one.cycles) done phase h
    ∙ ap₂ (λ i b. before ++ do_calls script i ++ flat_map (λ t. lanes_at script i (b + t)) (below (phase.cycles + 1))) place start)
    ∙ sym (append_assoc (do_calls script index ++ here) (before ++ dos) rounds)
    ∙ ap (λ front. front ++ rounds) (sym (append_assoc (do_calls script index ++ here) before dos))

pub calls-next_phase : CallsNextPhase
calls-next_phase script done phase h =
    let no_index : done ≡ 0 + done = omega arith in
    let no_base : cycles_before script done ≡ 0 + cycles_before script done = omega arith in
    ap₂ (λ i b. calls_behind script done ++ do_calls script i ++ flat_map (λ t. lanes_at script i (b + t)) (below (phase.cycles + 1))) no_index no_base
    ∙ sym (calls_from-next script (phases script) 0 0 done phase h)
