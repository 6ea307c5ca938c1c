use Rattle.std.proofs.Common.{◌≡◌, ◌≤◌, ℕ, Some, add-one, ap, arith, fold, length, map, refl, slice_get, subst, sym, take, ◌+◌, ◌++◌, ◌∷◌, [], ◌∙◌, List}
use Rattle.std.specs.Option.{option_map}
use Rattle.std.proofs.lemmas.List.{take_all}
use Rattle.std.proofs.lemmas.List.Sums.{fold_push}
use Rattle.std.proofs.lemmas.Option.{slice_get_read}
use lib.ListN.{length-map}
use Rattle.jack_types.specs.declared.scripts.Body.{Body}
use Rattle.session_model.specs.Scripts.{Planned}
use Rattle.lane_calls.specs.Lines.{call_on, calls_on, counted_as, kept, of_lane, opening, past}
use Rattle.lane_calls.specs.Plans.{plan_of}
use Rattle.lane_calls.proofs.LineLemmas.{few-at, kept-none, kept-other, kept-own, lane-push, planned-on_lines, room-at, take-next}
use Rattle.lane_calls.proofs.calls.calls_of.Goals as goal
use Rattle.lane_calls.proofs.calls.calls_of.Goals.{in-Some+then-planned-lane+in_ok-push_item, in-Some+else-planned-lane, in_default}

few : (c : goal.After-len) → c.len.result ≤ 4096
few c =
    let all : length (map plan_of c.loop-line.calls.items) ≤ 4096 = few-at c.args.script.now c.lines-line-items.ensures.lawful c.args.lane c.loop-line.line-index (map plan_of c.loop-line.calls.items) c.loop-line.invariant.so_far in
    omega (arith, all, length-map c.loop-line.calls.items plan_of, c.len.ensures, c.loop-line.calls.ok.0)

line-at : (c : goal.After-len) → slice_get c.args.script.now.lines c.loop-line.line-index ≡ Some c.line-item.result
line-at c =
    subst (λ lines. slice_get lines c.loop-line.line-index ≡ Some c.line-item.result) c.lines-line-items.ensures.value
    (slice_get_read c.lines-line-items.result.now (length c.lines-line-items.result.now) c.loop-line.line-index c.line-item.result refl c.loop-line-test.true c.line-item.is)

pub overflow_cast-len : goal.overflow_cast-len
overflow_cast-len c = omega (arith, few c)

pub overflow_add-len : goal.overflow_add-len
overflow_add-len c = omega (arith, few c)

pub call_on-call-requires : goal.call_on-call-requires
call_on-call-requires c = room-at c.args.script.now c.lines-line-items.ensures.lawful c.loop-line.line-index c.line-item.result c.loop-line.progress (line-at c) c.loop-line.invariant.progress_is

pub pass-requires : goal.pass-requires
pass-requires c =
    room-at c.args.script.now c.lines-line-items.ensures.lawful c.loop-line.line-index c.line-item.result c.loop-line.progress
    (subst (λ lines. slice_get lines c.loop-line.line-index ≡ Some c.line-item.result) c.lines-line-items.ensures.value
    (slice_get_read c.lines-line-items.result.now (length c.lines-line-items.result.now) c.loop-line.line-index c.line-item.result refl c.loop-line-test.true c.line-item.is))
    c.loop-line.invariant.progress_is

pub loop-line-preserved : goal.loop-line-preserved
loop-line-preserved c =
    let lines : List Body = c.args.script.now.lines in
    let i : ℕ = c.loop-line.line-index in
    let line : Body = c.line-item.result in
    let plans : List Planned = map plan_of c.loop-line.calls.items in
    let at : slice_get lines i ≡ Some line =
    subst (λ ls. slice_get ls i ≡ Some line) c.lines-line-items.ensures.value
    (slice_get_read c.lines-line-items.result.now (length c.lines-line-items.result.now) i line refl c.loop-line-test.true c.line-item.is) in
    let longer : take i lines ++ line ∷ [] ≡ take (i + 1) lines = take-next lines i line at ∙ ap (λ n. take n lines) (sym (add-one i)) in
    let size : c.len.result ≡ length plans = omega (arith, length-map c.loop-line.calls.items plan_of, c.len.ensures, c.loop-line.calls.ok.0) in
    let here : map plan_of c.match-call.calls.items ≡ kept c.args.lane plans (option_map plan_of c.call_on-call.result) = elim c.match-call.branch [
      | in-Some+then-planned-lane+in_ok-push_item w ↦ kept-own c.args.lane w.in-Some.planned c.loop-line.calls.items c.match-call.calls.items c.call_on-call.result w.in-Some.is w.if-planned-lane.true (ap (λ v. v.items) w.calls-is ∙ w.in_ok-push_item.ensures)
      | in-Some+else-planned-lane w ↦ kept-other c.args.lane w.in-Some.planned c.loop-line.calls.items c.match-call.calls.items c.call_on-call.result w.in-Some.is w.if-planned-lane.false (ap (λ v. v.items) w.calls-is)
      | in_default w ↦ kept-none c.args.lane c.loop-line.calls.items c.match-call.calls.items c.call_on-call.result w.in_default.is (ap (λ v. v.items) w.calls-is)
    ] in
    record {
      so_far =
          here
          ∙ ap (kept c.args.lane plans) (c.call_on-call.ensures ∙ ap (λ n. option_map (counted_as (n + 1)) (call_on c.loop-line.progress line)) size)
          ∙ sym (lane-push c.args.lane (take i lines) line c.loop-line.progress plans c.loop-line.invariant.progress_is c.loop-line.invariant.so_far)
          ∙ ap (λ ls. of_lane c.args.lane (calls_on opening ls)) longer;
      progress_is =
          c.pass.ensures ∙ ap (λ p. past p line) c.loop-line.invariant.progress_is ∙ sym (fold_push past opening (take i lines) line) ∙ ap (fold past opening) longer;
    }

pub returns : goal.returns
returns c =
    c.loop-line.invariant.so_far
    ∙ ap (λ ls. of_lane c.args.lane (calls_on opening ls))
    (take_all c.loop-line.line-index c.args.script.now.lines
    (subst (λ lines. length lines ≤ c.loop-line.line-index) c.lines-line-items.ensures.value (omega (arith, c.loop-line-test.false))))
    ∙ planned-on_lines c.args.script.now c.lines-line-items.ensures.lawful c.args.lane
