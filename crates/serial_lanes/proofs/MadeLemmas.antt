-- How many calls a lane made, and which is its next.
use Rattle.std.proofs.Common.{◌≡◌, ℕ, suc, ◌+◌, ◌*◌, ◌<◌, ◌≤◌, Bool, true, false, cond, nat_le, ◌==◌, List, [], ◌∷◌, ◌++◌, length, length-append, map, filter, Option, Some, None, refl, sym, ◌∙◌, ap, arith}
use Rattle.std.proofs.lemmas.Bool.Decides.{nat_tests}
use Rattle.std.proofs.lemmas.List.Elements.{filter-append}
use Rattle.std.proofs.lemmas.List.Sums.{length-filter}
use Rattle.jack_types.specs.declared.commands.Call.{Call}
use Rattle.jack_types.specs.declared.replies.Entry.{Entry}
use Rattle.session_model.specs.Histories.{calls_of}
use Rattle.session_model.specs.Scripts.{Script, Planned}
use Rattle.session_model.specs.Serial.{history_with}
use Rattle.session_laws.proofs.SerialLemmas.{calls_of-history_with}
use Rattle.control_desk.specs.Desks.{made, within}
use Rattle.serial_lanes.proofs.RoundLemmas.{on_lane}

-- what a lane made are the calls of the history that are its own
made_is : (history : List Entry) (lane : ℕ) → made history lane ≡ length (filter (λ (call : Call). call.lane == lane) (calls_of history))
made_is history lane = sym (length-filter (λ (call : Call). call.lane == lane) (calls_of history))

mapped_filter : (lane : ℕ) (plans : List Planned) → length (filter (λ (call : Call). call.lane == lane) (map (λ (plan : Planned). plan.call) plans)) ≡ length (on_lane lane plans)
mapped_filter lane [] = refl
mapped_filter lane (plan ∷ plans) = go (plan.call.lane == lane) (mapped_filter lane plans)
  where
    calls : List Call
    calls = filter (λ (call : Call). call.lane == lane) (map (λ (p : Planned). p.call) plans)

    go : (b : Bool) → length calls ≡ length (on_lane lane plans) → length (cond b (plan.call ∷ calls) calls) ≡ length (cond b (plan ∷ on_lane lane plans) (on_lane lane plans))
    go true e = ap suc e
    go false e = e

-- behind these calls, made from the beginning
pub made_behind : (script : Script) (plans : List Planned) (lane : ℕ) → made (history_with script [] plans) lane ≡ length (on_lane lane plans)
made_behind script plans lane =
    made_is (history_with script [] plans) lane
    ∙ ap (λ (calls : List Call). length (filter (λ (call : Call). call.lane == lane) calls)) (calls_of-history_with script [] plans)
    ∙ mapped_filter lane plans

-- behind one call more
pub made_more : (history : List Entry) (entry : Entry) (lane : ℕ) → made (history ++ entry ∷ []) lane ≡ made history lane + cond (entry.call.lane == lane) 1 0
made_more history entry lane =
    made_is (history ++ entry ∷ []) lane
    ∙ ap (λ (calls : List Call). length (own calls)) (pushed history)
    ∙ ap length (filter-append (λ (call : Call). call.lane == lane) (calls_of history) (entry.call ∷ []))
    ∙ length-append (own (calls_of history)) (own (entry.call ∷ []))
    ∙ ap (λ n. n + length (own (entry.call ∷ []))) (sym (made_is history lane))
    ∙ ap (λ n. made history lane + n) (one (entry.call.lane == lane))
  where
    own : List Call → List Call
    own calls = filter (λ (call : Call). call.lane == lane) calls

    pushed : (es : List Entry) → calls_of (es ++ entry ∷ []) ≡ calls_of es ++ entry.call ∷ []
    pushed [] = refl
    pushed (e ∷ es) = ap (λ cs. e.call ∷ cs) (pushed es)

    one : (b : Bool) → length (cond b (entry.call ∷ []) []) ≡ cond b 1 0
    one true = refl
    one false = refl

pub within-here : (phases : ℕ) (o : Option Planned) (plan : Planned) → o ≡ Some plan → plan.stage < 2 * phases → within phases o ≡ Some plan
within-here phases o plan e low = ap (within phases) e ∙ go (nat_le (plan.stage + 1) (2 * phases)) (grind (arith, nat_tests))
  where
    go : (b : Bool) → b ≡ true → cond b (Some plan) None ≡ Some plan
    go true t = refl
    go false t = cc

pub within-later : (phases : ℕ) (o : Option Planned) (plan : Planned) → o ≡ Some plan → 2 * phases ≤ plan.stage → within phases o ≡ None
within-later phases o plan e high = ap (within phases) e ∙ go (nat_le (plan.stage + 1) (2 * phases)) (grind (arith, nat_tests))
  where
    go : (b : Bool) → b ≡ false → cond b (Some plan) None ≡ None
    go true t = cc
    go false t = refl

pub within-none : (phases : ℕ) (o : Option Planned) → o ≡ None → within phases o ≡ None
within-none phases o e = ap (within phases) e

-- before the first phase no lane has a call
pub within-zero : (o : Option Planned) → within 0 o ≡ None
within-zero None = refl
within-zero (Some plan) = within-later 0 (Some plan) plan refl (omega arith)
