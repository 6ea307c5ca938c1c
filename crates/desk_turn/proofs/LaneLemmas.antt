-- What lanes leave.
--     done_still      a lane that is done is done in a desk that goes on
--     done-seen      a step that found no call left
--     all_behind, done_behind      the passes behind the lanes, and the desk
use Rattle.std.proofs.Common.{◌≡◌, ℕ, zero, suc, ◌*◌, ◌<◌, ◌≤◌, true, false, cond, ◌==◌, count_by, List, [], ◌∷◌, length, take, get_or, slice_get, Contains, Option, Some, None, ◌⊎◌, inl, inr, refl, sym, ◌∙◌, ap, subst, arith}
use Rattle.std.proofs.lemmas.List.Elements.{All-contains}
use Rattle.std.proofs.lemmas.List.Sums.{sum_by-take-le}
use Rattle.std.proofs.lemmas.Option.{get_or_from_slice_get, slice_get-get_or, slice_get_within}
use Rattle.jack_types.specs.declared.commands.Call.{Call}
use Rattle.jack_types.specs.declared.replies.Entry.{Entry}
use Rattle.session_model.specs.Histories.{calls_of}
use Rattle.session_model.specs.Scripts.{Planned, Script, planned_of}
use Rattle.session_laws.proofs.ListLemmas.{map-take}
use Rattle.call_laws.proofs.LaneLemmas.{lane_ordered}
use Rattle.control_desk.specs.Desks.{Desk, GoesOn, IsDone, made, next_call}
use Rattle.control_desk.specs.declared.steps.Stepped.TheVariants.{Done}
use Rattle.control_desk.proofs.LaneLemmas.{before_it, within-none, within-some}
use Rattle.turn_word.specs.Turns.{Handle, pass_of}
use Rattle.desk_turn.specs.Lanes.{HasDone, HasStepped}
use Rattle.desk_turn.specs.Laws.{AllBehind, DoneBehind}

pub done_still : (lane : ℕ) (opened desk : Desk) → GoesOn opened desk → IsDone opened lane → IsDone desk lane
done_still lane opened desk goes done = go (next_call desk lane) refl
  where
    fewer : made opened.history lane ≤ made desk.history lane
    fewer =
        let n : ℕ = length opened.history in
        let front : calls_of opened.history ≡ take n (calls_of desk.history) = ap calls_of goes.more ∙ map-take (λ (e : Entry). e.call) n desk.history in
        let less : count_by (λ (call : Call). call.lane == lane) (take n (calls_of desk.history)) ≤ made desk.history lane = sum_by-take-le (λ (call : Call). cond (call.lane == lane) 1 0) (calls_of desk.history) n in
        subst (λ (cs : List Call). count_by (λ (call : Call). call.lane == lane) cs ≤ made desk.history lane) (sym front) less

    clash : (plan : Planned) → next_call desk lane ≡ Some plan → ⊥
    clash plan e =
        let there = within-some desk.phase (slice_get (planned_of desk.script lane) (made desk.history lane)) plan e in
        let w = before_it (planned_of desk.script lane) (made opened.history lane) (made desk.history lane) plan (lane_ordered desk.script lane) fewer there.0 in
        let in_opened : slice_get (planned_of opened.script lane) (made opened.history lane) ≡ Some w.0 = subst (λ (s : Script). slice_get (planned_of s lane) (made opened.history lane) ≡ Some w.0) goes.script w.1 in
        let high : 2 * opened.phase ≤ w.0.stage = within-none opened.phase (slice_get (planned_of opened.script lane) (made opened.history lane)) done w.0 in_opened in
        omega (arith, high, w.2, there.1, goes.phase)

    go : (o : Option Planned) → next_call desk lane ≡ o → next_call desk lane ≡ None
    go None e = e
    go (Some plan) e = absurd (clash plan e)

pub done-seen : (lane : ℕ) (old new : Handle Desk) → HasStepped lane Done old new → HasDone lane new
done-seen lane old new step = (step.desk, subst (λ (pass : Handle Desk). Contains pass.seen step.desk) (sym step.seen) (1, omega arith, refl), step.steps.0)

pub all_behind : AllBehind
all_behind table count opened old new run all = record {
  some = all.some;
  many = run.many ∙ all.many;
  each = λ i p e.
      let low : i < length old = subst (λ n. i < n) run.many (slice_get_within new i p e) in
      let was : Handle Desk = get_or old i p in
      let is : was ≡ pass_of table count opened i was = all.each i was (slice_get-get_or old i p low) in
      let left : p ≡ record was { seen = p.seen; told = p.told } = subst (λ (q : Handle Desk). q ≡ record was { seen = q.seen; told = q.told }) (get_or_from_slice_get new i p p e) (run.each i p low).as_before in
      left ∙ ap (λ (q : Handle Desk). record q { seen = p.seen; told = p.told }) is ∙ sym (ap (pass_of table count opened i) left);
}

some_item : {X : Type 0} (xs : List X) → 0 < length xs → X
some_item [] low = absurd (omega (arith, low))
some_item (x ∷ xs) low = x

-- a lane that was not told is done
done-untold : (lane : ℕ) (pass : Handle Desk) → HasDone lane pass ⊎ (pass.told ≡ true) → pass.told ≡ false → HasDone lane pass
done-untold lane pass (inl done) untold = done
done-untold lane pass (inr told) untold = absurd (let no : true ≡ false = sym told ∙ untold in cc)

pub done_behind : DoneBehind
done_behind old new desk four run untold goes zero low high = absurd (omega (arith, low))
done_behind old new desk four run untold goes (suc place) low high =
    let d : Handle Desk = some_item old (omega (arith, four)) in
    let here : place < length old = omega (arith, four, high) in let there : place < length new = omega (arith, run.many, here) in
    let pass : Handle Desk = get_or new place d in
    let done = done-untold (suc place) pass (run.each place d here).ended (untold place d there) in
    done_still (suc place) done.0 desk (All-contains (λ (seen : Desk). GoesOn seen desk) pass.seen done.0 (goes place d there) done.1) done.2
