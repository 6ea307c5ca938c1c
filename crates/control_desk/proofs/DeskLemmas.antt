-- What a desk keeps.
--     IsNext-step      the call that a lane makes next may come next
--     IsDesk-begun, IsDesk-made      behind the beginning of a phase, and behind a call
use Rattle.std.proofs.Common.{◌≡◌, ℕ, zero, suc, ◌+◌, ◌*◌, ◌%◌, ◌<◌, ◌≤◌, ◌⊎◌, inl, inr, Bool, true, false, cond, nat_le, ◌==◌, List, [], ◌∷◌, ◌++◌, length, length-append, take, slice_get, All, Contains, Some, refl, sym, ◌∙◌, ap, subst, arith, eqb-true, take_at}
use Rattle.std.proofs.lemmas.Bool.Decides.{nat_tests}
use Rattle.std.proofs.lemmas.List.{take-append-le}
use Rattle.std.proofs.lemmas.Option.{slice_get_within}
use Rattle.std.proofs.lemmas.List.Elements.{All-append, Contains-append_left}
use Rattle.jack_types.specs.declared.replies.Entry.{Entry}
use Rattle.graph_word.specs.Publications.{Publishing, IsFront}
use Rattle.session_model.specs.Grammar.{IsScript}
use Rattle.session_model.specs.Histories.{accepted, calls_of, plan_of}
use Rattle.session_model.specs.Publication.{SeenPair}
use Rattle.session_model.specs.Scripts.{Planned, planned, planned_of}
use Rattle.session_model.specs.Serial.{answered}
use Rattle.session_laws.proofs.ListLemmas.{Contains-filtered}
use Rattle.session_laws.proofs.SerialLemmas.{plan_of-planned}
use Rattle.port_registry.proofs.PlaceLemmas.{slice_get-push}
use Rattle.call_laws.proofs.ItemLemmas.{contained, some-same}
use Rattle.call_laws.proofs.LaneLemmas.{of_lane}
use Rattle.call_laws.proofs.RoomLemmas.{accepted-push}
use Rattle.control_desk.specs.Desks.{Desk, HasSeen, IsDesk, IsDone, IsOfPhases, KeepsSeen, MayBegin, MayStep, made, next_call}
use Rattle.control_desk.specs.Past.{IsNext}
use Rattle.control_desk.proofs.LaneLemmas.{made_by_done, made_where_done, within-some}
use Rattle.control_desk.proofs.LegalLemmas.{stage_of_lane}
use Rattle.control_desk.proofs.PastLemmas.{legal-next, next-planned}

module _ (desk : Desk) (is_script : IsScript desk.script) (is : IsDesk desk) where
  -- the lane's next call comes behind all calls of lower stages
  module _ (lane : ℕ) (may : MayStep desk lane) (plan : Planned) (next : next_call desk lane ≡ Some plan) where
    there : (slice_get (planned_of desk.script lane) (made desk.history lane) ≡ Some plan) × (plan.stage < 2 * desk.phase)
    there = within-some desk.phase (slice_get (planned_of desk.script lane) (made desk.history lane)) plan next

    of : Contains (planned_of desk.script lane) plan
    of = contained (planned_of desk.script lane) (made desk.history lane) plan there.0

    pub is_lane : plan.call.lane ≡ lane
    is_lane = of_lane desk.script lane plan of

    pub is_planned : Contains (planned desk.script) plan
    is_planned = Contains-filtered (λ (p : Planned). p.call.lane == lane) (planned desk.script) plan of

    pub stage-next : plan.stage < 2 * desk.phase
    stage-next = there.1

    -- an earlier call of the present phase is one of lane 0
    group : (earlier : Planned) → Contains (planned desk.script) earlier → earlier.stage < plan.stage → 2 * desk.phase ≤ earlier.stage + 2 → Contains (calls_of desk.history) earlier.call
    group earlier listed lower here =
        let own : plan.stage % 2 ≡ cond (plan.call.lane == 0) 0 1 = stage_of_lane desk.script plan is_script is_planned in
        let other : earlier.stage % 2 ≡ cond (earlier.call.lane == 0) 0 1 = stage_of_lane desk.script earlier is_script listed in
        go (plan.call.lane == 0) (earlier.call.lane == 0) refl refl own other
      where
        go : (a b : Bool) → (plan.call.lane == 0) ≡ a → (earlier.call.lane == 0) ≡ b → plan.stage % 2 ≡ cond a 0 1 → earlier.stage % 2 ≡ cond b 0 1 → Contains (calls_of desk.history) earlier.call
        go true b ea eb own other = absurd (omega (arith, own, lower, here, there.1))
        go false false ea eb own other = absurd (omega (arith, other, lower, here, there.1))
        go false true ea eb own other =
            let zero_lane : earlier.call.lane ≡ 0 = eqb-true earlier.call.lane 0 eb in
            let some : 1 ≤ lane = grind (arith, nat_tests, is_lane, ea) in
            made_by_done desk is_script is earlier listed (omega (arith, lower, there.1)) (subst (IsDone desk) (sym zero_lane) (may.group some))

    pub IsNext-step : IsNext desk.script desk.history plan
    IsNext-step = record {
      lane = subst (λ l. l ≤ 4) (sym is_lane) may.lanes;
      next = subst (λ l. slice_get (planned_of desk.script l) (made desk.history l) ≡ Some plan) (sym is_lane) there.0;
      stages = λ earlier listed lower. cases earlier listed lower (nat_le (2 * desk.phase) (earlier.stage + 2)) refl;
    }
      where
        cases : (earlier : Planned) → Contains (planned desk.script) earlier → earlier.stage < plan.stage → (b : Bool) → nat_le (2 * desk.phase) (earlier.stage + 2) ≡ b → Contains (calls_of desk.history) earlier.call
        cases earlier listed lower true e = group earlier listed lower (grind (arith, nat_tests))
        cases earlier listed lower false e = is.earlier earlier listed (grind (arith, nat_tests))

  pub IsDesk-begun : (phase : ℕ) → MayBegin desk phase → IsDesk (record desk { phase = suc phase })
  IsDesk-begun phase may = record {
    legal = is.legal;
    published = is.published;
    held = is.held;
    base = is.base;
    seen = is.seen;
    pairs = is.pairs;
    phases = λ k d b plan at. let low = is.phases k d b plan at in let same = may.next in omega (arith, low, same);
    earlier = λ plan listed low. let same = may.next in made_where_done desk is_script is may.used plan listed (omega (arith, low, same));
  }

  module _ (plan : Planned) (next : IsNext desk.script desk.history plan) (low : plan.stage < 2 * desk.phase) (seen : HasSeen desk plan) where
    abbrev pub entry : Entry
    entry = answered desk.script desk.history plan.call

    abbrev pub history : List Entry
    history = desk.history ++ entry ∷ []

    found : plan_of desk.script plan.call ≡ Some plan
    found = plan_of-planned desk.script plan (next-planned desk.script desk.history is.legal plan next)

    one-plan : (other : Planned) → plan_of desk.script plan.call ≡ Some other → other ≡ plan
    one-plan other e = some-same other plan (sym e ∙ found)

    more-accepted : length (accepted desk.history) ≤ length (accepted history)
    more-accepted = let sum : length (accepted history) ≡ length (accepted desk.history) + length (accepted (entry ∷ [])) = ap length (accepted-push desk.history entry) ∙ length-append (accepted desk.history) (accepted (entry ∷ [])) in omega (arith, sum)

    keeps-seen : KeepsSeen desk.script history desk.publishing.pairs
    keeps-seen i made_one other at planned_there asked = go (slice_get-push desk.history entry i made_one at)
      where
        Seen : List Entry → Planned → Type 0
        Seen es p = (pair : SeenPair) × Contains desk.publishing.pairs pair × (p.asked ≤ pair.cycle) × (pair.number ≡ length (accepted es))

        go : (slice_get desk.history i ≡ Some made_one) ⊎ ((i ≡ length desk.history) × (entry ≡ made_one)) → Seen (take i history) other
        go (inl old) =
            let within : i < length desk.history = slice_get_within desk.history i made_one old in
            let front : take i history ≡ take i desk.history = take-append-le i desk.history (entry ∷ []) (omega (arith, within)) in
            subst (λ es. Seen es other) (sym front) (is.seen i made_one other old planned_there asked)
        go (inr p) =
            let front : take i history ≡ desk.history = take_at desk.history (entry ∷ []) i (sym p.0) in
            let same : other ≡ plan = one-plan other (ap (λ (e : Entry). plan_of desk.script e.call) p.1 ∙ planned_there) in
            subst (λ es. Seen es other) (sym front) (subst (Seen desk.history) (sym same) (seen (subst (λ (p : Planned). 1 ≤ p.asked) same asked)))

    pub IsDesk-made : (publishing : Publishing) → publishing ≡ record desk.publishing { all = accepted history; held = publishing.held } → IsFront publishing.held (accepted history)
        → IsDesk (record desk { history = history; publishing = publishing })
    IsDesk-made publishing same front = record {
      legal = legal-next desk.script desk.history is.legal plan next;
      published = ap (λ (p : Publishing). p.all) same;
      held = front;
      base = ap (λ (p : Publishing). p.base) same ∙ is.base;
      seen = subst (KeepsSeen desk.script history) (sym pairs) keeps-seen;
      pairs = subst (All (λ (pair : SeenPair). pair.number ≤ length (accepted history))) (sym pairs) (λ k d b. let old = is.pairs k d b in omega (arith, old, more-accepted));
      phases = All-append (IsOfPhases desk.script desk.phase) desk.history (entry ∷ []) is.phases (λ k d b. here k d b);
      earlier = λ other listed lower. subst (λ cs. Contains cs other.call) (sym (pushed desk.history)) (Contains-append_left (calls_of desk.history) (plan.call ∷ []) other.call (is.earlier other listed lower));
    }
      where
        pairs : publishing.pairs ≡ desk.publishing.pairs
        pairs = ap (λ (p : Publishing). p.pairs) same

        pushed : (es : List Entry) → calls_of (es ++ entry ∷ []) ≡ calls_of es ++ plan.call ∷ []
        pushed [] = refl
        pushed (e ∷ es) = ap (λ cs. e.call ∷ cs) (pushed es)

        of-phase : IsOfPhases desk.script desk.phase entry
        of-phase other e = subst (λ (p : Planned). p.stage < 2 * desk.phase) (sym (one-plan other e)) low

        here : All (IsOfPhases desk.script desk.phase) (entry ∷ [])
        here zero d b = of-phase
        here (suc k) d b = absurd (none b)
          where
            none : {n : ℕ} → suc n < 1 → ⊥
            none q = omega arith
