-- Serial mode's history is lawful.
--     Legal-serial      each script whose lane calls keep the grammar
use Rattle.std.proofs.Common.{◌≡◌, ℕ, zero, suc, ◌+◌, ◌<◌, ◌≤◌, Bool, true, false, cond, ◌&&◌, ◌==◌, ◌⊎◌, inl, inr, List, [], ◌∷◌, ◌++◌, length, map, filter, find, take, slice_get, All, Contains, Some, None, count_by, refl, sym, ◌∙◌, ap, subst, arith, eqb-true, eq-eqb, append_assoc, append-nil, true≢false, take_at}
use Rattle.std.proofs.lemmas.List.Sums.{sum_by_push}
use Rattle.std.proofs.lemmas.List.{take-append-le}
use Rattle.session_model.specs.jack_types.specs.declared.commands.Call.{Call}
use Rattle.session_model.specs.jack_types.specs.declared.replies.Entry.{Entry}
use Rattle.session_model.specs.Histories.{Legal, KeepsLane, KeepsStages, KeepsReplies, calls_of, accepted, state_after, plan_of}
use Rattle.session_model.specs.Replies.{reply}
use Rattle.session_model.specs.Scripts.{Script, Planned, Uncounted, phases, planned, planned_of, uncounted, counted}
use Rattle.session_model.specs.Serial.{serial, serial_calls, serial_history, history_with, answered}
use Rattle.session_laws.proofs.ListLemmas.{Each, Each-weaker, Each-contains, Each-map, Each-unmap, Contains-at, Contains-kept, Contains-filtered, Contains-map, front_or_later, slice_get-map, map-take, length-classes}
use Rattle.session_laws.proofs.LoopLemmas.{Contains-cases}
use Rattle.session_laws.proofs.SerialCallsLemmas.{KeepsLanes, Before, IsFrom, of_lane, Each-counted, planned_lanes, lane_of_serial_calls, serial_calls_ordered}

-- ---- a planned call is found by its lane and index

abbrev pub earlier_in : ℕ → List Uncounted → ℕ
earlier_in lane us = count_by (λ (other : Uncounted). other.lane == lane) us

abbrev pub IsCalledAs : Planned → Planned → Bool
IsCalledAs plan other = other.call.lane == plan.call.lane && other.call.index == plan.call.index

earlier_more : (lane : ℕ) (us : List Uncounted) (u : Uncounted) → earlier_in lane (us ++ u ∷ []) ≡ earlier_in lane us + cond (u.lane == lane) 1 0
earlier_more lane us u = sum_by_push (λ (other : Uncounted). cond (other.lane == lane) 1 0) us u

-- each index is above the number of the lane's earlier calls
counted_index : (earlier us : List Uncounted) → Each (λ (plan : Planned). earlier_in plan.call.lane earlier < plan.call.index) (counted earlier us)
counted_index earlier [] = tt
counted_index earlier (u ∷ us) = (
  omega arith,
  Each-weaker (λ (plan : Planned). earlier_in plan.call.lane (earlier ++ u ∷ []) < plan.call.index) (λ (plan : Planned). earlier_in plan.call.lane earlier < plan.call.index)
      (λ plan h. omega (arith, h, earlier_more plan.call.lane earlier u)) (counted (earlier ++ u ∷ []) us) (counted_index (earlier ++ u ∷ []) us),
)

found_in : (earlier us : List Uncounted) (plan : Planned) → Contains (counted earlier us) plan → find (IsCalledAs plan) (counted earlier us) ≡ Some plan
found_in earlier [] plan c = absurd (none c.1)
  where
    none : {n : ℕ} → n < 0 → ⊥
    none q = omega arith
found_in earlier (u ∷ us) plan c = go (Contains-cases first plan rest c) (λ d. found_in (earlier ++ u ∷ []) us plan d)
  where
    first : Planned
    first = record { call = record { lane = u.lane; index = count_by (λ (other : Uncounted). other.lane == u.lane) earlier + 1; command = u.command }; stage = u.stage; asked = u.asked }

    rest : List Planned
    rest = counted (earlier ++ u ∷ []) us

    apart : Contains rest plan → IsCalledAs plan first ≡ false
    apart d = cases (u.lane == plan.call.lane) (first.call.index == plan.call.index) refl refl
      where
        above : earlier_in plan.call.lane (earlier ++ u ∷ []) < plan.call.index
        above = Each-contains (λ (p : Planned). earlier_in p.call.lane (earlier ++ u ∷ []) < p.call.index) rest plan (counted_index (earlier ++ u ∷ []) us) d

        cases : (a b : Bool) → (u.lane == plan.call.lane) ≡ a → (first.call.index == plan.call.index) ≡ b → (a && b) ≡ false
        cases false b ea eb = refl
        cases true false ea eb = refl
        cases true true ea eb =
            let same : u.lane ≡ plan.call.lane = eqb-true u.lane plan.call.lane ea in
            let at_index : earlier_in u.lane earlier + 1 ≡ plan.call.index = eqb-true first.call.index plan.call.index eb in
            let more : earlier_in plan.call.lane (earlier ++ u ∷ []) ≡ earlier_in plan.call.lane earlier + 1 =
            earlier_more plan.call.lane earlier u ∙ ap (λ b. earlier_in plan.call.lane earlier + cond b 1 0) ea in
            let moved : earlier_in plan.call.lane earlier + 1 ≡ plan.call.index = subst (λ l. earlier_in l earlier + 1 ≡ plan.call.index) same at_index in
            absurd (omega (arith, above, more, moved))

    go : (first ≡ plan) ⊎ Contains rest plan → (Contains rest plan → find (IsCalledAs plan) rest ≡ Some plan) → cond (IsCalledAs plan first) (Some first) (find (IsCalledAs plan) rest) ≡ Some plan
    go (inl e) later =
        let self : IsCalledAs plan first ≡ true =
        subst (λ (p : Planned). IsCalledAs p first ≡ true) e (and_self (first.call.lane == first.call.lane) (first.call.index == first.call.index) (eq-eqb first.call.lane first.call.lane refl) (eq-eqb first.call.index first.call.index refl)) in
        ap (λ b. cond b (Some first) (find (IsCalledAs plan) rest)) self ∙ ap (λ p. Some p) e
      where
        and_self : (a b : Bool) → a ≡ true → b ≡ true → (a && b) ≡ true
        and_self true b h k = k
        and_self false b h k = absurd (true≢false (sym h))
    go (inr d) later = ap (λ b. cond b (Some first) (find (IsCalledAs plan) rest)) (apart d) ∙ later d

pub plan_of-planned : (script : Script) (plan : Planned) → Contains (planned script) plan → plan_of script plan.call ≡ Some plan
plan_of-planned script plan c = found_in [] (uncounted 0 0 (phases script)) plan c

pub some-is : (a b : Planned) → Some a ≡ Some b → a ≡ b
some-is a b e = cc

-- ---- the history

calls_of-more : (history : List Entry) (entry : Entry) → calls_of (history ++ entry ∷ []) ≡ calls_of history ++ entry.call ∷ []
calls_of-more [] entry = refl
calls_of-more (e ∷ history) entry = ap (λ cs. e.call ∷ cs) (calls_of-more history entry)

pub calls_of-history_with : (script : Script) (history : List Entry) (plans : List Planned) → calls_of (history_with script history plans) ≡ calls_of history ++ map (λ (plan : Planned). plan.call) plans
calls_of-history_with script history [] = sym (append-nil (calls_of history))
calls_of-history_with script history (plan ∷ plans) =
    calls_of-history_with script (history ++ answered script history plan.call ∷ []) plans
    ∙ ap (λ cs. cs ++ map (λ (p : Planned). p.call) plans) (calls_of-more history (answered script history plan.call))
    ∙ append_assoc (calls_of history) (plan.call ∷ []) (map (λ (p : Planned). p.call) plans)

module _ {X : Type 0} where
  no-some : (x : X) → None ≡ Some x → ⊥
  no-some x e = cc

  one-some : (x y : X) → Some x ≡ Some y → x ≡ y
  one-some x y e = cc

  last_or_before : (xs : List X) (x : X) (i : ℕ) (y : X) → slice_get (xs ++ x ∷ []) i ≡ Some y → ((i < length xs) × (slice_get xs i ≡ Some y)) ⊎ ((i ≡ length xs) × (x ≡ y))
  last_or_before [] x zero y h = inr (refl, one-some x y h)
  last_or_before [] x (suc i) y h = absurd (no-some y h)
  last_or_before (z ∷ xs) x zero y h = inl (omega arith, h)
  last_or_before (z ∷ xs) x (suc i) y h = go (last_or_before xs x i y h)
    where
      go : ((i < length xs) × (slice_get xs i ≡ Some y)) ⊎ ((i ≡ length xs) × (x ≡ y)) → ((suc i < length (z ∷ xs)) × (slice_get xs i ≡ Some y)) ⊎ ((suc i ≡ length (z ∷ xs)) × (x ≡ y))
      go (inl p) = inl (omega (arith, p.0), p.1)
      go (inr p) = inr (omega (arith, p.0), p.1)

pub KeepsReplies-next : (script : Script) (history : List Entry) (call : Call) → KeepsReplies script history → KeepsReplies script (history ++ answered script history call ∷ [])
KeepsReplies-next script history call old i entry here = go (last_or_before history new i entry here)
  where
    new : Entry
    new = answered script history call

    go : ((i < length history) × (slice_get history i ≡ Some entry)) ⊎ ((i ≡ length history) × (new ≡ entry))
        → entry.reply ≡ reply (state_after script (take i (history ++ new ∷ []))) (length (accepted (take i (history ++ new ∷ []))) + 1) entry.call.command
    go (inl p) = subst (λ es. entry.reply ≡ reply (state_after script es) (length (accepted es) + 1) entry.call.command) (sym (take-append-le i history (new ∷ []) (omega (arith, p.0)))) (old i entry p.1)
    go (inr p) =
        let at_end : entry.reply ≡ reply (state_after script history) (length (accepted history) + 1) entry.call.command =
        subst (λ (e : Entry). e.reply ≡ reply (state_after script history) (length (accepted history) + 1) e.call.command) p.1 refl in
        subst (λ es. entry.reply ≡ reply (state_after script es) (length (accepted es) + 1) entry.call.command) (sym (take_at history (new ∷ []) i (sym p.0))) at_end

pub KeepsReplies-history_with : (script : Script) (history : List Entry) (plans : List Planned) → KeepsReplies script history → KeepsReplies script (history_with script history plans)
KeepsReplies-history_with script history [] old = old
KeepsReplies-history_with script history (plan ∷ plans) old =
    KeepsReplies-history_with script (history ++ answered script history plan.call ∷ []) plans (KeepsReplies-next script history plan.call old)

module _ (script : Script) (keeps : Each KeepsLanes (phases script)) where
  planned_small : Each (λ (plan : Planned). plan.call.lane ≤ 4) (planned script)
  planned_small = Each-counted (λ (u : Uncounted). u.lane ≤ 4) [] (uncounted 0 0 (phases script)) (planned_lanes (phases script) 0 0 keeps)

  serial_small : Each (λ (plan : Planned). plan.call.lane ≤ 4) (serial_calls script)
  serial_small = Each-weaker (IsFrom 0) (λ (plan : Planned). plan.call.lane ≤ 4) (λ plan h. h.1) (serial_calls script) (serial_calls_ordered script).1

  pub serial_from_planned : (plan : Planned) → Contains (planned script) plan → Contains (serial_calls script) plan
  serial_from_planned plan c =
      let lane : ℕ = plan.call.lane in
      let small : lane ≤ 4 = Each-contains (λ (p : Planned). p.call.lane ≤ 4) (planned script) plan planned_small c in
      let kept : Contains (of_lane lane (planned script)) plan = Contains-kept (λ (p : Planned). p.call.lane == lane) (planned script) plan (eq-eqb lane lane refl) c in
      Contains-filtered (λ (p : Planned). p.call.lane == lane) (serial_calls script) plan (subst (λ ps. Contains ps plan) (sym (lane_of_serial_calls script keeps lane small)) kept)

  pub planned_from_serial : (plan : Planned) → Contains (serial_calls script) plan → Contains (planned script) plan
  planned_from_serial plan c =
      let lane : ℕ = plan.call.lane in
      let small : lane ≤ 4 = Each-contains (λ (p : Planned). p.call.lane ≤ 4) (serial_calls script) plan serial_small c in
      let kept : Contains (of_lane lane (serial_calls script)) plan = Contains-kept (λ (p : Planned). p.call.lane == lane) (serial_calls script) plan (eq-eqb lane lane refl) c in
      Contains-filtered (λ (p : Planned). p.call.lane == lane) (planned script) plan (subst (λ ps. Contains ps plan) (lane_of_serial_calls script keeps lane small) kept)

  pub serial_length : length (serial_calls script) ≡ length (planned script)
  serial_length =
      length-classes (λ (plan : Planned). plan.call.lane) 5 (serial_calls script) (planned script)
      (Each-weaker (λ (plan : Planned). plan.call.lane ≤ 4) (λ (plan : Planned). plan.call.lane < 5) (λ plan h. omega (arith, h)) (serial_calls script) serial_small)
      (Each-weaker (λ (plan : Planned). plan.call.lane ≤ 4) (λ (plan : Planned). plan.call.lane < 5) (λ plan h. omega (arith, h)) (planned script) planned_small)
      (λ lane h. lane_of_serial_calls script keeps lane (omega (arith, h)))

  pub calls_of_serial : calls_of (serial_history script) ≡ map (λ (plan : Planned). plan.call) (serial_calls script)
  calls_of_serial = calls_of-history_with script [] (serial_calls script)

  -- the planned call that an entry of the history answers
  pub plan_at : (i : ℕ) (entry : Entry) → slice_get (serial_history script) i ≡ Some entry → (plan : Planned) × (slice_get (serial_calls script) i ≡ Some plan) × (plan.call ≡ entry.call)
  plan_at i entry here =
      slice_get-map (λ (plan : Planned). plan.call) (serial_calls script) i entry.call
      (ap (λ cs. slice_get cs i) (sym calls_of_serial) ∙ at_map (serial_history script) i here)
    where
      at_map : (es : List Entry) (j : ℕ) → slice_get es j ≡ Some entry → slice_get (calls_of es) j ≡ Some entry.call
      at_map [] j h = absurd (no-some entry h)
      at_map (e ∷ es) zero h = ap (λ (x : Entry). Some x.call) (one-some e entry h)
      at_map (e ∷ es) (suc j) h = at_map es j h

  lane_order : (lane : ℕ) → lane ≤ 4 → KeepsLane script (serial_history script) lane
  lane_order lane small = (length (planned_of script lane), e)
    where
      filter-map : (ps : List Planned) → filter (λ (call : Call). call.lane == lane) (map (λ (plan : Planned). plan.call) ps) ≡ map (λ (plan : Planned). plan.call) (of_lane lane ps)
      filter-map [] = refl
      filter-map (p ∷ ps) = go (p.call.lane == lane) (filter-map ps)
        where
          go : (b : Bool) → filter (λ (call : Call). call.lane == lane) (map (λ (plan : Planned). plan.call) ps) ≡ map (λ (plan : Planned). plan.call) (of_lane lane ps)
              → cond b (p.call ∷ filter (λ (call : Call). call.lane == lane) (map (λ (plan : Planned). plan.call) ps)) (filter (λ (call : Call). call.lane == lane) (map (λ (plan : Planned). plan.call) ps))
              ≡ map (λ (plan : Planned). plan.call) (cond b (p ∷ of_lane lane ps) (of_lane lane ps))
          go true h = ap (λ cs. p.call ∷ cs) h
          go false h = h

      whole : (ps : List Planned) → map (λ (plan : Planned). plan.call) ps ≡ take (length ps) (map (λ (plan : Planned). plan.call) ps)
      whole [] = refl
      whole (p ∷ ps) = ap (λ cs. p.call ∷ cs) (whole ps)

      e : filter (λ (call : Call). call.lane == lane) (calls_of (serial_history script)) ≡ take (length (planned_of script lane)) (map (λ (plan : Planned). plan.call) (planned_of script lane))
      e = ap (filter (λ (call : Call). call.lane == lane)) calls_of_serial ∙ filter-map (serial_calls script)
          ∙ ap (map (λ (plan : Planned). plan.call)) (lane_of_serial_calls script keeps lane small) ∙ whole (planned_of script lane)

  stage_order : KeepsStages script (serial_history script)
  stage_order i entry plan earlier here planned_there same earlier_there lower =
      let at = plan_at i entry here in
      let q : Planned = at.0 in
      let q_there : Contains (planned script) q = planned_from_serial q (Contains-at (serial_calls script) i q at.1) in
      let is : plan ≡ q = some-is plan q (sym (plan_of-planned script plan planned_there) ∙ ap (plan_of script) (same ∙ sym at.2) ∙ plan_of-planned script q q_there) in
      let below : earlier.stage < q.stage = subst (λ (p : Planned). earlier.stage < p.stage) is lower in
      let there : Contains (take i (serial_calls script)) earlier =
      go q below (front_or_later Before (serial_calls script) i q earlier (serial_calls_ordered script).0 at.1 (serial_from_planned earlier earlier_there)) in
      let calls : map (λ (p : Planned). p.call) (take i (serial_calls script)) ≡ calls_of (take i (serial_history script)) =
      map-take (λ (p : Planned). p.call) i (serial_calls script) ∙ ap (take i) (sym calls_of_serial) ∙ sym (map-take (λ (e : Entry). e.call) i (serial_history script)) in
      subst (λ cs. Contains cs earlier.call) calls (Contains-map (λ (p : Planned). p.call) (take i (serial_calls script)) earlier there)
    where
      go : (q : Planned) → earlier.stage < q.stage → Contains (take i (serial_calls script)) earlier ⊎ ((q ≡ earlier) ⊎ Before q earlier) → Contains (take i (serial_calls script)) earlier
      go q below (inl c) = c
      go q below (inr (inl e)) = absurd (subst (λ (p : Planned). p.stage < q.stage → ⊥) e (λ h. omega (arith, h)) below)
      go q below (inr (inr (inl h))) = absurd (omega (arith, h, below))
      go q below (inr (inr (inr h))) = absurd (omega (arith, h.0, below))

  pub Legal-serial : Legal script (serial script).history
  Legal-serial = record {
    so_far = record {
      lanes = All-from_each (λ (entry : Entry). entry.call.lane ≤ 4) (serial_history script)
          (Each-unmap (λ (call : Call). call.lane ≤ 4) (λ (entry : Entry). entry.call) (serial_history script)
          (subst (Each (λ (call : Call). call.lane ≤ 4)) (sym calls_of_serial) (Each-map (λ (call : Call). call.lane ≤ 4) (λ (plan : Planned). plan.call) (serial_calls script) serial_small)));
      lane_order = lane_order;
      stage_order = stage_order;
      replies = KeepsReplies-history_with script [] (serial_calls script) (λ i entry here. absurd (no-some entry here));
    };
    every_call =
        sym (length-of (λ (entry : Entry). entry.call) (serial_history script)) ∙ ap length calls_of_serial ∙ length-of (λ (plan : Planned). plan.call) (serial_calls script) ∙ serial_length;
  }
    where
      length-of : {X Y : Type 0} (f : X → Y) (xs : List X) → length (map f xs) ≡ length xs
      length-of f [] = refl
      length-of f (x ∷ xs) = ap suc (length-of f xs)

      All-from_each : {X : Type 0} (P : X → Type 0) (ys : List X) → Each P ys → All P ys
      All-from_each P [] h k d b = absurd (omega arith)
      All-from_each P (y ∷ ys) h zero d b = h.0
      All-from_each P (y ∷ ys) h (suc k) d b = All-from_each P ys h.1 k d (omega (arith, b))
