-- The calls that serial mode makes: of each lane those planned, in their order, and stage by stage.
use Rattle.std.proofs.Common.{◌≡◌, ℕ, zero, suc, ◌+◌, ◌*◌, ◌<◌, ◌≤◌, Bool, true, false, ◌&&◌, ◌==◌, nat_le, ◌⊎◌, ◌≢◌, inl, inr, List, [], ◌∷◌, ◌++◌, map, filter, flat_map, count_by, refl, sym, ◌∙◌, ap, ap₂, subst, arith, eqb-true, eq-eqb, ne_eqb, le-leb, append_assoc, append-nil}
use Rattle.std.proofs.lemmas.Bool.{lt-leb}
use Rattle.std.proofs.lemmas.Bool.Decides.{nat_tests}
use Rattle.std.proofs.lemmas.List.Elements.{filter-append}
use Rattle.std.proofs.lemmas.List.Concat.{flat_map-append}
use Rattle.session_model.specs.jack_types.specs.declared.commands.Command.{Command}
use Rattle.session_model.specs.Samples.{below}
use Rattle.session_model.specs.Scripts.{Script, Phase, LaneCall, Planned, Uncounted, phases, planned, planned_of, uncounted, counted}
use Rattle.session_model.specs.Serial.{do_calls, due, lanes_at, calls_from, serial_calls}
use Rattle.session_laws.proofs.ListLemmas.{Each, Ordered, Each-weaker, Each-all, Each-append, Each-filter, Each-filter_kept, Each-flat_map, Each-map, Ordered-weaker, Ordered-filter, Ordered-any, Ordered-append, filter-none, filter-all, filter-same, filter-twice, filter-split, filter-flat_map, Ordered-with, Ordered-map, flat_map-same, flat_map-none}

-- what the grammar says of a phase's lane calls: lanes 1 to 4, at most the segment's cycles, and within a lane not falling
pub record KeepsLanes (phase : Phase) : Type 0 where
  pub each : Each (λ (call : LaneCall). (1 ≤ call.lane) × (call.lane ≤ 4) × (call.begun ≤ phase.cycles)) phase.calls
  pub order : Ordered (λ (a b : LaneCall). a.lane ≡ b.lane → a.begun ≤ b.begun) phase.calls

abbrev pub uncount : Planned → Uncounted
uncount plan = record { lane = plan.call.lane; command = plan.call.command; stage = plan.stage; asked = plan.asked }

abbrev pub dos_of : ℕ → Phase → List Uncounted
dos_of index phase = map (λ (command : Command). record { lane = 0; command = command; stage = 2 * index; asked = 0 }) phase.dos

abbrev pub calls_at : ℕ → ℕ → Phase → List Uncounted
calls_at index base phase = map (λ (call : LaneCall). record { lane = call.lane; command = call.command; stage = 2 * index + 1; asked = base + call.begun }) phase.calls

abbrev pub at_stage : ℕ → List Planned → List Planned
at_stage stage plans = filter (λ (plan : Planned). plan.stage == stage) plans

abbrev pub of_lane : ℕ → List Planned → List Planned
of_lane lane plans = filter (λ (plan : Planned). plan.call.lane == lane) plans

abbrev pub at_asked : ℕ → List Planned → List Planned
at_asked asked plans = filter (λ (plan : Planned). plan.asked == asked) plans

counted-append : (earlier xs ys : List Uncounted) → counted earlier (xs ++ ys) ≡ counted earlier xs ++ counted (earlier ++ xs) ys
counted-append earlier [] ys = ap (λ e. counted e ys) (sym (append-nil earlier))
counted-append earlier (x ∷ xs) ys =
    ap (λ (ps : List Planned). record { call = record { lane = x.lane; index = count_by (λ (other : Uncounted). other.lane == x.lane) earlier + 1; command = x.command }; stage = x.stage; asked = x.asked } ∷ ps)
    (counted-append (earlier ++ x ∷ []) xs ys ∙ ap (λ e. counted (earlier ++ x ∷ []) xs ++ counted e ys) (append_assoc earlier (x ∷ []) xs))

pub Each-counted : (P : Uncounted → Type 0) (earlier us : List Uncounted) → Each P us → Each (λ plan. P (uncount plan)) (counted earlier us)
Each-counted P earlier [] h = tt
Each-counted P earlier (u ∷ us) h = (h.0, Each-counted P (earlier ++ u ∷ []) us h.1)

pub Ordered-counted : (R : Uncounted → Uncounted → Type 0) (earlier us : List Uncounted) → Ordered R us → Ordered (λ a b. R (uncount a) (uncount b)) (counted earlier us)
Ordered-counted R earlier [] h = tt
Ordered-counted R earlier (u ∷ us) h = (Each-counted (R u) (earlier ++ u ∷ []) us h.0, Ordered-counted R (earlier ++ u ∷ []) us h.1)

all_at : (s : ℕ) (earlier us : List Uncounted) → Each (λ (u : Uncounted). u.stage ≡ s) us → at_stage s (counted earlier us) ≡ counted earlier us
all_at s earlier us h =
    filter-all (λ (plan : Planned). plan.stage == s) (counted earlier us)
    (Each-weaker (λ (plan : Planned). plan.stage ≡ s) (λ (plan : Planned). (plan.stage == s) ≡ true) (λ plan e. eq-eqb plan.stage s e) (counted earlier us) (Each-counted (λ (u : Uncounted). u.stage ≡ s) earlier us h))

none_at : (s : ℕ) (earlier us : List Uncounted) → Each (λ (u : Uncounted). u.stage ≢ s) us → at_stage s (counted earlier us) ≡ []
none_at s earlier us h =
    filter-none (λ (plan : Planned). plan.stage == s) (counted earlier us)
    (Each-weaker (λ (plan : Planned). plan.stage ≢ s) (λ (plan : Planned). (plan.stage == s) ≡ false) (λ plan e. ne_eqb plan.stage s e) (counted earlier us) (Each-counted (λ (u : Uncounted). u.stage ≢ s) earlier us h))

stage_dos : (P : ℕ → Type 0) (index : ℕ) (phase : Phase) → P (2 * index) → Each (λ (u : Uncounted). P u.stage) (dos_of index phase)
stage_dos P index phase p = Each-map (λ (u : Uncounted). P u.stage) (λ (command : Command). record { lane = 0; command = command; stage = 2 * index; asked = 0 }) phase.dos (Each-all (λ command. P (2 * index)) (λ command. p) phase.dos)

stage_calls : (P : ℕ → Type 0) (index base : ℕ) (phase : Phase) → P (2 * index + 1) → Each (λ (u : Uncounted). P u.stage) (calls_at index base phase)
stage_calls P index base phase p = Each-map (λ (u : Uncounted). P u.stage) (λ (call : LaneCall). record { lane = call.lane; command = call.command; stage = 2 * index + 1; asked = base + call.begun }) phase.calls (Each-all (λ call. P (2 * index + 1)) (λ call. p) phase.calls)

pub stage_later : (index base : ℕ) (phs : List Phase) → Each (λ (u : Uncounted). 2 * index ≤ u.stage) (uncounted index base phs)
stage_later index base [] = tt
stage_later index base (phase ∷ phs) =
    Each-append (λ (u : Uncounted). 2 * index ≤ u.stage) (dos_of index phase ++ calls_at index base phase) (uncounted (index + 1) (base + phase.cycles) phs)
    (Each-append (λ (u : Uncounted). 2 * index ≤ u.stage) (dos_of index phase) (calls_at index base phase)
    (stage_dos (λ s. 2 * index ≤ s) index phase (omega arith)) (stage_calls (λ s. 2 * index ≤ s) index base phase (omega arith)))
    (Each-weaker (λ (u : Uncounted). 2 * (index + 1) ≤ u.stage) (λ (u : Uncounted). 2 * index ≤ u.stage) (λ u h. omega arith) (uncounted (index + 1) (base + phase.cycles) phs)
    (stage_later (index + 1) (base + phase.cycles) phs))

-- the plan in three parts, and each stage of it
module _ (index base : ℕ) (phase : Phase) (phs : List Phase) (earlier : List Uncounted) where
  abbrev first_part : List Planned
  first_part = counted earlier (dos_of index phase)

  abbrev second_part : List Planned
  second_part = counted (earlier ++ dos_of index phase) (calls_at index base phase)

  abbrev behind : List Uncounted
  behind = earlier ++ (dos_of index phase ++ calls_at index base phase)

  abbrev third_part : List Planned
  third_part = counted behind (uncounted (index + 1) (base + phase.cycles) phs)

  in_parts : counted earlier (uncounted index base (phase ∷ phs)) ≡ first_part ++ second_part ++ third_part
  in_parts =
      counted-append earlier (dos_of index phase ++ calls_at index base phase) (uncounted (index + 1) (base + phase.cycles) phs)
      ∙ ap (λ ps. ps ++ third_part) (counted-append earlier (dos_of index phase) (calls_at index base phase))

  stage_in_parts : (s : ℕ) → at_stage s (counted earlier (uncounted index base (phase ∷ phs))) ≡ at_stage s first_part ++ at_stage s second_part ++ at_stage s third_part
  stage_in_parts s =
      ap (at_stage s) in_parts
      ∙ filter-append (λ (plan : Planned). plan.stage == s) (first_part ++ second_part) third_part
      ∙ ap (λ ps. ps ++ at_stage s third_part) (filter-append (λ (plan : Planned). plan.stage == s) first_part second_part)

  later_none : (s : ℕ) → s < 2 * index + 2 → at_stage s third_part ≡ []
  later_none s h =
      none_at s behind (uncounted (index + 1) (base + phase.cycles) phs)
      (Each-weaker (λ (u : Uncounted). 2 * (index + 1) ≤ u.stage) (λ (u : Uncounted). u.stage ≢ s) (λ u k e. omega arith) (uncounted (index + 1) (base + phase.cycles) phs)
      (stage_later (index + 1) (base + phase.cycles) phs))

  stage_first : at_stage (2 * index) (counted earlier (uncounted index base (phase ∷ phs))) ≡ first_part
  stage_first =
      stage_in_parts (2 * index)
      ∙ rw (
        all_at (2 * index) earlier (dos_of index phase) (stage_dos (λ s. s ≡ 2 * index) index phase refl),
        none_at (2 * index) (earlier ++ dos_of index phase) (calls_at index base phase) (stage_calls (λ s. s ≢ 2 * index) index base phase (λ e. omega arith)),
        later_none (2 * index) (omega arith),
        append-nil,
        append-nil,
      ) refl

  stage_second : at_stage (2 * index + 1) (counted earlier (uncounted index base (phase ∷ phs))) ≡ second_part
  stage_second =
      stage_in_parts (2 * index + 1)
      ∙ rw (
        none_at (2 * index + 1) earlier (dos_of index phase) (stage_dos (λ s. s ≢ 2 * index + 1) index phase (λ e. omega arith)),
        all_at (2 * index + 1) (earlier ++ dos_of index phase) (calls_at index base phase) (stage_calls (λ s. s ≡ 2 * index + 1) index base phase refl),
        later_none (2 * index + 1) (omega arith),
        append-nil,
      ) refl

  stage_third : (s : ℕ) → 2 * (index + 1) ≤ s → at_stage s (counted earlier (uncounted index base (phase ∷ phs))) ≡ at_stage s third_part
  stage_third s h =
      stage_in_parts s
      ∙ rw (
        none_at s earlier (dos_of index phase) (stage_dos (λ t. t ≢ s) index phase (λ e. omega arith)),
        none_at s (earlier ++ dos_of index phase) (calls_at index base phase) (stage_calls (λ t. t ≢ s) index base phase (λ e. omega arith)),
      ) refl

-- ---- the calls of one lane

asked_chunks : (base n : ℕ) (ys : List Planned) → Ordered (λ (a b : Planned). a.asked ≤ b.asked) ys
    → filter (λ (plan : Planned). nat_le base plan.asked) ys ≡ flat_map (λ c. at_asked (base + c) ys) (below n) ++ filter (λ (plan : Planned). nat_le (base + n) plan.asked) ys
asked_chunks base zero ys o =
    let e : base ≡ base + 0 = omega arith in
    ap (λ b. filter (λ (plan : Planned). nat_le b plan.asked) ys) e
asked_chunks base (suc n) ys o =
    let e : suc (base + n) ≡ base + suc n = omega arith in
    asked_chunks base n ys o
    ∙ ap (λ zs. flat_map (λ c. at_asked (base + c) ys) (below n) ++ zs) (filter-split (λ (plan : Planned). plan.asked) (base + n) ys o)
    ∙ sym (append_assoc (flat_map (λ c. at_asked (base + c) ys) (below n)) (at_asked (base + n) ys) (filter (λ (plan : Planned). nat_le (suc (base + n)) plan.asked) ys))
    ∙ ap₂ (λ us b. us ++ filter (λ (plan : Planned). nat_le b plan.asked) ys)
    (ap (λ zs. flat_map (λ c. at_asked (base + c) ys) (below n) ++ zs) (sym (append-nil (at_asked (base + n) ys))) ∙ sym (flat_map-append (λ c. at_asked (base + c) ys) (below n) (n ∷ []))) e

asked_whole : (base cycles : ℕ) (ys : List Planned) → Ordered (λ (a b : Planned). a.asked ≤ b.asked) ys → Each (λ (plan : Planned). (base ≤ plan.asked) × (plan.asked ≤ base + cycles)) ys
    → flat_map (λ c. at_asked (base + c) ys) (below (cycles + 1)) ≡ ys
asked_whole base cycles ys o h =
    let all : filter (λ (plan : Planned). nat_le base plan.asked) ys ≡ ys =
    filter-all (λ (plan : Planned). nat_le base plan.asked) ys (Each-weaker (λ (plan : Planned). (base ≤ plan.asked) × (plan.asked ≤ base + cycles)) (λ (plan : Planned). nat_le base plan.asked ≡ true) (λ plan q. le-leb base plan.asked q.0) ys h) in
    let none : filter (λ (plan : Planned). nat_le (base + (cycles + 1)) plan.asked) ys ≡ [] =
    filter-none (λ (plan : Planned). nat_le (base + (cycles + 1)) plan.asked) ys
    (Each-weaker (λ (plan : Planned). (base ≤ plan.asked) × (plan.asked ≤ base + cycles)) (λ (plan : Planned). nat_le (base + (cycles + 1)) plan.asked ≡ false) (λ plan q. lt-leb (base + (cycles + 1)) plan.asked (omega (arith, q.1))) ys h) in
    sym (append-nil (flat_map (λ c. at_asked (base + c) ys) (below (cycles + 1))))
    ∙ ap (λ zs. flat_map (λ c. at_asked (base + c) ys) (below (cycles + 1)) ++ zs) (sym none) ∙ sym (asked_chunks base (cycles + 1) ys o) ∙ all

-- what a lane has of a list that a lane's calls were taken from
own_lane : (lane asked : ℕ) (plans : List Planned) → of_lane lane (at_asked asked (of_lane lane plans)) ≡ at_asked asked (of_lane lane plans)
own_lane lane asked plans =
    filter-all (λ (plan : Planned). plan.call.lane == lane) (at_asked asked (of_lane lane plans))
    (Each-filter_kept (λ (plan : Planned). (plan.call.lane == lane) ≡ true) (λ (plan : Planned). plan.asked == asked) (of_lane lane plans)
    (Each-filter (λ (plan : Planned). (plan.call.lane == lane) ≡ true) (λ (plan : Planned). plan.call.lane == lane) plans (λ plan e. e)))

other_lane : (lane other asked : ℕ) (plans : List Planned) → lane ≢ other → of_lane lane (at_asked asked (of_lane other plans)) ≡ []
other_lane lane other asked plans apart =
    filter-none (λ (plan : Planned). plan.call.lane == lane) (at_asked asked (of_lane other plans))
    (Each-filter_kept (λ (plan : Planned). (plan.call.lane == lane) ≡ false) (λ (plan : Planned). plan.asked == asked) (of_lane other plans)
    (Each-filter (λ (plan : Planned). (plan.call.lane == lane) ≡ false) (λ (plan : Planned). plan.call.lane == other) plans (λ plan e. grind (arith, nat_tests))))

and_order : (a b c : Bool) → (a && b && c) ≡ (a && (c && b))
and_order true true true = refl
and_order true true false = refl
and_order true false true = refl
and_order true false false = refl
and_order false b c = refl

module _ (script : Script) where
  due_is : (index asked lane : ℕ) → due script index asked lane ≡ at_asked asked (of_lane lane (at_stage (2 * index + 1) (planned script)))
  due_is index asked lane =
      let test : Planned → Bool = λ (plan : Planned). plan.call.lane == lane && plan.asked == asked in
      filter-same (λ (plan : Planned). plan.stage == 2 * index + 1 && plan.asked == asked && plan.call.lane == lane) (λ (plan : Planned). plan.stage == 2 * index + 1 && test plan) (planned script)
      (Each-all (λ (plan : Planned). (plan.stage == 2 * index + 1 && plan.asked == asked && plan.call.lane == lane) ≡ (plan.stage == 2 * index + 1 && test plan))
      (λ plan. and_order (plan.stage == 2 * index + 1) (plan.asked == asked) (plan.call.lane == lane)) (planned script))
      ∙ sym (filter-twice test (λ (plan : Planned). plan.stage == 2 * index + 1) (planned script))
      ∙ sym (filter-twice (λ (plan : Planned). plan.asked == asked) (λ (plan : Planned). plan.call.lane == lane) (at_stage (2 * index + 1) (planned script)))

  own_due : (index asked lane : ℕ) → of_lane lane (due script index asked lane) ≡ at_asked asked (of_lane lane (at_stage (2 * index + 1) (planned script)))
  own_due index asked lane = ap (of_lane lane) (due_is index asked lane) ∙ own_lane lane asked (at_stage (2 * index + 1) (planned script))

  other_due : (index asked lane other : ℕ) → lane ≢ other → of_lane lane (due script index asked other) ≡ []
  other_due index asked lane other apart = ap (of_lane lane) (due_is index asked other) ∙ other_lane lane other asked (at_stage (2 * index + 1) (planned script)) apart

  of_lanes_at : (index asked lane : ℕ) → 1 ≤ lane → lane ≤ 4 → of_lane lane (lanes_at script index asked) ≡ at_asked asked (of_lane lane (at_stage (2 * index + 1) (planned script)))
  of_lanes_at index asked lane low high = filter-flat_map (λ (plan : Planned). plan.call.lane == lane) (due script index asked) (1 ∷ 2 ∷ 3 ∷ 4 ∷ []) ∙ go lane low high
    where
      go : (l : ℕ) → 1 ≤ l → l ≤ 4
          → of_lane l (due script index asked 1) ++ (of_lane l (due script index asked 2) ++ (of_lane l (due script index asked 3) ++ (of_lane l (due script index asked 4) ++ [])))
          ≡ at_asked asked (of_lane l (at_stage (2 * index + 1) (planned script)))
      go zero p q = absurd (omega arith)
      go (suc zero) p q =
          rw (own_due index asked 1, other_due index asked 1 2 (λ e. omega arith), other_due index asked 1 3 (λ e. omega arith), other_due index asked 1 4 (λ e. omega arith))
          (append-nil (at_asked asked (of_lane 1 (at_stage (2 * index + 1) (planned script)))))
      go (suc (suc zero)) p q =
          rw (own_due index asked 2, other_due index asked 2 1 (λ e. omega arith), other_due index asked 2 3 (λ e. omega arith), other_due index asked 2 4 (λ e. omega arith))
          (append-nil (at_asked asked (of_lane 2 (at_stage (2 * index + 1) (planned script)))))
      go (suc (suc (suc zero))) p q =
          rw (own_due index asked 3, other_due index asked 3 1 (λ e. omega arith), other_due index asked 3 2 (λ e. omega arith), other_due index asked 3 4 (λ e. omega arith))
          (append-nil (at_asked asked (of_lane 3 (at_stage (2 * index + 1) (planned script)))))
      go (suc (suc (suc (suc zero)))) p q =
          rw (own_due index asked 4, other_due index asked 4 1 (λ e. omega arith), other_due index asked 4 2 (λ e. omega arith), other_due index asked 4 3 (λ e. omega arith))
          (append-nil (at_asked asked (of_lane 4 (at_stage (2 * index + 1) (planned script)))))
      go (suc (suc (suc (suc (suc l))))) p q = absurd (omega arith)

  no_lanes_at : (index asked : ℕ) → of_lane 0 (lanes_at script index asked) ≡ []
  no_lanes_at index asked =
      filter-flat_map (λ (plan : Planned). plan.call.lane == 0) (due script index asked) (1 ∷ 2 ∷ 3 ∷ 4 ∷ [])
      ∙ rw (other_due index asked 0 1 (λ e. omega arith), other_due index asked 0 2 (λ e. omega arith), other_due index asked 0 3 (λ e. omega arith), other_due index asked 0 4 (λ e. omega arith)) refl

  -- the lanes' calls of a phase, if these are the ones planned
  module _ (index base : ℕ) (phase : Phase) (keeps : KeepsLanes phase) (earlier : List Uncounted) (here : at_stage (2 * index + 1) (planned script) ≡ counted earlier (calls_at index base phase)) where
    lanes_part : (lane : ℕ) → lane ≤ 4 → of_lane lane (flat_map (λ cycles. lanes_at script index (base + cycles)) (below (phase.cycles + 1))) ≡ of_lane lane (counted earlier (calls_at index base phase))
    lanes_part lane high = filter-flat_map (λ (plan : Planned). plan.call.lane == lane) (λ cycles. lanes_at script index (base + cycles)) (below (phase.cycles + 1)) ∙ go lane high
      where
        facts : Each (λ (plan : Planned). (1 ≤ plan.call.lane) × (base ≤ plan.asked) × (plan.asked ≤ base + phase.cycles)) (counted earlier (calls_at index base phase))
        facts = Each-counted (λ (u : Uncounted). (1 ≤ u.lane) × (base ≤ u.asked) × (u.asked ≤ base + phase.cycles)) earlier (calls_at index base phase)
            (Each-map (λ (u : Uncounted). (1 ≤ u.lane) × (base ≤ u.asked) × (u.asked ≤ base + phase.cycles))
            (λ (call : LaneCall). record { lane = call.lane; command = call.command; stage = 2 * index + 1; asked = base + call.begun }) phase.calls
            (Each-weaker (λ (call : LaneCall). (1 ≤ call.lane) × (call.lane ≤ 4) × (call.begun ≤ phase.cycles)) (λ (call : LaneCall). (1 ≤ call.lane) × (base ≤ base + call.begun) × (base + call.begun ≤ base + phase.cycles))
            (λ call q. (q.0, omega arith, omega (arith, q.2))) phase.calls keeps.each))

        order : Ordered (λ (a b : Planned). a.call.lane ≡ b.call.lane → a.asked ≤ b.asked) (counted earlier (calls_at index base phase))
        order = Ordered-counted (λ (a b : Uncounted). a.lane ≡ b.lane → a.asked ≤ b.asked) earlier (calls_at index base phase)
            (Ordered-map (λ (a b : Uncounted). a.lane ≡ b.lane → a.asked ≤ b.asked)
            (λ (call : LaneCall). record { lane = call.lane; command = call.command; stage = 2 * index + 1; asked = base + call.begun }) phase.calls
            (Ordered-weaker (λ (a b : LaneCall). a.lane ≡ b.lane → a.begun ≤ b.begun) (λ (a b : LaneCall). a.lane ≡ b.lane → base + a.begun ≤ base + b.begun)
            (λ a b f e. omega (arith, f e)) phase.calls keeps.order))

        go : (l : ℕ) → l ≤ 4 → flat_map (λ cycles. of_lane l (lanes_at script index (base + cycles))) (below (phase.cycles + 1)) ≡ of_lane l (counted earlier (calls_at index base phase))
        go zero q =
            flat_map-none (λ cycles. of_lane 0 (lanes_at script index (base + cycles))) (λ cycles. no_lanes_at index (base + cycles)) (below (phase.cycles + 1))
            ∙ sym (filter-none (λ (plan : Planned). plan.call.lane == 0) (counted earlier (calls_at index base phase))
            (Each-weaker (λ (plan : Planned). (1 ≤ plan.call.lane) × (base ≤ plan.asked) × (plan.asked ≤ base + phase.cycles)) (λ (plan : Planned). (plan.call.lane == 0) ≡ false)
            (λ plan r. ne_eqb plan.call.lane 0 (λ e. omega (arith, r.0))) (counted earlier (calls_at index base phase)) facts))
        go (suc l) q =
            let ys : List Planned = of_lane (suc l) (counted earlier (calls_at index base phase)) in
            flat_map-same (λ cycles. of_lane (suc l) (lanes_at script index (base + cycles))) (λ c. at_asked (base + c) ys)
            (λ c. of_lanes_at index (base + c) (suc l) (omega arith) q ∙ ap (λ ps. at_asked (base + c) (of_lane (suc l) ps)) here) (below (phase.cycles + 1))
            ∙ asked_whole base phase.cycles ys
            (Ordered-with (λ (a b : Planned). a.call.lane ≡ b.call.lane → a.asked ≤ b.asked) (λ (a b : Planned). a.asked ≤ b.asked) (λ (plan : Planned). plan.call.lane ≡ suc l)
            (λ a b e f r. r (e ∙ sym f)) ys
            (Each-filter (λ (plan : Planned). plan.call.lane ≡ suc l) (λ (plan : Planned). plan.call.lane == suc l) (counted earlier (calls_at index base phase)) (λ plan e. eqb-true plan.call.lane (suc l) e))
            (Ordered-filter (λ (a b : Planned). a.call.lane ≡ b.call.lane → a.asked ≤ b.asked) (λ (plan : Planned). plan.call.lane == suc l) (counted earlier (calls_at index base phase)) order))
            (Each-weaker (λ (plan : Planned). (1 ≤ plan.call.lane) × (base ≤ plan.asked) × (plan.asked ≤ base + phase.cycles)) (λ (plan : Planned). (base ≤ plan.asked) × (plan.asked ≤ base + phase.cycles))
            (λ plan r. (r.1, r.2)) ys
            (Each-filter_kept (λ (plan : Planned). (1 ≤ plan.call.lane) × (base ≤ plan.asked) × (plan.asked ≤ base + phase.cycles)) (λ (plan : Planned). plan.call.lane == suc l) (counted earlier (calls_at index base phase)) facts))

  -- the calls from a phase on are a part of the plan
  abbrev pub IsPlannedFrom : ℕ → List Planned → Type 0
  IsPlannedFrom index plans = (stage : ℕ) → 2 * index ≤ stage → at_stage stage (planned script) ≡ at_stage stage plans

  pub lane_from : (lane : ℕ) → lane ≤ 4 → (phs : List Phase) (index base : ℕ) (earlier : List Uncounted) → Each KeepsLanes phs → IsPlannedFrom index (counted earlier (uncounted index base phs))
      → of_lane lane (calls_from script index base phs) ≡ of_lane lane (counted earlier (uncounted index base phs))
  lane_from lane high [] index base earlier keeps here = refl
  lane_from lane high (phase ∷ phs) index base earlier keeps here =
      let test : Planned → Bool = λ (plan : Planned). plan.call.lane == lane in
      let lanes : List Planned = flat_map (λ cycles. lanes_at script index (base + cycles)) (below (phase.cycles + 1)) in
      let one : List Planned = counted earlier (dos_of index phase) in
      let two : List Planned = counted (earlier ++ dos_of index phase) (calls_at index base phase) in
      let three : List Planned = counted (earlier ++ (dos_of index phase ++ calls_at index base phase)) (uncounted (index + 1) (base + phase.cycles) phs) in
      let others : List Planned = calls_from script (index + 1) (base + phase.cycles) phs in
      let rest : of_lane lane others ≡ of_lane lane three =
      lane_from lane high phs (index + 1) (base + phase.cycles) (earlier ++ (dos_of index phase ++ calls_at index base phase)) keeps.1
      (λ stage q. here stage (omega arith) ∙ stage_third index base phase phs earlier stage q) in
      let first : do_calls script index ≡ one = here (2 * index) (omega arith) ∙ stage_first index base phase phs earlier in
      let second : of_lane lane lanes ≡ of_lane lane two =
      lanes_part index base phase keeps.0 (earlier ++ dos_of index phase) (here (2 * index + 1) (omega arith) ∙ stage_second index base phase phs earlier) lane high in
      filter-append test (do_calls script index ++ lanes) others
      ∙ ap₂ (λ us vs. us ++ vs) (filter-append test (do_calls script index) lanes ∙ ap₂ (λ us vs. us ++ vs) (ap (of_lane lane) first) second) rest
      ∙ ap (λ us. us ++ of_lane lane three) (sym (filter-append test one two)) ∙ sym (filter-append test (one ++ two) three)
      ∙ ap (of_lane lane) (sym (in_parts index base phase phs earlier))

  pub lane_of_serial_calls : Each KeepsLanes (phases script) → (lane : ℕ) → lane ≤ 4 → of_lane lane (serial_calls script) ≡ planned_of script lane
  lane_of_serial_calls keeps lane high = lane_from lane high (phases script) 0 0 [] keeps (λ stage q. refl)

-- ---- stage by stage, and in a stage by what the calls ask for

abbrev pub Before : Planned → Planned → Type 0
Before a b = (a.stage < b.stage) ⊎ ((a.stage ≡ b.stage) × (a.asked ≤ b.asked))

-- a lane call of this phase that asks for these cycles
abbrev pub IsLaneCallAt : ℕ → ℕ → Planned → Type 0
IsLaneCallAt index asked plan = (plan.stage ≡ 2 * index + 1) × (plan.asked ≡ asked) × (plan.call.lane ≤ 4)

abbrev pub IsLaneCallBelow : ℕ → ℕ → Planned → Type 0
IsLaneCallBelow index bound plan = (plan.stage ≡ 2 * index + 1) × (plan.asked < bound) × (plan.call.lane ≤ 4)

abbrev pub IsFrom : ℕ → Planned → Type 0
IsFrom index plan = (2 * index ≤ plan.stage) × (plan.call.lane ≤ 4)

module _ (script : Script) where
  due_each : (index asked lane : ℕ) → lane ≤ 4 → Each (IsLaneCallAt index asked) (due script index asked lane)
  due_each index asked lane high =
      Each-filter (IsLaneCallAt index asked) (λ (plan : Planned). plan.stage == 2 * index + 1 && plan.asked == asked && plan.call.lane == lane) (planned script)
      (λ plan e.
      let last : (plan.call.lane == lane) ≡ true = grind arith in
      let first : (plan.stage == 2 * index + 1) ≡ true = grind arith in
      let middle : (plan.asked == asked) ≡ true = grind arith in
      let is_lane : plan.call.lane ≡ lane = eqb-true plan.call.lane lane last in
      (eqb-true plan.stage (2 * index + 1) first, eqb-true plan.asked asked middle, omega arith))

  lanes_each : (index asked : ℕ) → Each (IsLaneCallAt index asked) (lanes_at script index asked)
  lanes_each index asked =
      Each-flat_map (IsLaneCallAt index asked) (due script index asked) (1 ∷ 2 ∷ 3 ∷ 4 ∷ [])
      (due_each index asked 1 (omega arith), (due_each index asked 2 (omega arith), (due_each index asked 3 (omega arith), (due_each index asked 4 (omega arith), tt))))

  lanes_ordered : (index base n : ℕ) → Ordered Before (flat_map (λ cycles. lanes_at script index (base + cycles)) (below n)) × Each (IsLaneCallBelow index (base + n)) (flat_map (λ cycles. lanes_at script index (base + cycles)) (below n))
  lanes_ordered index base zero = (tt, tt)
  lanes_ordered index base (suc n) = rw e (rw none (go (lanes_ordered index base n)))
    where
      f : ℕ → List Planned
      f cycles = lanes_at script index (base + cycles)

      e : flat_map (λ cycles. lanes_at script index (base + cycles)) (below n ++ n ∷ []) ≡ flat_map (λ cycles. lanes_at script index (base + cycles)) (below n) ++ flat_map (λ cycles. lanes_at script index (base + cycles)) (n ∷ [])
      e = flat_map-append (λ cycles. lanes_at script index (base + cycles)) (below n) (n ∷ [])

      none : flat_map (λ cycles. lanes_at script index (base + cycles)) (n ∷ []) ≡ lanes_at script index (base + n)
      none = append-nil (lanes_at script index (base + n))

      go : Ordered Before (flat_map (λ cycles. lanes_at script index (base + cycles)) (below n)) × Each (IsLaneCallBelow index (base + n)) (flat_map (λ cycles. lanes_at script index (base + cycles)) (below n))
          → Ordered Before (flat_map (λ cycles. lanes_at script index (base + cycles)) (below n) ++ lanes_at script index (base + n))
          × Each (IsLaneCallBelow index (base + suc n)) (flat_map (λ cycles. lanes_at script index (base + cycles)) (below n) ++ lanes_at script index (base + n))
      go before =
          let xs : List Planned = flat_map (λ cycles. lanes_at script index (base + cycles)) (below n) in
          let ys : List Planned = lanes_at script index (base + n) in
          let here : Each (IsLaneCallAt index (base + n)) ys = lanes_each index (base + n) in (
            Ordered-append Before (IsLaneCallBelow index (base + n)) (IsLaneCallAt index (base + n)) (λ a b p q. inr (p.0 ∙ sym q.0, omega (arith, p.1, q.1))) xs ys
                before.0 before.1 (Ordered-any Before (IsLaneCallAt index (base + n)) (λ a b p q. inr (p.0 ∙ sym q.0, omega (arith, p.1, q.1))) ys here) here,
            Each-append (IsLaneCallBelow index (base + suc n)) xs ys
                (Each-weaker (IsLaneCallBelow index (base + n)) (IsLaneCallBelow index (base + suc n)) (λ a p. (p.0, omega (arith, p.1), p.2)) xs before.1)
                (Each-weaker (IsLaneCallAt index (base + n)) (IsLaneCallBelow index (base + suc n)) (λ a p. (p.0, omega (arith, p.1), p.2)) ys here),
          )

  pub calls_ordered : (phs : List Phase) (index base : ℕ) (earlier : List Uncounted) → IsPlannedFrom script index (counted earlier (uncounted index base phs))
      → Ordered Before (calls_from script index base phs) × Each (IsFrom index) (calls_from script index base phs)
  calls_ordered [] index base earlier here = (tt, tt)
  calls_ordered (phase ∷ phs) index base earlier here =
      let lanes : List Planned = flat_map (λ cycles. lanes_at script index (base + cycles)) (below (phase.cycles + 1)) in
      let dos : List Planned = do_calls script index in
      let others : List Planned = calls_from script (index + 1) (base + phase.cycles) phs in
      let one : List Planned = counted earlier (dos_of index phase) in
      let rest : Ordered Before others × Each (IsFrom (index + 1)) others =
      calls_ordered phs (index + 1) (base + phase.cycles) (earlier ++ (dos_of index phase ++ calls_at index base phase)) (λ stage q. here stage (omega arith) ∙ stage_third index base phase phs earlier stage q) in
      let first : do_calls script index ≡ one = here (2 * index) (omega arith) ∙ stage_first index base phase phs earlier in
      let IsDo : Planned → Type 0 = λ (plan : Planned). (plan.stage ≡ 2 * index) × (plan.asked ≡ 0) × (plan.call.lane ≡ 0) in
      let dos_each : Each IsDo dos =
      subst (Each IsDo) (sym first)
      (Each-counted (λ (u : Uncounted). (u.stage ≡ 2 * index) × (u.asked ≡ 0) × (u.lane ≡ 0)) earlier (dos_of index phase)
      (Each-map (λ (u : Uncounted). (u.stage ≡ 2 * index) × (u.asked ≡ 0) × (u.lane ≡ 0)) (λ (command : Command). record { lane = 0; command = command; stage = 2 * index; asked = 0 }) phase.dos
      (Each-all (λ (command : Command). (2 * index ≡ 2 * index) × (0 ≡ 0) × (0 ≡ 0)) (λ command. (refl, refl, refl)) phase.dos))) in
      let dos_ordered : Ordered Before dos = Ordered-any Before IsDo (λ a b p q. inr (p.0 ∙ sym q.0, omega (arith, p.1))) dos dos_each in
      let two = lanes_ordered index base (phase.cycles + 1) in
      let bound : ℕ = base + (phase.cycles + 1) in
      let IsHere : Planned → Type 0 = λ (plan : Planned). (plan.stage ≤ 2 * index + 1) × (2 * index ≤ plan.stage) × (plan.call.lane ≤ 4) in
      let here_each : Each IsHere (dos ++ lanes) =
      Each-append IsHere dos lanes (Each-weaker IsDo IsHere (λ a p. (omega (arith, p.0), omega (arith, p.0), omega (arith, p.2))) dos dos_each)
      (Each-weaker (IsLaneCallBelow index bound) IsHere (λ a p. (omega (arith, p.0), omega (arith, p.0), p.2)) lanes two.1) in
      let here_ordered : Ordered Before (dos ++ lanes) =
      Ordered-append Before IsDo (IsLaneCallBelow index bound) (λ a b p q. inl (omega (arith, p.0, q.0))) dos lanes dos_ordered dos_each two.0 two.1 in (
        Ordered-append Before IsHere (IsFrom (index + 1)) (λ a b p q. inl (omega (arith, p.0, q.0))) (dos ++ lanes) others here_ordered here_each rest.0 rest.1,
        Each-append (IsFrom index) (dos ++ lanes) others (Each-weaker IsHere (IsFrom index) (λ a p. (p.1, p.2)) (dos ++ lanes) here_each)
            (Each-weaker (IsFrom (index + 1)) (IsFrom index) (λ a p. (omega (arith, p.0), p.1)) others rest.1),
      )

  pub serial_calls_ordered : Ordered Before (serial_calls script) × Each (IsFrom 0) (serial_calls script)
  serial_calls_ordered = calls_ordered (phases script) 0 0 [] (λ stage q. refl)

pub planned_lanes : (phs : List Phase) (index base : ℕ) → Each KeepsLanes phs → Each (λ (u : Uncounted). u.lane ≤ 4) (uncounted index base phs)
planned_lanes [] index base keeps = tt
planned_lanes (phase ∷ phs) index base keeps =
    Each-append (λ (u : Uncounted). u.lane ≤ 4) (dos_of index phase ++ calls_at index base phase) (uncounted (index + 1) (base + phase.cycles) phs)
    (Each-append (λ (u : Uncounted). u.lane ≤ 4) (dos_of index phase) (calls_at index base phase)
    (Each-map (λ (u : Uncounted). u.lane ≤ 4) (λ (command : Command). record { lane = 0; command = command; stage = 2 * index; asked = 0 }) phase.dos (Each-all (λ (command : Command). 0 ≤ 4) (λ command. omega arith) phase.dos))
    (Each-map (λ (u : Uncounted). u.lane ≤ 4) (λ (call : LaneCall). record { lane = call.lane; command = call.command; stage = 2 * index + 1; asked = base + call.begun }) phase.calls
    (Each-weaker (λ (call : LaneCall). (1 ≤ call.lane) × (call.lane ≤ 4) × (call.begun ≤ phase.cycles)) (λ (call : LaneCall). call.lane ≤ 4) (λ call q. q.1) phase.calls keeps.0.each)))
    (planned_lanes phs (index + 1) (base + phase.cycles) keeps.1)
