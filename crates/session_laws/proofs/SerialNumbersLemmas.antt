-- Serial mode's numbers are within their bounds.
--     Cycles-serial      each script whose lane calls keep the grammar
use Rattle.std.proofs.Common.{◌≡◌, ℕ, zero, suc, ◌+◌, ◌*◌, ◌<◌, ◌≤◌, Bool, true, false, ◌&&◌, nat_le, nat_lt, ◌⊎◌, inl, inr, List, [], ◌∷◌, ◌++◌, length, map, filter, take, drop, get_or, slice_get, slice_index, replicate, Contains, Option, Some, None, refl, sym, ◌∙◌, ap, subst, arith, true≢false, take-append-drop, length-append}
use Rattle.std.specs.Option.{option_map_or}
use Rattle.std.proofs.lemmas.Bool.Decides.{nat_tests}
use Rattle.std.proofs.lemmas.List.Elements.{filter-append, filter_map-append}
use Rattle.session_model.specs.jack_types.specs.declared.commands.Call.{Call}
use Rattle.session_model.specs.jack_types.specs.declared.commands.Command.{Command}
use Rattle.session_model.specs.jack_types.specs.declared.replies.Entry.{Entry}
use Rattle.session_model.specs.Histories.{Cycles, KeepsAsked, IsWithinPhase, accepted, accepted_below, change_of, plan_of, stage_of}
use Rattle.session_model.specs.Scripts.{Script, Phase, LaneCall, Planned, Uncounted, ScriptCycle, phases, planned, turns, turns_from, uncounted}
use Rattle.session_model.specs.Serial.{serial, serial_calls, serial_history, serial_number, serial_numbers, numbers_from, is_before}
use Rattle.session_laws.proofs.ListLemmas.{Each, Ordered, Each-weaker, Each-all, Each-append, Each-contains, Each-from_contains, Each-both, Each-map, Each-unmap, Each-at, Each-drop, Ordered-any, Ordered-append, Ordered-map, filter-none, later_each, length-kept, IsNonDecreasing-ordered}
use Rattle.session_laws.proofs.SerialCallsLemmas.{KeepsLanes, Before, Each-counted, serial_calls_ordered, dos_of, calls_at, stage_later}
use Rattle.session_laws.proofs.SerialLemmas.{plan_of-planned, planned_from_serial, calls_of_serial, plan_at}

-- the cycles of the first phases
abbrev pub cycles_before : List Phase → ℕ → ℕ
cycles_before [] n = 0
cycles_before (phase ∷ phs) zero = 0
cycles_before (phase ∷ phs) (suc n) = phase.cycles + cycles_before phs n

-- what a call of an earlier phase asks for has begun before this phase
abbrev pub AsksBefore : ℕ → ℕ → List Phase → Uncounted → Type 0
AsksBefore index base phs u = (p : ℕ) → u.stage < 2 * (index + p) + 1 → u.asked ≤ base + cycles_before phs p

pub asked_before : (phs : List Phase) (index base : ℕ) → Each KeepsLanes phs → Each (AsksBefore index base phs) (uncounted index base phs)
asked_before [] index base keeps = tt
asked_before (phase ∷ phs) index base keeps =
    Each-append (AsksBefore index base (phase ∷ phs)) (dos_of index phase ++ calls_at index base phase) (uncounted (index + 1) (base + phase.cycles) phs)
    (Each-append (AsksBefore index base (phase ∷ phs)) (dos_of index phase) (calls_at index base phase)
    (Each-map (AsksBefore index base (phase ∷ phs)) (λ (command : Command). record { lane = 0; command = command; stage = 2 * index; asked = 0 }) phase.dos
    (Each-all (λ (command : Command). (p : ℕ) → 2 * index < 2 * (index + p) + 1 → 0 ≤ base + cycles_before (phase ∷ phs) p) (λ command p h. omega arith) phase.dos))
    (Each-map (AsksBefore index base (phase ∷ phs)) (λ (call : LaneCall). record { lane = call.lane; command = call.command; stage = 2 * index + 1; asked = base + call.begun }) phase.calls
    (Each-weaker (λ (call : LaneCall). (1 ≤ call.lane) × (call.lane ≤ 4) × (call.begun ≤ phase.cycles))
    (λ (call : LaneCall). (p : ℕ) → 2 * index + 1 < 2 * (index + p) + 1 → base + call.begun ≤ base + cycles_before (phase ∷ phs) p)
    (λ call q p h. go call.begun q.2 p h) phase.calls keeps.0.each)))
    (later (asked_before phs (index + 1) (base + phase.cycles) keeps.1))
  where
    go : (begun : ℕ) → begun ≤ phase.cycles → (p : ℕ) → 2 * index + 1 < 2 * (index + p) + 1 → base + begun ≤ base + cycles_before (phase ∷ phs) p
    go begun q zero h = absurd (omega (arith, h))
    go begun q (suc p) h = omega (arith, q)

    one : (u : Uncounted) → 2 * (index + 1) ≤ u.stage → AsksBefore (index + 1) (base + phase.cycles) phs u → AsksBefore index base (phase ∷ phs) u
    one u low f zero h = absurd (omega (arith, h, low))
    one u low f (suc p) h = omega (arith, f p (omega (arith, h)))

    later : Each (AsksBefore (index + 1) (base + phase.cycles) phs) (uncounted (index + 1) (base + phase.cycles) phs) → Each (AsksBefore index base (phase ∷ phs)) (uncounted (index + 1) (base + phase.cycles) phs)
    later h =
        Each-from_contains (AsksBefore index base (phase ∷ phs)) (uncounted (index + 1) (base + phase.cycles) phs)
        (λ u c. one u (Each-contains (λ (v : Uncounted). 2 * (index + 1) ≤ v.stage) (uncounted (index + 1) (base + phase.cycles) phs) u (stage_later (index + 1) (base + phase.cycles) phs) c)
        (Each-contains (AsksBefore (index + 1) (base + phase.cycles) phs) (uncounted (index + 1) (base + phase.cycles) phs) u h c))

-- ---- turns

none-turn : (turn : ScriptCycle) → None ≡ Some turn → ⊥
none-turn turn e = cc

some-turn : (a b : ScriptCycle) → Some a ≡ Some b → a ≡ b
some-turn a b e = cc

-- place k is behind all cycles of the phases before its own
abbrev pub IsBehind : ℕ → List Phase → ℕ → ScriptCycle → Type 0
IsBehind index phs k turn = (p : ℕ) × (turn.phase ≡ index + p) × (cycles_before phs p ≤ k)

in_run : (n : ℕ) (r : ScriptCycle) (others : List ScriptCycle) (k : ℕ) (turn : ScriptCycle) → slice_get (replicate n r ++ others) k ≡ Some turn → (r ≡ turn) ⊎ ((j : ℕ) × (k ≡ n + j) × (slice_get others j ≡ Some turn))
in_run zero r others k turn h = inr (k, omega arith, h)
in_run (suc n) r others zero turn h = inl (some-turn r turn h)
in_run (suc n) r others (suc k) turn h = go (in_run n r others k turn h)
  where
    go : (r ≡ turn) ⊎ ((j : ℕ) × (k ≡ n + j) × (slice_get others j ≡ Some turn)) → (r ≡ turn) ⊎ ((j : ℕ) × (suc k ≡ suc n + j) × (slice_get others j ≡ Some turn))
    go (inl e) = inl e
    go (inr w) = inr (w.0, omega (arith, w.1), w.2)

turn_behind : (phs : List Phase) (index k : ℕ) (turn : ScriptCycle) → slice_get (turns_from index phs) k ≡ Some turn → IsBehind index phs k turn
turn_behind [] index k turn h = absurd (none-turn turn h)
turn_behind (phase ∷ phs) index k turn h = go (in_run phase.cycles r (turns_from (index + 1) phs) k turn h) (λ j e. turn_behind phs (index + 1) j turn e)
  where
    r : ScriptCycle
    r = record { period = phase.period; is_freewheel = phase.is_freewheel; phase = index }

    go : (r ≡ turn) ⊎ ((j : ℕ) × (k ≡ phase.cycles + j) × (slice_get (turns_from (index + 1) phs) j ≡ Some turn))
        → ((j : ℕ) → slice_get (turns_from (index + 1) phs) j ≡ Some turn → IsBehind (index + 1) phs j turn) → IsBehind index (phase ∷ phs) k turn
    go (inl e) later =
        let same : index ≡ turn.phase = ap (λ (t : ScriptCycle). t.phase) e in
        (0, omega (arith, same), omega arith)
    go (inr w) later =
        let f = later w.0 w.2 in
        (suc f.0, omega (arith, f.1), omega (arith, f.2, w.1))

turns_each : (phs : List Phase) (index : ℕ) → Ordered (λ (a b : ScriptCycle). a.phase ≤ b.phase) (turns_from index phs) × Each (λ (turn : ScriptCycle). index ≤ turn.phase) (turns_from index phs)
turns_each [] index = (tt, tt)
turns_each (phase ∷ phs) index =
    let r : ScriptCycle = record { period = phase.period; is_freewheel = phase.is_freewheel; phase = index } in
    let rest = turns_each phs (index + 1) in
    let run : Each (λ (turn : ScriptCycle). turn.phase ≡ index) (replicate phase.cycles r) = run_each phase.cycles r refl in
    let others : List ScriptCycle = turns_from (index + 1) phs in (
      Ordered-append (λ (a b : ScriptCycle). a.phase ≤ b.phase) (λ (turn : ScriptCycle). turn.phase ≡ index) (λ (turn : ScriptCycle). index + 1 ≤ turn.phase) (λ a b p q. omega (arith, p, q)) (replicate phase.cycles r) others
          (Ordered-any (λ (a b : ScriptCycle). a.phase ≤ b.phase) (λ (turn : ScriptCycle). turn.phase ≡ index) (λ a b p q. omega (arith, p, q)) (replicate phase.cycles r) run) run rest.0 rest.1,
      Each-append (λ (turn : ScriptCycle). index ≤ turn.phase) (replicate phase.cycles r) others
          (Each-weaker (λ (turn : ScriptCycle). turn.phase ≡ index) (λ (turn : ScriptCycle). index ≤ turn.phase) (λ turn p. omega (arith, p)) (replicate phase.cycles r) run)
          (Each-weaker (λ (turn : ScriptCycle). index + 1 ≤ turn.phase) (λ (turn : ScriptCycle). index ≤ turn.phase) (λ turn p. omega (arith, p)) others rest.1),
    )
  where
    run_each : (n : ℕ) (r : ScriptCycle) → r.phase ≡ index → Each (λ (turn : ScriptCycle). turn.phase ≡ index) (replicate n r)
    run_each zero r e = tt
    run_each (suc n) r e = (e, run_each n r e)

-- ---- numbers

numbers_from-length : (script : Script) (history : List Entry) (k : ℕ) (ps : List ℕ) → length (numbers_from script history k ps) ≡ length ps
numbers_from-length script history k [] = refl
numbers_from-length script history k (p ∷ ps) = ap suc (numbers_from-length script history (k + 1) ps)

length-phases : (ts : List ScriptCycle) → length (map (λ (turn : ScriptCycle). turn.phase) ts) ≡ length ts
length-phases [] = refl
length-phases (t ∷ ts) = ap suc (length-phases ts)

none-number : (n : ℕ) → None ≡ Some n → ⊥
none-number n e = cc

some-number : (a b : ℕ) → Some a ≡ Some b → a ≡ b
some-number a b e = cc

-- the number at a place is that of the turn there
number_at : (script : Script) (history : List Entry) (ts : List ScriptCycle) (start k number : ℕ) → slice_get (numbers_from script history start (map (λ (turn : ScriptCycle). turn.phase) ts)) k ≡ Some number
    → (turn : ScriptCycle) × (slice_get ts k ≡ Some turn) × (number ≡ serial_number script history turn.phase (start + k))
number_at script history [] start k number h = absurd (none-number number h)
number_at script history (t ∷ ts) start zero number h =
    let e : start ≡ start + 0 = omega arith in
    (t, refl, sym (some-number (serial_number script history t.phase start) number h) ∙ ap (serial_number script history t.phase) e)
number_at script history (t ∷ ts) start (suc k) number h =
    let w = number_at script history ts (start + 1) k number h in
    let e : start + 1 + k ≡ start + suc k = omega arith in
    (w.0, w.1, w.2 ∙ ap (serial_number script history w.0.phase) e)

is_before-later : (script : Script) (p q k l : ℕ) (call : Call) → p ≤ q → k ≤ l → is_before script p k call ≡ true → is_before script q l call ≡ true
is_before-later script p q k l call h m e = go (plan_of script call) e
  where
    go : (o : Option Planned) → option_map_or (λ (plan : Planned). nat_le plan.stage (2 * p + 1) && nat_le (plan.asked + 1) k) o false ≡ true
        → option_map_or (λ (plan : Planned). nat_le plan.stage (2 * q + 1) && nat_le (plan.asked + 1) l) o false ≡ true
    go None f = f
    go (Some plan) f = both (nat_le plan.stage (2 * p + 1)) (nat_le (plan.asked + 1) k) refl refl f
      where
        both : (a b : Bool) → nat_le plan.stage (2 * p + 1) ≡ a → nat_le (plan.asked + 1) k ≡ b → (a && b) ≡ true → (nat_le plan.stage (2 * q + 1) && nat_le (plan.asked + 1) l) ≡ true
        both true true ea eb g = grind (arith, nat_tests)
        both false b ea eb g = absurd (true≢false (sym g))
        both true false ea eb g = absurd (true≢false (sym g))

serial_number-later : (script : Script) (history : List Entry) (p q k l : ℕ) → p ≤ q → k ≤ l → serial_number script history p k ≤ serial_number script history q l
serial_number-later script history p q k l h m =
    length-kept change_of (λ (entry : Entry). is_before script p k entry.call) (λ (entry : Entry). is_before script q l entry.call) history
    (Each-all (λ (entry : Entry). is_before script p k entry.call ≡ true → is_before script q l entry.call ≡ true) (λ entry. is_before-later script p q k l entry.call h m) history)

numbers_ordered : (script : Script) (history : List Entry) (k : ℕ) (ps : List ℕ) → Ordered (λ a b. a ≤ b) ps → Ordered (λ a b. a ≤ b) (numbers_from script history k ps)
numbers_ordered script history k [] o = tt
numbers_ordered script history k (p ∷ ps) o = (later p ps (k + 1) (omega arith) o.0, numbers_ordered script history (k + 1) ps o.1)
  where
    later : (q : ℕ) (qs : List ℕ) (l : ℕ) → k ≤ l → Each (λ r. q ≤ r) qs → Each (λ n. serial_number script history q k ≤ n) (numbers_from script history l qs)
    later q [] l h e = tt
    later q (r ∷ qs) l h e = (serial_number-later script history q r k l e.0 h, later q qs (l + 1) (omega (arith, h)) e.1)

-- ---- the bounds

map-drop : {X Y : Type 0} (f : X → Y) (i : ℕ) (xs : List X) → map f (drop i xs) ≡ drop i (map f xs)
map-drop f zero xs = refl
map-drop f (suc i) [] = refl
map-drop f (suc i) (x ∷ xs) = map-drop f i xs

filter-true : {X : Type 0} (xs : List X) → filter (λ x. true) xs ≡ xs
filter-true [] = refl
filter-true (x ∷ xs) = ap (λ ys. x ∷ ys) (filter-true xs)

get_or-some : (xs : List ℕ) (k n : ℕ) → slice_get xs k ≡ Some n → get_or xs k 0 ≡ n
get_or-some [] k n h = absurd (none-number n h)
get_or-some (x ∷ xs) zero n h = some-number x n h
get_or-some (x ∷ xs) (suc k) n h = get_or-some xs k n h

get_or-none : (xs : List ℕ) (k : ℕ) → slice_get xs k ≡ None → get_or xs k 0 ≡ 0
get_or-none [] k h = refl
get_or-none (x ∷ xs) zero h = absurd (none-number x (sym h))
get_or-none (x ∷ xs) (suc k) h = get_or-none xs k h

module _ (script : Script) (keeps : Each KeepsLanes (phases script)) where
  -- a call that the script plans so
  abbrev Known : Call → Type 0
  Known call = (plan : Planned) × Contains (planned script) plan × (plan_of script call ≡ Some plan)

  known : Each (λ (entry : Entry). Known entry.call) (serial_history script)
  known =
      Each-unmap Known (λ (entry : Entry). entry.call) (serial_history script)
      (subst (Each Known) (sym (calls_of_serial script keeps))
      (Each-map Known (λ (plan : Planned). plan.call) (serial_calls script)
      (Each-from_contains (λ (plan : Planned). Known plan.call) (serial_calls script)
      (λ plan c. (plan, planned_from_serial script keeps plan c, plan_of-planned script plan (planned_from_serial script keeps plan c))))))

  before_is : (p k : ℕ) (call : Call) (plan : Planned) → plan_of script call ≡ Some plan → is_before script p k call ≡ (nat_le plan.stage (2 * p + 1) && nat_le (plan.asked + 1) k)
  before_is p k call plan e = ap (λ (o : Option Planned). option_map_or (λ (other : Planned). nat_le other.stage (2 * p + 1) && nat_le (other.asked + 1) k) o false) e

  stage_is : (call : Call) (plan : Planned) → plan_of script call ≡ Some plan → stage_of script call ≡ plan.stage
  stage_is call plan e = ap (λ (o : Option Planned). option_map_or (λ (other : Planned). other.stage) o 0) e

  asked_bound : (plan : Planned) → Contains (planned script) plan → (p : ℕ) → plan.stage < 2 * p + 1 → plan.asked ≤ cycles_before (phases script) p
  asked_bound plan c p h =
      let f : (q : ℕ) → plan.stage < 2 * (0 + q) + 1 → plan.asked ≤ 0 + cycles_before (phases script) q =
      Each-contains (λ (other : Planned). (q : ℕ) → other.stage < 2 * (0 + q) + 1 → other.asked ≤ 0 + cycles_before (phases script) q) (planned script) plan
      (Each-counted (AsksBefore 0 0 (phases script)) [] (uncounted 0 0 (phases script)) (asked_before (phases script) 0 0 keeps)) c in
      omega (arith, f p (omega (arith, h)))

  bounds : (k number : ℕ) (turn : ScriptCycle) → slice_get (serial_numbers script) k ≡ Some number → slice_get (turns script) k ≡ Some turn → IsWithinPhase script (serial_history script) turn number
  bounds k number turn h t =
      let w = number_at script (serial_history script) (turns script) 1 k number h in
      let same : w.0 ≡ turn = some-turn w.0 turn (sym w.1 ∙ t) in
      let is : number ≡ serial_number script (serial_history script) turn.phase (1 + k) = subst (λ (r : ScriptCycle). number ≡ serial_number script (serial_history script) r.phase (1 + k)) same w.2 in
      let b = turn_behind (phases script) 0 k turn t in
      let low : accepted_below script (serial_history script) (2 * turn.phase + 1) ≤ serial_number script (serial_history script) turn.phase (1 + k) =
      length-kept change_of (λ (entry : Entry). nat_lt (stage_of script entry.call) (2 * turn.phase + 1)) (λ (entry : Entry). is_before script turn.phase (1 + k) entry.call) (serial_history script)
      (Each-weaker (λ (entry : Entry). Known entry.call) (λ (entry : Entry). nat_lt (stage_of script entry.call) (2 * turn.phase + 1) ≡ true → is_before script turn.phase (1 + k) entry.call ≡ true)
      (λ entry known_here. lower entry.call known_here b.0 (omega (arith, b.1)) b.2) (serial_history script) known) in
      let high : serial_number script (serial_history script) turn.phase (1 + k) ≤ accepted_below script (serial_history script) (2 * turn.phase + 2) =
      length-kept change_of (λ (entry : Entry). is_before script turn.phase (1 + k) entry.call) (λ (entry : Entry). nat_lt (stage_of script entry.call) (2 * turn.phase + 2)) (serial_history script)
      (Each-weaker (λ (entry : Entry). Known entry.call) (λ (entry : Entry). is_before script turn.phase (1 + k) entry.call ≡ true → nat_lt (stage_of script entry.call) (2 * turn.phase + 2) ≡ true)
      (λ entry known_here. upper entry.call known_here) (serial_history script) known) in
      (omega (arith, low, is), omega (arith, high, is))
    where
      lower : (call : Call) → Known call → (p : ℕ) → turn.phase ≡ p → cycles_before (phases script) p ≤ k → nat_lt (stage_of script call) (2 * turn.phase + 1) ≡ true → is_before script turn.phase (1 + k) call ≡ true
      lower call known_here p same small e =
          let plan : Planned = known_here.0 in
          let s : stage_of script call ≡ plan.stage = stage_is call plan known_here.2 in
          let below : stage_of script call < 2 * turn.phase + 1 = grind (arith, nat_tests) in
          let a : plan.asked ≤ cycles_before (phases script) p = asked_bound plan known_here.1 p (omega (arith, s, below, same)) in
          let in_stage : plan.stage ≤ 2 * turn.phase + 1 = omega (arith, s, below) in
          let in_asked : plan.asked + 1 ≤ 1 + k = omega (arith, a, small) in
          before_is turn.phase (1 + k) call plan known_here.2 ∙ grind (arith, nat_tests)

      upper : (call : Call) → Known call → is_before script turn.phase (1 + k) call ≡ true → nat_lt (stage_of script call) (2 * turn.phase + 2) ≡ true
      upper call known_here e =
          let plan : Planned = known_here.0 in
          let s : stage_of script call ≡ plan.stage = stage_is call plan known_here.2 in
          let both : (nat_le plan.stage (2 * turn.phase + 1) && nat_le (plan.asked + 1) (1 + k)) ≡ true = sym (before_is turn.phase (1 + k) call plan known_here.2) ∙ e in
          let first : nat_le plan.stage (2 * turn.phase + 1) ≡ true = and_first (nat_le plan.stage (2 * turn.phase + 1)) (nat_le (plan.asked + 1) (1 + k)) both in
          let small : plan.stage ≤ 2 * turn.phase + 1 = grind (arith, nat_tests) in
          let stage_small : stage_of script call < 2 * turn.phase + 2 = omega (arith, s, small) in
          grind (arith, nat_tests)
        where
          and_first : (a b : Bool) → (a && b) ≡ true → a ≡ true
          and_first true b h = refl
          and_first false b h = absurd (true≢false (sym h))

  -- a call is not before a cycle that a call in front of it, or it itself, waited for
  not_before : (q y : Planned) (m : ℕ) (turn : ScriptCycle) → Contains (planned script) q → Contains (planned script) y → q.asked ≡ suc m → slice_get (turns script) m ≡ Some turn → (q ≡ y) ⊎ Before q y
      → is_before script turn.phase (1 + m) y.call ≡ false
  not_before q y m turn cq cy asks t order = before_is turn.phase (1 + m) y.call y (plan_of-planned script y cy) ∙ go order
    where
      b : IsBehind 0 (phases script) m turn
      b = turn_behind (phases script) 0 m turn t

      second : (c d : Bool) → d ≡ false → (c && d) ≡ false
      second true d e = e
      second false d e = refl

      first : (c d : Bool) → c ≡ false → (c && d) ≡ false
      first true d e = absurd (true≢false e)
      first false d e = refl

      go : (q ≡ y) ⊎ Before q y → (nat_le y.stage (2 * turn.phase + 1) && nat_le (y.asked + 1) (1 + m)) ≡ false
      go (inl e) =
          let same : q.asked ≡ y.asked = ap (λ (p : Planned). p.asked) e in
          let past : 1 + m < y.asked + 1 = omega (arith, same, asks) in
          second (nat_le y.stage (2 * turn.phase + 1)) (nat_le (y.asked + 1) (1 + m)) (grind (arith, nat_tests))
      go (inr (inr h)) =
          let past : 1 + m < y.asked + 1 = omega (arith, h.1, asks) in
          second (nat_le y.stage (2 * turn.phase + 1)) (nat_le (y.asked + 1) (1 + m)) (grind (arith, nat_tests))
      go (inr (inl h)) = first (nat_le y.stage (2 * turn.phase + 1)) (nat_le (y.asked + 1) (1 + m)) (cases (nat_le y.stage (2 * turn.phase + 1)) refl)
        where
          cases : (c : Bool) → nat_le y.stage (2 * turn.phase + 1) ≡ c → c ≡ false
          cases false e = refl
          cases true e =
              let small : y.stage ≤ 2 * turn.phase + 1 = grind (arith, nat_tests) in
              absurd (omega (arith, asked_bound q cq b.0 (omega (arith, h, small, b.1)), b.2, asks))

  asked : KeepsAsked script (serial_history script) (serial_numbers script)
  asked i entry plan here found one = go plan.asked refl one
    where
      at : (p : Planned) × (slice_get (serial_calls script) i ≡ Some p) × (p.call ≡ entry.call)
      at = plan_at script keeps i entry here

      planned_each : Each (λ (p : Planned). Contains (planned script) p) (serial_calls script)
      planned_each = Each-from_contains (λ (p : Planned). Contains (planned script) p) (serial_calls script) (λ p c. planned_from_serial script keeps p c)

      q_there : Contains (planned script) at.0
      q_there = Each-at (λ (p : Planned). Contains (planned script) p) (serial_calls script) i at.0 planned_each at.1

      some-plan : (a b : Planned) → Some a ≡ Some b → a ≡ b
      some-plan a b e = cc

      is : plan ≡ at.0
      is = some-plan plan at.0 (sym found ∙ ap (plan_of script) (sym at.2) ∙ plan_of-planned script at.0 q_there)

      few : (p k : ℕ) → Each (λ (e : Entry). is_before script p k e.call ≡ false) (drop i (serial_history script)) → serial_number script (serial_history script) p k ≤ length (accepted (take i (serial_history script)))
      few p k none =
          let test : Entry → Bool = λ (e : Entry). is_before script p k e.call in
          let front : List Entry = take i (serial_history script) in
          let e : filter test (serial_history script) ≡ filter test front ++ [] =
          ap (filter test) (sym (take-append-drop i (serial_history script))) ∙ filter-append test front (drop i (serial_history script)) ∙ ap (λ es. filter test front ++ es) (filter-none test (drop i (serial_history script)) none) in
          let f : accepted (filter test (serial_history script)) ≡ accepted (filter test front) ++ [] = ap accepted e ∙ filter_map-append change_of (filter test front) [] in
          let g : length (accepted (filter test (serial_history script))) ≡ length (accepted (filter test front)) = ap length f ∙ length-append (accepted (filter test front)) [] ∙ plus_none (length (accepted (filter test front))) in
          let h : length (accepted (filter test front)) ≤ length (accepted (filter (λ (e : Entry). true) front)) =
          length-kept change_of test (λ (e : Entry). true) front (Each-all (λ (e : Entry). test e ≡ true → true ≡ true) (λ e t. refl) front) in
          let j : length (accepted (filter (λ (e : Entry). true) front)) ≡ length (accepted front) = ap (λ es. length (accepted es)) (filter-true front) in
          omega (arith, g, h, j)
        where
          plus_none : (n : ℕ) → n + 0 ≡ n
          plus_none n = omega arith

      behind : (m : ℕ) (turn : ScriptCycle) → plan.asked ≡ suc m → slice_get (turns script) m ≡ Some turn → Each (λ (e : Entry). is_before script turn.phase (1 + m) e.call ≡ false) (drop i (serial_history script))
      behind m turn asks t =
          let P : Call → Type 0 = λ (call : Call). is_before script turn.phase (1 + m) call ≡ false in
          let calls : map (λ (p : Planned). p.call) (drop i (serial_calls script)) ≡ map (λ (e : Entry). e.call) (drop i (serial_history script)) =
          map-drop (λ (p : Planned). p.call) i (serial_calls script) ∙ ap (drop i) (sym (calls_of_serial script keeps)) ∙ sym (map-drop (λ (e : Entry). e.call) i (serial_history script)) in
          let later : Each (λ (y : Planned). (at.0 ≡ y) ⊎ Before at.0 y) (drop i (serial_calls script)) = later_each Before (serial_calls script) i at.0 (serial_calls_ordered script).0 at.1 in
          let there : Each (λ (y : Planned). Contains (planned script) y) (drop i (serial_calls script)) = Each-drop (λ (y : Planned). Contains (planned script) y) i (serial_calls script) planned_each in
          let asks_q : (at.0).asked ≡ suc m = sym (ap (λ (p : Planned). p.asked) is) ∙ asks in
          Each-unmap P (λ (e : Entry). e.call) (drop i (serial_history script))
          (subst (Each P) calls
          (Each-map P (λ (p : Planned). p.call) (drop i (serial_calls script))
          (Each-both (λ (y : Planned). Contains (planned script) y) (λ (y : Planned). (at.0 ≡ y) ⊎ Before at.0 y) (λ (y : Planned). P y.call)
          (λ y c o. not_before at.0 y m turn q_there c asks_q t o) (drop i (serial_calls script)) there later)))

      go : (n : ℕ) → plan.asked ≡ n → 1 ≤ plan.asked → slice_index (0 ∷ serial_numbers script) plan.asked ≤ length (accepted (take i (serial_history script)))
      go zero e o = absurd (omega (arith, e, o))
      go (suc m) e o = subst (λ n. slice_index (0 ∷ serial_numbers script) n ≤ length (accepted (take i (serial_history script)))) (sym e) (by_number (slice_get (serial_numbers script) m) refl)
        where
          by_number : (o : Option ℕ) → slice_get (serial_numbers script) m ≡ o → get_or (serial_numbers script) m 0 ≤ length (accepted (take i (serial_history script)))
          by_number None h = omega (arith, get_or-none (serial_numbers script) m h)
          by_number (Some number) h =
              let w = number_at script (serial_history script) (turns script) 1 m number h in
              omega (arith, get_or-some (serial_numbers script) m number h, w.2, few (w.0).phase (1 + m) (behind m w.0 e w.1))

  pub Cycles-serial : Cycles script (serial script).history (serial script).numbers
  Cycles-serial = record {
    each = numbers_from-length script (serial_history script) 1 (map (λ (turn : ScriptCycle). turn.phase) (turns script)) ∙ length-phases (turns script);
    rising = IsNonDecreasing-ordered (serial_numbers script)
        (numbers_ordered script (serial_history script) 1 (map (λ (turn : ScriptCycle). turn.phase) (turns script))
        (Ordered-map (λ a b. a ≤ b) (λ (turn : ScriptCycle). turn.phase) (turns script) (turns_each (phases script) 0).0));
    bounds = bounds;
    asked = asked;
  }
