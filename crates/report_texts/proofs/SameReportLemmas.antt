-- For one script, equal report texts come only from equal histories, numbers, overruns and underruns.
--     Printed-same      of what is lawful for the script
--     Explained-same      of what explains written files
use Rattle.std.proofs.Common.{◌≡◌, ℕ, zero, suc, ◌+◌, ◌-◌, ◌*◌, ◌^◌, ◌<◌, ◌≤◌, ◌≢◌, Bool, true, false, cond, not, ◌&&◌, ◌==◌, nat_lt, List, [], ◌∷◌, ◌++◌, length, map, filter, filter_map, take, get_or, slice_get, count_by, replicate, position, All, Contains, Option, Some, None, ℤ, refl, sym, ◌∙◌, ap, ap₂, subst, arith, true≢false, eq-eqb, length-append, take_all}
use lib.Seq.{ext_get_or}
use Rattle.std.specs.List.{cons_option, position_or_len}
use Rattle.std.proofs.lemmas.Bool.Decides.{nat_tests}
use Rattle.std.proofs.lemmas.List.Sums.{sum_by-cons, count_by-le-length}
use Rattle.jack_types.specs.Names.{IsClientName, is_name_byte}
use Rattle.jack_types.specs.declared.commands.Call.{Call}
use Rattle.jack_types.specs.declared.commands.Change.{Change}
use Rattle.jack_types.specs.declared.commands.Command.{Command}
use Rattle.jack_types.specs.declared.commands.Command.TheVariants.{Open}
use Rattle.jack_types.specs.declared.events.Logged.{Logged}
use Rattle.jack_types.specs.declared.kinds.Kind.TheVariants.{Meter, Midilog}
use Rattle.jack_types.specs.declared.replies.Entry.{Entry}
use Rattle.jack_types.specs.declared.replies.Overrun.{Overrun}
use Rattle.jack_types.specs.declared.replies.Reply.{Reply}
use Rattle.jack_types.specs.declared.replies.Reply.TheVariants.{Accepted, Refused, Latency}
use Rattle.jack_types.specs.declared.scripts.Body.{Body}
use Rattle.jack_types.specs.declared.scripts.Body.TheVariants.{Do, Run, Freewheel, Lane, Period}
use Rattle.jack_types.specs.declared.scripts.Header.{Header}
use Rattle.session_laws.specs.session_model.specs.Courses.{Course, DiskFile, number, underruns_of, played_before, is_disk_active, is_underrun}
use Rattle.session_laws.specs.session_model.specs.Disks.{Played, IsMissed}
use Rattle.session_laws.specs.session_model.specs.Explanations.{Given, Printed, Written, Explained, course_of, overruns_of}
use Rattle.session_laws.specs.session_model.specs.Grammar.{IsScript, IsCommand, is_call, all_cycles}
use Rattle.session_laws.specs.session_model.specs.Histories.{Legal, Cycles, KeepsReplies, accepted, accepted_below, calls_of, change_of, plan_of, stage_of, state_after}
use Rattle.session_laws.specs.session_model.specs.Kinds.{Sound}
use Rattle.session_laws.specs.session_model.specs.Recorders.{Lost, IsOverrun, kept_before, is_taping, is_lost}
use Rattle.session_laws.specs.session_model.specs.Replies.{reply}
use Rattle.session_laws.specs.session_model.specs.Reports.{PrintedCycle, PrintedMeter, PrintedEvent, PrintedRecorder, PrintedDisk, Report, report_of, report_text, printed_call, printed_cycle, printed_recorder, printed_disk, meters_by, events_by, last_log}
use Rattle.session_laws.specs.session_model.specs.Samples.{below}
use Rattle.session_laws.specs.session_model.specs.Scripts.{Script, Phase, LaneCall, Planned, Uncounted, ScriptCycle, phases, phases_of, lane_calls, with_do, planned, planned_of, turns, turns_from, uncounted, counted}
use Rattle.session_laws.proofs.ActivationLemmas.{get_or-map_below, length-map_below, length-below}
use Rattle.session_laws.proofs.ListLemmas.{Each, Each-weaker, Each-both, Each-append, Each-map, Each-flat_map, Each-below, Each-contains, Each-from_contains, Contains-kept, Contains-filtered, Contains-map}
use Rattle.report_texts.proofs.ReportLemmas.{IsReadable, IsSmallCall, IsSmallOverrun, IsSmallUnderrun, SaysSame, Report-same, place_of_call}
use Rattle.session_laws.proofs.SerialLemmas.{plan_of-planned}
use Rattle.session_laws.proofs.SerialCallsLemmas.{Each-counted}
use Rattle.session_laws.proofs.SerialLawfulLemmas.{AreBodies, AreBodies-rest}
use Rattle.session_laws.proofs.TextLemmas.{Lacks}

module _ {X : Type 0} where
  none-some : (x : X) → None ≡ Some x → ⊥
  none-some x e = cc

  some-same : (x y : X) → Some x ≡ Some y → x ≡ y
  some-same x y e = cc

  cons-first : (x y : X) (xs ys : List X) → x ∷ xs ≡ y ∷ ys → x ≡ y
  cons-first x y xs ys e = cc

  cons-rest : (x y : X) (xs ys : List X) → x ∷ xs ≡ y ∷ ys → xs ≡ ys
  cons-rest x y xs ys e = cc

  nil-cons : (x : X) (xs : List X) → [] ≡ x ∷ xs → ⊥
  nil-cons x xs e = cc

  Each-from_all : (P : X → Type 0) (xs : List X) → All P xs → Each P xs
  Each-from_all P [] h = tt
  Each-from_all P (x ∷ xs) h = (h 0 x (omega arith), Each-from_all P xs (λ k d b. h (suc k) d (omega (arith, b))))

  Contains-take : (n : ℕ) (xs : List X) (x : X) → Contains (take n xs) x → Contains xs x
  Contains-take n xs x c = Each-contains (λ y. Contains xs y) (take n xs) x (each (λ y. Contains xs y) n xs (Each-from_contains (λ y. Contains xs y) xs (λ y d. d))) c
    where
      each : (P : X → Type 0) (m : ℕ) (ys : List X) → Each P ys → Each P (take m ys)
      each P zero ys h = tt
      each P (suc m) [] h = tt
      each P (suc m) (y ∷ ys) h = (h.0, each P m ys h.1)

pub Contains-unmap : {X Y : Type 0} (f : X → Y) (xs : List X) (y : Y) → Contains (map f xs) y → (x : X) × Contains xs x × (f x ≡ y)
Contains-unmap {X = X} {Y = Y} f xs y c = Each-contains (λ z. (x : X) × Contains xs x × (f x ≡ z)) (map f xs) y (Each-map (λ z. (x : X) × Contains xs x × (f x ≡ z)) f xs (Each-from_contains (λ x. (w : X) × Contains xs w × (f w ≡ f x)) xs (λ x d. (x, d, refl)))) c

-- ---- histories of the same calls

-- a call that the script plans
abbrev pub IsPlanned : Script → Call → Type 0
IsPlanned script call = (plan : Planned) × Contains (planned script) plan × (plan.call ≡ call)

pub legal-planned : (script : Script) (history : List Entry) → Legal script history → Each (λ (entry : Entry). IsPlanned script entry.call) history
legal-planned script history legal =
    Each-from_contains (λ (entry : Entry). IsPlanned script entry.call) history
    (λ entry c.
    let small : entry.call.lane ≤ 4 = Each-contains (λ (e : Entry). e.call.lane ≤ 4) history entry (Each-from_all (λ (e : Entry). e.call.lane ≤ 4) history legal.so_far.lanes) c in
    let keeps = legal.so_far.lane_order entry.call.lane small in
    let there : Contains (filter (λ (call : Call). call.lane == entry.call.lane) (calls_of history)) entry.call =
    Contains-kept (λ (call : Call). call.lane == entry.call.lane) (calls_of history) entry.call (eq-eqb entry.call.lane entry.call.lane refl) (Contains-map (λ (e : Entry). e.call) history entry c) in
    let of_plan : Contains (map (λ (plan : Planned). plan.call) (planned_of script entry.call.lane)) entry.call =
    Contains-take keeps.0 (map (λ (plan : Planned). plan.call) (planned_of script entry.call.lane)) entry.call (subst (λ cs. Contains cs entry.call) keeps.1 there) in
    let w = Contains-unmap (λ (plan : Planned). plan.call) (planned_of script entry.call.lane) entry.call of_plan in
    (w.0, Contains-filtered (λ (plan : Planned). plan.call.lane == entry.call.lane) (planned script) w.0 w.1, w.2))

abbrev place_of_entry : Entry → ℕ × ℕ
place_of_entry entry = (entry.call.lane, entry.call.index)

-- a planned call is told by its lane and index
planned-same : (script : Script) (a b : Call) → IsPlanned script a → IsPlanned script b → a.lane ≡ b.lane → a.index ≡ b.index → a ≡ b
planned-same script a b p q lanes indices =
    let first : plan_of script a ≡ Some p.0 = ap (plan_of script) (sym p.2) ∙ plan_of-planned script p.0 p.1 in
    let second : plan_of script b ≡ Some q.0 = ap (plan_of script) (sym q.2) ∙ plan_of-planned script q.0 q.1 in
    let moved : plan_of script a ≡ plan_of script b = ap (plan_of script) (λ i. record { lane = lanes i; index = indices i; command = a.command }) in
    let same : p.0 ≡ q.0 = some-same p.0 q.0 (sym first ∙ moved ∙ second) in
    sym p.2 ∙ ap (λ (plan : Planned). plan.call) same ∙ q.2

calls-same : (script : Script) (a b : List Entry) → Each (λ (entry : Entry). IsPlanned script entry.call) a → Each (λ (entry : Entry). IsPlanned script entry.call) b → map place_of_entry a ≡ map place_of_entry b → calls_of a ≡ calls_of b
calls-same script [] [] p q e = refl
calls-same script [] (y ∷ b) p q e = absurd (nil-cons (place_of_entry y) (map place_of_entry b) e)
calls-same script (x ∷ a) [] p q e = absurd (nil-cons (place_of_entry x) (map place_of_entry a) (sym e))
calls-same script (x ∷ a) (y ∷ b) p q e =
    let first : place_of_entry x ≡ place_of_entry y = cons-first (place_of_entry x) (place_of_entry y) (map place_of_entry a) (map place_of_entry b) e in
    let rest : map place_of_entry a ≡ map place_of_entry b = cons-rest (place_of_entry x) (place_of_entry y) (map place_of_entry a) (map place_of_entry b) e in
    ap₂ (λ c cs. c ∷ cs) (planned-same script x.call y.call p.0 q.0 (ap (λ (r : ℕ × ℕ). r.0) first) (ap (λ (r : ℕ × ℕ). r.1) first)) (calls-same script a b p.1 q.1 rest)

take-more : {X : Type 0} (xs : List X) (n : ℕ) (x : X) → slice_get xs n ≡ Some x → take (suc n) xs ≡ take n xs ++ x ∷ []
take-more [] n x h = absurd (none-some x h)
take-more (y ∷ xs) zero x h = ap (λ z. z ∷ []) (some-same y x h)
take-more (y ∷ xs) (suc n) x h = ap (λ zs. y ∷ zs) (take-more xs n x h)

take-no_more : {X : Type 0} (xs : List X) (n : ℕ) → slice_get xs n ≡ None → take (suc n) xs ≡ take n xs
take-no_more [] zero h = refl
take-no_more [] (suc n) h = refl
take-no_more (x ∷ xs) zero h = absurd (none-some x (sym h))
take-no_more (x ∷ xs) (suc n) h = ap (λ zs. x ∷ zs) (take-no_more xs n h)

-- with each reply that of the replay before it, the calls determine the history
replies-same : (script : Script) (a b : List Entry) → KeepsReplies script a → KeepsReplies script b → calls_of a ≡ calls_of b → (n : ℕ) → take n a ≡ take n b
replies-same script a b p q e zero = refl
replies-same script a b p q e (suc n) = go (slice_get a n) (slice_get b n) refl refl (replies-same script a b p q e n)
  where
    at : (es : List Entry) (k : ℕ) (entry : Entry) → slice_get es k ≡ Some entry → slice_get (calls_of es) k ≡ Some entry.call
    at [] k entry h = absurd (none-some entry h)
    at (x ∷ es) zero entry h = ap (λ (w : Entry). Some w.call) (some-same x entry h)
    at (x ∷ es) (suc k) entry h = at es k entry h

    past : (es : List Entry) (k : ℕ) → slice_get es k ≡ None → slice_get (calls_of es) k ≡ None
    past [] k h = refl
    past (x ∷ es) zero h = absurd (none-some x (sym h))
    past (x ∷ es) (suc k) h = past es k h

    go : (s t : Option Entry) → slice_get a n ≡ s → slice_get b n ≡ t → take n a ≡ take n b → take (suc n) a ≡ take (suc n) b
    go None None hs ht before = take-no_more a n hs ∙ before ∙ sym (take-no_more b n ht)
    go None (Some y) hs ht before = absurd (none-some y.call (sym (past a n hs) ∙ ap (λ cs. slice_get cs n) e ∙ at b n y ht))
    go (Some x) None hs ht before = absurd (none-some x.call (sym (past b n ht) ∙ ap (λ cs. slice_get cs n) (sym e) ∙ at a n x hs))
    go (Some x) (Some y) hs ht before =
        let call : x.call ≡ y.call = some-same x.call y.call (sym (at a n x hs) ∙ ap (λ cs. slice_get cs n) e ∙ at b n y ht) in
        let answer : x.reply ≡ y.reply =
        p n x hs
        ∙ ap₂ (λ (es : List Entry) (c : Call). reply (state_after script es) (length (accepted es) + 1) c.command) before call
        ∙ sym (q n y ht) in
        let entry : x ≡ y = (λ i. record { call = call i; reply = answer i }) in
        take-more a n x hs ∙ ap₂ (λ es z. es ++ z ∷ []) before entry ∙ sym (take-more b n y ht)

map-length : {X Y : Type 0} (f : X → Y) (xs : List X) → length (map f xs) ≡ length xs
map-length f [] = refl
map-length f (x ∷ xs) = ap suc (map-length f xs)

pub Legal-same : (script : Script) (a b : List Entry) → Legal script a → Legal script b → map place_of_entry a ≡ map place_of_entry b → a ≡ b
Legal-same script a b p q e =
    let calls : calls_of a ≡ calls_of b = calls-same script a b (legal-planned script a p) (legal-planned script b q) e in
    let long : length a ≡ length b = sym (map-length (λ (x : Entry). x.call) a) ∙ ap length calls ∙ map-length (λ (x : Entry). x.call) b in
    sym (take_all (length a) a (omega arith)) ∙ replies-same script a b p.so_far.replies q.so_far.replies calls (length a) ∙ take_all (length a) b (omega (arith, long))

-- ---- bounds of a script's plan

-- an index is at most the number of calls up to its own
counted_bound : (earlier us : List Uncounted) → Each (λ (plan : Planned). plan.call.index ≤ length earlier + length us) (counted earlier us)
counted_bound earlier [] = tt
counted_bound earlier (u ∷ us) = (
  omega (arith, count_by-le-length (λ (other : Uncounted). other.lane == u.lane) earlier),
  Each-weaker (λ (plan : Planned). plan.call.index ≤ length (earlier ++ u ∷ []) + length us) (λ (plan : Planned). plan.call.index ≤ length earlier + length (u ∷ us))
      (λ plan h. omega (arith, h, length-append earlier (u ∷ []))) (counted (earlier ++ u ∷ []) us) (counted_bound (earlier ++ u ∷ []) us),
)

counted-length : (earlier us : List Uncounted) → length (counted earlier us) ≡ length us
counted-length earlier [] = refl
counted-length earlier (u ∷ us) = ap suc (counted-length (earlier ++ u ∷ []) us)

-- all calls of these phases
abbrev calls_in : List Phase → ℕ
calls_in [] = 0
calls_in (phase ∷ phs) = length phase.dos + length phase.calls + calls_in phs

uncounted-length : (index base : ℕ) (phs : List Phase) → length (uncounted index base phs) ≡ calls_in phs
uncounted-length index base [] = refl
uncounted-length index base (phase ∷ phs) =
    let dos : List Uncounted = map (λ (command : Command). record { lane = 0; command = command; stage = 2 * index; asked = 0 }) phase.dos in
    let calls : List Uncounted = map (λ (call : LaneCall). record { lane = call.lane; command = call.command; stage = 2 * index + 1; asked = base + call.begun }) phase.calls in
    let a : length dos ≡ length phase.dos = map-length (λ (command : Command). record { lane = 0; command = command; stage = 2 * index; asked = 0 }) phase.dos in
    let b : length calls ≡ length phase.calls = map-length (λ (call : LaneCall). record { lane = call.lane; command = call.command; stage = 2 * index + 1; asked = base + call.begun }) phase.calls in
    let c : length (uncounted (index + 1) (base + phase.cycles) phs) ≡ calls_in phs = uncounted-length (index + 1) (base + phase.cycles) phs in
    let d : length (dos ++ calls ++ uncounted (index + 1) (base + phase.cycles) phs) ≡ length (dos ++ calls) + length (uncounted (index + 1) (base + phase.cycles) phs) = length-append (dos ++ calls) (uncounted (index + 1) (base + phase.cycles) phs) in
    let e : length (dos ++ calls) ≡ length dos + length calls = length-append dos calls in
    omega (arith, a, b, c, d, e)

is_one : (line : Body) (lines : List Body) → count_by is_call (line ∷ lines) ≡ cond (is_call line) 1 0 + count_by is_call lines
is_one line lines = sum_by-cons (λ body. cond (is_call body) 1 0) line lines

with_do-calls : (command : Command) (phs : List Phase) → calls_in (with_do command phs) ≤ 1 + calls_in phs
with_do-calls command [] = omega arith
with_do-calls command (phase ∷ phs) = omega arith

calls_in-phases : (period : ℕ) (lines : List Body) → calls_in (phases_of period lines) + length (lane_calls lines) ≤ count_by is_call lines
calls_in-phases period [] = omega arith
calls_in-phases period (Do command ∷ lines) = omega (arith, calls_in-phases period lines, with_do-calls command (phases_of period lines), is_one (Do command) lines)
calls_in-phases period (Run cycles ∷ lines) = omega (arith, calls_in-phases period lines, is_one (Run cycles) lines)
calls_in-phases period (Freewheel cycles ∷ lines) = omega (arith, calls_in-phases period lines, is_one (Freewheel cycles) lines)
calls_in-phases period (Lane lane begun command ∷ lines) = omega (arith, calls_in-phases period lines, is_one (Lane lane begun command) lines)
calls_in-phases period (Period next ∷ lines) = omega (arith, calls_in-phases next lines, is_one (Period next) lines)

pub planned-few : (script : Script) → IsScript script → length (planned script) ≤ 4096
planned-few script h =
    omega (arith, counted-length [] (uncounted 0 0 (phases script)), uncounted-length 0 0 (phases script), calls_in-phases script.header.period script.lines, h.few_calls)

turns-length : (index : ℕ) (phs : List Phase) → length (turns_from index phs) ≡ all_cycles phs
turns-length index [] = refl
turns-length index (phase ∷ phs) =
    let r : ScriptCycle = record { period = phase.period; is_freewheel = phase.is_freewheel; phase = index } in
    let a : length (replicate phase.cycles r ++ turns_from (index + 1) phs) ≡ length (replicate phase.cycles r) + length (turns_from (index + 1) phs) = length-append (replicate phase.cycles r) (turns_from (index + 1) phs) in
    let b : all_cycles (phase ∷ phs) ≡ phase.cycles + all_cycles phs = sum_by-cons (λ (p : Phase). p.cycles) phase phs in
    omega (arith, a, b, run phase.cycles r, turns-length (index + 1) phs)
  where
    run : (n : ℕ) (r : ScriptCycle) → length (replicate n r) ≡ n
    run zero r = refl
    run (suc n) r = ap suc (run n r)

pub turns-few : (script : Script) → IsScript script → length (turns script) ≤ 1000000
turns-few script h = omega (arith, turns-length 0 (phases script), h.few_cycles)

-- ---- names

-- the commands of a phase keep their ranges
abbrev CommandsKeep : Header → Phase → Type 0
CommandsKeep header phase = Each (IsCommand header) phase.dos × Each (λ (call : LaneCall). IsCommand header call.command) phase.calls

module _ (header : Header) where
  with_do-keep : (command : Command) (phs : List Phase) → IsCommand header command → Each (CommandsKeep header) phs → Each (CommandsKeep header) (with_do command phs)
  with_do-keep command [] c k = tt
  with_do-keep command (phase ∷ phs) c k = (((c, k.0.0), k.0.1), k.1)

  lane_calls-keep : (lines earlier : List Body) → AreBodies header earlier lines → Each (λ (call : LaneCall). IsCommand header call.command) (lane_calls lines)
  lane_calls-keep [] earlier h = tt
  lane_calls-keep (Do command ∷ lines) earlier h = tt
  lane_calls-keep (Run cycles ∷ lines) earlier h = tt
  lane_calls-keep (Freewheel cycles ∷ lines) earlier h = tt
  lane_calls-keep (Period next ∷ lines) earlier h = tt
  lane_calls-keep (Lane lane begun command ∷ lines) earlier h =
      ((h 0 (Lane lane begun command) refl).3, lane_calls-keep lines (earlier ++ Lane lane begun command ∷ []) (AreBodies-rest header earlier (Lane lane begun command) lines h))

  commands-keep : (lines earlier : List Body) (period : ℕ) → AreBodies header earlier lines → Each (CommandsKeep header) (phases_of period lines)
  commands-keep [] earlier period h = ((tt, tt), tt)
  commands-keep (Do command ∷ lines) earlier period h =
      with_do-keep command (phases_of period lines) (h 0 (Do command) refl) (commands-keep lines (earlier ++ Do command ∷ []) period (AreBodies-rest header earlier (Do command) lines h))
  commands-keep (Run cycles ∷ lines) earlier period h =
      let rest : AreBodies header (earlier ++ Run cycles ∷ []) lines = AreBodies-rest header earlier (Run cycles) lines h in
      ((tt, lane_calls-keep lines (earlier ++ Run cycles ∷ []) rest), commands-keep lines (earlier ++ Run cycles ∷ []) period rest)
  commands-keep (Freewheel cycles ∷ lines) earlier period h =
      let rest : AreBodies header (earlier ++ Freewheel cycles ∷ []) lines = AreBodies-rest header earlier (Freewheel cycles) lines h in
      ((tt, lane_calls-keep lines (earlier ++ Freewheel cycles ∷ []) rest), commands-keep lines (earlier ++ Freewheel cycles ∷ []) period rest)
  commands-keep (Lane lane begun command ∷ lines) earlier period h =
      commands-keep lines (earlier ++ Lane lane begun command ∷ []) period (AreBodies-rest header earlier (Lane lane begun command) lines h)
  commands-keep (Period next ∷ lines) earlier period h =
      commands-keep lines (earlier ++ Period next ∷ []) next (AreBodies-rest header earlier (Period next) lines h)

  uncounted-keep : (index base : ℕ) (phs : List Phase) → Each (CommandsKeep header) phs → Each (λ (u : Uncounted). IsCommand header u.command) (uncounted index base phs)
  uncounted-keep index base [] k = tt
  uncounted-keep index base (phase ∷ phs) k =
      let P : Uncounted → Type 0 = λ (u : Uncounted). IsCommand header u.command in
      let dos : List Uncounted = map (λ (command : Command). record { lane = 0; command = command; stage = 2 * index; asked = 0 }) phase.dos in
      let calls : List Uncounted = map (λ (call : LaneCall). record { lane = call.lane; command = call.command; stage = 2 * index + 1; asked = base + call.begun }) phase.calls in
      Each-append P (dos ++ calls) (uncounted (index + 1) (base + phase.cycles) phs)
      (Each-append P dos calls
      (Each-map P (λ (command : Command). record { lane = 0; command = command; stage = 2 * index; asked = 0 }) phase.dos k.0.0)
      (Each-map P (λ (call : LaneCall). record { lane = call.lane; command = call.command; stage = 2 * index + 1; asked = base + call.begun }) phase.calls k.0.1))
      (uncounted-keep (index + 1) (base + phase.cycles) phs k.1)

-- every planned command keeps its ranges
pub planned-keep : (script : Script) → IsScript script → Each (λ (plan : Planned). IsCommand script.header plan.call.command) (planned script)
planned-keep script h =
    Each-counted (λ (u : Uncounted). IsCommand script.header u.command) [] (uncounted 0 0 (phases script))
    (uncounted-keep script.header 0 0 (phases script) (commands-keep script.header script.lines [] script.header.period h.lines))

name-byte : (b : ℕ) → is_name_byte b ≡ true → b ≢ 10
name-byte b h e = true≢false (sym h ∙ ap is_name_byte e)

pub no-place : (p : ℕ → Bool) (bytes : List ℕ) → length bytes ≤ position_or_len (λ b. not (p b)) bytes → Each (λ b. p b ≡ true) bytes
no-place p [] h = tt
no-place p (b ∷ bytes) h = go (p b) refl (no-place p bytes)
  where
    go : (t : Bool) → p b ≡ t → (length bytes ≤ position_or_len (λ c. not (p c)) bytes → Each (λ c. p c ≡ true) bytes) → Each (λ c. p c ≡ true) (b ∷ bytes)
    go true e later = let k = rw e at h in (e, later (omega (arith, k)))
    go false e later = let k = rw e at h in absurd (omega (arith, k))

pub no-position : (p : ℕ → Bool) (bytes : List ℕ) → position (λ b. not (p b)) bytes ≡ None → Each (λ b. p b ≡ true) bytes
no-position p bytes h = go (nat_lt (position_or_len (λ b. not (p b)) bytes) (length bytes)) refl
  where
    go : (t : Bool) → nat_lt (position_or_len (λ b. not (p b)) bytes) (length bytes) ≡ t → Each (λ b. p b ≡ true) bytes
    go true e = absurd (none-some (position_or_len (λ b. not (p b)) bytes) (sym (rw e at h)))
    go false e = no-place p bytes (grind (arith, nat_tests))

pub name-lacks : (bytes : List ℕ) → IsClientName bytes → Lacks 10 bytes
name-lacks bytes h = go (length bytes == 0) (nat_lt 32 (length bytes)) (position (λ b. not (is_name_byte b)) bytes) refl refl refl
  where
    go : (s t : Bool) (o : Option ℕ) → (length bytes == 0) ≡ s → nat_lt 32 (length bytes) ≡ t → position (λ b. not (is_name_byte b)) bytes ≡ o → Lacks 10 bytes
    go true t o e f g = absurd (none-fault (rw e at h))
      where
        none-fault : {A : Type 0} {a : A} → Some a ≡ None → ⊥
        none-fault q = cc
    go false true o e f g = absurd (none-fault (rw (e, f) at h))
      where
        none-fault : {A : Type 0} {a : A} → Some a ≡ None → ⊥
        none-fault q = cc
    go false false (Some n) e f g = absurd (none-fault (rw (e, f, g) at h))
      where
        none-fault : {A : Type 0} {a : A} → Some a ≡ None → ⊥
        none-fault q = cc
    go false false None e f g = Each-weaker (λ b. is_name_byte b ≡ true) (λ b. b ≢ 10) name-byte bytes (no-position is_name_byte bytes g)

-- an opened client's name has no LF
abbrev NameLacks : Command → Type 0
NameLacks (Open client kind) = Lacks 10 client
NameLacks _ = Unit {0}

command-lacks : (header : Header) (command : Command) → IsCommand header command → NameLacks command
command-lacks header (Open client kind) h = name-lacks client h.0
command-lacks header _ h = tt

accepted-lack : (history : List Entry) → Each (λ (entry : Entry). NameLacks entry.call.command) history → Each (λ (change : Change). NameLacks change.command) (accepted history)
accepted-lack [] h = tt
accepted-lack (entry ∷ history) h = go entry.reply (accepted-lack history h.1)
  where
    go : (r : Reply) → Each (λ (change : Change). NameLacks change.command) (accepted history)
        → Each (λ (change : Change). NameLacks change.command) (cons_option (change_of (record { call = entry.call; reply = r })) (accepted history))
    go (Accepted number) k = (h.0, k)
    go (Refused refusal) k = k
    go (Latency range) k = k

meters-lack : (course : Course) (birth : ℕ) (command : Command) → NameLacks command → Each (λ (meter : PrintedMeter). Lacks 10 meter.client) (meters_by course birth command)
meters-lack course birth (Open client Meter) h = (h, tt)
meters-lack course birth _ h = tt

events-lack : (course : Course) (birth : ℕ) (command : Command) → NameLacks command → Each (λ (event : PrintedEvent). Lacks 10 event.client) (events_by course birth command)
events-lack course birth (Open client Midilog) h = each (last_log course birth)
  where
    each : (logs : List Logged) → Each (λ (event : PrintedEvent). Lacks 10 event.client) (map (λ logged. record { client = client; logged = logged }) logs)
    each [] = tt
    each (l ∷ logs) = (h, each logs)
events-lack course birth _ h = tt

-- ---- reports that are lawful for a script

-- the parts of `Explained` that the report rests on
pub record IsPrintedOf (given : Given) (printed : Printed) : Type 0 where
  pub legal : Legal given.script printed.history
  pub cycles : Cycles given.script printed.history printed.numbers
  pub overruns : length printed.overruns ≡ length given.script.header.recorders
  pub lost : (recorder : ℕ) → recorder < length given.script.header.recorders → Lost (course_of given printed) (overruns_of printed recorder) recorder
  pub underruns : length printed.underruns ≡ length given.script.header.disks
  pub played : (disk : ℕ) → disk < length given.script.header.disks → Played (course_of given printed) disk

slice_get-at : {X : Type 0} (xs : List X) (i : ℕ) (d : X) → i < length xs → slice_get xs i ≡ Some (get_or xs i d)
slice_get-at [] i d h = absurd (omega (arith, h))
slice_get-at (x ∷ xs) zero d h = refl
slice_get-at (x ∷ xs) (suc i) d h = slice_get-at xs i d (omega (arith, h))

pub filter-shorter : {X : Type 0} (p : X → Bool) (xs : List X) → length (filter p xs) ≤ length xs
filter-shorter p [] = omega arith
filter-shorter {X = X} p (x ∷ xs) = go (p x) (filter-shorter p xs)
  where
    go : (b : Bool) → length (filter p xs) ≤ length xs → length (cond b (x ∷ filter p xs) (filter p xs)) ≤ length (x ∷ xs)
    go true h = omega (arith, h)
    go false h = omega (arith, h)

pub filter_map-shorter : {X Y : Type 0} (f : X → Option Y) (xs : List X) → length (filter_map f xs) ≤ length xs
filter_map-shorter f [] = omega arith
filter_map-shorter {X = X} {Y = Y} f (x ∷ xs) = go (f x) (filter_map-shorter f xs)
  where
    go : (o : Option Y) → length (filter_map f xs) ≤ length xs → length (cons_option o (filter_map f xs)) ≤ length (x ∷ xs)
    go None h = omega (arith, h)
    go (Some y) h = omega (arith, h)

module _ (given : Given) (printed : Printed) (script_is : IsScript given.script) (lawful : IsPrintedOf given printed) where
  abbrev here : Course
  here = course_of given printed

  history-few : length printed.history ≤ 4096
  history-few = omega (arith, lawful.legal.every_call, planned-few given.script script_is)

  calls-small : Each IsSmallCall (map printed_call printed.history)
  calls-small =
      Each-map IsSmallCall printed_call printed.history
      (Each-both (λ (entry : Entry). entry.call.lane ≤ 4) (λ (entry : Entry). IsPlanned given.script entry.call) (λ (entry : Entry). IsSmallCall (printed_call entry))
      (λ entry small p.
      let bound : (p.0).call.index ≤ 0 + length (uncounted 0 0 (phases given.script)) =
      Each-contains (λ (plan : Planned). plan.call.index ≤ 0 + length (uncounted 0 0 (phases given.script))) (planned given.script) p.0 (counted_bound [] (uncounted 0 0 (phases given.script))) p.1 in
      let few : length (planned given.script) ≤ 4096 = planned-few given.script script_is in
      let same : (p.0).call.index ≡ entry.call.index = ap (λ (call : Call). call.index) p.2 in
      record { lane = omega (arith, small); index = omega (arith, bound, few, same, counted-length [] (uncounted 0 0 (phases given.script))) })
      printed.history (Each-from_all (λ (entry : Entry). entry.call.lane ≤ 4) printed.history lawful.legal.so_far.lanes) (legal-planned given.script printed.history lawful.legal))

  number-at : (i : ℕ) → number here (i + 1) ≡ get_or printed.numbers i 0
  number-at i = let e : i + 1 ≡ suc i = omega arith in ap (λ k. get_or (0 ∷ printed.numbers) k 0) e

  number-small : (i : ℕ) → i < length (turns given.script) → number here (i + 1) < 2 ^ 64
  number-small i h =
      let n : ℕ = get_or printed.numbers i 0 in
      let at : slice_get printed.numbers i ≡ Some n = slice_get-at printed.numbers i 0 (omega (arith, h, lawful.cycles.each)) in
      let none : ScriptCycle = record { period = 0; is_freewheel = false; phase = 0 } in
      let within = lawful.cycles.bounds i n (get_or (turns given.script) i none) at (slice_get-at (turns given.script) i none h) in
      let below_all : n ≤ length printed.history = below_history (2 * (get_or (turns given.script) i none).phase + 2) n within.1 in
      omega (arith, number-at i, below_all, history-few)
    where
      below_history : (stage n : ℕ) → n ≤ accepted_below given.script printed.history stage → n ≤ length printed.history
      below_history stage n h =
          omega (
            arith,
            h,
            filter_map-shorter change_of (filter (λ (entry : Entry). nat_lt (stage_of given.script entry.call) stage) printed.history),
            filter-shorter (λ (entry : Entry). nat_lt (stage_of given.script entry.call) stage) printed.history,
          )

  names : Each (λ (change : Change). NameLacks change.command) here.changes
  names =
      accepted-lack printed.history
      (Each-weaker (λ (entry : Entry). IsPlanned given.script entry.call) (λ (entry : Entry). NameLacks entry.call.command)
      (λ entry p.
      subst (λ (call : Call). NameLacks call.command) p.2
      (command-lacks given.script.header (p.0).call.command (Each-contains (λ (plan : Planned). IsCommand given.script.header plan.call.command) (planned given.script) p.0 (planned-keep given.script script_is) p.1)))
      printed.history (legal-planned given.script printed.history lawful.legal))

  kept-small : (losses : List Overrun) (recorder k : ℕ) → kept_before here losses recorder k ≤ k
  kept-small losses recorder k =
      omega (arith, count_by-le-length (λ j. is_taping here recorder (j + 1) && not (is_lost losses (j + 1))) (below (k - 1)), length-below (k - 1))

  played-small : (disk k : ℕ) → played_before here disk k ≤ k
  played-small disk k =
      omega (arith, count_by-le-length (λ j. is_disk_active here disk (j + 1) && not (is_underrun here disk (j + 1))) (below (k - 1)), length-below (k - 1))

  overruns-small : (recorder : ℕ) → recorder < length given.script.header.recorders → Each IsSmallOverrun (overruns_of printed recorder)
  overruns-small recorder h =
      Each-weaker (IsOverrun here (overruns_of printed recorder) recorder) IsSmallOverrun
      (λ overrun o.
      let few : length (turns given.script) ≤ 1000000 = turns-few given.script script_is in
      let kept : kept_before here (overruns_of printed recorder) recorder overrun.cycle ≤ overrun.cycle = kept-small (overruns_of printed recorder) recorder overrun.cycle in
      record {
        recorder = omega (arith, o.recorder_is, h, script_is.header.few_recorders);
        cycle = omega (arith, o.last, few);
        sent = omega (arith, o.last, few, o.sent, kept);
        taken = omega (arith, o.last, few, o.sent, kept, o.full);
      })
      (overruns_of printed recorder) (Each-from_all (IsOverrun here (overruns_of printed recorder) recorder) (overruns_of printed recorder) (lawful.lost recorder h).overruns)

  underruns-small : (disk : ℕ) → disk < length given.script.header.disks → Each IsSmallUnderrun (underruns_of here disk)
  underruns-small disk h =
      Each-weaker (IsMissed here disk) IsSmallUnderrun
      (λ underrun o.
      let few : length (turns given.script) ≤ 1000000 = turns-few given.script script_is in
      let kept : played_before here disk underrun.cycle ≤ underrun.cycle = played-small disk underrun.cycle in
      record {
        disk = omega (arith, o.disk_is, h, script_is.header.few_disks);
        cycle = omega (arith, o.last, few);
        sent = omega (arith, o.last, few, o.sent, kept);
        taken = omega (arith, o.last, few, o.taken, kept);
      })
      (underruns_of here disk) (Each-from_all (IsMissed here disk) (underruns_of here disk) (lawful.played disk h).missed)

  pub IsReadable-report_of : IsReadable (report_of here printed.history printed.overruns)
  IsReadable-report_of = record {
    calls = calls-small;
    cycles = Each-map (λ (cycle : PrintedCycle). cycle.number < 2 ^ 64) (λ i. printed_cycle here (i + 1)) (below (length (turns given.script))) (Each-below (λ i. number here (i + 1) < 2 ^ 64) (length (turns given.script)) number-small);
    meters = Each-flat_map (λ (meter : PrintedMeter). Lacks 10 meter.client) (λ (change : Change). meters_by here change.number change.command) here.changes
        (Each-weaker (λ (change : Change). NameLacks change.command) (λ (change : Change). Each (λ (meter : PrintedMeter). Lacks 10 meter.client) (meters_by here change.number change.command))
        (λ change h. meters-lack here change.number change.command h) here.changes names);
    events = Each-flat_map (λ (event : PrintedEvent). Lacks 10 event.client) (λ (change : Change). events_by here change.number change.command) here.changes
        (Each-weaker (λ (change : Change). NameLacks change.command) (λ (change : Change). Each (λ (event : PrintedEvent). Lacks 10 event.client) (events_by here change.number change.command))
        (λ change h. events-lack here change.number change.command h) here.changes names);
    overruns = Each-map (λ (recorder : PrintedRecorder). Each IsSmallOverrun recorder.overruns) (printed_recorder here printed.overruns) (below (length given.script.header.recorders))
        (Each-below (λ recorder. Each IsSmallOverrun (overruns_of printed recorder)) (length given.script.header.recorders) overruns-small);
    underruns = Each-map (λ (disk : PrintedDisk). Each IsSmallUnderrun disk.underruns) (printed_disk here) (below (length given.script.header.disks))
        (Each-below (λ disk. Each IsSmallUnderrun (underruns_of here disk)) (length given.script.header.disks) underruns-small);
  }

pub map-map : {X Y Z : Type 0} (f : Y → Z) (g : X → Y) (xs : List X) → map f (map g xs) ≡ map (λ x. f (g x)) xs
map-map f g [] = refl
map-map f g (x ∷ xs) = ap (λ zs. f (g x) ∷ zs) (map-map f g xs)

-- a list is the list of what it has at its places
pub places-same : {X : Type 0} (f : ℕ → X) (xs : List X) (n : ℕ) (d : X) → length xs ≡ n → ((i : ℕ) → f i ≡ get_or xs i d) → map f (below n) ≡ xs
places-same f xs n d long h =
    ext_get_or d (map f (below n)) xs (length-map_below f n ∙ sym long)
    (λ i b. get_or-map_below f n i d (omega (arith, b, length-map_below f n)) ∙ h i)

abbrev pub given_by : Script → List ℤ → List DiskFile → List Sound → Given
given_by script capture disks scores = record { script = script; capture = capture; disks = disks; scores = scores }

pub Printed-same : (script : Script) → IsScript script → (capture capture' : List ℤ) (disks disks' : List DiskFile) (scores scores' : List Sound) (a b : Printed)
    → IsPrintedOf (given_by script capture disks scores) a → IsPrintedOf (given_by script capture' disks' scores') b
    → report_text (course_of (given_by script capture disks scores) a) a.history a.overruns ≡ report_text (course_of (given_by script capture' disks' scores') b) b.history b.overruns
    → a ≡ b
Printed-same script is capture capture' disks disks' scores scores' a b p q e =
    let given : Given = given_by script capture disks scores in
    let given' : Given = given_by script capture' disks' scores' in
    let one : Report = report_of (course_of given a) a.history a.overruns in
    let two : Report = report_of (course_of given' b) b.history b.overruns in
    let says : SaysSame one two = Report-same one two (IsReadable-report_of given a is p) (IsReadable-report_of given' b is q) e in
    let n : ℕ = length (turns script) in
    let m : ℕ = length script.header.recorders in
    let d : ℕ = length script.header.disks in
    let histories : a.history ≡ b.history =
    Legal-same script a.history b.history p.legal q.legal (sym (map-map place_of_call printed_call a.history) ∙ says.calls ∙ map-map place_of_call printed_call b.history) in
    let numbers : a.numbers ≡ b.numbers =
    sym (places-same (λ i. number (course_of given a) (i + 1)) a.numbers n 0 p.cycles.each (number-at given a is p))
    ∙ sym (map-map (λ (cycle : PrintedCycle). cycle.number) (λ i. printed_cycle (course_of given a) (i + 1)) (below n)) ∙ says.numbers ∙ map-map (λ (cycle : PrintedCycle). cycle.number) (λ i. printed_cycle (course_of given' b) (i + 1)) (below n)
    ∙ places-same (λ i. number (course_of given' b) (i + 1)) b.numbers n 0 q.cycles.each (number-at given' b is q) in
    let overruns : a.overruns ≡ b.overruns =
    sym (places-same (overruns_of a) a.overruns m [] p.overruns (λ i. refl))
    ∙ sym (map-map (λ (recorder : PrintedRecorder). recorder.overruns) (printed_recorder (course_of given a) a.overruns) (below m)) ∙ says.overruns ∙ map-map (λ (recorder : PrintedRecorder). recorder.overruns) (printed_recorder (course_of given' b) b.overruns) (below m)
    ∙ places-same (overruns_of b) b.overruns m [] q.overruns (λ i. refl) in
    let underruns : a.underruns ≡ b.underruns =
    sym (places-same (underruns_of (course_of given a)) a.underruns d [] p.underruns (λ i. refl))
    ∙ sym (map-map (λ (disk : PrintedDisk). disk.underruns) (printed_disk (course_of given a)) (below d)) ∙ says.underruns ∙ map-map (λ (disk : PrintedDisk). disk.underruns) (printed_disk (course_of given' b)) (below d)
    ∙ places-same (underruns_of (course_of given' b)) b.underruns d [] q.underruns (λ i. refl) in
    (λ i. record { history = histories i; numbers = numbers i; overruns = overruns i; underruns = underruns i })

pub IsPrintedOf-explained : (given : Given) (printed : Printed) (written : Written) → Explained given printed written → IsPrintedOf given printed
IsPrintedOf-explained given printed written e = record {
  legal = e.legal;
  cycles = e.cycles;
  overruns = e.overruns;
  lost = λ recorder h. (e.recorders recorder h).lost;
  underruns = e.underruns;
  played = e.disks;
}

-- one report is explained by one history, with one list of numbers, overruns and underruns
pub Explained-same : (given : Given) → IsScript given.script → (a b : Printed) (one two : Written) → Explained given a one → Explained given b two → one.report ≡ two.report → a ≡ b
Explained-same given is a b one two p q e =
    Printed-same given.script is given.capture given.capture given.disks given.disks given.scores given.scores a b
    (IsPrintedOf-explained given a one p) (IsPrintedOf-explained given b two q) (sym p.report ∙ e ∙ q.report)
