-- A report has one front, one first line that is wrong, or one row that is.
--     front-one      two fronts up to a cycle are one
--     broken-one, broken-front      one line is the first wrong one, and then there is no front
--     row-one, row-used      one call, or the cycle, is wrong, and then no graph was used
--     front-within      a front leads to a cycle that the script has
use Rattle.std.proofs.Common.{◌≡◌, ℕ, zero, suc, ◌+◌, ◌-◌, ◌<◌, ◌≤◌, Bool, true, false, cond, ◌&&◌, ◌==◌, nat_le, nat_lt, List, [], ◌∷◌, ◌++◌, length, length-append, map, take, drop, slice_get, Option, Some, None, refl, sym, ◌∙◌, ap, subst, arith, take-append-drop}
use Rattle.std.specs.Prelude.{IfSome, ⊤, option_and_then}
use Rattle.std.proofs.lemmas.Bool.Decides.{nat_tests}
use Rattle.std.proofs.lemmas.List.{length-take}
use Rattle.jack_types.specs.declared.replies.Entry.{Entry}
use Rattle.jack_types.specs.declared.replies.Part.{Part}
use Rattle.jack_types.specs.declared.replies.Part.TheVariants as part
use Rattle.jack_types.specs.declared.replies.Row.{Row}
use Rattle.check_model.specs.Checking.{BeginsReport, IsWrongLine, ended_lines}
use Rattle.session_model.specs.Grammar.{IsScript}
use Rattle.session_model.specs.Histories.{accepted}
use Rattle.session_model.specs.Reports.{report_lines}
use Rattle.session_model.specs.Scripts.{Script, turns}
use Rattle.session_model.specs.State.{State}
use Rattle.session_laws.proofs.ListLemmas.{slice-some}
use Rattle.check_laws.proofs.PlaceLists.{length-map, slice-take, take-twice}
use Rattle.check_laws.proofs.SameLemmas.{Each-from_all}
use Rattle.check_laws.proofs.StateFits.{Each-take}
use Rattle.report_reader.specs.Forms.{IsLineForm, line_text}
use Rattle.report_reader.specs.declared.rows.CallLine.{CallLine}
use Rattle.report_reader.specs.declared.rows.CycleLine.{CycleLine}
use Rattle.report_reader.specs.declared.rows.Line.{Line}
use Rattle.report_reader.specs.declared.rows.Line.TheVariants.{Report, Call, Cycle, Meter, Midi, Recorder, Overrun, Disk, Underrun, End}
use Rattle.report_laws.proofs.ReportLemmas.{read-begins}
use Rattle.report_laws.proofs.RestLemmas.{walk-near}
use Rattle.report_laws.proofs.StepLemmas.{same-lines}
use Rattle.report_laws.proofs.WalkLemmas.{walk-append}
use Rattle.report_laws.specs.Places.{IsRead, in_disks, in_events, in_meters, in_recorders, limits_of, next, walk}
use Rattle.report_laws.specs.declared.places.Limits.{Limits}
use Rattle.report_laws.specs.declared.places.Place.{Place}
use Rattle.report_laws.specs.declared.places.Place.TheVariants.{Start, Calls, Cycles, Meters, Events, Recorders, Disks, Done}
use Rattle.told_laws.proofs.StuckLemmas.{take-front}
use Rattle.session_graph.specs.Fronts.{IsBefore, IsBroken, IsFront, calls_in}
use Rattle.session_graph.specs.Told.{AreRight, IsOfRow, IsRight, IsTooMany, IsUsed, IsWrongCall, history_told}
use Rattle.session_graph.proofs.ReplayLemmas.{accepted-append, told-append}

-- ---- places behind a cycle

-- at the line of a cycle, or behind it
abbrev IsPast : ℕ → Place → Type 0
IsPast cycle Start = ⊥
IsPast cycle (Calls calls) = ⊥
IsPast cycle (Cycles cycles) = cycle ≤ cycles
IsPast cycle (Meters meters) = ⊤
IsPast cycle (Events events) = ⊤
IsPast cycle (Recorders recorders left) = ⊤
IsPast cycle (Disks disks left) = ⊤
IsPast cycle Done = ⊤

-- behind all cycles
abbrev IsLate : Place → Type 0
IsLate Start = ⊥
IsLate (Calls calls) = ⊥
IsLate (Cycles cycles) = ⊥
IsLate (Meters meters) = ⊤
IsLate (Events events) = ⊤
IsLate (Recorders recorders left) = ⊤
IsLate (Disks disks left) = ⊤
IsLate Done = ⊤

not-before : (cycle : ℕ) (place : Place) → IsBefore cycle place → IsPast cycle place → ⊥
not-before cycle Start before past = past
not-before cycle (Calls calls) before past = past
not-before cycle (Cycles cycles) before past = omega (arith, before, past)
not-before cycle (Meters meters) before past = before
not-before cycle (Events events) before past = before
not-before cycle (Recorders recorders left) before past = before
not-before cycle (Disks disks left) before past = before
not-before cycle Done before past = before

past-less : (cycle more : ℕ) (place : Place) → cycle ≤ more → IsPast more place → IsPast cycle place
past-less cycle more Start few past = past
past-less cycle more (Calls calls) few past = past
past-less cycle more (Cycles cycles) few past = omega (arith, few, past)
past-less cycle more (Meters meters) few past = tt
past-less cycle more (Events events) few past = tt
past-less cycle more (Recorders recorders left) few past = tt
past-less cycle more (Disks disks left) few past = tt
past-less cycle more Done few past = tt

late-past : (cycle : ℕ) (place : Place) → IsLate place → IsPast cycle place
late-past cycle Start late = late
late-past cycle (Calls calls) late = late
late-past cycle (Cycles cycles) late = absurd late
late-past cycle (Meters meters) late = tt
late-past cycle (Events events) late = tt
late-past cycle (Recorders recorders left) late = tt
late-past cycle (Disks disks left) late = tt
late-past cycle Done late = tt

tested : (t : Bool) (o : Option Place) → IfSome o IsLate → IfSome (cond t o None) IsLate
tested true o late = late
tested false o late = tt

module _ (limits : Limits) where
  disks-late : (disks left : ℕ) (line : Line) → IfSome (in_disks limits disks left line) IsLate
  disks-late disks left (Disk count) = tested (left == 0 && nat_lt disks limits.disks && (count.file == disks) && nat_le count.losses limits.cycles) (Some (Disks (disks + 1) count.losses)) tt
  disks-late disks left (Underrun loss) = tested (nat_lt 0 left && (loss.file + 1 == disks)) (Some (Disks disks (left - 1))) tt
  disks-late disks left End = tested (left == 0 && (disks == limits.disks)) (Some Done) tt
  disks-late disks left _ = tt

  recorders-late : (recorders left : ℕ) (line : Line) → IfSome (in_recorders limits recorders left line) IsLate
  recorders-late recorders left (Recorder count) =
      tested (left == 0 && nat_lt recorders limits.recorders && (count.file == recorders) && nat_le count.losses limits.cycles) (Some (Recorders (recorders + 1) count.losses)) tt
  recorders-late recorders left (Overrun loss) = tested (nat_lt 0 left && (loss.file + 1 == recorders)) (Some (Recorders recorders (left - 1))) tt
  recorders-late recorders left Report = tested (left == 0 && (recorders == limits.recorders)) (in_disks limits 0 0 Report) (disks-late 0 0 Report)
  recorders-late recorders left (Call call) = tested (left == 0 && (recorders == limits.recorders)) (in_disks limits 0 0 (Call call)) (disks-late 0 0 (Call call))
  recorders-late recorders left (Cycle cycle) = tested (left == 0 && (recorders == limits.recorders)) (in_disks limits 0 0 (Cycle cycle)) (disks-late 0 0 (Cycle cycle))
  recorders-late recorders left (Meter meter) = tested (left == 0 && (recorders == limits.recorders)) (in_disks limits 0 0 (Meter meter)) (disks-late 0 0 (Meter meter))
  recorders-late recorders left (Midi event) = tested (left == 0 && (recorders == limits.recorders)) (in_disks limits 0 0 (Midi event)) (disks-late 0 0 (Midi event))
  recorders-late recorders left (Disk count) = tested (left == 0 && (recorders == limits.recorders)) (in_disks limits 0 0 (Disk count)) (disks-late 0 0 (Disk count))
  recorders-late recorders left (Underrun loss) = tested (left == 0 && (recorders == limits.recorders)) (in_disks limits 0 0 (Underrun loss)) (disks-late 0 0 (Underrun loss))
  recorders-late recorders left End = tested (left == 0 && (recorders == limits.recorders)) (in_disks limits 0 0 End) (disks-late 0 0 End)

  events-late : (events : ℕ) (line : Line) → IfSome (in_events limits events line) IsLate
  events-late events (Midi event) = tested (nat_lt events limits.events) (Some (Events (events + 1))) tt
  events-late events Report = recorders-late 0 0 Report
  events-late events (Call call) = recorders-late 0 0 (Call call)
  events-late events (Cycle cycle) = recorders-late 0 0 (Cycle cycle)
  events-late events (Meter meter) = recorders-late 0 0 (Meter meter)
  events-late events (Recorder count) = recorders-late 0 0 (Recorder count)
  events-late events (Overrun loss) = recorders-late 0 0 (Overrun loss)
  events-late events (Disk count) = recorders-late 0 0 (Disk count)
  events-late events (Underrun loss) = recorders-late 0 0 (Underrun loss)
  events-late events End = recorders-late 0 0 End

  meters-late : (meters : ℕ) (line : Line) → IfSome (in_meters limits meters line) IsLate
  meters-late meters (Meter meter) = tested (nat_lt meters limits.meters) (Some (Meters (meters + 1))) tt
  meters-late meters Report = events-late 0 Report
  meters-late meters (Call call) = events-late 0 (Call call)
  meters-late meters (Cycle cycle) = events-late 0 (Cycle cycle)
  meters-late meters (Midi event) = events-late 0 (Midi event)
  meters-late meters (Recorder count) = events-late 0 (Recorder count)
  meters-late meters (Overrun loss) = events-late 0 (Overrun loss)
  meters-late meters (Disk count) = events-late 0 (Disk count)
  meters-late meters (Underrun loss) = events-late 0 (Underrun loss)
  meters-late meters End = events-late 0 End

  passed : (cycle : ℕ) (o : Option Place) → IfSome o IsLate → IfSome o (IsPast cycle)
  passed cycle None late = tt
  passed cycle (Some place) late = late-past cycle place late

  -- a line behind the cycle's leads past the next one
  past-next : (cycle : ℕ) (place : Place) (line : Line) → IsPast cycle place → IfSome (next limits place line) (IsPast (cycle + 1))
  past-next cycle Start line past = absurd past
  past-next cycle (Calls calls) line past = absurd past
  past-next cycle (Cycles cycles) line past = go line
    where
      cycle_line : (t : Bool) → IfSome (cond t (Some (Cycles (cycles + 1))) None) (IsPast (cycle + 1))
      cycle_line true = omega (arith, past)
      cycle_line false = tt

      other : (line : Line) → IfSome (cond (cycles == limits.cycles) (in_meters limits 0 line) None) (IsPast (cycle + 1))
      other line = passed (cycle + 1) (cond (cycles == limits.cycles) (in_meters limits 0 line) None) (tested (cycles == limits.cycles) (in_meters limits 0 line) (meters-late 0 line))

      go : (line : Line) → IfSome (next limits (Cycles cycles) line) (IsPast (cycle + 1))
      go (Cycle told) = cycle_line (nat_lt cycles limits.cycles && (told.cycle == cycles + 1))
      go Report = other Report
      go (Call call) = other (Call call)
      go (Meter meter) = other (Meter meter)
      go (Midi event) = other (Midi event)
      go (Recorder count) = other (Recorder count)
      go (Overrun loss) = other (Overrun loss)
      go (Disk count) = other (Disk count)
      go (Underrun loss) = other (Underrun loss)
      go End = other End
  past-next cycle (Meters meters) line past = passed (cycle + 1) (in_meters limits meters line) (meters-late meters line)
  past-next cycle (Events events) line past = passed (cycle + 1) (in_events limits events line) (events-late events line)
  past-next cycle (Recorders recorders left) line past = passed (cycle + 1) (in_recorders limits recorders left line) (recorders-late recorders left line)
  past-next cycle (Disks disks left) line past = passed (cycle + 1) (in_disks limits disks left line) (disks-late disks left line)
  past-next cycle Done line past = tt

  none-some : (place : Place) → None ≡ Some place → ⊥
  none-some place e = cc

  past-walk : (lines : List Line) (cycle : ℕ) (place behind : Place) → IsPast cycle place → walk limits place lines ≡ Some behind → IsPast cycle behind
  past-walk [] cycle place behind past e = subst (IsPast cycle) (slice-some place behind e) past
  past-walk (line ∷ lines) cycle place behind past e = go (next limits place line) (past-next cycle place line past) (λ q later. past-walk lines cycle q behind (past-less cycle (cycle + 1) q (omega arith) later)) e
    where
      go : (o : Option Place) → IfSome o (IsPast (cycle + 1)) → ((q : Place) → IsPast (cycle + 1) q → walk limits q lines ≡ Some behind → IsPast cycle behind) → option_and_then (λ q. walk limits q lines) o ≡ Some behind → IsPast cycle behind
      go None later on f = absurd (none-some behind f)
      go (Some q) later on f = on q later f

  past-more : (line : Line) (lines : List Line) (cycle : ℕ) (place behind : Place) → IsPast cycle place → walk limits place (line ∷ lines) ≡ Some behind → IsPast (cycle + 1) behind
  past-more line lines cycle place behind past e = go (next limits place line) (past-next cycle place line past) e
    where
      go : (o : Option Place) → IfSome o (IsPast (cycle + 1)) → option_and_then (λ q. walk limits q lines) o ≡ Some behind → IsPast (cycle + 1) behind
      go None later f = absurd (none-some behind f)
      go (Some q) later f = past-walk lines (cycle + 1) q behind later f

-- ---- texts are of one list of lines

module _ {X : Type 0} where
  map-taken : {Y : Type 0} (f : X → Y) (n : ℕ) (xs : List X) → take n (map f xs) ≡ map f (take n xs)
  map-taken f zero xs = refl
  map-taken f (suc n) [] = refl
  map-taken f (suc n) (x ∷ xs) = ap (λ ys. f x ∷ ys) (map-taken f n xs)

  last-of : (xs : List X) (x : X) → slice_get (xs ++ x ∷ []) (length xs) ≡ Some x
  last-of [] x = refl
  last-of (y ∷ xs) x = last-of xs x

-- ---- fronts

module _ (script : Script) (bytes : List ℕ) where
  abbrev texts : List (List ℕ)
  texts = ended_lines bytes

  -- the lines of a front
  abbrev lines_of : (calls : List CallLine) (line : CycleLine) → IsFront script bytes calls line → List Line
  lines_of calls line front = front.before ++ Cycle line ∷ []

  size-of : (calls : List CallLine) (line : CycleLine) (front : IsFront script bytes calls line) → length (lines_of calls line front) ≡ length front.before + 1
  size-of calls line front = length-append front.before (Cycle line ∷ [])

  -- so many lines are there
  there-are : (calls : List CallLine) (line : CycleLine) (front : IsFront script bytes calls line) → length front.before + 1 ≤ length texts
  there-are calls line front =
      let taken : length (take (length front.before + 1) texts) ≡ length front.before + 1 = ap (λ (ts : List (List ℕ)). length ts) front.texts ∙ length-map line_text (lines_of calls line front) ∙ size-of calls line front in
      let most = length-take (length front.before + 1) texts in
      omega (arith, taken, most)

  abbrev front_read : (calls : List CallLine) (line : CycleLine) (front : IsFront script bytes calls line) → IsRead script (take (length front.before + 1) texts) (Cycles line.cycle)
  front_read calls line front = (lines_of calls line front, front.forms, front.texts, front.there)

  -- more lines that lead from the start begin with those of the front, and go on from the cycle
  goes-on : (calls : List CallLine) (line : CycleLine) (front : IsFront script bytes calls line) (n : ℕ) (place : Place) → length front.before + 1 ≤ n → (read : IsRead script (take n texts) place)
      → (rest : List Line) × (read.0 ≡ lines_of calls line front ++ rest) × (walk (limits_of script) (Cycles line.cycle) rest ≡ Some place)
  goes-on calls line front n place more read =
      let k : ℕ = length front.before + 1 in
      let first : List Line = lines_of calls line front in
      let same : take k read.0 ≡ first =
      same-lines (take k read.0) first (Each-take IsLineForm k read.0 (Each-from_all IsLineForm read.0 read.1)) (Each-from_all IsLineForm first front.forms)
      (sym (map-taken line_text k read.0) ∙ ap (take k) (sym read.2) ∙ take-twice k n texts more ∙ front.texts) in
      let parts : read.0 ≡ first ++ drop k read.0 = sym (take-append-drop k read.0) ∙ ap (λ (ls : List Line). ls ++ drop k read.0) same in
      let walked : walk (limits_of script) Start (first ++ drop k read.0) ≡ Some place = ap (walk (limits_of script) Start) (sym parts) ∙ read.3 in
      (drop k read.0, parts, ap (option_and_then (λ q. walk (limits_of script) q (drop k read.0))) (sym front.there) ∙ sym (walk-append (limits_of script) Start first (drop k read.0)) ∙ walked)

  module _ (calls others : List CallLine) (line other : CycleLine) (one : IsFront script bytes calls line) (two : IsFront script bytes others other) (same : line.cycle ≡ other.cycle) where
    not-longer : length one.before < length two.before → ⊥
    not-longer less = go (goes-on calls line one (length two.before + 1) (Cycles other.cycle) (omega (arith, less)) (front_read others other two))
      where
        go : (rest : List Line) × (lines_of others other two ≡ lines_of calls line one ++ rest) × (walk (limits_of script) (Cycles line.cycle) rest ≡ Some (Cycles other.cycle)) → ⊥
        go ([], parts, walked) =
            let size = size-of others other two in
            let size_one = size-of calls line one in
            let both : length (lines_of others other two) ≡ length (lines_of calls line one) + 0 = ap (λ (ls : List Line). length ls) parts ∙ length-append (lines_of calls line one) [] in
            omega (arith, size, size_one, both, less)
        go (next_line ∷ rest, parts, walked) =
            let past : line.cycle + 1 ≤ other.cycle = past-more (limits_of script) next_line rest line.cycle (Cycles line.cycle) (Cycles other.cycle) (omega arith) walked in
            omega (arith, past, same)

  some-cycle : (a b : CycleLine) → Some (Cycle a) ≡ Some (Cycle b) → a ≡ b
  some-cycle a b e = cc

  pub front-one : (calls others : List CallLine) (line other : CycleLine) → IsFront script bytes calls line → IsFront script bytes others other → line.cycle ≡ other.cycle → (calls ≡ others) × (line ≡ other)
  front-one calls others line other one two same =
      let size : length one.before ≡ length two.before =
      equal (length one.before) (length two.before) (not-longer calls others line other one two same) (not-longer others calls other line two one (sym same)) in
      let all : lines_of calls line one ≡ lines_of others other two =
      same-lines (lines_of calls line one) (lines_of others other two) (Each-from_all IsLineForm (lines_of calls line one) one.forms) (Each-from_all IsLineForm (lines_of others other two) two.forms)
      (sym one.texts ∙ ap (λ n. take (n + 1) texts) size ∙ two.texts) in
      let before : one.before ≡ two.before =
      sym (take-front (length one.before) one.before (Cycle line ∷ []) refl) ∙ ap (take (length one.before)) all ∙ take-front (length one.before) two.before (Cycle other ∷ []) (sym size) in
      let last : Some (Cycle line) ≡ Some (Cycle other) =
      sym (last-of one.before (Cycle line)) ∙ ap (λ (ls : List Line). slice_get ls (length one.before)) all ∙ ap (slice_get (lines_of others other two)) size ∙ last-of two.before (Cycle other) in
      (one.calls_are ∙ ap calls_in before ∙ sym two.calls_are, some-cycle line other last)
    where
      equal : (m n : ℕ) → (m < n → ⊥) → (n < m → ⊥) → m ≡ n
      equal m n not_less not_more = go (nat_lt m n) (nat_lt n m) refl refl
        where
          go : (a b : Bool) → nat_lt m n ≡ a → nat_lt n m ≡ b → m ≡ n
          go true b e f = absurd (not_less (grind (arith, nat_tests, e)))
          go false true e f = absurd (not_more (grind (arith, nat_tests, f)))
          go false false e f = grind (arith, nat_tests, e, f)

  pub front-within : (calls : List CallLine) (line : CycleLine) → IsFront script bytes calls line → line.cycle ≤ length (turns script)
  front-within calls line front = walk-near (limits_of script) (lines_of calls line front) Start tt (Cycles line.cycle) front.there

  -- ---- lines that are wrong

  begins-less : (n m : ℕ) → m ≤ n → BeginsReport script bytes n → BeginsReport script bytes m
  begins-less n m few begins =
      (begins.0, begins.1, sym (take-twice m n texts few) ∙ ap (take m) begins.2 ∙ take-twice m n (report_lines begins.0) few)

  -- no line before the first wrong one is wrong
  no-less : (n m : ℕ) → n < m → IsWrongLine script bytes n → IsWrongLine script bytes m → ⊥
  no-less zero m less one two = one
  no-less (suc n) zero less one two = two
  no-less (suc n) (suc m) less one two = one.1 (begins-less m (suc n) (omega (arith, less)) two.0)

  pub broken-one : (cycle n m : ℕ) → IsBroken script bytes cycle n → IsBroken script bytes cycle m → n ≡ m
  broken-one cycle n m one two = go (nat_lt n m) (nat_lt m n) refl refl
    where
      go : (a b : Bool) → nat_lt n m ≡ a → nat_lt m n ≡ b → n ≡ m
      go true b e f = absurd (no-less n m (grind (arith, nat_tests, e)) one.wrong two.wrong)
      go false true e f = absurd (no-less m n (grind (arith, nat_tests, f)) two.wrong one.wrong)
      go false false e f = grind (arith, nat_tests, e, f)

  pub broken-front : IsScript script → (cycle n : ℕ) (calls : List CallLine) (line : CycleLine) → line.cycle ≡ cycle → IsBroken script bytes cycle n → IsFront script bytes calls line → ⊥
  broken-front lawful cycle zero calls line same broken front = broken.wrong
  broken-front lawful cycle (suc n) calls line same broken front = go (nat_lt n k) refl
    where
      k : ℕ
      k = length front.before + 1

      go : (b : Bool) → nat_lt n k ≡ b → ⊥
      go true e =
          let few : suc n ≤ k = grind (arith, nat_tests, e) in
          (broken.wrong).1 (begins-less k (suc n) few (read-begins script lawful bytes k (there-are calls line front) (Cycles line.cycle, front_read calls line front)))
      go false e =
          let here : suc n - 1 ≡ n = omega arith in
          let more : k ≤ suc n - 1 = grind (arith, nat_tests, e) in
          let on = goes-on calls line front (suc n - 1) broken.place more broken.read in
          not-before cycle broken.place broken.before (past-walk (limits_of script) on.0 cycle (Cycles line.cycle) broken.place (omega (arith, same)) on.2)

-- ---- calls that are wrong

module _ (script : Script) (lines : List CallLine) (number : ℕ) where
  -- among right calls none is wrong
  right-so : (n m : ℕ) → 1 ≤ n → n ≤ m → AreRight script (take m lines) → IsWrongCall script lines number n → ⊥
  right-so n m some few right wrong =
      let at : slice_get (take m lines) (n - 1) ≡ Some wrong.line = slice-take lines m (n - 1) (omega (arith, some, few)) ∙ wrong.at in
      wrong.wrong (subst (λ (ls : List CallLine). IsRight script ls wrong.line) (take-twice (n - 1) m lines (omega (arith, few))) (right (n - 1) wrong.line at))

  -- more calls have as many accepted ones at least
  accepted-more : (m n : ℕ) → m ≤ n → length (accepted (history_told script (take m lines))) ≤ length (accepted (history_told script (take n lines)))
  accepted-more m n few =
      let front : List CallLine = take m lines in
      let rest : List CallLine = drop m (take n lines) in
      let parts : take n lines ≡ front ++ rest = sym (take-append-drop m (take n lines)) ∙ ap (λ (ls : List CallLine). ls ++ rest) (take-twice m n lines few) in
      let all : length (accepted (history_told script (take n lines))) ≡ length (accepted (history_told script front)) + length (accepted (history_told script rest)) =
      ap (λ (ls : List CallLine). length (accepted (history_told script ls))) parts ∙ ap (λ (es : List Entry). length (accepted es)) (told-append script front rest)
      ∙ ap length (accepted-append (history_told script front) (history_told script rest)) ∙ length-append (accepted (history_told script front)) (accepted (history_told script rest)) in
      omega (arith, all)

  accepted-all : (m : ℕ) → length (accepted (history_told script (take m lines))) ≤ length (accepted (history_told script lines))
  accepted-all m =
      let all : length (accepted (history_told script lines)) ≡ length (accepted (history_told script (take m lines))) + length (accepted (history_told script (drop m lines))) =
      ap (λ (ls : List CallLine). length (accepted (history_told script ls))) (sym (take-append-drop m lines)) ∙ ap (λ (es : List Entry). length (accepted es)) (told-append script (take m lines) (drop m lines))
      ∙ ap length (accepted-append (history_told script (take m lines)) (history_told script (drop m lines))) ∙ length-append (accepted (history_told script (take m lines))) (accepted (history_told script (drop m lines))) in
      omega (arith, all)

  call-less : (n m : ℕ) → n < m → IsWrongCall script lines number n → IsWrongCall script lines number m → ⊥
  call-less n m less one two = let some = one.counted in right-so n (m - 1) some (omega (arith, less)) two.right one

  call-one : (n m : ℕ) → IsWrongCall script lines number n → IsWrongCall script lines number m → n ≡ m
  call-one n m one two = go (nat_lt n m) (nat_lt m n) refl refl
    where
      go : (a b : Bool) → nat_lt n m ≡ a → nat_lt m n ≡ b → n ≡ m
      go true b e f = absurd (call-less n m (grind (arith, nat_tests, e)) one two)
      go false true e f = absurd (call-less m n (grind (arith, nat_tests, f)) two one)
      go false false e f = grind (arith, nat_tests, e, f)

  call-many : (n : ℕ) → IsWrongCall script lines number n → IsTooMany script lines number → ⊥
  call-many n one many = one.wrong (many.right (n - 1) one.line one.at)

  call-used : (n : ℕ) (state : State) → IsWrongCall script lines number n → IsUsed script lines number state → ⊥
  call-used n state one used = go (nat_lt used.made n) refl
    where
      go : (b : Bool) → nat_lt used.made n ≡ b → ⊥
      go true e =
          let few : used.made < n = grind (arith, nat_tests, e) in
          let more = accepted-more used.made (n - 1) (omega (arith, few)) in
          let less = one.fewer in
          let just = used.number_is in
          omega (arith, more, less, just)
      go false e = let some = one.counted in right-so n used.made some (grind (arith, nat_tests, e)) used.right one

  many-used : (state : State) → IsTooMany script lines number → IsUsed script lines number state → ⊥
  many-used state many used =
      let more = accepted-all used.made in
      let less = many.fewer in
      let just = used.number_is in
      omega (arith, more, less, just)

  pub row-used : (cycle : ℕ) (row : Row) (what : Part) (state : State) → IsOfRow script lines number cycle row what → IsUsed script lines number state → ⊥
  row-used cycle row part.Call state wrong used = call-used row.number state wrong used
  row-used cycle row part.Cycle state wrong used = many-used state wrong.1 used
  row-used cycle row _ state wrong used = wrong

  -- the parts are one, and so are the numbers
  pub row-one : (cycle : ℕ) (a b : Row) (p q : Part) → IsOfRow script lines number cycle a p → IsOfRow script lines number cycle b q → (p ≡ q) × (a.number ≡ b.number)
  row-one cycle a b part.Call q one two = go q two
    where
      go : (q : Part) → IsOfRow script lines number cycle b q → (part.Call ≡ q) × (a.number ≡ b.number)
      go part.Call other = (refl, call-one a.number b.number one other)
      go part.Cycle other = absurd (call-many a.number one other.1)
      go _ other = absurd other
  row-one cycle a b part.Cycle q one two = go q two
    where
      go : (q : Part) → IsOfRow script lines number cycle b q → (part.Cycle ≡ q) × (a.number ≡ b.number)
      go part.Call other = absurd (call-many b.number other one.1)
      go part.Cycle other = (refl, one.0 ∙ sym other.0)
      go _ other = absurd other
  row-one cycle a b _ q one two = absurd one
