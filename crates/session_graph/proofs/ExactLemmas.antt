-- Words ask for one graph, and files that are told have one refusal, or the graph.
--     asking-one      one asking
--     one-refusal, either-one, one-text      one refusal, or one text of the graph
--     exact-at, complete-at      what was answered is the refusal that the files have; where they have the graph, memory was short
use Rattle.std.proofs.Common.{◌≡◌, ◌∙◌, ◌≤◌, ℕ, Bool, true, false, List, [], ◌∷◌, drop, take, length, Some, None, inl, inr, refl, sym, ap, ap₂, subst, arith}
use Rattle.std.specs.Prelude.{◌⊎◌, Option, codes, slice_index_or}
use Rattle.jack_types.specs.declared.replies.Row.{Row}
use Rattle.jack_types.specs.declared.scripts.ScriptFault.{ScriptFault}
use Rattle.jack_host.specs.Causes.{Rose}
use Rattle.jack_host.specs.Files.{IsThere}
use Rattle.session_model.specs.Grammar.{IsScript, Spells, number_value}
use Rattle.session_model.specs.Histories.{accepted}
use Rattle.session_model.specs.Reading.{fault_of, script_fault}
use Rattle.session_model.specs.Scripts.{Script, turns}
use Rattle.grammar_laws.proofs.GrammarLaws.{read}
use Rattle.report_reader.specs.declared.rows.CallLine.{CallLine}
use Rattle.report_reader.specs.declared.rows.CycleLine.{CycleLine}
use Rattle.session_graph.specs.Askings.{Asking, IsGraph, dot_words}
use Rattle.session_graph.specs.Files.{Files, IfBoth, IfBytes}
use Rattle.session_graph.specs.Fronts.{IsFront}
use Rattle.session_graph.specs.Graphs.{HasCycle, HasFault, HasGraph, HasRefusal, IsBehindLast, IsShown, IsTextOf, IsWrongPart, IsWrongRow, LacksFile}
use Rattle.session_graph.specs.Texts.{graph_text}
use Rattle.session_graph.specs.Told.{IsOfRow, history_told, run_changes}
use Rattle.session_graph.specs.declared.faults.GraphFault.{GraphFault}
use Rattle.session_graph.specs.declared.faults.GraphFault.TheVariants.{NoMemory, Words, ReadFault, BadScript, WriteFault, Wrong}
use Rattle.session_graph.proofs.OneLemmas.{broken-front, broken-one, front-one, front-within, row-one, row-used}

-- ---- the words

is_some_word : List (List ℕ) → Bool
is_some_word [] = false
is_some_word (word ∷ words) = true

dot-back : (dot : Bool) → is_some_word (dot_words dot) ≡ dot
unfolding is_some_word
dot-back true = refl
dot-back false = refl

pub asking-one : (words : List (List ℕ)) (a b : Asking) → IsGraph words a → IsGraph words b → a ≡ b
asking-one words a b one two =
    let same : codes "graph" ∷ a.script ∷ a.report ∷ one.digits ∷ dot_words a.dot ≡ codes "graph" ∷ b.script ∷ b.report ∷ two.digits ∷ dot_words b.dot = sym one.words_are ∙ two.words_are in
    let scripts : a.script ≡ b.script = ap (λ (ws : List (List ℕ)). slice_index_or ws 1 []) same in
    let reports : a.report ≡ b.report = ap (λ (ws : List (List ℕ)). slice_index_or ws 2 []) same in
    let digits : one.digits ≡ two.digits = ap (λ (ws : List (List ℕ)). slice_index_or ws 3 []) same in
    let cycles : a.cycle ≡ b.cycle = sym (one.number).value ∙ ap number_value digits ∙ (two.number).value in
    let dots : a.dot ≡ b.dot = sym (dot-back a.dot) ∙ ap (λ (ws : List (List ℕ)). is_some_word (drop 4 ws)) same ∙ dot-back b.dot in
    (λ k. record { script = scripts k; report = reports k; cycle = cycles k; dot = dots k })

-- ---- a script

script-one : (bytes : List ℕ) (a b : Script) → Spells bytes a → Spells bytes b → a ≡ b
script-one bytes a b one two = cc (read bytes a one, read bytes b two)

-- bytes that spell a script have no fault
spelled-good : (bytes : List ℕ) (script : Script) (fault : ScriptFault) → Spells bytes script → script_fault bytes ≡ Some fault → ⊥
spelled-good bytes script fault spelled found = none (sym (ap fault_of (read bytes script spelled)) ∙ found)
  where
    none : None ≡ Some fault → ⊥
    none e = cc

-- the cycle is behind the last, and it is not
not-both : (bytes : List ℕ) (cycle : ℕ) → IsBehindLast bytes cycle → (script : Script) → Spells bytes script → cycle ≤ length (turns script) → ⊥
not-both bytes cycle behind script spelled within =
    let same : length (turns behind.script) ≡ length (turns script) = ap (λ (s : Script). length (turns s)) (script-one bytes behind.script script behind.spelled spelled) in
    let less = behind.behind in
    omega (arith, same, less, within)

-- ---- a report

module _ (script_bytes report_bytes : List ℕ) where
  -- a part of the report is wrong, and a graph of the cycle was used
  part-shown : (asking : Asking) (row : Row) (text : List ℕ) → IsWrongRow script_bytes report_bytes asking.cycle row → IsShown asking script_bytes report_bytes text → ⊥
  part-shown asking row text wrong shown =
      let same : wrong.script ≡ shown.script = script-one script_bytes wrong.script shown.script wrong.spelled shown.spelled in
      go (subst (λ (s : Script). IsWrongPart s report_bytes asking.cycle row) same wrong.wrong)
    where
      go : IsWrongPart shown.script report_bytes asking.cycle row → ⊥
      go (inl broken) = broken-front shown.script report_bytes (shown.spelled).1 asking.cycle row.number shown.calls shown.cycle shown.cycle_is broken.1 shown.front
      go (inr late) =
          let one = front-one shown.script report_bytes late.calls shown.calls late.line shown.cycle late.front shown.front (late.cycle_is ∙ sym shown.cycle_is) in
          row-used shown.script shown.calls shown.cycle.number asking.cycle row row.what shown.state
          (subst (λ (line : CycleLine). IsOfRow shown.script shown.calls line.number asking.cycle row row.what) one.1
          (subst (λ (calls : List CallLine). IsOfRow shown.script calls late.line.number asking.cycle row row.what) one.0 late.wrong)) shown.used

  -- it is one part
  part-one : (cycle : ℕ) (a b : Row) → IsWrongRow script_bytes report_bytes cycle a → IsWrongRow script_bytes report_bytes cycle b → a ≡ b
  part-one cycle a b one two =
      let same : two.script ≡ one.script = script-one script_bytes two.script one.script two.spelled one.spelled in
      let found = go one.wrong (subst (λ (s : Script). IsWrongPart s report_bytes cycle b) same two.wrong) in
      let places : a.place ≡ b.place = one.place ∙ sym two.place in
      (λ k. record { what = found.0 k; number = found.1 k; place = places k })
    where
      script : Script
      script = one.script

      lawful : IsScript one.script
      lawful = (one.spelled).1

      go : IsWrongPart one.script report_bytes cycle a → IsWrongPart one.script report_bytes cycle b → (a.what ≡ b.what) × (a.number ≡ b.number)
      go (inl x) (inl y) = (x.0 ∙ sym y.0, broken-one one.script report_bytes cycle a.number b.number x.1 y.1)
      go (inl x) (inr y) = absurd (broken-front one.script report_bytes lawful cycle a.number y.calls y.line y.cycle_is x.1 y.front)
      go (inr x) (inl y) = absurd (broken-front one.script report_bytes lawful cycle b.number x.calls x.line x.cycle_is y.1 x.front)
      go (inr x) (inr y) =
          let fronts = front-one one.script report_bytes y.calls x.calls y.line x.line y.front x.front (y.cycle_is ∙ sym x.cycle_is) in
          row-one one.script x.calls x.line.number cycle a b a.what b.what x.wrong
          (subst (λ (line : CycleLine). IsOfRow one.script x.calls line.number cycle b b.what) fronts.1 (subst (λ (calls : List CallLine). IsOfRow one.script calls y.line.number cycle b b.what) fronts.0 y.wrong))

  shown-within : (asking : Asking) (text : List ℕ) (shown : IsShown asking script_bytes report_bytes text) → asking.cycle ≤ length (turns shown.script)
  shown-within asking text shown =
      let within = front-within shown.script report_bytes shown.calls shown.cycle shown.front in
      let same = shown.cycle_is in
      omega (arith, within, same)

  -- and a text of a graph is one
  shown-one : (asking : Asking) (a b : List ℕ) → asking.dot ≡ false → IsShown asking script_bytes report_bytes a → IsShown asking script_bytes report_bytes b → a ≡ b
  shown-one asking a b plain one two =
      let scripts : one.script ≡ two.script = script-one script_bytes one.script two.script one.spelled two.spelled in
      let fronts = front-one one.script report_bytes one.calls two.calls one.cycle two.cycle one.front (subst (λ (s : Script). IsFront s report_bytes two.calls two.cycle) (sym scripts) two.front) (one.cycle_is ∙ sym two.cycle_is) in
      let states : one.state ≡ two.state =
      (one.used).state_is
      ∙ ap (λ (s : Script). run_changes s (take one.cycle.number (accepted (history_told s one.calls)))) scripts
      ∙ ap (λ (calls : List CallLine). run_changes two.script (take one.cycle.number (accepted (history_told two.script calls)))) fronts.0
      ∙ ap (λ (line : CycleLine). run_changes two.script (take line.number (accepted (history_told two.script two.calls)))) fronts.1
      ∙ sym (two.used).state_is in
      let first : a ≡ graph_text one.cycle one.state = subst (λ (dot : Bool). IsTextOf dot one.cycle one.state a) plain one.text_is in
      let second : b ≡ graph_text two.cycle two.state = subst (λ (dot : Bool). IsTextOf dot two.cycle two.state b) plain two.text_is in
      first ∙ ap₂ graph_text fronts.1 states ∙ sym second

-- ---- the files

module _ (files : Files) (asking : Asking) where
  -- a name has one list of bytes
  both : (name : List ℕ) (P Q : List ℕ → Type 0) → ((bytes : List ℕ) → P bytes → Q bytes → ⊥) → IfBytes (Some files) name P → IfBytes (Some files) name Q → ⊥
  both name P Q f p q =
      let same : q.0 ≡ p.0 = cc (p.1, q.1) in
      f p.0 p.2 (subst Q same q.2)

  alike : {X : Type 0} (a b : X) (name : List ℕ) (P Q : List ℕ → Type 0) → ((bytes : List ℕ) → P bytes → Q bytes → a ≡ b) → IfBytes (Some files) name P → IfBytes (Some files) name Q → a ≡ b
  alike a b name P Q f p q =
      let same : q.0 ≡ p.0 = cc (p.1, q.1) in
      f p.0 p.2 (subst Q same q.2)

  is-there : (name : List ℕ) (P : List ℕ → Type 0) → IfBytes (Some files) name P → IsThere (Some files) name
  is-there name P p = rw p.1 refl

  abbrev script_is : (List ℕ → Type 0) → Type 0
  script_is P = IfBytes (Some files) asking.script (λ bytes. P (take 1048577 bytes))

  -- what two files have, and what the first of them has
  first-of : (R : List ℕ → List ℕ → Type 0) (P : List ℕ → Type 0) → ((s r : List ℕ) → R s r → P s) → IfBoth (Some files) asking R → script_is P
  first-of R P f h = (h.0, h.1, f (take 1048577 h.0) h.2.0 h.2.2)

  second-there : (R : List ℕ → List ℕ → Type 0) → IfBoth (Some files) asking R → IsThere (Some files) asking.report
  second-there R h = is-there asking.report (λ r. R (take 1048577 h.0) r) h.2

  has-cycle : (row : Row) → HasFault (Some files) asking (Wrong row) → script_is (λ s. HasCycle s asking.cycle)
  has-cycle row = first-of (λ s r. IsWrongRow s r asking.cycle row) (λ s. HasCycle s asking.cycle) (λ s r wrong. record { script = wrong.script; spelled = wrong.spelled; within = wrong.within })

  shows-cycle : (text : List ℕ) → HasGraph (Some files) asking text → script_is (λ s. HasCycle s asking.cycle)
  shows-cycle text =
      first-of (λ s r. IsShown asking s r text) (λ s. HasCycle s asking.cycle) (λ s r shown. record { script = shown.script; spelled = shown.spelled; within = shown-within s r asking text shown })

  -- a script with a fault has no cycle
  bad-cycle : (fault : ScriptFault) → HasFault (Some files) asking (BadScript fault) → script_is (λ s. HasCycle s asking.cycle) → ⊥
  bad-cycle fault =
      both asking.script (λ bytes. script_fault (take 1048577 bytes) ≡ Some fault) (λ bytes. HasCycle (take 1048577 bytes) asking.cycle)
      (λ bytes found has. spelled-good (take 1048577 bytes) has.script fault has.spelled found)

  bad-behind : (fault : ScriptFault) → HasFault (Some files) asking (BadScript fault) → HasFault (Some files) asking Words → ⊥
  bad-behind fault =
      both asking.script (λ bytes. script_fault (take 1048577 bytes) ≡ Some fault) (λ bytes. IsBehindLast (take 1048577 bytes) asking.cycle)
      (λ bytes found behind. spelled-good (take 1048577 bytes) behind.script fault behind.spelled found)

  behind-cycle : HasFault (Some files) asking Words → script_is (λ s. HasCycle s asking.cycle) → ⊥
  behind-cycle =
      both asking.script (λ bytes. IsBehindLast (take 1048577 bytes) asking.cycle) (λ bytes. HasCycle (take 1048577 bytes) asking.cycle)
      (λ bytes behind has. not-both (take 1048577 bytes) asking.cycle behind has.script has.spelled has.within)

  -- what a file lacks has no other refusal
  lacks-bad : (fault : ScriptFault) → LacksFile (Some files) asking → HasFault (Some files) asking (BadScript fault) → ⊥
  lacks-bad fault (inl none) bad = none (is-there asking.script (λ bytes. script_fault (take 1048577 bytes) ≡ Some fault) bad)
  lacks-bad fault (inr late) bad = bad-cycle fault bad late.0

  lacks-behind : LacksFile (Some files) asking → HasFault (Some files) asking Words → ⊥
  lacks-behind (inl none) behind = none (is-there asking.script (λ bytes. IsBehindLast (take 1048577 bytes) asking.cycle) behind)
  lacks-behind (inr late) behind = behind-cycle behind late.0

  lacks-both : (R : List ℕ → List ℕ → Type 0) → LacksFile (Some files) asking → IfBoth (Some files) asking R → ⊥
  lacks-both R (inl none) h = none (is-there asking.script (λ s. IfBytes (Some files) asking.report (λ r. R (take 1048577 s) r)) h)
  lacks-both R (inr late) h = late.1 (second-there R h)

  bad-one : (a b : ScriptFault) → HasFault (Some files) asking (BadScript a) → HasFault (Some files) asking (BadScript b) → a ≡ b
  bad-one a b =
      alike a b asking.script (λ bytes. script_fault (take 1048577 bytes) ≡ Some a) (λ bytes. script_fault (take 1048577 bytes) ≡ Some b) (λ bytes one two. one_some (script_fault (take 1048577 bytes)) one two)
    where
      one_some : (o : Option ScriptFault) → o ≡ Some a → o ≡ Some b → a ≡ b
      one_some o e f = cc

  wrong-one : (a b : Row) → HasFault (Some files) asking (Wrong a) → HasFault (Some files) asking (Wrong b) → a ≡ b
  wrong-one a b =
      alike a b asking.script (λ s. IfBytes (Some files) asking.report (λ r. IsWrongRow (take 1048577 s) r asking.cycle a)) (λ s. IfBytes (Some files) asking.report (λ r. IsWrongRow (take 1048577 s) r asking.cycle b))
      (λ s. alike a b asking.report (λ r. IsWrongRow (take 1048577 s) r asking.cycle a) (λ r. IsWrongRow (take 1048577 s) r asking.cycle b) (λ r. part-one (take 1048577 s) r asking.cycle a b))

  wrong-shown : (row : Row) (text : List ℕ) → HasFault (Some files) asking (Wrong row) → HasGraph (Some files) asking text → ⊥
  wrong-shown row text =
      both asking.script (λ s. IfBytes (Some files) asking.report (λ r. IsWrongRow (take 1048577 s) r asking.cycle row)) (λ s. IfBytes (Some files) asking.report (λ r. IsShown asking (take 1048577 s) r text))
      (λ s. both asking.report (λ r. IsWrongRow (take 1048577 s) r asking.cycle row) (λ r. IsShown asking (take 1048577 s) r text) (λ r wrong shown. part-shown (take 1048577 s) r asking row text wrong shown))

  graph-one : (a b : List ℕ) → asking.dot ≡ false → HasGraph (Some files) asking a → HasGraph (Some files) asking b → a ≡ b
  graph-one a b plain =
      alike a b asking.script (λ s. IfBytes (Some files) asking.report (λ r. IsShown asking (take 1048577 s) r a)) (λ s. IfBytes (Some files) asking.report (λ r. IsShown asking (take 1048577 s) r b))
      (λ s. alike a b asking.report (λ r. IsShown asking (take 1048577 s) r a) (λ r. IsShown asking (take 1048577 s) r b) (λ r. shown-one (take 1048577 s) r asking a b plain))

  -- a refusal, beside a graph
  refused-shown : (fault : GraphFault) (text : List ℕ) → HasRefusal (Some files) asking fault → HasGraph (Some files) asking text → ⊥
  refused-shown NoMemory text h shown = h
  refused-shown Words text h shown = behind-cycle h (shows-cycle text shown)
  refused-shown ReadFault text h shown = lacks-both (λ s r. IsShown asking s r text) h shown
  refused-shown (BadScript fault) text h shown = bad-cycle fault h (shows-cycle text shown)
  refused-shown WriteFault text h shown = h
  refused-shown (Wrong row) text h shown = wrong-shown row text h shown

  -- and beside another
  refusal-one : (a b : GraphFault) → HasRefusal (Some files) asking a → HasRefusal (Some files) asking b → a ≡ b
  refusal-one NoMemory b one two = absurd one
  refusal-one WriteFault b one two = absurd one
  refusal-one Words b one two = go b two
    where
      go : (b : GraphFault) → HasRefusal (Some files) asking b → Words ≡ b
      go NoMemory other = absurd other
      go Words other = refl
      go ReadFault other = absurd (lacks-behind other one)
      go (BadScript fault) other = absurd (bad-behind fault other one)
      go WriteFault other = absurd other
      go (Wrong row) other = absurd (behind-cycle one (has-cycle row other))
  refusal-one ReadFault b one two = go b two
    where
      go : (b : GraphFault) → HasRefusal (Some files) asking b → ReadFault ≡ b
      go NoMemory other = absurd other
      go Words other = absurd (lacks-behind one other)
      go ReadFault other = refl
      go (BadScript fault) other = absurd (lacks-bad fault one other)
      go WriteFault other = absurd other
      go (Wrong row) other = absurd (lacks-both (λ s r. IsWrongRow s r asking.cycle row) one other)
  refusal-one (BadScript fault) b one two = go b two
    where
      go : (b : GraphFault) → HasRefusal (Some files) asking b → BadScript fault ≡ b
      go NoMemory other = absurd other
      go Words other = absurd (bad-behind fault one other)
      go ReadFault other = absurd (lacks-bad fault other one)
      go (BadScript told) other = ap BadScript (bad-one fault told one other)
      go WriteFault other = absurd other
      go (Wrong row) other = absurd (bad-cycle fault one (has-cycle row other))
  refusal-one (Wrong row) b one two = go b two
    where
      go : (b : GraphFault) → HasRefusal (Some files) asking b → Wrong row ≡ b
      go NoMemory other = absurd other
      go Words other = absurd (behind-cycle other (has-cycle row one))
      go ReadFault other = absurd (lacks-both (λ s r. IsWrongRow s r asking.cycle row) other one)
      go (BadScript fault) other = absurd (bad-cycle fault other (has-cycle row one))
      go WriteFault other = absurd other
      go (Wrong told) other = ap Wrong (wrong-one row told one other)

-- ---- what was answered

module _ (files : Option Files) (asking : Asking) (before now : ℕ) (unrisen : Rose before now → ⊥) where
  -- memory ran out, or it is a refusal of the files
  answered : (files : Files) (told : GraphFault) → HasFault (Some files) asking told → (told ≡ ReadFault → Rose before now ⊎ LacksFile (Some files) asking) → (told ≡ NoMemory) ⊎ HasRefusal (Some files) asking told
  answered files NoMemory fault lacks = inl refl
  answered files Words fault lacks = inr fault
  answered files ReadFault fault lacks = go (lacks refl)
    where
      go : Rose before now ⊎ LacksFile (Some files) asking → (ReadFault ≡ NoMemory) ⊎ LacksFile (Some files) asking
      go (inl rose) = absurd (unrisen rose)
      go (inr lacking) = inr lacking
  answered files (BadScript told) fault lacks = inr fault
  answered files WriteFault fault lacks = absurd fault
  answered files (Wrong row) fault lacks = inr fault

  pub exact-at : (told fault : GraphFault) → HasFault files asking told → (told ≡ ReadFault → Rose before now ⊎ LacksFile files asking) → HasRefusal files asking fault → (told ≡ fault) ⊎ (told ≡ NoMemory)
  exact-at = go files
    where
      pick : (files : Files) (told fault : GraphFault) → (told ≡ NoMemory) ⊎ HasRefusal (Some files) asking told → HasRefusal (Some files) asking fault → (told ≡ fault) ⊎ (told ≡ NoMemory)
      pick files told fault (inl none) refusal = inr none
      pick files told fault (inr other) refusal = inl (refusal-one files asking told fault other refusal)

      go : (files : Option Files) (told fault : GraphFault) → HasFault files asking told → (told ≡ ReadFault → Rose before now ⊎ LacksFile files asking) → HasRefusal files asking fault → (told ≡ fault) ⊎ (told ≡ NoMemory)
      go None told fault has lacks refusal = absurd refusal
      go (Some files) told fault has lacks refusal = pick files told fault (answered files told has lacks) refusal

  pub complete-at : (told : GraphFault) (text : List ℕ) → HasFault files asking told → (told ≡ ReadFault → Rose before now ⊎ LacksFile files asking) → HasGraph files asking text → told ≡ NoMemory
  complete-at = go files
    where
      pick : (files : Files) (told : GraphFault) (text : List ℕ) → (told ≡ NoMemory) ⊎ HasRefusal (Some files) asking told → HasGraph (Some files) asking text → told ≡ NoMemory
      pick files told text (inl none) shown = none
      pick files told text (inr other) shown = absurd (refused-shown files asking told text other shown)

      go : (files : Option Files) (told : GraphFault) (text : List ℕ) → HasFault files asking told → (told ≡ ReadFault → Rose before now ⊎ LacksFile files asking) → HasGraph files asking text → told ≡ NoMemory
      go None told text has lacks shown = absurd shown
      go (Some files) told text has lacks shown = pick files told text (answered files told has lacks) shown

-- where a graph was made the files have no refusal
pub shown-exact : (files : Option Files) (asking : Asking) (fault : GraphFault) (text : List ℕ) → IfBoth files asking (λ s r. IsShown asking s r text) → HasRefusal files asking fault → ⊥
shown-exact None asking fault text shown refusal = refusal
shown-exact (Some files) asking fault text shown refusal = refused-shown files asking fault text refusal shown

-- ---- the same where nothing may be told

pub one-refusal : (files : Option Files) (asking : Asking) (a b : GraphFault) → HasRefusal files asking a → HasRefusal files asking b → a ≡ b
one-refusal None asking a b one two = absurd one
one-refusal (Some files) asking a b one two = refusal-one files asking a b one two

pub either-one : (files : Option Files) (asking : Asking) (fault : GraphFault) (text : List ℕ) → HasRefusal files asking fault → HasGraph files asking text → ⊥
either-one None asking fault text one two = one
either-one (Some files) asking fault text one two = refused-shown files asking fault text one two

pub one-text : (files : Option Files) (asking : Asking) (a b : List ℕ) → asking.dot ≡ false → HasGraph files asking a → HasGraph files asking b → a ≡ b
one-text None asking a b plain one two = absurd one
one-text (Some files) asking a b plain one two = graph-one files asking a b plain one two
