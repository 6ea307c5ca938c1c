-- Reading by the line in front.
use Rattle.std.proofs.Common.{◌≡◌, ℕ, ◌+◌, ◌<◌, ◌≤◌, Bool, true, false, List, [], ◌∷◌, ◌++◌, length, length-take-le, drop, take, refl, sym, ap, subst, ◌∙◌, arith}
use Rattle.std.specs.Prelude.{Option, Some, None, Result, Ok, Err, nat_le, slice_set, if◌then◌else◌, ◌==◌}
use Rattle.std.proofs.lemmas.List.{take_more_set}
use Rattle.jack_types.specs.declared.scripts.Cause.TheVariants.{Header as NotHeader, TooMany}
use Rattle.jack_types.specs.declared.scripts.Many.{Many}
use Rattle.jack_types.specs.declared.scripts.ScriptFault.{ScriptFault}
use Rattle.script_commands.specs.script_words.specs.Remaining.{begun_line, place}
use Rattle.script_header.specs.LineReads.{ReadsLine}
use Rattle.script_commands.proofs.ChoosingLemmas.{found_in-maybe}
use Rattle.script_commands.specs.Choosing.{Choice, found_in}
use Rattle.script_header.specs.Workers.{stealing, workers_of}
use Rattle.script_commands.specs.script_words.specs.Reads.{Reads as ReadsWords}
use Rattle.jack_types.specs.declared.scripts.Cause.{Cause}
use Rattle.grammar_laws.specs.session_model.specs.Reading.{◌>>=◌, Read, Reader, word, chosen, old_modes, workers, at_line, begins, whole, required, optional, several}
use Rattle.grammar_laws.specs.session_model.specs.Texts.{Line}

-- the line in front that begins with the name
-- the line in front, without its first word
abbrev behind_name : Line → Line
behind_name line = record { number = line.number; words = drop 1 line.words }

abbrev taken_if : Bool → Line → List Line → Option (Line × List Line)
taken_if b front lines = if b then Some (behind_name front, lines) else None

-- a line was taken: it is that in front, which begins with the name
record IsTaken (name : List ℕ) (lines : List Line) (line : Line) (after : List Line) : Type 0 where
  front : Line
  lines_are : lines ≡ front ∷ after
  begins_so : begins name front ≡ true
  line_is : line ≡ behind_name front

some_same : (a b : Line × List Line) → Some a ≡ Some b → a ≡ b
some_same a b h = cc

begun-is : (name : List ℕ) (lines after : List Line) (line : Line) → begun_line name lines ≡ Some (line, after) → IsTaken name lines line after
begun-is name [] after line h = absurd cc
begun-is name (front ∷ lines) after line h = go (begins name front) refl h
  where
    go : (b : Bool) → begins name front ≡ b → taken_if b front lines ≡ Some (line, after) → IsTaken name (front ∷ lines) line after
    go true e k =
        let both = some_same (behind_name front, lines) (line, after) k in
        let same : lines ≡ after = ap (λ (both : Line × List Line). both.1) both in
        let is : line ≡ behind_name front = sym (ap (λ (both : Line × List Line). both.0) both) in
        record { front = front; lines_are = ap (λ (xs : List Line). front ∷ xs) same; begins_so = e; line_is = is }
    go false e k = absurd cc

unbegun-is : (name : List ℕ) (front : Line) (lines : List Line) → begun_line name (front ∷ lines) ≡ None → begins name front ≡ false
unbegun-is name front lines h = go (begins name front) refl h
  where
    go : (b : Bool) → begins name front ≡ b → taken_if b front lines ≡ None → begins name front ≡ false
    go true e k = absurd cc
    go false e k = e

reads-line : {X : Type 0} (result : Result X ScriptFault) (after : List Line) (read : Result X ScriptFault) → result ≡ read → ReadsLine result after (read >>= λ x. Ok (x, after))
reads-line (Ok x) after read e = rw (← e) refl
reads-line (Err fault) after read e = rw (← e) refl

pub required-reads : {X : Type 0} (end : ℕ) (name : List ℕ) (reader : Reader X) (lines after : List Line) (line : Line) (result : Result X ScriptFault) → begun_line name lines ≡ Some (line, after) → result ≡ at_line line.number (reader line.words >>= whole) → ReadsLine result after (required end name reader lines)
required-reads end name reader lines after line result h e =
    let is = begun-is name lines after line h in
    let read : result ≡ at_line is.front.number (reader (drop 1 is.front.words) >>= whole) = e ∙ ap (λ (l : Line). at_line l.number (reader l.words >>= whole)) is.line_is in
    let begins_so = is.begins_so in
    subst (λ (ls : List Line). ReadsLine result after (required end name reader ls)) (sym is.lines_are)
    (rw begins_so (reads-line result after _ read))

pub required-fails : {X : Type 0} (end : ℕ) (name : List ℕ) (reader : Reader X) (lines : List Line) → begun_line name lines ≡ None → required end name reader lines ≡ Err (record { line = place (record { lines = lines; end = end }); cause = NotHeader })
required-fails end name reader [] h = refl
required-fails end name reader (front ∷ lines) h = rw (unbegun-is name front lines h) refl

pub optional-reads : (usual : ℕ) (name : List ℕ) (reader : Reader ℕ) (lines after : List Line) (line : Line) (result : Result ℕ ScriptFault) → begun_line name lines ≡ Some (line, after) → result ≡ at_line line.number (reader line.words >>= whole) → ReadsLine result after (optional usual name reader lines)
optional-reads usual name reader lines after line result h e =
    let is = begun-is name lines after line h in
    let read : result ≡ at_line is.front.number (reader (drop 1 is.front.words) >>= whole) = e ∙ ap (λ (l : Line). at_line l.number (reader l.words >>= whole)) is.line_is in
    let begins_so = is.begins_so in
    subst (λ (ls : List Line). ReadsLine result after (optional usual name reader ls)) (sym is.lines_are)
    (rw begins_so (reads-line result after _ read))

pub optional-usual : (usual : ℕ) (name : List ℕ) (reader : Reader ℕ) (lines : List Line) → begun_line name lines ≡ None → optional usual name reader lines ≡ Ok (usual, lines)
optional-usual usual name reader [] h = refl
optional-usual usual name reader (front ∷ lines) h = rw (unbegun-is name front lines h) refl

pub several-one : {X : Type 0} (what : Many) (most : ℕ) (name : List ℕ) (reader : List X → Reader X) (found : List X) (lines after : List Line) (line : Line) → begun_line name lines ≡ Some (line, after)
    → several what most name reader found lines ≡ (at_line line.number (reader found line.words >>= whole) >>= λ x. if nat_le most (length found) then Err (record { line = line.number; cause = TooMany what most }) else several what most name reader (found ++ x ∷ []) after)
several-one what most name reader found lines after line h =
    let is = begun-is name lines after line h in
    ap (λ (ls : List Line). several what most name reader found ls) is.lines_are
    ∙ front_read (begins name is.front) is.begins_so
    ∙ ap (λ (l : Line). at_line l.number (reader found l.words >>= whole) >>= λ x. if nat_le most (length found) then Err (record { line = l.number; cause = TooMany what most }) else several what most name reader (found ++ x ∷ []) after) (sym is.line_is)
  where
    front_read : (b : Bool) → b ≡ true → (if b then (at_line (begun-is name lines after line h).front.number (reader found (drop 1 (begun-is name lines after line h).front.words) >>= whole) >>= λ x. if nat_le most (length found) then Err (record { line = (begun-is name lines after line h).front.number; cause = TooMany what most }) else several what most name reader (found ++ x ∷ []) after) else Ok (found, (begun-is name lines after line h).front ∷ after))
        ≡ (at_line (begun-is name lines after line h).front.number (reader found (drop 1 (begun-is name lines after line h).front.words) >>= whole) >>= λ x. if nat_le most (length found) then Err (record { line = (begun-is name lines after line h).front.number; cause = TooMany what most }) else several what most name reader (found ++ x ∷ []) after)
    front_read true e = refl
    front_read false e = absurd cc

pub several-done : {X : Type 0} (what : Many) (most : ℕ) (name : List ℕ) (reader : List X → Reader X) (found : List X) (lines : List Line) → begun_line name lines ≡ None → several what most name reader found lines ≡ Ok (found, lines)
several-done what most name reader found [] h = refl
several-done what most name reader found (front ∷ lines) h = rw (unbegun-is name front lines h) refl

pub begun-shorter : (name : List ℕ) (lines after : List Line) (line : Line) → begun_line name lines ≡ Some (line, after) → length after < length lines
begun-shorter name lines after line h = let is = begun-is name lines after line h in let n = ap length is.lines_are in omega (arith, n)

-- one line of several, which gives a value
pub several-more : {X : Type 0} (what : Many) (most : ℕ) (name : List ℕ) (reader : List X → Reader X) (found : List X) (lines after : List Line) (line : Line) (x : X) → begun_line name lines ≡ Some (line, after) → Ok x ≡ at_line line.number (reader found line.words >>= whole) → length found < most
    → several what most name reader found lines ≡ several what most name reader (found ++ x ∷ []) after
several-more what most name reader found lines after line x h e few =
    several-one what most name reader found lines after line h ∙ rw (← e) (few_yet (nat_le most (length found)) refl)
  where
    few_yet : (b : Bool) → nat_le most (length found) ≡ b → (if b then Err (record { line = line.number; cause = TooMany what most }) else several what most name reader (found ++ x ∷ []) after) ≡ several what most name reader (found ++ x ∷ []) after
    few_yet true k = absurd (no (length found) most few k)
      where
        no : (n m : ℕ) → n < m → nat_le m n ≡ true → ⊥
        no n m a b = grind arith
    few_yet false k = refl

-- one that is faulty
pub several-faulty : {X : Type 0} (what : Many) (most : ℕ) (name : List ℕ) (reader : List X → Reader X) (found : List X) (lines after : List Line) (line : Line) (fault : ScriptFault) → begun_line name lines ≡ Some (line, after) → Err fault ≡ at_line line.number (reader found line.words >>= whole)
    → several what most name reader found lines ≡ Err fault
several-faulty what most name reader found lines after line fault h e = several-one what most name reader found lines after line h ∙ rw (← e) refl

-- one too many
pub several-passed : {X : Type 0} (what : Many) (most : ℕ) (name : List ℕ) (reader : List X → Reader X) (found : List X) (lines after : List Line) (line : Line) (x : X) → begun_line name lines ≡ Some (line, after) → Ok x ≡ at_line line.number (reader found line.words >>= whole) → most ≤ length found
    → several what most name reader found lines ≡ Err (record { line = line.number; cause = TooMany what most })
several-passed what most name reader found lines after line x h e many =
    several-one what most name reader found lines after line h ∙ rw (← e) (passed (nat_le most (length found)) refl)
  where
    passed : (b : Bool) → nat_le most (length found) ≡ b → (if b then Err (record { line = line.number; cause = TooMany what most }) else several what most name reader (found ++ x ∷ []) after) ≡ Err (record { line = line.number; cause = TooMany what most })
    passed true k = refl
    passed false k = absurd (no (length found) most many k)
      where
        no : (n m : ℕ) → m ≤ n → nat_le m n ≡ false → ⊥
        no n m a b = grind arith

pub workers-read : (version : ℕ) (words others after : List (List ℕ)) (first : List ℕ) (result : Result (Option ℕ × Bool) Cause) → word words ≡ Ok (first, others) → ReadsWords result after (chosen (workers_of version first) others) → ReadsWords result after (workers version words)
workers-read version words others after first result e h =
    subst (λ (r : Read (List ℕ)). ReadsWords result after (r >>= λ w. chosen (found_in (if version == 3 then old_modes ++ stealing else old_modes) w.0) w.1)) (sym e)
    (subst (λ (o : Option (Choice (Option ℕ × Bool))). ReadsWords result after (chosen o others)) (sym (found_in-maybe (version == 3) old_modes stealing first)) h)

-- one line more, whose value is stored behind the others
pub several-stored : {X : Type 0} (what : Many) (most : ℕ) (name : List ℕ) (reader : List X → Reader X) (items : List X) (len : ℕ) (lines after : List Line) (line : Line) (x : X) → len < length items → len < most → begun_line name lines ≡ Some (line, after) → Ok x ≡ at_line line.number (reader (take len items) line.words >>= whole)
    → several what most name reader (take len items) lines ≡ several what most name reader (take (len + 1) (slice_set items len x)) after
several-stored {X} what most name reader items len lines after line x room few h e =
    several-more what most name reader (take len items) lines after line x h e short ∙ ap (λ (found : List X). several what most name reader found after) (sym (take_more_set items len x room))
  where
    short : length (take len items) < most
    short = let n = length-take-le len items (omega (arith, room)) in omega (arith, n, few)

-- what a line says, at its number
pub value-at : {X : Type 0} (number : ℕ) (x : X) (read : Result X Cause) → Ok x ≡ read → Ok x ≡ at_line number read
value-at number x read h = rw (← h) refl

pub fault-at : {X : Type 0} (number : ℕ) (cause : Cause) (fault : ScriptFault) (read : Result X Cause) → fault ≡ record { line = number; cause = cause } → Err cause ≡ read → Err fault ≡ at_line number read
fault-at number cause fault read e h = rw (e, ← h) refl
