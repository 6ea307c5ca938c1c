-- The whole reading is that of the front and then of the body.
use Rattle.std.proofs.Common.{◌≡◌, ℕ, zero, suc, ◌+◌, ◌<◌, ◌≤◌, List, [], ◌∷◌, ◌++◌, length, map, refl, sym, ap, subst, ◌∙◌, arith}
use Rattle.std.specs.Prelude.{Some, Result, Ok, Err, codes, All, get_or, slice_index_or, ◌==◌}
use Rattle.std.specs.List.{AllByRecursion}
use Rattle.std.proofs.lemmas.List.{length-map, map-append}
use Rattle.std.proofs.lemmas.List.Elements.{All-from_recursion, recursion_from_All}
use Rattle.jack_types.specs.declared.events.Event.{Event}
use Rattle.jack_types.specs.declared.scripts.Body.{Body}
use Rattle.jack_types.specs.declared.scripts.Header.{Header}
use Rattle.jack_types.specs.declared.scripts.Many.TheVariants.{Recorders}
use Rattle.jack_types.specs.declared.scripts.ScriptFault.{ScriptFault}
use Rattle.script_header.specs.declared.optional.Optional.{Optional}
use Rattle.script_header.specs.declared.required.Required.{Required}
use Rattle.script_header.specs.Fronts.{Item, required_of, optional_of, fill_of, disks_of, events_of, header_of, front_of}
use Rattle.script_text.specs.grammar_laws.proofs.GrammarLaws.{spelled, read}
use Rattle.script_text.specs.grammar_laws.proofs.GrammarReaders.{ok_is}
use Rattle.script_text.specs.grammar_laws.proofs.GrammarText.{printed}
use Rattle.script_text.specs.session_model.specs.Grammar.{IsListed, Spells, script_text}
use Rattle.script_text.specs.session_model.specs.Reading.{◌>>=◌, required, optional, several, version, number, period, channels_and_bits, workers, recorder, body_lines, script_of_lines, script_of, fault_of, script_fault}
use Rattle.script_text.specs.session_model.specs.Samples.{below}
use Rattle.script_text.specs.session_model.specs.Scripts.{Script}
use Rattle.script_text.specs.session_model.specs.Texts.{Line, line_after, said, text_lines}
use Rattle.script_header.specs.script_words.specs.Remaining.{Remaining, remaining_from}
use Rattle.session_script.specs.Parts.{list_of, lists_below, script_of_parts, IsLawful}

-- what follows a chain goes into it
one : {A X Y E : Type 0} (r1 : Result A E) (make : A → X) (k : X → Result Y E) → ((r1 >>= λ a. Ok (make a)) >>= k) ≡ (r1 >>= λ a. k (make a))
one (Ok a) make k = refl
one (Err e) make k = refl

two : {A B X Y E : Type 0} (r1 : Result A E) (r2 : A → Result B E) (make : A → B → X) (k : X → Result Y E) → ((r1 >>= λ a. r2 a >>= λ b. Ok (make a b)) >>= k) ≡ (r1 >>= λ a. r2 a >>= λ b. k (make a b))
two (Ok a) r2 make k = one (r2 a) (make a) k
two (Err e) r2 make k = refl

three : {A B C X Y E : Type 0} (r1 : Result A E) (r2 : A → Result B E) (r3 : A → B → Result C E) (make : A → B → C → X) (k : X → Result Y E) → ((r1 >>= λ a. r2 a >>= λ b. r3 a b >>= λ c. Ok (make a b c)) >>= k) ≡ (r1 >>= λ a. r2 a >>= λ b. r3 a b >>= λ c. k (make a b c))
three (Ok a) r2 r3 make k = two (r2 a) (r3 a) (make a) k
three (Err e) r2 r3 make k = refl

four : {A B C D X Y E : Type 0} (r1 : Result A E) (r2 : A → Result B E) (r3 : A → B → Result C E) (r4 : A → B → C → Result D E) (make : A → B → C → D → X) (k : X → Result Y E) → ((r1 >>= λ a. r2 a >>= λ b. r3 a b >>= λ c. r4 a b c >>= λ d. Ok (make a b c d)) >>= k) ≡ (r1 >>= λ a. r2 a >>= λ b. r3 a b >>= λ c. r4 a b c >>= λ d. k (make a b c d))
four (Ok a) r2 r3 r4 make k = three (r2 a) (r3 a) (r4 a) (make a) k
four (Err e) r2 r3 r4 make k = refl

five : {A B C D F X Y E : Type 0} (r1 : Result A E) (r2 : A → Result B E) (r3 : A → B → Result C E) (r4 : A → B → C → Result D E) (r5 : A → B → C → D → Result F E) (make : A → B → C → D → F → X) (k : X → Result Y E) → ((r1 >>= λ a. r2 a >>= λ b. r3 a b >>= λ c. r4 a b c >>= λ d. r5 a b c d >>= λ f. Ok (make a b c d f)) >>= k) ≡ (r1 >>= λ a. r2 a >>= λ b. r3 a b >>= λ c. r4 a b c >>= λ d. r5 a b c d >>= λ f. k (make a b c d f))
five (Ok a) r2 r3 r4 r5 make k = four (r2 a) (r3 a) (r4 a) (r5 a) (make a) k
five (Err e) r2 r3 r4 r5 make k = refl

six : {A B C D F G X Y E : Type 0} (r1 : Result A E) (r2 : A → Result B E) (r3 : A → B → Result C E) (r4 : A → B → C → Result D E) (r5 : A → B → C → D → Result F E) (r6 : A → B → C → D → F → Result G E) (make : A → B → C → D → F → G → X) (k : X → Result Y E)
    → ((r1 >>= λ a. r2 a >>= λ b. r3 a b >>= λ c. r4 a b c >>= λ d. r5 a b c d >>= λ f. r6 a b c d f >>= λ g. Ok (make a b c d f g)) >>= k) ≡ (r1 >>= λ a. r2 a >>= λ b. r3 a b >>= λ c. r4 a b c >>= λ d. r5 a b c d >>= λ f. r6 a b c d f >>= λ g. k (make a b c d f g))
six (Ok a) r2 r3 r4 r5 r6 make k = five (r2 a) (r3 a) (r4 a) (r5 a) (r6 a) (make a) k
six (Err e) r2 r3 r4 r5 r6 make k = refl

bind_same : {A B E : Type 0} (r : Result A E) (f g : A → Result B E) → ((x : A) → f x ≡ g x) → (r >>= f) ≡ (r >>= g)
bind_same (Ok x) f g h = h x
bind_same (Err e) f g h = refl

-- what stands behind the front
abbrev rest_of_script : (Header × List Item) × List Line → Result Script ScriptFault
rest_of_script front = body_lines front.0.0 [] front.1 >>= λ body. Ok (script_of_parts front.0.0 (lists_below 16 front.0.1) body)

-- the lists, behind the optional lines
abbrev lists_then_rest : Required → Optional × List Line → Result Script ScriptFault
lists_then_rest required optional =
    several Recorders 4 (codes "recorder") (recorder required.rate) [] optional.1 >>= λ recorders.
    disks_of (required.version == 3) recorders.1 >>= λ disks.
    events_of (required.version == 3) disks.1 >>= λ events.
    rest_of_script ((header_of required optional.0 recorders.0 disks.0, events.0), events.1)

abbrev optional_then_rest : Required × List Line → Result Script ScriptFault
optional_then_rest required =
    optional 16 (codes "ring") (number 1 64) required.1 >>= λ ring.
    optional 4 (codes "drain") (number 0 64) ring.1 >>= λ drain.
    fill_of (required.0.version == 3) drain.1 >>= λ fill.
    lists_then_rest required.0 (record { ring = ring.0; drain = drain.0; fill = fill.0 }, fill.1)

pub front-whole : (end : ℕ) (lines : List Line) → (front_of end lines >>= rest_of_script) ≡ script_of_lines end lines
front-whole end lines =
    five (required_of end lines)
    (λ required. optional_of (required.0.version == 3) required.1)
    (λ required optional. several Recorders 4 (codes "recorder") (recorder required.0.rate) [] optional.1)
    (λ required optional recorders. disks_of (required.0.version == 3) recorders.1)
    (λ required optional recorders disks. events_of (required.0.version == 3) disks.1)
    (λ required optional recorders disks events. ((header_of required.0 optional.0 recorders.0 disks.0, events.0), events.1))
    rest_of_script
    ∙ bind_same (required_of end lines) (λ required. optional_of (required.0.version == 3) required.1 >>= lists_then_rest required.0) optional_then_rest (λ required.
    three (optional 16 (codes "ring") (number 1 64) required.1)
    (λ ring. optional 4 (codes "drain") (number 0 64) ring.1)
    (λ ring drain. fill_of (required.0.version == 3) drain.1)
    (λ ring drain fill. (record { ring = ring.0; drain = drain.0; fill = fill.0 }, fill.1))
    (lists_then_rest required.0))
    ∙ six (required end (codes "jackd") version lines)
    (λ v. required end (codes "rate") (number 8000 192000) v.1)
    (λ v rate. required end (codes "period") period rate.1)
    (λ v rate p. required end (codes "capture") (number 1 8) p.1)
    (λ v rate p capture. required end (codes "playback") channels_and_bits capture.1)
    (λ v rate p capture playback. required end (codes "mode") (workers v.0) playback.1)
    (λ v rate p capture playback m. (record { version = v.0; rate = rate.0; period = p.0; capture = capture.0; playback = playback.0.0; bits = playback.0.1; threads = m.0.0; steal = m.0.1 }, m.1))
    optional_then_rest

-- the parts that were read, and where one of them is faulty
pub whole-read : (end : ℕ) (lines after : List Line) (header : Header) (order : List Item) (body : List Body) (events : List (List (ℕ × Event))) → front_of end lines ≡ Ok ((header, order), after) → body_lines header [] after ≡ Ok body → events ≡ lists_below 16 order → script_of_lines end lines ≡ Ok (script_of_parts header events body)
whole-read end lines after header order body events f b e = sym (front-whole end lines) ∙ rw (f, b, e) refl

pub front-faulty : (end : ℕ) (lines : List Line) (fault : ScriptFault) → front_of end lines ≡ Err fault → script_of_lines end lines ≡ Err fault
front-faulty end lines fault f = sym (front-whole end lines) ∙ rw f refl

pub body-faulty : (end : ℕ) (lines after : List Line) (header : Header) (order : List Item) (fault : ScriptFault) → front_of end lines ≡ Ok ((header, order), after) → body_lines header [] after ≡ Err fault → script_of_lines end lines ≡ Err fault
body-faulty end lines after header order fault f b = sym (front-whole end lines) ∙ rw (f, b) refl

pub front-faulty-at : (bytes : List ℕ) (text : Remaining) (fault : ScriptFault) → text ≡ remaining_from 1 bytes → front_of text.end text.lines ≡ Err fault → script_of_lines (line_after bytes) (said bytes) ≡ Err fault
front-faulty-at bytes text fault is e = front-faulty (line_after bytes) (said bytes) fault (ap (λ (n : ℕ). front_of n (said bytes)) (plus (length (text_lines bytes))) ∙ ap (λ (t : Remaining). front_of t.end t.lines) (sym is) ∙ e)
  where
    plus : (n : ℕ) → n + 1 ≡ 1 + n
    plus n = omega arith

-- ---- what was read

pub lawful : (bytes : List ℕ) (script : Script) → script_of bytes ≡ Ok script → IsLawful script
lawful bytes script e = record { lawful = (spelled bytes script e).1 }

pub only-script : (bytes : List ℕ) (script other : Script) → script_of bytes ≡ Ok script → Spells bytes other → script ≡ other
only-script bytes script other e s = ok_is script other (sym e ∙ read bytes other s)

pub fault-is : (bytes : List ℕ) (fault : ScriptFault) → script_of bytes ≡ Err fault → script_fault bytes ≡ Some fault
fault-is bytes fault e = ap fault_of e

pub no-script : (bytes : List ℕ) (fault : ScriptFault) (other : Script) → script_of bytes ≡ Err fault → Spells bytes other → ⊥
no-script bytes fault other e s = failed (sym e ∙ read bytes other s)
  where
    failed : Err fault ≡ Ok other → ⊥
    failed h = absurd cc

-- ---- the lists of a script

pub lists-count : {V : Type 0} (items : V → List (ℕ × Event)) (vs : List V) (header : Header) (lines : List Body) → IsLawful (script_of_parts header (map items vs) lines) → length vs ≡ 16
lists-count items vs header lines h = sym (length-map vs items) ∙ h.lawful.lists

pub list-sizes : {V : Type 0} (items : V → List (ℕ × Event)) (vs : List V) (header : Header) (lines : List Body) → IsLawful (script_of_parts header (map items vs) lines) → All (λ v. All (λ item. item.1.size ≤ 16) (items v)) vs
list-sizes {V} items vs header lines h = All-from_recursion (λ v. All (λ item. item.1.size ≤ 16) (items v)) vs (sizes vs (recursion_from_All (All IsListed) (map items vs) h.lawful.listed))
  where
    sizes : (vs : List V) → AllByRecursion (All IsListed) (map items vs) → AllByRecursion (λ v. All (λ item. item.1.size ≤ 16) (items v)) vs
    sizes [] g = tt
    sizes (v ∷ vs) g = (λ k d lt. (g.0 k d lt).event.most, sizes vs g.1)

pub list-at : {V : Type 0} (items : V → List (ℕ × Event)) (vs : List V) (n : ℕ) (v : V) → n < length vs → v ≡ get_or vs n v → items v ≡ slice_index_or (map items vs) n []
list-at items [] n v lt is = absurd (omega (arith, lt))
list-at items (w ∷ vs) zero v lt is = ap items is
list-at items (w ∷ vs) (suc n) v lt is = list-at items vs n v (omega (arith, lt)) is

-- one list more
pub lists-more : (n m : ℕ) (order : List Item) → m ≡ n + 1 → lists_below m order ≡ lists_below n order ++ list_of n order ∷ []
lists-more n m order e = ap (λ (k : ℕ). lists_below k order) (next n m e) ∙ map-append (λ list. list_of list order) (below n) (n ∷ [])
  where
    next : (n m : ℕ) → m ≡ n + 1 → m ≡ suc n
    next n m e = omega (arith, e)

-- what is printed of a script spells it
pub text-spells : (bytes : List ℕ) (script inside now : Script) → bytes ≡ script_text script → script ≡ inside → inside ≡ now → IsLawful inside → Spells bytes now
text-spells bytes script inside now text same view l =
    subst (λ (s : Script). Spells bytes s) view
    (subst (λ (xs : List ℕ). Spells xs inside) (sym (text ∙ ap script_text same)) (printed inside l.lawful))
