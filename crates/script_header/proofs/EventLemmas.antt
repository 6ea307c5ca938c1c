-- Event lines, with the frames of the lists' last events.
use Rattle.std.proofs.Common.{◌≡◌, ℕ, ◌<◌, ◌≤◌, Bool, true, false, List, [], ◌∷◌, ◌++◌, length, length-append, refl, sym, ap, subst, ◌∙◌, arith}
use Rattle.std.proofs.lemmas.List.Elements.{All-append, All-from_recursion}
use Rattle.std.proofs.lemmas.List.{get_or-set_same, get_or-set_other, length-set}
use Rattle.std.specs.Prelude.{◌≢◌, All, Some, codes, Result, Ok, Err, pos, fold, slice_index, if◌then◌else◌, ◌==◌, slice_set}
use Rattle.jack_types.specs.declared.events.Event.{Event}
use Rattle.jack_types.specs.declared.scripts.Cause.{Cause}
use Rattle.jack_types.specs.declared.scripts.Cause.TheVariants.{TooMany}
use Rattle.jack_types.specs.declared.scripts.Many.TheVariants.{Events}
use Rattle.jack_types.specs.declared.scripts.ScriptFault.{ScriptFault}
use Rattle.grammar_laws.specs.session_model.specs.Grammar.{IsIn}
use Rattle.grammar_laws.specs.session_model.specs.Reading.{◌>>=◌, Read, word, number, ranged, status_byte, hex_bytes, event_with, frame_before, event, at_line, several, whole}
use Rattle.grammar_laws.specs.session_model.specs.Texts.{Line}
use Rattle.script_commands.specs.script_words.specs.Remaining.{begun_line}
use Rattle.script_header.specs.LineReads.{wholly}
use Rattle.script_header.proofs.HeaderLemmas.{several-more, several-faulty, several-passed}
use Rattle.grammar_laws.proofs.GrammarReaders.{number-reads}
use Rattle.script_commands.specs.script_words.specs.Midi.{midi, midi_event}
use Rattle.script_header.specs.Fronts.{Item, event_behind}

bind_same : {A B E : Type 0} (r : Result A E) (f g : A → Result B E) → ((x : A) → r ≡ Ok x → f x ≡ g x) → (r >>= f) ≡ (r >>= g)
bind_same (Ok x) f g h = h x refl
bind_same (Err e) f g h = refl

-- an event's word, and what is made of it
abbrev item_of : ℕ → ℕ → Event × List (List ℕ) → Read Item
item_of list frame event = Ok ((list, (frame, event.0)), event.1)

abbrev item_with : ℕ → ℕ → List (List ℕ) → List ℕ → Read Item
item_with list frame rest bytes = Ok ((list, (frame, event_with bytes)), rest)

abbrev with_rest : List (List ℕ) → Event → Read Event
with_rest rest event = Ok (event, rest)

spelled : (list frame : ℕ) (rest : List (List ℕ)) (r : Result (List ℕ) Cause) → (((r >>= λ bytes. Ok (event_with bytes)) >>= with_rest rest) >>= item_of list frame) ≡ (r >>= item_with list frame rest)
spelled list frame rest (Ok bytes) = refl
spelled list frame rest (Err cause) = refl

midi-made : (words : List (List ℕ)) (list frame : ℕ) → (midi words >>= item_of list frame) ≡ (word words >>= λ w. status_byte (hex_bytes w.0) >>= item_with list frame w.1)
midi-made words list frame = go (word words)
  where
    go : (r : Read (List ℕ)) → ((r >>= λ w. midi_event w.0 >>= with_rest w.1) >>= item_of list frame) ≡ (r >>= λ w. status_byte (hex_bytes w.0) >>= item_with list frame w.1)
    go (Ok w) = spelled list frame w.1 (status_byte (hex_bytes w.0))
    go (Err cause) = refl

-- the last frames are those of the events found so far
pub record AreLast (last : List ℕ) (found : List Item) : Type 0 where
  pub size : length last ≡ 16
  pub each : (list : ℕ) → list < 16 → slice_index last list ≡ frame_before found list

pub event-same : (last : List ℕ) (found : List Item) → AreLast last found → (words : List (List ℕ)) → event_behind last words ≡ event found words
event-same last found are words =
    bind_same {E = Cause} (number 0 15 words) _ _ (λ list e.
    bind_same {E = Cause} (number 0 2147483647 list.1) _ _ (λ frame k.
    let in_range = (number-reads 0 15).takes words list e in
    let same : slice_index last list.0 ≡ frame_before found list.0 = are.each list.0 (small list.0 in_range.1) in
    ap (λ (n : ℕ). ranged (pos n) (pos 2147483647) (pos frame.0) >>= λ risen. midi frame.1 >>= item_of list.0 frame.0) same
    ∙ bind_same {E = Cause} (ranged (pos (frame_before found list.0)) (pos 2147483647) (pos frame.0)) _ _ (λ risen r. midi-made frame.1 list.0 frame.0)))
  where
    small : (n : ℕ) → IsIn 0 15 n → n < 16
    small n h = let most = h.1 in omega (arith, most)

fold-more : (list before : ℕ) (found : List Item) (item : Item) → fold (λ (b : ℕ) (i : Item). if i.0 == list then i.1.0 else b) before (found ++ item ∷ []) ≡ (if item.0 == list then item.1.0 else fold (λ (b : ℕ) (i : Item). if i.0 == list then i.1.0 else b) before found)
fold-more list before [] item = refl
fold-more list before (first ∷ found) item = fold-more list (if first.0 == list then first.1.0 else before) found item

pub last-none : (last : List ℕ) → length last ≡ 16 → ((list : ℕ) → list < 16 → slice_index last list ≡ 0) → AreLast last []
last-none last n zeros = record { size = n; each = zeros }

pub last-more : (last : List ℕ) (found : List Item) (item : Item) → item.0 < 16 → AreLast last found → AreLast (slice_set last item.0 item.1.0) (found ++ item ∷ [])
last-more last found item lt are = record { size = simp length-set are.size; each = each }
  where
    each : (list : ℕ) → list < 16 → slice_index (slice_set last item.0 item.1.0) list ≡ frame_before (found ++ item ∷ []) list
    each list k = fold_to list k ∙ sym (fold-more list 0 found item)
      where
        fold_to : (list : ℕ) → list < 16 → slice_index (slice_set last item.0 item.1.0) list ≡ (if item.0 == list then item.1.0 else frame_before found list)
        fold_to list k = go (item.0 == list) refl
          where
            go : (b : Bool) → (item.0 == list) ≡ b → slice_index (slice_set last item.0 item.1.0) list ≡ (if b then item.1.0 else frame_before found list)
            go true e =
                let same : item.0 ≡ list = grind arith in
                let size = are.size in
                let fits : item.0 < length last = omega (arith, size, lt) in
                subst (λ (l : ℕ). slice_index (slice_set last item.0 item.1.0) l ≡ item.1.0) same (get_or-set_same last item.0 item.1.0 0 fits)
            go false e =
                let apart : list ≢ item.0 = grind arith in
                get_or-set_other last item.0 list item.1.0 0 apart ∙ are.each list k

-- the loop's step, and its ends
whole-same : (last : List ℕ) (found : List Item) → AreLast last found → (words : List (List ℕ)) → wholly (event_behind last) words ≡ (event found words >>= whole)
whole-same last found are words = ap (λ (r : Read Item). r >>= whole) (event-same last found are words)

all-more : {X : Type 0} (P : X → Type 0) (xs : List X) (x : X) → All P xs → P x → All P (xs ++ x ∷ [])
all-more P xs x all p = All-append P xs (x ∷ []) all (All-from_recursion P (x ∷ []) (p, tt))

pub event-added : (last : List ℕ) (found now : List Item) (start lines after : List Line) (line : Line) (item : Item)
    → several Events 4096 (codes "event") event [] start ≡ several Events 4096 (codes "event") event found lines → AreLast last found → All (λ (i : Item). i.0 < 16) found → length found < 4096
    → begun_line (codes "event") lines ≡ Some (line, after) → Ok item ≡ at_line line.number (wholly (event_behind last) line.words) → item.0 < 16 → now ≡ found ++ item ∷ []
    → (several Events 4096 (codes "event") event [] start ≡ several Events 4096 (codes "event") event now after) × (length now ≤ 4096) × AreLast (slice_set last item.0 item.1.0) now × All (λ (i : Item). i.0 < 16) now
event-added last found now start lines after line item same are lists few begun read list now-is = (
  same ∙ several-more Events 4096 (codes "event") event found lines after line item begun (read ∙ ap (λ (r : Result Item Cause). at_line line.number r) (whole-same last found are line.words)) few ∙ ap (λ (xs : List Item). several Events 4096 (codes "event") event xs after) (sym now-is),
  (let n = ap length now-is in let m = length-append found (item ∷ []) in omega (arith, n, m, few)),
  subst (λ (xs : List Item). AreLast (slice_set last item.0 item.1.0) xs) (sym now-is) (last-more last found item list are),
  subst (λ (xs : List Item). All (λ (i : Item). i.0 < 16) xs) (sym now-is) (all-more (λ (i : Item). i.0 < 16) found item lists list),
)

pub event-faulty : (last : List ℕ) (found : List Item) (start lines after : List Line) (line : Line) (fault : ScriptFault)
    → several Events 4096 (codes "event") event [] start ≡ several Events 4096 (codes "event") event found lines → AreLast last found
    → begun_line (codes "event") lines ≡ Some (line, after) → Err fault ≡ at_line line.number (wholly (event_behind last) line.words)
    → several Events 4096 (codes "event") event [] start ≡ Err fault
event-faulty last found start lines after line fault same are begun read = same ∙ several-faulty Events 4096 (codes "event") event found lines after line fault begun (read ∙ ap (λ (r : Result Item Cause). at_line line.number r) (whole-same last found are line.words))

pub event-passed : (last : List ℕ) (found : List Item) (start lines after : List Line) (line : Line) (item : Item)
    → several Events 4096 (codes "event") event [] start ≡ several Events 4096 (codes "event") event found lines → AreLast last found
    → begun_line (codes "event") lines ≡ Some (line, after) → Ok item ≡ at_line line.number (wholly (event_behind last) line.words) → 4096 ≤ length found
    → several Events 4096 (codes "event") event [] start ≡ Err (record { line = line.number; cause = TooMany Events 4096 })
event-passed last found start lines after line item same are begun read many = same ∙ several-passed Events 4096 (codes "event") event found lines after line item begun (read ∙ ap (λ (r : Result Item Cause). at_line line.number r) (whole-same last found are line.words)) many
