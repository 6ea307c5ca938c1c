-- Text that grows word by word and line by line.
--     with_words text slots      the text, and then each slot's word behind a space
--     with_line text slots      the text, and then a line of these slots
--     with_lines text lines      the text, and then these lines
use Rattle.std.specs.Prelude.{ℕ, List, [], ◌∷◌, ◌++◌, map, flat_map, slice_index_or}
use Rattle.jack_types.specs.declared.events.Event.{Event}
use Rattle.grammar_laws.specs.session_model.specs.Grammar.{Slot, slot_text}
use Rattle.grammar_laws.specs.session_model.specs.Reports.{line}
use Rattle.grammar_laws.specs.session_model.specs.Samples.{below}

abbrev pub with_words : List ℕ → List Slot → List ℕ
with_words text [] = text
with_words text (slot ∷ slots) = with_words (text ++ 32 ∷ slot_text slot) slots

abbrev pub with_line : List ℕ → List Slot → List ℕ
with_line text slots = text ++ line (map slot_text slots)

abbrev pub with_lines : List ℕ → List (List Slot) → List ℕ
with_lines text [] = text
with_lines text (slots ∷ lines) = with_lines (with_line text slots) lines

-- the events of the first lists, list by list
abbrev pub first_lists : List (List (ℕ × Event)) → ℕ → List (ℕ × (ℕ × Event))
first_lists events n = flat_map (λ list. map (λ item. (list, item)) (slice_index_or events list [])) (below n)
