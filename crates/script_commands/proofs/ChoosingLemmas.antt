-- A word that chooses in two lists chooses in the one that they make.
use Rattle.std.proofs.Common.{◌≡◌, ℕ, Bool, true, false, List, [], ◌∷◌, ◌++◌, refl, sym, subst}
use Rattle.std.specs.Prelude.{◌&&◌, ◌==◌, Option, Some, None, Result, Ok, if◌then◌else◌}
use Rattle.std.specs.Str.{bytes_eq}
use Rattle.script_words.specs.jack_types.specs.declared.commands.Command.{Command}
use Rattle.script_words.specs.jack_types.specs.declared.kinds.Kind.{Kind}
use Rattle.script_words.specs.jack_types.specs.declared.scripts.Cause.{Cause}
use Rattle.script_words.specs.jack_types.specs.declared.scripts.Header.{Header}
use Rattle.script_words.specs.Reads.{Reads}
use Rattle.script_words.specs.session_model.specs.Reading.{◌>>=◌, Read, word, chosen, kind, command, old_kinds, new_kinds}
use Rattle.script_commands.specs.Choosing.{Choice, found_in, or_else, kind_of, command_of, graph_commands, other_commands}

pub found_in-append : {X : Type 0} (xs ys : List (Choice X)) (first : List ℕ) → found_in (xs ++ ys) first ≡ or_else (found_in xs first) (found_in ys first)
found_in-append [] ys first = refl
found_in-append (choice ∷ xs) ys first = go (bytes_eq first choice.0) (found_in-append xs ys first)
  where
    go : (b : Bool) → found_in (xs ++ ys) first ≡ or_else (found_in xs first) (found_in ys first) → (if b then Some choice else found_in (xs ++ ys) first) ≡ or_else (if b then Some choice else found_in xs first) (found_in ys first)
    go true later = refl
    go false later = later

pub found_in-maybe : {X : Type 0} (b : Bool) (xs ys : List (Choice X)) (first : List ℕ) → found_in (if b then xs ++ ys else xs) first ≡ or_else (found_in xs first) (if b then found_in ys first else None)
found_in-maybe true xs ys first = found_in-append xs ys first
found_in-maybe false xs ys first = nothing_more (found_in xs first)
  where
    nothing_more : {X : Type 0} (o : Option (Choice X)) → o ≡ or_else o None
    nothing_more None = refl
    nothing_more (Some choice) = refl

pub kind-reads : (header : Header) (words others after : List (List ℕ)) (first : List ℕ) (result : Result Kind Cause) → word words ≡ Ok (first, others) → Reads result after (chosen (kind_of header first) others) → Reads result after (kind header words)
kind-reads header words others after first result e h =
    subst (λ (r : Read (List ℕ)). Reads result after (r >>= λ w. chosen (found_in (if header.version == 3 then old_kinds header ++ new_kinds header else old_kinds header) w.0) w.1)) (sym e)
    (subst (λ (o : Option (Choice Kind)). Reads result after (chosen o others)) (sym (found_in-maybe (header.version == 3) (old_kinds header) (new_kinds header) first)) h)

pub command-reads : (header : Header) (words others after : List (List ℕ)) (first : List ℕ) (result : Result Command Cause) → word words ≡ Ok (first, others) → Reads result after (chosen (command_of header first) others) → Reads result after (command header words)
command-reads header words others after first result e h =
    subst (λ (r : Read (List ℕ)). Reads result after (r >>= λ w. chosen (found_in (graph_commands header ++ other_commands) w.0) w.1)) (sym e)
    (subst (λ (o : Option (Choice Command)). Reads result after (chosen o others)) (sym (found_in-append (graph_commands header) other_commands first)) h)
