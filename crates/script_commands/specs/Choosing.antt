-- A word that chooses how to go on, by two lists one behind the other.
--     found_in choices first      what a word chooses, among the choices
--     or_else one other      the first of two choices
--     kind_of header first, command_of header first      what a kind's or a command's word chooses
--     behind choice words      what the choice reads behind its word
use Rattle.std.specs.Prelude.{ℕ, List, [], ◌∷◌, find, ◌&&◌, ◌==◌, codes, Option, Some, None, if◌then◌else◌}
use Rattle.std.specs.Str.{bytes_eq}
use Rattle.script_words.specs.jack_types.specs.declared.commands.Command.{Command}
use Rattle.script_words.specs.jack_types.specs.declared.commands.Command.TheVariants.{Open, Close, Activate, Deactivate, Unregister, Connect, Disconnect, Start, Stop, Locate, Timeout, Slow, Timebase, TimebaseIf, Release, Latency}
use Rattle.script_words.specs.jack_types.specs.declared.kinds.Kind.{Kind}
use Rattle.script_words.specs.jack_types.specs.declared.scripts.Header.{Header}
use Rattle.script_words.specs.session_model.specs.Reading.{Reader, just, made, made_of_two, client, port, number, kind, mode, registering, tempo, old_kinds, new_kinds}

abbrev pub Choice : Type 0 → Type 0
Choice X = List ℕ × Reader X

abbrev pub found_in : {X : Type 0} → List (Choice X) → List ℕ → Option (Choice X)
found_in choices first = find (λ choice. bytes_eq first choice.0) choices

abbrev pub or_else : {X : Type 0} → Option (Choice X) → Option (Choice X) → Option (Choice X)
or_else (Some choice) other = Some choice
or_else None other = other

-- the kinds of all versions, and then those of version 3
abbrev pub kind_of : Header → List ℕ → Option (Choice Kind)
kind_of header first = or_else (found_in (old_kinds header) first) (if header.version == 3 then found_in (new_kinds header) first else None)

-- the commands on clients, ports and connections
abbrev pub graph_commands : Header → List (Choice Command)
graph_commands header =
    (codes "open", made_of_two client (kind header) Open)
    ∷ (codes "close", made client Close)
    ∷ (codes "activate", made client Activate)
    ∷ (codes "deactivate", made client Deactivate)
    ∷ (codes "register", registering)
    ∷ (codes "unregister", made port Unregister)
    ∷ (codes "connect", made_of_two port port Connect)
    ∷ (codes "disconnect", made_of_two port port Disconnect)
    ∷ []

-- the commands on transport, times and latency
abbrev pub other_commands : List (Choice Command)
other_commands =
    (codes "start", just Start)
    ∷ (codes "stop", just Stop)
    ∷ (codes "locate", made (number 0 2147483647) Locate)
    ∷ (codes "timeout", made (number 0 1000000) Timeout)
    ∷ (codes "slow", made_of_two client (number 0 1000) Slow)
    ∷ (codes "timebase", tempo Timebase)
    ∷ (codes "timebase_if", tempo TimebaseIf)
    ∷ (codes "release", made client Release)
    ∷ (codes "latency", made_of_two mode port Latency)
    ∷ []

abbrev pub command_of : Header → List ℕ → Option (Choice Command)
command_of header first = or_else (found_in (graph_commands header) first) (found_in other_commands first)
