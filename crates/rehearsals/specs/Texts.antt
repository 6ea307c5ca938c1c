-- The text of a rehearsal's script. No public clause cites this module.
--     text_by lines      the text of a script of these lines
--     end_calls last      the calls in front of the transport's start
use Rattle.std.specs.Prelude.{ℕ, List, [], ◌∷◌, codes}
use Rattle.jack_types.specs.declared.commands.Command.TheVariants.{Open, Activate, Register, Connect}
use Rattle.jack_types.specs.declared.kinds.Kind.TheVariants.{Tape}
use Rattle.jack_types.specs.declared.ports.PortKind.TheVariants.{Audio}
use Rattle.jack_types.specs.declared.ports.Way.TheVariants.{In}
use Rattle.jack_types.specs.declared.scripts.Body.{Body}
use Rattle.jack_types.specs.declared.scripts.Body.TheVariants.{Do}
use Rattle.rehearsal_model.specs.Rehearsals.{no_events, output_name, rehearsal_header}
use Rattle.session_model.specs.Grammar.{script_text}

abbrev pub text_by : List Body → List ℕ
text_by lines = script_text (record { header = rehearsal_header; events = no_events; lines = lines })

-- what the playback and the recorder get
abbrev pub end_calls : ℕ → List Body
end_calls last =
    Do (Connect (output_name 31) (codes "system:playback_1")) ∷ Do (Connect (output_name last) (codes "system:playback_2"))
    ∷ Do (Open (codes "tape") (Tape 0)) ∷ Do (Register (codes "tape:i") In Audio) ∷ Do (Activate (codes "tape")) ∷ Do (Connect (output_name 15) (codes "tape:i")) ∷ []
