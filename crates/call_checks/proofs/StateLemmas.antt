-- The states behind commands of a script.
--     command-tempo      a master's numbers are a tempo
--     short-after      behind a command clients have short delays, where they had before it
use Rattle.std.proofs.Common.{ℕ, List, All, subst, arith}
use Rattle.jack_types.specs.declared.commands.Command.{Command}
use Rattle.jack_types.specs.declared.scripts.Header.{Header}
use Rattle.session_model.specs.Commands.{after}
use Rattle.session_model.specs.Grammar.{IsCommand}
use Rattle.session_model.specs.State.{State, opening}
use Rattle.session_laws.proofs.ListLemmas.{Each, Each-from_contains}
use Rattle.graph_replies.specs.Told.{HasShortDelays}
use Rattle.call_laws.proofs.StateLemmas.{All-each, IsShort, after-short}

-- ---- tempos and delays

each-all : {X : Type 0} (P : X → Type 0) (xs : List X) → All P xs → Each P xs
each-all P xs all = Each-from_contains P xs (λ x c. subst P c.2 (all c.0 x c.1))

pub short-opening : (capture playback : ℕ) → HasShortDelays (opening capture playback)
short-opening capture playback = All-each IsShort (opening capture playback).clients (omega arith, tt)

pub short-after : (header : Header) (state : State) (number : ℕ) (command : Command) → IsCommand header command → HasShortDelays state → HasShortDelays (after state number command)
short-after header state number command c h = All-each IsShort (after state number command).clients (after-short header state number command c (each-all IsShort state.clients h))
