-- Locates in their range.
--     IsTarget-lawful      a lawful command's locate is in its range
--     with_targets-all      where each locate is, none is left out
use Rattle.std.proofs.Common.{◌≡◌, Bool, true, cond, List, [], ◌∷◌, All, refl, ◌∙◌, ap}
use Rattle.std.proofs.lemmas.Bool.{le-leb}
use Rattle.std.proofs.lemmas.List.Elements.{All-head, All-tail}
use Rattle.jack_types.specs.declared.commands.Change.{Change}
use Rattle.jack_types.specs.declared.commands.Command.{Command}
use Rattle.jack_types.specs.declared.commands.Command.TheVariants.{Locate}
use Rattle.jack_types.specs.declared.scripts.Header.{Header}
use Rattle.session_model.specs.Grammar.{IsCommand}
use Rattle.transport.specs.Standings.{HasTarget, IsTarget, is_target, with_targets}

pub IsTarget-lawful : (header : Header) (command : Command) → IsCommand header command → IsTarget command
IsTarget-lawful header (Locate frame) h = h
IsTarget-lawful header _ h = tt

is_target-holds : (command : Command) → IsTarget command → is_target command ≡ true
is_target-holds (Locate frame) h = le-leb frame 2147483647 h
is_target-holds _ h = refl

pub with_targets-all : (changes : List Change) → All HasTarget changes → with_targets changes ≡ changes
with_targets-all [] all = refl
with_targets-all (change ∷ changes) all =
    ap (λ (b : Bool). cond b (change ∷ with_targets changes) (with_targets changes)) (is_target-holds change.command (All-head HasTarget change changes all))
    ∙ ap (λ (rest : List Change). change ∷ rest) (with_targets-all changes (All-tail HasTarget change changes all))
