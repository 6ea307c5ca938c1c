-- What the calls of a script ask for.
--     open_kinds script      the kinds of its `open` calls, in their order
--     guests_needed script      one more than its greatest guest number, 0 where it asks for no guest
--     IsOldKind kind      a kind of the versions before 3
--     HasOpened changes birth kind      the change of this number opened a client of this kind
--     AreOwners changes kinds owners      which clients own benches of these kinds
use Rattle.std.specs.Prelude.{◌≡◌, ℕ, suc, max, ⊤, Bool, false, List, fold, filter_map, map, slice_get, slice_index_or, Contains, Option, Some, None}
use Rattle.std.specs.Option.{option_map_or}
use Rattle.jack_types.specs.declared.commands.Change.{Change}
use Rattle.jack_types.specs.declared.commands.Command.{Command}
use Rattle.jack_types.specs.declared.commands.Command.TheVariants.{Open}
use Rattle.jack_types.specs.declared.kinds.Kind.{Kind}
use Rattle.jack_types.specs.declared.kinds.Kind.TheVariants.{Guest, Midiplay, Midithru, Midilog, Disk}
use Rattle.driver_laws.specs.session_model.specs.Scripts.{Script, Planned, planned}

abbrev pub kind_opened : Command → Option Kind
kind_opened (Open _ kind) = Some kind
kind_opened _ = None

-- the kinds of the `open` calls
abbrev pub open_kinds : Script → List Kind
open_kinds script = filter_map (λ (plan : Planned). kind_opened plan.call.command) (planned script)

-- whether a change opens a client of a kind that passes a test
abbrev pub opens : (Kind → Bool) → Change → Bool
opens test change = option_map_or test (kind_opened change.command) false

-- how many guests there have to be for this kind
abbrev pub guest_bound : Kind → ℕ
guest_bound (Guest guest) = suc guest
guest_bound _ = 0

abbrev pub guests_needed : Script → ℕ
guests_needed script = fold max 0 (map guest_bound (open_kinds script))

-- not one of those that came with version 3
abbrev pub IsOldKind : Kind → Type 0
IsOldKind (Midiplay _) = ⊥
IsOldKind Midithru = ⊥
IsOldKind Midilog = ⊥
IsOldKind (Disk _) = ⊥
IsOldKind _ = ⊤

-- the change of this number opened a client of this kind
abbrev pub HasOpened : List Change → ℕ → Kind → Type 0
HasOpened changes birth kind = (change : Change) × Contains changes change × (change.number ≡ birth) × (kind_opened change.command ≡ Some kind)

-- by place the kind of a bench, and the birth of the client that owns it, if one does: a client owns one bench at most, of its own kind
pub record AreOwners (changes : List Change) (kinds : List Kind) (owners : List (Option ℕ)) : Type 0 where
  pub apart : (p q birth : ℕ) → slice_index_or owners p None ≡ Some birth → slice_index_or owners q None ≡ Some birth → p ≡ q
  pub opened : (p birth : ℕ) (kind : Kind) → slice_index_or owners p None ≡ Some birth → slice_get kinds p ≡ Some kind → HasOpened changes birth kind
