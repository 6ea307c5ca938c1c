-- The files that a play makes, while they are out and when they are handed back. No public clause cites this module.
--     AreOut files names stores      these stores are of these names
--     AreApart names      no two of these names are the same
--     Empties old new      each name has no bytes, or those that it had
--     MakesOne files new name parts after      the name's file was made and is out, and what the session holds of it is behind its other stores
--     KeepsRest parts after      but for that all is as it was
--     AreFronts parts stores      each store has a front of the header of its place
--     IsWhole, IsPart      what stands under a store's name, once it was handed back
--     Stand P old new names stores, AllStand ..      the stores were handed back, and so stands what they had
--     AreRaised stores before after      a count rose where one of the stores had a fault
use Rattle.std.specs.Prelude.{◌≡◌, ◌⊎◌, ℕ, ◌≤◌, List, [], ◌∷◌, ◌++◌, length, slice_get, IfSome, IsSome, ⊤, Option, Some, None}
use Rattle.jack_host.specs.Causes.{Rose}
use Rattle.jack_host.specs.Files.{bytes_under, IsFrontOf, Makes}
use Rattle.jack_host.specs.Told.{BothTold}
use Rattle.session_model.specs.Soundness.{Apart}
use Rattle.recorder_files.specs.Recorders.{Stored}
use Rattle.session_run.specs.Seen.{Parts, stores_in}
use Rattle.session_run.specs.Standings.{format_at}
use Rattle.driver_words.specs.Tapes.{IsCut}
use Rattle.play_inputs.specs.Inputs.{Files}
use Rattle.jack_control.specs.Plays.{TouchesOnly}

-- the store tells its name, which is there, and its bytes
pub record IsHeld (files : Files) (name : List ℕ) (store : Stored) : Type 0 where
  pub named : store.name ≡ Some name
  pub there : IsSome (bytes_under files name)
  pub tells : IsSome store.bytes

-- where the files are told
abbrev pub IsOut : Option Files → List ℕ → Stored → Type 0
IsOut None name store = ⊤
IsOut (Some files) name store = IsHeld files name store

pub record AreOut (files : Option Files) (names : List (List ℕ)) (stores : List Stored) : Type 0 where
  pub as_many : length stores ≡ length names
  pub each : (i : ℕ) (name : List ℕ) (store : Stored) → slice_get names i ≡ Some name → slice_get stores i ≡ Some store → IsOut files name store

abbrev pub Empties : Option Files → Option Files → Type 0
Empties old new =
    BothTold old new (λ before after. (name : List ℕ) → (bytes_under after name ≡ Some []) ⊎ (bytes_under after name ≡ bytes_under before name))

pub record MakesOne (files new : Option Files) (name : List ℕ) (parts after : Parts) : Type 0 where
  pub made : Makes files new name
  pub back : Stored
  pub stores : stores_in after ≡ stores_in parts ++ back ∷ []
  pub out : IsOut new name back

pub record KeepsRest (parts after : Parts) : Type 0 where
  pub desk : after.desk ≡ parts.desk
  pub gear : after.gear ≡ record parts.gear { playback = after.gear.playback }
  pub as_many : length after.recorders ≡ length parts.recorders
  pub players : after.players ≡ parts.players

-- the playback's is at place 0, and that of recorder i at place i + 1
abbrev pub AreFronts : Parts → List Stored → Type 0
AreFronts parts stores = (i : ℕ) (store : Stored) → slice_get stores i ≡ Some store → IfSome store.bytes (IsCut (format_at i parts))

-- one of the stores has a fault
abbrev pub OneFailed : List Stored → Type 0
OneFailed stores = (i : ℕ) × (store : Stored) × (slice_get stores i ≡ Some store) × (1 ≤ store.faults)

abbrev pub AreApart : List (List ℕ) → Type 0
AreApart names = Apart (λ (name : List ℕ). name) names

-- how a store, what its name had and what it has go together
abbrev pub Standing : Type 1
Standing = Stored → Option (List ℕ) → Option (List ℕ) → Type 0

-- it has what its store has
abbrev pub IsWhole : Standing
IsWhole store before after = after ≡ store.bytes

-- or the first of that, or what it had
abbrev pub IsPart : Standing
IsPart store before after = (after ≡ before) ⊎ ((left : List ℕ) × IsFrontOf store.bytes left × (after ≡ Some left))

-- where the files are told
abbrev pub HasBytes : Standing → Option Files → Option Files → List ℕ → Stored → Type 0
HasBytes P old new name store = BothTold old new (λ before after. P store (bytes_under before name) (bytes_under after name))

-- one store, whose name alone was touched
pub record HandsOne (P : Standing) (old new : Option Files) (name : List ℕ) (store : Stored) : Type 0 where
  pub others : TouchesOnly old new (name ∷ [])
  pub has : HasBytes P old new name store

pub record Stand (P : Standing) (old new : Option Files) (names : List (List ℕ)) (stores : List Stored) : Type 0 where
  pub others : TouchesOnly old new names
  pub each : (i : ℕ) (name : List ℕ) (store : Stored) → slice_get names i ≡ Some name → slice_get stores i ≡ Some store → HasBytes P old new name store

-- whatever names they are of, where these are apart
abbrev pub AllStand : Standing → Option Files → Option Files → List Stored → Type 0
AllStand P old new stores = (names : List (List ℕ)) → AreOut old names stores → AreApart names → Stand P old new names stores

abbrev pub AreRaised : List Stored → ℕ → ℕ → Type 0
AreRaised stores before after = (i : ℕ) (store : Stored) → slice_get stores i ≡ Some store → 1 ≤ store.faults → Rose before after
