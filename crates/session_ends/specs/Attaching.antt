-- How a store is attached. No public clause cites this module.
--     Starts format given tape      a file was begun in the store that was given
--     Refuses format given back      the store came back
--     StartsNext sounding given before begun after      the file of the next place was begun, or its store came back
use Rattle.std.specs.Prelude.{◌≡◌, suc, ◌≤◌, Bool, true, false, [], ◌∷◌, ◌++◌, length, IfSome, is_some}
use Rattle.jack_types.specs.declared.files.Format.{Format}
use Rattle.jack_host.specs.Causes.{Rose}
use Rattle.session_model.specs.Kinds.{Sound}
use Rattle.client_kinds.specs.Scores.{Score}
use Rattle.driver_words.specs.Tapes.{IsCut, Tape}
use Rattle.recorder_files.specs.Recorders.{Stored}
use Rattle.session_works.specs.Parts.{Parts, stores_in}
use Rattle.session_works.specs.Standings.{IsAttaching, IsBegun, format_next}

pub record Starts (format : Format) (given : Stored) (tape : Tape) : Type 0 where
  pub begun : IsBegun format tape
  pub name : tape.name ≡ given.name
  pub tells : is_some tape.bytes ≡ is_some given.bytes
  pub faults : given.faults ≤ tape.faults

-- with a front of the header
pub record Refuses (format : Format) (given back : Stored) : Type 0 where
  pub name : back.name ≡ given.name
  pub tells : is_some back.bytes ≡ is_some given.bytes
  pub faults : given.faults ≤ back.faults
  pub rose : Rose given.faults back.faults
  pub cut : IfSome back.bytes (IsCut format)

-- there is one store more, and nothing else changed
pub record StartsNext (sounding : Score → Sound) (given : Stored) (before : Parts) (begun : Bool) (after : Parts) : Type 0 where
  pub attaching : begun ≡ true → IsAttaching sounding (record after { attached = suc before.attached })
  pub back : Stored
  pub stores : stores_in after ≡ stores_in before ++ back ∷ []
  pub name : back.name ≡ given.name
  pub tells : is_some back.bytes ≡ is_some given.bytes
  pub faults : given.faults ≤ back.faults
  pub rose : begun ≡ false → Rose given.faults back.faults
  pub cut : begun ≡ false → IfSome back.bytes (IsCut (format_next before))
  pub desk : after.desk ≡ before.desk
  pub players : after.players ≡ before.players
  pub gear : after.gear ≡ record before.gear { playback = after.gear.playback }
  pub as_many : length after.recorders ≡ length before.recorders
  pub attached : after.attached ≡ before.attached
