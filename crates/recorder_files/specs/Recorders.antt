-- What contracts see of a session's recorder, and what its calls do.
--     Stored      a store that is no file in the making
--     Recording      what is seen of a recorder
--     held_in recording      the store that it holds, in whatever state
--     Reel      the two ends of a recorder's ring, its file in the making, and how many blocks were written into that
--     GivesUp most before after      blocks went from the ring to the file
--     BreaksOff before after      or the file failed
--     Tears before tape after tape_after      so it did while another thread put them
use Rattle.std.specs.Prelude.{◌≡◌, ℕ, ◌+◌, List, Option, Some, None}
use Rattle.jack_types.specs.declared.files.Format.{Format}
use Rattle.driver_words.specs.Rings.{Sending, Getting, Renews}
use Rattle.driver_words.specs.Tapes.{Tape}
use Rattle.disk_recorder.specs.Recordings.{Drains, Fails}

-- its name and its bytes, where it tells them, and its count of faults
pub record Stored : Type 0 where
  pub name : Option (List ℕ)
  pub bytes : Option (List ℕ)
  pub faults : ℕ

-- the end of its ring that gets, its file in the making, its store where that came back, and how many blocks were written
pub record Recording : Type 0 where
  pub format : Format
  pub getting : Getting
  pub tape : Option Tape
  pub store : Option Stored
  pub blocks : ℕ

-- a file in the making, as a store
abbrev pub stored_of : Tape → Stored
stored_of tape = record { name = tape.name; bytes = tape.bytes; faults = tape.faults }

abbrev pub held_or : Option Stored → Option Tape → Option Stored
held_or store None = store
held_or store (Some tape) = Some (stored_of tape)

abbrev pub held_in : Recording → Option Stored
held_in recording = held_or recording.store recording.tape

pub record Reel : Type 0 where
  pub ring : Sending
  pub getting : Getting
  pub tape : Tape
  pub blocks : ℕ

-- at most so many blocks went from the ring to the file; before and behind it both ends learnt how far the other is
pub record GivesUp (most : ℕ) (before after : Reel) : Type 0 where
  pub ring_met : Sending
  pub got_met : Getting
  pub first : Renews before.ring before.getting ring_met got_met
  pub count : ℕ
  pub written : Getting
  pub drains : Drains most count got_met before.tape written after.tape
  pub second : Renews ring_met written after.ring after.getting
  pub counted : after.blocks ≡ before.blocks + count

-- the file failed at one of them, and those before it are counted; both ends met all the same
pub record BreaksOff (before after : Reel) : Type 0 where
  pub ring_met : Sending
  pub got_met : Getting
  pub first : Renews before.ring before.getting ring_met got_met
  pub written : Getting
  pub fails : Fails got_met before.tape written after.tape
  pub second : Renews ring_met written after.ring after.getting
  pub counted : after.blocks ≡ before.blocks + fails.count

-- the file failed at a block, and those before it are counted
pub record Tears (before : Recording) (tape : Tape) (after : Recording) (tape_after : Tape) : Type 0 where
  pub fails : Fails before.getting tape after.getting tape_after
  pub counted : after.blocks ≡ before.blocks + fails.count
