-- The insides of rooms. No public clause cites this module.
--     samples_in, IsRoom      what a room holds, and what stays true of it
--     signal_of frames outputs carried      the signal of a connection that carries one of these planar outputs, or none
--     LiesWithin frames outputs carried      that output lies within them
--     with_output frames outputs buffers carried      buffers into which it was copied
--     signals_in, AreRooms      what rooms hold, and what stays true of them
use Rattle.std.specs.Prelude.{ℕ, ◌+◌, ◌*◌, ◌≤◌, ⊤, List, [], ℤ, Option, Some, None, length, map, take, slice_range, All, vec_capacity}
use Rattle.activation.specs.session_model.specs.Benches.{Signal, no_signal}
use Rattle.client_kinds.specs.Buffers.{with_buffer}
use Rattle.client_benches.specs.declared.known.Room.TheInside.{Inside as RoomInside}
use Rattle.client_benches.specs.declared.values.Load.{Load}

-- the first so many samples
abbrev pub samples_in : RoomInside → List ℤ
samples_in room = take room.frames room.samples.items

pub record IsRoom (room : RoomInside) : Type 0 where
  pub most : 4096 ≤ vec_capacity room.samples
  pub within : room.frames ≤ length room.samples.items

-- outputs lie one after the other, a period each
abbrev pub signal_of : ℕ → List ℤ → Option ℕ → Signal
signal_of frames outputs (Some j) = record { audio = slice_range outputs (j * frames) (j * frames + frames); midi = [] }
signal_of frames outputs None = no_signal

abbrev pub LiesWithin : ℕ → List ℤ → Option ℕ → Type 0
LiesWithin frames outputs (Some j) = j * frames + frames ≤ length outputs
LiesWithin frames outputs None = ⊤

abbrev pub with_output : ℕ → List ℤ → List ℤ → Option ℕ → List ℤ
with_output frames outputs buffers (Some j) = with_buffer frames j buffers (slice_range outputs (j * frames) (j * frames + frames))
with_output frames outputs buffers None = buffers

-- a signal per connection
abbrev pub signals_in : Load → List Signal
signals_in load = map (signal_of load.frames load.outputs.items) load.carried.items

pub record AreRooms (load : Load) : Type 0 where
  pub most : 65536 ≤ vec_capacity load.outputs
  pub carried : All (LiesWithin load.frames load.outputs.items) load.carried.items
  pub capacity : 512 ≤ vec_capacity load.carried
