-- What the inputs of a bench are mixed from.
--     source_part source      what a source gives by itself
--     part_in wires wire      what a wire brings among these
--     parts_of all wires input, parts_into wires input      the parts of an input that some of all wires bring, and that all bring, in the order of making
--     inputs_of frames wires given count      the mixes of so many inputs
--     is_kept wire      its samples lie in a room of the bench
--     kept_count wires      how many such rooms there are
--     filled_with samples source, with_samples wires place samples      a source, and the wires, with these samples in the room of one, if it has one
use Rattle.std.specs.Prelude.{ℕ, ◌==◌, Bool, true, false, List, [], ℤ, map, filter, count_by, slice_index_or, slice_set}
use Rattle.activation.specs.session_model.specs.Benches.{Part, Known, Handed, Signal, audio_part}
use Rattle.activation.specs.session_model.specs.Samples.{below, mix}
use Rattle.client_benches.specs.declared.wires.Source.{Source}
use Rattle.client_benches.specs.declared.wires.Source.TheVariants.{Kept, Carried, Like}
use Rattle.client_benches.specs.declared.wires.Wire.{Wire}

abbrev pub no_wire : Wire
no_wire = record { input = 0; source = Kept [] }

abbrev pub wire_at : List Wire → ℕ → Wire
wire_at wires place = slice_index_or wires place no_wire

-- what is like another gives nothing by itself
abbrev pub source_part : Source → Part (List ℤ)
source_part (Kept samples) = Known samples
source_part (Carried link connection) = Handed link connection
source_part (Like place) = Known []

-- what is like another brings what that gives by itself, nothing where there is none
abbrev pub source_in : List Wire → Source → Part (List ℤ)
source_in wires (Like place) = source_part (wire_at wires place).source
source_in wires source = source_part source

abbrev pub part_in : List Wire → Wire → Part (List ℤ)
part_in wires wire = source_in wires wire.source

abbrev pub parts_of : List Wire → List Wire → ℕ → List (Part (List ℤ))
parts_of all wires input = map (part_in all) (filter (λ (wire : Wire). wire.input == input) wires)

abbrev pub parts_into : List Wire → ℕ → List (Part (List ℤ))
parts_into wires input = parts_of wires wires input

-- each input is the mix of its parts
abbrev pub inputs_of : ℕ → List Wire → List (List Signal) → ℕ → List (List ℤ)
inputs_of frames wires given count = map (λ input. mix frames (map (audio_part given) (parts_into wires input))) (below count)

abbrev pub is_kept : Wire → Bool
is_kept wire = kept wire.source
  where
    kept : Source → Bool
    kept (Kept samples) = true
    kept _ = false

abbrev pub kept_count : List Wire → ℕ
kept_count wires = count_by is_kept wires

abbrev pub filled_with : List ℤ → Source → Source
filled_with samples (Kept before) = Kept samples
filled_with samples source = source

abbrev pub with_samples : List Wire → ℕ → List ℤ → List Wire
with_samples wires place samples = slice_set wires place (record (wire_at wires place) { source = filled_with samples (wire_at wires place).source })
