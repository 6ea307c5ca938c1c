-- A tremolo, output by output.
--     length-played      it plays the whole period
use Rattle.std.proofs.Common.{◌≡◌, ℕ, ◌+◌, List, [], length, ℤ}
use Rattle.std.specs.Prelude.{slice_index_or}
use Rattle.session_model.specs.Samples.{sample}
use Rattle.session_laws.proofs.ActivationLemmas.{length-map_below}
use Rattle.client_kinds.specs.Buffers.{buffers_of}
use Rattle.client_kinds.specs.declared.guests.Shape.{Shape}
use Rattle.guest_example.specs.Tremolos.{played, tremolo_sample}

pub length-played : (half start : ℕ) (ports : Shape) (input : List ℤ) (j : ℕ) → length (played half start ports input j) ≡ ports.period
length-played half start ports input j =
    length-map_below (λ i. tremolo_sample half j (start + i) (sample (slice_index_or (buffers_of ports.inputs ports.period input) j []) i)) ports.period
