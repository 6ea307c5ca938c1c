-- Buffers by their places.
--     heard_within, heard_past      what is heard at a place
--     fitted-by      outputs of the period stay as they are
use Rattle.std.proofs.Common.{◌≡◌, ℕ, ◌+◌, ◌*◌, ◌<◌, ◌≤◌, List, [], length, ℤ, sym, ◌∙◌, ap, arith}
use Rattle.std.specs.Prelude.{slice_index_or, slice_range}
use Rattle.std.proofs.lemmas.List.{get_or_past}
use Rattle.session_model.specs.Kinds.{fitted, outputs_by}
use Rattle.session_laws.proofs.ActivationLemmas.{get_or-map_below, length-map_below}
use Rattle.client_kinds.specs.Buffers.{buffers_of}
use Rattle.client_kinds.proofs.FitLemmas.{fitted-whole}

pub heard_within : (place count period : ℕ) (samples : List ℤ) → place < count → slice_index_or (buffers_of count period samples) place [] ≡ slice_range samples (place * period) (place * period + period)
heard_within place count period samples h = get_or-map_below (λ j. slice_range samples (j * period) (j * period + period)) count place [] h

pub heard_past : (place count period : ℕ) (samples : List ℤ) → count ≤ place → slice_index_or (buffers_of count period samples) place [] ≡ []
heard_past place count period samples h =
    get_or_past (buffers_of count period samples) place [] (omega (arith, h, length-map_below (λ j. slice_range samples (j * period) (j * period + period)) count))

pub fitted-by : (period outputs : ℕ) (f : ℕ → List ℤ) → ((j : ℕ) → length (f j) ≡ period) → outputs_by outputs f ≡ fitted period outputs (outputs_by outputs f)
fitted-by period outputs f sizes =
    sym (fitted-whole period outputs (outputs_by outputs f) (length-map_below f outputs) (λ j h. ap length (get_or-map_below f outputs j [] h) ∙ sizes j))
