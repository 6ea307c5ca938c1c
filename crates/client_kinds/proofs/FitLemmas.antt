-- What a guest gives stays as it is where it fits.
--     filled-whole      samples of the period
--     fitted-whole      as many outputs, each of the period
--     fitted-alike      the same on all outputs
use Rattle.std.proofs.Common.{◌≡◌, ℕ, ◌<◌, List, [], ◌++◌, length, replicate, take, ℤ, sym, ◌∙◌, ap, subst, arith}
use Rattle.std.specs.Prelude.{slice_index_or}
use Rattle.std.proofs.Math.Seq.{take-append_seam}
use Rattle.std.proofs.lemmas.List.{ext_get_or, get_or-replicate, length-replicate}
use Rattle.port_mixer.specs.session_model.specs.Kinds.{filled, fitted}
use Rattle.port_mixer.specs.session_model.specs.Samples.{silence}
use Rattle.port_mixer.specs.session_laws.proofs.ActivationLemmas.{get_or-map_below, length-map_below}

pub filled-whole : (period : ℕ) (samples : List ℤ) → length samples ≡ period → filled period samples ≡ samples
filled-whole period samples size = subst (λ n. take n (samples ++ silence period) ≡ samples) size (take-append_seam samples (silence period))

pub fitted-whole : (period outputs : ℕ) (given : List (List ℤ)) → length given ≡ outputs → ((j : ℕ) → j < outputs → length (slice_index_or given j []) ≡ period) → fitted period outputs given ≡ given
fitted-whole period outputs given many sizes =
    ext_get_or [] (fitted period outputs given) given (lengths ∙ sym many)
    (λ j h. let within : j < outputs = omega (arith, h, lengths) in
    get_or-map_below (λ j. filled period (slice_index_or given j [])) outputs j [] within ∙ filled-whole period (slice_index_or given j []) (sizes j within))
  where
    lengths : length (fitted period outputs given) ≡ outputs
    lengths = length-map_below (λ j. filled period (slice_index_or given j [])) outputs

pub fitted-alike : (period outputs : ℕ) (samples : List ℤ) → length samples ≡ period → fitted period outputs (replicate outputs samples) ≡ replicate outputs samples
fitted-alike period outputs samples size =
    fitted-whole period outputs (replicate outputs samples) (length-replicate outputs samples) (λ j h. ap length (get_or-replicate outputs j samples [] h) ∙ size)
