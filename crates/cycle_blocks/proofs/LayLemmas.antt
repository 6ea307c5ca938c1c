-- What a bench's inputs got, laid into a block.
--     sound-past      past the benches nothing was got
--     laid-more      one channel more
--     laid-heard      a block of all channels
--     blocks-again      a block that takes the place of one that took a place
use Rattle.std.proofs.Common.{◌≡◌, ℕ, zero, suc, ◌+◌, ◌*◌, ◌≤◌, List, [], ◌∷◌, ◌++◌, length, map, get_or, set, ℤ, pos, refl, sym, ◌∙◌, ap, subst, arith, add-one}
use Rattle.std.proofs.lemmas.List.{get_or_past, map_push, set-set}
use Rattle.session_model.specs.Kinds.{input_at}
use Rattle.session_model.specs.Samples.{below, interleaved, sample, silence}
use Rattle.session_laws.proofs.ActivationLemmas.{get_or-map_below, length-map_below}
use Rattle.jack_types.specs.declared.kinds.Kind.TheVariants.{Pass}
use Rattle.bench_rack.specs.client_benches.specs.Seen.{Seen, new_bench}
use Rattle.bench_rack.specs.Racks.{Racked, bench_at}
use Rattle.recorder_rings.specs.device_periods.specs.Blocks.{IsLaid}
use Rattle.recorder_rings.specs.device_periods.proofs.PeriodLemmas.{laid_whole}
use Rattle.recorder_rings.specs.Sending.{Sent}

pub sound-past : (rack : Racked) (place input : ℕ) → length rack.benches ≤ place → get_or (bench_at rack place).kept.sounds input [] ≡ []
sound-past rack place input past = ap (λ (bench : Seen). get_or bench.kept.sounds input []) (get_or_past rack.benches place (new_bench Pass 0) past)

sample-silence : (n i : ℕ) → sample (silence n) i ≡ pos 0
sample-silence zero i = refl
sample-silence (suc n) zero = refl
sample-silence (suc n) (suc i) = sample-silence n i

-- an input that is not there is silent
sample-input : (period i : ℕ) (sounds : List (List ℤ)) (j : ℕ) → sample (get_or sounds j []) i ≡ sample (input_at period sounds j) i
sample-input period i [] j = sym (sample-silence period i)
sample-input period i (x ∷ xs) zero = refl
sample-input period i (x ∷ xs) (suc j) = sample-input period i xs j

pub laid-more : (frames n count i : ℕ) (f : ℕ → List ℤ) (samples block after : List ℤ) → count ≡ n → samples ≡ f i
    → ((buffers : List (List ℤ)) → length buffers ≡ i → IsLaid count frames buffers block → IsLaid count frames (buffers ++ samples ∷ []) after)
    → IsLaid n frames (map f (below i)) block → IsLaid n frames (map f (below (i + 1))) after
laid-more frames n count i f samples block after same is lays before =
    subst (λ (buffers : List (List ℤ)). IsLaid n frames buffers after)
    (ap (λ (x : List ℤ). map f (below i) ++ x ∷ []) is ∙ sym (map_push f (below i) i) ∙ ap (λ (k : ℕ). map f (below k)) (sym (add-one i)))
    (subst (λ (k : ℕ). (buffers : List (List ℤ)) → length buffers ≡ i → IsLaid k frames buffers block → IsLaid k frames (buffers ++ samples ∷ []) after) same lays (map f (below i)) (length-map_below f i) before)

pub laid-heard : (frames n m : ℕ) (sounds : List (List ℤ)) (block : List ℤ) → length block ≡ frames * n → n ≤ m → IsLaid n frames (map (λ j. get_or sounds j []) (below m)) block
    → block ≡ interleaved frames (map (input_at frames sounds) (below n))
laid-heard frames n m sounds block long high laid =
    laid_whole frames n (map (input_at frames sounds) (below n)) block long (length-map_below (input_at frames sounds) n)
    (λ i c low within. laid i c low (omega (arith, within, high, length-map_below (λ j. get_or sounds j []) m))
    ∙ ap (λ (buffer : List ℤ). sample buffer i) (get_or-map_below (λ j. get_or sounds j []) m c [] (omega (arith, within, high)))
    ∙ sample-input frames i sounds c
    ∙ ap (λ (buffer : List ℤ). sample buffer i) (sym (get_or-map_below (input_at frames sounds) n c [] within)))

pub blocks-again : (before between after : Sent) (recorder : ℕ) (old new : List ℤ) → between ≡ record before { blocks = set before.blocks recorder old } → after ≡ record between { blocks = set between.blocks recorder new }
    → after ≡ record before { blocks = set before.blocks recorder new }
blocks-again before between after recorder old new first second =
    second ∙ ap (λ (s : Sent). record s { blocks = set s.blocks recorder new }) first ∙ ap (λ (blocks : List (List ℤ)). record before { blocks = blocks }) (set-set before.blocks recorder old new)
