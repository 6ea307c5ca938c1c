-- The capture of a rehearsal.
--     samples-drawn      so many samples that are drawn are numbers of 32 bits without their low half
--     count, wave      how many samples it has, and the wave that its bytes are
use Rattle.std.proofs.Common.{◌≡◌, ℕ, suc, ◌+◌, ◌-◌, ◌*◌, ◌/◌, ◌%◌, ◌^◌, ◌<◌, ◌≤◌, Bool, true, false, List, [], ◌∷◌, length, map, ℤ, pos, negsuc, neg_ℤ, refl, sym, ◌∙◌, ap, ap₂, subst, arith}
use Rattle.std.specs.Prelude.{nat_lt, if◌then◌else◌, ◌-ℤ◌}
use Rattle.std.specs.Int.{w32}
use Rattle.std.specs.Int.RustNames.{FitsSigned}
use Rattle.std.specs.List.{AllByRecursion}
use Rattle.std.proofs.Math.IntN.{negsuc-*ℤ-pos, pos-*ℤ-pos}
use Rattle.std.proofs.Math.Nat.{mod-lt, mul-one}
use Rattle.std.proofs.lemmas.Bool.Decides.{nat_tests}
use Rattle.std.proofs.lemmas.Int.{ints}
use Rattle.std.proofs.lemmas.List.Elements.{All-from_recursion}
use Rattle.rand_pcg.specs.Lcg.{Lcg}
use Rattle.rehearsal_model.specs.Rehearsals.{capture_samples, draw, drawn, rehearsal, rehearsal_capture, rehearsal_format, sample_drawn}
use Rattle.session_model.specs.Samples.{down, signed, up}
use Rattle.session_model.specs.WaveFiles.{AreWritable, IsFormat, IsWave}
use Rattle.wave_laws.proofs.WaveWritten.{wave_text-wave}
use Rattle.rehearsal_laws.proofs.DrawnLemmas.{drawn-each, drawn-length}

-- a sample of 32 bits whose low half is zero
record IsWide (x : ℤ) : Type 0 where
  fits : FitsSigned w32 x
  whole : up 16 (down 16 x) ≡ x

-- a stored number of 16 bits
abbrev IsShort : ℤ → Type 0
IsShort (pos a) = a < 2 ^ 15
IsShort (negsuc a) = a < 2 ^ 15

pub up-pos : (a : ℕ) → up 16 (pos a) ≡ pos (a * 65536)
up-pos a = pos-*ℤ-pos a 65536

pub up-negsuc : (a : ℕ) → up 16 (negsuc a) ≡ negsuc (a * 65536 + 65535)
up-negsuc a = negsuc-*ℤ-pos a 65536 ∙ ap (λ n. neg_ℤ (pos n)) (times a)
  where
    times : (a : ℕ) → suc a * 65536 ≡ suc (a * 65536 + 65535)
    times a = omega arith

wide : (s : ℤ) → IsShort s → IsWide (up 16 s)
wide (pos a) short =
    subst IsWide (sym (up-pos a))
    (record { fits = record { sfits = omega (arith, short) }; whole = ap (λ n. up 16 (pos n)) (back a) ∙ up-pos a })
  where
    back : (a : ℕ) → a * 65536 / 2 ^ 16 ≡ a
    back a = omega arith
wide (negsuc a) short =
    subst IsWide (sym (up-negsuc a))
    (record { fits = record { sfits = omega (arith, short) }; whole = ap (λ n. up 16 (negsuc n)) (back a) ∙ up-negsuc a })
  where
    back : (a : ℕ) → (a * 65536 + 65535) / 2 ^ 16 ≡ a
    back a = omega arith

short : (low : ℕ) → low < 2 ^ 16 → IsShort (signed 16 low)
short low few = go (nat_lt low (2 ^ 15)) refl
  where
    go : (b : Bool) → nat_lt low (2 ^ 15) ≡ b → IsShort (if b then pos low else pos low -ℤ pos (2 ^ 16))
    go true is = let less : low < 2 ^ 15 = grind (arith, nat_tests, is) in less
    go false is =
        let high : 2 ^ 15 ≤ low = grind (arith, nat_tests, is) in
        let same : pos low -ℤ pos (2 ^ 16) ≡ negsuc (65535 - low) = omega (arith, ints, few) in
        subst IsShort (sym same) (let less : 65535 - low < 2 ^ 15 = omega (arith, high) in less)

drawn-wide : (n i : ℕ) (g : Lcg) → AllByRecursion IsWide (drawn sample_drawn n i g).0
drawn-wide n i g = drawn-each IsWide sample_drawn n i g (λ k h low high. (wide (signed 16 (draw (2 ^ 16) h).0) (short (draw (2 ^ 16) h).0 (mod-lt _ (omega arith))), tt))

all-fit : (xs : List ℤ) → AllByRecursion IsWide xs → AllByRecursion (FitsSigned w32) xs
all-fit [] wide = tt
all-fit (x ∷ xs) wide = (wide.0.fits, all-fit xs wide.1)

all-whole : (xs : List ℤ) → AllByRecursion IsWide xs → map (λ x. up 16 (down 16 x)) xs ≡ xs
all-whole [] wide = refl
all-whole (x ∷ xs) wide = ap₂ (λ y ys. y ∷ ys) wide.0.whole (all-whole xs wide.1)

-- the numbers are shut, so that no proof draws all samples
pub many : capture_samples ≡ 1280000
unfolding capture_samples
many = refl

drawn-many : (m : ℕ) (g : Lcg) → m ≡ 1280000 → length (drawn sample_drawn m 0 g).0 ≡ 1280000
drawn-many m g same = drawn-length 1 sample_drawn m 0 g (λ k h. refl) ∙ mul-one m ∙ same

pub count : (n : ℕ) → length (rehearsal n).capture ≡ 1280000
count n = drawn-many capture_samples _ many

pub writable : (n : ℕ) → AreWritable rehearsal_format (rehearsal n).capture
writable n =
    record {
      whole = ap (λ m. m % 2) (count n);
      few = few_of (length (rehearsal n).capture) (count n);
    }
  where
    few_of : (m : ℕ) → m ≡ 1280000 → m * 2 ≤ 4294967000
    few_of m same = omega (arith, same)

format-in : IsFormat rehearsal_format
format-in = record { least_channels = omega arith; most_channels = omega arith; least_rate = omega arith; most_rate = omega arith; bits = refl }

capture-wide : (n : ℕ) → AllByRecursion IsWide (rehearsal n).capture
capture-wide n = drawn-wide capture_samples 0 _

pub wave : (n : ℕ) → IsWave (rehearsal_capture n) rehearsal_format (rehearsal n).capture
wave n =
    subst (λ (samples : List ℤ). IsWave (rehearsal_capture n) rehearsal_format samples) (all-whole (rehearsal n).capture (capture-wide n))
    (wave_text-wave rehearsal_format (rehearsal n).capture format-in (writable n) (All-from_recursion (FitsSigned w32) (rehearsal n).capture (all-fit (rehearsal n).capture (capture-wide n))))
