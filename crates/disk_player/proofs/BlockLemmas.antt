-- Blocks cut from a file's samples.
--     cut-is      as many samples as a block has, which are those of a list with zeros behind them, are its first block
--     length-set_len      a list that was cut or filled up
--     seen-whole      the whole of a list was lent
--     fills-block      what one read does
use Rattle.std.proofs.Common.{◌≡◌, ℕ, ◌+◌, ◌-◌, ◌*◌, ◌<◌, ◌≤◌, ◌^◌, List, ◌++◌, length, take, drop, ℤ, pos, Option, Some, true, sym, ◌∙◌, ap, subst, arith, append-nil, length-append}
use Rattle.std.specs.Prelude.{min, replicate, IfSome}
use Rattle.std.proofs.lemmas.List.{drop_all, ext_get_or, length-replicate, length-take, take_all}
use Rattle.session_laws.proofs.ActivationLemmas.{get_or-map_below, length-map_below}
use Rattle.wave_laws.proofs.WaveSamples.{by_width}
use Rattle.session_model.specs.Samples.{sample, width}
use Rattle.session_model.specs.WaveFiles.{frame_bytes, is_width}
use Rattle.wave_pcm.specs.Readings.{IsReadable, Reading}
use Rattle.device_periods.specs.Captures.{Fills}
use Rattle.disk_player.specs.Insides.{FillsBlock}
use Rattle.disk_player.specs.Playing.{cut_block}

pub cut-is : (items left : List ℤ) (size : ℕ) → length items ≡ size → ((i : ℕ) → i < size → sample items i ≡ sample left i) → items ≡ cut_block size left 0
cut-is items left size long same =
    ext_get_or (pos 0) items (cut_block size left 0) (long ∙ sym (length-map_below (λ k. sample left (0 * size + k)) size))
    (λ i h. let within : i < size = omega (arith, h, long) in same i within ∙ ap (sample left) (first i) ∙ sym (get_or-map_below (λ k. sample left (0 * size + k)) size i (pos 0) within))
  where
    first : (i : ℕ) → i ≡ 0 * size + i
    first i = omega arith

pub length-set_len : (n : ℕ) (xs : List ℤ) → length (take n xs ++ replicate (n - length xs) (pos 0)) ≡ n
length-set_len n xs = omega (arith, length-append (take n xs) (replicate (n - length xs) (pos 0)), length-take n xs, length-replicate (n - length xs) (pos 0))

pub seen-whole : (now new : List ℤ) → length new ≡ length now → take (length now) (new ++ drop (length new) now) ≡ new
seen-whole now new long =
    ap (λ (behind : List ℤ). take (length now) (new ++ behind)) (drop_all (length new) now (omega (arith, long)))
    ∙ ap (λ (all : List ℤ). take (length now) all) (append-nil new)
    ∙ take_all (length now) new (omega (arith, long))

-- a frame has a byte or more for each of its samples
few-bytes : (frames channels bits : ℕ) → is_width bits ≡ true → frames * channels ≤ frames * (channels * width bits)
few-bytes frames channels bits wide =
    by_width (λ b. frames * channels ≤ frames * (channels * width b)) bits wide (omega arith) (omega arith) (omega arith) (omega arith)

pub fills-block : (before after : Reading) (block : List ℤ) (size frames : ℕ) → length block ≡ size → IsReadable before.format
    → frames * before.format.channels ≤ size → after.given ≡ before.given + frames * frame_bytes before.format → after.given < 2 ^ 32
    → Fills before.left after.left block → IfSome before.left (λ left. frames * before.format.channels ≡ min size (length left))
    → FillsBlock before after block size (frames * before.format.channels)
fills-block before after block size frames long readable within given limit fills count = record {
  length_is = long;
  within = within;
  limit = limit;
  given = omega (arith, given, few-bytes frames before.format.channels before.format.bits readable.bits);
  told = λ left is.
      let told : ((i : ℕ) → i < length block → sample block i ≡ sample left i) × (after.left ≡ Some (drop (length block) left)) = subst (λ (l : Option (List ℤ)). Fills l after.left block) is fills in
      let few : frames * before.format.channels ≡ min size (length left) = subst (λ (l : Option (List ℤ)). IfSome l (λ left. frames * before.format.channels ≡ min size (length left))) is count in
      let same : (i : ℕ) → i < size → sample block i ≡ sample left i = λ i h. told.0 i (omega (arith, h, long)) in
      (cut-is block left size long same, told.1 ∙ ap (λ k. Some (drop k left)) long, few);
}
