-- Bytes whose highest bit is turned over.
use Rattle.std.proofs.Common.{◌≡◌, ℕ, ◌+◌, ◌*◌, ◌^◌, ◌<◌, ap, ◌∙◌, arith}
use Rattle.std.proofs.lemmas.Nat.{xor_block}
use Rattle.std.specs.Int.Bits.{xor_zero_r}
use lib.Bits.{bit_xor}

xor_of : (a b c d : ℕ) → a ≡ b → c ≡ d → bit_xor a c ≡ bit_xor b d
xor_of a b c d e f = λ i. bit_xor (e i) (f i)

pub low_byte : (n : ℕ) → n < 128 → bit_xor n 128 ≡ n + 128
low_byte n h =
    xor_of n (0 * 2 ^ 7 + n) 128 (1 * 2 ^ 7 + 0) (omega arith) (omega arith)
    ∙ xor_block 7 0 1 n 0 h (omega arith) ∙ ap (λ (m : ℕ). 1 * 2 ^ 7 + m) (xor_zero_r n) ∙ omega arith

pub high_byte : (n : ℕ) → n < 128 → bit_xor (n + 128) 128 ≡ n
high_byte n h =
    xor_of (n + 128) (1 * 2 ^ 7 + n) 128 (1 * 2 ^ 7 + 0) (omega arith) (omega arith)
    ∙ xor_block 7 1 1 n 0 h (omega arith) ∙ ap (λ (m : ℕ). 0 * 2 ^ 7 + m) (xor_zero_r n) ∙ omega arith
