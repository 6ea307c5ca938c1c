use Rattle.std.proofs.Common.{◌≡◌, ℕ, ◌+◌, ◌*◌, [], ◌∷◌, ℤ, get_or, arith, refl}
use Rattle.wave_laws.specs.session_model.specs.Samples.{up, stored}
use lib.Lanes.{chunk}
use Rattle.samples.proofs.KernelLemmas.{joined, four_32, words_of}
use Rattle.samples.proofs.kernels.four_32.Goals as goal

pub returns : goal.returns
returns c =
    let xs = c.args.bytes.now in
    let place = c.args.place in
    joined (λ (k : ℕ) (x : ℤ). x ≡ up 32 (stored 32 (get_or xs (4 * k) 0 ∷ get_or xs (4 * k + 1) 0 ∷ get_or xs (4 * k + 2) 0 ∷ get_or xs (4 * k + 3) 0 ∷ [])))
    c.args.out.now (words_of (chunk (4 * place) 16 xs)) place 4 refl c.requires.room c.requires.front (λ j h.
    four_32 xs (4 * place) c.requires.there c.type_inv.bytes j (4 * (place + j)) (omega arith) h)
