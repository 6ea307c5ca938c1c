use Rattle.std.proofs.Common.{◌≡◌, ℕ, ◌+◌, ◌*◌, [], ◌∷◌, ℤ, get_or, arith, refl}
use Rattle.wave_laws.specs.session_model.specs.Samples.{up, stored}
use Rattle.samples.proofs.KernelLemmas.{joined}
use Rattle.samples.proofs.SpreadLemmas.{eight_16, words_16}
use Rattle.samples.proofs.kernels.eight_16.Goals as goal

pub returns : goal.returns
returns c =
    let xs = c.args.bytes.now in
    let place = c.args.place in
    joined (λ (k : ℕ) (x : ℤ). x ≡ up 16 (stored 16 (get_or xs (2 * k) 0 ∷ get_or xs (2 * k + 1) 0 ∷ [])))
    c.args.out.now (words_16 xs (2 * place)) place 8 refl c.requires.room c.requires.front (λ j h.
    eight_16 xs (2 * place) c.requires.there c.type_inv.bytes j (2 * (place + j)) (omega arith) h)
