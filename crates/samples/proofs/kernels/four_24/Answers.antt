use Rattle.std.proofs.Common.{◌≡◌, ℕ, ◌+◌, ◌*◌, [], ◌∷◌, ℤ, get_or, arith, refl}
use Rattle.wave_laws.specs.session_model.specs.Samples.{up, stored}
use Rattle.samples.proofs.KernelLemmas.{joined, four_24, words_of, spread_24}
use Rattle.samples.proofs.kernels.four_24.Goals as goal

pub returns : goal.returns
returns c =
    let xs = c.args.bytes.now in
    let place = c.args.place in
    joined (λ (k : ℕ) (x : ℤ). x ≡ up 24 (stored 24 (get_or xs (3 * k) 0 ∷ get_or xs (3 * k + 1) 0 ∷ get_or xs (3 * k + 2) 0 ∷ [])))
    c.args.out.now (words_of (spread_24 xs (3 * place))) place 4 refl c.requires.room c.requires.front (λ j h.
    four_24 xs (3 * place) c.requires.there c.type_inv.bytes j (3 * (place + j)) (omega arith) h)
