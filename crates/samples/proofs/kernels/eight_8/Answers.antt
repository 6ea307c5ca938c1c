use Rattle.std.proofs.Common.{◌≡◌, ℕ, [], ◌∷◌, ℤ, get_or, map, refl, to_z, w32}
use Rattle.wave_laws.specs.session_model.specs.Samples.{up, stored}
use lib.Lanes.{digits_l, number_l}
use Rattle.samples.proofs.KernelLemmas.{joined}
use Rattle.samples.proofs.SpreadLemmas.{eight_8, spread_8, flipped}
use Rattle.samples.proofs.kernels.eight_8.Goals as goal

pub returns : goal.returns
returns c =
    let xs = c.args.bytes.now in
    let place = c.args.place in
    joined (λ (k : ℕ) (x : ℤ). x ≡ up 8 (stored 8 (get_or xs k 0 ∷ [])))
    c.args.out.now (map (to_z w32) (digits_l 4294967296 8 (number_l 256 (spread_8 (flipped xs place) 0 8)))) place 8 refl c.requires.room c.requires.front
    (eight_8 xs place c.requires.there c.type_inv.bytes)
