use Rattle.std.proofs.Common.{◌≡◌, ◌∙◌, ◌*ℤ◌, ℤ, ap, map, of_z, to_z, w32}
use Rattle.std.specs.Int.{int_shr}
use Rattle.std.proofs.lemmas.Int.{to_z-of_z}
use Rattle.std.proofs.lemmas.Simd.{map-map}
use Rattle.port_mixer.specs.session_model.specs.Samples.{clamp}
use Rattle.client_kinds.proofs.sounds.fill_piece.Goals as goal

pub returns : goal.returns
returns c =
    let factor : to_z w32 (of_z w32 c.args.factor) ≡ c.args.factor = to_z-of_z w32 c.args.factor c.ranges.factor in
    c.settle.ensures
    ∙ ap (map clamp) (c.multiply.ensures ∙ ap (λ (k : ℤ). map (λ x. int_shr (x *ℤ k) c.args.shift) c.args.x.now) factor)
    ∙ map-map clamp (λ x. int_shr (x *ℤ c.args.factor) c.args.shift) c.args.x.now
