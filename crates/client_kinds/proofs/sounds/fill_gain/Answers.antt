use Rattle.std.proofs.Common.{◌≡◌, ◌*ℤ◌, ◌≤◌, ◌-◌, ℤ, length, of_z, to_z, w32, arith}
use Rattle.std.specs.Int.{int_shr}
use Rattle.std.proofs.lemmas.Int.{to_z-of_z}
use borrow.Rule.Slice.PartMut.{same_len_mid}
use Rattle.port_mixer.specs.session_model.specs.Samples.{clamp}
use Rattle.client_kinds.proofs.FillLemmas.{piece-done}
use Rattle.client_kinds.proofs.sounds.fill_gain.Goals as goal

pub loop-done-preserved : goal.loop-done-preserved
loop-done-preserved c =
    let factor : to_z w32 (of_z w32 c.args.factor) ≡ c.args.factor = to_z-of_z w32 c.args.factor c.ranges.factor in
    let gained : ℤ → ℤ → ℤ = λ k x. clamp (int_shr (x *ℤ k) c.args.shift) in
    let order : c.loop-done.done ≤ c.min-end.result = omega (arith, c.min-end.ensures, c.loop-done.invariant.within) in
    let within : c.min-end.result ≤ length c.loop-done.part = omega (arith, c.min-end.ensures) in
    record {
      front = piece-done (gained (to_z w32 (of_z w32 c.args.factor))) c.args.x.now c.loop-done.part c.fill_piece.new.part c.loop-done.done c.min-end.result order
          (omega (arith, within, c.loop-done.auto.part, c.requires.lengths)) (omega (arith, c.loop-done.auto.part, c.requires.lengths)) c.fill_piece.ensures c.loop-done.invariant.front;
      within = omega (arith, within, same_len_mid c.loop-done.done (c.min-end.result - c.loop-done.done) c.loop-done.part c.fill_piece.new.part c.fill_piece.auto.part);
    }
