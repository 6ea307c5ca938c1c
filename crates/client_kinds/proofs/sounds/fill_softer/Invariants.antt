use Rattle.std.proofs.Common.{◌≡◌, ◌*ℤ◌, take, map}
use Rattle.std.specs.Int.{int_shr}
use Rattle.port_mixer.specs.session_model.specs.Samples.{clamp}
use Rattle.client_kinds.proofs.sounds.fill_softer.Given as goal

abbrev pub invariant-loop-i : goal.invariant-loop-i
invariant-loop-i l = take l.i l.part ≡ map (λ x. clamp (int_shr (x *ℤ l.factor) l.shift)) (take l.i l.x)
