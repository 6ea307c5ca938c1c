use Rattle.std.proofs.Common.{◌≡◌, ◌*ℤ◌, take, map}
use Rattle.std.specs.Int.{int_shr}
use Rattle.client_kinds.proofs.sounds.multiply.Given as goal

abbrev pub invariant-loop-i : goal.invariant-loop-i
invariant-loop-i l = take l.i l.products ≡ map (λ x. int_shr (x *ℤ l.factor) l.shift) (take l.i l.x)
