use Rattle.std.proofs.Common.{◌≡◌, ◌≤◌, ◌*ℤ◌, ◌-◌, length, take, map}
use Rattle.std.specs.Int.{int_shr}
use Rattle.port_mixer.specs.session_model.specs.Samples.{clamp}
use Rattle.client_kinds.proofs.sounds.fill_gain.Given as goal

abbrev pub invariant-loop-done : goal.invariant-loop-done
invariant-loop-done l = record {
  front : take l.done l.part ≡ map (λ x. clamp (int_shr (x *ℤ l.factor) l.shift)) (take l.done l.x);
  within : l.done ≤ length l.part;
}

abbrev pub decreases-loop-done : goal.decreases-loop-done
decreases-loop-done l = length l.initial.part - l.done
