use Rattle.std.proofs.Common.{◌≡◌, ◌+◌, map, take}
use Rattle.session_model.specs.Samples.{below, sample}
use Rattle.guest_example.specs.Tremolos.{tremolo_sample}
use Rattle.guest_example.proofs.tremolos.fill_output.Given as goal

abbrev pub invariant-loop-i : goal.invariant-loop-i
invariant-loop-i l = take l.i l.part ≡ map (λ i. tremolo_sample l.half l.place (l.start + i) (sample l.x i)) (below l.i)
