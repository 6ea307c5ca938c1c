use Rattle.std.proofs.Common.{◌≡◌, ◌≤◌, ◌-◌}
use Rattle.wave_pcm.specs.Steps.{Drops}
use Rattle.wave_pcm.proofs.input.skip.Given as goal

abbrev pub invariant-skipping : goal.invariant-skipping
invariant-skipping g l = record {
  within : l.left ≤ l.count;
  taken : Drops (g.S.Source.left l.initial.source) (g.S.Source.left l.source) (l.count - l.left);
  kept : g.S.Source.faults l.source ≡ g.S.Source.faults l.initial.source;
}

abbrev pub decreases-skipping : goal.decreases-skipping
decreases-skipping g l = l.left
