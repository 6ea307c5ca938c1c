use Rattle.std.proofs.Common.{◌≡◌, ◌≤◌, ◌-◌, length, take}
use Rattle.std.specs.Io.KnownBytes.{Consumes}
use Rattle.wave_pcm.proofs.input.fill.Given as goal

abbrev pub invariant-filling : goal.invariant-filling
invariant-filling g l = record {
  within : l.at ≤ length l.buffer;
  taken : Consumes (g.S.Source.left l.initial.source) (g.S.Source.left l.source) (take l.at l.buffer);
  kept : g.S.Source.faults l.source ≡ g.S.Source.faults l.initial.source;
}

abbrev pub decreases-filling : goal.decreases-filling
decreases-filling g l = length l.initial.buffer - l.at
