use Rattle.std.proofs.Common.{◌≡◌, ◌*◌, ◌^◌, map, take}
use Rattle.session_model.specs.Samples.{down, total}
use Rattle.rehearsals.specs.Summaries.{IsWithin}
use Rattle.rehearsals.proofs.told.sum_of.Given as goal

abbrev pub invariant-loop-sample : goal.invariant-loop-sample
invariant-loop-sample l = record {
  so_far : l.sum ≡ total (map (down 16) (take l.sample-index l.samples));
  within : IsWithin l.sum (2 ^ 15 * l.sample-index);
}
