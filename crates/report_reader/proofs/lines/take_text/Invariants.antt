use Rattle.std.proofs.Common.{◌≡◌, ◌≤◌, ◌-◌, take, length}
use Rattle.std.specs.Io.KnownBytes.{Consumes}
use Rattle.report_reader.specs.Lefts.{IsWithin}
use Rattle.report_reader.proofs.lines.take_text.Given as goal

abbrev pub invariant-taking : goal.invariant-taking
invariant-taking g l = record {
  so_far : Consumes l.fn.bytes.left l.bytes.left (take l.len l.text);
  within : IsWithin (take l.len l.text);
  few : l.len ≤ 512;
  size : length l.text ≡ 512;
  kept : l.bytes.faults ≡ l.fn.bytes.faults;
}

abbrev pub decreases-taking : goal.decreases-taking
decreases-taking g l = 512 - l.len
