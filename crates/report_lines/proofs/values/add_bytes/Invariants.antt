use Rattle.std.proofs.Common.{◌≡◌, ◌+◌, ◌*◌, ◌++◌, length, take, flat_map}
use Rattle.session_model.specs.Reports.{hex_byte}
use Rattle.report_lines.proofs.values.add_bytes.Given as goal

abbrev pub invariant-loop-byte : goal.invariant-loop-byte
invariant-loop-byte l = record {
  text : l.line.bytes ≡ l.initial.line.bytes ++ flat_map hex_byte (take l.byte-index l.bytes);
  longer : length l.line.bytes ≡ length l.initial.line.bytes + 2 * l.byte-index;
}
