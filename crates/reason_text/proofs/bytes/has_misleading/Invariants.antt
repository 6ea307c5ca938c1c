use Rattle.std.proofs.Common.{◌≡◌, drop}
use Rattle.reason_text.specs.Texts.{misleads_behind}
use Rattle.reason_text.proofs.bytes.has_misleading.Given as goal

abbrev pub invariant-loop-byte : goal.invariant-loop-byte
invariant-loop-byte l = misleads_behind l.first l.second (drop l.byte-index l.bytes) ≡ misleads_behind 0 0 l.bytes
