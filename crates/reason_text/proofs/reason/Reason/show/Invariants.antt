use Rattle.std.proofs.Common.{◌≡◌, ◌++◌, flat_map, take}
use Rattle.reason_text.specs.Texts.{shown_byte}
use Rattle.reason_text.proofs.reason.Reason.show.Given as goal

abbrev pub invariant-loop-byte : goal.invariant-loop-byte
invariant-loop-byte l = l.self ≡ l.initial.self ++ flat_map (shown_byte l.wide) (take l.byte-index l.bytes)
