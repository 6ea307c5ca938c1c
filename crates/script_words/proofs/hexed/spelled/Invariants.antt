use Rattle.std.proofs.Common.{◌≡◌, ◌≤◌, take, length}
use Rattle.session_model.specs.Reading.{hex_bytes}
use Rattle.script_words.specs.Midi.{behind}
use Rattle.script_words.proofs.hexed.spelled.Given as goal

abbrev pub invariant-pairs : goal.invariant-pairs
invariant-pairs l = record {
  so_far : hex_bytes l.fn.word ≡ behind (take l.len l.buffer) (hex_bytes l.rest);
  fits : l.len ≤ length l.buffer;
  size : length l.buffer ≡ length l.fn.buffer;
}

abbrev pub decreases-pairs : goal.decreases-pairs
decreases-pairs l = length l.rest
