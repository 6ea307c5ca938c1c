use Rattle.std.proofs.Common.{◌≡◌, take, replicate}
use Rattle.client_kinds.specs.Buffers.{buffers_of}
use Rattle.client_kinds.proofs.buffers.repeat_first.Given as goal

abbrev pub invariant-loop-place : goal.invariant-loop-place
invariant-loop-place l = record {
  first : take l.ports.period l.output ≡ take l.ports.period l.initial.output;
  done : buffers_of l.place l.ports.period l.output ≡ replicate l.place (take l.ports.period l.initial.output);
}
