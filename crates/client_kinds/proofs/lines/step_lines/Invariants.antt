use Rattle.std.proofs.Common.{◌≡◌, ℕ, ◌≤◌, ℤ, take, drop, map, get_or, All}
use Rattle.circular_buffer.specs.Buffer.{Buffer}
use Rattle.port_mixer.specs.session_model.specs.Kinds.{delayed}
use Rattle.port_mixer.specs.session_model.specs.Samples.{below}
use Rattle.client_kinds.specs.Buffers.{buffers_of}
use Rattle.client_kinds.specs.Lines.{IsWhole, items_of}
use Rattle.client_kinds.proofs.lines.step_lines.Given as goal

abbrev pub invariant-loop-place : goal.invariant-loop-place
invariant-loop-place l = record {
  whole : All IsWhole l.lines;
  done : items_of (take l.place l.lines) ≡ map (λ j. drop l.ports.period (delayed l.ports.period (items_of l.initial.lines) (buffers_of l.ports.inputs l.ports.period l.input) j)) (below l.place);
  rest : (k : ℕ) (d : Buffer ℤ) → l.place ≤ k → get_or l.lines k d ≡ get_or l.initial.lines k d;
}
