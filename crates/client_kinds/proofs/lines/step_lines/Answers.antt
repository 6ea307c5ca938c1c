use Rattle.std.proofs.Common.{◌++◌, ◌∙◌, sym, ap, drop, length, ℤ, arith}
use Rattle.circular_buffer.specs.Buffer.{Buffer}
use Rattle.client_kinds.specs.Buffers.{buffers_of}
use Rattle.client_kinds.proofs.BufferLemmas.{buffer_past}
use Rattle.client_kinds.proofs.LineLemmas.{lines-all, lines-whole, lines-done, lines-rest, quiet-kept}
use Rattle.client_kinds.proofs.lines.step_lines.Goals as goal

pub loop-place-preserved : goal.loop-place-preserved
loop-place-preserved c = record {
  whole = lines-whole c.loop-place.lines c.loop-place.place c.step_line.new.line c.loop-place.invariant.whole c.step_line.ensures.whole;
  done = lines-done c.args.ports.period (buffers_of c.args.ports.inputs c.args.ports.period c.args.input.now) c.loop-place.lines c.args.lines.now c.loop-place.place c.step_line.new.line c.index-lines-place.result (omega (arith, c.loop-place-test.true, c.min-place-end.ensures, c.loop-place.auto.lines)) c.loop-place.auto.lines c.index-lines-place.is c.loop-place.invariant.rest
      (c.step_line.ensures.items
      ∙ ap (λ (line : Buffer ℤ). drop (length c.heard.result.now) (line.items ++ c.heard.result.now)) (sym c.index-lines-place.is)
      ∙ ap (λ n. drop n (c.index-lines-place.result.items ++ c.heard.result.now)) c.heard.ensures.length ∙ ap (λ x. drop c.args.ports.period (c.index-lines-place.result.items ++ x)) c.heard.ensures.value)
      c.loop-place.invariant.done;
  rest = λ k d h. lines-rest c.loop-place.lines c.args.lines.now c.loop-place.place c.step_line.new.line c.loop-place.invariant.rest k d (omega (arith, h));
}

pub returns-clause-items : goal.returns-clause-items
returns-clause-items c =
    lines-all c.args.ports.period (buffers_of c.args.ports.inputs c.args.ports.period c.args.input.now) c.loop-place.lines c.args.lines.now c.args.reached c.max-reached.result c.loop-place.place
    c.loop-place.auto.lines (omega (arith, c.max-reached.ensures))
    (λ k h. buffer_past k c.args.ports.inputs c.args.ports.period c.args.input.now (omega (arith, h, c.max-reached.ensures, c.from.ensures)))
    (omega (arith, c.loop-place-test.false, c.min-place-end.ensures)) (omega (arith, c.loop-place.auto.place-end, c.min-place-end.ensures))
    c.requires.quiet c.loop-place.invariant.rest c.loop-place.invariant.done

pub returns-clause-quiet : goal.returns-clause-quiet
returns-clause-quiet c =
    quiet-kept c.loop-place.lines c.args.lines.now c.args.reached c.max-reached.result c.loop-place.place c.loop-place.auto.lines (omega (arith, c.max-reached.ensures))
    (omega (arith, c.loop-place.auto.place-end, c.min-place-end.ensures)) c.requires.quiet c.loop-place.invariant.rest
