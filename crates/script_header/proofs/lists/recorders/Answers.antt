use Rattle.std.proofs.Common.{◌<◌, length, length-set, take, arith, ◌∙◌}
use Rattle.std.specs.Prelude.{codes}
use Rattle.jack_types.specs.declared.scripts.Many.TheVariants.{Recorders}
use Rattle.grammar_laws.specs.session_model.specs.Reading.{recorder}
use Rattle.script_header.proofs.HeaderLemmas.{several-faulty, several-stored}
use Rattle.script_header.proofs.lists.recorders.Goals as goal

pub lines-preserved : goal.lines-preserved
lines-preserved c =
    let few = c.lines.invariant.few in
    let size = c.lines.invariant.size in
    let more : c.lines.len < 4 = omega arith in
    let room : c.lines.len < length c.lines.formats = omega (arith, size, more) in
    record {
      same = c.lines.invariant.same ∙ several-stored Recorders 4 (codes "recorder") (recorder c.args.rate) c.lines.formats c.lines.len c.lines.lines.lines c.take_begun.new.self.lines (record { number = c.in-Some.line.number; words = c.in-Some.line.words }) c.in-Ok.format room more (rw c.as_slice.ensures at c.in-Some.ensures.some) c.in-Ok.ensures;
      few = omega (arith, more);
      size = length-set c.lines.formats c.lines.len c.in-Ok.format ∙ size;
      end = c.in-Some.ensures.end ∙ c.lines.invariant.end;
    }

pub returns-in-Err-clause-gives : goal.returns-in-Err-clause-gives
returns-in-Err-clause-gives c =
    c.lines.invariant.same ∙ several-faulty Recorders 4 (codes "recorder") (recorder c.args.rate) (take c.lines.len c.lines.formats) c.lines.lines.lines c.take_begun.new.self.lines (record { number = c.in-Some.line.number; words = c.in-Some.line.words }) c.in-Err.fault (rw c.as_slice.ensures at c.in-Some.ensures.some) c.in-Err.ensures
