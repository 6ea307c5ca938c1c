use Rattle.std.specs.Prelude.{Ok, Err, codes}
use Rattle.grammar_laws.specs.session_model.specs.Reading.{channels_and_bits}
use Rattle.script_header.proofs.HeaderLemmas.{required-reads, value-at, fault-at}
use Rattle.script_header.proofs.required.playback_line.Goals as goal

pub returns-in-Ok-clause-gives : goal.returns-in-Ok-clause-gives
returns-in-Ok-clause-gives c =
    required-reads c.args.lines.now.end (codes "playback") channels_and_bits c.args.lines.now.lines c.begun.new.lines.lines (record { number = c.in_ok-line.line.number; words = c.in_ok-line.line.words }) (Ok c.in-Ok.playback) (rw c.as_slice.ensures at c.in_ok-line.ensures.ok) (value-at c.in_ok-line.line.number c.in-Ok.playback _ c.in-Ok.ensures)

pub returns-in-Err-clause-gives : goal.returns-in-Err-clause-gives
returns-in-Err-clause-gives c =
    required-reads c.args.lines.now.end (codes "playback") channels_and_bits c.args.lines.now.lines c.begun.new.lines.lines (record { number = c.in_ok-line.line.number; words = c.in_ok-line.line.words }) (Err c.fault.result) (rw c.as_slice.ensures at c.in_ok-line.ensures.ok) (fault-at c.in_ok-line.line.number c.in-Err.cause c.fault.result _ c.fault.ensures c.in-Err.ensures)
