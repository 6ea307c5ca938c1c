use Rattle.std.proofs.Common.{[]}
use Rattle.report_reader.proofs.LeftLemmas.{left-of}
use Rattle.report_reader.proofs.bytes.Bytes.of.Goals as goal

pub returns-clause-left : goal.returns-clause-left
returns-clause-left g c = left-of [] (g.S.Source.left c.args.source)
