use Rattle.std.proofs.Common.{subst}
use Rattle.report_reader.specs.Nexts.{Unread, LeavesEnd}
use Rattle.report_reader.proofs.LeftLemmas.{left-behind}
use Rattle.report_reader.proofs.bytes.Bytes.into_source.Goals as goal

pub returns-clause-left : goal.returns-clause-left
returns-clause-left g c =
    subst (λ (t : Unread). LeavesEnd t.left (g.S.Source.left c.self.inside.source)) c.self.view_is
    (left-behind c.self.inside.at c.self.inside.filled c.self.inside.buffer (g.S.Source.left c.self.inside.source))
