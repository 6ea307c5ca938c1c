use Rattle.file_stores.specs.Standing.{standing}
use Rattle.file_stores.proofs.StandingLemmas.{failed-before}
use Rattle.file_stores.proofs.target.Target.write.Goals as goal

pub returns-in_err-empty-clause-bytes : goal.returns-in_err-empty-clause-bytes
returns-in_err-empty-clause-bytes g c =
    failed-before (standing c.args.self.now.emptied (g.D.Disk.bytes c.args.self.now.disk)) (standing c.empty.new.self.emptied (g.D.Disk.bytes c.empty.new.self.disk)) c.from_residual.result
    c.args.place c.args.bytes.now c.from_residual.ensures.0 c.empty.ensures.bytes
