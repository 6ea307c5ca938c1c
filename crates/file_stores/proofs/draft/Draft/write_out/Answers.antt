use Rattle.file_stores.specs.Gathering.{waits}
use Rattle.file_stores.specs.Drafts.{stands}
use Rattle.file_stores.specs.Standing.{standing}
use Rattle.file_stores.proofs.StandingLemmas.{left-all, left-part, waits-on}
use Rattle.file_stores.proofs.draft.Draft.write_out.Goals as goal

pub returns-in_err-write-clause-content : goal.returns-in_err-write-clause-content
returns-in_err-write-clause-content g c =
    waits-on (stands c.args.self.now) (standing c.write.new.self.emptied (g.D.Disk.bytes c.write.new.self.disk)) c.args.self.now.place
    c.as_bytes-bytes.result.now (waits c.args.self.now.gathered) c.args.self.now.reached c.as_bytes-bytes.ensures c.in_err-write.ensures.bytes

pub returns-in_err-write-clause-part : goal.returns-in_err-write-clause-part
returns-in_err-write-clause-part g c =
    left-part (stands c.args.self.now) (standing c.write.new.self.emptied (g.D.Disk.bytes c.write.new.self.disk)) c.args.self.now.place
    c.as_bytes-bytes.result.now (waits c.args.self.now.gathered) c.args.self.now.reached c.as_bytes-bytes.ensures c.in_err-write.ensures.bytes

pub returns-clause-part : goal.returns-clause-part
returns-clause-part g c =
    left-all (stands c.args.self.now) (standing c.write.new.self.emptied (g.D.Disk.bytes c.write.new.self.disk)) c.args.self.now.place
    c.as_bytes-bytes.result.now (waits c.args.self.now.gathered) c.args.self.now.reached c.as_bytes-bytes.ensures c.in_ok-write.ensures.bytes
