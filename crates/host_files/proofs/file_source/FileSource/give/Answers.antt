use Rattle.std.proofs.Common.{ℕ, List, take, drop, ◌∙◌, ap₂, arith}
use Rattle.host_files.proofs.GatheringLemmas.{waiting-given}
use Rattle.host_files.proofs.file_source.FileSource.give.Goals as goal

pub returns-clause-bytes : goal.returns-clause-bytes
returns-clause-bytes g c =
    waiting-given c.args.self.now.room.bytes.items c.copy_from_slice.new.self _ c.args.self.now.at c.args.self.now.end c.min-count.result
    (omega (arith, c.min-count.ensures, c.args.self.now.ordered)) c.args.self.now.within
    (c.copy_from_slice.ensures.after ∙ ap₂ (λ (n : ℕ) (room : List ℕ). take n (drop c.args.self.now.at room)) (omega arith) c.deref.ensures.value)
