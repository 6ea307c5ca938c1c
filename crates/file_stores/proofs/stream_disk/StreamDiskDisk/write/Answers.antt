use Rattle.file_stores.specs.Streams.{stream_bytes}
use Rattle.file_stores.proofs.StandingLemmas.{failed-before, moved-stays}
use Rattle.file_stores.proofs.stream_disk.StreamDiskDisk.write.Goals as goal

pub returns-in_err-move_to-clause-bytes : goal.returns-in_err-move_to-clause-bytes
returns-in_err-move_to-clause-bytes g c =
    failed-before (stream_bytes (g.S.Stream.told c.args.self.now.stream)) (stream_bytes (g.S.Stream.told c.move_to.new.self.stream)) c.from_residual.result c.args.place c.args.piece.now
    c.from_residual.ensures.0
    (moved-stays (g.S.Stream.told c.args.self.now.stream) (g.S.Stream.told c.move_to.new.self.stream) c.move_to.result c.args.place c.move_to.ensures.moves)
