use Rattle.std.proofs.Common.{◌≡◌, take, sym, ◌∙◌, ap, arith, subst}
use Rattle.std.specs.Io.KnownBytes.{Consumes, IsAtEnd, prepend_known}
use Rattle.host_files.specs.Gathering.{waiting}
use Rattle.host_files.proofs.GatheringLemmas.{ended, failed-empty, given-gathered, given-waiting, none-given, none-waiting, passed-through, some-waiting}
use Rattle.host_files.proofs.file_source.FileSourceSource.read.Goals as goal
use Rattle.host_files.proofs.file_source.FileSourceSource.read.Goals.{then-self+else-buffer-len+in_ok-gather, else-self}

pub returns-then-buffer-len-clause-bytes : goal.returns-then-buffer-len-clause-bytes
returns-then-buffer-len-clause-bytes g c =
    passed-through (waiting c.args.self.now) (waiting c.read_through.new.self) (g.F.Read.remaining c.args.self.now.file) (g.F.Read.remaining c.read_through.new.self.file) c.read_through.result c.read_through.new.buffer
    (none-waiting c.args.self.now.room.bytes.items c.args.self.now.at c.args.self.now.end c.if-self.true) c.read_through.ensures.waits c.read_through.ensures.bytes

pub returns-in_err-gather-clause-bytes : goal.returns-in_err-gather-clause-bytes
returns-in_err-gather-clause-bytes g c =
    failed-empty (waiting c.args.self.now) (waiting c.gather.new.self) (g.F.Read.remaining c.args.self.now.file) (g.F.Read.remaining c.gather.new.self.file) c.from_residual.result c.args.buffer.now
    (none-waiting c.args.self.now.room.bytes.items c.args.self.now.at c.args.self.now.end c.if-self.true) c.in_err-gather.ensures.none c.from_residual.ensures.0 c.in_err-gather.ensures.failed

pub returns-clause-bytes : goal.returns-clause-bytes
returns-clause-bytes g c = elim c.if-self.branch [
  | then-self+else-buffer-len+in_ok-gather w ↦
      let same : w.gather.new.self.file ≡ c.give.new.self.file = ap (λ s. s.file) (sym w.self-is) ∙ sym c.give.ensures.file in (
        given-gathered (waiting c.args.self.now) (waiting w.gather.new.self) (waiting c.give.new.self) (take c.give.result c.give.new.buffer) (g.F.Read.remaining c.args.self.now.file) (g.F.Read.remaining c.give.new.self.file)
            (none-waiting c.args.self.now.room.bytes.items c.args.self.now.at c.args.self.now.end w.if-self.true)
            (subst (λ file. Consumes (g.F.Read.remaining c.args.self.now.file) (g.F.Read.remaining file) (waiting w.gather.new.self)) same w.in_ok-gather.ensures.bytes)
            (ap waiting (sym w.self-is) ∙ c.give.ensures.bytes),
        λ none some. ended (waiting c.give.new.self) (g.F.Read.remaining c.give.new.self.file) (c.give.ensures.end none some)
            (subst (λ file. IsAtEnd (g.F.Read.remaining file)) same
            (w.in_ok-gather.ensures.end (ap waiting (sym w.self-is) ∙ none-given (waiting c.if-self.self) (waiting c.give.new.self) c.give.new.buffer c.give.result none c.give.ensures.bytes (c.give.ensures.end none some))
            (omega (arith, w.if-buffer-len.false, w.len.ensures)))),
      )
  | else-self w ↦
      let same : c.args.self.now.file ≡ c.give.new.self.file = ap (λ s. s.file) (sym w.self-is) ∙ sym c.give.ensures.file in (
        subst (λ file. Consumes (prepend_known (waiting c.args.self.now) (g.F.Read.remaining c.args.self.now.file)) (prepend_known (waiting c.give.new.self) (g.F.Read.remaining file)) (take c.give.result c.give.new.buffer)) same
            (given-waiting (waiting c.args.self.now) (waiting c.give.new.self) (take c.give.result c.give.new.buffer) (g.F.Read.remaining c.args.self.now.file) (ap waiting (sym w.self-is) ∙ c.give.ensures.bytes)),
        λ none some. absurd (w.if-self.false (some-waiting c.args.self.now.room.bytes.items c.args.self.now.at c.args.self.now.end c.args.self.now.ordered c.args.self.now.within
            (ap waiting (sym w.self-is) ∙ none-given (waiting c.if-self.self) (waiting c.give.new.self) c.give.new.buffer c.give.result none c.give.ensures.bytes (c.give.ensures.end none some)))),
      )
]
