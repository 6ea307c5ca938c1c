use Rattle.std.proofs.Common.{inl, inr}
use Rattle.file_stores.specs.Gathering.{waits}
use Rattle.file_stores.specs.Drafts.{content_of, stands}
use Rattle.file_stores.specs.Standing.{standing}
use Rattle.file_stores.proofs.StandingLemmas.{failed-before, gathered, gathered-anew, part-none, stays-bare, written-through}
use Rattle.file_stores.proofs.draft.Draft.put.Goals as goal

pub returns-then-goes_on-clause-bytes : goal.returns-then-goes_on-clause-bytes
returns-then-goes_on-clause-bytes g c =
    gathered (stands c.args.self.now) c.args.self.now.place c.args.place (waits c.args.self.now.gathered) c.args.bytes.now (waits c.add.new.self)
    c.args.self.now.reached (c.goes_on.ensures c.if-goes_on.true) c.add.ensures

pub returns-in_err-write_out-clause-bytes : goal.returns-in_err-write_out-clause-bytes
returns-in_err-write_out-clause-bytes g c =
    failed-before (content_of c.args.self.now)
    (content_of c.write_out.new.self)
    c.from_residual.result c.args.place c.args.bytes.now c.from_residual.ensures.0 c.in_err-write_out.ensures.content

pub returns-then-not-has_room-clause-bytes : goal.returns-then-not-has_room-clause-bytes
returns-then-not-has_room-clause-bytes g c =
    written-through (content_of c.args.self.now)
    (stands c.write_out.new.self) (standing c.write.new.self.emptied (g.D.Disk.bytes c.write.new.self.disk))
    c.write.result c.write_out.new.self.place c.args.place (waits c.write_out.new.self.gathered) c.args.bytes.now
    c.in_ok-write_out.ensures.written c.in_ok-write_out.ensures.content c.write.ensures.bytes

pub returns-clause-bytes : goal.returns-clause-bytes
returns-clause-bytes g c =
    gathered-anew (content_of c.args.self.now)
    (stands c.write_out.new.self) c.write_out.new.self.place c.args.place
    (waits c.write_out.new.self.gathered) c.args.bytes.now (waits c.add-2.new.self) c.in_ok-write_out.ensures.written c.add-2.ensures c.in_ok-write_out.ensures.content

pub returns-then-goes_on-clause-stands : goal.returns-then-goes_on-clause-stands
returns-then-goes_on-clause-stands g c =
    inl (part-none (stands c.args.self.now) c.args.self.now.place (waits c.args.self.now.gathered), inr (returns-then-goes_on-clause-bytes g c))

pub returns-in_err-write_out-clause-stands : goal.returns-in_err-write_out-clause-stands
returns-in_err-write_out-clause-stands g c = inl (c.in_err-write_out.ensures.part, inl c.in_err-write_out.ensures.content)

pub returns-then-not-has_room-clause-stands : goal.returns-then-not-has_room-clause-stands
returns-then-not-has_room-clause-stands g c =
    inr (stays-bare (standing c.write.new.self.emptied (g.D.Disk.bytes c.write.new.self.disk)) c.write_out.new.self.place (waits c.write_out.new.self.gathered) c.in_ok-write_out.ensures.written)

pub returns-clause-stands : goal.returns-clause-stands
returns-clause-stands g c = inl (c.in_ok-write_out.ensures.part, inr (returns-clause-bytes g c))
