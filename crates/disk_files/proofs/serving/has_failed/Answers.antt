use Rattle.std.proofs.Common.{◌∙◌, length, refl, sym}
use Rattle.std.proofs.lemmas.Option.{slice_get_read}
use Rattle.disk_files.proofs.ReadLemmas.{going-all, going-more}
use Rattle.disk_files.proofs.serving.has_failed.Goals as goal

pub loop-reader-preserved : goal.loop-reader-preserved
loop-reader-preserved g c =
    going-more c.args.readers.now c.loop-reader.reader-index c.reader-item.result (slice_get_read c.args.readers.now (length c.args.readers.now) c.loop-reader.reader-index c.reader-item.result refl c.loop-reader-test.true c.reader-item.is)
    (sym c.failed.ensures ∙ c.if-failed.false) c.loop-reader.invariant

pub returns-clause-whole : goal.returns-clause-whole
returns-clause-whole g c none = going-all c.args.readers.now c.loop-reader.reader-index c.loop-reader-test.false c.loop-reader.invariant
