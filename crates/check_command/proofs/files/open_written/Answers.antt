use Rattle.std.proofs.Common.{◌⊎◌, inl, inr, ap, arith}
use Rattle.file_compare.specs.Comparisons.{Compared}
use Rattle.jack_host.specs.Causes.{Rose}
use Rattle.play_words.specs.Words.{Play}
use Rattle.play_inputs.proofs.InputLemmas.{same_after}
use Rattle.check_command.specs.Files.{written_names}
use Rattle.check_command.proofs.OpenedLemmas.{lacks-records, playback-named, why-failed, written-opened}
use Rattle.check_command.proofs.files.open_written.Goals as goal

pub returns-in_default-open_in-2-clause-read : goal.returns-in_default-open_in-2-clause-read
returns-in_default-open_in-2-clause-read g c = λ is.
    let kept = c.in-Ok-open_in.ensures.kept in
    let later = c.back.ensures.reads.later in
    why-failed (g.H.Host.files c.args.host.now) (g.H.Host.files c.open_in.new.self) _ c.args.names.now.playback (written_names c.args.report.now c.args.names.now) (Rose (g.H.Host.read_faults c.args.host.now) (g.H.Host.read_faults c.back.new.self))
    c.in-Ok-open_in.ensures.files (ap (λ (p : Play). p.playback) c.names.view_is) (playback-named c.args.report.now c.args.names.now)
    (λ there. let rose = c.in_default-open_in-2.ensures.failed there in omega (arith, kept, rose, later))

pub returns-in-Ok-open_records-clause-opened : goal.returns-in-Ok-open_records-clause-opened
returns-in-Ok-open_records-clause-opened g c =
    written-opened (g.H.Host.files c.args.host.now) (g.H.Host.files c.open_in.new.self) (g.H.Host.files c.open_in-2.new.self) c.args.report.now c.args.names.now _ c.of.result.left c.of-in-Ok-open_records.result.left _ _ _
    (ap (λ (p : Play). p.playback) c.names.view_is)
    c.of.ensures.left (ap (λ (one : Compared). one.left) c.of-in-Ok-open_records.ensures)
    c.in-Ok-open_in.ensures.files c.in-Ok-open_in-2.ensures.files c.in-Ok-open_in.ensures.bytes c.in-Ok-open_in-2.ensures.bytes c.in-Ok-open_records.ensures.opened

pub returns-in-Err-clause-read : goal.returns-in-Err-clause-read
returns-in-Err-clause-read g c = λ is.
    let one = c.in-Ok-open_in.ensures.kept in
    let two = c.in-Ok-open_in-2.ensures.kept in
    let more = c.back_records.ensures.reads.later in
    let playback = c.back-in-Err.ensures.reads.later in
    let report = c.back-in-Err-2.ensures.reads.later in
    let same = same_after _ _ _ c.in-Ok-open_in.ensures.files c.in-Ok-open_in-2.ensures.files in
    elim c.in-Err.ensures.read [
      | inl rose ↦ inl (omega (arith, one, two, more, playback, report, rose))
      | inr lacks ↦ inr (lacks-records (g.H.Host.files c.args.host.now) (g.H.Host.files c.open_in-2.new.self) c.args.report.now c.args.names.now same lacks)
    ]

pub returns-in-Err-clause-files : goal.returns-in-Err-clause-files
returns-in-Err-clause-files g c =
    same_after _ _ _ c.in-Ok-open_in.ensures.files (same_after _ _ _ c.in-Ok-open_in-2.ensures.files (same_after _ _ _ c.open_records.ensures.files
    (same_after _ _ _ c.back_records.ensures.files (same_after _ _ _ c.back-in-Err.ensures.files c.back-in-Err-2.ensures.files))))
