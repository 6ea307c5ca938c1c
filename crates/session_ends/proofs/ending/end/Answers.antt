use Rattle.std.proofs.Common.{ap}
use Rattle.std.specs.Option.{option_map}
use Rattle.jack_host.specs.Causes.{Rose}
use Rattle.session_works.specs.Drivers.{Gear}
use Rattle.recorder_files.specs.Recorders.{Stored}
use Rattle.session_works.specs.SerialWords.{EndsAll, IsBroken, IsFinished}
use Rattle.session_ends.specs.Closings.{CloseFails, ClosesAll}
use Rattle.session_works.specs.Insides.{parts_of}
use Rattle.session_works.specs.Parts.{Parts, session_of, told_of}
use Rattle.session_ends.proofs.EndLemmas.{ClosingFailed, PlaybackEnded, closing-failed, closing-fails, ends-all, has-ended, playback-ended, playback-fails, rose-playback, rose-tried, stops-playback, stops-recorder, stores-closed, stores-tried, told-closed}
use Rattle.session_works.proofs.ResultLemmas.{err-held, ok-held}
use Rattle.session_ends.proofs.ending.end.Goals as goal

-- ---- a recorder failed

pub returns-then-is_err-clause-fault : goal.returns-then-is_err-clause-fault
returns-then-is_err-clause-fault g c none given kept =
    c.an_end_in_either_mode.ensures.serial given (session_of g.G.Guest.sound c.args.parts.now) (told_of g.G.Guest.sound after) c.requires.ran.settled.sound (c.requires.ran.serial none) kept
    (closing-fails g.G.Guest.sound c.args.parts.now after c.requires.ran.settled.sound c.requires.ran.files failed.fails failed.gear failed.desk)
  where
    after : Parts
    after = record (parts_of {S = g.row.S.Denot} {W = g.row.W.Denot} {G = g.row.G.Denot} c.close_recorders.new.works) { playback = option_map {T = g.row.W.Denot} {U = Stored} (λ w. record { name = g.W.Store.name w; bytes = g.W.Store.content w; faults = g.W.Store.faults w }) c.parts.inside.playback; attached = c.parts.inside.attached }

    failed : ClosingFailed c.args.parts.now after
    failed = closing-failed c.args.parts.now (parts_of {S = g.row.S.Denot} {W = g.row.W.Denot} {G = g.row.G.Denot} c.parts.inside.works) (parts_of {S = g.row.S.Denot} {W = g.row.W.Denot} {G = g.row.G.Denot} c.close_recorders.new.works) (option_map {T = g.row.W.Denot} {U = Stored} (λ w. record { name = g.W.Store.name w; bytes = g.W.Store.content w; faults = g.W.Store.faults w }) c.parts.inside.playback) c.parts.inside.attached
        (ap (λ (p : Parts). p.gear) c.parts.view_is) (ap (λ (p : Parts). p.recorders) c.parts.view_is) (ap (λ (p : Parts). p.desk) c.parts.view_is) (ap (λ (p : Parts). p.playback) c.parts.view_is)
        (err-held c.close_recorders.result (CloseFails (parts_of {S = g.row.S.Denot} {W = g.row.W.Denot} {G = g.row.G.Denot} c.parts.inside.works) (parts_of {S = g.row.S.Denot} {W = g.row.W.Denot} {G = g.row.G.Denot} c.close_recorders.new.works)) c.if-is_err.ensures.value c.close_recorders.ensures.failed) c.close_recorders.ensures.driver c.close_recorders.ensures.desk

pub returns-then-is_err-clause-so_far : goal.returns-then-is_err-clause-so_far
returns-then-is_err-clause-so_far g c threads given at =
    c.an_end_in_either_mode.ensures.threads given (session_of g.G.Guest.sound c.args.parts.now) (told_of g.G.Guest.sound after) at threads
    (closing-fails g.G.Guest.sound c.args.parts.now after c.requires.ran.settled.sound c.requires.ran.files failed.fails failed.gear failed.desk)
  where
    after : Parts
    after = record (parts_of {S = g.row.S.Denot} {W = g.row.W.Denot} {G = g.row.G.Denot} c.close_recorders.new.works) { playback = option_map {T = g.row.W.Denot} {U = Stored} (λ w. record { name = g.W.Store.name w; bytes = g.W.Store.content w; faults = g.W.Store.faults w }) c.parts.inside.playback; attached = c.parts.inside.attached }

    failed : ClosingFailed c.args.parts.now after
    failed = closing-failed c.args.parts.now (parts_of {S = g.row.S.Denot} {W = g.row.W.Denot} {G = g.row.G.Denot} c.parts.inside.works) (parts_of {S = g.row.S.Denot} {W = g.row.W.Denot} {G = g.row.G.Denot} c.close_recorders.new.works) (option_map {T = g.row.W.Denot} {U = Stored} (λ w. record { name = g.W.Store.name w; bytes = g.W.Store.content w; faults = g.W.Store.faults w }) c.parts.inside.playback) c.parts.inside.attached
        (ap (λ (p : Parts). p.gear) c.parts.view_is) (ap (λ (p : Parts). p.recorders) c.parts.view_is) (ap (λ (p : Parts). p.desk) c.parts.view_is) (ap (λ (p : Parts). p.playback) c.parts.view_is)
        (err-held c.close_recorders.result (CloseFails (parts_of {S = g.row.S.Denot} {W = g.row.W.Denot} {G = g.row.G.Denot} c.parts.inside.works) (parts_of {S = g.row.S.Denot} {W = g.row.W.Denot} {G = g.row.G.Denot} c.close_recorders.new.works)) c.if-is_err.ensures.value c.close_recorders.ensures.failed) c.close_recorders.ensures.driver c.close_recorders.ensures.desk

pub returns-then-is_err-clause-stores : goal.returns-then-is_err-clause-stores
returns-then-is_err-clause-stores g c = stores-tried g.G.Guest.sound c.args.parts.now after c.requires.ran.settled.sound failed.fails (ap (λ (g : Gear). g.playback) failed.gear) failed.kept
  where
    after : Parts
    after = record (parts_of {S = g.row.S.Denot} {W = g.row.W.Denot} {G = g.row.G.Denot} c.close_recorders.new.works) { playback = option_map {T = g.row.W.Denot} {U = Stored} (λ w. record { name = g.W.Store.name w; bytes = g.W.Store.content w; faults = g.W.Store.faults w }) c.parts.inside.playback; attached = c.parts.inside.attached }

    failed : ClosingFailed c.args.parts.now after
    failed = closing-failed c.args.parts.now (parts_of {S = g.row.S.Denot} {W = g.row.W.Denot} {G = g.row.G.Denot} c.parts.inside.works) (parts_of {S = g.row.S.Denot} {W = g.row.W.Denot} {G = g.row.G.Denot} c.close_recorders.new.works) (option_map {T = g.row.W.Denot} {U = Stored} (λ w. record { name = g.W.Store.name w; bytes = g.W.Store.content w; faults = g.W.Store.faults w }) c.parts.inside.playback) c.parts.inside.attached
        (ap (λ (p : Parts). p.gear) c.parts.view_is) (ap (λ (p : Parts). p.recorders) c.parts.view_is) (ap (λ (p : Parts). p.desk) c.parts.view_is) (ap (λ (p : Parts). p.playback) c.parts.view_is)
        (err-held c.close_recorders.result (CloseFails (parts_of {S = g.row.S.Denot} {W = g.row.W.Denot} {G = g.row.G.Denot} c.parts.inside.works) (parts_of {S = g.row.S.Denot} {W = g.row.W.Denot} {G = g.row.G.Denot} c.close_recorders.new.works)) c.if-is_err.ensures.value c.close_recorders.ensures.failed) c.close_recorders.ensures.driver c.close_recorders.ensures.desk

pub returns-then-is_err-clause-cause : goal.returns-then-is_err-clause-cause
returns-then-is_err-clause-cause g c = rose-tried g.G.Guest.sound c.args.parts.now after c.requires.ran.settled.sound failed.fails (ap (λ (g : Gear). g.playback) failed.gear) failed.kept
  where
    after : Parts
    after = record (parts_of {S = g.row.S.Denot} {W = g.row.W.Denot} {G = g.row.G.Denot} c.close_recorders.new.works) { playback = option_map {T = g.row.W.Denot} {U = Stored} (λ w. record { name = g.W.Store.name w; bytes = g.W.Store.content w; faults = g.W.Store.faults w }) c.parts.inside.playback; attached = c.parts.inside.attached }

    failed : ClosingFailed c.args.parts.now after
    failed = closing-failed c.args.parts.now (parts_of {S = g.row.S.Denot} {W = g.row.W.Denot} {G = g.row.G.Denot} c.parts.inside.works) (parts_of {S = g.row.S.Denot} {W = g.row.W.Denot} {G = g.row.G.Denot} c.close_recorders.new.works) (option_map {T = g.row.W.Denot} {U = Stored} (λ w. record { name = g.W.Store.name w; bytes = g.W.Store.content w; faults = g.W.Store.faults w }) c.parts.inside.playback) c.parts.inside.attached
        (ap (λ (p : Parts). p.gear) c.parts.view_is) (ap (λ (p : Parts). p.recorders) c.parts.view_is) (ap (λ (p : Parts). p.desk) c.parts.view_is) (ap (λ (p : Parts). p.playback) c.parts.view_is)
        (err-held c.close_recorders.result (CloseFails (parts_of {S = g.row.S.Denot} {W = g.row.W.Denot} {G = g.row.G.Denot} c.parts.inside.works) (parts_of {S = g.row.S.Denot} {W = g.row.W.Denot} {G = g.row.G.Denot} c.close_recorders.new.works)) c.if-is_err.ensures.value c.close_recorders.ensures.failed) c.close_recorders.ensures.driver c.close_recorders.ensures.desk

pub returns-then-is_err-clause-order : goal.returns-then-is_err-clause-order
returns-then-is_err-clause-order g c = stops-recorder g.G.Guest.sound c.args.parts.now after c.requires.ran.settled.sound failed.fails (ap (λ (g : Gear). g.playback) failed.gear) failed.kept
  where
    after : Parts
    after = record (parts_of {S = g.row.S.Denot} {W = g.row.W.Denot} {G = g.row.G.Denot} c.close_recorders.new.works) { playback = option_map {T = g.row.W.Denot} {U = Stored} (λ w. record { name = g.W.Store.name w; bytes = g.W.Store.content w; faults = g.W.Store.faults w }) c.parts.inside.playback; attached = c.parts.inside.attached }

    failed : ClosingFailed c.args.parts.now after
    failed = closing-failed c.args.parts.now (parts_of {S = g.row.S.Denot} {W = g.row.W.Denot} {G = g.row.G.Denot} c.parts.inside.works) (parts_of {S = g.row.S.Denot} {W = g.row.W.Denot} {G = g.row.G.Denot} c.close_recorders.new.works) (option_map {T = g.row.W.Denot} {U = Stored} (λ w. record { name = g.W.Store.name w; bytes = g.W.Store.content w; faults = g.W.Store.faults w }) c.parts.inside.playback) c.parts.inside.attached
        (ap (λ (p : Parts). p.gear) c.parts.view_is) (ap (λ (p : Parts). p.recorders) c.parts.view_is) (ap (λ (p : Parts). p.desk) c.parts.view_is) (ap (λ (p : Parts). p.playback) c.parts.view_is)
        (err-held c.close_recorders.result (CloseFails (parts_of {S = g.row.S.Denot} {W = g.row.W.Denot} {G = g.row.G.Denot} c.parts.inside.works) (parts_of {S = g.row.S.Denot} {W = g.row.W.Denot} {G = g.row.G.Denot} c.close_recorders.new.works)) c.if-is_err.ensures.value c.close_recorders.ensures.failed) c.close_recorders.ensures.driver c.close_recorders.ensures.desk

-- ---- the playback failed

pub returns-then-is_err-2-clause-fault : goal.returns-then-is_err-2-clause-fault
returns-then-is_err-2-clause-fault g c none given kept =
    c.an_end_in_either_mode.ensures.serial given (session_of g.G.Guest.sound c.args.parts.now) (told_of g.G.Guest.sound after) c.requires.ran.settled.sound (c.requires.ran.serial none) kept
    (playback-fails g.G.Guest.sound c.args.parts.now after ended.tape ended.back c.requires.ran.settled.sound c.requires.ran.files ended.closes ended.gear ended.desk ended.attached ended.kept
    (err-held c.close_playback.result (IsBroken ended.tape ended.back.bytes) c.if-is_err-2.ensures.value ended.ends.broken))
  where
    after : Parts
    after = record (parts_of {S = g.row.S.Denot} {W = g.row.W.Denot} {G = g.row.G.Denot} c.close_recorders.new.works) { gear = c.close_playback.new.driver; playback = option_map {T = g.row.W.Denot} {U = Stored} (λ w. record { name = g.W.Store.name w; bytes = g.W.Store.content w; faults = g.W.Store.faults w }) c.close_playback.new.playback; attached = c.parts.inside.attached }

    ended : PlaybackEnded c.close_playback.result c.args.parts.now after
    ended = playback-ended g.G.Guest.sound c.close_playback.result c.args.parts.now (parts_of {S = g.row.S.Denot} {W = g.row.W.Denot} {G = g.row.G.Denot} c.parts.inside.works) (parts_of {S = g.row.S.Denot} {W = g.row.W.Denot} {G = g.row.G.Denot} c.close_recorders.new.works) c.close_playback.new.driver (option_map {T = g.row.W.Denot} {U = Stored} (λ w. record { name = g.W.Store.name w; bytes = g.W.Store.content w; faults = g.W.Store.faults w }) c.close_playback.new.playback) c.parts.inside.attached c.requires.ran
        (ap (λ (p : Parts). p.gear) c.parts.view_is) (ap (λ (p : Parts). p.recorders) c.parts.view_is) (ap (λ (p : Parts). p.desk) c.parts.view_is) (ap (λ (p : Parts). p.players) c.parts.view_is)
        (ok-held c.close_recorders.result (ClosesAll (parts_of {S = g.row.S.Denot} {W = g.row.W.Denot} {G = g.row.G.Denot} c.parts.inside.works) (parts_of {S = g.row.S.Denot} {W = g.row.W.Denot} {G = g.row.G.Denot} c.close_recorders.new.works)) c.if-is_err.ensures.value c.close_recorders.ensures.closed) c.close_recorders.ensures.driver c.close_recorders.ensures.desk c.close_recorders.ensures.readers c.close_playback.ensures.driver c.close_playback.ensures.back

pub returns-then-is_err-2-clause-so_far : goal.returns-then-is_err-2-clause-so_far
returns-then-is_err-2-clause-so_far g c threads given at =
    c.an_end_in_either_mode.ensures.threads given (session_of g.G.Guest.sound c.args.parts.now) (told_of g.G.Guest.sound after) at threads
    (playback-fails g.G.Guest.sound c.args.parts.now after ended.tape ended.back c.requires.ran.settled.sound c.requires.ran.files ended.closes ended.gear ended.desk ended.attached ended.kept
    (err-held c.close_playback.result (IsBroken ended.tape ended.back.bytes) c.if-is_err-2.ensures.value ended.ends.broken))
  where
    after : Parts
    after = record (parts_of {S = g.row.S.Denot} {W = g.row.W.Denot} {G = g.row.G.Denot} c.close_recorders.new.works) { gear = c.close_playback.new.driver; playback = option_map {T = g.row.W.Denot} {U = Stored} (λ w. record { name = g.W.Store.name w; bytes = g.W.Store.content w; faults = g.W.Store.faults w }) c.close_playback.new.playback; attached = c.parts.inside.attached }

    ended : PlaybackEnded c.close_playback.result c.args.parts.now after
    ended = playback-ended g.G.Guest.sound c.close_playback.result c.args.parts.now (parts_of {S = g.row.S.Denot} {W = g.row.W.Denot} {G = g.row.G.Denot} c.parts.inside.works) (parts_of {S = g.row.S.Denot} {W = g.row.W.Denot} {G = g.row.G.Denot} c.close_recorders.new.works) c.close_playback.new.driver (option_map {T = g.row.W.Denot} {U = Stored} (λ w. record { name = g.W.Store.name w; bytes = g.W.Store.content w; faults = g.W.Store.faults w }) c.close_playback.new.playback) c.parts.inside.attached c.requires.ran
        (ap (λ (p : Parts). p.gear) c.parts.view_is) (ap (λ (p : Parts). p.recorders) c.parts.view_is) (ap (λ (p : Parts). p.desk) c.parts.view_is) (ap (λ (p : Parts). p.players) c.parts.view_is)
        (ok-held c.close_recorders.result (ClosesAll (parts_of {S = g.row.S.Denot} {W = g.row.W.Denot} {G = g.row.G.Denot} c.parts.inside.works) (parts_of {S = g.row.S.Denot} {W = g.row.W.Denot} {G = g.row.G.Denot} c.close_recorders.new.works)) c.if-is_err.ensures.value c.close_recorders.ensures.closed) c.close_recorders.ensures.driver c.close_recorders.ensures.desk c.close_recorders.ensures.readers c.close_playback.ensures.driver c.close_playback.ensures.back

pub returns-then-is_err-2-clause-stores : goal.returns-then-is_err-2-clause-stores
returns-then-is_err-2-clause-stores g c =
    stores-closed g.G.Guest.sound c.args.parts.now after ended.tape ended.back c.requires.ran.settled.sound ended.closes ended.attached (ap (λ (g : Gear). g.playback) ended.gear) ended.kept ended.ends.later
  where
    after : Parts
    after = record (parts_of {S = g.row.S.Denot} {W = g.row.W.Denot} {G = g.row.G.Denot} c.close_recorders.new.works) { gear = c.close_playback.new.driver; playback = option_map {T = g.row.W.Denot} {U = Stored} (λ w. record { name = g.W.Store.name w; bytes = g.W.Store.content w; faults = g.W.Store.faults w }) c.close_playback.new.playback; attached = c.parts.inside.attached }

    ended : PlaybackEnded c.close_playback.result c.args.parts.now after
    ended = playback-ended g.G.Guest.sound c.close_playback.result c.args.parts.now (parts_of {S = g.row.S.Denot} {W = g.row.W.Denot} {G = g.row.G.Denot} c.parts.inside.works) (parts_of {S = g.row.S.Denot} {W = g.row.W.Denot} {G = g.row.G.Denot} c.close_recorders.new.works) c.close_playback.new.driver (option_map {T = g.row.W.Denot} {U = Stored} (λ w. record { name = g.W.Store.name w; bytes = g.W.Store.content w; faults = g.W.Store.faults w }) c.close_playback.new.playback) c.parts.inside.attached c.requires.ran
        (ap (λ (p : Parts). p.gear) c.parts.view_is) (ap (λ (p : Parts). p.recorders) c.parts.view_is) (ap (λ (p : Parts). p.desk) c.parts.view_is) (ap (λ (p : Parts). p.players) c.parts.view_is)
        (ok-held c.close_recorders.result (ClosesAll (parts_of {S = g.row.S.Denot} {W = g.row.W.Denot} {G = g.row.G.Denot} c.parts.inside.works) (parts_of {S = g.row.S.Denot} {W = g.row.W.Denot} {G = g.row.G.Denot} c.close_recorders.new.works)) c.if-is_err.ensures.value c.close_recorders.ensures.closed) c.close_recorders.ensures.driver c.close_recorders.ensures.desk c.close_recorders.ensures.readers c.close_playback.ensures.driver c.close_playback.ensures.back

pub returns-then-is_err-2-clause-cause : goal.returns-then-is_err-2-clause-cause
returns-then-is_err-2-clause-cause g c =
    rose-playback g.G.Guest.sound c.args.parts.now after ended.tape ended.back c.requires.ran.settled.sound ended.closes ended.attached (ap (λ (g : Gear). g.playback) ended.gear) ended.kept ended.ends.later
    (err-held c.close_playback.result (Rose ended.tape.faults ended.back.faults) c.if-is_err-2.ensures.value ended.ends.rose)
  where
    after : Parts
    after = record (parts_of {S = g.row.S.Denot} {W = g.row.W.Denot} {G = g.row.G.Denot} c.close_recorders.new.works) { gear = c.close_playback.new.driver; playback = option_map {T = g.row.W.Denot} {U = Stored} (λ w. record { name = g.W.Store.name w; bytes = g.W.Store.content w; faults = g.W.Store.faults w }) c.close_playback.new.playback; attached = c.parts.inside.attached }

    ended : PlaybackEnded c.close_playback.result c.args.parts.now after
    ended = playback-ended g.G.Guest.sound c.close_playback.result c.args.parts.now (parts_of {S = g.row.S.Denot} {W = g.row.W.Denot} {G = g.row.G.Denot} c.parts.inside.works) (parts_of {S = g.row.S.Denot} {W = g.row.W.Denot} {G = g.row.G.Denot} c.close_recorders.new.works) c.close_playback.new.driver (option_map {T = g.row.W.Denot} {U = Stored} (λ w. record { name = g.W.Store.name w; bytes = g.W.Store.content w; faults = g.W.Store.faults w }) c.close_playback.new.playback) c.parts.inside.attached c.requires.ran
        (ap (λ (p : Parts). p.gear) c.parts.view_is) (ap (λ (p : Parts). p.recorders) c.parts.view_is) (ap (λ (p : Parts). p.desk) c.parts.view_is) (ap (λ (p : Parts). p.players) c.parts.view_is)
        (ok-held c.close_recorders.result (ClosesAll (parts_of {S = g.row.S.Denot} {W = g.row.W.Denot} {G = g.row.G.Denot} c.parts.inside.works) (parts_of {S = g.row.S.Denot} {W = g.row.W.Denot} {G = g.row.G.Denot} c.close_recorders.new.works)) c.if-is_err.ensures.value c.close_recorders.ensures.closed) c.close_recorders.ensures.driver c.close_recorders.ensures.desk c.close_recorders.ensures.readers c.close_playback.ensures.driver c.close_playback.ensures.back

pub returns-then-is_err-2-clause-order : goal.returns-then-is_err-2-clause-order
returns-then-is_err-2-clause-order g c = stops-playback c.args.parts.now after ended.closes
  where
    after : Parts
    after = record (parts_of {S = g.row.S.Denot} {W = g.row.W.Denot} {G = g.row.G.Denot} c.close_recorders.new.works) { gear = c.close_playback.new.driver; playback = option_map {T = g.row.W.Denot} {U = Stored} (λ w. record { name = g.W.Store.name w; bytes = g.W.Store.content w; faults = g.W.Store.faults w }) c.close_playback.new.playback; attached = c.parts.inside.attached }

    ended : PlaybackEnded c.close_playback.result c.args.parts.now after
    ended = playback-ended g.G.Guest.sound c.close_playback.result c.args.parts.now (parts_of {S = g.row.S.Denot} {W = g.row.W.Denot} {G = g.row.G.Denot} c.parts.inside.works) (parts_of {S = g.row.S.Denot} {W = g.row.W.Denot} {G = g.row.G.Denot} c.close_recorders.new.works) c.close_playback.new.driver (option_map {T = g.row.W.Denot} {U = Stored} (λ w. record { name = g.W.Store.name w; bytes = g.W.Store.content w; faults = g.W.Store.faults w }) c.close_playback.new.playback) c.parts.inside.attached c.requires.ran
        (ap (λ (p : Parts). p.gear) c.parts.view_is) (ap (λ (p : Parts). p.recorders) c.parts.view_is) (ap (λ (p : Parts). p.desk) c.parts.view_is) (ap (λ (p : Parts). p.players) c.parts.view_is)
        (ok-held c.close_recorders.result (ClosesAll (parts_of {S = g.row.S.Denot} {W = g.row.W.Denot} {G = g.row.G.Denot} c.parts.inside.works) (parts_of {S = g.row.S.Denot} {W = g.row.W.Denot} {G = g.row.G.Denot} c.close_recorders.new.works)) c.if-is_err.ensures.value c.close_recorders.ensures.closed) c.close_recorders.ensures.driver c.close_recorders.ensures.desk c.close_recorders.ensures.readers c.close_playback.ensures.driver c.close_playback.ensures.back

-- ---- nothing failed

pub returns-clause-ends : goal.returns-clause-ends
returns-clause-ends g c given at_end = c.an_end_in_either_mode.ensures.ends given (session_of g.G.Guest.sound c.args.parts.now) (session_of g.G.Guest.sound after) c.requires.ran.settled.sound at_end whole
  where
    after : Parts
    after = record (parts_of {S = g.row.S.Denot} {W = g.row.W.Denot} {G = g.row.G.Denot} c.close_recorders.new.works) { gear = c.close_playback.new.driver; playback = option_map {T = g.row.W.Denot} {U = Stored} (λ w. record { name = g.W.Store.name w; bytes = g.W.Store.content w; faults = g.W.Store.faults w }) c.close_playback.new.playback; attached = c.parts.inside.attached }

    ended : PlaybackEnded c.close_playback.result c.args.parts.now after
    ended = playback-ended g.G.Guest.sound c.close_playback.result c.args.parts.now (parts_of {S = g.row.S.Denot} {W = g.row.W.Denot} {G = g.row.G.Denot} c.parts.inside.works) (parts_of {S = g.row.S.Denot} {W = g.row.W.Denot} {G = g.row.G.Denot} c.close_recorders.new.works) c.close_playback.new.driver (option_map {T = g.row.W.Denot} {U = Stored} (λ w. record { name = g.W.Store.name w; bytes = g.W.Store.content w; faults = g.W.Store.faults w }) c.close_playback.new.playback) c.parts.inside.attached c.requires.ran
        (ap (λ (p : Parts). p.gear) c.parts.view_is) (ap (λ (p : Parts). p.recorders) c.parts.view_is) (ap (λ (p : Parts). p.desk) c.parts.view_is) (ap (λ (p : Parts). p.players) c.parts.view_is)
        (ok-held c.close_recorders.result (ClosesAll (parts_of {S = g.row.S.Denot} {W = g.row.W.Denot} {G = g.row.G.Denot} c.parts.inside.works) (parts_of {S = g.row.S.Denot} {W = g.row.W.Denot} {G = g.row.G.Denot} c.close_recorders.new.works)) c.if-is_err.ensures.value c.close_recorders.ensures.closed) c.close_recorders.ensures.driver c.close_recorders.ensures.desk c.close_recorders.ensures.readers c.close_playback.ensures.driver c.close_playback.ensures.back

    whole : EndsAll (session_of g.G.Guest.sound c.args.parts.now) (session_of g.G.Guest.sound after)
    whole = ends-all g.G.Guest.sound c.args.parts.now after ended.tape ended.back c.requires.ran.settled.sound c.requires.ran.files ended.closes ended.gear ended.desk ended.players ended.attached ended.kept
        (ok-held c.close_playback.result (IsFinished ended.tape ended.back.bytes) c.if-is_err-2.ensures.value ended.ends.whole)

pub returns-clause-told : goal.returns-clause-told
returns-clause-told g c = told-closed g.G.Guest.sound c.args.parts.now after c.requires.ran.settled.sound ended.closes (ap (λ (g : Gear). g.playback) ended.gear)
  where
    after : Parts
    after = record (parts_of {S = g.row.S.Denot} {W = g.row.W.Denot} {G = g.row.G.Denot} c.close_recorders.new.works) { gear = c.close_playback.new.driver; playback = option_map {T = g.row.W.Denot} {U = Stored} (λ w. record { name = g.W.Store.name w; bytes = g.W.Store.content w; faults = g.W.Store.faults w }) c.close_playback.new.playback; attached = c.parts.inside.attached }

    ended : PlaybackEnded c.close_playback.result c.args.parts.now after
    ended = playback-ended g.G.Guest.sound c.close_playback.result c.args.parts.now (parts_of {S = g.row.S.Denot} {W = g.row.W.Denot} {G = g.row.G.Denot} c.parts.inside.works) (parts_of {S = g.row.S.Denot} {W = g.row.W.Denot} {G = g.row.G.Denot} c.close_recorders.new.works) c.close_playback.new.driver (option_map {T = g.row.W.Denot} {U = Stored} (λ w. record { name = g.W.Store.name w; bytes = g.W.Store.content w; faults = g.W.Store.faults w }) c.close_playback.new.playback) c.parts.inside.attached c.requires.ran
        (ap (λ (p : Parts). p.gear) c.parts.view_is) (ap (λ (p : Parts). p.recorders) c.parts.view_is) (ap (λ (p : Parts). p.desk) c.parts.view_is) (ap (λ (p : Parts). p.players) c.parts.view_is)
        (ok-held c.close_recorders.result (ClosesAll (parts_of {S = g.row.S.Denot} {W = g.row.W.Denot} {G = g.row.G.Denot} c.parts.inside.works) (parts_of {S = g.row.S.Denot} {W = g.row.W.Denot} {G = g.row.G.Denot} c.close_recorders.new.works)) c.if-is_err.ensures.value c.close_recorders.ensures.closed) c.close_recorders.ensures.driver c.close_recorders.ensures.desk c.close_recorders.ensures.readers c.close_playback.ensures.driver c.close_playback.ensures.back

pub returns-clause-ended : goal.returns-clause-ended
returns-clause-ended g c =
    has-ended g.G.Guest.sound c.args.parts.now after c.requires.ran.served c.requires.ran.settled.sound.files.sound (ap (λ (g : Gear). g.script) ended.gear) (ap (λ (g : Gear). g.failed) ended.gear)
    (c.an_end_in_either_mode.ensures.ran (session_of g.G.Guest.sound c.args.parts.now) (session_of g.G.Guest.sound after) c.requires.ran.settled.sound c.requires.ran.ran whole)
  where
    after : Parts
    after = record (parts_of {S = g.row.S.Denot} {W = g.row.W.Denot} {G = g.row.G.Denot} c.close_recorders.new.works) { gear = c.close_playback.new.driver; playback = option_map {T = g.row.W.Denot} {U = Stored} (λ w. record { name = g.W.Store.name w; bytes = g.W.Store.content w; faults = g.W.Store.faults w }) c.close_playback.new.playback; attached = c.parts.inside.attached }

    ended : PlaybackEnded c.close_playback.result c.args.parts.now after
    ended = playback-ended g.G.Guest.sound c.close_playback.result c.args.parts.now (parts_of {S = g.row.S.Denot} {W = g.row.W.Denot} {G = g.row.G.Denot} c.parts.inside.works) (parts_of {S = g.row.S.Denot} {W = g.row.W.Denot} {G = g.row.G.Denot} c.close_recorders.new.works) c.close_playback.new.driver (option_map {T = g.row.W.Denot} {U = Stored} (λ w. record { name = g.W.Store.name w; bytes = g.W.Store.content w; faults = g.W.Store.faults w }) c.close_playback.new.playback) c.parts.inside.attached c.requires.ran
        (ap (λ (p : Parts). p.gear) c.parts.view_is) (ap (λ (p : Parts). p.recorders) c.parts.view_is) (ap (λ (p : Parts). p.desk) c.parts.view_is) (ap (λ (p : Parts). p.players) c.parts.view_is)
        (ok-held c.close_recorders.result (ClosesAll (parts_of {S = g.row.S.Denot} {W = g.row.W.Denot} {G = g.row.G.Denot} c.parts.inside.works) (parts_of {S = g.row.S.Denot} {W = g.row.W.Denot} {G = g.row.G.Denot} c.close_recorders.new.works)) c.if-is_err.ensures.value c.close_recorders.ensures.closed) c.close_recorders.ensures.driver c.close_recorders.ensures.desk c.close_recorders.ensures.readers c.close_playback.ensures.driver c.close_playback.ensures.back

    whole : EndsAll (session_of g.G.Guest.sound c.args.parts.now) (session_of g.G.Guest.sound after)
    whole = ends-all g.G.Guest.sound c.args.parts.now after ended.tape ended.back c.requires.ran.settled.sound c.requires.ran.files ended.closes ended.gear ended.desk ended.players ended.attached ended.kept
        (ok-held c.close_playback.result (IsFinished ended.tape ended.back.bytes) c.if-is_err-2.ensures.value ended.ends.whole)

pub returns-clause-stores : goal.returns-clause-stores
returns-clause-stores g c =
    stores-closed g.G.Guest.sound c.args.parts.now after ended.tape ended.back c.requires.ran.settled.sound ended.closes ended.attached (ap (λ (g : Gear). g.playback) ended.gear) ended.kept ended.ends.later
  where
    after : Parts
    after = record (parts_of {S = g.row.S.Denot} {W = g.row.W.Denot} {G = g.row.G.Denot} c.close_recorders.new.works) { gear = c.close_playback.new.driver; playback = option_map {T = g.row.W.Denot} {U = Stored} (λ w. record { name = g.W.Store.name w; bytes = g.W.Store.content w; faults = g.W.Store.faults w }) c.close_playback.new.playback; attached = c.parts.inside.attached }

    ended : PlaybackEnded c.close_playback.result c.args.parts.now after
    ended = playback-ended g.G.Guest.sound c.close_playback.result c.args.parts.now (parts_of {S = g.row.S.Denot} {W = g.row.W.Denot} {G = g.row.G.Denot} c.parts.inside.works) (parts_of {S = g.row.S.Denot} {W = g.row.W.Denot} {G = g.row.G.Denot} c.close_recorders.new.works) c.close_playback.new.driver (option_map {T = g.row.W.Denot} {U = Stored} (λ w. record { name = g.W.Store.name w; bytes = g.W.Store.content w; faults = g.W.Store.faults w }) c.close_playback.new.playback) c.parts.inside.attached c.requires.ran
        (ap (λ (p : Parts). p.gear) c.parts.view_is) (ap (λ (p : Parts). p.recorders) c.parts.view_is) (ap (λ (p : Parts). p.desk) c.parts.view_is) (ap (λ (p : Parts). p.players) c.parts.view_is)
        (ok-held c.close_recorders.result (ClosesAll (parts_of {S = g.row.S.Denot} {W = g.row.W.Denot} {G = g.row.G.Denot} c.parts.inside.works) (parts_of {S = g.row.S.Denot} {W = g.row.W.Denot} {G = g.row.G.Denot} c.close_recorders.new.works)) c.if-is_err.ensures.value c.close_recorders.ensures.closed) c.close_recorders.ensures.driver c.close_recorders.ensures.desk c.close_recorders.ensures.readers c.close_playback.ensures.driver c.close_playback.ensures.back
