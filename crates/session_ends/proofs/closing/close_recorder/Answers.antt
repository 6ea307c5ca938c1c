use Rattle.std.proofs.Common.{◌≡◌, Some, ap}
use Rattle.recorder_files.specs.Recorders.{Recording}
use Rattle.session_ends.proofs.CloseLemmas.{closed-of, failed-giving, failed-of}
use Rattle.session_works.proofs.ResultLemmas.{on-err}
use Rattle.session_ends.proofs.closing.close_recorder.Goals as goal

pub returns-in_err-give_up-clause-failed : goal.returns-in_err-give_up-clause-failed
returns-in_err-give_up-clause-failed g c =
    let broken = c.in_err-give_up.ensures.broken c.requires.file.0 c.requires.file.1 in
    let is : c.give_up.new.self.tape ≡ Some broken.0 = ap (λ (r : Recording). r.tape) broken.1 in
    on-err c.from_residual.result
    (failed-giving c.args.ring c.args.producer.now c.give_up.new.producer c.args.recorder.now c.give_up.new.self c.requires.file.0 broken.0 c.requires.file.1 is broken.2
    (c.in_err-give_up.ensures.cause c.requires.file.0 broken.0 c.requires.file.1 is).failed)

pub returns-clause-closed : goal.returns-clause-closed
returns-clause-closed g c =
    closed-of c.close.result c.args.ring c.args.producer.now c.give_up.new.producer c.args.recorder.now c.give_up.new.self c.close.new.self c.requires.file.0 c.requires.file.1
    (c.in_ok-give_up.ensures.given c.requires.file.0 c.requires.file.1) c.close.ensures.closed

pub returns-clause-failed : goal.returns-clause-failed
returns-clause-failed g c =
    failed-of c.close.result c.args.ring c.args.producer.now c.give_up.new.producer c.args.recorder.now c.give_up.new.self c.close.new.self c.requires.file.0 c.requires.file.1
    (c.in_ok-give_up.ensures.given c.requires.file.0 c.requires.file.1) c.close.ensures.closed
