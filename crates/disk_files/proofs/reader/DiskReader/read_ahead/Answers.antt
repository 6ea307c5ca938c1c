use Rattle.std.proofs.Common.{sym, subst}
use Rattle.driver_words.specs.Rings.{IsPair}
use Rattle.disk_player.specs.Playing.{Playing}
use Rattle.disk_player.proofs.StepLemmas.{on-err}
use Rattle.disk_files.specs.Readers.{BreaksAhead, ReadsAhead}
use Rattle.disk_files.proofs.ReaderLemmas.{breaks-ahead, either-pair, reads-ahead, when-err, when-ok}
use Rattle.disk_files.proofs.reader.DiskReader.read_ahead.Goals as goal

pub tell-requires : goal.tell-requires
tell-requires g c =
    either-pair c.turn-turned.result c.args.most c.self.inside.player c.turn-turned.new.self c.args.consumer.now c.turn-turned.ensures.ok c.turn-turned.ensures.err
    (subst (λ (p : Playing). IsPair p.sending c.args.consumer.now) (sym c.self.view_is) c.requires.pair)

pub returns-in_err-turned-clause-err : goal.returns-in_err-turned-clause-err
returns-in_err-turned-clause-err g c =
    on-err c.from_residual.result
    (subst (λ (p : Playing). BreaksAhead c.args.most p c.args.consumer.now c.tell.new.self c.tell.new.consumer) c.self.view_is
    (breaks-ahead c.args.most c.self.inside.player c.args.consumer.now c.turn-turned.new.self c.tell.new.self c.tell.new.consumer (when-err c.turn-turned.result _ _ c.in_err-turned.was c.turn-turned.ensures.err) (record { tells = c.tell.ensures.tells; same = c.tell.ensures.same })))

pub returns-clause-ok : goal.returns-clause-ok
returns-clause-ok g c =
    subst (λ (p : Playing). ReadsAhead c.args.most p c.args.consumer.now c.tell.new.self c.tell.new.consumer) c.self.view_is
    (reads-ahead c.args.most c.self.inside.player c.args.consumer.now c.turn-turned.new.self c.in_ok-turned.field-0 c.tell.new.self c.tell.new.consumer (when-ok c.turn-turned.result _ _ c.in_ok-turned.was c.turn-turned.ensures.ok) (record { tells = c.tell.ensures.tells; same = c.tell.ensures.same }))
