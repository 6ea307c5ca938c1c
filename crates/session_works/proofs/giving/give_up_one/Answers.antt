use Rattle.std.proofs.Common.{sym}
use Rattle.std.proofs.lemmas.List.{get_or-set_same}
use Rattle.cycle_driver.specs.recorder_rings.specs.Sending.{no_ring}
use Rattle.session_works.proofs.ReelLemmas.{broke-one, gave-one, on-err_caused}
use Rattle.std.proofs.lemmas.Result.{on_ok_weaker}
use Rattle.session_works.proofs.giving.give_up_one.Goals as goal

pub returns-clause-given : goal.returns-clause-given
returns-clause-given g c =
    on_ok_weaker c.give_up.result
    (λ given. gave-one c.args.most _ _ c.producer.result.now c.give_up.new.producer c.args.recorder.now c.give_up.new.self c.requires.file.0 c.requires.file.1 c.producer.ensures.value
    (sym (get_or-set_same c.args.driver.now.rings.rings c.args.place c.give_up.new.producer no_ring c.requires.there)) (given c.requires.file.0 c.requires.file.1))
    c.give_up.ensures.given

pub returns-clause-broken : goal.returns-clause-broken
returns-clause-broken g c =
    on-err_caused c.give_up.result c.requires.file.0 c.give_up.new.self.tape
    (λ broken cause. broke-one _ _ c.producer.result.now c.give_up.new.producer c.args.recorder.now c.give_up.new.self c.requires.file.0 c.requires.file.1 c.producer.ensures.value
    (sym (get_or-set_same c.args.driver.now.rings.rings c.args.place c.give_up.new.producer no_ring c.requires.there)) (broken c.requires.file.0 c.requires.file.1) cause)
    c.give_up.ensures.broken
    (λ after is. c.give_up.ensures.cause c.requires.file.0 after c.requires.file.1 is)
