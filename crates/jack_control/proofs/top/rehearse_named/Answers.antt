use Rattle.std.proofs.Common.{refl, subst}
use Rattle.jack_control.specs.Rehearsals.{IsRehearsed}
use Rattle.jack_control.proofs.top.rehearse_named.Goals as goal

pub returns-in_default-clause-rehearsed : goal.returns-in_default-clause-rehearsed
returns-in_default-clause-rehearsed g c = λ n is. absurd (c.in_default.ensures.unlawful refl n is)

pub returns-in_default-clause-words : goal.returns-in_default-clause-words
returns-in_default-clause-words g c = λ same n is. c.in_default.ensures.unlawful refl n is

pub returns-clause-rehearsed : goal.returns-clause-rehearsed
returns-clause-rehearsed g c = λ n is.
    subst (λ m. IsRehearsed m (g.K.Sink.content c.args.out.now) (g.K.Sink.content c.rehearse.new.out) (g.K.Sink.faults c.args.out.now) (g.K.Sink.faults c.rehearse.new.out) c.rehearse.result)
    (c.words_name_one_command.ensures.number _ c.in-Some.number n c.in-Some.ensures.lawful is) c.rehearse.ensures.rehearsed
