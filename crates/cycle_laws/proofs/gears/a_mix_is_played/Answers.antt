use Rattle.cycle_laws.proofs.MixLemmas.{mix-now}
use Rattle.cycle_laws.proofs.gears.a_mix_is_played.Goals as goal

pub returns : goal.returns
returns c sounding freewheel before after plan moment is may turns left told =
    mix-now sounding is may turns (c.a_cycle_is_a_step.ensures sounding freewheel before after plan moment is may turns) left told
    c.a_period_is_what_the_capture_has.ensures.as_many
    c.a_period_is_what_the_capture_has.ensures.read
    c.a_period_is_what_the_capture_has.ensures.rest
    c.the_mix_is_played.ensures
