use Rattle.std.proofs.Common.{◌++◌}
use Rattle.check_courses.proofs.UntoldLemmas.{any-tape, writes}
use Rattle.check_courses.proofs.laws.a_cycle_without_its_file.Goals as goal

pub returns : goal.returns
returns c = λ driver after format e f sound steps plays.
    c.steps_that_play_are_a_cycle.ensures.ok driver after steps (writes driver after format e f sound)
    (λ left course fits keeps told. (plays left course fits keeps told, λ in_run samples had. any-tape after.playback format f (samples ++ _)))
