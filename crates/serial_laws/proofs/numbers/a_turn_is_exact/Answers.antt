use Rattle.serial_laws.proofs.TurnLemmas.{AreExact-turned, SerialDesk-turned, run-turned}
use Rattle.serial_laws.proofs.numbers.a_turn_is_exact.Goals as goal

pub returns-clause-desk : goal.returns-clause-desk
returns-clause-desk c =
    λ freewheel session after done t phase here low at settled desk turned exact. SerialDesk-turned freewheel session after turned done t phase here low at settled.sound desk c.round_of_lanes.ensures c.desk_that_meets.ensures.serial

pub returns-clause-exact : goal.returns-clause-exact
returns-clause-exact c =
    λ freewheel session after done t phase here low at settled desk turned exact.
    AreExact-turned freewheel session after turned done t phase here low at settled.sound desk exact c.serial_meaning_is_legal.ensures.numbers c.number_before_cycle.ensures.published c.front_of_history.ensures

pub returns-clause-one_more : goal.returns-clause-one_more
returns-clause-one_more c = run-turned
