use Rattle.std.proofs.Common.{◌<◌, length, subst, sym}
use Rattle.session_model.specs.Scripts.{turns}
use Rattle.serial_laws.proofs.FaultTurns.{StandsInSerial-turn, TurnLaws}
use Rattle.serial_laws.proofs.NumberLemmas.{cycle-there}
use Rattle.serial_laws.proofs.PublishedLemmas.{HasNext, HasNext-desk}
use Rattle.serial_laws.proofs.faults.a_turn_that_fails_leaves_fronts.Goals as goal

pub returns : goal.returns
returns c = λ given freewheel session after done t phase here low at settled desk exact kept turn_is fails.
    let next : HasNext session = HasNext-desk c.number_before_cycle.ensures.published c.front_of_history.ensures session done t phase here low at settled.sound desk in
    StandsInSerial-turn laws given freewheel session settled exact next kept (subst (λ n. n < length (turns session.script)) (sym at) (cycle-there session.script done t phase here low)) turn_is
    c.fronts_of_so_far_are_fronts.ensures.playback c.fronts_of_so_far_are_fronts.ensures.records after fails
  where
    laws : TurnLaws
    laws = record {
      numbers = c.serial_meaning_is_legal.ensures.numbers;
      keeps_met = c.a_meeting_changes_nothing.ensures.keeps;
      fits_met = c.a_meeting_changes_nothing.ensures.fits;
      disks = c.a_cycle_of_the_disks_is_counted.ensures;
      serial_fits = c.the_serial_course_fits.ensures;
      graph_of = c.graph_is_of_the_row.ensures;
      active = c.recorders_are_active_as_in_serial_mode.ensures;
      drains = c.drains_are_counted.ensures;
      puts = c.puts_are_counted.ensures;
    }
