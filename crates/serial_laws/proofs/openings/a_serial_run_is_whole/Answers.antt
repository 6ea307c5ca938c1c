use Rattle.serial_laws.proofs.RunLemmas.{Runs-serial}
use Rattle.serial_laws.proofs.openings.a_serial_run_is_whole.Goals as goal

pub returns : goal.returns
returns c = λ before after serial. Runs-serial record {
  history = c.all_phases_end.ensures.history;
  numbers = c.all_phases_end.ensures.numbers;
  ran = c.all_phases_end.ensures.ran;
  at_end = c.serial_run_is_kept.ensures.at_end;
  overruns = c.serial_run_is_kept.ensures.overruns;
} c.lists_are_lawful.ensures c.misses_can_be.ensures.overruns c.misses_can_be.ensures.underruns c.underruns_are_the_stated.ensures.serial c.underruns_are_the_stated.ensures.printed c.ends_that_met_tell.ensures.rest c.cycles_of_phases.ensures before after
