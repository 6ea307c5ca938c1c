use Rattle.serial_laws.proofs.FrontLemmas.{HasFront-played, HasFront-recorded}
use Rattle.serial_laws.proofs.faults.fronts_of_so_far_are_fronts.Goals as goal

pub returns-clause-playback : goal.returns-clause-playback
returns-clause-playback c = HasFront-played c.all_is_played_back.ensures

pub returns-clause-records : goal.returns-clause-records
returns-clause-records c = HasFront-recorded c.blocks_kept_are_recorded.ensures.samples
