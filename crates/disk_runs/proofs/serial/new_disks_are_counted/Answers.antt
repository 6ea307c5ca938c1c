use Rattle.disk_runs.proofs.NewLemmas.{DisksSerial-new}
use Rattle.disk_runs.proofs.serial.new_disks_are_counted.Goals as goal

pub returns : goal.returns
returns c = DisksSerial-new c.new_players_play_their_files.ensures
