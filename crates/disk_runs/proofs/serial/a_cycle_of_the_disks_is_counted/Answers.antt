use Rattle.disk_runs.proofs.CountLemmas.{DisksSerial-turned}
use Rattle.disk_runs.proofs.serial.a_cycle_of_the_disks_is_counted.Goals as goal

pub returns : goal.returns
returns c given session after one own turns so_far known =
    DisksSerial-turned given session after one own turns known c.accepted_of_legal.ensures.calls c.serial_meaning_is_legal.ensures.history c.graph_is_of_the_row.ensures so_far
