use Rattle.serial_laws.proofs.DiskLemmas.{DisksSerial-turned, PlaysAll-turned}
use Rattle.serial_laws.proofs.rings.a_turn_counts_the_disks.Goals as goal

pub returns-clause-counted : goal.returns-clause-counted
returns-clause-counted c = λ given freewheel session after settled left is turned exact own. DisksSerial-turned freewheel session after settled is turned c.a_cycle_of_the_disks_is_counted.ensures given own exact

pub returns-clause-plays : goal.returns-clause-plays
returns-clause-plays c = λ given freewheel session after settled left is turned. PlaysAll-turned freewheel session after settled is turned given
