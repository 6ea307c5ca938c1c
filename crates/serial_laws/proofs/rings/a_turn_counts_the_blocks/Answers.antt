use Rattle.serial_laws.proofs.CountLemmas.{SerialRings-turned}
use Rattle.serial_laws.proofs.rings.a_turn_counts_the_blocks.Goals as goal

pub returns : goal.returns
returns c = λ given freewheel session after settled left is turned exact_after own disks known.
    SerialRings-turned c.drains_are_counted.ensures c.puts_are_counted.ensures c.graph_is_of_the_row.ensures c.recorders_are_active_as_in_serial_mode.ensures c.a_cycle_of_the_disks_is_counted.ensures
    c.the_serial_course_fits.ensures c.a_meeting_changes_nothing.ensures.fits given freewheel session after settled is turned exact_after own disks known
