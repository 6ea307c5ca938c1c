use Rattle.serial_laws.proofs.CycleLemmas.{SerialAt-turned, SerialKept-turned}
use Rattle.serial_laws.proofs.cycles.a_cycle_goes_on.Goals as goal

pub returns-clause-at : goal.returns-clause-at
returns-clause-at c session after done t phase there early settled at turned =
    SerialAt-turned c.cycles_of_a_phase.ensures.there c.cycles_of_a_phase.ensures.is c.a_turn_is_exact.ensures.exact c.a_turn_leaves_the_parts.ensures.settled session after done t phase there early settled at turned
    c.a_turn_is_exact.ensures.desk c.a_turn_is_exact.ensures.one_more

pub returns-clause-kept : goal.returns-clause-kept
returns-clause-kept c given session after done t phase there early settled at turned =
    SerialKept-turned c.cycles_of_a_phase.ensures.there c.cycles_of_a_phase.ensures.is c.a_turn_is_exact.ensures.exact c.a_turn_leaves_the_parts.ensures.settled session after done t phase there early settled at turned
    c.a_turn_leaves_the_parts.ensures.kept c.a_turn_counts_the_blocks.ensures c.a_turn_counts_the_disks.ensures.counted c.a_turn_counts_the_disks.ensures.plays given
