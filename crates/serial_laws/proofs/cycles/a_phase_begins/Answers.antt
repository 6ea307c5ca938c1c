use Rattle.serial_laws.proofs.CycleLemmas.{SerialAt-begun, SerialKept-begun}
use Rattle.serial_laws.proofs.cycles.a_phase_begins.Goals as goal

pub returns-clause-at : goal.returns-clause-at
returns-clause-at c = SerialAt-begun c.a_phase_begins_exactly.ensures.exact c.a_phase_begins_exactly.ensures.desk c.a_phase_begins_exactly.ensures.same c.desks_leave_the_parts.ensures.begun

pub returns-clause-kept : goal.returns-clause-kept
returns-clause-kept c given session after done phase there sound behind begun = SerialKept-begun c.a_phase_begins_with_the_blocks.ensures c.steps_keep_what_was_given.ensures.begun given session after done begun
