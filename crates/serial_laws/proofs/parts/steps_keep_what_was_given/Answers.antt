use Rattle.serial_laws.proofs.KeepLemmas.{KeepsOwn-begun, KeepsOwn-cycled, KeepsOwn-gave, KeepsOwn-met, KeepsOwn-read, KeepsOwn-rounded, KeepsOwn-told}
use Rattle.serial_laws.proofs.parts.steps_keep_what_was_given.Goals as goal

pub returns-clause-blocks : goal.returns-clause-blocks
returns-clause-blocks c = KeepsOwn-gave c.a_meeting_changes_nothing.ensures.fits c.a_meeting_changes_nothing.ensures.keeps

pub returns-clause-read : goal.returns-clause-read
returns-clause-read c = KeepsOwn-read c.a_meeting_changes_nothing.ensures.fits c.a_meeting_changes_nothing.ensures.keeps

pub returns-clause-told : goal.returns-clause-told
returns-clause-told c = KeepsOwn-told c.a_meeting_changes_nothing.ensures.fits c.a_meeting_changes_nothing.ensures.keeps

pub returns-clause-cycled : goal.returns-clause-cycled
returns-clause-cycled c = KeepsOwn-cycled c.what_fits_behind_fits_before.ensures.whole

pub returns-clause-met : goal.returns-clause-met
returns-clause-met c = KeepsOwn-met c.a_meeting_changes_nothing.ensures.fits c.a_meeting_changes_nothing.ensures.keeps

pub returns-clause-rounded : goal.returns-clause-rounded
returns-clause-rounded c = KeepsOwn-rounded

pub returns-clause-begun : goal.returns-clause-begun
returns-clause-begun c = λ given done. KeepsOwn-begun c.a_meeting_changes_nothing.ensures.fits c.a_meeting_changes_nothing.ensures.keeps given done
