use Rattle.serial_laws.proofs.TurnedLemmas.{IsSettled-turned, KeepsOwn-turned}
use Rattle.serial_laws.proofs.parts.a_turn_leaves_the_parts.Goals as goal

pub returns-clause-settled : goal.returns-clause-settled
returns-clause-settled c = λ freewheel session after settled left is turned. IsSettled-turned freewheel session after settled is turned

pub returns-clause-kept : goal.returns-clause-kept
returns-clause-kept c = λ given freewheel session after settled left is turned.
    KeepsOwn-turned freewheel session after settled is turned c.what_fits_behind_fits_before.ensures.whole c.a_meeting_changes_nothing.ensures.fits c.a_meeting_changes_nothing.ensures.keeps given
