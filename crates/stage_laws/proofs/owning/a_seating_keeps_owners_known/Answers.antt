use Rattle.stage_laws.proofs.KnownLemmas.{known-seated}
use Rattle.stage_laws.proofs.owning.a_seating_keeps_owners_known.Goals as goal

pub returns : goal.returns
returns c plan rack owned after owned_after planned seating known seating_after seats =
    known-seated plan planned (c.one_client_of_each.ensures plan.base.capture plan.base.playback plan.changes) rack owned after owned_after seating known seating_after seats
