use Rattle.run_laws.proofs.MeetingLemmas.{KeepsAsked-met}
use Rattle.run_laws.proofs.meetings.asked_cycles_took_less.Goals as goal

pub returns : goal.returns
returns c = KeepsAsked-met
