use Rattle.playback_laws.proofs.PeriodLemmas.{as_many-read, as_many-rested, channel-read, channel-rested}
use Rattle.playback_laws.proofs.periods.a_period_is_what_the_capture_has.Goals as goal

pub returns-clause-as_many : goal.returns-clause-as_many
returns-clause-as_many c = as_many-read

pub returns-clause-read : goal.returns-clause-read
returns-clause-read c left after channels count frames place reads low = channel-read left after channels count frames reads place low

pub returns-clause-rest : goal.returns-clause-rest
returns-clause-rest c channels count frames rested = (as_many-rested channels count frames rested, channel-rested channels count frames rested)
