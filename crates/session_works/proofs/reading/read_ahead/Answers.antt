use Rattle.std.proofs.Common.{◌≡◌, false, refl, rules, true}
use Rattle.session_works.proofs.reading.read_ahead.Goals as goal

pub returns-then-try_all-clause-read : goal.returns-then-try_all-clause-read
returns-then-try_all-clause-read g c = let went : c.try_all.result ≡ true = search rules in c.try_all.ensures.read went

pub returns-else-try_all-clause-cause : goal.returns-else-try_all-clause-cause
returns-else-try_all-clause-cause g c = let stopped : c.try_all.result ≡ false = search rules in c.try_all.ensures.cause refl stopped
