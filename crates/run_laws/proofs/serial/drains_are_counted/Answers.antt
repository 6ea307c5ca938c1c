use Rattle.run_laws.proofs.CountLemmas.{Drains-counted}
use Rattle.run_laws.proofs.serial.drains_are_counted.Goals as goal

pub returns : goal.returns
returns c = Drains-counted
