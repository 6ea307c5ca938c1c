use Rattle.run_laws.proofs.CountLemmas.{Puts-counted}
use Rattle.run_laws.proofs.serial.puts_are_counted.Goals as goal

pub returns : goal.returns
returns c = Puts-counted
