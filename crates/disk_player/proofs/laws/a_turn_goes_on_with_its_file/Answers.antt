use Rattle.disk_player.proofs.FileLemmas.{turned}
use Rattle.disk_player.proofs.laws.a_turn_goes_on_with_its_file.Goals as goal

pub returns-clause-plays : goal.returns-clause-plays
returns-clause-plays c file period most before after turn plays turns = (turned file period before plays turns.passed turns.count turns.puts most after turn turns.ends).0

pub returns-clause-ends : goal.returns-clause-ends
returns-clause-ends c file period most before after turn plays turns = (turned file period before plays turns.passed turns.count turns.puts most after turn turns.ends).1
