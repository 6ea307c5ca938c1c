use Rattle.run_laws.proofs.PlayerLemmas.{PlaysAll-new}
use Rattle.run_laws.proofs.runs.new_players_play_their_files.Goals as goal

pub returns : goal.returns
returns c = PlaysAll-new
