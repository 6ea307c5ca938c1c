use Rattle.run_laws.proofs.PlayerLemmas.{PutsFile-plays}
use Rattle.run_laws.proofs.runs.players_put_their_files.Goals as goal

pub returns : goal.returns
returns c = PutsFile-plays c.a_player_has_put_blocks_of_its_file.ensures
