use Rattle.disk_player.proofs.FileLemmas.{has-put}
use Rattle.disk_player.proofs.laws.a_player_has_put_blocks_of_its_file.Goals as goal

pub returns : goal.returns
returns c file period playing plays = has-put file period playing plays
