use Rattle.disk_player.proofs.FileLemmas.{broken-put}
use Rattle.disk_player.proofs.laws.a_broken_turn_has_put_blocks_of_its_file.Goals as goal

pub returns : goal.returns
returns c file period most before after plays breaks = broken-put file period before plays most after breaks
