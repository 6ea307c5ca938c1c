use Rattle.std.proofs.Common.{All, subst, sym, ◌∙◌}
use Rattle.midi_seats.specs.task_laws.specs.Calls.{open_kinds}
use Rattle.midi_player.specs.Standings.{IsMidi}
use Rattle.midi_stage.proofs.OpeningLemmas.{all-midi}
use Rattle.midi_stage.proofs.opening.make_parts.Goals as goal

pub make-requires : goal.make-requires
make-requires c = subst (All IsMidi) (sym (c.as_slice.ensures.value ∙ c.in_ok-kinds.ensures)) (all-midi (open_kinds c.args.script.now))
