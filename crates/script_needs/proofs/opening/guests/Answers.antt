use Rattle.std.proofs.Common.{ap, fold, ◌∙◌}
use Rattle.script_needs.specs.Lines.{more_guests}
use Rattle.script_needs.proofs.OpenLemmas.{guests-on_lines}
use Rattle.script_needs.proofs.opening.guests.Goals as goal

pub returns : goal.returns
returns c = c.guests_behind.ensures ∙ ap (fold more_guests 0) c.lines.ensures.value ∙ guests-on_lines c.args.script.now c.lines.ensures.lawful
