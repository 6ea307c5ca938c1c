use Rattle.std.proofs.Common.{◌≡◌, length, map}
use Rattle.std.specs.Prelude.{slice_index_or}
use Rattle.session_model.specs.Texts.{said}
use Rattle.check_command.proofs.opening.line_at.Given as goal

-- the line at the place is the one at what is left of the place, among the lines that are left
abbrev pub invariant-lines : goal.invariant-lines
invariant-lines l = slice_index_or (map (λ line. line.number) l.lines.lines) l.left 0 ≡ slice_index_or (map (λ line. line.number) (said l.text)) l.place 0

abbrev pub decreases-lines : goal.decreases-lines
decreases-lines l = length l.lines.lines
