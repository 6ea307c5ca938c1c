use Rattle.rehearsal_laws.specs.Lines.{Adds}
use Rattle.rehearsal_model.specs.Rehearsals.{lane_lines, drawn}
use Rattle.rehearsals.proofs.lines.add_lanes.Given as goal

-- what the turns before this one drew
abbrev pub invariant-loop-i : goal.invariant-loop-i
invariant-loop-i l = Adds l.initial.lines.items l.initial.rng (drawn lane_lines l.i 0 l.initial.rng) l.lines.items l.rng
