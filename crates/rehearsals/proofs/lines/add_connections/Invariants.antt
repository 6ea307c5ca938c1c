use Rattle.rehearsal_laws.specs.Lines.{Adds}
use Rattle.rehearsal_model.specs.Rehearsals.{any_line, drawn}
use Rattle.rehearsals.proofs.lines.add_connections.Given as goal

-- what the turns before this one drew
abbrev pub invariant-loop-i : goal.invariant-loop-i
invariant-loop-i l = Adds l.initial.lines.items l.initial.rng (drawn any_line l._i 0 l.initial.rng) l.lines.items l.rng
