use Rattle.rehearsal_laws.specs.Lines.{Adds}
use Rattle.rehearsal_model.specs.Rehearsals.{chain_line, drawn}
use Rattle.rehearsals.proofs.lines.add_feeds.Given as goal

-- what the turns before this one drew
abbrev pub invariant-loop-i : goal.invariant-loop-i
invariant-loop-i l = Adds l.initial.lines.items l.initial.rng (drawn chain_line l.i 1 l.initial.rng) l.lines.items l.rng
