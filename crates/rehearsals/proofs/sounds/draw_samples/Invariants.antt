use Rattle.std.proofs.Common.{[]}
use Rattle.rehearsal_laws.specs.Lines.{Adds}
use Rattle.rehearsal_model.specs.Rehearsals.{drawn, sample_drawn}
use Rattle.rehearsals.proofs.sounds.draw_samples.Given as goal

-- what the turns before this one drew
abbrev pub invariant-loop-i : goal.invariant-loop-i
invariant-loop-i l = Adds [] l.initial.rng (drawn sample_drawn l._i 0 l.initial.rng) l.samples.items l.rng
