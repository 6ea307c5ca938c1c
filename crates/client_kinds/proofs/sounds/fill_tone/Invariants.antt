use Rattle.std.proofs.Common.{◌≡◌, ◌+◌, ◌*◌, ◌%◌, take, map}
use Rattle.port_mixer.specs.session_model.specs.Kinds.{tone_sample}
use Rattle.port_mixer.specs.session_model.specs.Samples.{below}
use Rattle.client_kinds.proofs.sounds.fill_tone.Given as goal

abbrev pub invariant-loop-i : goal.invariant-loop-i
invariant-loop-i l = record { frame : l.n ≡ (l.phase + l.i) % (2 * l.half); done : take l.i l.part ≡ map (λ i. tone_sample l.half l.fn.level (l.phase + i)) (below l.i) }
