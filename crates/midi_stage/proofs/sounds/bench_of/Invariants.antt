use Rattle.std.proofs.Common.{◌≡◌, ◌<◌, ◌==◌, ℕ, false, get_or}
use Rattle.midi_stage.specs.declared.sounds.Output.{Output}
use Rattle.midi_stage.proofs.sounds.bench_of.Given as goal

abbrev pub invariant-loop-output : goal.invariant-loop-output
invariant-loop-output l = (k : ℕ) (d : Output) → k < l.output-index → ((get_or l.outputs k d).birth == l.birth) ≡ false
