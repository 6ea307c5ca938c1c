use Rattle.std.proofs.Common.{ℕ, ◌≡◌, ◌<◌, Some, slice_get}
use Rattle.recorder_files.specs.Recorders.{Recording}
use Rattle.session_threads.specs.Serving.{IsUntorn}
use Rattle.session_threads.proofs.serving.has_failed.Given as goal

abbrev pub invariant-loop-recorder : goal.invariant-loop-recorder
invariant-loop-recorder g l = (i : ℕ) (r : Recording) → i < l.recorder-index → slice_get l.recorders i ≡ Some r → IsUntorn r
