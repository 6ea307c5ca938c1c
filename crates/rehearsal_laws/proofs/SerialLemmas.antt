-- Serial mode without a disk.
--     no-underruns      what is printed rests on the script alone
use Rattle.std.proofs.Common.{◌≡◌, ℕ, List, [], length, map, ap}
use Rattle.session_model.specs.Disks.{turned_underruns}
use Rattle.session_model.specs.Explanations.{Given}
use Rattle.session_model.specs.Samples.{below}
use Rattle.session_model.specs.Serial.{course_before, serial, serial_printed}

pub no-underruns : (given : Given) → given.script.header.disks ≡ [] → serial_printed given ≡ serial given.script
no-underruns given none = ap (λ (disks : List ℕ). record (serial given.script) { underruns = map (turned_underruns (course_before given)) (below (length disks)) }) none
