-- The statuses.
--     code_of status      the exit code
use Rattle.std.specs.Prelude.{ℕ}
use Rattle.play_inputs.specs.declared.status.Status.{Status}
use Rattle.play_inputs.specs.declared.status.Status.TheVariants.{Ok, NoMemory, Words, ReadFault, BadWave, BadScript, WriteFault, Differs, Wrong}

abbrev pub code_of : Status → ℕ
code_of Ok = 0
code_of NoMemory = 1
code_of Words = 2
code_of ReadFault = 3
code_of (BadWave fault) = 4
code_of (BadScript fault) = 5
code_of WriteFault = 6
code_of (Differs difference) = 7
code_of (Wrong row sight) = 8
