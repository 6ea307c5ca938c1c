-- What a rehearsal answers.
--     IsRehearsed n out out_after faults faults_after status      what stands on the sink
use Rattle.std.specs.Prelude.{ℕ, ◌≤◌, List, [], length, take, Option}
use Rattle.jack_host.specs.Bytes.{Gains}
use Rattle.jack_host.specs.Causes.{Rose}
use Rattle.rehearsal_model.specs.Rehearsals.{summary_text}
use Rattle.play_inputs.specs.declared.status.Status.{Status}
use Rattle.play_inputs.specs.declared.status.Status.TheVariants.{Ok, NoMemory, Words, ReadFault, BadWave, BadScript, WriteFault, Differs, Wrong}

-- the number's six lines; none for want of memory; or a front of them where the sink's count of faults rose
abbrev pub IsRehearsed : ℕ → Option (List ℕ) → Option (List ℕ) → ℕ → ℕ → Status → Type 0
IsRehearsed n out out_after faults faults_after Ok = Gains out out_after (summary_text n)
IsRehearsed n out out_after faults faults_after NoMemory = Gains out out_after []
IsRehearsed n out out_after faults faults_after Words = ⊥
IsRehearsed n out out_after faults faults_after ReadFault = ⊥
IsRehearsed n out out_after faults faults_after (BadWave fault) = ⊥
IsRehearsed n out out_after faults faults_after (BadScript fault) = ⊥
IsRehearsed n out out_after faults faults_after WriteFault =
    Rose faults faults_after × ((k : ℕ) × (k ≤ length (summary_text n)) × Gains out out_after (take k (summary_text n)))
IsRehearsed n out out_after faults faults_after (Differs difference) = ⊥
IsRehearsed n out out_after faults faults_after (Wrong row sight) = ⊥
