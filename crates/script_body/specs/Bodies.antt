-- What the call that reads the body answers.
--     ReadsAllBy view result read      the body lines, or the first fault; want of memory is free
use Rattle.std.specs.Prelude.{◌≡◌, ◌≢◌, Result, Ok, Err}
use Rattle.jack_types.specs.declared.scripts.Cause.TheVariants.{Memory}
use Rattle.jack_types.specs.declared.scripts.ScriptFault.{ScriptFault}

-- the call and the reading function agree: on the value, as it is seen, or on the fault
abbrev pub ReadsAllBy : {X Y : Type 0} → (X → Y) → Result X ScriptFault → Result Y ScriptFault → Type 0
ReadsAllBy view (Ok x) read = read ≡ Ok (view x)
ReadsAllBy view (Err fault) read = fault.cause ≢ Memory → read ≡ Err fault
