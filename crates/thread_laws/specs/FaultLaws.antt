-- What holds of fronts behind a fault, each statement as a type.
--     KeptWithin      how many cycles a phase that failed really played
--     EndStands      an end that fails leaves fronts
use Rattle.std.specs.Prelude.{ℕ, ◌+◌, ◌≤◌, Bool, length, IsSome}
use Rattle.session_model.specs.Explanations.{Given}
use Rattle.session_model.specs.Scripts.{phases}
use Rattle.driver_laws.specs.Drivers.{run}
use Rattle.run_laws.specs.Runs.{AtPhase}
use Rattle.run_laws.specs.Sessions.{Session}
use Rattle.run_laws.specs.Told.{StandsSoFar}
use Rattle.serial_laws.specs.Endings.{EndFails}
use Rattle.thread_laws.specs.Faults.{ThreadFault}

-- all that were played before a phase that failed, and no more than with all of its own: of no file, and whatever was given
abbrev pub KeptWithin : Type 0
KeptWithin = (session after : Session) (done many kept : ℕ) (freewheel : Bool) → ThreadFault done many freewheel kept session after → (run session.driver ≤ kept) × (kept ≤ run session.driver + many)

-- behind all phases all cycles were played, so an end that fails leaves fronts of the whole files
abbrev pub EndStands : Type 0
EndStands = (given : Given) (session after : Session) → AtPhase session given (length (phases session.script)) → IsSome session.script.header.threads → EndFails session after → StandsSoFar (run session.driver) after given
