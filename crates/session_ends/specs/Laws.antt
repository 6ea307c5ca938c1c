-- The laws of an end, as they are cited. No public clause cites this module.
--     EndsWhole, RanBehindEnd      where it is whole
--     SerialEndStands      where it fails in serial mode
use Rattle.std.specs.Prelude.{length}
use Rattle.session_model.specs.Explanations.{Given}
use Rattle.session_model.specs.Scripts.{phases}
use Rattle.session_works.specs.RunWords.{AtPhase, Ends, RanPhases, SerialBehind, SerialKept, Session}
use Rattle.session_works.specs.SerialWords.{EndFails, EndsAll, IsSound, StandsInSerial}

abbrev pub EndsWhole : Type 0
EndsWhole = (given : Given) (session after : Session) → IsSound session → AtPhase session given (length (phases session.script)) → EndsAll session after → Ends given session after

abbrev pub RanBehindEnd : Type 0
RanBehindEnd = (session after : Session) → IsSound session → RanPhases session (length (phases session.script)) → EndsAll session after → RanPhases after (length (phases session.script))

abbrev pub SerialEndStands : Type 0
SerialEndStands = (given : Given) (session after : Session) → IsSound session → SerialBehind session (length (phases session.script)) → SerialKept given session → EndFails session after → StandsInSerial given after
