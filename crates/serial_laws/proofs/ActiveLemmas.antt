-- Which recorders are active in a cycle of serial mode.
--     is_taping-now      in its cycle a recorder is active where it is in the driver's graph
use Rattle.std.proofs.Common.{◌≡◌, ℕ, ◌+◌, ◌∷◌, slice_index, refl, sym, ◌∙◌, ap}
use Rattle.session_model.specs.Courses.{Course, graph}
use Rattle.session_model.specs.Explanations.{Given}
use Rattle.session_model.specs.Histories.{accepted}
use Rattle.session_model.specs.Recorders.{is_taping}
use Rattle.session_model.specs.Scripts.{Script}
use Rattle.session_model.specs.Serial.{serial_course, serial_history, serial_numbers}
use Rattle.session_model.specs.State.{State}
use Rattle.run_laws.specs.driver_laws.specs.Cycling.{StepsOnce}
use Rattle.run_laws.specs.driver_laws.specs.Drivers.{Driver, graph_now, has_tape, run}
use Rattle.run_laws.specs.driver_laws.specs.Keeping.{Fits}
use Rattle.serial_laws.specs.Faults.{serial_course_of}

-- the graph of a cycle, by any course that fits behind it, is that of the content that it took
abbrev pub GraphOfRow : Type 0
GraphOfRow = (driver after : Driver) (course : Course) → StepsOnce driver after → Fits after course → graph course (run driver + 1) ≡ graph_now after

-- with the changes and the number of serial mode a recorder is active where it is there
abbrev pub ActiveInSerial : Type 0
ActiveInSerial = (script : Script) (course : Course) (recorder k : ℕ) → course.script ≡ script → course.changes ≡ accepted (serial_history script)
    → slice_index (0 ∷ course.numbers) k ≡ slice_index (0 ∷ serial_numbers script) k → is_taping course recorder k ≡ is_taping (serial_course script) recorder k

-- in its cycle a recorder is active where it is in the driver's graph, where the course of serial mode fits behind it
pub is_taping-now : GraphOfRow → ActiveInSerial → (given : Given) (before driver : Driver) → StepsOnce before driver → Fits driver (serial_course_of given) → (recorder : ℕ)
    → is_taping (serial_course given.script) recorder (run before + 1) ≡ has_tape (graph_now driver) recorder
is_taping-now graph_of active given before driver steps fits recorder =
    sym (active given.script (serial_course_of given) recorder (run before + 1) refl refl refl) ∙ ap (λ (s : State). has_tape s recorder) (graph_of before driver (serial_course_of given) steps fits)
