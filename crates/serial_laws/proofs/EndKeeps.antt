-- What is kept of what was given where the rings were emptied and the playback was finished.
--     ended session after      the session behind its end
--     KeepsGiven-ended      what was kept of what was given is kept
use Rattle.std.proofs.Common.{List, [], Option, None, refl}
use Rattle.session_model.specs.Courses.{Course}
use Rattle.session_model.specs.Explanations.{Given}
use Rattle.driver_words.specs.Rings.{Sending}
use Rattle.driver_words.specs.Tapes.{Tape}
use Rattle.run_laws.specs.driver_laws.specs.Cycling.{HasMetOthers}
use Rattle.run_laws.specs.driver_laws.specs.Drivers.{Driver}
use Rattle.run_laws.specs.driver_laws.specs.Keeping.{Fits, Keeps}
use Rattle.run_laws.specs.Runs.{HasFiles}
use Rattle.run_laws.specs.Sessions.{IsOne, KeepsGiven, Session, course_in}
use Rattle.serial_laws.specs.Endings.{EndsAll}
use Rattle.serial_laws.proofs.EndRings.{rings-stay}

-- the end leaves this session
abbrev pub ended : Session → Session → Session
ended session after = record session { driver = record session.driver { rings = after.driver.rings; playback = None }; getting = after.getting; tapes = []; counts = after.counts; playback_file = after.playback_file; record_files = after.record_files }

-- a meeting with other ends keeps what was kept
abbrev pub MeetingKeeps : Type 0
MeetingKeeps = (driver after : Driver) (course : Course) → HasMetOthers driver after → Keeps driver course → Keeps after course

-- what a course fits has nothing to do with the recorders' rings or with the playback
Fits-other : (driver : Driver) (rings : List Sending) (playback : Option Tape) (course : Course) → Fits driver course → Fits (record driver { rings = rings; playback = playback }) course
Fits-other driver rings playback course fits = record {
  script = fits.script;
  scores = fits.scores;
  channels = fits.channels;
  of_calls = fits.of_calls;
  numbers = fits.numbers;
  rows = fits.rows;
  underruns = fits.underruns;
  disks = fits.disks;
}

-- a driver whose playback was taken keeps all else
Keeps-taken : (driver : Driver) (course : Course) → Keeps driver course → Keeps (record driver { playback = None }) course
Keeps-taken driver course keeps = record {
  moments = keeps.moments;
  transport = keeps.transport;
  rings = keeps.rings;
  disks = keeps.disks;
  left = keeps.left;
  playback = tt;
  driven = keeps.driven;
}

module _ (session after : Session) (one : IsOne session) (files : HasFiles session) (ends : EndsAll session after) where
  -- its ends met those of the recorders
  met_others : HasMetOthers (record session.driver { playback = None }) (ended session after).driver
  met_others = record {
    rows = refl;
    rings = rings-stay session after one files ends;
    disks = λ disk got there. (got, there, record { samples = refl; got = refl; done = refl });
    back = λ disk old there. (old, there, record { samples = refl; got = refl; done = refl });
    same = refl;
  }

  pub KeepsGiven-ended : MeetingKeeps → (given : Given) → KeepsGiven given session → KeepsGiven given (ended session after)
  KeepsGiven-ended keeps given kept = record {
    own = record { script = kept.own.script; scores = kept.own.scores; channels = kept.own.channels };
    fits = Fits-other session.driver after.driver.rings None (course_in given session) kept.fits;
    keeps = λ course over fits.
        keeps (record session.driver { playback = None }) (ended session after).driver course met_others
        (Keeps-taken session.driver course (kept.keeps course over (Fits-other (ended session after).driver session.driver.rings session.driver.playback course fits)));
  }
