-- What serial mode does is an explanation.
--     Explained-serial      for each script in serial mode that the grammar allows, over any files
use Rattle.std.proofs.Common.{◌≡◌, [], length, None, refl}
use Rattle.session_model.specs.Explanations.{Given, Explained, record_text, written_of}
use Rattle.session_model.specs.Grammar.{IsScript}
use Rattle.session_model.specs.Disks.{turned_underruns}
use Rattle.session_model.specs.Serial.{serial_overruns, course_before, serial_underruns, serial_printed}
use Rattle.session_laws.proofs.ActivationLemmas.{get_or-map_below, length-map_below}
use Rattle.session_laws.proofs.SerialDiskLemmas.{Played-turned}
use Rattle.session_laws.proofs.SerialLawfulLemmas.{serial-is_legal, serial-has_cycles}
use Rattle.session_laws.proofs.SerialLossLemmas.{Lost-serial}

pub Explained-serial : (given : Given) → IsScript given.script → given.script.header.threads ≡ None → Explained given (serial_printed given) (written_of given (serial_printed given))
Explained-serial given is no_threads = record {
  legal = serial-is_legal given.script is;
  cycles = serial-has_cycles given.script is;
  overruns = length-map_below (serial_overruns given.script) (length given.script.header.recorders);
  records = length-map_below (record_text given (serial_printed given)) (length given.script.header.recorders);
  recorders = λ recorder h. record {
    lost = Lost-serial given.script is no_threads given.capture given.disks given.scores (serial_underruns given) recorder h;
    file = get_or-map_below (record_text given (serial_printed given)) (length given.script.header.recorders) recorder [] h;
  };
  underruns = length-map_below (turned_underruns (course_before given)) (length given.script.header.disks);
  disks = λ disk h. Played-turned (course_before given) disk (serial_underruns given) (get_or-map_below (turned_underruns (course_before given)) (length given.script.header.disks) disk [] h) no_threads;
  playback = refl;
  report = refl;
}
