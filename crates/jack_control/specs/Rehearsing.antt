-- The play of a rehearsal, in memory. No public clause cites this module.
--     HasFiles files made      its script and its capture are there
--     rehearsal_play      its names
--     IsDone status      it was done, memory lacked, or its lines could not be put out
use Rattle.std.specs.Prelude.{◌≡◌, [], ◌∷◌, codes, ⊤, Some}
use Rattle.jack_host.specs.Files.{bytes_under}
use Rattle.play_words.specs.Words.{Play}
use Rattle.rehearsals.specs.Made.{Made}
use Rattle.play_inputs.specs.declared.status.Status.{Status}
use Rattle.play_inputs.specs.declared.status.Status.TheVariants.{Ok, NoMemory, Words, ReadFault, BadWave, BadScript, WriteFault, Differs, Wrong}
use Rattle.play_inputs.specs.Inputs.{Files}

pub record HasFiles (files : Files) (made : Made) : Type 0 where
  pub script : bytes_under files (codes "script") ≡ Some made.script
  pub capture : bytes_under files (codes "capture") ≡ Some made.capture

abbrev pub rehearsal_play : Play
rehearsal_play = record {
  script = codes "script";
  capture = codes "capture";
  playback = codes "playback";
  records = codes "record" ∷ [];
  disks = [];
}

abbrev pub IsDone : Status → Type 0
IsDone Ok = ⊤
IsDone NoMemory = ⊤
IsDone Words = ⊥
IsDone ReadFault = ⊥
IsDone (BadWave fault) = ⊥
IsDone (BadScript fault) = ⊥
IsDone WriteFault = ⊤
IsDone (Differs difference) = ⊥
IsDone (Wrong row sight) = ⊥
