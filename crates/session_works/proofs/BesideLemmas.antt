-- The driver and the recorders beside another desk, and other players.
--     files-same      the files of the same recorders
--     files-beside, stays-beside, stays-given_back      their files, and what stays
use Rattle.std.proofs.Common.{◌≡◌, List, sym, subst}
use Rattle.session_model.specs.Kinds.{Sound}
use Rattle.client_kinds.specs.Scores.{Score}
use Rattle.control_desk.specs.Desks.{Desk}
use Rattle.cycle_driver.specs.Gears.{Gear}
use Rattle.recorder_files.specs.Recorders.{Recording}
use Rattle.run_laws.specs.Sessions.{Playing}
use Rattle.session_works.specs.Insides.{Aside, Stays, beside, parts_with}
use Rattle.session_works.specs.Parts.{HasOpenFiles, Parts}
use Rattle.session_works.proofs.StayLemmas.{read_same}

pub files-beside : (aside other : Aside) (gear gear_after : Gear) (recordings : List Recording) → HasOpenFiles (parts_with aside gear recordings) → HasOpenFiles (parts_with other gear_after recordings)
files-beside aside other gear gear_after recordings files = record { tapes = files.tapes; no_playback = files.no_playback; no_stores = files.no_stores }

pub files-same : (aside other : Aside) (gear gear_after : Gear) (recordings recordings_after : List Recording) → recordings_after ≡ recordings → HasOpenFiles (parts_with aside gear recordings) → HasOpenFiles (parts_with other gear_after recordings_after)
files-same aside other gear gear_after recordings recordings_after same files =
    subst (λ (l : List Recording). HasOpenFiles (parts_with other gear_after l)) (sym same) (files-beside aside other gear gear_after recordings files)

pub stays-beside : (sounding : Score → Sound) (aside other : Aside) (gear : Gear) (recordings : List Recording) (gear_after : Gear) (recordings_after : List Recording)
    → Stays sounding (parts_with aside gear recordings) (parts_with aside gear_after recordings_after) → Stays sounding (parts_with other gear recordings) (parts_with other gear_after recordings_after)
stays-beside sounding aside other gear recordings gear_after recordings_after stays = record {
  script = stays.script;
  scores = stays.scores;
  files = files-beside aside other gear_after gear_after recordings_after stays.files;
  later = stays.later;
  capture = stays.capture;
  many = stays.many;
  players = read_same other.players;
}

-- another desk came back
pub stays-given_back : (sounding : Score → Sound) (before : Parts) (desk other : Desk) (players : List Playing) (gear_after : Gear) (recordings_after : List Recording)
    → Stays sounding before (parts_with (beside desk players) gear_after recordings_after) → Stays sounding before (parts_with (beside other players) gear_after recordings_after)
stays-given_back sounding before desk other players gear_after recordings_after stays = record {
  script = stays.script;
  scores = stays.scores;
  files = files-beside (beside desk players) (beside other players) gear_after gear_after recordings_after stays.files;
  later = stays.later;
  capture = stays.capture;
  many = stays.many;
  players = stays.players;
}
