-- What recorders have at each step of a session, and what its steps leave as it is.
--     HasEnds session count      so many recorders have all that a recorder has
--     reel_at, reel_of      what a recorder has
--     lists_of, ends_of, disks_of      the lists that meetings and lanes leave as they are, the recorders' ends, and what the disks have
--     IsReel-tried, IsReel-untried      readings of the disks leave the recorders
--     SerialRings-stays      rings whose counts are those of serial mode stay so
use Rattle.std.proofs.Common.{◌≡◌, ℕ, ◌<◌, Bool, true, false, List, length, slice_get, Some, sym, ◌∙◌, ap, subst}
use Rattle.std.proofs.lemmas.List.{length-map}
use Rattle.jack_types.specs.declared.replies.Overrun.{Overrun}
use Rattle.jack_types.specs.declared.replies.Underrun.{Underrun}
use Rattle.session_model.specs.Kinds.{Sound}
use Rattle.session_model.specs.Scripts.{Script}
use Rattle.session_model.specs.Serial.{Counts, counts, serial_course}
use Rattle.graph_word.specs.declared.view.TakenRow.{TakenRow}
use Rattle.graph_word.specs.Publications.{Reading}
use Rattle.driver_words.specs.Rings.{Getting, Sending}
use Rattle.driver_words.specs.Tapes.{Tape}
use Rattle.run_laws.specs.driver_laws.specs.Cycling.{StepsOnce}
use Rattle.run_laws.specs.driver_laws.specs.Drivers.{overruns_on, run}
use Rattle.recorder_files.specs.Recorders.{Reel}
use Rattle.run_laws.specs.Sessions.{Playing, Session}
use Rattle.run_laws.specs.SerialRuns.{HasCounts, RingSerial}
use Rattle.run_laws.proofs.PlaceLemmas.{some_at}
use Rattle.disk_runs.specs.Readings.{DisksBroke}
use Rattle.serial_laws.specs.Steps.{Begun, Emptied, GiveUp, IsReel, IsSound, Met, Rounded}

-- so many recorders have both ends of a ring, a file in the making and a count
pub record HasEnds (session : Session) (count : ℕ) : Type 0 where
  pub rings : length session.driver.rings ≡ count
  pub getting : length session.getting ≡ count
  pub tapes : length session.tapes ≡ count
  pub counts : length session.counts ≡ count

pub HasEnds-sound : (session : Session) → IsSound session → HasEnds session (length session.script.header.recorders)
HasEnds-sound session sound = record {
  rings = sound.one.rings.recorders ∙ ap (λ (s : Script). length s.header.recorders) sound.one.driver_script;
  getting = sound.one.recorder_ends;
  tapes = sym (length-map session.tapes (λ (tape : Tape). tape.format)) ∙ ap length sound.files.formats;
  counts = sym (ap length sound.files.counted) ∙ length-map session.getting (λ (got : Getting). length got.got) ∙ sound.one.recorder_ends;
}

pub HasEnds-gave : (most : ℕ) (session after : Session) (count : ℕ) → GiveUp most session after → HasEnds session count → HasEnds after count
HasEnds-gave most session after count gives ends =
    record { rings = gives.rings ∙ ends.rings; getting = gives.getting ∙ ends.getting; tapes = gives.tapes ∙ ends.tapes; counts = gives.counts ∙ ends.counts }

pub HasEnds-emptied : (freewheel : Bool) (session after : Session) (count : ℕ) → Emptied freewheel session after → HasEnds session count → HasEnds after count
HasEnds-emptied true session after count gives ends = HasEnds-gave session.script.header.ring session after count gives ends
HasEnds-emptied false session after count same ends = subst (λ (s : Session). HasEnds s count) (sym same) ends

-- a cycle of the driver, be it that its playback failed
pub HasEnds-stepped : (session after : Session) (count : ℕ) → StepsOnce session.driver after.driver → after ≡ record session { driver = after.driver } → HasEnds session count → HasEnds after count
HasEnds-stepped session after count steps same ends = record {
  rings = steps.as_many ∙ ends.rings;
  getting = ap (λ (s : Session). length s.getting) same ∙ ends.getting;
  tapes = ap (λ (s : Session). length s.tapes) same ∙ ends.tapes;
  counts = ap (λ (s : Session). length s.counts) same ∙ ends.counts;
}

-- what is with these ends of its ring
pub reel_of : (session : Session) (count recorder : ℕ) (ring : Sending) (got : Getting) → HasEnds session count → slice_get session.driver.rings recorder ≡ Some ring → slice_get session.getting recorder ≡ Some got → recorder < count
    → (tape : Tape) × (blocks : ℕ) × IsReel session recorder (record { ring = ring; getting = got; tape = tape; blocks = blocks })
reel_of session count recorder ring got ends ring_there got_there low =
    let tape = some_at session.tapes recorder (subst (λ n. recorder < n) (sym ends.tapes) low) in
    let blocks = some_at session.counts recorder (subst (λ n. recorder < n) (sym ends.counts) low) in
    (tape.0, blocks.0, record { ring = ring_there; getting = got_there; tape = tape.1; blocks = blocks.1 })

pub reel_at : (session : Session) (count recorder : ℕ) → HasEnds session count → recorder < count → (reel : Reel) × IsReel session recorder reel
reel_at session count recorder ends low =
    let ring = some_at session.driver.rings recorder (subst (λ n. recorder < n) (sym ends.rings) low) in
    let got = some_at session.getting recorder (subst (λ n. recorder < n) (sym ends.getting) low) in
    let rest = reel_of session count recorder ring.0 got.0 ends ring.1 got.1 low in
    (record { ring = ring.0; getting = got.0; tape = rest.0; blocks = rest.1 }, rest.2)

-- a cycle changes the ring alone
pub IsReel-stepped : (session after : Session) (recorder : ℕ) (reel : Reel) (ring : Sending) → after ≡ record session { driver = after.driver } → IsReel session recorder reel → slice_get after.driver.rings recorder ≡ Some ring
    → IsReel after recorder (record reel { ring = ring })
IsReel-stepped session after recorder reel ring same is there = record {
  ring = there;
  getting = ap (λ (s : Session). slice_get s.getting recorder) same ∙ is.getting;
  tape = ap (λ (s : Session). slice_get s.tapes recorder) same ∙ is.tape;
  blocks = ap (λ (s : Session). slice_get s.counts recorder) same ∙ is.blocks;
}

-- what neither a meeting nor a lane nor a recorder changes
pub record Lists : Type 0 where
  pub script : Script
  pub driver_script : Script
  pub scores : List Sound
  pub numbers : List ℕ
  pub rows : List TakenRow
  pub overruns : List Overrun
  pub underruns : List Underrun

abbrev pub lists_of : Session → Lists
lists_of session = record {
  script = session.script;
  driver_script = session.driver.script;
  scores = session.driver.scores;
  numbers = session.driver.numbers;
  rows = session.driver.reading.rows;
  overruns = session.driver.overruns;
  underruns = session.driver.underruns;
}

-- the ends of the recorders' rings
pub record Ends : Type 0 where
  pub rings : List Sending
  pub getting : List Getting

abbrev pub ends_of : Session → Ends
ends_of session = record { rings = session.driver.rings; getting = session.getting }

-- the players of the disks, and the ends of their rings that get
pub record Disks : Type 0 where
  pub players : List Playing
  pub disks : List Getting

abbrev pub disks_of : Session → Disks
disks_of session = record { players = session.players; disks = session.driver.disks }

pub lists-gave : (most : ℕ) (session after : Session) → GiveUp most session after → lists_of after ≡ lists_of session
lists-gave most session after gives = ap lists_of gives.same

pub lists-emptied : (freewheel : Bool) (session after : Session) → Emptied freewheel session after → lists_of after ≡ lists_of session
lists-emptied true session after gives = lists-gave session.script.header.ring session after gives
lists-emptied false session after same = ap lists_of same

pub disks-gave : (most : ℕ) (session after : Session) → GiveUp most session after → disks_of after ≡ disks_of session
disks-gave most session after gives = ap disks_of gives.same

pub disks-emptied : (freewheel : Bool) (session after : Session) → Emptied freewheel session after → disks_of after ≡ disks_of session
disks-emptied true session after gives = disks-gave session.script.header.ring session after gives
disks-emptied false session after same = ap disks_of same

pub disks-met : (session after : Session) → Met session after → disks_of after ≡ disks_of session
disks-met session after met = ap disks_of met.same

pub disks-rounded : (session after : Session) → Rounded session after → disks_of after ≡ disks_of session
disks-rounded session after rounded = ap disks_of rounded.same

-- readings of the disks, be it that one failed, leave all lists and all recorders
pub lists-tried : (most : ℕ) (session after : Session) → DisksBroke most session after → lists_of after ≡ lists_of session
lists-tried most session after tried = ap lists_of tried.same

pub HasEnds-tried : (most : ℕ) (session after : Session) (count : ℕ) → DisksBroke most session after → HasEnds session count → HasEnds after count
HasEnds-tried most session after count tried ends = record {
  rings = ap (λ (s : Session). length s.driver.rings) tried.same ∙ ends.rings;
  getting = ap (λ (s : Session). length s.getting) tried.same ∙ ends.getting;
  tapes = ap (λ (s : Session). length s.tapes) tried.same ∙ ends.tapes;
  counts = ap (λ (s : Session). length s.counts) tried.same ∙ ends.counts;
}

pub IsReel-tried : (most : ℕ) (session after : Session) (recorder : ℕ) (reel : Reel) → DisksBroke most session after → IsReel session recorder reel → IsReel after recorder reel
IsReel-tried most session after recorder reel tried is = record {
  ring = ap (λ (s : Session). slice_get s.driver.rings recorder) tried.same ∙ is.ring;
  getting = ap (λ (s : Session). slice_get s.getting recorder) tried.same ∙ is.getting;
  tape = ap (λ (s : Session). slice_get s.tapes recorder) tried.same ∙ is.tape;
  blocks = ap (λ (s : Session). slice_get s.counts recorder) tried.same ∙ is.blocks;
}

-- what a recorder has behind them it had before
pub IsReel-untried : (most : ℕ) (session after : Session) (recorder : ℕ) (reel : Reel) → DisksBroke most session after → IsReel after recorder reel → IsReel session recorder reel
IsReel-untried most session after recorder reel tried is = record {
  ring = ap (λ (s : Session). slice_get s.driver.rings recorder) (sym tried.same) ∙ is.ring;
  getting = ap (λ (s : Session). slice_get s.getting recorder) (sym tried.same) ∙ is.getting;
  tape = ap (λ (s : Session). slice_get s.tapes recorder) (sym tried.same) ∙ is.tape;
  blocks = ap (λ (s : Session). slice_get s.counts recorder) (sym tried.same) ∙ is.blocks;
}

pub lists-met : (session after : Session) → Met session after → lists_of after ≡ lists_of session
lists-met session after met = ap lists_of met.same ∙ ap (λ (r : Reading). record (lists_of session) { rows = r.rows }) met.meets.reader_is

pub ends-met : (session after : Session) → Met session after → ends_of after ≡ ends_of session
ends-met session after met = ap ends_of met.same

pub lists-rounded : (session after : Session) → Rounded session after → lists_of after ≡ lists_of session
lists-rounded session after rounded = ap lists_of rounded.same

pub ends-rounded : (session after : Session) → Rounded session after → ends_of after ≡ ends_of session
ends-rounded session after rounded = ap ends_of rounded.same

-- the counts and the overruns of all rings are those of the definition
abbrev pub SerialRings : Session → Type 0
SerialRings session = (recorder : ℕ) (ring : Sending) (got : Getting) → slice_get session.driver.rings recorder ≡ Some ring → slice_get session.getting recorder ≡ Some got → RingSerial session recorder ring got

pub SerialRings-stays : (session after : Session) → lists_of after ≡ lists_of session → ends_of after ≡ ends_of session → SerialRings session → SerialRings after
SerialRings-stays session after lists ends known recorder ring got ring_there got_there =
    let old : RingSerial session recorder ring got = known recorder ring got
    (ap (λ (e : Ends). slice_get e.rings recorder) (sym ends) ∙ ring_there)
    (ap (λ (e : Ends). slice_get e.getting recorder) (sym ends) ∙ got_there) in
    let same : counts (serial_course session.script) recorder (run session.driver) ≡ counts (serial_course after.script) recorder (run after.driver) =
    ap (λ (l : Lists). counts (serial_course l.script) recorder (length l.numbers)) (sym lists) in
    record {
      counted = subst (HasCounts ring got) same old.counted;
      losses = ap (λ (l : Lists). overruns_on l.overruns recorder) lists ∙ old.losses ∙ ap (λ (c : Counts). c.losses) same;
    }

-- the front of a phase moves no block
pub SerialRings-begun : (session after : Session) (done : ℕ) → Begun done session after → SerialRings session → SerialRings after
SerialRings-begun session after done begun =
    SerialRings-stays session after
    (lists-met begun.rounded after begun.meets_again ∙ lists-rounded begun.met begun.rounded begun.rounds ∙ lists-met begun.grouped begun.met begun.meets ∙ ap lists_of begun.group_same)
    (ends-met begun.rounded after begun.meets_again ∙ ends-rounded begun.met begun.rounded begun.rounds ∙ ends-met begun.grouped begun.met begun.meets ∙ ap ends_of begun.group_same)
