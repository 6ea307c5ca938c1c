-- A serial session before its first phase.
--     IsOne-bare      files are no matter of whether its parts belong together
--     KeepsAny-bare      nor of what is kept, where the playback's has no samples
--     HaveMet-opening      the ends of a new publication have met
--     IsSound-new, IsSettled-new, SerialBehind-new, SerialKept-new      where a new session stands whose files are begun
use Rattle.std.proofs.Common.{◌≡◌, ℕ, ◌<◌, ◌≤◌, false, List, [], length, take, slice_get, All, IsNone, Some, None, refl, sym, ◌∙◌, ap, subst}
use Rattle.std.specs.Prelude.{Contains}
use Rattle.std.proofs.lemmas.List.Elements.{All-weaker}
use Rattle.std.proofs.lemmas.Option.{get_or_from_slice_get, slice_get_within}
use Rattle.jack_types.specs.declared.replies.Overrun.{Overrun}
use Rattle.jack_types.specs.declared.replies.Underrun.{Underrun}
use Rattle.session_model.specs.Courses.{Course}
use Rattle.session_model.specs.Explanations.{Given}
use Rattle.session_model.specs.Histories.{accepted}
use Rattle.session_model.specs.Publication.{SeenPair}
use Rattle.session_model.specs.Rings.{RingBlock}
use Rattle.session_model.specs.Serial.{counts, serial_course, serial_history, serial_numbers}
use Rattle.graph_word.specs.declared.plans.Base.{Base}
use Rattle.graph_word.specs.declared.view.TakenRow.{TakenRow}
use Rattle.graph_word.specs.Publications.{HaveMet, IsFront, IsOpening, Publishing, Reading, last_row}
use Rattle.driver_words.specs.Rings.{Getting, Sending}
use Rattle.run_laws.specs.control_desk.specs.Desks.{base_of}
use Rattle.run_laws.specs.driver_laws.specs.Drivers.{Driver, HasOwnRings, HasOwnRows, overruns_on, run, turn_of}
use Rattle.run_laws.specs.driver_laws.specs.Keeping.{Fits, HasTape, Keeps, played_so_far}
use Rattle.run_laws.specs.driver_laws.specs.Openings.{IsEmptyRing}
use Rattle.run_laws.specs.driver_laws.proofs.PlaceLemmas.{none_below}
use Rattle.run_laws.specs.serial_lanes.specs.Laws.{BehindNone}
use Rattle.run_laws.specs.Runs.{HasFiles, MissesInRun, PlaysAll}
use Rattle.run_laws.specs.SerialRuns.{DisksSerial, HasCounts, RingSerial, SerialBehind, SerialKept}
use Rattle.run_laws.specs.Sessions.{IsGiven, IsMet, IsOne, KeepsAny, Session}
use Rattle.run_laws.specs.Told.{IsNew}
use Rattle.disk_runs.specs.Readings.{NoneFailed}
use Rattle.disk_runs.specs.Rests.{DisksFresh, DisksHaveRoom, DisksTell}
use Rattle.disk_runs.proofs.AloneLemmas.{DisksSerial-alone, DisksTell-alone, PlaysAll-alone}
use Rattle.disk_runs.proofs.GoingLemmas.{NoneFailed-new}
use Rattle.disk_runs.proofs.NewLemmas.{DisksTell-new, HasRoom-new, NewPlayTheirFiles}
use Rattle.serial_laws.specs.Openings.{AreFresh, bare}
use Rattle.serial_laws.specs.Steps.{IsSettled, IsSound}

-- all items of an empty list are anything
all-none : {X : Type 0} (P : X → Type 0) (xs : List X) → xs ≡ [] → All P xs
all-none P xs none k d h = absurd (none_below (subst (λ ys. k < length ys) none h))

contains-none : {X : Type 0} (xs : List X) (x : X) → xs ≡ [] → Contains xs x → ⊥
contains-none xs x none there = none_below (subst (λ ys. there.0 < length ys) none there.1)

-- what holds of all items holds of the one at a place
all-there : {X : Type 0} (P : X → Type 0) (xs : List X) (k : ℕ) (x : X) → All P xs → slice_get xs k ≡ Some x → P x
all-there P xs k x all here = subst P (get_or_from_slice_get xs k x x here) (all k x (slice_get_within xs k x here))

HasOwnRows-bare : (driver : Driver) → HasOwnRows (record driver { playback = None }) → HasOwnRows driver
HasOwnRows-bare driver rows = record { cycles = rows.cycles; numbers = rows.numbers; last = rows.last; place = rows.place; base = rows.base }

HasOwnRings-bare : (driver : Driver) → HasOwnRings (record driver { playback = None }) → HasOwnRings driver
HasOwnRings-bare driver rings = record {
  recorders = rings.recorders;
  disks = rings.disks;
  puts = rings.puts;
  gets = rings.gets;
  own = λ recorder ring here. record { samples = (rings.own recorder ring here).samples; most = (rings.own recorder ring here).most; items = (rings.own recorder ring here).items };
  own_disks = rings.own_disks;
}

pub IsOne-bare : (session : Session) → IsOne (bare session) → IsOne session
IsOne-bare session one = record {
  lawful = one.lawful;
  desk_script = one.desk_script;
  driver_script = one.driver_script;
  desk = one.desk;
  table = one.table;
  base = one.base;
  rows = HasOwnRows-bare session.driver one.rows;
  rings = HasOwnRings-bare session.driver one.rings;
  own_recorders = one.own_recorders;
  own_disks = one.own_disks;
  capacity = one.capacity;
  recorder_ends = one.recorder_ends;
  recorder_pairs = one.recorder_pairs;
  disk_ends = one.disk_ends;
  disk_pairs = one.disk_pairs;
}

-- a playback is no matter of what fits
Fits-bare : (driver : Driver) (course : Course) → Fits driver course → Fits (record driver { playback = None }) course
Fits-bare driver course fits = record {
  script = fits.script;
  scores = fits.scores;
  channels = fits.channels;
  of_calls = fits.of_calls;
  numbers = fits.numbers;
  rows = fits.rows;
  underruns = fits.underruns;
  disks = fits.disks;
}

-- before the first cycle nothing was played
Keeps-bare : (driver : Driver) (course : Course) → run driver ≡ 0 → HasTape driver.playback [] → Keeps (record driver { playback = None }) course → Keeps driver course
Keeps-bare driver course none tape keeps = record {
  moments = keeps.moments;
  transport = keeps.transport;
  rings = keeps.rings;
  disks = keeps.disks;
  left = keeps.left;
  playback = subst (λ n. HasTape driver.playback (played_so_far course n)) (sym none) tape;
  driven = keeps.driven;
}

pub KeepsAny-bare : (given : Given) (driver : Driver) → run driver ≡ 0 → HasTape driver.playback [] → KeepsAny given (record driver { playback = None }) → KeepsAny given driver
KeepsAny-bare given driver none tape keeps course over fits = Keeps-bare driver course none tape (keeps course over (Fits-bare driver course fits))

-- before any commit, take or look both ends know nothing
pub HaveMet-opening : (base : Base) (publisher : Publishing) (reader : Reading) → IsOpening base publisher reader → HaveMet publisher reader
HaveMet-opening base publisher reader new = record {
  one = sym (ap (λ (r : Reading). r.table) new.reader_is);
  same_base = ap (λ (p : Publishing). p.base) new.publisher_is ∙ sym (ap (λ (r : Reading). r.base) new.reader_is);
  reads = all-none (λ number. number ≤ length publisher.all) reader.reads (ap (λ (r : Reading). r.reads) new.reader_is);
  held = subst (λ held. IsFront held publisher.all) (sym (ap (λ (r : Reading). r.held) new.reader_is)) refl;
  rows = all-none (λ (row : TakenRow). IsFront row.changes publisher.all) reader.rows (ap (λ (r : Reading). r.rows) new.reader_is);
  seen = all-none (λ (pair : SeenPair). pair.cycle ≤ last_row reader.rows) publisher.pairs none_seen;
  bounded = λ pair row seen begun early. absurd (contains-none publisher.pairs pair none_seen seen);
}
  where
    none_seen : publisher.pairs ≡ []
    none_seen = ap (λ (p : Publishing). p.pairs) new.publisher_is

-- a new session keeps each course over what its sources tell
abbrev pub NewKeeps : Type 0
NewKeeps = (session : Session) (given : Given) → IsNew session → IsGiven session given → KeepsAny given session.driver

-- before the first cycle nothing is put, got or missed
abbrev pub NewDisksCounted : Type 0
NewDisksCounted = (session : Session) (given : Given) → IsNew session → IsGiven session given → DisksFresh session → DisksSerial given session

module _ (session : Session) (new : IsNew (bare session)) where
  none_run : run session.driver ≡ 0
  none_run = ap length new.new_driver.numbers

  pub one : IsOne session
  one = IsOne-bare session new.one

  pub misses : MissesInRun session
  misses = record {
    overruns = all-none (λ (overrun : Overrun). (turn_of session.script overrun.cycle).is_freewheel ≡ false) session.driver.overruns new.new_driver.overruns;
    underruns = all-none (λ (underrun : Underrun). (turn_of session.script underrun.cycle).is_freewheel ≡ false) session.driver.underruns new.new_driver.underruns;
  }

  pub met : IsMet session
  met = record {
    met = HaveMet-opening (base_of session.script) session.desk.publishing session.driver.reading new.opening;
    reader = ap (λ (r : Reading). r.least) new.opening.reader_is ∙ sym (ap (λ (p : Publishing). length p.all) new.opening.publisher_is);
    publisher = ap (λ (p : Publishing). p.least) new.opening.publisher_is ∙ sym none_run;
  }

  empty_ring : (recorder : ℕ) (ring : Sending) → slice_get session.driver.rings recorder ≡ Some ring → IsEmptyRing session.script.header.ring ring
  empty_ring recorder ring here = all-there (IsEmptyRing session.script.header.ring) session.driver.rings recorder ring new.new_driver.rings here

  -- files are no matter of the players
  pub room : DisksHaveRoom session
  room = HasRoom-new (bare session) new

  pub going : NoneFailed session
  going = NoneFailed-new (bare session) new

  pub IsSound-new : HasFiles session → IsSound session
  IsSound-new files = record {
    one = one;
    misses = misses;
    files = files;
    no_end = All-weaker (IsEmptyRing session.script.header.ring) (λ (ring : Sending). ring.ended ≡ false) (λ ring empty. empty.ended) session.driver.rings new.new_driver.rings;
    room = room;
    going = going;
  }

  pub tells : AreFresh session → DisksTell session
  tells fresh = DisksTell-alone (bare session) session refl refl (DisksTell-new (bare session) new fresh.disks)

  pub IsSettled-new : AreFresh session → HasFiles session → IsSettled session
  IsSettled-new fresh files = record { sound = IsSound-new files; tells = tells fresh }

  pub SerialBehind-new : BehindNone → IsNone session.script.header.threads → HasFiles session → SerialBehind session 0
  SerialBehind-new none serial files = record {
    so_far = record {
      one = one;
      serial = serial;
      numbers = new.new_driver.numbers ∙ ap (λ n. take n (serial_numbers session.script)) (sym none_run);
      rows = all-none (λ (row : TakenRow). IsFront row.changes (accepted (serial_history session.script))) session.driver.reading.rows new.new_driver.rows;
      met = met;
      misses = misses;
      files = files;
    };
    desk = none session.script session.desk.publishing session.desk new.new_desk;
    cycles_are = none_run;
  }

  -- no block was put or got, and each end's next look may find as many
  ring_serial : AreFresh session → (recorder : ℕ) (ring : Sending) (got : Getting) → slice_get session.driver.rings recorder ≡ Some ring → slice_get session.getting recorder ≡ Some got → RingSerial session recorder ring got
  ring_serial fresh recorder ring got ring_there got_there = record {
    counted = subst (λ n. HasCounts ring got (counts (serial_course session.script) recorder n)) (sym none_run) (record {
      sent = ap length put;
      taken = ap length none_got;
      front = none_got ∙ ap (λ (bs : List RingBlock). take (length bs) ring.put) (sym none_got);
      looks = all-there (λ (r : Sending). r.least ≡ 0) session.driver.rings recorder ring fresh.rings ring_there ∙ sym (ap length none_got);
      finds = all-there (λ (g : Getting). g.least ≡ 0) session.getting recorder got fresh.getting got_there ∙ sym (ap length put);
      open_ended = (empty_ring recorder ring ring_there).ended;
    });
    losses = ap (λ (os : List Overrun). overruns_on os recorder) new.new_driver.overruns ∙ ap (λ n. (counts (serial_course session.script) recorder n).losses) (sym none_run);
  }
    where
      put : ring.put ≡ []
      put = (empty_ring recorder ring ring_there).put

      none_got : got.got ≡ []
      none_got = all-there (λ (g : Getting). g.got ≡ []) session.getting recorder got new.no_gets got_there

  -- a session that tells what is given tells it without its files
  pub bare_given : (given : Given) → IsGiven session given → IsGiven (bare session) given
  bare_given given is_given =
      record { own = record { script = is_given.own.script; scores = is_given.own.scores; channels = is_given.own.channels }; capture = is_given.capture; disks = is_given.disks }

  pub plays : NewPlayTheirFiles → (given : Given) → IsGiven session given → PlaysAll given session
  plays news given is_given = PlaysAll-alone (bare session) session given refl (news (bare session) given new (bare_given given is_given))

  pub counted : NewDisksCounted → (given : Given) → AreFresh session → IsGiven session given → DisksSerial given session
  counted news given fresh is_given = DisksSerial-alone (bare session) session given refl refl refl refl (news (bare session) given new (bare_given given is_given) fresh.disks)

  pub SerialKept-new : NewKeeps → NewPlayTheirFiles → NewDisksCounted → (given : Given) → HasTape session.driver.playback [] → AreFresh session → IsGiven session given → SerialKept given session
  SerialKept-new keeps news disks given tape fresh is_given = record {
    own = is_given.own;
    keeps = KeepsAny-bare given session.driver none_run tape (keeps (bare session) given new (bare_given given is_given));
    rings = ring_serial fresh;
    plays = plays news given is_given;
    turned = counted disks given fresh is_given;
  }
