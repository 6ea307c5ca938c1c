-- Meetings, rounds of the lanes and the front of a phase leave a session's parts as they were.
--     IsSound-met, IsSound-rounded, IsSound-begun
--     DisksTell-met, DisksTell-rounded, DisksTell-begun      and what the ends of the disks' rings know
use Rattle.std.proofs.Common.{◌≡◌, ℕ, length, refl, sym, ◌∙◌, ap, ap₂, subst}
use Rattle.graph_word.specs.Publications.{Publishing, Reading, last_row}
use Rattle.run_laws.specs.control_desk.specs.Desks.{Desk, IsDesk, base_of}
use Rattle.run_laws.specs.Runs.{HasFiles}
use Rattle.run_laws.specs.Sessions.{IsOne, Session}
use Rattle.disk_runs.specs.Rests.{DisksTell}
use Rattle.disk_runs.proofs.AloneLemmas.{DisksTell-alone}
use Rattle.serial_laws.specs.Steps.{Begun, IsSound, Met, Rounded}

-- another desk over the same script and publication
pub IsSound-desk : (session : Session) (desk : Desk) → IsSound session → IsDesk desk → desk.script ≡ session.desk.script → desk.publishing.table ≡ session.desk.publishing.table → IsSound (record session { desk = desk })
IsSound-desk session desk sound is script table =
    let one = sound.one in
    let files = sound.files in
    record {
      one = record {
        lawful = one.lawful;
        desk_script = script ∙ one.desk_script;
        driver_script = one.driver_script;
        desk = is;
        table = table ∙ one.table;
        base = is.base ∙ ap base_of script ∙ sym one.desk.base ∙ one.base;
        rows = one.rows;
        rings = one.rings;
        own_recorders = one.own_recorders;
        own_disks = one.own_disks;
        capacity = one.capacity;
        recorder_ends = one.recorder_ends;
        recorder_pairs = one.recorder_pairs;
        disk_ends = one.disk_ends;
        disk_pairs = one.disk_pairs;
      };
      misses = record { overruns = sound.misses.overruns; underruns = sound.misses.underruns };
      files = record {
        playback = files.playback;
        playback_format = files.playback_format;
        sound = files.sound;
        formats = files.formats;
        may = files.may;
        samples = files.samples;
        counted = files.counted;
      };
      no_end = sound.no_end;
      room = sound.room;
      going = sound.going;
    }

-- a reader whose next take answers no less than this
abbrev found : Session → ℕ → Session
found session least = record session { driver = record session.driver { reading = record session.driver.reading { least = least } } }

IsOne-found : (session : Session) (least : ℕ) → IsOne session → IsOne (found session least)
IsOne-found session least one = record {
  lawful = one.lawful;
  desk_script = one.desk_script;
  driver_script = one.driver_script;
  desk = one.desk;
  table = one.table;
  base = one.base;
  rows = record { cycles = one.rows.cycles; numbers = one.rows.numbers; last = one.rows.last; place = one.rows.place; base = one.rows.base };
  rings = record {
    recorders = one.rings.recorders;
    disks = one.rings.disks;
    puts = one.rings.puts;
    gets = one.rings.gets;
    own_disks = one.rings.own_disks;
    own = λ recorder ring here. let own = one.rings.own recorder ring here in record { samples = own.samples; most = own.most; items = own.items };
  };
  own_recorders = one.own_recorders;
  own_disks = one.own_disks;
  capacity = one.capacity;
  recorder_ends = one.recorder_ends;
  recorder_pairs = one.recorder_pairs;
  disk_ends = one.disk_ends;
  disk_pairs = one.disk_pairs;
}

HasFiles-found : (session : Session) (least : ℕ) → HasFiles session → HasFiles (found session least)
HasFiles-found session least files = record {
  playback = record { tape = files.playback.tape; attached = files.playback.attached; going = files.playback.going };
  playback_format = files.playback_format;
  sound = files.sound;
  formats = files.formats;
  may = files.may;
  samples = files.samples;
  counted = files.counted;
}

pub IsSound-found : (session : Session) (least : ℕ) → IsSound session → IsSound (found session least)
IsSound-found session least sound = record {
  one = IsOne-found session least sound.one;
  misses = record { overruns = sound.misses.overruns; underruns = sound.misses.underruns };
  files = HasFiles-found session least sound.files;
  no_end = sound.no_end;
  room = sound.room;
  going = sound.going;
}

-- a desk whose next look finds no less than this
pub IsDesk-seen : (desk : Desk) (least : ℕ) → IsDesk desk → IsDesk (record desk { publishing = record desk.publishing { least = least } })
IsDesk-seen desk least is = record {
  legal = is.legal;
  published = is.published;
  held = is.held;
  base = is.base;
  seen = is.seen;
  pairs = is.pairs;
  phases = is.phases;
  earlier = is.earlier;
}

pub IsSound-met : (session after : Session) → IsSound session → Met session after → IsSound after
IsSound-met session after sound met =
    let seen : ℕ = last_row session.driver.reading.rows in
    let number : ℕ = length session.desk.publishing.all in
    let looked : Session = record session { desk = record session.desk { publishing = record session.desk.publishing { least = seen } } } in
    let sound_looked : IsSound looked = IsSound-desk session looked.desk sound (IsDesk-seen session.desk seen sound.one.desk) refl refl in
    let same : after ≡ found looked number =
    met.same ∙ ap₂ (λ (p : Publishing) (r : Reading). record session { desk = record session.desk { publishing = p }; driver = record session.driver { reading = r } }) met.meets.publisher_is met.meets.reader_is in
    subst IsSound (sym same) (IsSound-found looked number sound_looked)

pub IsSound-rounded : (session after : Session) → IsSound session → Rounded session after → IsSound after
IsSound-rounded session after sound rounded =
    subst IsSound (sym rounded.same) (IsSound-desk session after.desk sound rounded.desk rounded.on.goes_on.script rounded.on.goes_on.table)

pub IsSound-begun : (done : ℕ) (session after : Session) → IsSound session → Begun done session after → IsSound after
IsSound-begun done session after sound begun =
    let desk_is = ap (λ (s : Session). s.desk) begun.group_same in
    let same : begun.grouped ≡ record session { desk = begun.grouped.desk } = begun.group_same ∙ ap (λ (d : Desk). record session { desk = d }) (sym desk_is) in
    let grouped : IsSound begun.grouped = subst IsSound (sym same)
    (IsSound-desk session begun.grouped.desk sound begun.group_desk (ap (λ (d : Desk). d.script) desk_is) (ap (λ (p : Publishing). p.table) begun.published)) in
    let met : IsSound begun.met = IsSound-met begun.grouped begun.met grouped begun.meets in
    let rounded : IsSound begun.rounded = IsSound-rounded begun.met begun.rounded met begun.rounds in
    IsSound-met begun.rounded after rounded begun.meets_again

-- ---- what the ends of the disks' rings know

pub DisksTell-met : (session after : Session) → Met session after → DisksTell session → DisksTell after
DisksTell-met session after met = DisksTell-alone session after (ap (λ (s : Session). s.players) met.same) (ap (λ (s : Session). s.driver.disks) met.same)

pub DisksTell-rounded : (session after : Session) → Rounded session after → DisksTell session → DisksTell after
DisksTell-rounded session after rounded = DisksTell-alone session after (ap (λ (s : Session). s.players) rounded.same) (ap (λ (s : Session). s.driver.disks) rounded.same)

pub DisksTell-begun : (done : ℕ) (session after : Session) → Begun done session after → DisksTell session → DisksTell after
DisksTell-begun done session after begun tell =
    let grouped : DisksTell begun.grouped =
    DisksTell-alone session begun.grouped (ap (λ (s : Session). s.players) begun.group_same) (ap (λ (s : Session). s.driver.disks) begun.group_same) tell in
    let met : DisksTell begun.met = DisksTell-met begun.grouped begun.met begun.meets grouped in
    let rounded : DisksTell begun.rounded = DisksTell-rounded begun.met begun.rounded begun.rounds met in
    DisksTell-met begun.rounded after begun.meets_again rounded
