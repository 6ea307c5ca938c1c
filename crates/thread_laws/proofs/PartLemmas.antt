-- The parts of a session behind the steps of a phase in threads mode that leave its recorders.
--     IsSound-open, IsSoundBut-sound      with no end at a ring they are sound
--     IsSoundBut-grouped, -met, -paced, -went, -rounded      they belong together as before
--     IsSound-grouped, -paced, -went      also where no ring has an end
--     IsSettled-grouped, -met, -paced      and where both ends of each disk's ring know how far the other is
use Rattle.std.proofs.Common.{◌≡◌, ℕ, suc, false, length, All, refl, sym, ◌∙◌, ap, subst}
use Rattle.graph_word.specs.Publications.{Publishing, Reading, last_row}
use Rattle.driver_words.specs.Rings.{Sending}
use Rattle.control_desk.specs.Desks.{Desk, IsDesk, base_of}
use Rattle.disk_runs.proofs.AloneLemmas.{DisksTell-alone}
use Rattle.run_laws.specs.Runs.{HasFiles}
use Rattle.run_laws.specs.Sessions.{IsOne, Session}
use Rattle.serial_laws.specs.Steps.{IsSettled, IsSound, Met, Rounded}
use Rattle.serial_laws.proofs.MeetLemmas.{DisksTell-met, IsDesk-seen, IsSound-met}
use Rattle.thread_laws.specs.Parts.{IsSoundBut}
use Rattle.thread_laws.specs.Segments.{Grouped, Paced, WentOn}
use Rattle.thread_laws.proofs.RestLemmas.{turned_to}

-- no ring has an end
abbrev pub NoEnd : Session → Type 0
NoEnd session = All (λ (ring : Sending). ring.ended ≡ false) session.driver.rings

pub IsSound-open : (session : Session) → IsSoundBut session → NoEnd session → IsSound session
IsSound-open session sound no_end = record { one = sound.one; misses = sound.misses; files = sound.files; no_end = no_end; room = sound.room; going = sound.going }

pub IsSoundBut-sound : (session : Session) → IsSound session → IsSoundBut session
IsSoundBut-sound session sound = record { one = sound.one; misses = sound.misses; files = sound.files; room = sound.room; going = sound.going }

-- another desk over the same script and publication, and a driver whose reader or period changed
abbrev turned : Session → Desk → ℕ → ℕ → Session
turned session desk least set = record session { desk = desk; driver = turned_to session.driver least set session.driver.rings }

IsSoundBut-turned : (session : Session) (desk : Desk) (least set : ℕ) → IsSoundBut session → IsDesk desk → desk.script ≡ session.desk.script → desk.publishing.table ≡ session.desk.publishing.table → IsSoundBut (turned session desk least set)
IsSoundBut-turned session desk least set sound is script table =
    let one : IsOne session = sound.one in
    let files : HasFiles session = sound.files in
    record {
      one = record {
        lawful = one.lawful;
        desk_script = script ∙ one.desk_script;
        driver_script = one.driver_script;
        desk = is;
        table = table ∙ one.table;
        base = is.base ∙ ap base_of script ∙ sym one.desk.base ∙ one.base;
        rows = record { cycles = one.rows.cycles; numbers = one.rows.numbers; last = one.rows.last; place = one.rows.place; base = one.rows.base };
        rings = record {
          recorders = one.rings.recorders;
          disks = one.rings.disks;
          puts = one.rings.puts;
          gets = one.rings.gets;
          own_disks = one.rings.own_disks;
          own = λ recorder ring here. let own = one.rings.own recorder ring here in record { samples = own.samples; most = own.most; items = own.items };
        };
        own_recorders = one.own_recorders;
        own_disks = one.own_disks;
        capacity = one.capacity;
        recorder_ends = one.recorder_ends;
        recorder_pairs = one.recorder_pairs;
        disk_ends = one.disk_ends;
        disk_pairs = one.disk_pairs;
      };
      misses = record { overruns = sound.misses.overruns; underruns = sound.misses.underruns };
      files = record {
        playback = record { tape = files.playback.tape; attached = files.playback.attached; going = files.playback.going };
        playback_format = files.playback_format;
        sound = files.sound;
        formats = files.formats;
        may = files.may;
        samples = files.samples;
        counted = files.counted;
      };
      room = sound.room;
      going = sound.going;
    }

pub IsSoundBut-grouped : (done : ℕ) (session after : Session) → IsSoundBut session → Grouped done session after → IsSoundBut after
IsSoundBut-grouped done session after sound grouped =
    let desk : Desk = record session.desk { history = after.desk.history; phase = suc done; publishing = after.desk.publishing } in
    let desk_is : after.desk ≡ desk = ap (λ (s : Session). s.desk) grouped.same in
    subst IsSoundBut (sym grouped.same)
    (IsSoundBut-turned session desk session.driver.reading.least session.driver.set sound (subst IsDesk desk_is grouped.desk) refl (ap (λ (p : Publishing). p.table) grouped.published))

pub IsSoundBut-met : (session after : Session) → IsSoundBut session → Met session after → IsSoundBut after
IsSoundBut-met session after sound met =
    let least : ℕ = length session.desk.publishing.all in
    let desk : Desk = record session.desk { publishing = met.publishing } in
    let is : IsDesk desk = subst (λ (p : Publishing). IsDesk (record session.desk { publishing = p })) (sym met.meets.publisher_is) (IsDesk-seen session.desk (last_row session.driver.reading.rows) sound.one.desk) in
    let same : after ≡ turned session desk least session.driver.set =
    met.same ∙ ap (λ (r : Reading). record session { desk = desk; driver = record session.driver { reading = r } }) met.meets.reader_is in
    subst IsSoundBut (sym same) (IsSoundBut-turned session desk least session.driver.set sound is refl (ap (λ (p : Publishing). p.table) met.meets.publisher_is))

pub IsSoundBut-paced : (session after : Session) → IsSoundBut session → Paced session after → IsSoundBut after
IsSoundBut-paced session after sound paced =
    subst IsSoundBut (sym paced.same) (IsSoundBut-turned session session.desk session.driver.reading.least paced.period sound sound.one.desk refl refl)

pub IsSoundBut-went : (session after : Session) → IsSoundBut session → WentOn session after → IsSoundBut after
IsSoundBut-went session after sound went =
    subst IsSoundBut (sym went.same) (IsSoundBut-turned session after.desk session.driver.reading.least session.driver.set sound went.desk went.goes.script went.goes.table)

pub IsSoundBut-rounded : (session after : Session) → IsSoundBut session → Rounded session after → IsSoundBut after
IsSoundBut-rounded session after sound rounded =
    subst IsSoundBut (sym rounded.same) (IsSoundBut-turned session after.desk session.driver.reading.least session.driver.set sound rounded.desk rounded.on.goes_on.script rounded.on.goes_on.table)

-- no step of these gives a ring an end
NoEnd-left : (session after : Session) → IsSound session → after.driver.rings ≡ session.driver.rings → NoEnd after
NoEnd-left session after sound rings = subst (All (λ (ring : Sending). ring.ended ≡ false)) (sym rings) sound.no_end

pub IsSound-grouped : (done : ℕ) (session after : Session) → IsSound session → Grouped done session after → IsSound after
IsSound-grouped done session after sound grouped =
    IsSound-open after (IsSoundBut-grouped done session after (IsSoundBut-sound session sound) grouped) (NoEnd-left session after sound (ap (λ (s : Session). s.driver.rings) grouped.same))

pub IsSound-paced : (session after : Session) → IsSound session → Paced session after → IsSound after
IsSound-paced session after sound paced =
    IsSound-open after (IsSoundBut-paced session after (IsSoundBut-sound session sound) paced) (NoEnd-left session after sound (ap (λ (s : Session). s.driver.rings) paced.same))

pub IsSound-went : (session after : Session) → IsSound session → WentOn session after → IsSound after
IsSound-went session after sound went =
    IsSound-open after (IsSoundBut-went session after (IsSoundBut-sound session sound) went) (NoEnd-left session after sound (ap (λ (s : Session). s.driver.rings) went.same))

-- nor do they touch a disk's ring
pub IsSettled-grouped : (done : ℕ) (session after : Session) → IsSettled session → Grouped done session after → IsSettled after
IsSettled-grouped done session after settled grouped = record {
  sound = IsSound-grouped done session after settled.sound grouped;
  tells = DisksTell-alone session after (ap (λ (s : Session). s.players) grouped.same) (ap (λ (s : Session). s.driver.disks) grouped.same) settled.tells;
}

pub IsSettled-met : (session after : Session) → IsSettled session → Met session after → IsSettled after
IsSettled-met session after settled met = record {
  sound = IsSound-met session after settled.sound met;
  tells = DisksTell-met session after met settled.tells;
}

pub IsSettled-paced : (session after : Session) → IsSettled session → Paced session after → IsSettled after
IsSettled-paced session after settled paced = record {
  sound = IsSound-paced session after settled.sound paced;
  tells = DisksTell-alone session after (ap (λ (s : Session). s.players) paced.same) (ap (λ (s : Session). s.driver.disks) paced.same) settled.tells;
}
