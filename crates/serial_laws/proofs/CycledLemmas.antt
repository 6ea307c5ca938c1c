-- A cycle of the driver leaves a session's parts as they were, where before a freewheel cycle the recorders' rings are empty, and those of the disks filled.
--     IsOne-cycled      they belong together, also where the playback failed
--     IsSound-cycled
use Rattle.std.proofs.Common.{◌≡◌, ℕ, ◌+◌, ◌<◌, true, false, length, get_or, slice_get, All, IfSome, Some, sym, ◌∙◌, ap, subst}
use Rattle.std.proofs.lemmas.List.Elements.{All-append}
use Rattle.jack_types.specs.declared.replies.Overrun.{Overrun}
use Rattle.graph_word.specs.Publications.{Reading}
use Rattle.driver_words.specs.Rings.{Sending}
use Rattle.driver_words.specs.Tapes.{Tape}
use Rattle.run_laws.specs.driver_laws.specs.Cycling.{StepsOnce, WritesOnce}
use Rattle.run_laws.specs.driver_laws.specs.Drivers.{block_in, graph_now, has_tape, overruns_on, run, turn_of}
use Rattle.run_laws.specs.driver_laws.proofs.PlaceLemmas.{there_too}
use Rattle.run_laws.specs.Runs.{HasFiles}
use Rattle.run_laws.specs.Sessions.{IsOne, Session}
use Rattle.disk_runs.specs.Rests.{AreFilled}
use Rattle.disk_runs.proofs.MissLemmas.{own-stepped, pairs-stepped}
use Rattle.serial_laws.specs.Steps.{AreEmpty, Cycled, IsSound}
use Rattle.serial_laws.proofs.EachLemmas.{All-places, at-place}
use Rattle.serial_laws.proofs.GiveLemmas.{many-rings}
use Rattle.serial_laws.proofs.MissLemmas.{MissesInRun-cycled}
use Rattle.serial_laws.proofs.RingLemmas.{SameRing, same-put}

module _ (session after : Session) (sound : IsSound session) (steps : StepsOnce session.driver after.driver) where
  -- the session behind, with what changed told
  abbrev later : Session
  later = record session { driver = after.driver }

  -- each ring is the same one
  ring-cycled : (recorder : ℕ) (ring : Sending) → slice_get after.driver.rings recorder ≡ Some ring → (old : Sending) × (slice_get session.driver.rings recorder ≡ Some old) × SameRing old ring
  ring-cycled recorder ring here =
      let there = there_too after.driver.rings session.driver.rings recorder ring (sym steps.as_many) here in (
        there.0,
        there.1,
        same-put (run session.driver + 1) recorder (has_tape (graph_now after.driver) recorder) (block_in after.driver recorder) there.0 ring
            (overruns_on session.driver.overruns recorder) (overruns_on after.driver.overruns recorder) (steps.rings recorder there.0 ring there.1 here),
      )

  pub IsOne-cycled : IsOne later
  IsOne-cycled =
      let one = sound.one in
      record {
        lawful = one.lawful;
        desk_script = one.desk_script;
        driver_script = steps.script ∙ one.driver_script;
        desk = one.desk;
        table = one.table ∙ sym (ap (λ (r : Reading). r.table) steps.begins.after_is ∙ ap (λ (r : Reading). r.table) steps.takes.same);
        base = one.base ∙ sym (ap (λ (r : Reading). r.base) steps.begins.after_is ∙ ap (λ (r : Reading). r.base) steps.takes.same);
        rows = steps.own_rows;
        rings = steps.own_rings;
        own_recorders = subst (All OfRecorders) (sym steps.more_overruns) (All-append OfRecorders session.driver.overruns steps.overruns one.own_recorders
            (λ k d low. subst (λ n. (get_or steps.overruns k d).recorder < n) (many-rings session sound) (steps.overruns_now k d low).1));
        own_disks = own-stepped session after.driver one steps;
        capacity = All-places (λ (ring : Sending). ring.capacity ≡ session.script.header.ring) after.driver.rings (λ recorder ring here.
            let old = ring-cycled recorder ring here in
            old.2.capacity ∙ at-place (λ (r : Sending). r.capacity ≡ session.script.header.ring) session.driver.rings recorder old.0 one.capacity old.1);
        recorder_ends = one.recorder_ends;
        recorder_pairs = λ recorder ring got here there.
            let old = ring-cycled recorder ring here in
            old.2.pair got (one.recorder_pairs recorder old.0 got old.1 there);
        disk_ends = one.disk_ends;
        disk_pairs = pairs-stepped session after.driver one steps;
      }
    where
      OfRecorders : Overrun → Type 0
      OfRecorders overrun = overrun.recorder < length session.script.header.recorders

  HasFiles-cycled : WritesOnce session.driver after.driver → HasFiles later
  HasFiles-cycled writes =
      let files = sound.files in
      let same = writes.file files.playback.tape writes.playback.tape files.playback.attached writes.playback.attached in
      record {
        playback = writes.playback;
        playback_format = subst (λ playback. IfSome playback IsPlayback) (sym writes.playback.attached) (same.format ∙ subst (λ playback. IfSome playback IsPlayback) files.playback.attached files.playback_format);
        sound = writes.failed;
        formats = files.formats;
        may = files.may;
        samples = files.samples;
        counted = files.counted;
      }
    where
      IsPlayback : Tape → Type 0
      IsPlayback tape = tape.format ≡ record { rate = session.script.header.rate; channels = session.script.header.playback; bits = session.script.header.bits }

  IsSound-with : WritesOnce session.driver after.driver → ((turn_of session.script (run session.driver + 1)).is_freewheel ≡ true → AreEmpty session × AreFilled session) → IsSound later
  IsSound-with writes full = record {
    one = IsOne-cycled;
    misses = MissesInRun-cycled session after sound steps full;
    files = HasFiles-cycled writes;
    no_end = All-places (λ (ring : Sending). ring.ended ≡ false) after.driver.rings (λ recorder ring here.
        let old = ring-cycled recorder ring here in
        old.2.no_end (at-place (λ (r : Sending). r.ended ≡ false) session.driver.rings recorder old.0 sound.no_end old.1));
    room = sound.room;
    going = sound.going;
  }

pub IsSound-cycled : (session after : Session) → IsSound session → ((turn_of session.script (run session.driver + 1)).is_freewheel ≡ true → AreEmpty session × AreFilled session) → Cycled session after → IsSound after
IsSound-cycled session after sound full cycled = subst IsSound (sym cycled.same) (IsSound-with session after sound cycled.cycles.steps cycled.cycles.writes full)
