-- A cycle that failed at the capture.
--     IsGear-failed      the parts are made for the script yet
--     failed-at-read      it took its row, and put, got and wrote nothing
use Rattle.std.proofs.Common.{◌≡◌, ◌+◌, ◌*◌, ◌<◌, ◌≤◌, Bool, length, Option, sym, ◌∙◌, ap, subst, arith, add-mul, true≢false}
use Rattle.std.proofs.lemmas.List.{length_push}
use Rattle.jack_types.specs.declared.files.Format.{Format}
use Rattle.session_model.specs.Scripts.{turns}
use Rattle.session_model.specs.Kinds.{Sound}
use Rattle.client_kinds.specs.Scores.{Score}
use Rattle.wave_pcm.specs.Readings.{SameReading}
use Rattle.driver_words.specs.Tapes.{Tape}
use Rattle.midi_stage.specs.driver_laws.specs.Cycling.{FailsAtRead, MayCycle}
use Rattle.cycle_laws.specs.Gears.{Gear, IsGear, driver_of}
use Rattle.cycle_works.specs.Gears.{FailsToRead, with_playback}

module _ (sounding : Score → Sound) (before after : Gear) (freewheel : Bool) (playback : Option Tape) (is : IsGear sounding before) (may : MayCycle (driver_of sounding (with_playback before playback)) freewheel)
    (fails : FailsToRead before after) (same : SameReading before.capture.reading after.capture.reading) where
  more : length after.numbers ≡ length before.numbers + 1
  more = ap length fails.numbers ∙ length_push before.numbers fails.number

  pub IsGear-failed : IsGear sounding after
  IsGear-failed = subst (λ gear. IsGear sounding gear) (sym fails.same) (record {
    lawful = is.lawful;
    stands = is.stands;
    base = is.base;
    kinds = is.kinds;
    guests = is.guests;
    room = is.room;
    capture_room = fails.room ∙ is.capture_room;
    capture_channels = ap (λ (f : Format). f.channels) same.format ∙ is.capture_channels;
    rate = fails.rate ∙ is.rate;
    rings_room = is.rings_room;
    rings_channels = is.rings_channels;
    as_many = is.as_many;
    sent = λ i d h. let before_sent = is.sent i d h in omega (arith, before_sent, more);
    overruns =
        let so_far = is.overruns in
        let next : (length before.numbers + 1) * length before.rings.rings ≡ length before.numbers * length before.rings.rings + 1 * length before.rings.rings = add-mul (length before.numbers) 1 (length before.rings.rings) in
        subst (λ n. length before.rings.overruns ≤ n * length before.rings.rings) (sym more) (omega (arith, so_far, next));
    losses = is.losses;
    few = let left : length before.numbers < length (turns before.script) = may.left in omega (arith, left, more);
    lists = is.lists;
    carried = is.carried;
    logs = is.logs;
    disks = record {
      channels = is.disks.channels;
      as_many = is.disks.as_many;
      period = is.disks.period;
      misses = is.disks.misses;
      underruns =
          let so_far = is.disks.underruns in
          let next : (length before.numbers + 1) * length before.disks.disks ≡ length before.numbers * length before.disks.disks + 1 * length before.disks.disks = add-mul (length before.numbers) 1 (length before.disks.disks) in
          subst (λ n. length before.disks.underruns ≤ n * length before.disks.disks) (sym more) (omega (arith, so_far, next));
      up_to = λ i d h. let earlier = is.disks.up_to i d h in omega (arith, earlier, more);
    };
    in_step = λ e. absurd (true≢false e);
  })

-- whichever file is played back
pub failed-at-read : (sounding : Score → Sound) (before after : Gear) (playback : Option Tape) → FailsToRead before after → FailsAtRead (driver_of sounding (with_playback before playback)) (driver_of sounding (with_playback after playback))
failed-at-read sounding before after playback fails = record {
  taken = fails.taken;
  number = fails.number;
  takes = fails.takes;
  begins = fails.begins;
  numbers = fails.numbers;
  failed = ap (λ (gear : Gear). gear.failed) fails.same;
  same = ap (λ gear. driver_of sounding (with_playback gear playback)) fails.same;
}
