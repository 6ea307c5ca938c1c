-- The works, and which file is played back.
--     IsGear-playback      what is true of the parts is true with any playback
--     Turns-playback      what a cycle does is the same with any playback, whether its owner then failed or not
--     length-mixed      a period's frames, each of all channels
--     mixed-turned      what is mixed behind a cycle is of its period and of the script's channels
use Rattle.std.proofs.Common.{◌≡◌, ℕ, ◌*◌, Bool, length, map, Option, ◌∙◌, ap}
use Rattle.std.proofs.lemmas.List.{length-map}
use Rattle.jack_types.specs.declared.moments.Moment.{Moment}
use Rattle.session_model.specs.Samples.{below, interleaved}
use Rattle.session_model.specs.Kinds.{Sound}
use Rattle.client_kinds.specs.Scores.{Score}
use Rattle.session_laws.proofs.SequentialLemmas.{length-below}
use Rattle.midi_stage.specs.cycle_plan.specs.Plans.{Planned}
use Rattle.playback_mix.specs.Mixes.{channel_mix}
use Rattle.driver_words.specs.Tapes.{Tape}
use Rattle.cycle_laws.specs.Gears.{Gear, IsGear}
use Rattle.cycle_laws.specs.Turnings.{Turns}
use Rattle.cycle_laws.proofs.ListLemmas.{interleaved-length}
use Rattle.cycle_works.specs.Gears.{mixed, with_playback}

pub IsGear-playback : (sounding : Score → Sound) (gear : Gear) (playback : Option Tape) → IsGear sounding gear → IsGear sounding (with_playback gear playback)
IsGear-playback sounding gear playback is = record {
  lawful = is.lawful;
  stands = is.stands;
  base = is.base;
  kinds = is.kinds;
  guests = is.guests;
  room = is.room;
  capture_room = is.capture_room;
  capture_channels = is.capture_channels;
  rate = is.rate;
  rings_room = is.rings_room;
  rings_channels = is.rings_channels;
  as_many = is.as_many;
  sent = is.sent;
  overruns = is.overruns;
  losses = is.losses;
  few = is.few;
  lists = is.lists;
  carried = is.carried;
  logs = is.logs;
  disks = record {
    channels = is.disks.channels;
    as_many = is.disks.as_many;
    period = is.disks.period;
    misses = is.disks.misses;
    underruns = is.disks.underruns;
    up_to = is.disks.up_to;
  };
  in_step = λ sound. record {
    cycles = (is.in_step sound).cycles;
    frames = (is.in_step sound).frames;
    period = (is.in_step sound).period;
    moments = (is.in_step sound).moments;
    capture = (is.in_step sound).capture;
    heard = (is.in_step sound).heard;
  };
}

module _ (sounding : Score → Sound) (freewheel : Bool) (before : Gear) (plan : Planned) (moment : Moment) (after : Gear) (turns : Turns sounding freewheel before plan moment after) where
  pub Turns-playback : (playback later : Option Tape) (stops : Bool) → Turns sounding freewheel (with_playback before playback) plan moment (record after { playback = later; failed = stops })
  Turns-playback playback later stops = record {
    number = turns.number;
    taken = turns.taken;
    takes = turns.takes;
    begins = turns.begins;
    content = turns.content;
    base = turns.base;
    planned = turns.planned;
    numbers = turns.numbers;
    moments = turns.moments;
    standing = turns.standing;
    row = turns.row;
    moment_is = turns.moment_is;
    rests = turns.rests;
    reads = turns.reads;
    same_reading = turns.same_reading;
    capture_room = turns.capture_room;
    capture_sound = turns.capture_sound;
    plan_is = turns.plan_is;
    period = turns.period;
    stands = turns.stands;
    performs = turns.performs;
    hears = turns.hears;
    carried = turns.carried;
    lists = turns.lists;
    heard_period = turns.heard_period;
    gets = turns.gets;
    kinds = turns.kinds;
    scores = turns.scores;
    room = turns.room;
    sends = turns.sends;
    script = turns.script;
    set = turns.set;
  }

  pub mixed-turned : mixed after before.script.header.playback ≡ interleaved before.set (map (channel_mix before.set after.stage.staged.racked.benches after.capture.channels after.stage.staged.wiring.heard) (below before.script.header.playback))
  mixed-turned = ap (λ set. interleaved set (map (channel_mix set after.stage.staged.racked.benches after.capture.channels after.stage.staged.wiring.heard) (below before.script.header.playback))) turns.set

pub length-mixed : (gear : Gear) (channels : ℕ) → length (mixed gear channels) ≡ gear.set * channels
length-mixed gear channels =
    interleaved-length gear.set (map (channel_mix gear.set gear.stage.staged.racked.benches gear.capture.channels gear.stage.staged.wiring.heard) (below channels))
    ∙ ap (λ n. gear.set * n) (length-map (below channels) (channel_mix gear.set gear.stage.staged.racked.benches gear.capture.channels gear.stage.staged.wiring.heard) ∙ length-below channels)
