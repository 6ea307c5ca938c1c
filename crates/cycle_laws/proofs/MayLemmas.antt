-- What may be done in the next cycle of a driver's parts.
--     MaySend-gear      the blocks may be put
--     MayGet-gear      those of disks may be got
--     cycles-gear, frames-gear      the transport's numbers have room for it
use Rattle.std.proofs.Common.{◌≡◌, ℕ, ◌+◌, ◌*◌, ◌<◌, ◌≤◌, Bool, ◌∷◌, length, arith, le-mul_of_pos_right}
use Rattle.session_model.specs.Scripts.{turns}
use Rattle.session_model.specs.Kinds.{Sound}
use Rattle.client_kinds.specs.Scores.{Score}
use Rattle.plan_transport.specs.driver_laws.specs.Cycling.{MayCycle}
use Rattle.plan_transport.specs.driver_laws.specs.Drivers.{Driver, channels_on, frames_run, greatest_period, turn_of}
use Rattle.driver_words.specs.Feeding.{MayGet}
use Rattle.cycle_blocks.specs.recorder_rings.specs.Sending.{no_ring, ring_at}
use Rattle.cycle_blocks.specs.Blocks.{MaySend}
use Rattle.cycle_laws.specs.Gears.{Gear, IsGear, driver_of}
use Rattle.cycle_laws.proofs.DiskLemmas.{disks-are}
use Rattle.cycle_laws.proofs.FrameLemmas.{samples-next}
use Rattle.cycle_laws.proofs.SendLemmas.{items-fit, losses-fit, puts-few, samples-are}

-- a driver that ran one cycle more
abbrev pub later : (sounding : Score → Sound) → Gear → Driver
later sounding gear = record (driver_of sounding gear) { numbers = 0 ∷ gear.numbers }

module _ (sounding : Score → Sound) (gear : Gear) (freewheel : Bool) (is : IsGear sounding gear) (may : MayCycle (driver_of sounding gear) freewheel) where
  module _ (few : length (turns gear.script) ≤ 1000000) where
    pub cycles-low : length gear.numbers < 1000000
    cycles-low = let left : length gear.numbers < length (turns gear.script) = may.left in omega (arith, left, few)

    pub cycles-gear : gear.transport.cycles < 1000000
    cycles-gear = let same : gear.transport.cycles ≡ length gear.numbers = (is.in_step may.sound).cycles in let low = cycles-low in omega (arith, same, low)

    pub MaySend-gear : (turn_of gear.script (length gear.numbers + 1)).period ≤ greatest_period gear.script → ((recorder : ℕ) → frames_run (later sounding gear) * channels_on gear.script recorder ≤ 500000000) → MaySend gear.rings gear.set
    MaySend-gear within samples = record {
      period = let set : (turn_of gear.script (length gear.numbers + 1)).period ≡ gear.set = may.period_is in let room = is.rings_room in omega (arith, set, room, within);
      few_recorders = let as_many = is.as_many in let most : length gear.script.header.recorders ≤ 4 = is.lawful.header.few_recorders in omega (arith, as_many, most);
      samples = samples-are gear.rings (driver_of sounding gear) may.rings.own is.rings_channels is.rings_room;
      going = λ recorder low. may.no_end recorder no_ring low;
      few = λ recorder low.
          let put : length (ring_at gear.rings recorder).put ≤ length gear.numbers = puts-few gear.rings.rings gear.rings.sent (length gear.numbers) recorder may.rings.puts is.sent low in
          let most = cycles-low in
          omega (arith, put, most);
      most = λ recorder low. items-fit gear.rings (driver_of sounding gear) may.rings.own is.rings_channels recorder low
          (samples-next (driver_of sounding gear) may.left may.period_is (channels_on gear.script recorder) (samples recorder));
      losses = losses-fit (length gear.rings.overruns) (length gear.rings.rings) gear.rings.losses (length gear.numbers) (length (turns gear.script)) is.overruns is.losses may.left;
    }

  pub MayGet-gear : MayGet gear.disks
  MayGet-gear = record {
    periods = disks-are gear.disks (driver_of sounding gear) is.disks.channels is.disks.period may.rings.own_disks;
    misses = losses-fit (length gear.disks.underruns) (length gear.disks.disks) gear.disks.misses (length gear.numbers) (length (turns gear.script)) is.disks.underruns is.disks.misses may.left;
  }

  -- of at least one channel of the capture
  pub frames-gear : frames_run (later sounding gear) * gear.script.header.capture ≤ 500000000 → gear.transport.frames + gear.set ≤ 500000000
  frames-gear samples =
      let same : gear.transport.frames ≡ frames_run (driver_of sounding gear) = (is.in_step may.sound).frames in
      let all : frames_run (driver_of sounding gear) * gear.script.header.capture + gear.set * gear.script.header.capture ≤ 500000000 =
      samples-next (driver_of sounding gear) may.left may.period_is gear.script.header.capture samples in
      let some : 0 < gear.script.header.capture = is.lawful.header.capture.0 in
      let first : frames_run (driver_of sounding gear) ≤ frames_run (driver_of sounding gear) * gear.script.header.capture = le-mul_of_pos_right (frames_run (driver_of sounding gear)) some in
      let second : gear.set ≤ gear.set * gear.script.header.capture = le-mul_of_pos_right gear.set some in
      omega (arith, same, all, first, second)
