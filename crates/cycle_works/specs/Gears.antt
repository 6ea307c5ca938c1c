-- What contracts see of the works of a driver's cycles, as the laws of its parts have it, for those that use them.
--     Gear      their parts
--     driver_of sounding gear      the driver that they make, whose guests sound so by their scores
--     IsServed script      which scripts a session plays yet; the works play every lawful one
--     IsGear sounding gear      what is true of them between two cycles
--     Turns sounding freewheel before plan moment after      what a cycle leaves
--     with_playback gear playback      the same, with a file that is played back
--     FailsToRead before after      what a cycle leaves that failed at the capture
--     mixed gear channels      the block that the last cycle plays back
use Rattle.std.specs.Prelude.{◌≡◌, ℕ, ◌+◌, ◌++◌, ◌∷◌, true, List, [], length, map, ℤ, Option}
use Rattle.session_model.specs.Samples.{below, interleaved}
use Rattle.graph_word.specs.Publications.{Begins, Reading, Takes}
use Rattle.driver_words.specs.Tapes.{Tape}
use Rattle.playback_mix.specs.Mixes.{channel_mix}
pub use Rattle.cycle_laws.specs.Gears.{Gear, IsGear, IsServed, driver_of}
pub use Rattle.cycle_laws.specs.Turnings.{Turns}

abbrev pub with_playback : Gear → Option Tape → Gear
with_playback gear playback = record gear { playback = playback }

-- the plan was taken and begun and the transport stepped, and nothing was played or put
pub record FailsToRead (before after : Gear) : Type 0 where
  pub number : ℕ
  pub taken : Reading
  pub takes : Takes before.reading number taken
  pub begins : Begins taken (length before.numbers + 1) after.reading
  pub numbers : after.numbers ≡ before.numbers ++ number ∷ []
  pub rate : after.transport.rate ≡ before.transport.rate
  pub room : after.capture.room ≡ before.capture.room
  pub same : after ≡ record before { reading = after.reading; numbers = after.numbers; moments = after.moments; transport = after.transport; capture = after.capture; failed = true }

-- as many frames as the period that is set, a sample of so many channels in each
abbrev pub mixed : Gear → ℕ → List ℤ
mixed gear channels = interleaved gear.set (map (channel_mix gear.set gear.stage.staged.racked.benches gear.capture.channels gear.stage.staged.wiring.heard) (below channels))
