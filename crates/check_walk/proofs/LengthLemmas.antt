-- How long is what a cycle gives.
--     block-long      a recorder's block is at most a period of its channels
--     played-long      and what is mixed is one of the playback's
use Rattle.std.proofs.Common.{◌≡◌, ℕ, ◌*◌, ◌≤◌, Bool, true, false, cond, List, [], length, map, position, slice_get, ℤ, Option, Some, None, refl, sym, ◌∙◌, ap, ap₂, subst, arith}
use Rattle.std.specs.Option.{option_map_or}
use Rattle.std.proofs.lemmas.List.{length-map}
use Rattle.std.proofs.lemmas.Option.{none-some, same_Some}
use Rattle.jack_types.specs.declared.moments.Moment.{Moment}
use Rattle.jack_types.specs.declared.commands.Change.{Change}
use Rattle.session_model.specs.Kinds.{Sound, input_at}
use Rattle.session_model.specs.Recorders.{is_tape}
use Rattle.session_model.specs.Rings.{RingBlock}
use Rattle.session_model.specs.Samples.{below}
use Rattle.session_model.specs.Scripts.{Script}
use Rattle.session_model.specs.State.{OpenClient}
use Rattle.client_kinds.specs.Scores.{Score}
use Rattle.wave_laws.proofs.WaveSamples.{length-below}
use Rattle.driver_words.specs.Rings.{Getting, Sending}
use Rattle.record_ring.specs.declared.consumer.Got.{Got}
use Rattle.cycle_plan.specs.Plans.{Planned}
use Rattle.driver_laws.specs.Cycling.{MayCycle, RingStays, StepsOnce}
use Rattle.driver_laws.specs.Drivers.{Driver, bench_at, block_at as block_of, block_in, channels_on}
use Rattle.cycle_works.specs.Gears.{Gear, IsGear, Turns, driver_of, with_playback}
pub use Rattle.cycle_works.proofs.CycleLemmas.{interleaved-length, sum-next}
use Rattle.cycle_works.proofs.PlaybackLemmas.{length-mixed}
use Rattle.walk_laws.specs.Walks.{Asks}
use Rattle.check_walk.specs.Parts.{WalkedOn}
use Rattle.check_walk.specs.Walkings.{IsNext, IsWalking, Taken, Walking, block_at, no_file}
use Rattle.check_walk.proofs.WalkedLemmas.{GivesBlock, GivesNone, given-at}

block-short : (driver : Driver) (recorder : ℕ) → length (block_in driver recorder) ≤ driver.set * channels_on driver.script recorder
block-short driver recorder = go (position (λ (client : OpenClient). is_tape recorder client.kind) driver.nodes)
  where
    go : (found : Option ℕ) → length (option_map_or (block_of driver recorder) found []) ≤ driver.set * channels_on driver.script recorder
    go None = omega arith
    go (Some n) =
        let all : length (block_of driver recorder n) ≡ driver.set * channels_on driver.script recorder =
        interleaved-length driver.set (map (input_at driver.set (bench_at driver n).sounds) (below (channels_on driver.script recorder)))
        ∙ ap (λ m. driver.set * m) (length-map (below (channels_on driver.script recorder)) (input_at driver.set (bench_at driver n).sounds) ∙ length-below (channels_on driver.script recorder)) in
        omega (arith, all)

module _ (sounding : Score → Sound) (freewheel : Bool) (changes : List Change) (before after : Walking) (is : IsWalking sounding before) (sound : before.gear.failed ≡ false) (next : IsNext freewheel before.gear) (on : WalkedOn sounding freewheel changes before after)
    (step : (old new : Gear) (plan : Planned) (moment : Moment) → IsGear sounding old → MayCycle (driver_of sounding old) freewheel → Turns sounding freewheel old plan moment new → StepsOnce (driver_of sounding old) (driver_of sounding new))
    (gives : GivesBlock) (none : GivesNone)
    (asking : (put last : Sending) (got back : Getting) (one : RingBlock) (answer : Got) → Asks put got last back one answer → RingStays put last) where
  abbrev stepped : Driver
  stepped = driver_of sounding (with_playback on.turned no_file)

  short : (recorder : ℕ) → length (block_in stepped recorder) ≤ before.gear.set * channels_on before.gear.script recorder
  short recorder = subst (λ n. length (block_in stepped recorder) ≤ n) (ap₂ (λ n (s : Script). n * channels_on s recorder) on.turns.set on.turns.script) (block-short stepped recorder)

  given : (recorder : ℕ) (samples : List ℤ) (active : Bool) → cond active (Some (block_in stepped recorder)) None ≡ Some samples → length samples ≤ before.gear.set * channels_on before.gear.script recorder
  given recorder samples true e = subst (λ (xs : List ℤ). length xs ≤ before.gear.set * channels_on before.gear.script recorder) (same_Some (block_in stepped recorder) samples e) (short recorder)
  given recorder samples false e = absurd (none-some samples e)

  found : (recorder : ℕ) (samples : List ℤ) (taken : Option Taken) → slice_get after.takers recorder ≡ taken → option_map_or (λ (one : Taken). one.block) taken None ≡ Some samples
      → length samples ≤ before.gear.set * channels_on before.gear.script recorder
  found recorder samples None here e = absurd (none-some samples e)
  found recorder samples (Some taken) here e = given recorder samples _ (sym (given-at sounding freewheel changes before after is sound next on step gives none asking recorder taken here).2 ∙ e)

  -- a recorder's block is at most a period of its channels
  pub block-long : (recorder : ℕ) (samples : List ℤ) → block_at after recorder ≡ Some samples → length samples ≤ before.gear.set * channels_on before.gear.script recorder
  block-long recorder samples e = found recorder samples (slice_get after.takers recorder) refl e

-- and what is mixed is one of the playback's
pub played-long : (sounding : Score → Sound) (freewheel : Bool) (changes : List Change) (before after : Walking) → WalkedOn sounding freewheel changes before after → freewheel ≡ false
    → length after.played ≡ before.gear.set * before.gear.script.header.playback
played-long sounding freewheel changes before after on run =
    ap length (on.played run) ∙ length-mixed after.gear before.gear.script.header.playback ∙ ap (λ n. n * before.gear.script.header.playback) (ap (λ (gear : Gear). gear.set) on.after_is ∙ on.turns.set)
