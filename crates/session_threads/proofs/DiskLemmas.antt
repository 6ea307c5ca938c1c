-- The disks' readers of a segment, told of its session.
--     may-read-all      what they may do when it begins
--     SameEnd got after, KeepsEnds ends after      an end that gets stays that of its ring, and so does each
--     keeps-driven      so it is behind what the driver did
--     read-at, disks-served, none-failed      what the readers did
--     read-later, paired-read      what stays
--     broke-rose      what rose
--     next-read, pairs-read      what stays where they read between the cycles
use Rattle.std.proofs.Common.{◌≡◌, ℕ, zero, suc, ◌<◌, Bool, false, List, length, get_or, slice_get, All, Some, Result, Ok, Err, refl, sym, ◌∙◌, ap, subst, arith, true≢false}
use Rattle.std.proofs.lemmas.Option.{get_or_from_slice_get, same_Some, slice_get-get_or, slice_get_within}
use Rattle.jack_types.specs.declared.replies.Underrun.{Underrun}
use Rattle.session_model.specs.Kinds.{Sound}
use Rattle.client_kinds.specs.Scores.{Score}
use Rattle.driver_words.specs.Rings.{Getting}
use Rattle.driver_laws.specs.Cycling.{CyclesMany, GetsOne, Heard, Missed, Over, Silent, StepsOnce}
use Rattle.driver_laws.specs.Drivers.{Driver}
use Rattle.recorder_files.specs.Recorders.{Recording}
use Rattle.session_works.specs.Cycles.{AreNext, CycleFault, Read, Write}
use Rattle.session_works.specs.Drivers.{Gear, driver_of}
use Rattle.session_works.specs.RunWords.{Playing, Session}
use Rattle.session_works.specs.disk_files.specs.Serving.{AreRead, BrokeOff, HaveFailed, IsGoing, ReadBy, ReadOn}
use Rattle.session_works.specs.disk_runs.specs.Readings.{DisksServed, NoneFailed, ServedDisk, ServedOff, ServedOn}
use Rattle.session_works.specs.DiskSteps.{DisksMoved}
use Rattle.session_works.specs.Insides.{ArePaired, DisksPaired}
use Rattle.session_works.specs.Parts.{AreReadLater, IsReadLater, OfDisk, Parts, SourceRose}
use Rattle.session_works.proofs.PassedLemmas.{some_at}
use Rattle.session_threads.specs.Driving.{HasDriven}

-- ---- when it begins

pub may-read-all : (session : Session) → NoneFailed session → All IsGoing session.players
may-read-all session none k d low = record { going = none k (get_or session.players k d) (slice_get-get_or session.players k d low) }

-- ---- what the driver did

pub record SameEnd (got after : Getting) : Type 0 where
  pub table : after.table ≡ got.table
  pub samples : after.samples ≡ got.samples
  pub most : after.most ≡ got.most

pub record KeepsEnds (ends after : List Getting) : Type 0 where
  pub as_many : length after ≡ length ends
  pub each : (disk : ℕ) (got got_after : Getting) → slice_get ends disk ≡ Some got → slice_get after disk ≡ Some got_after → SameEnd got got_after

gets-same : (k disk : ℕ) (active : Bool) (got after : Getting) (misses misses_after : List Underrun) → GetsOne k disk active got after misses misses_after → SameEnd got after
gets-same k disk active got after misses misses_after (Silent is same none) = record { table = ap (λ (g : Getting). g.table) same; samples = ap (λ (g : Getting). g.samples) same; most = ap (λ (g : Getting). g.most) same }
gets-same k disk active got after misses misses_after (Heard one found is gets none) = record { table = ap (λ (g : Getting). g.table) gets.3; samples = ap (λ (g : Getting). g.samples) gets.3; most = ap (λ (g : Getting). g.most) gets.3 }
gets-same k disk active got after misses misses_after (Over one found is gets none) = record { table = ap (λ (g : Getting). g.table) gets.2; samples = ap (λ (g : Getting). g.samples) gets.2; most = ap (λ (g : Getting). g.most) gets.2 }
gets-same k disk active got after misses misses_after (Missed one found is gets more) = record { table = ap (λ (g : Getting). g.table) gets.6; samples = ap (λ (g : Getting). g.samples) gets.6; most = ap (λ (g : Getting). g.most) gets.6 }

keeps-step : (driver after : Driver) → StepsOnce driver after → KeepsEnds driver.disks after.disks
keeps-step driver after steps = record { as_many = steps.as_many_disks; each = λ disk got got_after was is. gets-same _ disk _ got got_after _ _ (steps.disks disk got got_after was is) }

keeps-same : (ends after : List Getting) → after ≡ ends → KeepsEnds ends after
keeps-same ends after same = subst (KeepsEnds ends) (sym same) record { as_many = refl; each = λ disk got got_after was is. end disk got got_after was is }
  where
    end : (disk : ℕ) (got got_after : Getting) → slice_get ends disk ≡ Some got → slice_get ends disk ≡ Some got_after → SameEnd got got_after
    end disk got got_after was is = subst (SameEnd got) (same_Some got got_after (sym was ∙ is)) (record { table = refl; samples = refl; most = refl })

keeps-on : (ends between after : List Getting) → KeepsEnds ends between → KeepsEnds between after → KeepsEnds ends after
keeps-on ends between after first second = record {
  as_many = second.as_many ∙ first.as_many;
  each = λ disk got got_after was is.
      let there = some_at between disk (subst (λ n. disk < n) (sym first.as_many) (slice_get_within ends disk got was)) in
      let one = first.each disk got there.0 was there.1 in
      let two = second.each disk there.0 got_after there.1 is in
      record { table = two.table ∙ one.table; samples = two.samples ∙ one.samples; most = two.most ∙ one.most };
}

keeps-many : (n : ℕ) (driver after : Driver) → CyclesMany n driver after → KeepsEnds driver.disks after.disks
keeps-many zero driver after same = keeps-same driver.disks after.disks (ap (λ (d : Driver). d.disks) same)
keeps-many (suc n) driver after many = keeps-on driver.disks many.0.disks after.disks (keeps-many n driver many.0 many.1) (keeps-step many.0 after many.2.steps)

pub keeps-driven : (sounding : Score → Sound) (cycles : ℕ) (gear after : Gear) (ran : Result (Unit {0}) CycleFault) → HasDriven sounding cycles gear after ran → KeepsEnds gear.disks.disks after.disks.disks
keeps-driven sounding cycles gear after (Ok x) driven = keeps-many cycles (driver_of sounding gear) (driver_of sounding after) driven.ok
keeps-driven sounding cycles gear after (Err Read) driven =
    let into = driven.read refl in
    keeps-on gear.disks.disks into.2.disks after.disks.disks (keeps-many into.0 (driver_of sounding gear) into.2 into.3) (keeps-same into.2.disks after.disks.disks (ap (λ (d : Driver). d.disks) into.4.same))
keeps-driven sounding cycles gear after (Err Write) driven =
    let into = driven.write refl in
    keeps-on gear.disks.disks into.2.disks after.disks.disks (keeps-many into.0 (driver_of sounding gear) into.2 into.3) (keeps-step into.2 (driver_of sounding after) into.4.fails.steps)

-- ---- what the readers did

pub read-at : (players after : List Playing) (i : ℕ) (x y : Playing) → AreRead players after → slice_get players i ≡ Some x → slice_get after i ≡ Some y → ReadBy x y
read-at players after i x y read p q =
    subst (λ (r : Playing). ReadBy r y) (get_or_from_slice_get players i x x p)
    (subst (λ (r : Playing). ReadBy (get_or players i x) r) (get_or_from_slice_get after i y x q) (read.each i x (slice_get_within players i x p)))

served-disk : (player after : Playing) → ReadBy player after → ServedDisk player after
served-disk player after (ReadOn on later) = ServedOn on
served-disk player after (BrokeOff off later rose) = ServedOff off

pub disks-served : (session : Session) (after : List Playing) → length after ≡ length session.players → AreRead session.players after → DisksServed session (record session { players = after })
disks-served session after many read = record {
  each = λ disk player player_after was is. served-disk player player_after (read-at session.players after disk player player_after read was is);
  players = many;
  same = refl;
}

pub none-failed : (session : Session) → All IsGoing session.players → NoneFailed session
none-failed session going disk player is =
    (subst IsGoing (get_or_from_slice_get session.players disk player player is) (going disk player (slice_get_within session.players disk player is))).going

-- ---- what stays, and what rose

same-ring : (player after : Playing) → ReadBy player after → (after.sending.table ≡ player.sending.table) × (after.sending.samples ≡ player.sending.samples) × (after.sending.most ≡ player.sending.most)
same-ring player after (ReadOn on later) = (on.ring.table, on.ring.samples, on.ring.most)
same-ring player after (BrokeOff off later rose) = (off.ring.table, off.ring.samples, off.ring.most)

later-one : (player after : Playing) → player.failed ≡ false → ReadBy player after → IsReadLater player after
later-one player after going (ReadOn on same) = record { format = on.format; faults = omega (arith, same); kept = λ now. (going, same) }
later-one player after going (BrokeOff off later rose) = record { format = off.format; faults = later; kept = λ now. absurd (true≢false (sym off.failed ∙ now)) }

pub read-later : (session : Session) (after : List Playing) → NoneFailed session → length after ≡ length session.players → AreRead session.players after → AreReadLater session.players after
read-later session after none many read = record { as_many = many; each = λ disk old new was is. later-one old new (none disk old was) (read-at session.players after disk old new read was is) }

pub paired-read : (gear driven : Gear) (players after : List Playing) → DisksPaired gear players → KeepsEnds gear.disks.disks driven.disks.disks → length after ≡ length players → AreRead players after → DisksPaired driven after
paired-read gear driven players after pairs keeps many read = record {
  as_many = keeps.as_many ∙ pairs.as_many ∙ sym many;
  few = subst (λ n. n < 256) (sym many) pairs.few;
  each = λ disk player got player_is got_is.
      let old = some_at players disk (subst (λ n. disk < n) many (slice_get_within after disk player player_is)) in
      let was = some_at gear.disks.disks disk (subst (λ n. disk < n) keeps.as_many (slice_get_within driven.disks.disks disk got got_is)) in
      let pair = pairs.each disk old.0 was.0 old.1 was.1 in
      let ring = same-ring old.0 player (read-at players after disk old.0 player read old.1 player_is) in
      let end = keeps.each disk was.0 got was.1 got_is in
      record { one = ring.0 ∙ pair.one ∙ sym end.table; same_samples = ring.1 ∙ pair.same_samples ∙ sym end.samples; same_most = ring.2 ∙ pair.same_most ∙ sym end.most };
}

pub broke-rose : (before after : Parts) → length after.players ≡ length before.players → AreRead before.players after.players → HaveFailed after.players → SourceRose before after
broke-rose before after many read failed =
    let old = some_at before.players failed.place (subst (λ n. failed.place < n) many (slice_get_within after.players failed.place failed.player failed.there)) in
    rose old.0 (read-at before.players after.players failed.place old.0 failed.player read old.1 failed.there) old.1
  where
    rose : (old : Playing) → ReadBy old failed.player → slice_get before.players failed.place ≡ Some old → SourceRose before after
    rose old (ReadOn on later) was = absurd (true≢false (sym failed.failed ∙ on.going))
    rose old (BrokeOff off later rise) was = OfDisk failed.place old failed.player was failed.there rise

-- ---- readers between the cycles

module _ (gear after : Gear) (moved : DisksMoved gear after) where
  pub next-read : (sounding : Score → Sound) (cycles : ℕ) (freewheel : Bool) → AreNext cycles freewheel (driver_of sounding gear) → AreNext cycles freewheel (driver_of sounding after)
  next-read sounding cycles freewheel next = subst (λ (g : Gear). AreNext cycles freewheel (driver_of sounding g)) (sym moved) (record { left = next.left; kinds = next.kinds; periods = next.periods })

  pub pairs-read : (recordings : List Recording) → ArePaired gear recordings → ArePaired after recordings
  pairs-read recordings pairs = subst (λ (g : Gear). ArePaired g recordings) (sym moved) (record { as_many = pairs.as_many; few = pairs.few; each = pairs.each })
