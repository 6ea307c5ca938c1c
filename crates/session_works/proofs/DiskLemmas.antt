-- The calls at a session's disks, one after another.
--     told-one, read-one      one call
--     TriedAt most started goes player got after got_after      what a disk's call left, where it was started so and goes on so
--     HasTried most started goes place gots players gots_now players_now      the disks below a place had their calls
--     tried-none, tried-all      before the first call, and behind the last
--     pair-next, going-next, tried-next      what the next call asks, and what it leaves
--     moved-disk      the driver behind it
--     are-read, are-tried, are-told, some-rose      what all calls leave
--     disks-paired, disks-later      the rings' ends, and the files
use Rattle.std.proofs.Common.{◌≡◌, ◌≢◌, ℕ, ◌+◌, ◌<◌, ◌≤◌, ◌⊎◌, inl, inr, Bool, true, false, List, All, length, set, get_or, slice_get, Some, Result, Ok, Err, OnErr, OnOk, is_err, is_ok, refl, sym, ◌∙◌, ap, ap₂, subst, arith, true≢false}
use Rattle.std.proofs.lemmas.Bool.{cases_lt}
use Rattle.std.proofs.lemmas.Option.{slice_get-get_or, slice_get_read, slice_get_within}
use Rattle.graph_word.proofs.Fronts.{got_else, got_here}
use Rattle.jack_host.specs.Causes.{HasCause, Rose}
use Rattle.session_model.specs.Kinds.{Sound}
use Rattle.client_kinds.specs.Scores.{Score}
use Rattle.driver_words.specs.Feeding.{no_ring}
use Rattle.driver_words.specs.Rings.{Getting, IsPair}
use Rattle.cycle_driver.specs.Gears.{Gear}
use Rattle.run_laws.specs.Sessions.{Playing}
use Rattle.run_laws.proofs.PlaceLemmas.{some_at}
use Rattle.disk_runs.specs.Readings.{BrokeOff, EachDisk, LeftAlone, ReadOn, TriedDisk}
use Rattle.disk_runs.specs.disk_files.specs.Readers.{BreaksAhead, ReadsAhead, TellsAhead}
use Rattle.disk_runs.specs.disk_files.specs.Serving.{IsGoing}
use Rattle.disk_runs.specs.disk_files.proofs.ReaderLemmas.{ahead-format, breaks-format, tells-format}
use Rattle.session_works.specs.DiskSteps.{AreReadOn, AreTold, AreTried, DisksMoved, SeenBesideAny, SomeRose, TriedOne}
use Rattle.session_works.specs.Insides.{DisksPaired, beside, seen_with}
use Rattle.session_works.specs.Parts.{AreReadLater, IsReadLater, OfDisk}
use Rattle.session_works.proofs.ReelLemmas.{all-there}
use Rattle.session_works.proofs.RingLemmas.{AreEach, each-none, each-set, each-weaker}

-- ---- one call

module _ (most : ℕ) (player after : Playing) (got got_after found found_after : Getting) (was : found ≡ got) (is : found_after ≡ got_after) (pair : IsPair after.sending found_after) where
  pair_is : IsPair after.sending got_after
  pair_is = subst (λ (g : Getting). IsPair after.sending g) is pair

  at_ends : (P : Playing → Getting → Playing → Getting → Type 0) → P player found after found_after → P player got after got_after
  at_ends P holds = subst (λ (g : Getting). P player g after got_after) was (subst (λ (g : Getting). P player found after g) is holds)

  pub told-one : TellsAhead player found after found_after → TriedOne most false false player got after got_after
  told-one tells = record {
    tried = LeftAlone now;
    read = λ so. absurd (true≢false (sym so));
    told = λ _. (refl, now);
    rose = λ so. absurd (true≢false (sym so));
    pair = pair_is;
    later = record {
      format = tells-format player after found found_after tells;
      faults = subst (λ (p : Playing). player.faults ≤ p.faults) (sym tells.same) (omega arith);
      kept = λ going. (sym (ap (λ (p : Playing). p.failed) tells.same) ∙ going, ap (λ (p : Playing). p.faults) tells.same);
    };
  }
    where
      now : TellsAhead player got after got_after
      now = at_ends TellsAhead tells

  tried-by : {T E : Type 0} (result : Result T E) → OnOk result (ReadsAhead most player found after found_after) → OnErr result (BreaksAhead most player found after found_after) → HasCause player.faults after.faults result
      → player.failed ≡ false → after.failed ≡ is_err result → TriedOne most true (is_ok result) player got after got_after
  tried-by (Ok _) on off cause going failed = record {
    tried = ReadOn now;
    read = λ _. (refl, now);
    told = λ stops. absurd (true≢false stops);
    rose = λ _ stops. absurd (true≢false stops);
    pair = pair_is;
    later = record { format = ahead-format most player after found found_after on; faults = cause.later; kept = λ _. (going, cause.kept) };
  }
    where
      now : ReadsAhead most player got after got_after
      now = at_ends (ReadsAhead most) on
  tried-by (Err _) on broke cause going failed = record {
    tried = BrokeOff (at_ends (BreaksAhead most) broke);
    read = λ so. absurd (true≢false (sym so));
    told = λ stops. absurd (true≢false stops);
    rose = λ _ _. cause.failed;
    pair = pair_is;
    later = record { format = breaks-format most player after found found_after broke; faults = cause.later; kept = λ still. absurd (true≢false (sym failed ∙ still)) };
  }

  pub read-one : {T E : Type 0} (result : Result T E) → OnOk result (ReadsAhead most player found after found_after) → OnErr result (BreaksAhead most player found after found_after) → HasCause player.faults after.faults result
      → player.failed ≡ false → after.failed ≡ is_err result → (went : Bool) → went ≡ is_ok result → TriedOne most true went player got after got_after
  read-one result on off cause going failed went same = subst (λ (b : Bool). TriedOne most true b player got after got_after) (sym same) (tried-by result on off cause going failed)

-- ---- one after another

pub record TriedAt (most : ℕ) (started goes : Bool) (player : Playing) (got : Getting) (after : Playing) (got_after : Getting) : Type 0 where
  pub tried : TriedDisk most player got after got_after
  pub read : goes ≡ true → ReadsAhead most player got after got_after
  pub told : started ≡ false → TellsAhead player got after got_after
  pub pair : IsPair after.sending got_after
  pub later : IsReadLater player after

abbrev pub TriedUpTo : ℕ → Bool → Bool → ℕ → ℕ → Getting → Playing → Getting → Playing → Type 0
TriedUpTo most started goes place i got player got_after after = (i < place → TriedAt most started goes player got after got_after) × (place ≤ i → (got_after ≡ got) × (after ≡ player))

-- the count of failed reads of one of the files rose, of a disk below a place
pub record RoseBelow (place : ℕ) (players after : List Playing) : Type 0 where
  pub disk : ℕ
  pub low : disk < place
  pub old : Playing
  pub new : Playing
  pub was : slice_get players disk ≡ Some old
  pub is : slice_get after disk ≡ Some new
  pub rose : Rose old.faults new.faults

-- it goes on only where it was started so, and where it stopped a read failed
pub record HasTried (most : ℕ) (started goes : Bool) (place : ℕ) (gots : List Getting) (players : List Playing) (gots_now : List Getting) (players_now : List Playing) : Type 0 where
  pub each : AreEach (TriedUpTo most started goes place) gots players gots_now players_now
  pub on : goes ≡ true → started ≡ true
  pub rose : started ≡ true → goes ≡ false → RoseBelow place players players_now

pub tried-none : (most : ℕ) (started : Bool) (gots : List Getting) (players : List Playing) → HasTried most started started 0 gots players gots players
tried-none most started gots players = record {
  each = each-none (TriedUpTo most started started 0) gots players (λ i got player. (λ low. absurd (none i low), λ _. (refl, refl)));
  on = λ is. is;
  rose = λ so stops. absurd (true≢false (sym so ∙ stops));
}
  where
    none : (n : ℕ) → n < 0 → ⊥
    none n p = omega (arith, p)

-- what is off stays off
off : (started goes : Bool) → (goes ≡ true → started ≡ true) → started ≡ false → goes ≡ false
off started true on is = absurd (true≢false (sym (on refl) ∙ is))
off started false on is = refl

module _ (most : ℕ) (started goes : Bool) (place : ℕ) (gots : List Getting) (players : List Playing) (gots_now : List Getting) (players_now : List Playing) (tried : HasTried most started goes place gots players gots_now players_now)
    (as_many : length gots ≡ length players) (low : place < length players) (player : Playing) (is : player ≡ get_or players_now place player) where
  abbrev got : Getting
  got = get_or gots_now place no_ring

  player-next : slice_get players_now place ≡ Some player
  player-next = slice_get_read players_now (length players) place player (sym tried.each.recordings_same) low is

  pub there-next : place < length gots_now
  there-next = subst (λ n. place < n) (sym (tried.each.rings_same ∙ as_many)) low

  got-next : slice_get gots_now place ≡ Some got
  got-next = slice_get-get_or gots_now place no_ring there-next

  was_got : (g : Getting) × (slice_get gots place ≡ Some g)
  was_got = some_at gots place (subst (λ n. place < n) (sym as_many) low)

  was_player : (p : Playing) × (slice_get players place ≡ Some p)
  was_player = some_at players place low

  left : (got ≡ was_got.0) × (player ≡ was_player.0)
  left = (tried.each.each place was_got.0 was_player.0 got player was_got.1 was_player.1 got-next player-next).1 (omega arith)

  pub pair-next : ((disk : ℕ) (p : Playing) (g : Getting) → slice_get players disk ≡ Some p → slice_get gots disk ≡ Some g → IsPair p.sending g) → IsPair player.sending got
  pair-next pairs =
      subst (λ (g : Getting). IsPair player.sending g) (sym left.0) (subst (λ (p : Playing). IsPair p.sending was_got.0) (sym left.1) (pairs place was_player.0 was_got.0 was_player.1 was_got.1))

  pub going-next : (started ≡ true → All IsGoing players) → goes ≡ true → player.failed ≡ false
  going-next going so = ap (λ (p : Playing). p.failed) left.1 ∙ (all-there IsGoing players place was_player.0 (going (tried.on so)) was_player.1).going

  module _ (went : Bool) (after : Playing) (got_after : Getting) (one : TriedOne most goes went player got after got_after) where
    tried-here : (a : Getting) (b : Playing) → (got ≡ a) × (player ≡ b) → TriedAt most started went b a after got_after
    tried-here a b same =
        subst (λ (x : Getting). TriedAt most started went b x after got_after) same.0
        (subst (λ (y : Playing). TriedAt most started went y got after got_after) same.1 (record {
          tried = one.tried;
          read = λ so. (one.read so).1;
          told = λ stops. (one.told (off started goes tried.on stops)).1;
          pair = one.pair;
          later = one.later;
        }))

    rose-next : started ≡ true → went ≡ false → RoseBelow (place + 1) players (set players_now place after)
    rose-next so stops = go goes refl
      where
        go : (b : Bool) → goes ≡ b → RoseBelow (place + 1) players (set players_now place after)
        go true on = record {
          disk = place;
          low = omega arith;
          old = was_player.0;
          new = after;
          was = was_player.1;
          is = got_here players_now place after (slice_get_within players_now place player player-next);
          rose = subst (λ (p : Playing). Rose p.faults after.faults) left.1 (one.rose on stops);
        }
        go false stopped =
            let before = tried.rose so stopped in
            let less = before.low in
            record {
              disk = before.disk;
              low = omega (arith, less);
              old = before.old;
              new = before.new;
              was = before.was;
              is = got_else players_now place before.disk after (other before.disk less) ∙ before.is;
              rose = before.rose;
            }
          where
            other : (disk : ℕ) → disk < place → disk ≢ place
            other disk less = λ e. omega (arith, less, e)

    pub tried-next : HasTried most started went (place + 1) gots players (set gots_now place got_after) (set players_now place after)
    tried-next = record {
      each = each-set (TriedUpTo most started goes place) (TriedUpTo most started went (place + 1)) gots players gots_now players_now place got got_after player after got-next player-next others
          (λ a b given. (λ _. tried-here a b (given.1 (omega arith)), λ high. absurd (never place high))) tried.each;
      on = λ so. tried.on (one.read so).0;
      rose = rose-next;
    }
      where
        never : (n : ℕ) → n + 1 ≤ n → ⊥
        never n h = omega (arith, h)

        below : (k n : ℕ) → k ≢ n → k < n + 1 → k < n
        below k n differs less = by (cases_lt k n)
          where
            by : (k < n) ⊎ (n ≤ k) → k < n
            by (inl h) = h
            by (inr h) = absurd (differs (omega (arith, h, less)))

        others : (k : ℕ) (a : Getting) (b : Playing) (c : Getting) (d : Playing) → k ≢ place → TriedUpTo most started goes place k a b c d → TriedUpTo most started went (place + 1) k a b c d
        others k a b c d differs given = (
          λ less. let at = given.0 (below k place differs less) in record { tried = at.tried; read = λ so. at.read (one.read so).0; told = at.told; pair = at.pair; later = at.later },
          λ high. given.1 (omega (arith, high)),
        )

pub moved-disk : (first gear after : Gear) (disks : List Getting) → DisksMoved first gear → after ≡ record gear { disks = record gear.disks { disks = disks } } → DisksMoved first after
moved-disk first gear after disks moved same =
    same ∙ ap₂ (λ (g : Gear) (l : List Getting). record g { disks = record g.disks { disks = l } }) moved (sym (ap (λ (g : Gear). g.disks.disks) same))

-- ---- behind all calls

abbrev pub AllTried : ℕ → Bool → Bool → List Getting → List Playing → List Getting → List Playing → Type 0
AllTried most started goes = AreEach (λ (i : ℕ) (got : Getting) (player : Playing) (got_after : Getting) (after : Playing). TriedAt most started goes player got after got_after)

pub tried-all : (most : ℕ) (started goes : Bool) (place : ℕ) (gots : List Getting) (players : List Playing) (gots_after : List Getting) (players_after : List Playing) → length players ≤ place
    → HasTried most started goes place gots players gots_after players_after → AllTried most started goes gots players gots_after players_after
tried-all most started goes place gots players gots_after players_after all tried =
    each-weaker (TriedUpTo most started goes place) (λ i got player got_after after. TriedAt most started goes player got after got_after) gots players gots_after players_after
    (λ i got player got_after after low given. given.0 (omega (arith, low, all))) tried.each

module _ (most : ℕ) (started goes : Bool) (gear after : Gear) (players players_after : List Playing) (tried : AllTried most started goes gear.disks.disks players after.disks.disks players_after) where
  pub disks-paired : DisksPaired gear players → DisksPaired after players_after
  disks-paired pairs = record {
    as_many = tried.rings_same ∙ pairs.as_many ∙ sym tried.recordings_same;
    few = subst (λ n. n < 256) (sym tried.recordings_same) pairs.few;
    each = λ disk player got player_is got_is.
        let old = some_at players disk (subst (λ n. disk < n) tried.recordings_same (slice_get_within players_after disk player player_is)) in
        let before = some_at gear.disks.disks disk (subst (λ n. disk < n) tried.rings_same (slice_get_within after.disks.disks disk got got_is)) in
        (tried.each disk before.0 old.0 got player before.1 old.1 got_is player_is).pair;
  }

  pub disks-later : length gear.disks.disks ≡ length players → AreReadLater players players_after
  disks-later as_many = record {
    as_many = tried.recordings_same;
    each = λ disk old new was is.
        let low : disk < length gear.disks.disks = subst (λ n. disk < n) (sym as_many) (slice_get_within players disk old was) in
        let before = some_at gear.disks.disks disk low in
        let behind = some_at after.disks.disks disk (subst (λ n. disk < n) (sym tried.rings_same) low) in
        (tried.each disk before.0 old behind.0 new before.1 was behind.1 is).later;
  }

  module _ (sounding : Score → Sound) (moved : DisksMoved gear after) where
    each-disk : (Step : Playing → Getting → Playing → Getting → Type 0) → ((player : Playing) (got : Getting) (player_after : Playing) (got_after : Getting) → TriedAt most started goes player got player_after got_after → Step player got player_after got_after)
        → SeenBesideAny sounding (EachDisk Step) gear players after players_after
    each-disk Step weaker desk recordings = record {
      each = λ disk player player_after got got_after was is. weaker player got player_after got_after (tried.each disk got player got_after player_after was.got_is was.player_is is.got_is is.player_is);
      players = tried.recordings_same;
      disks = tried.rings_same;
      same = ap (λ (g : Gear). seen_with sounding (beside desk players_after) g recordings) moved;
    }

    pub are-read : goes ≡ true → AreReadOn sounding most gear players after players_after
    are-read so = each-disk (ReadsAhead most) (λ player got player_after got_after at. at.read so)

    pub are-tried : AreTried sounding most gear players after players_after
    are-tried = each-disk (TriedDisk most) (λ player got player_after got_after at. at.tried)

    pub are-told : started ≡ false → AreTold sounding gear players after players_after
    are-told stops = each-disk TellsAhead (λ player got player_after got_after at. at.told stops)

pub some-rose : (most : ℕ) (started goes : Bool) (place : ℕ) (gots : List Getting) (gots_after : List Getting) (gear after : Gear) (players players_after : List Playing) → HasTried most started goes place gots players gots_after players_after
    → started ≡ true → goes ≡ false → SomeRose gear players after players_after
some-rose most started goes place gots gots_after gear after players players_after tried so stops desk recordings = let it = tried.rose so stops in OfDisk it.disk it.old it.new it.was it.is it.rose
