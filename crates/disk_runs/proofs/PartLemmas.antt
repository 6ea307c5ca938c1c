-- Steps at the disks leave a session's parts as they were.
--     IsOne-tried, HasFiles-tried, MissesInRun-tried, IsMet-tried, IsFor-tried, HasRoom-tried, HasMetOthers-tried, KeepsAny-tried      a try
--     IsOne-served, HasFiles-served, MissesInRun-served, IsMet-served, IsFor-served, HasRoom-served      readers in threads
use Rattle.std.proofs.Common.{◌≡◌, ℕ, length, slice_get, Some, refl, sym, ◌∙◌, ap, subst, le_refl}
use Rattle.std.proofs.lemmas.Option.{same_Some}
use Rattle.session_model.specs.Courses.{Course}
use Rattle.session_model.specs.Explanations.{Given}
use Rattle.driver_words.specs.Rings.{Getting, IsPair}
use Rattle.disk_player.specs.Playing.{Playing}
use Rattle.disk_serving.specs.Serving.{IsSameRing}
use Rattle.driver_laws.specs.Cycling.{HasMetOthers}
use Rattle.driver_laws.specs.Drivers.{Driver, HasOwnRings, IsOwnRing}
use Rattle.driver_laws.specs.Keeping.{Fits, Keeps}
use Rattle.driver_laws.proofs.PlaceLemmas.{there_too}
use Rattle.run_laws.specs.Runs.{HasFiles, MissesInRun}
use Rattle.run_laws.specs.Sessions.{IsDisk, IsFor, IsMet, IsOne, KeepsAny, Session}
use Rattle.disk_runs.specs.Readings.{DisksBroke, DisksServed, ServedDisk, ServedOff, ServedOn, TriedDisk}
use Rattle.disk_runs.specs.Rests.{DisksHaveRoom}
use Rattle.disk_runs.proofs.PlaceLemmas.{Stepped, both-by, both-of, long, long-after, map-places, stepped}
use Rattle.disk_runs.proofs.StepLemmas.{DiskMet, met-tried, pair-met}

-- ---- a try

module _ (most : ℕ) (session after : Session) (tried : DisksBroke most session after) where
  -- the session behind, with what changed told
  abbrev later : Session
  later = record session { driver = record session.driver { disks = after.driver.disks }; players = after.players }

  -- each disk behind the step was one before it
  record Came (disk : ℕ) (player_after : Playing) (got_after : Getting) : Type 0 where
    pub player : Playing
    pub got : Getting
    pub before : IsDisk session disk player got
    pub met : DiskMet player got player_after got_after

  came : (disk : ℕ) (player_after : Playing) (got_after : Getting) → IsDisk after disk player_after got_after → Came disk player_after got_after
  came disk player_after got_after behind =
      let step : Stepped (TriedDisk most) session disk player_after got_after = stepped (TriedDisk most) session after tried disk player_after got_after behind in
      record { player = step.player; got = step.got; before = step.before; met = met-tried most step.player player_after step.got got_after step.step }

  pub HasFiles-tried : HasFiles session → HasFiles after
  HasFiles-tried files =
      let behind : HasFiles later = record {
        playback = record { tape = files.playback.tape; attached = files.playback.attached; going = files.playback.going };
        playback_format = files.playback_format;
        sound = files.sound;
        formats = files.formats;
        may = files.may;
        samples = files.samples;
        counted = files.counted;
      } in
      subst HasFiles (sym tried.same) behind

  pub MissesInRun-tried : MissesInRun session → MissesInRun after
  MissesInRun-tried misses =
      let behind : MissesInRun later = record { overruns = misses.overruns; underruns = misses.underruns } in
      subst MissesInRun (sym tried.same) behind

  pub IsMet-tried : IsMet session → IsMet after
  IsMet-tried met =
      let behind : IsMet later = record { met = met.met; reader = met.reader; publisher = met.publisher } in
      subst IsMet (sym tried.same) behind

  pub IsFor-tried : (given : Given) → IsFor session given → IsFor after given
  IsFor-tried given own =
      let behind : IsFor later given = record { script = own.script; scores = own.scores; channels = own.channels } in
      subst (λ (s : Session). IsFor s given) (sym tried.same) behind

  module _ (one : IsOne session) where
    -- a disk by its end that gets
    came-by : (disk : ℕ) (got_after : Getting) → slice_get after.driver.disks disk ≡ Some got_after → (player_after : Playing) × Came disk player_after got_after
    came-by disk got_after here =
        let there : (player : Playing) × IsDisk after disk player got_after = both-by after (long-after (TriedDisk most) session after tried (long session one)) disk got_after here in
        (there.0, came disk there.0 got_after there.1)

    own-rings : HasOwnRings later.driver
    own-rings = record {
      recorders = one.rings.recorders;
      disks = tried.disks ∙ one.rings.disks;
      puts = one.rings.puts;
      gets = map-places (λ (got : Getting). length got.got) (λ (got : Getting). length got.got) after.driver.disks session.driver.disks tried.disks
          (λ disk got old here there.
          let step : Came disk (came-by disk got here).0 got = (came-by disk got here).1 in
          ap length step.met.stays.got ∙ ap (λ (g : Getting). length g.got) (same_Some step.got old (sym step.before.got_is ∙ there)))
          ∙ one.rings.gets;
      own = λ recorder ring here. let own : IsOwnRing session.driver recorder ring = one.rings.own recorder ring here in record { samples = own.samples; most = own.most; items = own.items };
      own_disks = λ disk got here.
          let step : Came disk (came-by disk got here).0 got = (came-by disk got here).1 in
          step.met.stays.samples ∙ one.rings.own_disks disk step.got step.before.got_is;
    }

    pub IsOne-tried : IsOne after
    IsOne-tried =
        let behind : IsOne later = record {
          lawful = one.lawful;
          desk_script = one.desk_script;
          driver_script = one.driver_script;
          desk = one.desk;
          table = one.table;
          base = one.base;
          rows = record { cycles = one.rows.cycles; numbers = one.rows.numbers; last = one.rows.last; place = one.rows.place; base = one.rows.base };
          rings = own-rings;
          own_recorders = one.own_recorders;
          own_disks = one.own_disks;
          capacity = one.capacity;
          recorder_ends = one.recorder_ends;
          recorder_pairs = one.recorder_pairs;
          disk_ends = tried.players ∙ one.disk_ends;
          disk_pairs = λ disk player got here there.
              let step : Came disk player got = came disk player got record { player_is = here; got_is = there } in
              pair-met step.player player step.got got step.met (one.disk_pairs disk step.player step.got step.before.player_is step.before.got_is);
        } in
        subst IsOne (sym tried.same) behind

    pub HasRoom-tried : DisksHaveRoom session → DisksHaveRoom after
    HasRoom-tried room disk player here =
        let there : (got : Getting) × IsDisk after disk player got = both-of after (long-after (TriedDisk most) session after tried (long session one)) disk player here in
        let step : Came disk player there.0 = came disk player there.0 there.1 in
        step.met.ring.capacity ∙ room disk step.player step.before.player_is ∙ ap (λ (s : Session). s.script.header.ring) (sym tried.same)

    pub HasMetOthers-tried : HasMetOthers session.driver after.driver
    HasMetOthers-tried =
        let behind : HasMetOthers session.driver later.driver = record {
          rows = refl;
          rings = λ recorder ring here. (ring, here, record { put = refl; capacity = refl; samples = refl; most = refl; least = le_refl ring.least });
          disks = λ disk got here.
              let step : Came disk (came-by disk got here).0 got = (came-by disk got here).1 in
              (step.got, step.before.got_is, step.met.stays);
          back = λ disk old here.
              let got : (got : Getting) × (slice_get after.driver.disks disk ≡ Some got) = there_too session.driver.disks after.driver.disks disk old tried.disks here in
              let player : (player : Playing) × IsDisk session disk player old = both-by session (long session one) disk old here in
              let player_after : (player : Playing) × IsDisk after disk player got.0 = both-by after (long-after (TriedDisk most) session after tried (long session one)) disk got.0 got.1 in
              let met : DiskMet player.0 old player_after.0 got.0 = met-tried most player.0 player_after.0 old got.0 (tried.each disk player.0 player_after.0 old got.0 player.1 player_after.1) in
              (got.0, got.1, met.stays);
          same = refl;
        } in
        subst (HasMetOthers session.driver) (ap (λ (s : Session). s.driver) (sym tried.same)) behind

    pub KeepsAny-tried : ((driver behind : Driver) (course : Course) → HasMetOthers driver behind → Fits behind course → Fits driver course) → ((driver behind : Driver) (course : Course) → HasMetOthers driver behind → Keeps driver course → Keeps behind course)
        → (given : Given) → KeepsAny given session.driver → KeepsAny given after.driver
    KeepsAny-tried fits keeps given kept course over fitting =
        keeps session.driver after.driver course HasMetOthers-tried (kept course over (fits session.driver after.driver course HasMetOthers-tried fitting))

-- ---- readers in threads

-- whether a read failed or not, the ring is the same one
pub ring-served : (before after : Playing) → ServedDisk before after → IsSameRing before.sending after.sending
ring-served before after (ServedOn reads) = reads.ring
ring-served before after (ServedOff reads) = reads.ring

module _ (session after : Session) (served : DisksServed session after) where
  abbrev left : Session
  left = record session { players = after.players }

  -- each player behind them was one before
  pub came-served : (disk : ℕ) (player_after : Playing) → slice_get after.players disk ≡ Some player_after → (player : Playing) × (slice_get session.players disk ≡ Some player) × ServedDisk player player_after
  came-served disk player_after here =
      let player : (player : Playing) × (slice_get session.players disk ≡ Some player) = there_too after.players session.players disk player_after (sym served.players) here in
      (player.0, player.1, served.each disk player.0 player_after player.1 here)

  pub IsOne-served : IsOne session → IsOne after
  IsOne-served one =
      let behind : IsOne left = record {
        lawful = one.lawful;
        desk_script = one.desk_script;
        driver_script = one.driver_script;
        desk = one.desk;
        table = one.table;
        base = one.base;
        rows = one.rows;
        rings = one.rings;
        own_recorders = one.own_recorders;
        own_disks = one.own_disks;
        capacity = one.capacity;
        recorder_ends = one.recorder_ends;
        recorder_pairs = one.recorder_pairs;
        disk_ends = served.players ∙ one.disk_ends;
        disk_pairs = λ disk player got here there.
            let old : (old : Playing) × (slice_get session.players disk ≡ Some old) × ServedDisk old player = came-served disk player here in
            let pair : IsPair old.0.sending got = one.disk_pairs disk old.0 got old.1 there in
            let ring : IsSameRing old.0.sending player.sending = ring-served old.0 player old.2 in
            record { one = ring.table ∙ pair.one; same_samples = ring.samples ∙ pair.same_samples; same_most = ring.most ∙ pair.same_most };
      } in
      subst IsOne (sym served.same) behind

  pub HasFiles-served : HasFiles session → HasFiles after
  HasFiles-served files =
      let behind : HasFiles left = record {
        playback = files.playback;
        playback_format = files.playback_format;
        sound = files.sound;
        formats = files.formats;
        may = files.may;
        samples = files.samples;
        counted = files.counted;
      } in
      subst HasFiles (sym served.same) behind

  pub MissesInRun-served : MissesInRun session → MissesInRun after
  MissesInRun-served misses =
      let behind : MissesInRun left = record { overruns = misses.overruns; underruns = misses.underruns } in
      subst MissesInRun (sym served.same) behind

  pub IsMet-served : IsMet session → IsMet after
  IsMet-served met =
      let behind : IsMet left = record { met = met.met; reader = met.reader; publisher = met.publisher } in
      subst IsMet (sym served.same) behind

  pub IsFor-served : (given : Given) → IsFor session given → IsFor after given
  IsFor-served given own =
      let behind : IsFor left given = record { script = own.script; scores = own.scores; channels = own.channels } in
      subst (λ (s : Session). IsFor s given) (sym served.same) behind

  pub HasRoom-served : DisksHaveRoom session → DisksHaveRoom after
  HasRoom-served room disk player here =
      let old : (old : Playing) × (slice_get session.players disk ≡ Some old) × ServedDisk old player = came-served disk player here in
      (ring-served old.0 player old.2).capacity ∙ room disk old.0 old.1 ∙ ap (λ (s : Session). s.script.header.ring) (sym served.same)
