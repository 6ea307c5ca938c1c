-- Steps at the disks of a session.
--     AsMany session      as many players as ends that get
--     AsMany-left, many-after      so it is where both are left, and behind a step of both
--     HasMetOthers-disks      of the driver the ends that get alone met others
--     PlaysAll-reads, PlaysAll-tells, PutsAll-alone, PutsAll-tries, PutsAll-tells      players and what they put
--     FitsDisk-known      what was got fits, where both ends of each ring know how far the other is
--     IsSoundBut-readers      readers in threads of their own leave the parts as they were
--     LeavesRings-tried, LeavesRings-readers      what leaves the recorders' rings
use Rattle.std.proofs.Common.{◌≡◌, ℕ, List, length, slice_get, Some, refl, sym, ◌∙◌, ap, subst, le_refl}
use Rattle.session_model.specs.Courses.{Course, disk_file}
use Rattle.session_model.specs.Explanations.{Given}
use Rattle.driver_words.specs.Rings.{Getting}
use Rattle.driver_laws.specs.Cycling.{HasMetOthers}
use Rattle.driver_laws.specs.Drivers.{Driver}
use Rattle.driver_laws.specs.Keeping.{Fits, FitsDisk}
use Rattle.driver_laws.proofs.MeetingLemmas.{Fits-met}
use Rattle.driver_laws.proofs.PlaceLemmas.{there_too}
use Rattle.run_laws.specs.Runs.{PlaysAll, PutsFile}
use Rattle.run_laws.specs.Sessions.{IsDisk, IsOver, Playing, Session}
use Rattle.disk_runs.specs.Readings.{DisksBroke, DisksRead, DisksServed, DisksTold, NoneFailed, TriedDisk}
use Rattle.disk_runs.specs.Rests.{DiskTells, DisksTell, PutsAll}
use Rattle.disk_runs.specs.disk_files.specs.Readers.{ReadsAhead, TellsAhead}
use Rattle.disk_runs.specs.disk_turns.proofs.TurnLemmas.{plays-told}
use Rattle.disk_runs.proofs.FileLemmas.{fits-put}
use Rattle.disk_runs.proofs.PartLemmas.{HasFiles-served, HasRoom-served, IsOne-served, MissesInRun-served}
use Rattle.disk_runs.proofs.PlaceLemmas.{Stepped, both-by, both-of, long-after, stepped}
use Rattle.disk_runs.proofs.StepLemmas.{DiskMet, met-tried}
use Rattle.thread_laws.specs.Parts.{IsSoundBut}
use Rattle.thread_laws.proofs.PassLemmas.{LeavesDisks, LeavesRings}

abbrev pub AsMany : Session → Type 0
AsMany session = length session.driver.disks ≡ length session.players

pub AsMany-left : (session after : Session) → LeavesDisks session after → AsMany session → AsMany after
AsMany-left session after leaves many = ap length leaves.disks ∙ many ∙ sym (ap length leaves.players)

-- ---- whatever failed before

module _ (most : ℕ) (session after : Session) (many : AsMany session) (tried : DisksBroke most session after) where
  pub many-after : AsMany after
  many-after = long-after (TriedDisk most) session after tried many

  -- the disk before the step, and what both ends know behind it
  record Came (disk : ℕ) (player_after : Playing) (got_after : Getting) : Type 0 where
    player : Playing
    got : Getting
    before : IsDisk session disk player got
    met : DiskMet player got player_after got_after

  came : (disk : ℕ) (player_after : Playing) (got_after : Getting) → IsDisk after disk player_after got_after → Came disk player_after got_after
  came disk player_after got_after behind =
      let step : Stepped (TriedDisk most) session disk player_after got_after = stepped (TriedDisk most) session after tried disk player_after got_after behind in
      record { player = step.player; got = step.got; before = step.before; met = met-tried most step.player player_after step.got got_after step.step }

  pub HasMetOthers-disks : HasMetOthers session.driver after.driver
  HasMetOthers-disks =
      let behind : HasMetOthers session.driver (record session.driver { disks = after.driver.disks }) = record {
        rows = refl;
        rings = λ recorder ring here. (ring, here, record { put = refl; capacity = refl; samples = refl; most = refl; least = le_refl ring.least });
        disks = λ disk got here.
            let player : (player : Playing) × IsDisk after disk player got = both-by after many-after disk got here in
            let one : Came disk player.0 got = came disk player.0 got player.1 in
            (one.got, one.before.got_is, one.met.stays);
        back = λ disk old here.
            let got : (got : Getting) × (slice_get after.driver.disks disk ≡ Some got) = there_too session.driver.disks after.driver.disks disk old tried.disks here in
            let player : (player : Playing) × IsDisk session disk player old = both-by session many disk old here in
            let behind : (player : Playing) × IsDisk after disk player got.0 = both-by after many-after disk got.0 got.1 in
            let met : DiskMet player.0 old behind.0 got.0 = met-tried most player.0 behind.0 old got.0 (tried.each disk player.0 behind.0 old got.0 player.1 behind.1) in
            (got.0, got.1, met.stays);
        same = refl;
      } in
      subst (HasMetOthers session.driver) (ap (λ (s : Session). s.driver) (sym tried.same)) behind

  -- also where a read failed
  pub PutsAll-tries : (given : Given) → PlaysAll given session → PutsAll given after
  PutsAll-tries given plays disk player here =
      let there : (got : Getting) × IsDisk after disk player got = both-of after many-after disk player here in
      let one : Came disk player there.0 = came disk player there.0 there.1 in record {
        blocks = λ course over. (one.met.put (disk_file course disk) course.script.header.period (plays course over disk one.player one.before.player_is)).blocks;
        within = λ course over. (one.met.put (disk_file course disk) course.script.header.period (plays course over disk one.player one.before.player_is)).within;
        whole = λ course over. (one.met.put (disk_file course disk) course.script.header.period (plays course over disk one.player one.before.player_is)).whole;
      }

pub PlaysAll-reads : (most : ℕ) (session after : Session) (given : Given) → AsMany session → DisksRead most session after → PlaysAll given session → PlaysAll given after
PlaysAll-reads most session after given many reads plays course over disk player here =
    let there : (got : Getting) × IsDisk after disk player got = both-of after (long-after (ReadsAhead most) session after reads many) disk player here in
    let step : Stepped (ReadsAhead most) session disk player there.0 = stepped (ReadsAhead most) session after reads disk player there.0 there.1 in
    step.step.plays (disk_file course disk) course.script.header.period (plays course over disk step.player step.before.player_is)

-- what was put stays where the players do
pub PutsAll-alone : (session after : Session) (given : Given) → after.players ≡ session.players → PutsAll given session → PutsAll given after
PutsAll-alone session after given players puts disk player here = puts disk player (ap (λ (ps : List Playing). slice_get ps disk) (sym players) ∙ here)

-- a meeting puts no block
pub PlaysAll-tells : (session after : Session) (given : Given) → AsMany session → DisksTold session after → PlaysAll given session → PlaysAll given after
PlaysAll-tells session after given many tells plays course over disk player here =
    let there : (got : Getting) × IsDisk after disk player got = both-of after (long-after TellsAhead session after tells many) disk player here in
    let step : Stepped TellsAhead session disk player there.0 = stepped TellsAhead session after tells disk player there.0 there.1 in
    plays-told (disk_file course disk) course.script.header.period step.player player step.got there.0 step.step (plays course over disk step.player step.before.player_is)

pub PutsAll-tells : (session after : Session) (given : Given) → AsMany session → DisksTold session after → PutsAll given session → PutsAll given after
PutsAll-tells session after given many tells puts disk player here =
    let there : (got : Getting) × IsDisk after disk player got = both-of after (long-after TellsAhead session after tells many) disk player here in
    let step : Stepped TellsAhead session disk player there.0 = stepped TellsAhead session after tells disk player there.0 there.1 in
    let old : PutsFile given disk step.player.sending = puts disk step.player step.before.player_is in
    subst (PutsFile given disk) (sym step.step.tells.sending_is) (record { blocks = old.blocks; within = old.within; whole = old.whole })

pub FitsDisk-known : (session : Session) (given : Given) (course : Course) → AsMany session → PutsAll given session → DisksTell session → IsOver given course
    → (disk : ℕ) (got : Getting) → slice_get session.driver.disks disk ≡ Some got → FitsDisk course disk got
FitsDisk-known session given course many puts tell over disk got here =
    let there : (player : Playing) × IsDisk session disk player got = both-by session many disk got here in
    let put : PutsFile given disk there.0.sending = puts disk there.0 there.1.player_is in
    let tells : DiskTells there.0.sending got = tell disk there.0 got there.1 in
    fits-put course disk there.0.sending got (record { blocks = put.blocks course over; within = put.within course over; whole = put.whole course over }) tells.front tells.over

-- ---- the parts

-- readers in threads of their own
pub IsSoundBut-readers : (session after : Session) → IsSoundBut session → DisksServed session after → NoneFailed after → IsSoundBut after
IsSoundBut-readers session after sound served going = record {
  one = IsOne-served session after served sound.one;
  misses = MissesInRun-served session after served sound.misses;
  files = HasFiles-served session after served sound.files;
  room = HasRoom-served session after served sound.room;
  going = going;
}

-- ---- the recorders

pub LeavesRings-tried : (most : ℕ) (session after : Session) → AsMany session → DisksBroke most session after → LeavesRings session after
LeavesRings-tried most session after many tried = record {
  losses = record {
    overruns = ap (λ (s : Session). s.driver.overruns) tried.same;
    underruns = ap (λ (s : Session). s.driver.underruns) tried.same;
    script = ap (λ (s : Session). s.script) tried.same;
    fits = λ course fits. Fits-met session.driver after.driver course (HasMetOthers-disks most session after many tried) fits;
  };
  numbers = ap (λ (s : Session). s.driver.numbers) tried.same;
  rings = ap (λ (s : Session). s.driver.rings) tried.same;
  getting = ap (λ (s : Session). s.getting) tried.same;
  tapes = ap (λ (s : Session). s.tapes) tried.same;
  counts = ap (λ (s : Session). s.counts) tried.same;
}

pub LeavesRings-readers : (session after : Session) → DisksServed session after → LeavesRings session after
LeavesRings-readers session after served = record {
  losses = record {
    overruns = ap (λ (s : Session). s.driver.overruns) served.same;
    underruns = ap (λ (s : Session). s.driver.underruns) served.same;
    script = ap (λ (s : Session). s.script) served.same;
    fits = λ course fits. subst (λ (d : Driver). Fits d course) (ap (λ (s : Session). s.driver) served.same) fits;
  };
  numbers = ap (λ (s : Session). s.driver.numbers) served.same;
  rings = ap (λ (s : Session). s.driver.rings) served.same;
  getting = ap (λ (s : Session). s.getting) served.same;
  tapes = ap (λ (s : Session). s.tapes) served.same;
  counts = ap (λ (s : Session). s.counts) served.same;
}
