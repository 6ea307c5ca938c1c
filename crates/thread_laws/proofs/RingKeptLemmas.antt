-- What was kept of what was given is kept by each step of a phase in threads mode.
--     KeepsOwn-turned      a reader, rings or a period that changed, where no ring's bound fell
--     KeepsOwn-grouped, -met, -paced, -went, -rounded, -cycled, -ended, -served, -readers, -renewed
use Rattle.std.proofs.Common.{◌≡◌, ℕ, zero, suc, List, length, map, slice_get, Some, refl, sym, ◌∙◌, ap, subst, arith, le_refl}
use Rattle.std.proofs.lemmas.Option.{slice_get_within}
use Rattle.session_model.specs.Courses.{Course}
use Rattle.session_model.specs.Explanations.{Given}
use Rattle.session_model.specs.Scripts.{Script}
use Rattle.session_laws.proofs.ListLemmas.{slice_get-map}
use Rattle.graph_word.specs.Publications.{Reading}
use Rattle.driver_words.specs.Rings.{Sending}
use Rattle.driver_laws.specs.Cycling.{CyclesMany, HasMetOthers, RingStays}
use Rattle.driver_laws.specs.Drivers.{Driver}
use Rattle.driver_laws.specs.Keeping.{Keeps}
use Rattle.driver_laws.proofs.FitLemmas.{Keeps-many}
use Rattle.driver_laws.proofs.MeetingLemmas.{Keeps-met}
use Rattle.driver_laws.proofs.PlaceLemmas.{there_too}
use Rattle.run_laws.specs.Sessions.{KeepsAny, Session}
use Rattle.run_laws.proofs.PlaceLemmas.{some_at}
use Rattle.disk_runs.specs.Readings.{DisksServed}
use Rattle.serial_laws.specs.Steps.{KeepsOwn, Met, Rounded}
use Rattle.thread_laws.specs.Parts.{IsSoundBut}
use Rattle.thread_laws.specs.Segments.{CycledMany, Grouped, Paced, Renewed, RingsEnded, Served, WentOn, with_end}
use Rattle.thread_laws.proofs.LookLemmas.{Fits-many}
use Rattle.thread_laws.proofs.RestLemmas.{LeavesLosses, LeavesLosses-turned, turned_to}

-- each ring has the same blocks, and a bound that did not fall
abbrev pub RingsStay : List Sending → List Sending → Type 0
RingsStay before after = (recorder : ℕ) (ring : Sending) → slice_get after recorder ≡ Some ring → (old : Sending) × (slice_get before recorder ≡ Some old) × RingStays old ring

RingsStay-same : (rings : List Sending) → RingsStay rings rings
RingsStay-same rings recorder ring here = (ring, here, record { put = refl; capacity = refl; samples = refl; most = refl; least = le_refl ring.least })

Keeps-turned : (driver : Driver) (least set : ℕ) (rings : List Sending) (course : Course) → RingsStay driver.rings rings → Keeps driver course → Keeps (turned_to driver least set rings) course
Keeps-turned driver least set rings course stays keeps =
    let met : HasMetOthers driver (turned_to driver least driver.set rings) = record {
      rows = refl;
      rings = stays;
      disks = λ disk got here. (got, here, record { samples = refl; got = refl; done = refl });
      back = λ disk old here. (old, here, record { samples = refl; got = refl; done = refl });
      same = refl;
    } in
    let there : Keeps (turned_to driver least driver.set rings) course = Keeps-met driver (turned_to driver least driver.set rings) course met keeps in
    record { moments = there.moments; transport = there.transport; rings = there.rings; disks = there.disks; left = there.left; playback = there.playback; driven = there.driven }

module _ (given : Given) where
  KeepsOwn-from : (session after : Session) → after.script ≡ session.script → after.driver.scores ≡ session.driver.scores → KeepsAny given after.driver → KeepsOwn given session → KeepsOwn given after
  KeepsOwn-from session after script scores keeps kept = record {
    own = record {
      script = kept.own.script ∙ sym script;
      scores = kept.own.scores ∙ sym scores;
      channels = kept.own.channels ∙ ap (λ (s : Script). s.header.disks) (sym script);
    };
    keeps = keeps;
  }

  pub KeepsOwn-turned : (session after : Session) (least set : ℕ) (rings : List Sending) → after.script ≡ session.script → after.driver ≡ turned_to session.driver least set rings → RingsStay session.driver.rings rings
      → KeepsOwn given session → KeepsOwn given after
  KeepsOwn-turned session after least set rings script driver stays kept =
      let leaves : LeavesLosses session after = LeavesLosses-turned session after least set rings script driver in
      KeepsOwn-from session after script (ap (λ (d : Driver). d.scores) driver)
      (λ course over fits. subst (λ (d : Driver). Keeps d course) (sym driver) (Keeps-turned session.driver least set rings course stays (kept.keeps course over (leaves.fits course fits)))) kept

  -- the same driver
  KeepsOwn-same : (session after : Session) → after.script ≡ session.script → after.driver ≡ session.driver → KeepsOwn given session → KeepsOwn given after
  KeepsOwn-same session after script driver =
      KeepsOwn-turned session after session.driver.reading.least session.driver.set session.driver.rings script driver (RingsStay-same session.driver.rings)

  pub KeepsOwn-grouped : (done : ℕ) (session after : Session) → Grouped done session after → KeepsOwn given session → KeepsOwn given after
  KeepsOwn-grouped done session after grouped = KeepsOwn-same session after (ap (λ (s : Session). s.script) grouped.same) (ap (λ (s : Session). s.driver) grouped.same)

  pub KeepsOwn-went : (session after : Session) → WentOn session after → KeepsOwn given session → KeepsOwn given after
  KeepsOwn-went session after went = KeepsOwn-same session after (ap (λ (s : Session). s.script) went.same) (ap (λ (s : Session). s.driver) went.same)

  pub KeepsOwn-rounded : (session after : Session) → Rounded session after → KeepsOwn given session → KeepsOwn given after
  KeepsOwn-rounded session after rounded = KeepsOwn-same session after (ap (λ (s : Session). s.script) rounded.same) (ap (λ (s : Session). s.driver) rounded.same)

  pub KeepsOwn-served : (session after : Session) → Served session after → KeepsOwn given session → KeepsOwn given after
  KeepsOwn-served session after served = KeepsOwn-same session after (ap (λ (s : Session). s.script) served.same) (ap (λ (s : Session). s.driver) served.same)

  pub KeepsOwn-readers : (session after : Session) → DisksServed session after → KeepsOwn given session → KeepsOwn given after
  KeepsOwn-readers session after served = KeepsOwn-same session after (ap (λ (s : Session). s.script) served.same) (ap (λ (s : Session). s.driver) served.same)

  pub KeepsOwn-met : (session after : Session) → Met session after → KeepsOwn given session → KeepsOwn given after
  KeepsOwn-met session after met =
      KeepsOwn-turned session after (length session.desk.publishing.all) session.driver.set session.driver.rings (ap (λ (s : Session). s.script) met.same)
      (ap (λ (s : Session). s.driver) met.same ∙ ap (λ (r : Reading). record session.driver { reading = r }) met.meets.reader_is) (RingsStay-same session.driver.rings)

  pub KeepsOwn-paced : (session after : Session) → Paced session after → KeepsOwn given session → KeepsOwn given after
  KeepsOwn-paced session after paced =
      KeepsOwn-turned session after session.driver.reading.least paced.period session.driver.rings (ap (λ (s : Session). s.script) paced.same) (ap (λ (s : Session). s.driver) paced.same) (RingsStay-same session.driver.rings)

  pub KeepsOwn-ended : (session after : Session) → RingsEnded session after → KeepsOwn given session → KeepsOwn given after
  KeepsOwn-ended session after ended =
      KeepsOwn-turned session after session.driver.reading.least session.driver.set (map with_end session.driver.rings) (ap (λ (s : Session). s.script) ended.same) (ap (λ (s : Session). s.driver) ended.same)
      (λ recorder ring here.
      let old = slice_get-map with_end session.driver.rings recorder ring here in (
        old.0,
        old.1,
        record {
          put = sym (ap (λ (r : Sending). r.put) old.2);
          capacity = sym (ap (λ (r : Sending). r.capacity) old.2);
          samples = sym (ap (λ (r : Sending). r.samples) old.2);
          most = sym (ap (λ (r : Sending). r.most) old.2);
          least = let same : old.0.least ≡ ring.least = ap (λ (r : Sending). r.least) old.2 in omega (arith, same);
        },
      ))

  -- the meeting of a ring's ends finds that no look was above what is got
  pub KeepsOwn-renewed : (session after : Session) → IsSoundBut session → Renewed session after → KeepsOwn given session → KeepsOwn given after
  KeepsOwn-renewed session after sound renewed =
      KeepsOwn-turned session after session.driver.reading.least session.driver.set after.driver.rings (ap (λ (s : Session). s.script) renewed.same) (ap (λ (s : Session). s.driver) renewed.same)
      (λ recorder ring here.
      let old = there_too after.driver.rings session.driver.rings recorder ring (sym renewed.rings) here in
      let low = slice_get_within after.driver.rings recorder ring here in
      let rings : length session.driver.rings ≡ length session.getting = sound.one.rings.recorders ∙ ap (λ (s : Script). length s.header.recorders) sound.one.driver_script ∙ sym sound.one.recorder_ends in
      let got = some_at session.getting recorder (omega (arith, low, renewed.rings, rings)) in
      let got_after = some_at after.getting recorder (omega (arith, low, renewed.rings, rings, renewed.getting)) in
      let renews = renewed.each recorder old.0 ring got.0 got_after.0 old.1 got.1 here got_after.1 in (
        old.0,
        old.1,
        record {
          put = ap (λ (r : Sending). r.put) renews.sending_is;
          capacity = ap (λ (r : Sending). r.capacity) renews.sending_is;
          samples = ap (λ (r : Sending). r.samples) renews.sending_is;
          most = ap (λ (r : Sending). r.most) renews.sending_is;
          least = let least : ring.least ≡ length got.0.got = ap (λ (r : Sending). r.least) renews.sending_is in omega (arith, least, renews.met.looks_least);
        },
      ))

  scores-many : (many : ℕ) (driver after : Driver) → CyclesMany many driver after → after.scores ≡ driver.scores
  scores-many zero driver after same = ap (λ (d : Driver). d.scores) same
  scores-many (suc many) driver after cycles = cycles.2.steps.scores ∙ scores-many many driver cycles.0 cycles.1

  pub KeepsOwn-cycled : (many : ℕ) (session after : Session) → CycledMany many session after → KeepsOwn given session → KeepsOwn given after
  KeepsOwn-cycled many session after cycled kept =
      KeepsOwn-from session after (ap (λ (s : Session). s.script) cycled.same) (scores-many many session.driver after.driver cycled.cycles)
      (λ course over fits. Keeps-many many session.driver after.driver course cycled.cycles fits (kept.keeps course over (Fits-many many session.driver after.driver course cycled.cycles fits))) kept
