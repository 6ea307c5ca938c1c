-- The underruns of a segment whose rings were filled before it.
--     MissesBehind-many      behind its cycles
--     MissesBehind-met      and behind a meeting
use Rattle.std.proofs.Common.{◌≡◌, ℕ, zero, suc, ◌+◌, ◌<◌, ◌≤◌, ◌⊎◌, inl, inr, List, ◌++◌, length, slice_get, All, Some, refl, sym, ◌∙◌, ap, subst, arith}
use Rattle.std.proofs.lemmas.Bool.{cases_lt}
use Rattle.std.proofs.lemmas.List.Elements.{All-append, All-nil}
use Rattle.std.proofs.lemmas.Option.{same_Some}
use Rattle.jack_types.specs.declared.replies.Underrun.{Underrun}
use Rattle.session_model.specs.Courses.{Course, is_disk_active}
use Rattle.session_model.specs.Disks.{IsBehindRing, file_blocks, segment_start}
use Rattle.session_model.specs.Explanations.{Given}
use Rattle.session_model.specs.Scripts.{Script}
use Rattle.session_model.specs.State.{State}
use Rattle.driver_words.specs.Rings.{Getting}
use Rattle.disk_turns.specs.Segments.{GetsMany, IsFilled}
use Rattle.disk_turns.proofs.SegmentLemmas.{behind-ring}
use Rattle.driver_laws.specs.Cycling.{CyclesMany, GetsOne, HasMetOthers}
use Rattle.driver_laws.specs.Drivers.{Driver, graph_now, has_disk, run, underruns_on}
use Rattle.driver_laws.specs.Keeping.{Fits}
use Rattle.driver_laws.specs.Segments.{cycles_before}
use Rattle.driver_laws.proofs.FitLemmas.{Fits-earlier}
use Rattle.driver_laws.proofs.PlaceLemmas.{there_too}
use Rattle.driver_laws.proofs.StepLemmas.{ran}
use Rattle.run_laws.specs.Runs.{MissesBehindRing}
use Rattle.run_laws.specs.Sessions.{IsFor, IsOne, KeepsAny, Session}
use Rattle.run_laws.proofs.PlaceLemmas.{some_at}
use Rattle.disk_runs.specs.Rests.{DiskFilled, DisksFilled}
use Rattle.disk_runs.proofs.CountLemmas.{GraphOfRow}
use Rattle.disk_runs.proofs.MissLemmas.{own-more}
use Rattle.disk_runs.proofs.PlaceLemmas.{as-many}
use Rattle.disk_runs.proofs.SerialLemmas.{none_beyond}

-- a segment begins behind the cycles of the earlier phases
abbrev pub StartsBehind : Type 0
StartsBehind = (course : Course) (phase k : ℕ) → cycles_before course.script phase < k → k ≤ cycles_before course.script (phase + 1) → segment_start course k ≡ cycles_before course.script phase + 1

-- ---- many cycles

run-many : (many : ℕ) (driver after : Driver) → CyclesMany many driver after → run after ≡ run driver + many
run-many zero driver after same = let e : run after ≡ run driver = ap run same in omega (arith, e)
run-many (suc many) driver after cycles =
    let front : run cycles.0 ≡ run driver + many = run-many many driver cycles.0 cycles.1 in
    let last : run after ≡ suc (run cycles.0) = ran cycles.0 after cycles.2.steps in
    omega (arith, front, last)

long-many : (many : ℕ) (driver after : Driver) → CyclesMany many driver after → length after.disks ≡ length driver.disks
long-many zero driver after same = ap (λ (d : Driver). length d.disks) same
long-many (suc many) driver after cycles = cycles.2.steps.as_many_disks ∙ long-many many driver cycles.0 cycles.1

own-many : (count many : ℕ) (driver after : Driver) → CyclesMany many driver after → length driver.disks ≡ count → All (λ (u : Underrun). u.disk < count) driver.underruns → All (λ (u : Underrun). u.disk < count) after.underruns
own-many count zero driver after same long own = subst (λ (d : Driver). All (λ (u : Underrun). u.disk < count) d.underruns) (sym same) own
own-many count (suc many) driver after cycles long own =
    own-more count cycles.0 after cycles.2.steps (long-many many driver cycles.0 cycles.1 ∙ long) (own-many count many driver cycles.0 cycles.1 long own)

-- what fits behind them fits before
fits-many : (many : ℕ) (driver after : Driver) (course : Course) → CyclesMany many driver after → Fits after course → Fits driver course
fits-many zero driver after course same fits = subst (λ (d : Driver). Fits d course) same fits
fits-many (suc many) driver after course cycles fits = fits-many many driver cycles.0 course cycles.1 (Fits-earlier cycles.0 after course cycles.2.steps fits)

-- each cycle gets a block, or misses it, where the course has an active player
gets-many : GraphOfRow → (course : Course) (disk many : ℕ) (driver after : Driver) (got got_after : Getting) → CyclesMany many driver after → Fits after course
    → slice_get driver.disks disk ≡ Some got → slice_get after.disks disk ≡ Some got_after
    → GetsMany (run driver + 1) disk (is_disk_active course disk) many got got_after (underruns_on driver.underruns disk) (underruns_on after.underruns disk)
gets-many graph_of course disk zero driver after got got_after same fits here there =
    (same_Some got_after got (sym there ∙ ap (λ (d : Driver). slice_get d.disks disk) same ∙ here), ap (λ (d : Driver). underruns_on d.underruns disk) same)
gets-many graph_of course disk (suc many) driver after got got_after cycles fits here there =
    let between : (between : Getting) × (slice_get cycles.0.disks disk ≡ Some between) = there_too after.disks cycles.0.disks disk got_after (sym cycles.2.steps.as_many_disks) there in
    let front = gets-many graph_of course disk many driver cycles.0 got between.0 cycles.1 (Fits-earlier cycles.0 after course cycles.2.steps fits) here between.1 in
    let cycle : run cycles.0 + 1 ≡ run driver + 1 + many = (let e : run cycles.0 ≡ run driver + many = run-many many driver cycles.0 cycles.1 in omega (arith, e)) in
    let active : has_disk (graph_now after) disk ≡ is_disk_active course disk (run cycles.0 + 1) = ap (λ (s : State). has_disk s disk) (sym (graph_of cycles.0 after course cycles.2.steps fits)) in
    let last : GetsOne (run cycles.0 + 1) disk (is_disk_active course disk (run cycles.0 + 1)) between.0 got_after (underruns_on cycles.0.underruns disk) (underruns_on after.underruns disk)
    = subst (λ b. GetsOne (run cycles.0 + 1) disk b between.0 got_after (underruns_on cycles.0.underruns disk) (underruns_on after.underruns disk)) active (cycles.2.steps.disks disk between.0 got_after between.1 there) in (
      between.0,
      underruns_on cycles.0.underruns disk,
      front,
      subst (λ k. GetsOne k disk (is_disk_active course disk k) between.0 got_after (underruns_on cycles.0.underruns disk) (underruns_on after.underruns disk)) cycle last,
    )

-- ---- a segment

module _ (graph_of : GraphOfRow) (starts : StartsBehind) (given : Given) (phase many : ℕ) (session after : Session) (one : IsOne session) (own : IsFor session given) (kept : KeepsAny given session.driver) (filled : DisksFilled given session)
    (first : run session.driver ≡ cycles_before session.script phase) (last : cycles_before session.script phase + many ≤ cycles_before session.script (phase + 1)) (cycles : CyclesMany many session.driver after.driver) where
  pub MissesBehind-many : (disk : ℕ) → MissesBehindRing given session disk → MissesBehindRing given after disk
  MissesBehind-many disk old course over fits = by (cases_lt disk (length session.driver.disks))
    where
      before : Fits session.driver course
      before = fits-many many session.driver after.driver course cycles fits

      script : course.script ≡ session.script
      script = over.script ∙ own.script

      start : (k : ℕ) → run session.driver < k → k ≤ run session.driver + many → segment_start course k ≡ run session.driver + 1
      start k low high =
          let front : run session.driver ≡ cycles_before course.script phase = first ∙ ap (λ (s : Script). cycles_before s phase) (sym script) in
          let next : cycles_before course.script phase + many ≤ cycles_before course.script (phase + 1) = subst (λ (s : Script). cycles_before s phase + many ≤ cycles_before s (phase + 1)) (sym script) last in
          starts course phase k (omega (arith, front, low)) (omega (arith, front, next, high)) ∙ ap (λ n. n + 1) (sym front)

      by : (disk < length session.driver.disks) ⊎ (length session.driver.disks ≤ disk) → All (IsBehindRing course disk) (underruns_on after.driver.underruns disk)
      by (inl low) =
          let got = some_at session.driver.disks disk low in
          let got_after : (got : Getting) × (slice_get after.driver.disks disk ≡ Some got) = there_too session.driver.disks after.driver.disks disk got.0 (long-many many session.driver after.driver cycles) got.1 in
          let full : DiskFilled given session disk got.0 = filled disk got.0 got.1 in
          let ring : session.script.header.ring ≡ course.script.header.ring = ap (λ (s : Script). s.header.ring) (sym script) in
          let all : (more : List Underrun) × (underruns_on after.driver.underruns disk ≡ underruns_on session.driver.underruns disk ++ more) × All (IsBehindRing course disk) more
          = behind-ring course disk (run session.driver) many (is_disk_active course disk) got.0 got_after.0 (underruns_on session.driver.underruns disk) (underruns_on after.driver.underruns disk)
          ((kept course over before).disks disk got.0 got.1) (subst (λ n. IsFilled n got.0) ring full.filled)
          (λ going. subst (λ n. length got.0.got + n < file_blocks course disk) ring (full.goes_on going course over)) start
          (gets-many graph_of course disk many session.driver after.driver got.0 got_after.0 cycles fits got.1 got_after.1) in
          subst (All (IsBehindRing course disk)) (sym all.1) (All-append (IsBehindRing course disk) (underruns_on session.driver.underruns disk) all.0 (old course over before) all.2)
      by (inr high) =
          subst (All (IsBehindRing course disk)) (sym (none_beyond (length session.driver.disks) disk high after.driver.underruns
          (own-many (length session.driver.disks) many session.driver after.driver cycles refl (subst (λ n. All (λ (u : Underrun). u.disk < n) session.driver.underruns) (sym (as-many session one)) one.own_disks))))
          (All-nil (IsBehindRing course disk))

pub MissesBehind-met : ((driver behind : Driver) (course : Course) → HasMetOthers driver behind → Fits behind course → Fits driver course)
    → (given : Given) (session after : Session) → HasMetOthers session.driver after.driver → (disk : ℕ) → MissesBehindRing given session disk → MissesBehindRing given after disk
MissesBehind-met fits given session after met disk old course over fitting =
    subst (All (IsBehindRing course disk)) (ap (λ (d : Driver). underruns_on d.underruns disk) (sym met.same)) (old course over (fits session.driver after.driver course met fitting))
