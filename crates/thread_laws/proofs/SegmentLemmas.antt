-- The recorders' rings behind a segment of threads mode.
--     RingsAtRest given session      each is at rest
--     Joins-run, Joins-wheel      what the join tells of each
--     RingsAtRest-segment      so they are at rest behind the whole phase
--     RingsAtRest-phase      told of what stands between two segments
use Rattle.std.proofs.Common.{◌≡◌, inr, ℕ, ◌+◌, ◌<◌, ◌≤◌, Bool, length, slice_get, Some, IsSome, sym, ◌∙◌, ap, subst, arith}
use Rattle.std.proofs.lemmas.List.{length-map}
use Rattle.std.proofs.lemmas.Option.{slice_get_within}
use Rattle.driver_words.specs.Rings.{Sending}
use Rattle.session_model.specs.Explanations.{Given}
use Rattle.session_model.specs.Scripts.{Script}
use Rattle.driver_laws.specs.Drivers.{run}
use Rattle.driver_laws.specs.Segments.{cycles_before}
use Rattle.driver_laws.proofs.PlaceLemmas.{there_too}
use Rattle.run_laws.specs.Runs.{AtPhase}
use Rattle.run_laws.specs.Sessions.{IsFor, KeepsAny, Session}
use Rattle.run_laws.proofs.PlaceLemmas.{some_at}
use Rattle.disk_runs.specs.Readings.{DisksBroke, DisksServed}
use Rattle.disk_runs.proofs.PlaceLemmas.{long}
use Rattle.disk_runs.proofs.StepLemmas.{tried-read, tried-told}
use Rattle.serial_laws.specs.Steps.{IsSettled}
use Rattle.serial_laws.proofs.GiveLemmas.{many-rings}
use Rattle.thread_laws.specs.Rests.{ComesBehind, RingsAtRest}
use Rattle.thread_laws.specs.Segments.{Joined, Renewed, Rests, Runs, Served, ThreadSegment, WheeledMany, Wheels as Wheeled, CycledMany, RingsEnded, with_end}
use Rattle.thread_laws.proofs.DiskLemmas.{AsMany, AsMany-left, LeavesRings-readers, LeavesRings-tried, many-after}
use Rattle.thread_laws.proofs.JoinLemmas.{HasEach-cycled, HasEach-ended, IsGot-served, LeavesLosses-ended, LeavesLosses-served, Wheels, Wheels-many}
use Rattle.thread_laws.proofs.LookLemmas.{disks-many, rings-many}
use Rattle.thread_laws.proofs.PartLemmas.{IsSettled-grouped, IsSettled-met, IsSettled-paced}
use Rattle.thread_laws.proofs.PassLemmas.{HasEach, HasEach-left, HasEach-sound, IsGot, IsGot-left, LeavesDisks, LeavesDisks-both, LeavesDisks-met, LeavesDisks-renewed, LeavesDisks-rounded, LeavesDisks-went, LeavesRings, LeavesRings-both, LeavesRings-grouped, LeavesRings-met, LeavesRings-paced, LeavesRings-rounded, LeavesRings-went}
use Rattle.thread_laws.proofs.RestLemmas.{ComesBehind-left, ComesBehind-many, LeavesLosses, LeavesLosses-both, LeavesLosses-turned, RingAtRest-left, RingAtRest-renewed}

pub IsGot-rest : (given : Given) (session : Session) → RingsAtRest given session → IsGot session
IsGot-rest given session rest recorder ring got here there = inr (rest recorder ring got here there).all_got

-- what the join has to tell of each ring
pub record Joins (given : Given) (session served : Session) : Type 0 where
  pub got : IsGot served
  pub rings : length served.driver.rings ≡ length session.driver.rings
  pub many : AsMany served
  pub behind : (recorder : ℕ) → recorder < length session.driver.rings → ComesBehind given served recorder

-- readers in threads of their own leave the rings of the recorders
Joins-readers : (given : Given) (session served after : Session) → DisksServed served after → Joins given session served → Joins given session after
Joins-readers given session served after readers joins =
    let leaves : LeavesRings served after = LeavesRings-readers served after readers in record {
      got = IsGot-left served after leaves joins.got;
      rings = ap length leaves.rings ∙ joins.rings;
      many = ap (λ (s : Session). length s.driver.disks) readers.same ∙ joins.many ∙ sym readers.players;
      behind = λ recorder low. ComesBehind-left given served after recorder leaves.losses (joins.behind recorder low);
    }

module _ (given : Given) (session : Session) (settled : IsSettled session) (rest : RingsAtRest given session) where
  -- what is known of each ring when the segment begins
  begins : (recorder : ℕ) → recorder < length session.driver.rings → (ring : Sending) × (slice_get session.driver.rings recorder ≡ Some ring) × (ring.least ≡ length ring.put) × ComesBehind given session recorder
  begins recorder low =
      let ring = some_at session.driver.rings recorder low in
      let each : HasEach session = HasEach-sound session settled.sound in
      let got = some_at session.getting recorder (omega (arith, low, each.getting)) in
      let at = rest recorder ring.0 got.0 ring.1 got.1 in
      (ring.0, ring.1, at.looks, at.behind)

  module _ (done many : ℕ) (own : IsFor session given) (keeps : KeepsAny given session.driver) (start : run session.driver ≡ cycles_before session.script done)
      (within : run session.driver + many ≤ cycles_before session.script (done + 1)) where
    -- the cycles of a `run` segment, its rings' ends, and what the recorders got
    Joins-run : (filled cycled ended served : Session) → LeavesRings session filled → AsMany filled → CycledMany many filled cycled → RingsEnded cycled ended → Served ended served → Joins given session served
    Joins-run filled cycled ended served leaves as_many cycles ends serves = record {
      got = IsGot-served ended served (HasEach-ended cycled ended ends (HasEach-cycled many filled cycled cycles (HasEach-left session filled leaves (HasEach-sound session settled.sound)))) serves;
      rings = ap (λ (s : Session). length s.driver.rings) serves.same ∙ ap (λ (s : Session). length s.driver.rings) ends.same ∙ length-map cycled.driver.rings with_end
          ∙ rings-many many filled.driver cycled.driver cycles.cycles ∙ ap length leaves.rings;
      many = ap (λ (s : Session). length s.driver.disks) serves.same ∙ ap (λ (s : Session). length s.driver.disks) ends.same ∙ disks-many many filled.driver cycled.driver cycles.cycles ∙ as_many
          ∙ sym (ap (λ (s : Session). length s.players) serves.same ∙ ap (λ (s : Session). length s.players) ends.same ∙ ap (λ (s : Session). length s.players) cycles.same);
      behind = λ recorder low.
          let first = begins recorder low in
          ComesBehind-left given ended served recorder (LeavesLosses-served ended served serves)
          (ComesBehind-left given cycled ended recorder (LeavesLosses-ended cycled ended ends)
          (ComesBehind-many given session filled cycled done many recorder first.0 own keeps start within leaves.losses leaves.rings leaves.numbers cycles first.1 first.2 first.3));
    }

    module _ (paced : Session) (settled-paced : IsSettled paced) (leaves : LeavesRings session paced) where
      -- the cycles of a freewheel segment
      Joins-wheel : (served : Session) → WheeledMany many paced served → Joins given session served
      Joins-wheel served wheeled =
          let wheels : Wheels paced served = Wheels-many many paced served settled-paced wheeled in
          record {
            got = wheels.got (IsGot-left session paced leaves (IsGot-rest given session rest));
            rings = many-rings served wheels.settled.sound ∙ ap (λ (s : Script). length s.header.recorders) (wheels.losses.script ∙ leaves.losses.script) ∙ sym (many-rings session settled.sound);
            many = long served wheels.settled.sound.one;
            behind = λ recorder low. ComesBehind-left given session served recorder (LeavesLosses-both session paced served leaves.losses wheels.losses) (begins recorder low).3;
          }

      Joins-joined : (freewheel : Bool) (served : Session) → Joined many freewheel paced served → Joins given session served
      Joins-joined freewheel served (Rests none same) = subst (Joins given session) (sym same) (record {
        got = IsGot-left session paced leaves (IsGot-rest given session rest);
        rings = ap length leaves.rings;
        many = long paced settled-paced.sound.one;
        behind = λ recorder low. ComesBehind-left given session paced recorder leaves.losses (begins recorder low).3;
      })
      Joins-joined freewheel served (Runs filled cycled ended got is reads cycles ends serves readers going) =
          let ring : ℕ = paced.script.header.ring in
          let as_many : AsMany paced = long paced settled-paced.sound.one in
          let tried : DisksBroke ring paced filled = tried-read ring paced filled reads in
          Joins-readers given session got served readers
          (Joins-run filled cycled ended got (LeavesRings-both session paced filled leaves (LeavesRings-tried ring paced filled as_many tried)) (many-after ring paced filled as_many tried) cycles ends serves)
      Joins-joined freewheel served (Wheeled is wheeled) = Joins-wheel served wheeled

  pub RingsAtRest-segment : (done many : ℕ) (freewheel : Bool) (after : Session) → IsFor session given → KeepsAny given session.driver → run session.driver ≡ cycles_before session.script done
      → run session.driver + many ≤ cycles_before session.script (done + 1) → ThreadSegment done many freewheel session after → RingsAtRest given after
  RingsAtRest-segment done many freewheel after own keeps start within segment recorder ring got here there =
      let grouped = segment.grouped in
      let met = segment.met in
      let paced = segment.paced in
      let served = segment.served in
      let gone = segment.gone in
      let heard = segment.heard in
      let filled = segment.filled in
      let renewed = segment.renewed in
      let told = segment.told in
      let front : LeavesRings session paced =
      LeavesRings-both session met paced (LeavesRings-both session grouped met (LeavesRings-grouped done session grouped segment.groups) (LeavesRings-met grouped met segment.meets)) (LeavesRings-paced met paced segment.paces) in
      let settled-paced : IsSettled paced = IsSettled-paced met paced (IsSettled-met grouped met (IsSettled-grouped done session grouped settled segment.groups) segment.meets) segment.paces in
      let joins : Joins given session served = Joins-joined done many own keeps start within paced settled-paced front freewheel served segment.joins in
      let back : LeavesRings served filled =
      LeavesRings-both served heard filled (LeavesRings-both served gone heard (LeavesRings-went served gone segment.goes) (LeavesRings-met gone heard segment.hears)) (LeavesRings-rounded heard filled segment.fills) in
      let disks : LeavesDisks served renewed =
      LeavesDisks-both served filled renewed
      (LeavesDisks-both served heard filled (LeavesDisks-both served gone heard (LeavesDisks-went served gone segment.goes) (LeavesDisks-met gone heard segment.hears)) (LeavesDisks-rounded heard filled segment.fills))
      (LeavesDisks-renewed filled renewed segment.renews) in
      let tells : LeavesRings renewed told = LeavesRings-tried 0 renewed told (AsMany-left served renewed disks joins.many) (tried-told 0 renewed told segment.tells) in
      let end : LeavesRings renewed after = LeavesRings-both renewed told after tells (LeavesRings-met told after segment.meets_again) in
      let renews : Renewed filled renewed = segment.renews in
      let losses : LeavesLosses filled renewed =
      LeavesLosses-turned filled renewed filled.driver.reading.least filled.driver.set renewed.driver.rings (ap (λ (s : Session). s.script) renews.same) (ap (λ (s : Session). s.driver) renews.same) in
      let ring_there : slice_get renewed.driver.rings recorder ≡ Some ring = ap (λ rings. slice_get rings recorder) (sym end.rings) ∙ here in
      let got_there : slice_get renewed.getting recorder ≡ Some got = ap (λ gets. slice_get gets recorder) (sym end.getting) ∙ there in
      let old = there_too renewed.driver.rings filled.driver.rings recorder ring (sym renews.rings) ring_there in
      let old_got = there_too renewed.getting filled.getting recorder got (sym renews.getting) got_there in
      let low : recorder < length filled.driver.rings = slice_get_within filled.driver.rings recorder old.0 old.1 in
      let size : length filled.driver.rings ≡ length session.driver.rings = ap length back.rings ∙ joins.rings in
      let behind : ComesBehind given renewed recorder =
      ComesBehind-left given served renewed recorder (LeavesLosses-both served filled renewed back.losses losses) (joins.behind recorder (omega (arith, low, size))) in
      RingAtRest-left given renewed after recorder ring got end.losses
      (RingAtRest-renewed given renewed recorder old.0 ring old_got.0 got (renews.each recorder old.0 ring old_got.0 got old.1 old_got.1 ring_there got_there) (IsGot-left served filled back joins.got recorder old.0 old_got.0 old.1 old_got.1) behind)

-- what stands between two segments, behind one more
pub RingsAtRest-phase : (given : Given) (session after : Session) (done many : ℕ) (freewheel : Bool) → IsSome session.script.header.threads → IsSettled session → AtPhase session given done
    → run session.driver + many ≤ cycles_before session.script (done + 1) → ThreadSegment done many freewheel session after → RingsAtRest given after
RingsAtRest-phase given session after done many freewheel threads settled at within segment =
    RingsAtRest-segment given session settled (at.rings threads) done many freewheel after at.given_kept.own at.given_kept.keeps at.ran.cycles within segment
