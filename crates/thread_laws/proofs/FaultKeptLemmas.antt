-- What a course gives in so many cycles, behind cycles that were whole or failed.
--     IsNamed format playback      a playback is attached, of this format
--     HasSoFar course kept driver      the playback has a front of what the course gives in so many cycles, and the rings have what it keeps in them
--     Drives      what the driver's thread leaves
--     drives      that it does
use Rattle.std.proofs.Common.{◌≡◌, ℕ, zero, suc, ◌+◌, ◌≤◌, List, length, slice_get, None, Some, refl, sym, ◌∙◌, ap, subst, arith, ℤ}
use Rattle.std.specs.Prelude.{IfSome, Option}
use Rattle.std.proofs.lemmas.List.{length_push}
use Rattle.jack_types.specs.declared.files.Format.{Format}
use Rattle.session_model.specs.Courses.{Course}
use Rattle.driver_words.specs.Rings.{Sending}
use Rattle.driver_words.specs.Tapes.{SameFile, Tape}
use Rattle.wave_write.proofs.TapeLemmas.{samples-unfinished}
use Rattle.driver_laws.specs.Cycling.{CyclesMany, CyclesOnce, FailsAtRead, KeepsBut}
use Rattle.driver_laws.specs.Drivers.{Driver, overruns_on, run}
use Rattle.driver_laws.specs.Keeping.{Fits, HasTape, HasTapeFront, Keeps, kept_blocks, played_so_far}
use Rattle.driver_laws.proofs.FitLemmas.{Fits-earlier, Fits-failed, Keeps-many}
use Rattle.run_laws.specs.Sessions.{Session}
use Rattle.thread_laws.specs.Faults.{AtCapture, AtPlayback, Drove, DroveAll}
use Rattle.thread_laws.proofs.OwnLemmas.{Fits-many, IsOf, IsOf-failed, IsOf-many, IsOf-stepped}

-- ---- the playback's format

pub record IsNamed (format : Format) (playback : Option Tape) : Type 0 where
  pub tape : Tape
  pub attached : playback ≡ Some tape
  pub format_is : tape.format ≡ format

pub IsNamed-once : (format : Format) (driver after : Driver) → CyclesOnce driver after → IsNamed format driver.playback → IsNamed format after.playback
IsNamed-once format driver after cycles named = record {
  tape = cycles.writes.playback.tape;
  attached = cycles.writes.playback.attached;
  format_is = (cycles.writes.file named.tape cycles.writes.playback.tape named.attached cycles.writes.playback.attached).format ∙ named.format_is;
}

pub IsNamed-many : (format : Format) (n : ℕ) (driver after : Driver) → CyclesMany n driver after → IsNamed format driver.playback → IsNamed format after.playback
IsNamed-many format zero driver after same named = subst (λ (d : Driver). IsNamed format d.playback) (sym same) named
IsNamed-many format (suc n) driver after cycles named = IsNamed-once format cycles.0 after cycles.2 (IsNamed-many format n driver cycles.0 cycles.1 named)

-- where one is attached behind, it is of the format
abbrev pub IsOwn : Format → Option Tape → Type 0
IsOwn format playback = IfSome playback (λ (tape : Tape). tape.format ≡ format)

pub own-named : (format : Format) (playback : Option Tape) → IsNamed format playback → IsOwn format playback
own-named format None named = tt
own-named format (Some tape) named = subst (IsOwn format) (sym named.attached) named.format_is

pub own-stays : (format : Format) (playback after : Option Tape) → ((tape tape_after : Tape) → playback ≡ Some tape → after ≡ Some tape_after → SameFile tape tape_after) → IsNamed format playback → IsOwn format after
own-stays format playback None stays named = tt
own-stays format playback (Some tape) stays named = (stays named.tape tape named.attached refl).format ∙ named.format_is

-- ---- so many cycles

pub record HasSoFar (course : Course) (kept : ℕ) (driver : Driver) : Type 0 where
  pub playback : HasTapeFront driver.playback (played_so_far course kept)
  pub rings : (recorder : ℕ) (ring : Sending) → slice_get driver.rings recorder ≡ Some ring → ring.put ≡ kept_blocks course (overruns_on driver.overruns recorder) recorder kept

front-tape : (playback : Option Tape) (samples : List ℤ) → HasTape playback samples → HasTapeFront playback samples
front-tape None samples has = tt
front-tape (Some tape) samples has = samples-unfinished tape samples has

pub HasSoFar-keeps : (course : Course) (driver : Driver) → Keeps driver course → HasSoFar course (run driver) driver
HasSoFar-keeps course driver keeps = record {
  playback = front-tape driver.playback (played_so_far course (run driver)) keeps.playback;
  rings = λ recorder ring there. (keeps.rings recorder ring there).put;
}

pub HasSoFar-but : (course : Course) (driver : Driver) → KeepsBut driver course → HasSoFar course (run driver) driver
HasSoFar-but course driver keeps = record {
  playback = keeps.front;
  rings = λ recorder ring there. (keeps.rest.rings recorder ring there).put;
}

-- a cycle that failed at the capture changed neither
pub HasSoFar-failed : (course : Course) (kept : ℕ) (driver after : Driver) → FailsAtRead driver after → HasSoFar course kept driver → HasSoFar course kept after
HasSoFar-failed course kept driver after fails has = subst (HasSoFar course kept) (sym fails.same) (record { playback = has.playback; rings = has.rings })

-- ---- what the driver's thread leaves

pub record Drives (session : Session) (format : Format) (kept : ℕ) (driver after : Driver) : Type 0 where
  pub of : IsOf session after
  pub own : IsOwn format after.playback
  pub low : kept ≤ run after
  pub near : run after ≤ kept + 1
  pub fits : (course : Course) → Fits after course → Fits driver course
  pub so_far : (course : Course) → Fits after course → Keeps driver course → HasSoFar course kept after

ran-failed : (driver after : Driver) → FailsAtRead driver after → run after ≡ run driver + 1
ran-failed driver after fails = ap length fails.numbers ∙ length_push driver.numbers fails.number

pub drives : (base : Session) (format : Format) (many kept : ℕ) (session after : Session) → IsOf base session.driver → IsNamed format session.driver.playback → Drove many kept session after → Drives base format kept session.driver after.driver
drives base format many kept session after is named (DroveAll count cycles) = record {
  of = IsOf-many base many session.driver after.driver cycles.cycles is;
  own = own-named format after.driver.playback (IsNamed-many format many session.driver after.driver cycles.cycles named);
  low = omega (arith, count);
  near = omega (arith, count);
  fits = λ course fits. Fits-many many session.driver after.driver course cycles.cycles fits;
  so_far = λ course fits keeps. subst (λ n. HasSoFar course n after.driver) (sym count) (HasSoFar-keeps course after.driver (Keeps-many many session.driver after.driver course cycles.cycles fits keeps));
}
drives base format many kept session after is named (AtCapture whole before fewer count cycles fails same) =
    let one : run after.driver ≡ run before.driver + 1 = ran-failed before.driver after.driver fails in
    let stays : IsNamed format before.driver.playback = IsNamed-many format whole session.driver before.driver cycles.cycles named in
    record {
      of = IsOf-failed base before.driver after.driver fails (IsOf-many base whole session.driver before.driver cycles.cycles is);
      own = subst (IsOwn format) (sym (ap (λ (d : Driver). d.playback) fails.same)) (own-named format before.driver.playback stays);
      low = omega (arith, count, one);
      near = omega (arith, count, one);
      fits = λ course fits. Fits-many whole session.driver before.driver course cycles.cycles (Fits-failed before.driver after.driver course fails fits);
      so_far = λ course fits keeps.
          let kept_before : Keeps before.driver course = Keeps-many whole session.driver before.driver course cycles.cycles (Fits-failed before.driver after.driver course fails fits) keeps in
          HasSoFar-failed course kept before.driver after.driver fails (subst (λ n. HasSoFar course n before.driver) (sym count) (HasSoFar-keeps course before.driver kept_before));
    }
drives base format many kept session after is named (AtPlayback whole before fewer count cycles fails stays same) = record {
  of = IsOf-stepped base before.driver after.driver fails.steps (IsOf-many base whole session.driver before.driver cycles.cycles is);
  own = own-stays format before.driver.playback after.driver.playback stays (IsNamed-many format whole session.driver before.driver cycles.cycles named);
  low = omega (arith, count);
  near = omega (arith, count);
  fits = λ course fits. Fits-many whole session.driver before.driver course cycles.cycles (Fits-earlier before.driver after.driver course fails.steps fits);
  so_far = λ course fits keeps.
      let kept_before : Keeps before.driver course = Keeps-many whole session.driver before.driver course cycles.cycles (Fits-earlier before.driver after.driver course fails.steps fits) keeps in
      subst (λ n. HasSoFar course n after.driver) (sym count) (HasSoFar-but course after.driver (fails.keeps course fits kept_before));
}
