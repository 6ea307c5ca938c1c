-- Many cycles of a driver.
--     going-next, run-next      what a cycle leaves
--     may-next      when the next one may be run
--     stays-none, stays-ran, stays-unread, stays-unwritten      what stays behind no cycle, one that ran, and one that failed
--     rings-stepped, rings-none, rings-then      its rings
--     stays-then      and behind one more
--     by-fault      by the fault
--     reading-none, reading-then      the capture goes on
--     unread-rose, written-rose      a count that rose in the last cycle rose since the first
use Rattle.std.proofs.Common.{◌≡◌, ℕ, ◌+◌, ◌<◌, ◌≤◌, ℤ, Bool, false, List, [], ◌∷◌, All, length, get_or, slice_get, refl, sym, ◌∙◌, ap, subst, arith, length-append, Some, le_refl, le_trans}
use Rattle.std.proofs.lemmas.Option.{same_Some, slice_get-get_or, slice_get_within}
use Rattle.jack_host.specs.Causes.{Rose}
use Rattle.jack_types.specs.declared.replies.Overrun.{Overrun}
use Rattle.session_model.specs.Scripts.{Script, turns}
use Rattle.driver_words.specs.Rings.{Sending}
use Rattle.wave_pcm.specs.Readings.{Reading, SameReading}
use Rattle.driver_words.specs.Tapes.{SameFile, Tape}
use Rattle.wave_write.proofs.TapeLemmas.{same_file-trans}
use Rattle.cycle_driver.specs.declared.faults.CycleFault.{CycleFault as Fault}
use Rattle.cycle_driver.specs.declared.faults.CycleFault.TheVariants.{Read, Write}
use Rattle.driver_laws.specs.Cycling.{CyclesOnce, FailsAtRead, FailsAtWrite, MayCycle, PutsOne, StepsOnce}
use Rattle.driver_laws.specs.Cycling.PutsOne.{Idle, Went, Lacked}
use Rattle.driver_laws.specs.Drivers.{Driver, run, turn_of}
use Rattle.cycle_driver.specs.Runs.{AreNext, IsGoing, KeepsRings, SameRing, StaysInRun}

put-end : {k recorder : ℕ} {active : Bool} {samples : List ℤ} (before after : Sending) (losses losses_after : List Overrun) → PutsOne k recorder active samples before after losses losses_after → before.ended ≡ false → after.ended ≡ false
put-end before after losses losses_after (Idle idle same none) is = ap (λ (r : Sending). r.ended) same ∙ is
put-end before after losses losses_after (Went look on puts none) is = ap (λ (r : Sending). r.ended) puts.after_is ∙ is
put-end before after losses losses_after (Lacked look on full more) is = ap (λ (r : Sending). r.ended) full.after_is ∙ is

abbrev HasNoEnd : Driver → Type 0
HasNoEnd driver = All (λ (ring : Sending). ring.ended ≡ false) driver.rings

no_end-stepped : (driver after : Driver) → StepsOnce driver after → HasNoEnd driver → HasNoEnd after
no_end-stepped driver after steps none k d low =
    let here : k < length driver.rings = subst (λ n. k < n) steps.as_many low in
    let old : Sending = get_or driver.rings k d in let new : Sending = get_or after.rings k d in
    put-end old new _ _ (steps.rings k old new (slice_get-get_or driver.rings k d here) (slice_get-get_or after.rings k d low)) (none k d here)

put-same : {k recorder : ℕ} {active : Bool} {samples : List ℤ} (before after : Sending) (losses losses_after : List Overrun) → PutsOne k recorder active samples before after losses losses_after → SameRing before after
put-same before after losses losses_after (Idle idle same none) = record { table = ap (λ (r : Sending). r.table) same; samples = ap (λ (r : Sending). r.samples) same; most = ap (λ (r : Sending). r.most) same }
put-same before after losses losses_after (Went look on puts none) = record { table = ap (λ (r : Sending). r.table) puts.after_is; samples = ap (λ (r : Sending). r.samples) puts.after_is; most = ap (λ (r : Sending). r.most) puts.after_is }
put-same before after losses losses_after (Lacked look on full more) = record { table = ap (λ (r : Sending). r.table) full.after_is; samples = ap (λ (r : Sending). r.samples) full.after_is; most = ap (λ (r : Sending). r.most) full.after_is }

pub rings-stepped : (driver after : Driver) → StepsOnce driver after → KeepsRings driver after
rings-stepped driver after steps = record { as_many = steps.as_many; each = λ recorder ring ring_after was is. put-same ring ring_after _ _ (steps.rings recorder ring ring_after was is) }

pub rings-none : (driver after : Driver) → after.rings ≡ driver.rings → KeepsRings driver after
rings-none driver after same = record {
  as_many = ap length same;
  each = λ recorder ring ring_after was is.
      let one : ring_after ≡ ring = same_Some _ _ (sym is ∙ ap (λ (l : List Sending). slice_get l recorder) same ∙ was) in
      record { table = ap (λ (r : Sending). r.table) one; samples = ap (λ (r : Sending). r.samples) one; most = ap (λ (r : Sending). r.most) one };
}

rings-then : (first driver after : Driver) → KeepsRings first driver → KeepsRings driver after → KeepsRings first after
rings-then first driver after keeps more = record {
  as_many = more.as_many ∙ keeps.as_many;
  each = λ recorder ring ring_last was is.
      let low : recorder < length driver.rings = subst (λ n. recorder < n) (sym keeps.as_many) (slice_get_within first.rings recorder ring was) in
      let between : Sending = get_or driver.rings recorder ring in
      let there : slice_get driver.rings recorder ≡ Some between = slice_get-get_or driver.rings recorder ring low in
      let one = keeps.each recorder ring between was there in let two = more.each recorder between ring_last there is in
      record { table = two.table ∙ one.table; samples = two.samples ∙ one.samples; most = two.most ∙ one.most };
}

table-stepped : (driver after : Driver) → StepsOnce driver after → after.reading.table ≡ driver.reading.table
table-stepped driver after steps = ap (λ r. r.table) steps.begins.after_is ∙ ap (λ r. r.table) steps.takes.same

pub going-next : (driver after : Driver) → IsGoing driver → CyclesOnce driver after → IsGoing after
going-next driver after going once = record {
  playback = once.writes.playback;
  sound = once.writes.failed;
  rows = once.steps.own_rows;
  rings = once.steps.own_rings;
  no_end = no_end-stepped driver after once.steps going.no_end;
}

pub run-next : (driver after : Driver) → CyclesOnce driver after → run after ≡ run driver + 1
run-next driver after once = ap length once.steps.numbers ∙ length-append driver.numbers (once.steps.number ∷ [])

pub may-next : (first driver : Driver) (cycles t : ℕ) (freewheel : Bool) → AreNext cycles freewheel first → IsGoing driver → t < cycles → run driver ≡ run first + t → driver.script ≡ first.script → driver.set ≡ first.set → MayCycle driver freewheel
may-next first driver cycles t freewheel next going low count script set =
    let place : run driver + 1 ≡ run first + t + 1 = omega (arith, count) in
    let left = next.left in
    record {
      playback = going.playback;
      sound = going.sound;
      left = subst (λ (s : Script). run driver < length (turns s)) (sym script) (omega (arith, count, left, low));
      turn_is = (λ i. (turn_of (script i) (place i)).is_freewheel) ∙ next.kinds t low;
      period_is = (λ i. (turn_of (script i) (place i)).period) ∙ next.periods t low ∙ sym set;
      rows = going.rows;
      rings = going.rings;
      no_end = going.no_end;
    }

pub by-fault : {P : Type 0} (fault : Fault) → (fault ≡ Read → P) → (fault ≡ Write → P) → P
by-fault Read read write = read refl
by-fault Write read write = write refl

same_file : (tape : Tape) → SameFile tape tape
same_file tape = record { format = refl; name = refl; tells = refl; later = le_refl tape.faults }

pub stays-none : (driver : Driver) → IsGoing driver → StaysInRun driver driver
stays-none driver going = record {
  script = refl;
  scores = refl;
  set = refl;
  table = refl;
  rings = rings-none driver driver refl;
  no_end = going.no_end;
  playback = λ tape is. (tape, is, same_file tape);
}

pub stays-ran : (driver after : Driver) → IsGoing driver → CyclesOnce driver after → StaysInRun driver after
stays-ran driver after going once = record {
  script = once.steps.script;
  scores = once.steps.scores;
  set = once.steps.set;
  table = table-stepped driver after once.steps;
  rings = rings-stepped driver after once.steps;
  no_end = no_end-stepped driver after once.steps going.no_end;
  playback = λ tape is. (once.writes.playback.tape, once.writes.playback.attached, once.writes.file tape once.writes.playback.tape is once.writes.playback.attached);
}

pub stays-unread : (driver after : Driver) → IsGoing driver → FailsAtRead driver after → StaysInRun driver after
stays-unread driver after going fails =
    let rings : after.rings ≡ driver.rings = ap (λ (d : Driver). d.rings) fails.same in
    record {
      script = ap (λ (d : Driver). d.script) fails.same;
      scores = ap (λ (d : Driver). d.scores) fails.same;
      set = ap (λ (d : Driver). d.set) fails.same;
      table = ap (λ r. r.table) fails.begins.after_is ∙ ap (λ r. r.table) fails.takes.same;
      rings = rings-none driver after rings;
      no_end = subst (λ (l : List Sending). All (λ (ring : Sending). ring.ended ≡ false) l) (sym rings) going.no_end;
      playback = λ tape is. (tape, ap (λ (d : Driver). d.playback) fails.same ∙ is, same_file tape);
    }

pub stays-unwritten : (driver after : Driver) (tape tape_after : Tape) → IsGoing driver → FailsAtWrite driver after → driver.playback ≡ Some tape → after.playback ≡ Some tape_after → SameFile tape tape_after → StaysInRun driver after
stays-unwritten driver after tape tape_after going fails was is same = record {
  script = fails.steps.script;
  scores = fails.steps.scores;
  set = fails.steps.set;
  table = table-stepped driver after fails.steps;
  rings = rings-stepped driver after fails.steps;
  no_end = no_end-stepped driver after fails.steps going.no_end;
  playback = λ file other. (tape_after, is, subst (λ (t : Tape). SameFile t tape_after) (same_Some _ _ (sym was ∙ other)) same);
}

pub stays-then : (first driver after : Driver) → StaysInRun first driver → StaysInRun driver after → StaysInRun first after
stays-then first driver after stays more = record {
  script = more.script ∙ stays.script;
  scores = more.scores ∙ stays.scores;
  set = more.set ∙ stays.set;
  table = more.table ∙ stays.table;
  rings = rings-then first driver after stays.rings more.rings;
  no_end = more.no_end;
  playback = λ tape is. let between = stays.playback tape is in let last = more.playback between.0 between.1 in (last.0, last.1, same_file-trans tape between.0 last.0 between.2 last.2);
}

pub reading-none : (reading : Reading) → SameReading reading reading
reading-none reading = record { format = refl; size = refl; later = le_refl reading.faults; kept = λ sound. (sound, refl) }

pub reading-then : (before between after : Reading) → SameReading before between → SameReading between after → SameReading before after
reading-then before between after same more = record {
  format = more.format ∙ same.format;
  size = more.size ∙ same.size;
  later = le_trans same.later more.later;
  kept = λ sound. let last = more.kept sound in let first = same.kept last.0 in (first.0, last.1 ∙ first.1);
}

pub rose-later : (before between after : ℕ) → before ≤ between → Rose between after → Rose before after
rose-later before between after later rose = omega (arith, later, rose)

-- the playback of a driver whose file's count rose in its last cycle
pub written-rose : (first driver after : Driver) (tape tape_between tape_after tape_last : Tape) → StaysInRun first driver → first.playback ≡ Some tape → driver.playback ≡ Some tape_between → after.playback ≡ Some tape_after → after.playback ≡ Some tape_last
    → Rose tape_between.faults tape_after.faults → Rose tape.faults tape_last.faults
written-rose first driver after tape tape_between tape_after tape_last stays was between is last rose =
    let file = stays.playback tape was in
    let same : file.0 ≡ tape_between = same_Some _ _ (sym file.1 ∙ between) in
    let later : tape.faults ≤ tape_between.faults = subst (λ (t : Tape). tape.faults ≤ t.faults) same file.2.later in
    subst (λ (t : Tape). Rose tape.faults t.faults) (same_Some _ _ (sym is ∙ last)) (rose-later tape.faults tape_between.faults tape_after.faults later rose)
