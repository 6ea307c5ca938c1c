-- A cycle that was played.
--     SameFile-self      a file is the same as itself
--     writes-nothing, writes-file      what a freewheel cycle, and a `run` cycle, did to the playback
--     file-next, file-stays      the playback is no longer than the cycles run
--     wide-of      a script's width is one that a file may have
--     file-fits      and the next period has room in it
use Rattle.std.proofs.Common.{◌≡◌, ℕ, zero, suc, ◌+◌, ◌*◌, ◌<◌, ◌≤◌, Bool, true, false, [], ◌∷◌, Contains, Some, refl, sym, ◌∙◌, ap, subst, arith, add-mul, mul-le-mul_right, true≢false}
use Rattle.session_model.specs.Samples.{width}
use Rattle.session_model.specs.Scripts.{Script}
use Rattle.session_model.specs.WaveFiles.{is_width}
use Rattle.session_model.specs.Kinds.{Sound}
use Rattle.client_kinds.specs.Scores.{Score}
use Rattle.wave_laws.proofs.WaveSamples.{by_width}
use Rattle.driver_words.specs.Tapes.{SameFile, Tape}
use Rattle.driver_laws.specs.Cycling.{MayCycle, WritesOnce}
use Rattle.driver_laws.specs.Drivers.{frames_run}
use Rattle.cycle_works.specs.Gears.{Gear, driver_of}
use Rattle.cycle_works.proofs.CycleLemmas.{later, samples-next}
use Rattle.cycle_driver.specs.Insides.{IsOwnFile}
use Rattle.cycle_driver.specs.Openings.{playback_format}

pub SameFile-self : (tape : Tape) → SameFile tape tape
SameFile-self tape = record { format = refl; name = refl; tells = refl; later = omega arith }

pub some_is : {a b : Tape} → Some a ≡ Some b → a ≡ b
some_is e = cc

module _ (sounding : Score → Sound) (before after : Gear) (freewheel : Bool) (may : MayCycle (driver_of sounding before) freewheel) (failed : after.failed ≡ before.failed) where
  pub writes-nothing : after.playback ≡ before.playback → WritesOnce (driver_of sounding before) (driver_of sounding after)
  writes-nothing same = record {
    unwritten = λ e. same;
    playback = record { tape = may.playback.tape; attached = same ∙ may.playback.attached; going = may.playback.going };
    file = λ tape tape_after e f. subst (SameFile tape) (some_is (sym e ∙ sym same ∙ f)) (SameFile-self tape);
    failed = failed ∙ may.sound;
  }

  pub writes-file : freewheel ≡ false → (file file_after : Tape) → before.playback ≡ Some file → after.playback ≡ Some file_after → SameFile file file_after → file_after.stopped ≡ false → WritesOnce (driver_of sounding before) (driver_of sounding after)
  writes-file run file file_after was is same going = record {
    unwritten = λ e. absurd (true≢false (sym e ∙ may.turn_is ∙ run));
    playback = record { tape = file_after; attached = is; going = going };
    file = λ tape tape_after e f. subst (λ t. SameFile t tape_after) (some_is (sym was ∙ e)) (subst (SameFile file) (some_is (sym is ∙ f)) same);
    failed = failed ∙ may.sound;
  }

-- by as many bytes as the period's samples have
pub file-next : (sounding : Score → Sound) (before after : Gear) (file file_after : Tape) → after.script ≡ before.script → frames_run (driver_of sounding after) ≡ frames_run (driver_of sounding before) + before.set → IsOwnFile sounding before file → file_after.format ≡ file.format
    → file_after.written ≤ file.written + before.set * before.script.header.playback * width before.script.header.bits → IsOwnFile sounding after file_after
file-next sounding before after file file_after script frames own format written =
    record {
      format = format ∙ own.format ∙ ap playback_format (sym script);
      written = subst (λ (s : Script). file_after.written ≤ frames_run (driver_of sounding after) * s.header.playback * width s.header.bits) (sym script) all;
    }
  where
    channels : ℕ
    channels = before.script.header.playback

    bytes : ℕ
    bytes = width before.script.header.bits

    all : file_after.written ≤ frames_run (driver_of sounding after) * before.script.header.playback * width before.script.header.bits
    all =
        let so_far = own.written in
        let first : (frames_run (driver_of sounding before) + before.set) * before.script.header.playback ≡ frames_run (driver_of sounding before) * before.script.header.playback + before.set * before.script.header.playback = add-mul (frames_run (driver_of sounding before)) before.set before.script.header.playback in
        let both : (frames_run (driver_of sounding before) * before.script.header.playback + before.set * before.script.header.playback) * width before.script.header.bits
        ≡ frames_run (driver_of sounding before) * before.script.header.playback * width before.script.header.bits + before.set * before.script.header.playback * width before.script.header.bits =
        add-mul (frames_run (driver_of sounding before) * before.script.header.playback) (before.set * before.script.header.playback) (width before.script.header.bits) in
        let same : frames_run (driver_of sounding after) * before.script.header.playback * width before.script.header.bits ≡ (frames_run (driver_of sounding before) * before.script.header.playback + before.set * before.script.header.playback) * width before.script.header.bits =
        ap (λ n. n * before.script.header.playback * width before.script.header.bits) frames ∙ ap (λ n. n * width before.script.header.bits) first in
        omega (arith, so_far, both, same, written)

-- a script's width is one that a file may have
pub wide-of : (bits : ℕ) → Contains (8 ∷ 16 ∷ 24 ∷ 32 ∷ []) bits → is_width bits ≡ true
wide-of bits (zero, low, e) = ap is_width (sym e)
wide-of bits (suc zero, low, e) = ap is_width (sym e)
wide-of bits (suc (suc zero), low, e) = ap is_width (sym e)
wide-of bits (suc (suc (suc zero)), low, e) = ap is_width (sym e)
wide-of bits (suc (suc (suc (suc i))), low, e) = absurd (past low)
  where
    past : suc (suc (suc (suc i))) < 4 → ⊥
    past h = omega (arith, h)

few-bytes : (bits : ℕ) → is_width bits ≡ true → width bits ≤ 4
few-bytes bits wide = by_width (λ b. width b ≤ 4) bits wide (omega arith) (omega arith) (omega arith) (omega arith)

pub file-fits : (sounding : Score → Sound) (before : Gear) (freewheel : Bool) → MayCycle (driver_of sounding before) freewheel → (file : Tape) → IsOwnFile sounding before file → is_width before.script.header.bits ≡ true
    → frames_run (later sounding before) * before.script.header.playback ≤ 500000000 → file.written + before.set * before.script.header.playback * width file.format.bits ≤ 4294967000
file-fits sounding before freewheel may file own wide few = subst (λ bits. file.written + before.set * before.script.header.playback * width bits ≤ 4294967000) (sym (ap (λ f. f.bits) own.format)) all
  where
    all : file.written + before.set * before.script.header.playback * width before.script.header.bits ≤ 4294967000
    all =
        let so_far = own.written in
        let samples = samples-next (driver_of sounding before) may.left may.period_is before.script.header.playback few in
        let both : (frames_run (driver_of sounding before) * before.script.header.playback + before.set * before.script.header.playback) * width before.script.header.bits
        ≡ frames_run (driver_of sounding before) * before.script.header.playback * width before.script.header.bits + before.set * before.script.header.playback * width before.script.header.bits =
        add-mul (frames_run (driver_of sounding before) * before.script.header.playback) (before.set * before.script.header.playback) (width before.script.header.bits) in
        let most : (frames_run (driver_of sounding before) * before.script.header.playback + before.set * before.script.header.playback) * width before.script.header.bits ≤ 500000000 * width before.script.header.bits = mul-le-mul_right (width before.script.header.bits) samples in
        let bytes = few-bytes before.script.header.bits wide in
        omega (arith, so_far, both, most, bytes)

-- a file that was not written is no longer than more cycles
pub file-stays : (sounding : Score → Sound) (before after : Gear) (file : Tape) → after.script ≡ before.script → frames_run (driver_of sounding after) ≡ frames_run (driver_of sounding before) + before.set → IsOwnFile sounding before file → IsOwnFile sounding after file
file-stays sounding before after file script frames own = file-next sounding before after file file script frames own refl (more file.written (before.set * before.script.header.playback * width before.script.header.bits))
  where
    more : (m n : ℕ) → m ≤ m + n
    more m n = omega arith
