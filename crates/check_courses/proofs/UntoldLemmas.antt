-- A driver with a playback that tells nothing.
use Rattle.std.proofs.Common.{◌≡◌, ◌∙◌, ℤ, false, List, Option, Some, refl, sym, subst, arith}
use Rattle.jack_types.specs.declared.files.Format.{Format}
use Rattle.driver_words.specs.Tapes.{SameFile, Tape}
use Rattle.driver_laws.specs.Cycling.{WritesOnce}
use Rattle.driver_laws.specs.Drivers.{Driver, HasPlayback}
use Rattle.driver_laws.specs.Keeping.{HasTape}
use Rattle.check_courses.specs.Untold.{untold}

some-same : {X : Type 0} (x y : X) → Some x ≡ Some y → x ≡ y
some-same x y e = cc

pub there : (driver : Driver) (format : Format) → driver.playback ≡ Some (untold format) → HasPlayback driver
there driver format e = record { tape = untold format; attached = e; going = refl }

-- it has any samples, since it tells none
pub any-tape : (playback : Option Tape) (format : Format) → playback ≡ Some (untold format) → (samples : List ℤ) → HasTape playback samples
any-tape playback format e samples = subst (λ p. HasTape p samples) (sym e) (record { going = refl; bytes = tt })

pub writes : (driver after : Driver) (format : Format) → driver.playback ≡ Some (untold format) → after.playback ≡ Some (untold format) → after.failed ≡ false → WritesOnce driver after
writes driver after format e f sound = record {
  unwritten = λ freewheel. f ∙ sym e;
  playback = there after format f;
  file = λ tape tape_after p q. same tape tape_after (some-same (untold format) tape (sym e ∙ p)) (some-same (untold format) tape_after (sym f ∙ q));
  failed = sound;
}
  where
    same : (tape tape_after : Tape) → untold format ≡ tape → untold format ≡ tape_after → SameFile tape tape_after
    same tape tape_after p q = subst (λ t. SameFile t tape_after) p (subst (SameFile (untold format)) q (record { format = refl; name = refl; tells = refl; later = omega arith }))
