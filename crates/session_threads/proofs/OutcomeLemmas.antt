-- What follows of the outcome of a segment.
--     by-either      of one of two
--     by-outcome      of a fault, by whose it is
--     if-quiet      where nothing failed
use Rattle.std.proofs.Common.{◌≡◌, ◌⊎◌, inl, inr, false, is_err, Result, Ok, Err, OnErr, OnOk, IsOk, IsErrOf, refl}
use Rattle.session_works.specs.Cycles.{CycleFault, Read as DriverRead, Write as DriverWrite}
use Rattle.session_works.specs.declared.faults.SessionFault.{SessionFault}
use Rattle.session_works.specs.declared.faults.SessionFault.TheVariants.{Read, Write}

pub by-either : {A B P : Type 0} → A ⊎ B → (A → P) → (B → P) → P
by-either (inl a) f g = f a
by-either (inr b) f g = g b

pub if-quiet : {T E P : Type 0} (ran : Result T E) → (is_err ran ≡ false → P) → OnOk ran P
if-quiet (Ok x) quiet = quiet refl
if-quiet (Err e) quiet = tt

module _ {B F P : Type 0} where
  pub by-outcome : (outcome : Result (Unit {0}) SessionFault) (ran : Result (Unit {0}) CycleFault) → (IsErrOf outcome Read → IsErrOf ran DriverRead ⊎ (IsOk ran × B)) → (IsErrOf outcome Write → IsErrOf ran DriverWrite ⊎ (IsOk ran × F))
      → (IsErrOf ran DriverRead → P) → (IsErrOf ran DriverWrite → P) → (IsOk ran → P) → OnErr outcome P
  by-outcome (Ok x) ran read write at_read at_write torn = tt
  by-outcome (Err Read) ran read write at_read at_write torn = by-either (read refl) at_read (λ both. torn both.0)
  by-outcome (Err Write) ran read write at_read at_write torn = by-either (write refl) at_write (λ both. torn both.0)
