-- Whether a session is run in serial mode.
--     none-is      by asking whether there are threads
--     is-serial, has-threads      by what was noted of that
use Rattle.std.proofs.Common.{◌≡◌, Bool, true, false, true≢false, Option, Some, None, IsNone, IsSome, refl, sym, ◌∙◌}
use Rattle.std.specs.Prelude.{is_none, is_some, not}

pub none-is : {T : Type 0} (o : Option T) (b : Bool) → is_some o ≡ not b → b ≡ is_none o
none-is None true is = refl
none-is None false is = absurd (true≢false (sym is))
none-is (Some x) true is = absurd (true≢false is)
none-is (Some x) false is = refl

pub is-serial : {T : Type 0} (threads : Option T) (serial : Bool) → serial ≡ is_none threads → serial ≡ true → IsNone threads
is-serial None serial is so = refl
is-serial (Some n) serial is so = absurd (true≢false (sym so ∙ is))

pub has-threads : {T : Type 0} (threads : Option T) (serial : Bool) → serial ≡ is_none threads → serial ≡ false → IsSome threads
has-threads None serial is so = absurd (true≢false (sym is ∙ so))
has-threads (Some n) serial is so = refl
