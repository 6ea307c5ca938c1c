-- The words of a desk and of its laws, passed on to the crates over this one.
pub use Rattle.control_desk.specs.Desks.{Desk, GoesOn, IsDesk, IsDone, IsNewDesk, MayBegin, base_of, cycles_before}
pub use Rattle.control_desk.specs.Laws.{DoneGoesOn, OfCallsAccepted}
