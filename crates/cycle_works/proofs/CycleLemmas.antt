-- What is behind one cycle more, for owners of the works.
--     later      a driver one cycle on
--     samples-next, frames-is      how many samples and frames that is
--     AreOfCalls-last      what the cycle before took is of calls too
pub use Rattle.cycle_laws.proofs.FrameLemmas.{samples-next}
pub use Rattle.cycle_laws.proofs.FrontLemmas.{AreOfCalls-last}
pub use Rattle.cycle_laws.proofs.ListLemmas.{interleaved-length, sum-next}
pub use Rattle.cycle_laws.proofs.MayLemmas.{later}
pub use Rattle.cycle_laws.proofs.StepLemmas.{frames-is}
