-- A lemma on what was taken, passed on.
--     AreOfCalls-last      what the cycle before took is of calls too
pub use Rattle.cycle_works.proofs.CycleLemmas.{AreOfCalls-last}
