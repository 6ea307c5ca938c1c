-- Lemmas on outcomes and stores, passed on.
pub use Rattle.session_ends.proofs.PassedLemmas.{at-err, at-ok, later-trans, rose-mono}
