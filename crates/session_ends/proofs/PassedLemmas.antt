-- Lemmas on outcomes and stores, passed on.
pub use Rattle.session_works.proofs.ResultLemmas.{at-err, at-ok}
pub use Rattle.session_works.proofs.StoreLemmas.{later-trans, rose-mono}
