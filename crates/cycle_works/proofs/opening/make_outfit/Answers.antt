use Rattle.std.proofs.lemmas.Result.{MatchResult-from_err}
use Rattle.cycle_works.proofs.opening.make_outfit.Goals as goal

pub returns-in_err-midi : goal.returns-in_err-midi
returns-in_err-midi c = MatchResult-from_err c.from_residual.result _ _ c.from_residual.ensures.0 (λ _. tt)

pub returns-in_err-rings : goal.returns-in_err-rings
returns-in_err-rings c = MatchResult-from_err c.from_residual-in_err-rings.result _ _ c.from_residual-in_err-rings.ensures.0 (λ _. tt)

pub returns-in_err-disks : goal.returns-in_err-disks
returns-in_err-disks c = MatchResult-from_err c.from_residual-in_err-disks.result _ _ c.from_residual-in_err-disks.ensures.0 (λ _. tt)

pub returns-in_err-lists : goal.returns-in_err-lists
returns-in_err-lists c = MatchResult-from_err c.from_residual-in_err-lists.result _ _ c.from_residual-in_err-lists.ensures.0 (λ _. tt)

pub returns : goal.returns
returns c = record { transport = c.make_transport.ensures; midi = c.in_ok-midi.ensures; rings = c.in_ok-rings.ensures; disks = c.in_ok-disks.ensures; lists = c.in_ok-lists.ensures }
