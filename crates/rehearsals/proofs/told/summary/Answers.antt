use Rattle.std.proofs.Common.{◌≡◌, List, ℕ, subst, arith}
use Rattle.std.specs.Prelude.{IfOk}
use Rattle.rehearsals.proofs.SummaryLemmas.{size_played, told_played}
use Rattle.rehearsals.proofs.told.summary.Goals as goal

pub told-requires-clause-long : goal.told-requires-clause-long
told-requires-clause-long c = let size = size_played c.args.number c.args.history.now c.args.playback.now c.requires (c.rehearsal_is_played.ensures.size c.args.number) in omega (arith, size)

pub told-requires-clause-even : goal.told-requires-clause-even
told-requires-clause-even c = let size = size_played c.args.number c.args.history.now c.args.playback.now c.requires (c.rehearsal_is_played.ensures.size c.args.number) in omega (arith, size)

pub told-requires-clause-few : goal.told-requires-clause-few
told-requires-clause-few c = let size = size_played c.args.number c.args.history.now c.args.playback.now c.requires (c.rehearsal_is_played.ensures.size c.args.number) in omega (arith, size)

pub returns : goal.returns
returns c =
    subst (λ (text : List ℕ). IfOk c.told.result (λ lines. lines.bytes ≡ text))
    (told_played c.args.number c.args.history.now c.args.playback.now c.requires (c.rehearsal_is_played.ensures.units c.args.number)) c.told.ensures
