use Rattle.std.proofs.Common.{ℕ, ◌<◌, length, get_or, subst, sym, arith, rules}
use mir.Syntax.{of_param}
use denote.Param.Send.{Quiet-if, sendable}
use Rattle.std.proofs.Crossing.{crosses}
use Rattle.disk_player.specs.Playing.{Playing}
use Rattle.disk_files.specs.Serving.{IsGoing, ReadBy}
use Rattle.disk_files.proofs.serving.read_all.Goals as goal

pub for_each_mut-requires-clause-accepts : goal.for_each_mut-requires-clause-accepts
for_each_mut-requires-clause-accepts g c κs within i p low is = ((let few = c.requires.few in omega (arith, few, low), subst IsGoing (sym is) (c.requires.going i p.now low)), (record { owned = search (sendable, crosses, c.type_bounds.send-S) depth 40; leaving = λ k. Quiet-if (k (of_param 0)) _ _ (λ x w. tt) (λ x w. tt) }, search rules, search rules))

pub returns-clause-read : goal.returns-clause-read
returns-clause-read g c = record { each = each }
  where
    each : (k : ℕ) (d : Playing) → k < length c.args.readers.now → ReadBy (get_or c.args.readers.now k d) (get_or c.for_each_mut.new.s k d)
    each k d low = let it = (c.for_each_mut.ensures k d low).1 in subst (λ (z : Playing × Playing). ReadBy z.0 z.1) (λ j. (it.argument_is j, it.left j)) it.call
