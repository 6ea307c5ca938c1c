use Rattle.std.proofs.Common.{ℕ, ◌<◌, length, get_or, subst, sym, arith, rules}
use mir.Syntax.{of_param}
use denote.Param.Send.{Quiet-if, sendable}
use Rattle.std.proofs.Crossing.{crosses}
use Rattle.recorder_files.specs.Recorders.{Recording}
use Rattle.session_threads.specs.Serving.{MayServe, ServedBy}
use Rattle.session_threads.proofs.serving.serve_all.Goals as goal

pub for_each_mut-requires-clause-accepts : goal.for_each_mut-requires-clause-accepts
for_each_mut-requires-clause-accepts g c κs within i p low is = ((let few = c.requires.few in omega (arith, few, low), subst MayServe (sym is) (c.requires.may i p.now low)), (record { owned = search (sendable, crosses, c.type_bounds.send-W) depth 40; leaving = λ k. Quiet-if (k (of_param 1)) _ _ (λ x w. tt) (λ x w. tt) }, search rules, search rules))

pub returns-clause-served : goal.returns-clause-served
returns-clause-served g c = record { each = each }
  where
    each : (k : ℕ) (d : Recording) → k < length c.args.recorders.now → ServedBy (get_or c.args.recorders.now k d) (get_or c.for_each_mut.new.s k d)
    each k d low = let it = (c.for_each_mut.ensures k d low).1 in subst (λ (z : Recording × Recording). ServedBy z.0 z.1) (λ j. (it.argument_is j, it.left j)) it.call
