use Rattle.std.proofs.Common.{◌≡◌, None, find, take}
use Rattle.jack_types.specs.declared.ports.Delay.{Delay}
use Rattle.session_model.specs.Ids.{same_id_node}
use Rattle.latency_ranges.proofs.passes.delay_of.Given as goal

abbrev pub invariant-loop-delay : goal.invariant-loop-delay
invariant-loop-delay l = find (λ (delay : Delay). same_id_node delay.node l.node) (take l.delay-index l.delays) ≡ None
