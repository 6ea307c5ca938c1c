use Rattle.std.proofs.Common.{◌≡◌, ◌+◌, ◌==◌, count_by, take}
use Rattle.graph_word.specs.jack_types.specs.declared.ports.Link.{Link}
use Rattle.cycle_plan.proofs.counts.count_into.Given as goal

abbrev pub invariant-loop-link : goal.invariant-loop-link
invariant-loop-link l = l.count ≡ count_by (λ (link : Link). link.to == l.node) (take l.link-index l.links) + 1
