use Rattle.std.proofs.Common.{◌≡◌, ◌+◌, ◌==◌, count_by, length, take, sym, ◌∙◌, ap, arith}
use Rattle.graph_word.specs.jack_types.specs.declared.ports.Link.{Link}
use Rattle.cycle_plan.proofs.PlannedLemmas.{incoming-counted, take-whole}
use Rattle.cycle_plan.proofs.counts.count_into.Goals as goal

pub returns : goal.returns
returns c =
    let at : c.loop-link.link-index ≡ length c.args.links.now = omega (arith, c.loop-link.auto.link-index-end, c.loop-link-test.false) in
    c.loop-link.invariant
    ∙ ap (λ n. count_by (λ (link : Link). link.to == c.args.node) (take n c.args.links.now) + 1) at
    ∙ ap (λ ls. count_by (λ (link : Link). link.to == c.args.node) ls + 1) (take-whole c.args.links.now)
    ∙ ap (λ n. n + 1) (sym (incoming-counted c.args.links.now c.args.node))
