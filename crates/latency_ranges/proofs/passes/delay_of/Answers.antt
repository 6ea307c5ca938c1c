use Rattle.std.proofs.Common.{◌∙◌, Option, ap, sym}
use Rattle.std.specs.Option.{option_map_or}
use Rattle.jack_types.specs.declared.ports.Delay.{Delay}
use Rattle.session_model.specs.Ids.{same_id_node}
use Rattle.latency_ranges.proofs.JoinLemmas.{find-first, find-not_yet, no_delay}
use Rattle.latency_ranges.proofs.passes.delay_of.Goals as goal

pub returns-then-is_of : goal.returns-then-is_of
returns-then-is_of c =
    sym (ap (λ (o : Option Delay). option_map_or (λ (delay : Delay). delay.frames) o 0)
    (find-first (λ (delay : Delay). same_id_node delay.node c.args.node) c.args.delays.now c.loop-delay.delay-index no_delay c.loop-delay-test.true c.loop-delay.invariant (sym c.is_of.ensures ∙ c.if-is_of.true)))

pub loop-delay-preserved : goal.loop-delay-preserved
loop-delay-preserved c =
    find-not_yet (λ (delay : Delay). same_id_node delay.node c.args.node) c.args.delays.now c.loop-delay.delay-index no_delay c.loop-delay-test.true c.loop-delay.invariant (sym c.is_of.ensures ∙ c.if-is_of.false)
