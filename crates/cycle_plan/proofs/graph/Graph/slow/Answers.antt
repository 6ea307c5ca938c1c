use Rattle.std.proofs.Common.{refl}
use Rattle.graph_word.specs.jack_types.specs.declared.commands.Command.TheVariants.{Slow}
use Rattle.cycle_plan.proofs.EffectLemmas.{registry-applied, registry_only-network}
use Rattle.cycle_plan.proofs.MovedLemmas.{Stays-either, Stays-slowed, on_ok}
use Rattle.cycle_plan.proofs.graph.Graph.slow.Goals as goal

pub invariant_of-self : goal.invariant_of-self
invariant_of-self c =
    registry_only-network _ c.self.invariant c.set_slow.new.self c.set_slow.ensures.registered
    (Stays-either c.self.inside.registry c.set_slow.new.self c.set_slow.result (on_ok c.set_slow.result (Stays-slowed c.args.name.now c.args.cycles c.self.inside.registry c.set_slow.new.self) c.set_slow.ensures.slowed) c.set_slow.ensures.same)

pub returns : goal.returns
returns c = λ number.
    rw (← c.self.view_is)
    (registry-applied _ c.self.invariant c.set_slow.new.self c.set_slow.ensures.registered
    (Stays-either c.self.inside.registry c.set_slow.new.self c.set_slow.result (on_ok c.set_slow.result (Stays-slowed c.args.name.now c.args.cycles c.self.inside.registry c.set_slow.new.self) c.set_slow.ensures.slowed) c.set_slow.ensures.same)
    number (Slow c.args.name.now c.args.cycles) c.set_slow.result c.set_slow.ensures.answer (c.set_slow.ensures.after number) c.set_slow.ensures.same refl refl)
