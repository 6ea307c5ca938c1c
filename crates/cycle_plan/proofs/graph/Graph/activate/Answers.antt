use Rattle.std.proofs.Common.{refl, true}
use Rattle.graph_word.specs.jack_types.specs.declared.commands.Command.TheVariants.{Activate}
use Rattle.cycle_plan.proofs.EffectLemmas.{registry-applied, registry_only-network}
use Rattle.cycle_plan.proofs.MovedLemmas.{Stays-active, Stays-either, on_ok}
use Rattle.cycle_plan.proofs.graph.Graph.activate.Goals as goal

pub invariant_of-self : goal.invariant_of-self
invariant_of-self c =
    registry_only-network _ c.self.invariant c.activate.new.self c.activate.ensures.registered
    (Stays-either c.self.inside.registry c.activate.new.self c.activate.result (on_ok c.activate.result (Stays-active c.args.name.now true c.self.inside.registry c.activate.new.self) c.activate.ensures.activated) c.activate.ensures.same)

pub returns : goal.returns
returns c = λ number.
    rw (← c.self.view_is)
    (registry-applied _ c.self.invariant c.activate.new.self c.activate.ensures.registered
    (Stays-either c.self.inside.registry c.activate.new.self c.activate.result (on_ok c.activate.result (Stays-active c.args.name.now true c.self.inside.registry c.activate.new.self) c.activate.ensures.activated) c.activate.ensures.same)
    number (Activate c.args.name.now) c.activate.result c.activate.ensures.answer (c.activate.ensures.after number) c.activate.ensures.same refl refl)
