use Rattle.std.proofs.Common.{◌≡◌, ◌<◌, ◌++◌, ◌∷◌, [], length, is_some, IsSome, None, sym, ◌∙◌, ap, arith, true≢false}
use Rattle.session_laws.specs.jack_types.specs.declared.commands.Command.TheVariants.{Open}
use Rattle.session_laws.specs.session_model.specs.Commands.{refusal}
use Rattle.port_registry.proofs.StepLemmas.{free-some, IsKept-opened}
use Rattle.port_registry.proofs.registries.Registry.open.Goals as goal

pub unreachable-requires : goal.unreachable-requires
unreachable-requires c =
    let low : 0 < length c.self.inside.free.items = free-some _ _ _ _ _ _ c.self.invariant c.args.name.now c.args.kind (rw (← c.self.view_is) at c.requires) in
    let some : IsSome c.pop.result = c.pop.ensures.variant.1 low in
    true≢false (sym some ∙ ap is_some c.in_default.is)

pub invariant_of-self-2 : goal.invariant_of-self-2
invariant_of-self-2 c =
    IsKept-opened _ _ _ _ _ _ c.self.invariant c.args.name.now c.args.kind c.args.birth c.in-Some.number (rw (← c.self.view_is) at c.requires) _ _ _ c.new.result _ _
    (rw c.reserve.ensures.items at (rw c.in-Ok-Ok.is-0 at c.push-pushed.ensures.items)) c.new.ensures (rw c.reserve-2.ensures.items at (rw c.in-Ok-Ok.is-1 at c.push-listed.ensures.items))
    (rw c.in-Some.is at c.pop.ensures.items)
    (omega (arith, c.reserve.ensures.capacity, c.push-pushed.ensures.capacity)) (omega (arith, c.reserve-2.ensures.capacity, c.push-listed.ensures.capacity))

pub returns-clause-registered : goal.returns-clause-registered
returns-clause-registered c = (invariant_of-self-2 c).registered
