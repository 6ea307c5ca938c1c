use Rattle.std.proofs.Common.{refl}
use Rattle.graph_word.specs.jack_types.specs.declared.commands.Command.TheVariants.{Open}
use Rattle.cycle_plan.proofs.EffectLemmas.{registry_only-network, roomy-applied}
use Rattle.cycle_plan.proofs.RoomLemmas.{Stays-answered_open, open-room}
use Rattle.cycle_plan.proofs.graph.Graph.open.Goals as goal

pub refusal_only-requires : goal.refusal_only-requires
refusal_only-requires c = open-room c.self.inside.registry c.self.invariant.registered c.args.name.now c.args.kind c.open_client-answer.result c.self.invariant.client_room c.open_client-answer.ensures.answer c.open_client-answer.ensures.room

pub invariant_of-self : goal.invariant_of-self
invariant_of-self c = registry_only-network _ c.self.invariant c.open_client-answer.new.self c.open_client-answer.ensures.registered (Stays-answered_open c.self.inside.registry c.open_client-answer.new.self c.args.name.now c.args.kind c.args.number c.open_client-answer.result c.open_client-answer.ensures.opened c.open_client-answer.ensures.same)

pub returns : goal.returns
returns c =
    rw (← c.self.view_is, c.refusal_only.ensures)
    (roomy-applied _ c.self.invariant c.open_client-answer.new.self c.open_client-answer.ensures.registered (Stays-answered_open c.self.inside.registry c.open_client-answer.new.self c.args.name.now c.args.kind c.args.number c.open_client-answer.result c.open_client-answer.ensures.opened c.open_client-answer.ensures.same)
    c.args.number (Open c.args.name.now c.args.kind) c.open_client-answer.result
    (open-room c.self.inside.registry c.self.invariant.registered c.args.name.now c.args.kind c.open_client-answer.result c.self.invariant.client_room c.open_client-answer.ensures.answer c.open_client-answer.ensures.room)
    c.open_client-answer.ensures.answer (c.open_client-answer.ensures.after (open-room c.self.inside.registry c.self.invariant.registered c.args.name.now c.args.kind c.open_client-answer.result c.self.invariant.client_room c.open_client-answer.ensures.answer c.open_client-answer.ensures.room)) c.open_client-answer.ensures.same refl refl)
