use Rattle.std.proofs.Common.{refl}
use Rattle.graph_word.specs.jack_types.specs.declared.commands.Command.TheVariants.{Register}
use Rattle.cycle_plan.proofs.EffectLemmas.{registry_only-network, roomy-applied}
use Rattle.cycle_plan.proofs.RoomLemmas.{Stays-answered_register, register-room}
use Rattle.cycle_plan.proofs.graph.Graph.register.Goals as goal

pub refusal_only-requires : goal.refusal_only-requires
refusal_only-requires c = register-room c.self.inside.registry c.self.invariant.registered c.args.name.now c.args.way c.args.kind c.register-answer.result c.self.invariant.few_device_ports c.self.invariant.port_room c.register-answer.ensures.answer c.register-answer.ensures.room

pub invariant_of-self : goal.invariant_of-self
invariant_of-self c = registry_only-network _ c.self.invariant c.register-answer.new.self c.register-answer.ensures.registered (Stays-answered_register c.self.inside.registry c.self.invariant.registered c.register-answer.new.self c.args.name.now c.args.way c.args.kind c.args.number c.register-answer.result c.register-answer.ensures.answer c.register-answer.ensures.registers c.register-answer.ensures.same)

pub returns : goal.returns
returns c =
    rw (← c.self.view_is, c.refusal_only.ensures)
    (roomy-applied _ c.self.invariant c.register-answer.new.self c.register-answer.ensures.registered (Stays-answered_register c.self.inside.registry c.self.invariant.registered c.register-answer.new.self c.args.name.now c.args.way c.args.kind c.args.number c.register-answer.result c.register-answer.ensures.answer c.register-answer.ensures.registers c.register-answer.ensures.same)
    c.args.number (Register c.args.name.now c.args.way c.args.kind) c.register-answer.result
    (register-room c.self.inside.registry c.self.invariant.registered c.args.name.now c.args.way c.args.kind c.register-answer.result c.self.invariant.few_device_ports c.self.invariant.port_room c.register-answer.ensures.answer c.register-answer.ensures.room)
    c.register-answer.ensures.answer (c.register-answer.ensures.after (register-room c.self.inside.registry c.self.invariant.registered c.args.name.now c.args.way c.args.kind c.register-answer.result c.self.invariant.few_device_ports c.self.invariant.port_room c.register-answer.ensures.answer c.register-answer.ensures.room)) c.register-answer.ensures.same refl refl)
