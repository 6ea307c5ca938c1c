use Rattle.std.proofs.Common.{List, ap, filter_map, get_or, length, subst, ◌∙◌}
use Rattle.std.specs.List.{Contains}
use Rattle.std.specs.Vec.{vec_capacity}
use Rattle.std.proofs.lemmas.List.{with_items_is}
use Rattle.jack_types.specs.declared.ports.Client.{Client}
use Rattle.midi_player.specs.Standings.{Standing}
use Rattle.midi_wiring.specs.declared.joints.MidiGiven.{MidiGiven}
use Rattle.midi_wiring.specs.Wirings.{MidiWired, midi_wired_of}
use Rattle.midi_stage.specs.Sounding.{HavePlayed, no_standing, output_from, sounded}
use Rattle.midi_stage.proofs.PlayLemmas.{PlaysAll-played}
use Rattle.midi_stage.proofs.performing.play_all.Goals as goal

pub play_nodes-requires-clause-lower : goal.play_nodes-requires-clause-lower
play_nodes-requires-clause-lower c joint m there played =
    c.events_come_from_players.ensures.lower c.args.plan.now joint m c.requires.turned.planned
    (subst (λ (wired : MidiWired). Contains wired.joints joint) c.requires.turned.wired there) played

pub returns : goal.returns
returns c =
    PlaysAll-played c.args.plan.now c.args.moment.now c.args.period c.args.parts.now c.play_nodes.new.benches c.play_nodes.new.sounds c.play_nodes.new.rooms
    (with_items_is c.args.parts.now.benches c.play_nodes.new.benches (c.play_nodes.ensures.benches ∙ c.as_mut_slice.ensures.len))
    (subst (λ lists. HavePlayed lists c.args.plan.now.nodes (midi_wired_of c.args.plan.now) c.args.moment.now c.args.period (length c.args.parts.now.sounds.seats.items) c.args.parts.now.benches.items c.play_nodes.new.benches (sounded c.play_nodes.new.sounds)) c.as_slice-2.ensures.value
    (subst (λ (nodes : List Client). HavePlayed c.as_slice-2.result.now nodes (midi_wired_of c.args.plan.now) c.args.moment.now c.args.period (length c.args.parts.now.sounds.seats.items) c.args.parts.now.benches.items c.play_nodes.new.benches (sounded c.play_nodes.new.sounds)) c.nodes-nodes.ensures.value
    (subst (λ (wired : MidiWired). HavePlayed c.as_slice-2.result.now c.nodes-nodes.result.now wired c.args.moment.now c.args.period (length c.args.parts.now.sounds.seats.items) c.args.parts.now.benches.items c.play_nodes.new.benches (sounded c.play_nodes.new.sounds)) c.requires.turned.wired
    (subst (λ (benches : List Standing). HavePlayed c.as_slice-2.result.now c.nodes-nodes.result.now c.args.parts.now.wiring c.args.moment.now c.args.period (length c.args.parts.now.sounds.seats.items) benches c.play_nodes.new.benches (sounded c.play_nodes.new.sounds)) c.as_mut_slice.ensures.value
    c.play_nodes.ensures.played))))
    (λ b none. c.play_nodes.ensures.others b none ∙ ap (λ benches. get_or benches b no_standing) c.as_mut_slice.ensures.value)
    (λ b. c.play_nodes.ensures.kinds b ∙ ap (λ benches. (get_or benches b no_standing).kind) c.as_mut_slice.ensures.value)
    (c.play_nodes.ensures.benches ∙ ap length c.as_mut_slice.ensures.value)
    (ap (λ outputs. outputs.items) c.play_nodes.ensures.outputs ∙ c.carry.ensures.outputs
    ∙ ap (λ seats. filter_map (output_from seats) c.given.result.now) c.as_slice.ensures.value
    ∙ ap (λ (given : List MidiGiven). filter_map (output_from c.args.parts.now.sounds.seats.items) given) (c.given.ensures.given ∙ ap (λ (wired : MidiWired). wired.given) c.requires.turned.wired))
    (ap (λ outputs. vec_capacity outputs) c.play_nodes.ensures.outputs ∙ c.carry.ensures.room)
    c.play_nodes.ensures.gives c.play_nodes.ensures.nothing c.play_nodes.ensures.seats c.play_nodes.ensures.gave c.play_nodes.ensures.earlier
