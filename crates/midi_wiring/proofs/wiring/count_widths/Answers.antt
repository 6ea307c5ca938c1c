use Rattle.std.proofs.Common.{◌≡◌, ◌<◌, ◌++◌, ◌∙◌, [], ◌∷◌, ap, ap₂, arith, List, get_or, length, map, subst, sym, take}
use Rattle.std.proofs.lemmas.List.{map-append, take_more}
use Rattle.jack_types.specs.declared.ports.Client.{Client}
use Rattle.jack_types.specs.declared.ports.Port.{Port}
use Rattle.midi_wiring.specs.Ends.{widths_by}
use Rattle.midi_wiring.proofs.PortLemmas.{widths-named}
use Rattle.client_wiring.proofs.ListLemmas.{taken-whole}
use Rattle.midi_wiring.proofs.wiring.count_widths.Goals as goal

pub loop-client-preserved : goal.loop-client-preserved
loop-client-preserved c =
    let within : c.loop-client.client-index < length c.args.plan.now.nodes = subst (λ (cs : List Client). c.loop-client.client-index < length cs) c.nodes-client-items.ensures.value c.loop-client-test.true in
    let here : c.client-item.result ≡ get_or c.args.plan.now.nodes c.loop-client.client-index c.client-item.result = c.client-item.is ∙ ap (λ (cs : List Client). get_or cs c.loop-client.client-index c.client-item.result) c.nodes-client-items.ensures.value in
    record {
      widths = c.push_reserved.ensures.items
          ∙ ap₂ (λ ws w. ws ++ w ∷ []) c.loop-client.invariant.widths (c.widths_of.ensures ∙ ap (widths_by c.args.ports.now) here)
          ∙ sym (ap (map (widths_by c.args.ports.now)) (take_more c.args.plan.now.nodes c.loop-client.client-index c.client-item.result within)
          ∙ map-append (widths_by c.args.ports.now) (take c.loop-client.client-index c.args.plan.now.nodes) (get_or c.args.plan.now.nodes c.loop-client.client-index c.client-item.result ∷ []));
      few = omega (arith, c.push_reserved.ensures.len, c.loop-client.invariant.few);
      room = omega (arith, c.push_reserved.ensures.capacity, c.loop-client.invariant.room);
    }

pub returns-clause-widths : goal.returns-clause-widths
returns-clause-widths c =
    c.loop-client.invariant.widths
    ∙ ap (map (widths_by c.args.ports.now))
    (taken-whole c.nodes-client-items.result.now c.args.plan.now.nodes c.loop-client.client-index c.nodes-client-items.ensures.value c.loop-client-test.false c.loop-client.auto.client-index-end)
    ∙ ap (λ (ports : List Port). map (widths_by ports) c.args.plan.now.nodes) c.requires.ports
    ∙ widths-named c.args.plan.now c.nodes-client-items.ensures.planned
