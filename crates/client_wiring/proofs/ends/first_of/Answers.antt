use Rattle.std.proofs.Common.{◌≡◌, ◌==◌, true, arith, eq-eqb, length, sym, subst}
use Rattle.std.proofs.lemmas.List.Sums.{position_or_len_is}
use Rattle.jack_types.specs.declared.ports.Client.{Client}
use Rattle.cycle_plan.specs.port_registry.specs.Registered.{system_entry}
use Rattle.client_wiring.proofs.ends.first_of.Goals as goal

pub returns-then-id-client : goal.returns-then-id-client
returns-then-id-client c =
    sym (position_or_len_is (λ (client : Client). c.args.id.0 == client.id.0) c.args.nodes.now c.loop-place.place c.index-nodes-place.result (omega arith)
    (λ k h. c.loop-place.invariant k c.index-nodes-place.result h)
    (λ h. subst (λ (x : Client). (c.args.id.0 == x.id.0) ≡ true) c.index-nodes-place.is (eq-eqb c.args.id.0 (c.index-nodes-place.result).id.0 c.if-id-client.true)))

pub returns : goal.returns
returns c =
    sym (position_or_len_is (λ (client : Client). c.args.id.0 == client.id.0) c.args.nodes.now (length c.args.nodes.now) system_entry (omega arith)
    (λ k h. c.loop-place.invariant k system_entry (omega arith))
    (λ h. absurd (omega (arith, h))))
