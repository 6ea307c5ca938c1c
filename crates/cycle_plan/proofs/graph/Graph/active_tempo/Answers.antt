use Rattle.std.proofs.Common.{◌≡◌, Some, None, cond, false, sym, ◌∙◌, ap}
use Rattle.std.specs.Option.{option_map, option_map_or}
use Rattle.graph_word.specs.jack_types.specs.declared.ports.Client.{Client}
use Rattle.port_registry.specs.Registered.{IsRegistered, client_by}
use Rattle.cycle_plan.specs.Masters.{master_of}
use Rattle.cycle_plan.proofs.NetworkLemmas.{active-numbers}
use Rattle.cycle_plan.proofs.graph.Graph.active_tempo.Goals as goal

pub returns-in-None : goal.returns-in-None
returns-in-None c =
    let registered : IsRegistered c.args.self.now.held = rw (← c.self.view_is) c.self.invariant.registered in
    let led : c.args.self.now.master ≡ Some (master_of c.in-Some.held) = rw (← c.self.view_is) (ap (option_map master_of) c.in-Some.is) in
    let found : client_by c.args.self.now.held c.in-Some.held.client ≡ None = rw (← c.self.view_is) (sym c.client.ensures ∙ c.in-None.is) in
    sym (active-numbers c.args.self.now registered (master_of c.in-Some.held) led
    ∙ ap (λ o. cond (option_map_or (λ (client : Client). client.active) o false) (Some (c.in-Some.held.tempo.mbpm, c.in-Some.held.tempo.beats, c.in-Some.held.tempo.ticks)) None) found)

pub returns-then-client : goal.returns-then-client
returns-then-client c =
    let registered : IsRegistered c.args.self.now.held = rw (← c.self.view_is) c.self.invariant.registered in
    let led : c.args.self.now.master ≡ Some (master_of c.in-Some.held) = rw (← c.self.view_is) (ap (option_map master_of) c.in-Some.is) in
    let found : client_by c.args.self.now.held c.in-Some.held.client ≡ Some c.in-Some-client.client = rw (← c.self.view_is) (sym c.client.ensures ∙ c.in-Some-client.is) in
    sym (active-numbers c.args.self.now registered (master_of c.in-Some.held) led
    ∙ ap (λ o. cond (option_map_or (λ (client : Client). client.active) o false) (Some (c.in-Some.held.tempo.mbpm, c.in-Some.held.tempo.beats, c.in-Some.held.tempo.ticks)) None) found
    ∙ ap (λ b. cond b (Some (c.in-Some.held.tempo.mbpm, c.in-Some.held.tempo.beats, c.in-Some.held.tempo.ticks)) None) c.if-client.true)

pub returns-else-client : goal.returns-else-client
returns-else-client c =
    let registered : IsRegistered c.args.self.now.held = rw (← c.self.view_is) c.self.invariant.registered in
    let led : c.args.self.now.master ≡ Some (master_of c.in-Some.held) = rw (← c.self.view_is) (ap (option_map master_of) c.in-Some.is) in
    let found : client_by c.args.self.now.held c.in-Some.held.client ≡ Some c.in-Some-client.client = rw (← c.self.view_is) (sym c.client.ensures ∙ c.in-Some-client.is) in
    sym (active-numbers c.args.self.now registered (master_of c.in-Some.held) led
    ∙ ap (λ o. cond (option_map_or (λ (client : Client). client.active) o false) (Some (c.in-Some.held.tempo.mbpm, c.in-Some.held.tempo.beats, c.in-Some.held.tempo.ticks)) None) found
    ∙ ap (λ b. cond b (Some (c.in-Some.held.tempo.mbpm, c.in-Some.held.tempo.beats, c.in-Some.held.tempo.ticks)) None) c.if-client.false)
