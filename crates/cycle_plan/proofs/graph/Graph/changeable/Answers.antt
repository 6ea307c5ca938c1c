use Rattle.std.proofs.Common.{◌≡◌, true, false, cond, is_none, Some, None, sym, ◌∙◌, ap, ap₂}
use Rattle.graph_word.specs.jack_types.specs.declared.replies.Refusal.TheVariants.{IsSystem, NoClient}
use Rattle.graph_word.specs.session_model.specs.State.{is_system}
use Rattle.port_registry.specs.Registered.{client_by}
use Rattle.cycle_plan.proofs.NetworkLemmas.{refusal-change}
use Rattle.cycle_plan.proofs.graph.Graph.changeable.Goals as goal

pub returns-in_default-clause-answer : goal.returns-in_default-clause-answer
returns-in_default-clause-answer c =
    let found : client_by c.args.self.now.held c.args.name.now ≡ None = rw (← c.self.view_is) (sym c.client.ensures ∙ c.in_default.is) in
    refusal-change c.args.self.now c.args.name.now ∙ ap (λ o. cond (is_none o) (Some NoClient) (cond (is_system c.args.name.now) (Some IsSystem) None)) found

pub returns-then-eq-clause-answer : goal.returns-then-eq-clause-answer
returns-then-eq-clause-answer c =
    let found : client_by c.args.self.now.held c.args.name.now ≡ Some c.in-Some.client = rw (← c.self.view_is) (sym c.client.ensures ∙ c.in-Some.is) in
    let named : is_system c.args.name.now ≡ true = ap is_system (sym c.text.ensures.value) ∙ sym c.eq.ensures ∙ c.if-eq.true in
    refusal-change c.args.self.now c.args.name.now
    ∙ ap₂ (λ o b. cond (is_none o) (Some NoClient) (cond b (Some IsSystem) None)) found named

pub returns-clause-answer : goal.returns-clause-answer
returns-clause-answer c =
    let found : client_by c.args.self.now.held c.args.name.now ≡ Some c.in-Some.client = rw (← c.self.view_is) (sym c.client.ensures ∙ c.in-Some.is) in
    let named : is_system c.args.name.now ≡ false = ap is_system (sym c.text.ensures.value) ∙ sym c.eq.ensures ∙ c.if-eq.false in
    refusal-change c.args.self.now c.args.name.now
    ∙ ap₂ (λ o b. cond (is_none o) (Some NoClient) (cond b (Some IsSystem) None)) found named
