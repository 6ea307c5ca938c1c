use Rattle.std.proofs.Common.{◌≡◌, ◌<◌, ◌≤◌, length, position, is_some, true, false, sym, ◌∙◌, ap, subst, arith}
use Rattle.std.proofs.lemmas.Grind.{common_steps}
use Rattle.session_laws.specs.jack_types.specs.declared.ports.Client.{Client}
use Rattle.session_laws.specs.session_model.specs.Commands.{shares}
use Rattle.port_registry.specs.Registered.{Registered, has_name}
use Rattle.port_registry.proofs.RefusalLemmas.{open-taken, open-full, open-used, open-granted}
use Rattle.port_registry.proofs.registries.Registry.refusal_to_open.Goals as goal

pub returns-then-is_some-clause-value : goal.returns-then-is_some-clause-value
returns-then-is_some-clause-value c = sym (open-taken _ c.place.ensures.registered c.args.name.now c.args.kind (ap is_some (sym c.place.ensures.value) ∙ sym c.is_some.ensures ∙ c.if-is_some.true))

pub returns-then-len-gt64-clause-value : goal.returns-then-len-gt64-clause-value
returns-then-len-gt64-clause-value c =
    let many : 64 < length c.self.inside.clients.items = grind (arith, common_steps) in
    sym (open-full _ c.place.ensures.registered c.args.name.now c.args.kind (ap is_some (sym c.place.ensures.value) ∙ sym c.is_some.ensures ∙ c.if-is_some.false)
    (subst (λ (h : Registered). 64 < length h.clients) c.self.view_is many))

pub returns-then-is_in_use-clause-value : goal.returns-then-is_in_use-clause-value
returns-then-is_in_use-clause-value c =
    let few : length c.self.inside.clients.items ≤ 64 = grind (arith, common_steps) in
    let used : is_some (position (λ (client : Client). shares client.kind c.args.kind) c.self.inside.clients.items) ≡ true
    = ap (λ cs. is_some (position (λ (client : Client). shares client.kind c.args.kind) cs)) (sym c.deref.ensures.value) ∙ sym c.is_in_use.ensures ∙ c.if-is_in_use.true in
    sym (open-used _ c.place.ensures.registered c.args.name.now c.args.kind (ap is_some (sym c.place.ensures.value) ∙ sym c.is_some.ensures ∙ c.if-is_some.false)
    (subst (λ (h : Registered). length h.clients ≤ 64) c.self.view_is few)
    (subst (λ (h : Registered). is_some (position (λ (client : Client). shares client.kind c.args.kind) h.clients) ≡ true) c.self.view_is used))

pub returns-clause-value : goal.returns-clause-value
returns-clause-value c =
    let few : length c.self.inside.clients.items ≤ 64 = grind (arith, common_steps) in
    let unused : is_some (position (λ (client : Client). shares client.kind c.args.kind) c.self.inside.clients.items) ≡ false
    = ap (λ cs. is_some (position (λ (client : Client). shares client.kind c.args.kind) cs)) (sym c.deref.ensures.value) ∙ sym c.is_in_use.ensures ∙ c.if-is_in_use.false in
    sym (open-granted _ c.place.ensures.registered c.args.name.now c.args.kind (ap is_some (sym c.place.ensures.value) ∙ sym c.is_some.ensures ∙ c.if-is_some.false)
    (subst (λ (h : Registered). length h.clients ≤ 64) c.self.view_is few)
    (subst (λ (h : Registered). is_some (position (λ (client : Client). shares client.kind c.args.kind) h.clients) ≡ false) c.self.view_is unused))
