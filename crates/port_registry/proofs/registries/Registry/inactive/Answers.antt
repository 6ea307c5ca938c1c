use Rattle.std.proofs.Common.{◌≡◌, Bool, cond, not, position, slice_get, Some, None, sym, ◌∙◌, ap, subst}
use Rattle.session_laws.specs.jack_types.specs.declared.replies.Refusal.TheVariants.{AlreadyActive}
use Rattle.port_registry.specs.Registered.{Registered, has_name}
use Rattle.port_registry.proofs.PlaceLemmas.{position-at}
use Rattle.port_registry.proofs.RefusalLemmas.{refusal_activate}
use Rattle.port_registry.proofs.registries.Registry.inactive.Goals as goal

pub returns-then-index-clause-answer : goal.returns-then-index-clause-answer
returns-then-index-clause-answer c =
    let at : position (has_name c.args.name.now) c.self.inside.clients.items ≡ Some c.in-Ok.place = rw (← c.self.view_is) at c.in-Ok.ensures.place in
    let w = position-at (has_name c.args.name.now) c.self.inside.clients.items c.in-Ok.place c.index.result.now at in
    let there : slice_get c.args.self.now.clients c.in-Ok.place ≡ Some c.index.result.now = subst (λ (h : Registered). slice_get h.clients c.in-Ok.place ≡ Some c.index.result.now) c.self.view_is (w.0 ∙ ap Some (sym c.index.ensures)) in
    refusal_activate _ c.changeable.ensures.registered c.args.name.now c.in-Ok.place c.index.result.now c.in-Ok.ensures.place there c.in-Ok.ensures.answer ∙ ap (λ (b : Bool). cond b (Some AlreadyActive) None) c.if-index.true

pub returns-clause-answer : goal.returns-clause-answer
returns-clause-answer c =
    let at : position (has_name c.args.name.now) c.self.inside.clients.items ≡ Some c.in-Ok.place = rw (← c.self.view_is) at c.in-Ok.ensures.place in
    let w = position-at (has_name c.args.name.now) c.self.inside.clients.items c.in-Ok.place c.index.result.now at in
    let there : slice_get c.args.self.now.clients c.in-Ok.place ≡ Some c.index.result.now = subst (λ (h : Registered). slice_get h.clients c.in-Ok.place ≡ Some c.index.result.now) c.self.view_is (w.0 ∙ ap Some (sym c.index.ensures)) in
    refusal_activate _ c.changeable.ensures.registered c.args.name.now c.in-Ok.place c.index.result.now c.in-Ok.ensures.place there c.in-Ok.ensures.answer ∙ ap (λ (b : Bool). cond b (Some AlreadyActive) None) c.if-index.false
