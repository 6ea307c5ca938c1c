use Rattle.std.proofs.Common.{◌≡◌, ◌<◌, ◌≤◌, List, ℕ, Bool, true, false, cond, position, filter, count_by, is_some, slice_get, get_or, Some, None, refl, sym, ◌∙◌, ap, subst, arith}
use Rattle.std.proofs.lemmas.Grind.{common_steps}
use Rattle.session_laws.specs.jack_types.specs.Names.{client_part}
use Rattle.session_laws.specs.jack_types.specs.declared.commands.Command.TheVariants.{Close}
use Rattle.session_laws.specs.jack_types.specs.declared.replies.Refusal.TheVariants.{IsSystem}
use Rattle.session_laws.specs.session_model.specs.Commands.{refusal}
use Rattle.session_laws.specs.session_model.specs.State.{is_system}
use Rattle.port_registry.specs.Kept.{ids_in}
use Rattle.port_registry.specs.Listings.{bears_name, has_way}
use Rattle.port_registry.specs.Registered.{has_name, is_named, is_of, state_of}
use Rattle.port_registry.proofs.KeptLemmas.{its_name_is, list-at}
use Rattle.port_registry.proofs.PlaceLemmas.{position-at, position-at-some}
use Rattle.port_registry.proofs.StepLemmas.{list_there}
use Rattle.port_registry.proofs.RefusalLemmas.{register-taken, register-full, register-granted}
use Rattle.port_registry.proofs.registries.Registry.registrable.Goals as goal

pub returns-then-is_some-clause-answer : goal.returns-then-is_some-clause-answer
returns-then-is_some-clause-answer c = λ kind.
    let at : position (has_name (client_part c.args.name.now)) c.self.inside.clients.items ≡ Some c.in-Ok.place = rw (← c.self.view_is) at (subst (λ n. position (has_name n) c.args.self.now.clients ≡ Some c.in-Ok.place) c.client-client.ensures c.in-Ok.ensures.place) in
    let w = position-at-some (has_name (client_part c.args.name.now)) c.self.inside.clients.items c.in-Ok.place at in
    let list : slice_get c.self.inside.lists.items c.in-Ok.place ≡ Some c.index.result.now = list_there _ _ _ _ _ _ c.self.invariant c.in-Ok.place _ c.index.result.now w.1 ∙ ap Some (sym c.index.ensures) in
    let ids : c.as_slice-ids.result.now ≡ ids_in c.self.inside.table.ports w.0 = c.as_slice-ids.ensures.value ∙ list-at _ c.self.invariant.registered _ c.self.invariant.indexed c.in-Ok.place _ w.0 list w.1 in
    let found : position (bears_name c.self.inside.table.ports c.args.name.now) (ids_in c.self.inside.table.ports w.0) ≡ c.find.result = ap (position (bears_name c.self.inside.table.ports c.args.name.now)) (sym ids) ∙ sym c.find.ensures in
    let of : w.0.name ≡ client_part c.args.name.now = its_name_is _ c.self.invariant.registered (client_part c.args.name.now) c.in-Ok.place w.0 at w.1 in
    let none : refusal (state_of c.args.self.now) (Close (client_part c.args.name.now)) ≡ None = subst (λ n. refusal (state_of c.args.self.now) (Close n) ≡ None) c.client-client.ensures c.in-Ok.ensures.answer in
    rw (← c.self.view_is) (register-taken _ c.self.invariant.registered c.args.name.now w.0 of c.args.way kind (rw (← c.self.view_is) at none) (ap is_some found ∙ sym c.is_some.ensures ∙ c.if-is_some.true))

pub returns-then-count-ge16-clause-answer : goal.returns-then-count-ge16-clause-answer
returns-then-count-ge16-clause-answer c = λ kind.
    let at : position (has_name (client_part c.args.name.now)) c.self.inside.clients.items ≡ Some c.in-Ok.place = rw (← c.self.view_is) at (subst (λ n. position (has_name n) c.args.self.now.clients ≡ Some c.in-Ok.place) c.client-client.ensures c.in-Ok.ensures.place) in
    let w = position-at-some (has_name (client_part c.args.name.now)) c.self.inside.clients.items c.in-Ok.place at in
    let list : slice_get c.self.inside.lists.items c.in-Ok.place ≡ Some c.index.result.now = list_there _ _ _ _ _ _ c.self.invariant c.in-Ok.place _ c.index.result.now w.1 ∙ ap Some (sym c.index.ensures) in
    let ids : c.as_slice-ids.result.now ≡ ids_in c.self.inside.table.ports w.0 = c.as_slice-ids.ensures.value ∙ list-at _ c.self.invariant.registered _ c.self.invariant.indexed c.in-Ok.place _ w.0 list w.1 in
    let found : position (bears_name c.self.inside.table.ports c.args.name.now) (ids_in c.self.inside.table.ports w.0) ≡ c.find.result = ap (position (bears_name c.self.inside.table.ports c.args.name.now)) (sym ids) ∙ sym c.find.ensures in
    let of : w.0.name ≡ client_part c.args.name.now = its_name_is _ c.self.invariant.registered (client_part c.args.name.now) c.in-Ok.place w.0 at w.1 in
    let none : refusal (state_of c.args.self.now) (Close (client_part c.args.name.now)) ≡ None = subst (λ n. refusal (state_of c.args.self.now) (Close n) ≡ None) c.client-client.ensures c.in-Ok.ensures.answer in
    let many : 16 ≤ count_by (has_way c.self.inside.table.ports c.args.way) (ids_in c.self.inside.table.ports w.0) = subst (λ n. 16 ≤ n) (c.count.ensures ∙ ap (count_by (has_way c.self.inside.table.ports c.args.way)) ids) c.if-count-ge16.true in
    rw (← c.self.view_is) (register-full _ c.self.invariant.registered c.args.name.now w.0 of c.args.way kind (rw (← c.self.view_is) at none) (ap is_some found ∙ sym c.is_some.ensures ∙ c.if-is_some.false) many)

pub returns-clause-answer : goal.returns-clause-answer
returns-clause-answer c = λ kind.
    let at : position (has_name (client_part c.args.name.now)) c.self.inside.clients.items ≡ Some c.in-Ok.place = rw (← c.self.view_is) at (subst (λ n. position (has_name n) c.args.self.now.clients ≡ Some c.in-Ok.place) c.client-client.ensures c.in-Ok.ensures.place) in
    let w = position-at-some (has_name (client_part c.args.name.now)) c.self.inside.clients.items c.in-Ok.place at in
    let list : slice_get c.self.inside.lists.items c.in-Ok.place ≡ Some c.index.result.now = list_there _ _ _ _ _ _ c.self.invariant c.in-Ok.place _ c.index.result.now w.1 ∙ ap Some (sym c.index.ensures) in
    let ids : c.as_slice-ids.result.now ≡ ids_in c.self.inside.table.ports w.0 = c.as_slice-ids.ensures.value ∙ list-at _ c.self.invariant.registered _ c.self.invariant.indexed c.in-Ok.place _ w.0 list w.1 in
    let found : position (bears_name c.self.inside.table.ports c.args.name.now) (ids_in c.self.inside.table.ports w.0) ≡ c.find.result = ap (position (bears_name c.self.inside.table.ports c.args.name.now)) (sym ids) ∙ sym c.find.ensures in
    let of : w.0.name ≡ client_part c.args.name.now = its_name_is _ c.self.invariant.registered (client_part c.args.name.now) c.in-Ok.place w.0 at w.1 in
    let none : refusal (state_of c.args.self.now) (Close (client_part c.args.name.now)) ≡ None = subst (λ n. refusal (state_of c.args.self.now) (Close n) ≡ None) c.client-client.ensures c.in-Ok.ensures.answer in
    let few : count_by (has_way c.self.inside.table.ports c.args.way) (ids_in c.self.inside.table.ports w.0) < 16 = subst (λ n. n < 16) (c.count.ensures ∙ ap (count_by (has_way c.self.inside.table.ports c.args.way)) ids) c.if-count-ge16.false in
    rw (← c.self.view_is) (register-granted _ c.self.invariant.registered c.args.name.now w.0 of c.args.way kind (rw (← c.self.view_is) at none) (ap is_some found ∙ sym c.is_some.ensures ∙ c.if-is_some.false) few)
