use Rattle.std.proofs.Common.{◌≡◌, ◌<◌, ◌≤◌, List, ℕ, Bool, true, false, cond, position, filter, count_by, is_some, slice_get, get_or, Some, None, refl, sym, ◌∙◌, ap, subst, arith}
use Rattle.std.proofs.lemmas.Grind.{common_steps}
use Rattle.session_laws.specs.jack_types.specs.Names.{client_part}
use Rattle.session_laws.specs.jack_types.specs.declared.commands.Command.TheVariants.{Close}
use Rattle.session_laws.specs.jack_types.specs.declared.replies.Refusal.TheVariants.{IsSystem}
use Rattle.session_laws.specs.session_model.specs.Commands.{refusal}
use Rattle.session_laws.specs.session_model.specs.State.{is_system}
use Rattle.port_registry.specs.Kept.{ids_in}
use Rattle.port_registry.specs.Listings.{bears_name, has_way}
use Rattle.port_registry.specs.Registered.{has_name, is_named, is_of, state_of}
use Rattle.port_registry.proofs.KeptLemmas.{its_name_is, list-at}
use Rattle.port_registry.proofs.PlaceLemmas.{position-at, position-at-some}
use Rattle.port_registry.proofs.StepLemmas.{list_there}
use Rattle.port_registry.proofs.RefusalLemmas.{refusal_unregister_none, unregister-missing, unregister-past, place-theirs}
use Rattle.port_registry.proofs.registries.Registry.unregistrable.Goals as goal

pub returns-in_default-clause-answer : goal.returns-in_default-clause-answer
returns-in_default-clause-answer c = refusal_unregister_none _ c.place.ensures.registered c.args.name.now (ap (λ n. position (has_name n) c.args.self.now.clients) (sym c.client-client.ensures) ∙ sym c.place.ensures.value ∙ c.in_default.is)

pub returns-in_default-find-clause-answer : goal.returns-in_default-find-clause-answer
returns-in_default-find-clause-answer c =
    let at : position (has_name (client_part c.args.name.now)) c.self.inside.clients.items ≡ Some c.in-Some.place = rw (← c.self.view_is) at (ap (λ n. position (has_name n) c.args.self.now.clients) (sym c.client-client.ensures) ∙ sym c.place.ensures.value ∙ c.in-Some.is) in
    let w = position-at-some (has_name (client_part c.args.name.now)) c.self.inside.clients.items c.in-Some.place at in
    let list : slice_get c.self.inside.lists.items c.in-Some.place ≡ Some c.index.result.now = list_there _ _ _ _ _ _ c.self.invariant c.in-Some.place _ c.index.result.now w.1 ∙ ap Some (sym c.index.ensures) in
    let ids : c.as_slice-ids.result.now ≡ ids_in c.self.inside.table.ports w.0 = c.as_slice-ids.ensures.value ∙ list-at _ c.self.invariant.registered _ c.self.invariant.indexed c.in-Some.place _ w.0 list w.1 in
    let found : position (bears_name c.self.inside.table.ports c.args.name.now) (ids_in c.self.inside.table.ports w.0) ≡ c.find.result = ap (position (bears_name c.self.inside.table.ports c.args.name.now)) (sym ids) ∙ sym c.find.ensures in
    let of : w.0.name ≡ client_part c.args.name.now = its_name_is _ c.self.invariant.registered (client_part c.args.name.now) c.in-Some.place w.0 at w.1 in
    rw (← c.self.view_is) (unregister-missing _ c.self.invariant.registered c.args.name.now w.0 of (found ∙ c.in_default-find.is))

pub returns-then-is_system-clause-answer : goal.returns-then-is_system-clause-answer
returns-then-is_system-clause-answer c =
    let at : position (has_name (client_part c.args.name.now)) c.self.inside.clients.items ≡ Some c.in-Some.place = rw (← c.self.view_is) at (ap (λ n. position (has_name n) c.args.self.now.clients) (sym c.client-client.ensures) ∙ sym c.place.ensures.value ∙ c.in-Some.is) in
    let w = position-at-some (has_name (client_part c.args.name.now)) c.self.inside.clients.items c.in-Some.place at in
    let list : slice_get c.self.inside.lists.items c.in-Some.place ≡ Some c.index.result.now = list_there _ _ _ _ _ _ c.self.invariant c.in-Some.place _ c.index.result.now w.1 ∙ ap Some (sym c.index.ensures) in
    let ids : c.as_slice-ids.result.now ≡ ids_in c.self.inside.table.ports w.0 = c.as_slice-ids.ensures.value ∙ list-at _ c.self.invariant.registered _ c.self.invariant.indexed c.in-Some.place _ w.0 list w.1 in
    let found : position (bears_name c.self.inside.table.ports c.args.name.now) (ids_in c.self.inside.table.ports w.0) ≡ c.find.result = ap (position (bears_name c.self.inside.table.ports c.args.name.now)) (sym ids) ∙ sym c.find.ensures in
    let of : w.0.name ≡ client_part c.args.name.now = its_name_is _ c.self.invariant.registered (client_part c.args.name.now) c.in-Some.place w.0 at w.1 in
    rw (← c.self.view_is) (unregister-past _ c.self.invariant.registered c.args.name.now w.0 of _ (found ∙ c.in-Some-find.is) ∙ ap (λ b. cond b (Some IsSystem) None) (ap is_system (sym c.client-client.ensures) ∙ sym c.is_system.ensures ∙ c.if-is_system.true))

pub returns-clause-answer : goal.returns-clause-answer
returns-clause-answer c =
    let at : position (has_name (client_part c.args.name.now)) c.self.inside.clients.items ≡ Some c.in-Some.place = rw (← c.self.view_is) at (ap (λ n. position (has_name n) c.args.self.now.clients) (sym c.client-client.ensures) ∙ sym c.place.ensures.value ∙ c.in-Some.is) in
    let w = position-at-some (has_name (client_part c.args.name.now)) c.self.inside.clients.items c.in-Some.place at in
    let list : slice_get c.self.inside.lists.items c.in-Some.place ≡ Some c.index.result.now = list_there _ _ _ _ _ _ c.self.invariant c.in-Some.place _ c.index.result.now w.1 ∙ ap Some (sym c.index.ensures) in
    let ids : c.as_slice-ids.result.now ≡ ids_in c.self.inside.table.ports w.0 = c.as_slice-ids.ensures.value ∙ list-at _ c.self.invariant.registered _ c.self.invariant.indexed c.in-Some.place _ w.0 list w.1 in
    let found : position (bears_name c.self.inside.table.ports c.args.name.now) (ids_in c.self.inside.table.ports w.0) ≡ c.find.result = ap (position (bears_name c.self.inside.table.ports c.args.name.now)) (sym ids) ∙ sym c.find.ensures in
    let of : w.0.name ≡ client_part c.args.name.now = its_name_is _ c.self.invariant.registered (client_part c.args.name.now) c.in-Some.place w.0 at w.1 in
    rw (← c.self.view_is) (unregister-past _ c.self.invariant.registered c.args.name.now w.0 of _ (found ∙ c.in-Some-find.is) ∙ ap (λ b. cond b (Some IsSystem) None) (ap is_system (sym c.client-client.ensures) ∙ sym c.is_system.ensures ∙ c.if-is_system.false))

pub returns-clause-found : goal.returns-clause-found
returns-clause-found c =
    let at : position (has_name (client_part c.args.name.now)) c.self.inside.clients.items ≡ Some c.in-Some.place = rw (← c.self.view_is) at (ap (λ n. position (has_name n) c.args.self.now.clients) (sym c.client-client.ensures) ∙ sym c.place.ensures.value ∙ c.in-Some.is) in
    let w = position-at-some (has_name (client_part c.args.name.now)) c.self.inside.clients.items c.in-Some.place at in
    let list : slice_get c.self.inside.lists.items c.in-Some.place ≡ Some c.index.result.now = list_there _ _ _ _ _ _ c.self.invariant c.in-Some.place _ c.index.result.now w.1 ∙ ap Some (sym c.index.ensures) in
    let ids : c.as_slice-ids.result.now ≡ ids_in c.self.inside.table.ports w.0 = c.as_slice-ids.ensures.value ∙ list-at _ c.self.invariant.registered _ c.self.invariant.indexed c.in-Some.place _ w.0 list w.1 in
    let found : position (bears_name c.self.inside.table.ports c.args.name.now) (ids_in c.self.inside.table.ports w.0) ≡ c.find.result = ap (position (bears_name c.self.inside.table.ports c.args.name.now)) (sym ids) ∙ sym c.find.ensures in
    let of : w.0.name ≡ client_part c.args.name.now = its_name_is _ c.self.invariant.registered (client_part c.args.name.now) c.in-Some.place w.0 at w.1 in
    rw (← c.self.view_is) (ap (λ n. position (is_named c.args.name.now) (filter (is_of n) c.self.inside.table.ports)) (sym of) ∙ sym (place-theirs _ c.self.invariant.registered c.args.name.now w.0 of) ∙ found ∙ c.in-Some-find.is)
