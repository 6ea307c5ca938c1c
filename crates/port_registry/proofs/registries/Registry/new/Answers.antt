use Rattle.std.proofs.Common.{◌≡◌, ◌≤◌, ◌++◌, ◌∷◌, [], length, map, sym, ◌∙◌, ap, subst, arith}
use Rattle.session_laws.specs.jack_types.specs.declared.ports.Way.TheVariants.{In, Out}
use Rattle.session_laws.specs.session_model.specs.Samples.{below}
use Rattle.port_registry.specs.Kept.{AreFree, ids_in, items_of}
use Rattle.port_registry.specs.Registered.{system_port, system_ports, unlisted}
use Rattle.port_registry.proofs.OpeningLemmas.{opened-state, IsRegistered-opening, all-theirs}
use Rattle.port_registry.proofs.registries.Registry.new.Goals as goal

pub invariant_of-result : goal.invariant_of-result
invariant_of-result c =
    let all : map unlisted c.add_device_ports-2.new.table.ports ≡ system_ports c.args.capture c.args.playback
    = c.in_ok-add_device_ports-2.ensures.ports ∙ ap (λ ps. ps ++ map (system_port In) (below c.args.playback)) (c.in_ok-add_device_ports.ensures.ports ∙ ap (λ ps. map unlisted ps ++ map (system_port Out) (below c.args.capture)) c.in_ok-table.ensures.ports) in
    let none = ap length c.in_ok-table.ensures.ports in
    let long : length c.add_device_ports-2.new.table.ports ≤ 16 = omega (arith, c.in_ok-add_device_ports-2.ensures.long, c.in_ok-add_device_ports.ensures.long, none, c.requires.capture, c.requires.playback) in
    record {
      registered = IsRegistered-opening c.args.capture c.args.playback c.requires.capture c.requires.playback _ _ 0 0 (c.in_ok-clients.ensures ∙ ap (λ x. x ∷ []) c.system_client.ensures) all _ c.in_ok-add_device_ports-2.ensures.listed long;
      indexed = ap items_of c.in_ok-lists.ensures ∙ ap (λ xs. xs ∷ []) (all-theirs c.args.capture c.args.playback c.requires.capture c.requires.playback _ _ 0 0 (c.in_ok-clients.ensures ∙ ap (λ x. x ∷ []) c.system_client.ensures) all _ c.in_ok-add_device_ports-2.ensures.listed long)
          ∙ ap (map (ids_in c.add_device_ports-2.new.table.ports)) (sym (c.in_ok-clients.ensures ∙ ap (λ x. x ∷ []) c.system_client.ensures));
      unused = subst (λ cs. AreFree c.free_ids.result.items cs) (sym (c.in_ok-clients.ensures ∙ ap (λ x. x ∷ []) c.system_client.ensures)) c.free_ids.ensures;
      fits_clients = omega arith;
      fits_lists = omega arith;
      fits_ports = omega arith;
      most_ports = omega arith;
    }

pub returns-clause-opening : goal.returns-clause-opening
returns-clause-opening c =
    let all : map unlisted c.add_device_ports-2.new.table.ports ≡ system_ports c.args.capture c.args.playback
    = c.in_ok-add_device_ports-2.ensures.ports ∙ ap (λ ps. ps ++ map (system_port In) (below c.args.playback)) (c.in_ok-add_device_ports.ensures.ports ∙ ap (λ ps. map unlisted ps ++ map (system_port Out) (below c.args.capture)) c.in_ok-table.ensures.ports) in
    opened-state c.args.capture c.args.playback c.requires.capture c.requires.playback _ _ 0 0 (c.in_ok-clients.ensures ∙ ap (λ x. x ∷ []) c.system_client.ensures) all

pub returns-clause-registered : goal.returns-clause-registered
returns-clause-registered c = (invariant_of-result c).registered
