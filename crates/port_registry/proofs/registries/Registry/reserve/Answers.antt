use Rattle.std.proofs.Common.{◌≡◌, ◌≤◌, max, map, sym, ◌∙◌, ap, ap₂, subst, arith}
use Rattle.port_registry.specs.Kept.{items_of, ids_in, AreFree}
use Rattle.port_registry.proofs.RegisteredLemmas.{IsRegistered-same}
use Rattle.port_registry.proofs.registries.Registry.reserve.Goals as goal

pub invariant_of-self-2 : goal.invariant_of-self-2
invariant_of-self-2 c = record {
  registered = IsRegistered-same _ c.self.invariant.registered _ _ _ _ c.widen.ensures.items c.reserve.ensures.ports;
  indexed = ap items_of c.widen-2.ensures.items ∙ c.self.invariant.indexed ∙ ap₂ (λ ps cs. map (ids_in ps) cs) (sym c.reserve.ensures.ports) (sym c.widen.ensures.items);
  unused = subst (λ cs. AreFree c.self.inside.free.items cs) (sym c.widen.ensures.items) c.self.invariant.unused;
  fits_clients = omega (arith, c.max-self-inside.ensures, c.in_ok-widen.ensures.room, c.widen.ensures.more, c.self.invariant.fits_clients);
  fits_lists = omega (arith, c.max-self-inside.ensures, c.in_ok-widen-2.ensures.room, c.widen-2.ensures.more, c.self.invariant.fits_lists);
  fits_ports = omega (arith, c.max-self-inside-2.ensures, c.in_ok-reserve.ensures.room, c.reserve.ensures.more, c.self.invariant.fits_ports);
  most_ports = omega (arith, c.max-self-inside-2.ensures, c.requires.most_ports, c.self.invariant.most_ports);
}

pub returns-clause-registered : goal.returns-clause-registered
returns-clause-registered c = (invariant_of-self-2 c).registered
