use Rattle.std.proofs.Common.{not}
use Rattle.port_registry.specs.Registered.{has_name, is_named, is_of}
use Rattle.port_registry.proofs.BirthLemmas.{in_order-active, in_order-left, in_order-pushed, in_order-system}
use Rattle.port_registry.proofs.births.ports_stand_in_order_of_birth.Goals as goal

pub returns-clause-opening : goal.returns-clause-opening
returns-clause-opening c = in_order-system

pub returns-clause-registered : goal.returns-clause-registered
returns-clause-registered c = λ held port. in_order-pushed held.ports port

pub returns-clause-closed : goal.returns-clause-closed
returns-clause-closed c = λ held name. in_order-left (λ port. not (is_of name port)) held.ports

pub returns-clause-active : goal.returns-clause-active
returns-clause-active c = λ held name active. in_order-active name active held.ports

pub returns-clause-unregistered : goal.returns-clause-unregistered
returns-clause-unregistered c = λ held name. in_order-left (λ port. not (is_named name port)) held.ports
