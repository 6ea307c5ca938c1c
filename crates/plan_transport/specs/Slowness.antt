-- Inside: the slow numbers of clients. No public clause cites this module.
--     slow_of clients      each client's slow number, 0 where it has none
use Rattle.std.specs.Prelude.{ℕ, List, map}
use Rattle.jack_types.specs.declared.ports.Client.{Client}

abbrev pub slow_of : List Client → List ℕ
slow_of clients = map (λ (client : Client). client.slow) clients
