-- What the clients of a state are, by the changes that led to it.
--     clients-old      behind calls of an old script each client's kind is an old one
use Rattle.std.proofs.Common.{◌≡◌, ℕ, ◌<◌, Bool, true, false, cond, not, List, [], ◌∷◌, Contains, Some, refl}
use Rattle.std.specs.Str.{bytes_eq}
use Rattle.jack_types.specs.declared.commands.Change.{Change}
use Rattle.jack_types.specs.declared.commands.Command.{Command}
use Rattle.jack_types.specs.declared.commands.Command.TheVariants.{Open, Close, Activate, Deactivate, Register, Unregister, Connect, Disconnect, Start, Stop, Locate, Timeout, Slow, Timebase, TimebaseIf, Release, Latency}
use Rattle.jack_types.specs.declared.kinds.Kind.{Kind}
use Rattle.driver_laws.specs.session_model.specs.Commands.{effect, replay, with_client}
use Rattle.driver_laws.specs.session_model.specs.Grammar.{IsCommand, IsScript}
use Rattle.driver_laws.specs.session_model.specs.Scripts.{Script, Planned, planned}
use Rattle.driver_laws.specs.session_model.specs.State.{OpenClient, State, opening}
use Rattle.driver_laws.specs.session_laws.proofs.ListLemmas.{Each, Each-append, Each-contains, Each-filter_kept, Each-map, Each-weaker}
use Rattle.driver_laws.specs.Keeping.{AreOfCalls}
use Rattle.task_laws.specs.Calls.{IsOldKind, kind_opened}
use Rattle.task_laws.proofs.CallLemmas.{changes-all, planned-lawful, replay-keeps}
use Rattle.task_laws.proofs.KindLemmas.{old, opened-kind}

module _ (P : Kind → Type 0) where
  abbrev Has : OpenClient → Type 0
  Has client = P client.kind

  abbrev OpensSuch : Command → Type 0
  OpensSuch command = (kind : Kind) → kind_opened command ≡ Some kind → P kind

  changed-has : (name : List ℕ) (change : OpenClient → OpenClient) → ((client : OpenClient) → (change client).kind ≡ client.kind) → (clients : List OpenClient) → Each Has clients → Each Has (with_client name change clients)
  changed-has name change same clients h =
      Each-map Has (λ client. cond (bytes_eq client.name name) (change client) client) clients (Each-weaker Has (λ client. Has (cond (bytes_eq client.name name) (change client) client)) (λ client k. go client (bytes_eq client.name name) k) clients h)
    where
      go : (client : OpenClient) (b : Bool) → Has client → Has (cond b (change client) client)
      go client true k = rw (same client) k
      go client false k = k

  clients-effect : (state : State) (number : ℕ) (command : Command) → OpensSuch command → Each Has state.clients → Each Has (effect state number command).clients
  clients-effect state number (Open name kind) opened h = Each-append Has state.clients (record { name = name; kind = kind; birth = number; active = false; slow = 0 } ∷ []) h (opened kind refl, tt)
  clients-effect state number (Close name) opened h = Each-filter_kept Has (λ (client : OpenClient). not (bytes_eq client.name name)) state.clients h
  clients-effect state number (Activate name) opened h = changed-has name (λ client. record client { active = true }) (λ client. refl) state.clients h
  clients-effect state number (Deactivate name) opened h = changed-has name (λ client. record client { active = false }) (λ client. refl) state.clients h
  clients-effect state number (Register port way kind) opened h = h
  clients-effect state number (Unregister port) opened h = h
  clients-effect state number (Connect source destination) opened h = h
  clients-effect state number (Disconnect source destination) opened h = h
  clients-effect state number Start opened h = h
  clients-effect state number Stop opened h = h
  clients-effect state number (Locate frame) opened h = h
  clients-effect state number (Timeout cycles) opened h = h
  clients-effect state number (Slow name cycles) opened h = changed-has name (λ client. record client { slow = cycles }) (λ client. refl) state.clients h
  clients-effect state number (Timebase name mbpm beats ticks) opened h = h
  clients-effect state number (TimebaseIf name mbpm beats ticks) opened h = h
  clients-effect state number (Release name) opened h = h
  clients-effect state number (Latency mode port) opened h = h

pub clients-old : (script : Script) (changes : List Change) (capture playback : ℕ) → IsScript script → script.header.version < 3 → AreOfCalls script changes
    → (client : OpenClient) → Contains (replay (opening capture playback) changes).clients client → IsOldKind client.kind
clients-old script changes capture playback is low of client m =
    Each-contains (λ (c : OpenClient). IsOldKind c.kind) (replay (opening capture playback) changes).clients client
    (replay-keeps (λ state. Each (Has IsOldKind) state.clients) (OpensSuch IsOldKind) (λ state number command opened accepted h. clients-effect IsOldKind state number command opened h) changes (opening capture playback)
    (changes-all (OpensSuch IsOldKind) script changes of lawful) (tt, tt)) m
  where
    lawful : Each (λ (plan : Planned). OpensSuch IsOldKind plan.call.command) (planned script)
    lawful = Each-weaker (λ (plan : Planned). IsCommand script.header plan.call.command) (λ (plan : Planned). OpensSuch IsOldKind plan.call.command)
        (λ plan h kind e. old script.header low kind (opened-kind script.header plan.call.command kind h e)) (planned script) (planned-lawful script is)
