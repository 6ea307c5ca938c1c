-- What is short stays short behind a call.
use Rattle.std.proofs.Common.{◌≡◌, ℕ, ◌<◌, ◌≤◌, Bool, true, false, cond, not, List, [], ◌∷◌, All, is_none, refl, sym, subst, arith}
use Rattle.std.specs.Str.{bytes_eq}
use Rattle.std.proofs.lemmas.List.Elements.{All-cons}
use Rattle.jack_types.specs.declared.commands.Command.{Command}
use Rattle.jack_types.specs.declared.commands.Command.TheVariants.{Open, Close, Activate, Deactivate, Register, Unregister, Connect, Disconnect, Start, Stop, Locate, Timeout, Slow, Timebase, TimebaseIf, Release, Latency}
use Rattle.jack_types.specs.declared.kinds.Kind.{Kind}
use Rattle.jack_types.specs.declared.kinds.Kind.TheVariants.{Pass, Gain, Mix, Delay, Tone, Click, Meter, Tape, Guest, Midiplay, Midithru, Midilog, Disk}
use Rattle.jack_types.specs.declared.scripts.Header.{Header}
use Rattle.session_model.specs.Commands.{after, effect, refusal, with_client}
use Rattle.session_model.specs.Grammar.{IsCommand, IsKind}
use Rattle.session_model.specs.Latencies.{delay_of_kind}
use Rattle.session_model.specs.State.{OpenClient, State}
use Rattle.session_laws.proofs.ListLemmas.{Each, Each-append, Each-filter_kept, Each-map, Each-weaker}
use Rattle.cycle_plan.specs.Graphs.{HasTempo}

pub command-tempo : (header : Header) (command : Command) → IsCommand header command → HasTempo command
command-tempo header (Open _ _) h = tt
command-tempo header (Close _) h = tt
command-tempo header (Activate _) h = tt
command-tempo header (Deactivate _) h = tt
command-tempo header (Register _ _ _) h = tt
command-tempo header (Unregister _) h = tt
command-tempo header (Connect _ _) h = tt
command-tempo header (Disconnect _ _) h = tt
command-tempo header Start h = tt
command-tempo header Stop h = tt
command-tempo header (Locate _) h = tt
command-tempo header (Timeout _) h = tt
command-tempo header (Slow _ _) h = tt
command-tempo header (Timebase _ mbpm beats ticks) h = h.1
command-tempo header (TimebaseIf _ mbpm beats ticks) h = h.1
command-tempo header (Release _) h = tt
command-tempo header (Latency _ _) h = tt

abbrev pub IsShort : OpenClient → Type 0
IsShort client = delay_of_kind client.kind ≤ 4096

pub kind-short : (header : Header) (kind : Kind) → IsKind header kind → delay_of_kind kind ≤ 4096
kind-short header Pass h = omega arith
kind-short header (Gain _ _) h = omega arith
kind-short header Mix h = omega arith
kind-short header (Delay frames) h = h
kind-short header (Tone _ _) h = omega arith
kind-short header (Click _) h = omega arith
kind-short header Meter h = omega arith
kind-short header (Tape _) h = omega arith
kind-short header (Guest _) h = omega arith
kind-short header (Midiplay _) h = omega arith
kind-short header Midithru h = omega arith
kind-short header Midilog h = omega arith
kind-short header (Disk _) h = omega arith

pub changed-short : (name : List ℕ) (change : OpenClient → OpenClient) (clients : List OpenClient) → ((client : OpenClient) → (change client).kind ≡ client.kind) → Each IsShort clients → Each IsShort (with_client name change clients)
changed-short name change clients same h =
    Each-map IsShort (λ (client : OpenClient). cond (bytes_eq client.name name) (change client) client) clients
    (Each-weaker IsShort (λ (client : OpenClient). IsShort (cond (bytes_eq client.name name) (change client) client)) (λ client short. go client (bytes_eq client.name name) short) clients h)
  where
    go : (client : OpenClient) (b : Bool) → IsShort client → IsShort (cond b (change client) client)
    go client true short = subst (λ kind. delay_of_kind kind ≤ 4096) (sym (same client)) short
    go client false short = short

pub effect-short : (header : Header) (state : State) (number : ℕ) (command : Command) → IsCommand header command → Each IsShort state.clients → Each IsShort (effect state number command).clients
effect-short header state number (Open client kind) c h =
    Each-append IsShort state.clients (record { name = client; kind = kind; birth = number; active = false; slow = 0 } ∷ []) h (kind-short header kind c.1, tt)
effect-short header state number (Close client) c h = Each-filter_kept IsShort (λ (old : OpenClient). not (bytes_eq old.name client)) state.clients h
effect-short header state number (Activate client) c h = changed-short client (λ (old : OpenClient). record old { active = true }) state.clients (λ old. refl) h
effect-short header state number (Deactivate client) c h = changed-short client (λ (old : OpenClient). record old { active = false }) state.clients (λ old. refl) h
effect-short header state number (Register _ _ _) c h = h
effect-short header state number (Unregister _) c h = h
effect-short header state number (Connect _ _) c h = h
effect-short header state number (Disconnect _ _) c h = h
effect-short header state number Start c h = h
effect-short header state number Stop c h = h
effect-short header state number (Locate _) c h = h
effect-short header state number (Timeout _) c h = h
effect-short header state number (Slow client cycles) c h = changed-short client (λ (old : OpenClient). record old { slow = cycles }) state.clients (λ old. refl) h
effect-short header state number (Timebase _ _ _ _) c h = h
effect-short header state number (TimebaseIf _ _ _ _) c h = h
effect-short header state number (Release _) c h = h
effect-short header state number (Latency _ _) c h = h

pub after-short : (header : Header) (state : State) (number : ℕ) (command : Command) → IsCommand header command → Each IsShort state.clients → Each IsShort (after state number command).clients
after-short header state number command c h = go (is_none (refusal state command))
  where
    go : (b : Bool) → Each IsShort (cond b (effect state number command) state).clients
    go true = effect-short header state number command c h
    go false = h

pub All-each : {X : Type 0} (P : X → Type 0) (xs : List X) → Each P xs → All P xs
All-each P [] h = λ k d b. absurd (none b)
  where
    none : {k : ℕ} → k < 0 → ⊥
    none b = omega arith
All-each P (x ∷ xs) h = All-cons P x xs h.0 (All-each P xs h.1)
