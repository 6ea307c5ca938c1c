-- The device's ports stay as they were.
--     playback_ports      the audio inputs of `system` are the playback ports
--     capture_ports      its audio outputs are the capture ports
use Rattle.std.proofs.Common.{◌≡◌, ℕ, zero, suc, Bool, true, false, cond, not, ◌&&◌, List, [], ◌∷◌, ◌++◌, map, filter, find, is_none, refl, sym, ◌∙◌, ap, true≢false, append-nil}
use Rattle.std.specs.Str.{bytes_eq}
use Rattle.std.proofs.lemmas.List.{map-append}
use Rattle.std.proofs.lemmas.List.Elements.{filter-append}
use Rattle.jack_types.specs.Names.{client_part}
use Rattle.jack_types.specs.declared.commands.Change.{Change}
use Rattle.jack_types.specs.declared.commands.Command.{Command}
use Rattle.jack_types.specs.declared.commands.Command.TheVariants.{Open, Close, Activate, Deactivate, Register, Unregister, Connect, Disconnect, Start, Stop, Locate, Timeout, Slow, Timebase, TimebaseIf, Release, Latency}
use Rattle.jack_types.specs.declared.replies.Refusal.TheVariants.{NoClient, NoPort, IsSystem, NameTaken, PortsFull}
use Rattle.session_model.specs.Commands.{after, applies, effect, is_audio, is_input, ports_of, refusal, refusals_of, replay}
use Rattle.session_model.specs.Cycles.{audio_inputs, audio_outputs}
use Rattle.session_model.specs.Samples.{below}
use Rattle.session_model.specs.State.{OpenPort, State, capture_port, is_system, opening, playback_port, system_name}
use Rattle.cycle_plan.specs.session_laws.proofs.CycleLemmas.{bytes_same}
use Rattle.cycle_plan.specs.session_laws.proofs.LoopLemmas.{Contains-first, Contains-later}
use Rattle.cycle_plan.specs.session_laws.proofs.SoundLemmas.{refused_not}

-- a test of what passes another is as before, where it asks for more
filter-stronger : {X : Type 0} (p q : X → Bool) (xs : List X) → ((x : X) → p x ≡ true → q x ≡ true) → filter p (filter q xs) ≡ filter p xs
filter-stronger p q [] more = refl
filter-stronger p q (x ∷ xs) more = go (q x) (p x) refl refl (filter-stronger p q xs more)
  where
    go : (b c : Bool) → q x ≡ b → p x ≡ c → filter p (filter q xs) ≡ filter p xs → filter p (cond b (x ∷ filter q xs) (filter q xs)) ≡ cond c (x ∷ filter p xs) (filter p xs)
    go true c e f rest = ap (λ b. cond b (x ∷ filter p (filter q xs)) (filter p (filter q xs))) f ∙ ap (λ ys. cond c (x ∷ ys) ys) rest
    go false true e f rest = absurd (true≢false (sym (more x f) ∙ e))
    go false false e f rest = rest

-- a port of the device is of no other client
other_name : (name other : List ℕ) → is_system other ≡ false → bytes_eq name system_name ≡ true → not (bytes_eq name other) ≡ true
other_name name other apart device = go (bytes_eq name other) refl
  where
    go : (b : Bool) → bytes_eq name other ≡ b → not b ≡ true
    go false e = refl
    go true e = absurd (true≢false (sym device ∙ ap is_system (bytes_same name other e) ∙ apart))

abbrev is_device : OpenPort → Bool
is_device port = bytes_eq (client_part port.name) system_name

devices-effect : (state : State) (number : ℕ) (command : Command) → is_none (find (applies state command) (refusals_of command)) ≡ true → ports_of (effect state number command) system_name ≡ ports_of state system_name
devices-effect state number (Close name) accepted =
    filter-stronger is_device (λ (port : OpenPort). not (bytes_eq (client_part port.name) name)) state.ports (λ port t. other_name (client_part port.name) name apart t)
  where
    apart : is_system name ≡ false
    apart = refused_not state (Close name) (refusals_of (Close name)) IsSystem accepted (Contains-later NoClient IsSystem (IsSystem ∷ []) (Contains-first IsSystem []))
devices-effect state number (Unregister name) accepted =
    filter-stronger is_device (λ (port : OpenPort). not (bytes_eq port.name name)) state.ports another
  where
    apart : is_system (client_part name) ≡ false
    apart = refused_not state (Unregister name) (refusals_of (Unregister name)) IsSystem accepted (Contains-later NoPort IsSystem (IsSystem ∷ []) (Contains-first IsSystem []))

    another : (port : OpenPort) → is_device port ≡ true → not (bytes_eq port.name name) ≡ true
    another port device = go (bytes_eq port.name name) refl
      where
        go : (b : Bool) → bytes_eq port.name name ≡ b → not b ≡ true
        go false e = refl
        go true e = absurd (true≢false (sym device ∙ ap (λ n. is_system (client_part n)) (bytes_same port.name name e) ∙ apart))
devices-effect state number (Register name way kind) accepted =
    filter-append is_device state.ports (new ∷ [])
    ∙ ap (λ b. filter is_device state.ports ++ cond b (new ∷ []) []) apart
    ∙ append-nil (filter is_device state.ports)
  where
    new : OpenPort
    new = record { name = name; way = way; kind = kind; birth = number }

    apart : is_system (client_part name) ≡ false
    apart = refused_not state (Register name way kind) (refusals_of (Register name way kind)) IsSystem accepted (Contains-later NoClient IsSystem (IsSystem ∷ NameTaken ∷ PortsFull ∷ []) (Contains-first IsSystem (NameTaken ∷ PortsFull ∷ [])))
devices-effect state number (Open name kind) accepted = refl
devices-effect state number (Activate name) accepted = refl
devices-effect state number (Deactivate name) accepted = refl
devices-effect state number (Connect source destination) accepted = refl
devices-effect state number (Disconnect source destination) accepted = refl
devices-effect state number Start accepted = refl
devices-effect state number Stop accepted = refl
devices-effect state number (Locate frame) accepted = refl
devices-effect state number (Timeout cycles) accepted = refl
devices-effect state number (Slow name cycles) accepted = refl
devices-effect state number (Timebase name mbpm beats ticks) accepted = refl
devices-effect state number (TimebaseIf name mbpm beats ticks) accepted = refl
devices-effect state number (Release name) accepted = refl
devices-effect state number (Latency mode port) accepted = refl

devices-after : (state : State) (number : ℕ) (command : Command) → ports_of (after state number command) system_name ≡ ports_of state system_name
devices-after state number command = go (is_none (refusal state command)) refl
  where
    go : (b : Bool) → is_none (refusal state command) ≡ b → ports_of (cond b (effect state number command) state) system_name ≡ ports_of state system_name
    go true e = devices-effect state number command e
    go false e = refl

devices-replay : (state : State) (changes : List Change) → ports_of (replay state changes) system_name ≡ ports_of state system_name
devices-replay state [] = refl
devices-replay state (change ∷ changes) = devices-replay (after state change.number change.command) changes ∙ devices-after state change.number change.command

-- where all of a row pass, and where none
filter-all_made : {X : Type 0} (p : X → Bool) (f : ℕ → X) (n : ℕ) → ((i : ℕ) → p (f i) ≡ true) → filter p (map f (below n)) ≡ map f (below n)
filter-all_made p f zero h = refl
filter-all_made p f (suc n) h =
    ap (filter p) (map-append f (below n) (n ∷ [])) ∙ filter-append p (map f (below n)) (f n ∷ [])
    ∙ ap (λ b. filter p (map f (below n)) ++ cond b (f n ∷ []) []) (h n) ∙ ap (λ l. l ++ f n ∷ []) (filter-all_made p f n h) ∙ sym (map-append f (below n) (n ∷ []))

filter-none_made : {X : Type 0} (p : X → Bool) (f : ℕ → X) (n : ℕ) → ((i : ℕ) → p (f i) ≡ false) → filter p (map f (below n)) ≡ []
filter-none_made p f zero h = refl
filter-none_made p f (suc n) h =
    ap (filter p) (map-append f (below n) (n ∷ [])) ∙ filter-append p (map f (below n)) (f n ∷ [])
    ∙ ap (λ b. filter p (map f (below n)) ++ cond b (f n ∷ []) []) (h n) ∙ ap (λ l. l ++ []) (filter-none_made p f n h)

pub playback_ports : (capture playback : ℕ) (changes : List Change) → audio_inputs (replay (opening capture playback) changes) system_name ≡ map playback_port (below playback)
playback_ports capture playback changes =
    ap (filter inputs)
    (devices-replay (opening capture playback) changes
    ∙ filter-append is_device (map capture_port (below capture)) (map playback_port (below playback))
    ∙ ap (λ l. l ++ filter is_device (map playback_port (below playback))) (filter-all_made is_device capture_port capture (λ i. refl))
    ∙ ap (λ l. map capture_port (below capture) ++ l) (filter-all_made is_device playback_port playback (λ i. refl)))
    ∙ filter-append inputs (map capture_port (below capture)) (map playback_port (below playback))
    ∙ ap (λ l. l ++ filter inputs (map playback_port (below playback))) (filter-none_made inputs capture_port capture (λ i. refl))
    ∙ filter-all_made inputs playback_port playback (λ i. refl)
  where
    inputs : OpenPort → Bool
    inputs port = is_audio port && is_input port

pub capture_ports : (capture playback : ℕ) (changes : List Change) → audio_outputs (replay (opening capture playback) changes) system_name ≡ map capture_port (below capture)
capture_ports capture playback changes =
    ap (filter outputs)
    (devices-replay (opening capture playback) changes
    ∙ filter-append is_device (map capture_port (below capture)) (map playback_port (below playback))
    ∙ ap (λ l. l ++ filter is_device (map playback_port (below playback))) (filter-all_made is_device capture_port capture (λ i. refl))
    ∙ ap (λ l. map capture_port (below capture) ++ l) (filter-all_made is_device playback_port playback (λ i. refl)))
    ∙ filter-append outputs (map capture_port (below capture)) (map playback_port (below playback))
    ∙ ap (λ l. filter outputs (map capture_port (below capture)) ++ l) (filter-none_made outputs playback_port playback (λ i. refl))
    ∙ append-nil (filter outputs (map capture_port (below capture)))
    ∙ filter-all_made outputs capture_port capture (λ i. refl)
  where
    outputs : OpenPort → Bool
    outputs port = is_audio port && not (is_input port)
