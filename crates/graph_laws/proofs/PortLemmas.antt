-- How many ports of one direction a client has.
--     few-replay      behind changes a client has at most 16, where `system` has
use Rattle.std.proofs.Common.{◌≡◌, ℕ, ◌+◌, ◌<◌, ◌≤◌, Bool, true, false, cond, not, ◌&&◌, List, [], ◌∷◌, ◌++◌, length, map, filter, count_by, is_none, refl, sym, ◌∙◌, arith, true≢false}
use Rattle.std.proofs.lemmas.Bool.{leb-false}
use Rattle.std.specs.Str.{bytes_eq}
use Rattle.std.proofs.lemmas.List.Sums.{count_by-le-length}
use Rattle.jack_types.specs.Names.{client_part}
use Rattle.jack_types.specs.declared.commands.Change.{Change}
use Rattle.jack_types.specs.declared.commands.Command.{Command}
use Rattle.jack_types.specs.declared.commands.Command.TheVariants.{Open, Close, Activate, Deactivate, Register, Unregister, Connect, Disconnect, Start, Stop, Locate, Timeout, Slow, Timebase, TimebaseIf, Release, Latency}
use Rattle.jack_types.specs.declared.ports.PortKind.{PortKind}
use Rattle.jack_types.specs.declared.ports.Way.{Way}
use Rattle.jack_types.specs.declared.ports.Way.TheVariants.{In, Out}
use Rattle.jack_types.specs.declared.replies.Refusal.TheVariants.{PortsFull}
use Rattle.session_model.specs.Commands.{after, effect, is_audio, is_input, is_way, ports_of, refusal, refusals_of, replay}
use Rattle.session_model.specs.Cycles.{audio_inputs, audio_outputs}
use Rattle.session_model.specs.Samples.{below}
use Rattle.session_model.specs.State.{OpenPort, State, capture_port, opening, playback_port}
use Rattle.session_laws.proofs.FilterLemmas.{count-append, count-cons, count-fewer, filter-push}
use Rattle.session_laws.proofs.ActivationLemmas.{length-map_below}
use Rattle.session_laws.proofs.CycleLemmas.{bytes_same}
use Rattle.session_laws.proofs.SoundLemmas.{refused_not}

-- how many ports of a direction a client has
abbrev port_count : Way → State → List ℕ → ℕ
port_count way state name = count_by (is_way way) (ports_of state name)

abbrev AreFew : Way → State → Type 0
AreFew way state = (name : List ℕ) → port_count way state name ≤ 16

count-filter : {X : Type 0} (p among : X → Bool) (xs : List X) → count_by p (filter among xs) ≤ count_by p xs
count-filter p among [] = omega arith
count-filter p among (x ∷ xs) = go (among x) (count-filter p among xs)
  where
    go : (b : Bool) → count_by p (filter among xs) ≤ count_by p xs → count_by p (cond b (x ∷ filter among xs) (filter among xs)) ≤ count_by p (x ∷ xs)
    go true rest = rw (count-cons p x xs, count-cons p x (filter among xs)) (omega (arith, rest))
    go false rest = rw (count-cons p x xs) (omega (arith, rest))

-- where fewer than 16 of a direction are counted, one more may be
few-push : (p among : OpenPort → Bool) (ports : List OpenPort) (new : OpenPort) → (among new ≡ true → p new ≡ true → count_by p (filter among ports) < 16) → count_by p (filter among ports) ≤ 16
    → count_by p (filter among (ports ++ new ∷ [])) ≤ 16
few-push p among ports new room few = rw (filter-push among ports new, count-append p (filter among ports) (cond (among new) (new ∷ []) [])) (go (among new) (p new) refl refl)
  where
    go : (a b : Bool) → among new ≡ a → p new ≡ b → count_by p (filter among ports) + count_by p (cond a (new ∷ []) []) ≤ 16
    go true true e f = rw (count-cons p new [], f) (omega (arith, room e f))
    go true false e f = rw (count-cons p new [], f) (omega (arith, few))
    go false b e f = omega (arith, few)

-- a port that passes the test of a way has it
same-way : (a b : Way) (name : List ℕ) (kind : PortKind) (birth : ℕ) → is_way a (record { name = name; way = b; kind = kind; birth = birth }) ≡ true → a ≡ b
same-way In In name kind birth h = refl
same-way Out Out name kind birth h = refl
same-way In Out name kind birth h = absurd (true≢false (sym h))
same-way Out In name kind birth h = absurd (true≢false (sym h))

few-effect : (way : Way) (state : State) (number : ℕ) (command : Command) → is_none (refusal state command) ≡ true → AreFew way state → AreFew way (effect state number command)
few-effect way state number (Open client kind) accepted few name = few name
few-effect way state number (Close client) accepted few name =
    omega (arith, few name, count-fewer (is_way way) (λ (port : OpenPort). bytes_eq (client_part port.name) name) (λ port. not (bytes_eq (client_part port.name) client)) state.ports)
few-effect way state number (Activate client) accepted few name = few name
few-effect way state number (Deactivate client) accepted few name = few name
few-effect way state number (Register port other kind) accepted few name = few-push (is_way way) (λ (one : OpenPort). bytes_eq (client_part one.name) name) state.ports new room (few name)
  where
    new : OpenPort
    new = record { name = port; way = other; kind = kind; birth = number }

    its : port_count other state (client_part port) < 16
    its = leb-false 16 (port_count other state (client_part port)) (refused_not state (Register port other kind) (refusals_of (Register port other kind)) PortsFull accepted (3, omega arith, refl))

    room : bytes_eq (client_part port) name ≡ true → is_way way new ≡ true → port_count way state name < 16
    room e f =
        let same : client_part port ≡ name = bytes_same (client_part port) name e in
        let ways : way ≡ other = same-way way other port kind number f in
        rw (ways, sym same) its
few-effect way state number (Unregister port) accepted few name =
    omega (arith, few name, count-fewer (is_way way) (λ (port : OpenPort). bytes_eq (client_part port.name) name) (λ other. not (bytes_eq other.name port)) state.ports)
few-effect way state number (Connect source destination) accepted few name = few name
few-effect way state number (Disconnect source destination) accepted few name = few name
few-effect way state number Start accepted few name = few name
few-effect way state number Stop accepted few name = few name
few-effect way state number (Locate frame) accepted few name = few name
few-effect way state number (Timeout cycles) accepted few name = few name
few-effect way state number (Slow client cycles) accepted few name = few name
few-effect way state number (Timebase client mbpm beats ticks) accepted few name = few name
few-effect way state number (TimebaseIf client mbpm beats ticks) accepted few name = few name
few-effect way state number (Release client) accepted few name = few name
few-effect way state number (Latency mode port) accepted few name = few name

few-replay : (way : Way) (changes : List Change) (state : State) → AreFew way state → AreFew way (replay state changes)
few-replay way [] state few = few
few-replay way (change ∷ changes) state few = few-replay way changes (after state change.number change.command) (go (is_none (refusal state change.command)) refl)
  where
    go : (b : Bool) → is_none (refusal state change.command) ≡ b → AreFew way (cond b (effect state change.number change.command) state)
    go true e = few-effect way state change.number change.command e few
    go false e = few

count-none : {X : Type 0} (f : X → OpenPort) (way : Way) → ((x : X) → is_way way (f x) ≡ false) → (xs : List X) → count_by (is_way way) (map f xs) ≡ 0
count-none f way none [] = refl
count-none f way none (x ∷ xs) = count-cons (is_way way) (f x) (map f xs) ∙ rw (none x, count-none f way none xs) refl

few-opening : (way : Way) (capture playback : ℕ) → (way ≡ In → playback ≤ 16) → (way ≡ Out → capture ≤ 16) → AreFew way (opening capture playback)
few-opening way capture playback inputs outputs name =
    let within : port_count way (opening capture playback) name ≤ count_by (is_way way) (opening capture playback).ports =
    count-filter (is_way way) (λ (port : OpenPort). bytes_eq (client_part port.name) name) (opening capture playback).ports in
    let both : count_by (is_way way) (opening capture playback).ports ≡ count_by (is_way way) (map capture_port (below capture)) + count_by (is_way way) (map playback_port (below playback)) =
    count-append (is_way way) (map capture_port (below capture)) (map playback_port (below playback)) in
    omega (arith, within, both, by way inputs outputs)
  where
    captures : (to : Way) → count_by (is_way to) (map capture_port (below capture)) ≤ capture
    captures to = omega (arith, count_by-le-length (is_way to) (map capture_port (below capture)), length-map_below capture_port capture)

    playbacks : (to : Way) → count_by (is_way to) (map playback_port (below playback)) ≤ playback
    playbacks to = omega (arith, count_by-le-length (is_way to) (map playback_port (below playback)), length-map_below playback_port playback)

    by : (to : Way) → (to ≡ In → playback ≤ 16) → (to ≡ Out → capture ≤ 16) → count_by (is_way to) (map capture_port (below capture)) + count_by (is_way to) (map playback_port (below playback)) ≤ 16
    by In ins outs = omega (arith, count-none capture_port In (λ i. refl) (below capture), playbacks In, ins refl)
    by Out ins outs = omega (arith, count-none playback_port Out (λ i. refl) (below playback), captures Out, outs refl)

few-filter : (p q : OpenPort → Bool) (ports : List OpenPort) → length (filter (λ port. p port && q port) ports) ≤ count_by q ports
few-filter p q [] = omega arith
few-filter p q (port ∷ ports) = go (p port) (q port) refl (few-filter p q ports)
  where
    go : (a b : Bool) → q port ≡ b → length (filter (λ port. p port && q port) ports) ≤ count_by q ports
        → length (cond (a && b) (port ∷ filter (λ port. p port && q port) ports) (filter (λ port. p port && q port) ports)) ≤ count_by q (port ∷ ports)
    go true true e rest = rw (count-cons q port ports, e) (omega (arith, rest))
    go true false e rest = rw (count-cons q port ports, e) (omega (arith, rest))
    go false b e rest = rw (count-cons q port ports) (omega (arith, rest))

pub few-inputs : (capture playback : ℕ) (changes : List Change) (name : List ℕ) → playback ≤ 16 → length (audio_inputs (replay (opening capture playback) changes) name) ≤ 16
few-inputs capture playback changes name h =
    let few : port_count In (replay (opening capture playback) changes) name ≤ 16 = few-replay In changes (opening capture playback) (few-opening In capture playback (λ e. h) (λ e. absurd (apart e))) name in
    omega (arith, few, few-filter is_audio is_input (ports_of (replay (opening capture playback) changes) name))
  where
    apart : In ≡ Out → ⊥
    apart e = cc

pub few-outputs : (capture playback : ℕ) (changes : List Change) (name : List ℕ) → capture ≤ 16 → length (audio_outputs (replay (opening capture playback) changes) name) ≤ 16
few-outputs capture playback changes name h =
    let few : port_count Out (replay (opening capture playback) changes) name ≤ 16 = few-replay Out changes (opening capture playback) (few-opening Out capture playback (λ e. absurd (apart e)) (λ e. h)) name in
    omega (arith, few, few-filter is_audio (λ port. not (is_input port)) (ports_of (replay (opening capture playback) changes) name))
  where
    apart : Out ≡ In → ⊥
    apart e = cc
