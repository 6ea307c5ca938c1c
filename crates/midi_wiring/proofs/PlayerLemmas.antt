-- Events come from clients that play.
--     played-lower      over a direct edge from a lower node
--     always-played      each connection into a MIDI input comes from one
use Rattle.std.proofs.Common.{◌≡◌, ℕ, ◌<◌, Bool, true, false, cond, not, ◌⊎◌, inl, inr, List, [], ◌∷◌, find, map, Contains, Option, Some, None, is_none, refl, sym, ◌∙◌, ap, arith, subst, true≢false}
use Rattle.std.specs.Str.{bytes_eq}
use Rattle.jack_types.specs.Names.{client_part}
use Rattle.jack_types.specs.declared.commands.Change.{Change}
use Rattle.jack_types.specs.declared.commands.Command.{Command}
use Rattle.jack_types.specs.declared.commands.Command.TheVariants.{Open, Close, Activate, Deactivate, Register, Unregister, Connect, Disconnect, Start, Stop, Locate, Timeout, Slow, Timebase, TimebaseIf, Release, Latency}
use Rattle.jack_types.specs.declared.ports.Link.{Link}
use Rattle.jack_types.specs.declared.ports.Mark.{Mark}
use Rattle.jack_types.specs.declared.ports.Mark.TheVariants.{Direct, Feedback}
use Rattle.jack_types.specs.declared.ports.PortKind.{PortKind}
use Rattle.jack_types.specs.declared.ports.Way.{Way}
use Rattle.jack_types.specs.declared.replies.Refusal.TheVariants.{IsSystem, NameTaken, NoClient, PortsFull}
use Rattle.session_model.specs.Benches.{place_in, port_place}
use Rattle.session_model.specs.Commands.{after, applies, effect, is_audio, refusal, refusals_of, replay}
use Rattle.session_model.specs.Cycles.{midi_inputs}
use Rattle.session_model.specs.Samples.{below}
use Rattle.session_model.specs.Soundness.{IsEnd}
use Rattle.session_model.specs.State.{Connection, OpenClient, OpenPort, State, capture_port, is_system, opening, playback_port}
use Rattle.session_laws.proofs.LoopFreeLemmas.{Contains-append_cases}
use Rattle.session_laws.proofs.LoopLemmas.{Contains-cases, Contains-first, Contains-later}
use Rattle.session_laws.proofs.PlaceLemmas.{filter-contains}
use Rattle.session_laws.proofs.SoundLemmas.{contains-map, refused_not}
use Rattle.port_registry.specs.Registered.{open_clients}
use Rattle.client_wiring.specs.cycle_plan.specs.Plans.{IsPlanned, Planned, state_of_plan}
use Rattle.client_wiring.specs.Wirings.{source_birth}
use Rattle.client_wiring.proofs.OverLemmas.{device_of_none}
use Rattle.midi_wiring.specs.declared.joints.MidiFrom.TheVariants.{Played, Kept, Nothing}
use Rattle.midi_wiring.specs.declared.joints.MidiJoint.{MidiJoint}
use Rattle.midi_wiring.specs.Wirings.{midi_from, midi_from_of, midi_joint_into, midi_joint_of, midi_wired_of}
use Rattle.midi_wiring.proofs.ListLemmas.{made-of}
use Rattle.midi_wiring.proofs.SettingLemmas.{joined-midi}

none_below : {n : ℕ} → n < 0 → ⊥
none_below p = omega arith

-- ---- the device has no MIDI ports

abbrev pub AreDevicesAudio : State → Type 0
AreDevicesAudio state = (port : OpenPort) → Contains state.ports port → is_system (client_part port.name) ≡ true → is_audio port ≡ true

-- one port more, of no device
audio-register : (state : State) (number : ℕ) (name : List ℕ) (way : Way) (kind : PortKind) → is_none (find (applies state (Register name way kind)) (refusals_of (Register name way kind))) ≡ true → AreDevicesAudio state
    → AreDevicesAudio (effect state number (Register name way kind))
audio-register state number name way kind accepted h port m t = go (Contains-append_cases state.ports (new ∷ []) port m)
  where
    new : OpenPort
    new = record { name = name; way = way; kind = kind; birth = number }

    apart : is_system (client_part name) ≡ false
    apart = refused_not state (Register name way kind) (refusals_of (Register name way kind)) IsSystem accepted (Contains-later NoClient IsSystem (IsSystem ∷ NameTaken ∷ PortsFull ∷ []) (Contains-first IsSystem (NameTaken ∷ PortsFull ∷ [])))

    last : (new ≡ port) ⊎ Contains [] port → is_audio port ≡ true
    last (inl e) = absurd (true≢false (sym t ∙ ap (λ (p : OpenPort). is_system (client_part p.name)) (sym e) ∙ apart))
    last (inr k) = absurd (none_below k.1)

    go : Contains state.ports port ⊎ Contains (new ∷ []) port → is_audio port ≡ true
    go (inl k) = h port k t
    go (inr k) = last (Contains-cases new port [] k)

audio-effect : (state : State) (number : ℕ) (command : Command) → is_none (find (applies state command) (refusals_of command)) ≡ true → AreDevicesAudio state → AreDevicesAudio (effect state number command)
audio-effect state number (Close name) accepted h = λ port m. h port (filter-contains (λ (other : OpenPort). not (bytes_eq (client_part other.name) name)) state.ports port m)
audio-effect state number (Unregister name) accepted h = λ port m. h port (filter-contains (λ (other : OpenPort). not (bytes_eq other.name name)) state.ports port m)
audio-effect state number (Register name way kind) accepted h = audio-register state number name way kind accepted h
audio-effect state number (Open name kind) accepted h = h
audio-effect state number (Activate name) accepted h = h
audio-effect state number (Deactivate name) accepted h = h
audio-effect state number (Connect source destination) accepted h = h
audio-effect state number (Disconnect source destination) accepted h = h
audio-effect state number Start accepted h = h
audio-effect state number Stop accepted h = h
audio-effect state number (Locate frame) accepted h = h
audio-effect state number (Timeout cycles) accepted h = h
audio-effect state number (Slow name cycles) accepted h = h
audio-effect state number (Timebase name mbpm beats ticks) accepted h = h
audio-effect state number (TimebaseIf name mbpm beats ticks) accepted h = h
audio-effect state number (Release name) accepted h = h
audio-effect state number (Latency mode port) accepted h = h

audio-after : (state : State) (number : ℕ) (command : Command) → AreDevicesAudio state → AreDevicesAudio (after state number command)
audio-after state number command h = go (is_none (refusal state command)) refl
  where
    go : (b : Bool) → is_none (refusal state command) ≡ b → AreDevicesAudio (cond b (effect state number command) state)
    go true e = audio-effect state number command e h
    go false e = h

audio-replay : (state : State) (changes : List Change) → AreDevicesAudio state → AreDevicesAudio (replay state changes)
audio-replay state [] h = h
audio-replay state (change ∷ changes) h = audio-replay (after state change.number change.command) changes (audio-after state change.number change.command h)

audio-opening : (capture playback : ℕ) → AreDevicesAudio (opening capture playback)
audio-opening capture playback port m t = go (Contains-append_cases (map capture_port (below capture)) (map playback_port (below playback)) port m)
  where
    go : Contains (map capture_port (below capture)) port ⊎ Contains (map playback_port (below playback)) port → is_audio port ≡ true
    go (inl k) = ap is_audio (sym (contains-map capture_port (below capture) port k).2)
    go (inr k) = ap is_audio (sym (contains-map playback_port (below playback) port k).2)

-- ---- where connections come from

module _ (plan : Planned) (p : IsPlanned plan) (joint : MidiJoint) where
  abbrev state : State
  state = state_of_plan plan

  abbrev nodes : List OpenClient
  nodes = open_clients plan.nodes

  -- the edge that a connection is
  record IsOf : Type 0 where
    edge : Connection
    listed : Contains (state_of_plan plan).edges edge
    into : place_in (open_clients plan.nodes) (client_part edge.destination) ≡ Some joint.node
    end : IsEnd (state_of_plan plan) false false edge.source
    from : joint.from ≡ midi_from_of (state_of_plan plan) (open_clients plan.nodes) edge

  is-of : Contains (midi_wired_of plan).joints joint → IsOf
  is-of m =
      let w = made-of (midi_joint_of state nodes) state.edges joint m in
      go w.0 w.1 (place_in nodes (client_part (w.0).destination)) (port_place (midi_inputs state (client_part (w.0).destination)) (w.0).destination) refl refl w.2
    where
      nothing : None ≡ Some joint → ⊥
      nothing q = cc

      one : (made : MidiJoint) → Some made ≡ Some joint → made ≡ joint
      one made q = cc

      go : (edge : Connection) → Contains (state_of_plan plan).edges edge → (node input : Option ℕ) → place_in (open_clients plan.nodes) (client_part edge.destination) ≡ node
          → port_place (midi_inputs (state_of_plan plan) (client_part edge.destination)) edge.destination ≡ input
          → midi_joint_into (midi_from_of (state_of_plan plan) (open_clients plan.nodes) edge) node input ≡ Some joint → IsOf
      go edge listed None input f h e = absurd (nothing e)
      go edge listed (Some n) None f h e = absurd (nothing e)
      go edge listed (Some n) (Some i) f h e =
          let same : (let made : MidiJoint = record { node = n; input = i; from = midi_from_of state nodes edge } in made) ≡ joint = one (record { node = n; input = i; from = midi_from_of state nodes edge }) e in
          record { edge = edge; listed = listed; into = f ∙ ap (λ (j : MidiJoint). Some j.node) same; end = joined-midi plan p edge listed i h; from = sym (ap (λ (j : MidiJoint). j.from) same) }

  pub played-lower : (node : ℕ) → Contains (midi_wired_of plan).joints joint → joint.from ≡ Played node → node < joint.node
  played-lower node m played = go it.edge.mark (place_in nodes (client_part it.edge.source)) refl refl (sym it.from ∙ played)
    where
      it : IsOf
      it = is-of m

      kept : (birth : ℕ) → Kept birth ≡ Played node → ⊥
      kept birth q = cc

      none : Nothing ≡ Played node → ⊥
      none q = cc

      one : (a : ℕ) → Played a ≡ Played node → a ≡ node
      one a q = cc

      upward : (a : ℕ) → a ≡ node → it.edge.mark ≡ Direct → place_in (open_clients plan.nodes) (client_part it.edge.source) ≡ Some a → node < joint.node
      upward a same f g =
          let w = (p.is_plan).joined it.edge a joint.node it.listed f g it.into in
          subst (λ from. from < joint.node) same
          (subst (λ (link : Link). link.from < link.to) w.2 ((p.is_plan).upward.upward w.0 (record { from = a; to = joint.node }) w.1))

      go : (mark : Mark) (from : Option ℕ) → it.edge.mark ≡ mark → place_in (open_clients plan.nodes) (client_part it.edge.source) ≡ from
          → midi_from (source_birth (state_of_plan plan) it.edge) mark from ≡ Played node → node < joint.node
      go Direct (Some a) f g e = upward a (one a e) f g
      go Feedback (Some a) f g e = absurd (kept (source_birth state it.edge) e)
      go Direct None f g e = absurd (none e)
      go Feedback None f g e = absurd (none e)

  pub always-played : Contains (midi_wired_of plan).joints joint → joint.from ≡ Nothing → ⊥
  always-played m none = go it.edge.mark (place_in nodes (client_part it.edge.source)) refl (sym it.from ∙ none)
    where
      it : IsOf
      it = is-of m

      played : (a : ℕ) → Played a ≡ Nothing → ⊥
      played a q = cc

      kept : (birth : ℕ) → Kept birth ≡ Nothing → ⊥
      kept birth q = cc

      untrue : (b : Bool) → b ≡ true → b ≡ false → ⊥
      untrue b e f = true≢false (sym e ∙ f)

      nowhere : place_in (open_clients plan.nodes) (client_part it.edge.source) ≡ None → ⊥
      nowhere f =
          untrue (is_audio it.end.port)
          (audio-replay (opening plan.base.capture plan.base.playback) plan.changes (audio-opening plan.base.capture plan.base.playback) it.end.port it.end.listed
          (ap (λ name. is_system (client_part name)) it.end.named ∙ device_of_none state nodes plan.links p.is_plan false false it.edge.source it.end f))
          it.end.type_is

      go : (mark : Mark) (from : Option ℕ) → place_in (open_clients plan.nodes) (client_part it.edge.source) ≡ from → midi_from (source_birth (state_of_plan plan) it.edge) mark from ≡ Nothing → ⊥
      go Direct (Some a) f e = played a e
      go Feedback (Some a) f e = kept (source_birth state it.edge) e
      go Direct None f e = nowhere f
      go Feedback None f e = nowhere f
