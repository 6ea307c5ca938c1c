-- What holds of the graph of each cycle.
--     AreWired-graph, AreOpened-graph      its edges are wired, its clients were opened by the changes of their births
--     one_client      clients of one birth, in the graphs of any two cycles, have one name and one kind
--     route-audio, route-midi      a connection of audio carries an audio output of its source's client and no MIDI output, one of MIDI the other way round
use Rattle.std.proofs.Common.{◌≡◌, ℕ, zero, suc, ◌<◌, Bool, true, false, not, ◌&&◌, List, [], ◌∷◌, length, take, get_or, position, Contains, Option, Some, None, inl, inr, ◌⊎◌, refl, sym, ◌∙◌, ap, subst, arith, true≢false}
use Rattle.std.specs.List.{position_or_len}
use Rattle.std.specs.Str.{bytes_eq}
use Rattle.std.proofs.lemmas.List.{get_or_default}
use Rattle.std.proofs.lemmas.List.Quantifiers.{position-Some}
use Rattle.session_model.specs.jack_types.specs.Names.{client_part}
use Rattle.session_model.specs.Benches.{port_place}
use Rattle.session_model.specs.Commands.{ports_of, is_audio, is_input}
use Rattle.session_model.specs.Courses.{Course, first_state, number, graph}
use Rattle.session_model.specs.Cycles.{audio_outputs, midi_outputs}
use Rattle.session_model.specs.Replies.{AreLawful}
use Rattle.session_model.specs.Soundness.{IsSound, IsOpenedBy, IsEnd}
use Rattle.session_model.specs.State.{State, OpenClient, OpenPort, is_system}
use Rattle.session_laws.proofs.CycleLemmas.{bytes_same, filter-passes}
use Rattle.session_laws.proofs.LoopLemmas.{and_parts, and_true, Contains-first, Contains-later, Contains-cases}
use Rattle.session_laws.proofs.OpenedLemmas.{AreOpened-replay, one_opening}
use Rattle.session_laws.proofs.PlaceLemmas.{position-passes, position-found, filter-contains, filter-keeps}
use Rattle.session_laws.proofs.SoundLemmas.{Apart-same}
use Rattle.session_laws.proofs.WiredLemmas.{AreWired, AreWired-replay, AreWired-opening}
use lib.Pointwise.{bytes_decides}

none_below : {n : ℕ} → n < 0 → ⊥
none_below p = omega arith

pub AreWired-graph : (course : Course) (k : ℕ) → AreWired (graph course k)
AreWired-graph course k = AreWired-replay (first_state course) (take (number course k) course.changes) (AreWired-opening course.script.header.capture course.script.header.playback)

pub Contains-take : {X : Type 0} (n : ℕ) (xs : List X) (x : X) → Contains (take n xs) x → Contains xs x
Contains-take zero xs x m = absurd (none_below m.1)
Contains-take (suc n) [] x m = absurd (none_below m.1)
Contains-take {X} (suc n) (y ∷ xs) x m = go (Contains-cases y x (take n xs) m) (Contains-take n xs x)
  where
    go : (y ≡ x) ⊎ Contains (take n xs) x → (Contains (take n xs) x → Contains xs x) → Contains (y ∷ xs) x
    go (inl e) rest = subst (Contains (y ∷ xs)) e (Contains-first y xs)
    go (inr k) rest = Contains-later y x xs (rest k)

pub AreOpened-graph : (course : Course) (k : ℕ) (client : OpenClient) → Contains (graph course k).clients client → is_system client.name ≡ false → IsOpenedBy course.changes client
AreOpened-graph course k client m apart =
    let h = AreOpened-replay course.script.header.capture course.script.header.playback (take (number course k) course.changes) client m apart in
    (h.0, Contains-take (number course k) course.changes h.0 h.1, h.2, h.3)

-- clients of one birth are one client
pub one_client : (course : Course) → AreLawful (first_state course) course.changes → (j k : ℕ) (a b : OpenClient) → Contains (graph course j).clients a → Contains (graph course k).clients b
    → is_system a.name ≡ false → is_system b.name ≡ false → a.birth ≡ b.birth → (a.name ≡ b.name) × (a.kind ≡ b.kind)
one_client course lawful j k a b m n p q e = one_opening (first_state course) course.changes lawful a b (AreOpened-graph course j a m p) (AreOpened-graph course k b n q) e

-- no place where none passes
position-none : {X : Type 0} (test : X → Bool) (xs : List X) → ((x : X) → Contains xs x → test x ≡ true → ⊥) → position test xs ≡ None
position-none {X} test xs h = go (position test xs) refl
  where
    filled : (ys : List X) → ((x : X) → Contains ys x → test x ≡ true → ⊥) → (i : ℕ) → position test ys ≡ Some i → ⊥
    filled [] k i e = absurd (nothing e)
      where
        nothing : None ≡ Some i → ⊥
        nothing p = cc
    filled (y ∷ ys) k i e =
        let w = position-Some test (y ∷ ys) i y e in
        k (get_or (y ∷ ys) i y) (i, w.0, get_or_default (y ∷ ys) i (get_or (y ∷ ys) i y) y w.0) w.1

    go : (o : Option ℕ) → position test xs ≡ o → position test xs ≡ None
    go None e = e
    go (Some i) e = absurd (filled xs h i e)

module _ (state : State) (number : ℕ) (sound : IsSound state number) (name : List ℕ) where
  -- the output that an edge comes from
  in_ports : (is_sound : Bool) (end : IsEnd state false is_sound name) → Contains (ports_of state (client_part name)) end.port
  in_ports is_sound end = filter-keeps (λ (port : OpenPort). bytes_eq (client_part port.name) (client_part name)) state.ports end.port end.listed ((bytes_decides (client_part end.port.name) (client_part name)).1 (ap client_part end.named))

  -- a port of this name is that one
  the_port : (is_sound : Bool) (end : IsEnd state false is_sound name) (port : OpenPort) → Contains (ports_of state (client_part name)) port → bytes_eq port.name name ≡ true → port ≡ end.port
  the_port is_sound end port m t = Apart-same (λ (p : OpenPort). p.name) state.ports port end.port sound.port_names
      (filter-contains (λ (p : OpenPort). bytes_eq (client_part p.name) (client_part name)) state.ports port m) end.listed (bytes_same port.name name t ∙ sym end.named)

  named_there : (is_sound : Bool) (end : IsEnd state false is_sound name) → bytes_eq end.port.name name ≡ true
  named_there is_sound end = (bytes_decides end.port.name name).1 end.named

  pub route-audio : (end : IsEnd state false true name)
      → ((j : ℕ) × (j < length (audio_outputs state (client_part name))) × (port_place (audio_outputs state (client_part name)) name ≡ Some j)) × (port_place (midi_outputs state (client_part name)) name ≡ None)
  route-audio end = (
    (
      position_or_len (λ (port : OpenPort). bytes_eq port.name name) (audio_outputs state (client_part name)),
      (position-passes (λ (port : OpenPort). bytes_eq port.name name) (audio_outputs state (client_part name)) end.port end.port listed (named_there true end)).0,
      position-found (λ (port : OpenPort). bytes_eq port.name name) (audio_outputs state (client_part name)) end.port listed (named_there true end),
    ),
    position-none (λ (port : OpenPort). bytes_eq port.name name) (midi_outputs state (client_part name)) other,
  )
    where
      listed : Contains (audio_outputs state (client_part name)) end.port
      listed = filter-keeps (λ (port : OpenPort). is_audio port && not (is_input port)) (ports_of state (client_part name)) end.port (in_ports true end) (and_true (is_audio end.port) (not (is_input end.port)) end.type_is (ap not end.direction))

      other : (port : OpenPort) → Contains (midi_outputs state (client_part name)) port → bytes_eq port.name name ≡ true → ⊥
      other port m t =
          let one : port ≡ end.port = the_port true end port (filter-contains (λ (p : OpenPort). not (is_audio p) && not (is_input p)) (ports_of state (client_part name)) port m) t in
          let midi : not (is_audio port) ≡ true = (and_parts (not (is_audio port)) (not (is_input port)) (filter-passes (λ (p : OpenPort). not (is_audio p) && not (is_input p)) (ports_of state (client_part name)) port m)).0 in
          true≢false (sym midi ∙ ap not (ap is_audio one ∙ end.type_is))

  pub route-midi : (end : IsEnd state false false name)
      → ((j : ℕ) × (j < length (midi_outputs state (client_part name))) × (port_place (midi_outputs state (client_part name)) name ≡ Some j)) × (port_place (audio_outputs state (client_part name)) name ≡ None)
  route-midi end = (
    (
      position_or_len (λ (port : OpenPort). bytes_eq port.name name) (midi_outputs state (client_part name)),
      (position-passes (λ (port : OpenPort). bytes_eq port.name name) (midi_outputs state (client_part name)) end.port end.port listed (named_there false end)).0,
      position-found (λ (port : OpenPort). bytes_eq port.name name) (midi_outputs state (client_part name)) end.port listed (named_there false end),
    ),
    position-none (λ (port : OpenPort). bytes_eq port.name name) (audio_outputs state (client_part name)) other,
  )
    where
      listed : Contains (midi_outputs state (client_part name)) end.port
      listed = filter-keeps (λ (port : OpenPort). not (is_audio port) && not (is_input port)) (ports_of state (client_part name)) end.port (in_ports false end)
          (and_true (not (is_audio end.port)) (not (is_input end.port)) (ap not end.type_is) (ap not end.direction))

      other : (port : OpenPort) → Contains (audio_outputs state (client_part name)) port → bytes_eq port.name name ≡ true → ⊥
      other port m t =
          let one : port ≡ end.port = the_port false end port (filter-contains (λ (p : OpenPort). is_audio p && not (is_input p)) (ports_of state (client_part name)) port m) t in
          let audio : is_audio port ≡ true = (and_parts (is_audio port) (not (is_input port)) (filter-passes (λ (p : OpenPort). is_audio p && not (is_input p)) (ports_of state (client_part name)) port m)).0 in
          true≢false (sym audio ∙ (ap is_audio one ∙ end.type_is))
