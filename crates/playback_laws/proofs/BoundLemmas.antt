-- What is heard of the capture is there.
--     heard-within      a captured channel that goes into a playback port is one of the device's
use Rattle.std.proofs.Common.{◌≡◌, ℕ, ◌<◌, true, false, List, length, get_or, Contains, Option, Some, None, refl, sym, ◌∙◌, ap, subst}
use Rattle.std.specs.Option.{option_map}
use Rattle.std.specs.Str.{bytes_eq}
use Rattle.std.proofs.lemmas.List.{get_or_default}
use Rattle.std.proofs.lemmas.List.Quantifiers.{position-Some}
use Rattle.jack_types.specs.Names.{client_part}
use Rattle.session_model.specs.Benches.{place_in, port_place}
use Rattle.session_model.specs.Cycles.{audio_inputs, audio_outputs, midi_outputs}
use Rattle.session_model.specs.Soundness.{IsEnd}
use Rattle.session_model.specs.State.{Connection, OpenClient, OpenPort, State, capture_port, system_name}
use Rattle.session_laws.proofs.ActivationLemmas.{length-map_below}
use Rattle.session_laws.proofs.CycleLemmas.{bytes_same}
use Rattle.session_laws.proofs.GraphLemmas.{route-audio}
use Rattle.port_registry.specs.Registered.{open_clients}
use Rattle.playback_mix.specs.cycle_plan.specs.Plans.{IsPlanned, Planned, state_of_plan}
use Rattle.playback_mix.specs.client_wiring.specs.declared.joints.Heard.{Heard}
use Rattle.playback_mix.specs.client_wiring.specs.declared.joints.Sound.TheVariants.{Captured}
use Rattle.playback_mix.specs.client_wiring.specs.Wirings.{heard_of, heard_on, sound_by, sound_of, source_place, wired_of}
use Rattle.playback_mix.specs.client_wiring.proofs.DeviceLemmas.{capture_ports}
use Rattle.playback_mix.specs.client_wiring.proofs.OverLemmas.{device_of_none}
use Rattle.playback_mix.specs.client_wiring.proofs.PlaybackLemmas.{inside-plan, sound-plan, wired-plan}
use Rattle.playback_mix.specs.client_wiring.proofs.TaskLemmas.{edge-sound, input-listed, input-sound, place-index}
use Rattle.playback_laws.proofs.ListLemmas.{Contains-made}

module _ (plan : Planned) (planned : IsPlanned plan) where
  abbrev state : State
  state = state_of_plan plan

  abbrev nodes : List OpenClient
  nodes = open_clients plan.nodes

  channels-are : length (audio_outputs state system_name) ≡ plan.base.capture
  channels-are = ap length (capture_ports plan.base.capture plan.base.playback plan.changes) ∙ length-map_below capture_port plan.base.capture

  of-source : (edge : Connection) → IsEnd state false true edge.source → place_in nodes (client_part edge.source) ≡ None → source_place state edge < plan.base.capture
  of-source edge end none =
      subst (λ n. source_place state edge < n) channels-are
      (subst (λ name. source_place state edge < length (audio_outputs state name)) device (subst (λ k. k < length (audio_outputs state (client_part edge.source))) (sym place) told.0.1))
    where
      told : ((j : ℕ) × (j < length (audio_outputs state (client_part edge.source))) × (port_place (audio_outputs state (client_part edge.source)) edge.source ≡ Some j)) × (port_place (midi_outputs state (client_part edge.source)) edge.source ≡ None)
      told = route-audio state (length plan.changes) (sound-plan plan planned) edge.source end

      place : source_place state edge ≡ told.0.0
      place = place-index (λ (port : OpenPort). bytes_eq port.name edge.source) (audio_outputs state (client_part edge.source)) told.0.0 told.0.2

      device : client_part edge.source ≡ system_name
      device = bytes_same (client_part edge.source) system_name (device_of_none state nodes plan.links planned.is_plan false true edge.source end none)

  by-source : (edge : Connection) → IsEnd state false true edge.source → (source : Option ℕ) → place_in nodes (client_part edge.source) ≡ source
      → (channel : ℕ) → sound_by (source_place state edge) source ≡ Captured channel → channel < plan.base.capture
  by-source edge end (Some n) e channel is = cc
  by-source edge end None e channel is = subst (λ k. k < plan.base.capture) (captured_is is) (of-source edge end e)
    where
      captured_is : {a b : ℕ} → Captured a ≡ Captured b → a ≡ b
      captured_is p = cc

  abbrev IsOfDevice : Heard → Type 0
  IsOfDevice heard = (channel : ℕ) → heard.sound ≡ Captured channel → channel < plan.base.capture

  of-edge : (edge : Connection) → Contains state.edges edge → (heard : Heard) → heard_of state nodes edge ≡ Some heard → IsOfDevice heard
  of-edge edge m heard = go (port_place (audio_inputs state system_name) edge.destination) refl
    where
      some_is : {a b : Heard} → Some a ≡ Some b → a ≡ b
      some_is e = cc

      go : (place : Option ℕ) → port_place (audio_inputs state system_name) edge.destination ≡ place → option_map (heard_on (sound_of state nodes edge)) place ≡ Some heard → IsOfDevice heard
      go None f made = cc
      go (Some i) f made = subst IsOfDevice (some_is made) (by-source edge end (place_in nodes (client_part edge.source)) refl)
        where
          there : (i < length (audio_inputs state system_name)) × (bytes_eq (get_or (audio_inputs state system_name) i (capture_port 0)).name edge.destination ≡ true) × ((k : ℕ) → k < i → bytes_eq (get_or (audio_inputs state system_name) k (capture_port 0)).name edge.destination ≡ false)
          there = position-Some (λ (p : OpenPort). bytes_eq p.name edge.destination) (audio_inputs state system_name) i (capture_port 0) f

          port : OpenPort
          port = get_or (audio_inputs state system_name) i (capture_port 0)

          listed : Contains (audio_inputs state system_name) port
          listed = (i, there.0, get_or_default (audio_inputs state system_name) i port (capture_port 0) there.0)

          end : IsEnd state false true edge.source
          end = edge-sound state nodes plan.links planned.is_plan (length plan.changes) (sound-plan plan planned) (wired-plan plan) (inside-plan plan) edge m port
              (input-listed state nodes plan.links planned.is_plan (length plan.changes) (sound-plan plan planned) (wired-plan plan) (inside-plan plan) system_name port listed)
              (input-sound state nodes plan.links planned.is_plan (length plan.changes) (sound-plan plan planned) (wired-plan plan) (inside-plan plan) system_name port listed)
              (sym (bytes_same port.name edge.destination there.1))

  pub heard-within : (heard : Heard) (channel : ℕ) → Contains (wired_of plan).heard heard → heard.sound ≡ Captured channel → channel < plan.base.capture
  heard-within heard channel m is = let edge = Contains-made (heard_of state nodes) state.edges heard m in of-edge edge.0 edge.1 heard edge.2 channel is
