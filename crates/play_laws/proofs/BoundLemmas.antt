-- What the wiring of a plan names is there.
--     given-within      an output that a node gives is one of its client's
--     captured-within      a captured channel is one of the device's
use Rattle.std.proofs.Common.{◌≡◌, ℕ, ◌<◌, true, false, List, length, get_or, Option, Some, None, refl, sym, ◌∙◌, ap, subst}
use Rattle.std.specs.List.{Contains}
use Rattle.std.specs.Str.{bytes_eq}
use Rattle.std.proofs.lemmas.List.{get_or-map, get_or_default}
use Rattle.std.proofs.lemmas.List.Quantifiers.{position-Some}
use Rattle.jack_types.specs.Names.{client_part}
use Rattle.jack_types.specs.declared.ports.Mark.{Mark}
use Rattle.jack_types.specs.declared.ports.Mark.TheVariants.{Direct, Feedback}
use Rattle.session_model.specs.Benches.{node_at, place_in, port_place}
use Rattle.session_model.specs.Cycles.{audio_inputs, audio_outputs, midi_outputs}
use Rattle.session_model.specs.Soundness.{IsEnd}
use Rattle.session_model.specs.State.{Connection, OpenClient, OpenPort, State, capture_port, system_client, system_name}
use Rattle.session_laws.proofs.CycleLemmas.{bytes_same}
use Rattle.session_laws.proofs.GraphLemmas.{route-audio}
use Rattle.session_laws.proofs.ListLemmas.{Each-all, Each-contains, Each-from_contains}
use Rattle.port_registry.specs.Registered.{open_clients}
use Rattle.event_laws.specs.cycle_plan.specs.Plans.{IsPlanned, Planned, state_of_plan}
use Rattle.event_laws.specs.client_wiring.specs.declared.joints.Given.{Given}
use Rattle.event_laws.specs.client_wiring.specs.declared.joints.Joint.{Joint}
use Rattle.event_laws.specs.client_wiring.specs.declared.joints.Origin.TheVariants.{Captured}
use Rattle.event_laws.specs.client_wiring.specs.declared.joints.Widths.{Widths}
use Rattle.event_laws.specs.client_wiring.specs.Wirings.{given_by, given_of, joint_into, joint_of, origin_from, source_place, widths_of, wired_of}
use Rattle.event_laws.specs.client_wiring.proofs.OverLemmas.{device_of_none, name-of_place}
use Rattle.event_laws.specs.client_wiring.proofs.PlaybackLemmas.{inside-plan, sound-plan, wired-plan}
use Rattle.event_laws.specs.client_wiring.proofs.TaskLemmas.{edge-sound, input-listed, input-sound, place-index}
use Rattle.client_tasks.specs.Tasks.{widths_at}
use Rattle.task_laws.proofs.CallLemmas.{each-filter_map}

module _ (plan : Planned) (planned : IsPlanned plan) where
  abbrev state : State
  state = state_of_plan plan

  abbrev nodes : List OpenClient
  nodes = open_clients plan.nodes

  abbrev IsWithin : Given → Type 0
  IsWithin given = given.output < (widths_at (wired_of plan) given.node).outputs

  within-port : (port : OpenPort) (given : Given) → given_of state nodes port ≡ Some given → IsWithin given
  within-port port given = go (place_in nodes (client_part port.name)) (port_place (audio_outputs state (client_part port.name)) port.name) refl refl
    where
      some_is : {a b : Given} → Some a ≡ Some b → a ≡ b
      some_is e = cc

      go : (node place : Option ℕ) → place_in nodes (client_part port.name) ≡ node → port_place (audio_outputs state (client_part port.name)) port.name ≡ place → given_by port.birth node place ≡ Some given → IsWithin given
      go None place e f made = cc
      go (Some n) None e f made = cc
      go (Some n) (Some i) e f made = subst IsWithin (some_is made) (subst (λ k. i < k) (sym widths) low)
        where
          low : i < length (audio_outputs state (client_part port.name))
          low = (position-Some (λ (p : OpenPort). bytes_eq p.name port.name) (audio_outputs state (client_part port.name)) i port f).0

          named : (n < length nodes) × ((node_at nodes n).name ≡ client_part port.name)
          named = name-of_place state nodes plan.links planned.is_plan (client_part port.name) n e

          widths : (widths_at (wired_of plan) n).outputs ≡ length (audio_outputs state (client_part port.name))
          widths = ap (λ (w : Widths). w.outputs) (get_or-map (widths_of state) nodes n system_client (record { inputs = 0; outputs = 0 }) named.0) ∙ ap (λ name. length (audio_outputs state name)) named.1

  pub given-within : (given : Given) → Contains (wired_of plan).given given → given.output < (widths_at (wired_of plan) given.node).outputs
  given-within given m = Each-contains IsWithin (wired_of plan).given given (each-filter_map IsWithin (given_of state nodes) state.ports (Each-all (λ port. (y : Given) → given_of state nodes port ≡ Some y → IsWithin y) within-port state.ports)) m

  -- ---- captured channels

  abbrev channels : ℕ
  channels = length (audio_outputs state system_name)

  abbrev IsOfDevice : Joint → Type 0
  IsOfDevice joint = (channel : ℕ) → joint.origin ≡ Captured channel → channel < channels

  of-source : (edge : Connection) → IsEnd state false true edge.source → place_in nodes (client_part edge.source) ≡ None → source_place state edge < channels
  of-source edge end none = subst (λ name. source_place state edge < length (audio_outputs state name)) device (subst (λ k. k < length (audio_outputs state (client_part edge.source))) (sym place) told.0.1)
    where
      told : ((j : ℕ) × (j < length (audio_outputs state (client_part edge.source))) × (port_place (audio_outputs state (client_part edge.source)) edge.source ≡ Some j)) × (port_place (midi_outputs state (client_part edge.source)) edge.source ≡ None)
      told = route-audio state (length plan.changes) (sound-plan plan planned) edge.source end

      place : source_place state edge ≡ told.0.0
      place = place-index (λ (port : OpenPort). bytes_eq port.name edge.source) (audio_outputs state (client_part edge.source)) told.0.0 told.0.2

      device : client_part edge.source ≡ system_name
      device = bytes_same (client_part edge.source) system_name (device_of_none state nodes plan.links planned.is_plan false true edge.source end none)

  by-origin : (n : ℕ) (edge : Connection) → IsEnd state false true edge.source → (mark : Mark) (source : Option ℕ) → place_in nodes (client_part edge.source) ≡ source
      → (channel : ℕ) → origin_from state nodes plan.links n edge mark source ≡ Captured channel → channel < channels
  by-origin n edge end Direct (Some a) e channel o = cc
  by-origin n edge end Feedback (Some a) e channel o = cc
  by-origin n edge end Direct None e channel o = subst (λ k. k < channels) (captured_is o) (of-source edge end e)
    where
      captured_is : {a b : ℕ} → Captured a ≡ Captured b → a ≡ b
      captured_is p = cc
  by-origin n edge end Feedback None e channel o = subst (λ k. k < channels) (captured_is o) (of-source edge end e)
    where
      captured_is : {a b : ℕ} → Captured a ≡ Captured b → a ≡ b
      captured_is p = cc

  of-edge : (edge : Connection) → Contains state.edges edge → (joint : Joint) → joint_of state nodes plan.links edge ≡ Some joint → IsOfDevice joint
  of-edge edge m joint = go (place_in nodes (client_part edge.destination)) (port_place (audio_inputs state (client_part edge.destination)) edge.destination) refl
    where
      some_is : {a b : Joint} → Some a ≡ Some b → a ≡ b
      some_is e = cc

      go : (node place : Option ℕ) → port_place (audio_inputs state (client_part edge.destination)) edge.destination ≡ place → joint_into state nodes plan.links edge node place ≡ Some joint → IsOfDevice joint
      go None place f made = cc
      go (Some n) None f made = cc
      go (Some n) (Some i) f made = subst IsOfDevice (some_is made) (by-origin n edge end edge.mark (place_in nodes (client_part edge.source)) refl)
        where
          there : (i < length (audio_inputs state (client_part edge.destination))) × (bytes_eq (get_or (audio_inputs state (client_part edge.destination)) i (capture_port 0)).name edge.destination ≡ true) × ((k : ℕ) → k < i → bytes_eq (get_or (audio_inputs state (client_part edge.destination)) k (capture_port 0)).name edge.destination ≡ false)
          there = position-Some (λ (p : OpenPort). bytes_eq p.name edge.destination) (audio_inputs state (client_part edge.destination)) i (capture_port 0) f

          port : OpenPort
          port = get_or (audio_inputs state (client_part edge.destination)) i (capture_port 0)

          listed : Contains (audio_inputs state (client_part edge.destination)) port
          listed = (i, there.0, get_or_default (audio_inputs state (client_part edge.destination)) i port (capture_port 0) there.0)

          end : IsEnd state false true edge.source
          end = edge-sound state nodes plan.links planned.is_plan (length plan.changes) (sound-plan plan planned) (wired-plan plan) (inside-plan plan) edge m port
              (input-listed state nodes plan.links planned.is_plan (length plan.changes) (sound-plan plan planned) (wired-plan plan) (inside-plan plan) (client_part edge.destination) port listed)
              (input-sound state nodes plan.links planned.is_plan (length plan.changes) (sound-plan plan planned) (wired-plan plan) (inside-plan plan) (client_part edge.destination) port listed)
              (sym (bytes_same port.name edge.destination there.1))

  pub captured-within : (joint : Joint) (channel : ℕ) → Contains (wired_of plan).joints joint → joint.origin ≡ Captured channel → channel < channels
  captured-within joint channel m o =
      Each-contains IsOfDevice (wired_of plan).joints joint
      (each-filter_map IsOfDevice (joint_of state nodes plan.links) state.edges (Each-from_contains (λ edge. (y : Joint) → joint_of state nodes plan.links edge ≡ Some y → IsOfDevice y) state.edges of-edge)) m channel o
