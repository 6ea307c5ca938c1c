-- The clients of a plan by their births: the numbers of the changes that opened them.
--     opened-once      a change opened one client, of one kind
--     opened-bound      its number is one of the changes'
--     node-open, node-opened      a plan's node is an open client, which the change of its birth opened
--     client-kind      an open client that a change opened is of that kind
use Rattle.std.proofs.Common.{◌≡◌, ℕ, ◌+◌, ◌<◌, ◌≤◌, Bool, true, false, not, ◌&&◌, List, length, slice_get, Contains, Some, refl, sym, ◌∙◌, ap, subst, arith}
use Rattle.std.specs.Str.{bytes_eq}
use Rattle.std.proofs.Math.Seq.{take-length}
use Rattle.std.proofs.lemmas.Option.{slice_get-get_or}
use Rattle.jack_types.specs.declared.commands.Change.{Change}
use Rattle.jack_types.specs.declared.kinds.Kind.{Kind}
use Rattle.session_model.specs.Benches.{node_at}
use Rattle.session_model.specs.Commands.{replay}
use Rattle.session_model.specs.Courses.{players}
use Rattle.session_model.specs.Replies.{AreLawful}
use Rattle.session_model.specs.Soundness.{IsSound}
use Rattle.session_model.specs.State.{OpenClient, State, is_system, system_client, system_name}
use Rattle.session_laws.proofs.CycleLemmas.{bytes_same, find-contains, player_not-system}
use Rattle.session_laws.proofs.PlaceLemmas.{filter-contains}
use Rattle.session_laws.proofs.PlanLemmas.{IsSound-opening}
use Rattle.session_laws.proofs.SoundLemmas.{Apart-same, IsSound-replay}
use Rattle.port_registry.specs.Registered.{open_clients}
use Rattle.cycle_plan.specs.Plans.{IsPlanned, Planned, opening_of, state_of_plan}
use Rattle.task_laws.specs.Calls.{HasOpened, kind_opened}
use Rattle.task_laws.proofs.OpenedLemmas.{client-opened}

module _ (start : State) (changes : List Change) (lawful : AreLawful start changes) where
  listed : (change : Change) (m : Contains changes change) → slice_get changes m.0 ≡ Some change
  listed change m = slice_get-get_or changes m.0 change m.1 ∙ ap Some m.2

  numbered : (change : Change) (m : Contains changes change) → change.number ≡ m.0 + 1
  numbered change m = (lawful m.0 change (listed change m)).numbered

  one-number : (a b : Change) → Contains changes a → Contains changes b → a.number ≡ b.number → a ≡ b
  one-number a b m n e =
      let first : a.number ≡ m.0 + 1 = numbered a m in
      let second : b.number ≡ n.0 + 1 = numbered b n in
      let same : m.0 ≡ n.0 = omega (arith, first, second, e) in
      one a b (sym (listed a m) ∙ ap (slice_get changes) same ∙ listed b n)
    where
      one : (x y : Change) → Some x ≡ Some y → x ≡ y
      one x y p = cc

  pub opened-once : (birth : ℕ) (kind other : Kind) → HasOpened changes birth kind → HasOpened changes birth other → kind ≡ other
  opened-once birth kind other p q =
      one kind other (sym p.3 ∙ ap (λ (change : Change). kind_opened change.command) (one-number p.0 q.0 p.1 q.1 (p.2 ∙ sym q.2)) ∙ q.3)
    where
      one : (x y : Kind) → Some x ≡ Some y → x ≡ y
      one x y e = cc

  pub opened-bound : (birth : ℕ) (kind : Kind) → HasOpened changes birth kind → (0 < birth) × (birth ≤ length changes)
  opened-bound birth kind w =
      let number : w.0.number ≡ w.1.0 + 1 = numbered w.0 w.1 in
      let within : w.1.0 < length changes = w.1.1 in
      let born : w.0.number ≡ birth = w.2 in
      (omega (arith, number, born), omega (arith, number, born, within))

module _ (plan : Planned) (planned : IsPlanned plan) where
  abbrev nodes : List OpenClient
  nodes = open_clients plan.nodes

  player : (n : ℕ) → n < length nodes → Contains (players (state_of_plan plan)) (node_at nodes n)
  player n h = find-contains (λ (c : OpenClient). bytes_eq c.name (node_at nodes n).name) (players (state_of_plan plan)) (node_at nodes n) (planned.is_plan.named n h)

  pub node-open : (n : ℕ) → n < length nodes → Contains (state_of_plan plan).clients (node_at nodes n)
  node-open n h = filter-contains (λ (c : OpenClient). c.active && not (is_system c.name)) (state_of_plan plan).clients (node_at nodes n) (player n h)

  pub node-opened : (n : ℕ) → n < length nodes → HasOpened plan.changes (node_at nodes n).birth (node_at nodes n).kind
  node-opened n h =
      client-opened plan.changes plan.base.capture plan.base.playback (node_at nodes n) (node-open n h)
      (player_not-system (state_of_plan plan) (node_at nodes n).name (node_at nodes n) (planned.is_plan.named n h))

  sound : IsSound (state_of_plan plan) (length plan.changes)
  sound =
      let capture : plan.base.capture ≤ 8 = planned.few_capture in
      let playback : plan.base.playback ≤ 8 = planned.few_playback in
      subst (λ all. IsSound (replay (opening_of plan.base) all) (length plan.changes)) (take-length plan.changes)
      (IsSound-replay (opening_of plan.base) plan.changes (IsSound-opening plan.base.capture plan.base.playback (omega (arith, capture)) (omega (arith, playback))) planned.lawful (length plan.changes) (omega arith))

  -- no change opened `system`
  system-birth : (client : OpenClient) → Contains (state_of_plan plan).clients client → is_system client.name ≡ true → client.birth ≡ 0
  system-birth client m t =
      ap (λ (c : OpenClient). c.birth)
      (Apart-same (λ (c : OpenClient). c.name) (state_of_plan plan).clients client system_client sound.names m sound.system (bytes_same client.name system_name t))

  pub client-kind : (client : OpenClient) (kind : Kind) → Contains (state_of_plan plan).clients client → HasOpened plan.changes client.birth kind → client.kind ≡ kind
  client-kind client kind m w = go (is_system client.name) refl
    where
      go : (b : Bool) → is_system client.name ≡ b → client.kind ≡ kind
      go true t =
          let none : client.birth ≡ 0 = system-birth client m t in
          let some : 0 < client.birth = (opened-bound (opening_of plan.base) plan.changes planned.lawful client.birth kind w).0 in
          absurd (omega (arith, none, some))
      go false t = opened-once (opening_of plan.base) plan.changes planned.lawful client.birth client.kind kind (client-opened plan.changes plan.base.capture plan.base.playback client m t) w
