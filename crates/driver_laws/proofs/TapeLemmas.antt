-- A recorder's block, read from the bench of the client that records on it.
--     block-in      behind a cycle of the crew
use Rattle.std.proofs.Common.{◌≡◌, ℕ, suc, ◌<◌, Bool, true, List, [], length, map, find, position, slice_index_or, Contains, Option, Some, None, is_some, refl, sym, ◌∙◌, ap, ap₂, true≢false, eqb-true, eq-eqb}
use Rattle.std.specs.List.{position_or_len}
use Rattle.std.specs.Option.{option_map_or}
use Rattle.std.specs.Str.{bytes_eq}
use Rattle.record_ring.specs.jack_types.specs.Recorders.{no_format}
use Rattle.record_ring.specs.jack_types.specs.declared.kinds.Kind.{Kind}
use Rattle.record_ring.specs.jack_types.specs.declared.kinds.Kind.TheVariants.{Tape}
use Rattle.record_ring.specs.jack_types.specs.declared.ports.Link.{Link}
use Rattle.record_ring.specs.session_model.specs.Benches.{node_at, IsPlan}
use Rattle.record_ring.specs.session_model.specs.Commands.{shares}
use Rattle.record_ring.specs.session_model.specs.Courses.{Course, graph, period, players}
use Rattle.record_ring.specs.session_model.specs.Driving.{IsDriven}
use Rattle.record_ring.specs.session_model.specs.Kinds.{input_at}
use Rattle.record_ring.specs.session_model.specs.Recorders.{block, is_tape, taping}
use Rattle.record_ring.specs.session_model.specs.Samples.{below, interleaved}
use Rattle.record_ring.specs.session_model.specs.Scripts.{Script}
use Rattle.record_ring.specs.session_model.specs.State.{State, OpenClient, system_client}
use Rattle.cycle_plan.specs.session_laws.proofs.CycleLemmas.{find-passes, find-contains}
use Rattle.cycle_plan.specs.session_laws.proofs.DrivingLemmas.{block-is_got}
use Rattle.cycle_plan.specs.session_laws.proofs.PlaceLemmas.{position-passes, position-found, filter-contains}
use Rattle.driver_laws.specs.Drivers.{Driver, graph_now, has_tape, bench_at, memory_in, block_at, block_in}

-- two kinds that record on one recorder share it
tapes-share : (recorder : ℕ) (one other : Kind) → is_tape recorder one ≡ true → is_tape recorder other ≡ true → shares one other ≡ true
tapes-share recorder (Tape a) (Tape b) p q = eq-eqb a b (eqb-true a recorder p ∙ sym (eqb-true b recorder q))
tapes-share recorder (Tape a) _ p q = absurd (true≢false (sym q))
tapes-share recorder _ other p q = absurd (true≢false (sym p))

-- the node at which a test finds the one client that passes it
module _ (state : State) (nodes : List OpenClient) (links : List Link) (plan : IsPlan state nodes links) (test : OpenClient → Bool)
    (one : (a b : OpenClient) → Contains (players state) a → Contains (players state) b → test a ≡ true → test b ≡ true → a ≡ b) where
  pub found_at : (client : OpenClient) → find test (players state) ≡ Some client
      → (position_or_len test nodes < length nodes) × (position test nodes ≡ Some (position_or_len test nodes)) × (node_at nodes (position_or_len test nodes) ≡ client)
  found_at client e =
      let member : Contains (players state) client = find-contains test (players state) client e in
      let passes : test client ≡ true = find-passes test (players state) client e in
      let here : Contains nodes client = plan.every client member in
      let w = position-passes test nodes client system_client here passes in
      let n : ℕ = position_or_len test nodes in
      let node : Contains (players state) (node_at nodes n) =
      find-contains (λ (c : OpenClient). bytes_eq c.name (node_at nodes n).name) (players state) (node_at nodes n) (plan.named n w.0) in
      (w.0, position-found test nodes client here passes, one (node_at nodes n) client node member w.1 passes)

-- at most one open client of a graph has a given recorder, guest or disk file
abbrev pub IsOneOfEach : State → Type 0
IsOneOfEach state = (a b : OpenClient) → Contains state.clients a → Contains state.clients b → shares a.kind b.kind ≡ true → a ≡ b

-- so at most one of those that play records on a recorder
one_tape : (state : State) → IsOneOfEach state → (recorder : ℕ) (a b : OpenClient) → Contains (players state) a → Contains (players state) b → is_tape recorder a.kind ≡ true → is_tape recorder b.kind ≡ true → a ≡ b
one_tape state one recorder a b p q t u = one a b (filter-contains _ state.clients a p) (filter-contains _ state.clients b q) (tapes-share recorder a.kind b.kind t u)

module _ (after : Driver) (course : Course) (k : ℕ) (links : List Link) (plan : IsPlan (graph_now after) after.nodes links) (driven : IsDriven course (suc k) after.nodes (bench_at after) (memory_in after))
    (one : IsOneOfEach (graph_now after)) (script : course.script ≡ after.script) (state : graph course (suc k) ≡ graph_now after) (set : period course (suc k) ≡ after.set) where
  -- the block of a recorder is what its client got
  pub block-in : (recorder : ℕ) → has_tape (graph_now after) recorder ≡ true → block_in after recorder ≡ block course recorder (suc k)
  block-in recorder active = go (find (λ client. is_tape recorder client.kind) (players (graph_now after))) refl active
    where
      of_client : (client : OpenClient) → find (λ c. is_tape recorder c.kind) (players (graph_now after)) ≡ Some client → block_in after recorder ≡ block course recorder (suc k)
      of_client client e =
          let w = found_at (graph_now after) after.nodes links plan (λ c. is_tape recorder c.kind) (λ a b p q t u. one_tape (graph_now after) one recorder a b p q t u) client e in
          let n : ℕ = position_or_len (λ (c : OpenClient). is_tape recorder c.kind) after.nodes in
          let taping_is : taping course recorder (suc k) ≡ Some (node_at after.nodes n) =
          ap (λ s. find (λ (c : OpenClient). is_tape recorder c.kind) (players s)) state ∙ e ∙ ap (λ (c : OpenClient). Some c) (sym w.2) in
          ap (λ o. option_map_or (block_at after recorder) o []) w.1
          ∙ ap₂ (λ frames (s : Script). interleaved frames (map (input_at frames (bench_at after n).sounds) (below (slice_index_or s.header.recorders recorder no_format).channels))) (sym set) (sym script)
          ∙ sym (block-is_got course k after.nodes (bench_at after) (memory_in after) driven recorder n w.0 taping_is)

      go : (o : Option OpenClient) → find (λ client. is_tape recorder client.kind) (players (graph_now after)) ≡ o → is_some o ≡ true → block_in after recorder ≡ block course recorder (suc k)
      go None e some = absurd (true≢false (sym some))
      go (Some client) e some = of_client client e
