-- The benches behind one cycle more.
--     IsDriven-played      where each node's bench is what the machine's recursion makes of it
use Rattle.std.proofs.Common.{◌≡◌, ℕ, suc, ◌<◌, ◌==◌, List, length, Contains, Option, Some, None, refl, sym, ◌∙◌, ap, subst, eqb-true}
use Rattle.std.proofs.lemmas.List.{get_or_default}
use Rattle.record_ring.specs.jack_types.specs.declared.ports.Link.{Link}
use Rattle.record_ring.specs.session_model.specs.Activation.{sequential}
use Rattle.record_ring.specs.session_model.specs.Benches.{Bench, bench_after, bench_gives, node_at, IsPlan, IsReady, HaveCycle}
use Rattle.record_ring.specs.session_model.specs.Courses.{Course, graph, players}
use Rattle.record_ring.specs.session_model.specs.Cycles.{cycle, settled_after, player_born}
use Rattle.record_ring.specs.session_model.specs.Driving.{settled_from, IsDriven}
use Rattle.record_ring.specs.session_model.specs.Kinds.{Memory}
use Rattle.record_ring.specs.session_model.specs.State.{OpenClient, system_client}
use Rattle.cycle_plan.specs.session_laws.proofs.BenchLemmas.{HaveCycle-of_sequential}
use Rattle.cycle_plan.specs.session_laws.proofs.CycleLemmas.{find-passes, find-contains}
use Rattle.cycle_plan.specs.session_laws.proofs.DrivingLemmas.{settled_from-is_settled}
use Rattle.cycle_plan.specs.session_laws.proofs.PlayedLemmas.{memory-kept}

module _ (course : Course) (k : ℕ) (old_nodes : List OpenClient) (old_benches : ℕ → Bench) (held : ℕ → Option Memory) (driven : IsDriven course k old_nodes old_benches held) where
  pub IsDriven-played : (nodes : List OpenClient) (links : List Link) (before benches : ℕ → Bench) (now_held : ℕ → Option Memory)
      → IsPlan (graph course (suc k)) nodes links
      → IsReady course (settled_from course k old_nodes old_benches held) nodes links before
      → ((n : ℕ) → n < length nodes → benches n ≡ sequential bench_after bench_gives links before n)
      → ((n : ℕ) → n < length nodes → now_held (node_at nodes n).birth ≡ Some (benches n).memory)
      → ((birth : ℕ) → player_born (graph course (suc k)) birth ≡ None → now_held birth ≡ held birth)
      → IsDriven course (suc k) nodes benches now_held
  IsDriven-played nodes links before benches now_held plan ready sequential_now players_held others_held = record {
    played = played;
    memories = λ birth. go birth (player_born (graph course (suc k)) birth) refl;
  }
    where
      played : HaveCycle (cycle course (suc k)) nodes benches
      played = HaveCycle-of_sequential course (settled_after course (suc k) (cycle course k)) nodes links before plan
          (subst (λ at. IsReady course at nodes links before) (settled_from-is_settled course k old_nodes old_benches held driven) ready) (cycle course k) benches sequential_now

      -- the memory of a player's birth
      of_player : (birth : ℕ) (client : OpenClient) → client.birth ≡ birth → Contains nodes client → now_held birth ≡ (cycle course (suc k)).memory birth
      of_player birth client e m =
          let here : node_at nodes m.0 ≡ client = get_or_default nodes m.0 system_client client m.1 ∙ m.2 in
          let at_birth : (node_at nodes m.0).birth ≡ birth = ap (λ (c : OpenClient). c.birth) here ∙ e in
          subst (λ b. now_held b ≡ (cycle course (suc k)).memory b) at_birth (players_held m.0 m.1 ∙ sym (played.memory m.0 m.1))

      go : (birth : ℕ) (player : Option OpenClient) → player_born (graph course (suc k)) birth ≡ player → now_held birth ≡ (cycle course (suc k)).memory birth
      go birth None e = others_held birth e ∙ driven.memories birth ∙ sym (memory-kept course k birth e)
      go birth (Some client) e = of_player birth client
          (eqb-true client.birth birth (find-passes (λ (c : OpenClient). c.birth == birth) (players (graph course (suc k))) client e))
          (plan.every client (find-contains (λ (c : OpenClient). c.birth == birth) (players (graph course (suc k))) client e))
