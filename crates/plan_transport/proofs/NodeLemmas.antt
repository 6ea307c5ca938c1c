-- A plan's nodes are its players in another order.
--     few-nodes      there are at most 64 of them
--     next_row-nodes      a row by the slow numbers of the nodes is one by those of the players
use Rattle.std.proofs.Common.{◌≡◌, ℕ, ◌≤◌, List, [], ◌∷◌, length, map, IsPermutation, refl, sym, ◌∙◌, ap, subst, arith}
use Rattle.std.proofs.lemmas.List.{length-map}
use Rattle.std.proofs.lemmas.List.Sorted.{IsPermutation-map, IsPermutation-sym}
use Rattle.jack_types.specs.declared.commands.Change.{Change}
use Rattle.jack_types.specs.declared.ports.Client.{Client}
use Rattle.session_model.specs.Courses.{players}
use Rattle.session_model.specs.State.{OpenClient, State}
use Rattle.session_model.specs.Transport.{Row, next_row, slow_numbers}
use Rattle.transport.specs.Standings.{counted}
use Rattle.port_registry.specs.Registered.{open_client, open_clients}
use Rattle.task_laws.specs.cycle_plan.specs.Plans.{IsPlanned, Planned, state_of_plan}
use Rattle.plan_transport.specs.Slowness.{slow_of}
use Rattle.plan_transport.proofs.RowLemmas.{next_row-permuted}

slow_of-open : (clients : List Client) → map (λ (client : OpenClient). client.slow) (open_clients clients) ≡ slow_of clients
slow_of-open [] = refl
slow_of-open (client ∷ clients) = ap (λ (rest : List ℕ). client.slow ∷ rest) (slow_of-open clients)

module _ (plan : Planned) (planned : IsPlanned plan) where
  pub few-nodes : length plan.nodes ≤ 64
  few-nodes =
      let clients : length (state_of_plan plan).clients ≡ length plan.network.held.clients = ap (λ (now : State). length now.clients) (sym planned.state) ∙ length-map plan.network.held.clients open_client in
      let nodes : length (open_clients plan.nodes) ≡ length plan.nodes = length-map plan.nodes open_client in
      omega (arith, clients, nodes, planned.is_plan.fewer, planned.network.registered.few_clients)

  slow-permuted : IsPermutation (slow_of plan.nodes) (map (λ (client : OpenClient). client.slow) (players (state_of_plan plan)))
  slow-permuted =
      IsPermutation-sym (map (λ (client : OpenClient). client.slow) (players (state_of_plan plan))) (slow_of plan.nodes)
      (subst (IsPermutation (map (λ (client : OpenClient). client.slow) (players (state_of_plan plan)))) (slow_of-open plan.nodes)
      (IsPermutation-map (λ (client : OpenClient). client.slow) (players (state_of_plan plan)) (open_clients plan.nodes) planned.moved))

  pub next_row-nodes : (row : Row) (changes : List Change) (timeout period : ℕ) → next_row row changes (counted (slow_of plan.nodes)) timeout period ≡ next_row row changes (slow_numbers (state_of_plan plan)) timeout period
  next_row-nodes row changes timeout period =
      next_row-permuted (slow_of plan.nodes) (map (λ (client : OpenClient). client.slow) (players (state_of_plan plan))) slow-permuted timeout row changes period
