-- Facts on what stands at a place of a list.
--     owner_within      who owns a bench owns one that is there
--     pooled_within      a guest in the pool has a place there
--     open_within, within_open      there are as many open clients as clients
use Rattle.std.proofs.lemmas.List.{length-map}
use Rattle.jack_types.specs.declared.ports.Client.{Client}
use Rattle.port_registry.specs.Registered.{open_client, open_clients}
use Rattle.std.proofs.Common.{IsSome, true≢false, subst, ◌≡◌, ℕ, zero, suc, ◌<◌, List, [], ◌∷◌, length, get_or, Option, Some, None, sym, arith}
use Rattle.bench_rack.specs.client_kinds.specs.Scores.{Score}

pub owner_within : (births : List (Option ℕ)) (p birth : ℕ) → get_or births p None ≡ Some birth → p < length births
owner_within [] p birth h = cc
owner_within (x ∷ xs) zero birth h = omega arith
owner_within (x ∷ xs) (suc p) birth h = omega (arith, owner_within xs p birth h)

pub pooled_within : (pool : List (Option Score)) (guest : ℕ) → IsSome (get_or pool guest None) → guest < length pool
pooled_within [] guest h = absurd (true≢false (sym h))
pooled_within (x ∷ xs) zero h = omega arith
pooled_within (x ∷ xs) (suc guest) h = omega (arith, pooled_within xs guest h)

pub open_within : (nodes : List Client) (n : ℕ) → n < length nodes → n < length (open_clients nodes)
open_within nodes n h = subst (λ k. n < k) (sym (length-map nodes open_client)) h

pub within_open : (nodes : List Client) (n : ℕ) → n < length (open_clients nodes) → n < length nodes
within_open nodes n h = subst (λ k. n < k) (length-map nodes open_client) h
