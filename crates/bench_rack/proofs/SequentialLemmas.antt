-- What a crew plays over the first benches of a list.
--     sequential-same      benches that remember the same at all nodes play the same
use Rattle.std.proofs.Common.{◌≡◌, ℕ, zero, suc, ◌<◌, List, length, refl, ap₂, arith}
use Rattle.std.specs.Prelude.{◌==◌}
use Rattle.jack_types.specs.declared.ports.Link.{Link}
use Rattle.session_model.specs.Activation.{AreLinks, given_within, link_at, no_link, place_among, sequential}
use Rattle.session_model.specs.Samples.{below}
use Rattle.bench_crew.specs.session_laws.proofs.CycleLemmas.{map_filter-same}
use Rattle.bench_crew.specs.session_laws.proofs.SequentialLemmas.{Contains-below}

module _ {M V : Type 0} (after : M → List V → M) (gives : M → List V → ℕ → V) (nodes : ℕ) (links : List Link) (are : AreLinks nodes links) (before other : ℕ → M) (same : (m : ℕ) → m < nodes → before m ≡ other m) where
  is_lower : (l : ℕ) → l < length links → (link_at links l).from < nodes
  is_lower l h =
      let up : (link_at links l).from < (link_at links l).to = are.upward l no_link h in
      let within : (link_at links l).to < nodes = are.within l no_link h in
      omega (arith, up, within)

  given-same : (depth n : ℕ) → given_within after gives links before depth n ≡ given_within after gives links other depth n
  given-same zero n = refl
  given-same (suc depth) n = map_filter-same (λ l. (link_at links l).to == n)
      (λ l. gives (before (link_at links l).from) (given_within after gives links before depth (link_at links l).from) (place_among links l))
      (λ l. gives (other (link_at links l).from) (given_within after gives links other depth (link_at links l).from) (place_among links l))
      (below (length links))
      (λ l m t. ap₂ (λ (bench : M) (given : List V). gives bench given (place_among links l)) (same (link_at links l).from (is_lower l (Contains-below (length links) l m))) (given-same depth (link_at links l).from))

  pub sequential-same : (n : ℕ) → n < nodes → sequential after gives links before n ≡ sequential after gives links other n
  sequential-same n h = ap₂ after (same n h) (given-same n n)
