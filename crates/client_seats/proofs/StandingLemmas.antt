-- A bench of a rack with another guest or memory.
--     standing-same, bench-other      the bench at its place, and all others
--     kinds-same, periods-kept, idle-kept      what does not change
--     emptied-new, emptied-bare      a bench without its guest is as new
use Rattle.std.proofs.Common.{◌≡◌, ◌≢◌, ℕ, ◌<◌, ◌⊎◌, inl, inr, false, [], length, None, sym, ◌∙◌, ap, subst, get_or-set_same, get_or-set_other}
use Rattle.std.specs.List.Sorted.{IsPermutation}
use Rattle.std.proofs.Math.Seq.{map-set_same}
use Rattle.std.proofs.lemmas.Bool.{cases_eq}
use Rattle.std.proofs.lemmas.List.{length-set}
use Rattle.std.proofs.lemmas.List.Sorted.{IsPermutation-refl}
use Rattle.jack_types.specs.declared.kinds.Kind.{Kind}
use Rattle.jack_types.specs.declared.kinds.Kind.TheVariants.{Guest, Pass}
use Rattle.session_model.specs.Kinds.{Memory}
use Rattle.bench_rack.specs.client_kinds.specs.Standings.{Standing}
use Rattle.bench_rack.specs.client_benches.specs.Seen.{Seen, cleared, new_bench, new_standing}
use Rattle.bench_rack.specs.Racks.{Racked, bench_at}
use Rattle.client_seats.specs.Seatings.{HavePeriod, IsBare, IsIdle, kind_at, standing_at}
use Rattle.client_seats.specs.Moves.{emptied, kinds_of, with_standing}

abbrev changed : Standing → Seen → Seen
changed standing bench = record bench { kept = record bench.kept { standing = standing } }

pub standing-same : (rack : Racked) (p : ℕ) (standing : Standing) → p < length rack.benches → standing_at (with_standing rack p standing) p ≡ standing
standing-same rack p standing within = ap (λ (x : Seen). x.kept.standing) (get_or-set_same rack.benches p (changed standing (bench_at rack p)) (new_bench Pass 0) within)

pub bench-other : (rack : Racked) (p q : ℕ) (standing : Standing) → q ≢ p → bench_at (with_standing rack p standing) q ≡ bench_at rack q
bench-other rack p q standing other = get_or-set_other rack.benches p q (changed standing (bench_at rack p)) (new_bench Pass 0) other

pub kinds-same : (rack : Racked) (p : ℕ) (standing : Standing) → standing.kind ≡ kind_at rack p → IsPermutation (kinds_of rack) (kinds_of (with_standing rack p standing))
kinds-same rack p standing kind =
    subst (IsPermutation (kinds_of rack)) (sym (map-set_same (λ (x : Seen). x.kept.standing.kind) rack.benches p (changed standing (bench_at rack p)) (new_bench Pass 0) kind))
    (IsPermutation-refl (kinds_of rack))

pub periods-kept : (rack : Racked) (p : ℕ) (standing : Standing) → standing.period ≡ (standing_at rack p).period → (period : ℕ) → HavePeriod rack period → HavePeriod (with_standing rack p standing) period
periods-kept rack p standing same period all q within = go (cases_eq q p)
  where
    as_many : length (with_standing rack p standing).benches ≡ length rack.benches
    as_many = length-set rack.benches p (changed standing (bench_at rack p))

    here : q < length rack.benches
    here = subst (λ n. q < n) as_many within

    go : (q ≡ p) ⊎ (q ≢ p) → (standing_at (with_standing rack p standing) q).period ≡ period
    go (inl e) = ap (λ r. (standing_at (with_standing rack p standing) r).period) e
        ∙ ap (λ (z : Standing). z.period) (standing-same rack p standing (subst (λ r. r < length rack.benches) e here))
        ∙ same ∙ ap (λ r. (standing_at rack r).period) (sym e) ∙ all q here
    go (inr n) = ap (λ (x : Seen). x.kept.standing.period) (bench-other rack p q standing n) ∙ all q here

pub idle-kept : (rack : Racked) (p : ℕ) (standing : Standing) → p < length rack.benches → IsIdle rack → IsIdle (with_standing rack p standing)
idle-kept rack p standing within idle q = go (cases_eq q p)
  where
    at : bench_at (with_standing rack p standing) p ≡ changed standing (bench_at rack p)
    at = get_or-set_same rack.benches p (changed standing (bench_at rack p)) (new_bench Pass 0) within

    here : cleared (bench_at (with_standing rack p standing) p) ≡ bench_at (with_standing rack p standing) p
    here = subst (λ (x : Seen). cleared x ≡ x) (sym at) (ap (changed standing) (idle p))

    go : (q ≡ p) ⊎ (q ≢ p) → cleared (bench_at (with_standing rack p standing) q) ≡ bench_at (with_standing rack p standing) q
    go (inl e) = subst (λ r. cleared (bench_at (with_standing rack p standing) r) ≡ bench_at (with_standing rack p standing) r) (sym e) here
    go (inr n) = subst (λ (x : Seen). cleared x ≡ x) (sym (bench-other rack p q standing n)) (idle q)

pub emptied-new : (standing : Standing) (guest : ℕ) → standing.kind ≡ Guest guest → IsBare standing.kind standing.memory → emptied standing ≡ new_standing standing.kind standing.period
emptied-new standing guest kind bare = subst (λ (k : Kind). IsBare k standing.memory → record { kind = k; period = standing.period; score = None; memory = (emptied standing).memory } ≡ new_standing k standing.period) (sym kind)
    (λ b. ap (λ (m : Memory). record { kind = Guest guest; period = standing.period; score = None; memory = record m { numbers = []; is_dead = false } }) b) bare

pub emptied-bare : (standing : Standing) (guest : ℕ) → standing.kind ≡ Guest guest → IsBare standing.kind standing.memory → IsBare standing.kind (emptied standing).memory
emptied-bare standing guest kind bare = subst (λ (k : Kind). IsBare k standing.memory → IsBare k (emptied standing).memory) (sym kind)
    (λ b. ap (λ (m : Memory). record m { numbers = []; is_dead = false }) b) bare

pub bare-peak : (kind : Kind) (memory : Memory) (guest : ℕ) → kind ≡ Guest guest → IsBare kind memory → memory.peak ≡ 0
bare-peak kind memory guest same bare = subst (λ (k : Kind). IsBare k memory → memory.peak ≡ 0) (sym same) (λ b. ap (λ (m : Memory). m.peak) b) bare
