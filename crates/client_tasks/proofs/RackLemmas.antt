-- A rack in which one bench is another.
--     bench_at-put, bench_at-other      this bench, and the others
--     length-put      as many as before
--     each-put      each bench is as it has to be
--     total-put, total-none      a sum over the benches
--     kept_count-more      one wire more
--     idle-at      an idle rack's benches
--     room_count-front      a bench with the first rooms
use Rattle.std.proofs.Common.{◌≡◌, ◌≢◌, ℕ, suc, ◌+◌, ◌<◌, ◌≤◌, Bool, cond, ◌⊎◌, inl, inr, List, [], ◌∷◌, ◌++◌, length, get_or, count_by, refl, sym, subst, All, ◌∙◌, ap, ap₂, arith, get_or-set_same, get_or-set_other}
use Rattle.std.specs.Prelude.{nat_lt, sum_by}
use Rattle.std.proofs.lemmas.Bool.{cases_eq, cases_lt}
use Rattle.std.proofs.lemmas.List.{get_or_past, length-set}
use Rattle.std.proofs.lemmas.List.Sums.{count_by-le-length, sum_by-cons, sum_by-set}
use Rattle.jack_types.specs.declared.kinds.Kind.TheVariants.{Pass}
use Rattle.session_model.specs.Samples.{below}
use Rattle.session_laws.proofs.FilterLemmas.{count-append, count-cons}
use Rattle.bench_rack.specs.client_benches.specs.Seen.{Seen, has_room_at, new_bench, room_count}
use Rattle.bench_rack.specs.client_benches.specs.Wires.{is_kept, kept_count}
use Rattle.bench_rack.specs.client_benches.specs.declared.wires.Wire.{Wire}
use Rattle.bench_rack.specs.Racks.{Racked, bench_at, with_bench}
use Rattle.client_tasks.specs.Tasks.{IsIdle}
use Rattle.client_tasks.proofs.ListLemmas.{count-front}

pub bench_at-put : (rack : Racked) (place : ℕ) (bench : Seen) → place < length rack.benches → bench_at (with_bench rack place bench) place ≡ bench
bench_at-put rack place bench h = get_or-set_same rack.benches place bench (new_bench Pass 0) h

pub bench_at-other : (rack : Racked) (place p : ℕ) (bench : Seen) → p ≢ place → bench_at (with_bench rack place bench) p ≡ bench_at rack p
bench_at-other rack place p bench n = get_or-set_other rack.benches place p bench (new_bench Pass 0) n

pub length-put : (now new : Racked) (place : ℕ) (bench : Seen) → new ≡ with_bench now place bench → length new.benches ≡ length now.benches
length-put now new place bench is = ap (λ (rack : Racked). length rack.benches) is ∙ length-set now.benches place bench

pub each-put : (before behind : ℕ → Seen) (now new : Racked) (place : ℕ) (bench : Seen) → new ≡ with_bench now place bench → place < length now.benches
    → ((p : ℕ) → bench_at now p ≡ before p) → bench ≡ behind place → ((p : ℕ) → p ≢ place → before p ≡ behind p) → (p : ℕ) → bench_at new p ≡ behind p
each-put before behind now new place bench is within was here others p = ap (λ rack. bench_at rack p) is ∙ go (cases_eq p place)
  where
    go : (p ≡ place) ⊎ (p ≢ place) → bench_at (with_bench now place bench) p ≡ behind p
    go (inl e) = ap (bench_at (with_bench now place bench)) e ∙ bench_at-put now place bench within ∙ here ∙ ap behind (sym e)
    go (inr n) = bench_at-other now place p bench n ∙ was p ∙ others p n

pub total-put : (f : Seen → ℕ) (now new : Racked) (place : ℕ) (bench : Seen) → new ≡ with_bench now place bench → place < length now.benches → sum_by f new.benches + f (bench_at now place) ≡ sum_by f now.benches + f bench
total-put f now new place bench is h = ap (λ (rack : Racked). sum_by f rack.benches + f (bench_at now place)) is ∙ sum_by-set f now.benches place bench (new_bench Pass 0) h

pub total-none : (f : Seen → ℕ) (benches : List Seen) (d : Seen) → ((p : ℕ) → f (get_or benches p d) ≡ 0) → sum_by f benches ≡ 0
total-none f [] d none = refl
total-none f (bench ∷ benches) d none =
    let here : f bench ≡ 0 = none 0 in
    let rest : sum_by f benches ≡ 0 = total-none f benches d (λ p. none (suc p)) in
    sum_by-cons f bench benches ∙ (omega (arith, here, rest))

pub kept_count-more : (wires : List Wire) (wire : Wire) → kept_count (wires ++ wire ∷ []) ≤ kept_count wires + 1
kept_count-more wires wire = omega (arith, count-append is_kept wires (wire ∷ []), count_by-le-length is_kept (wire ∷ []))

same-count : (p q : ℕ → Bool) (xs : List ℕ) → ((k : ℕ) → p k ≡ q k) → count_by p xs ≡ count_by q xs
same-count p q [] same = refl
same-count p q (x ∷ xs) same =
    count-cons p x xs ∙ ap₂ (λ b n. cond b 1 0 + n) (same x) (same-count p q xs same) ∙ sym (count-cons q x xs)

pub room_count-front : (bench : Seen) (c : ℕ) → c ≤ 64 → ((p : ℕ) → has_room_at bench p ≡ nat_lt p c) → room_count bench ≡ c
unfolding room_count
room_count-front bench c h front = same-count (has_room_at bench) (λ p. nat_lt p c) (below 64) front ∙ count-front c 64 h

-- where all benches are idle, each is, and so is a bench of nobody
pub idle-at : (rack : Racked) → All IsIdle rack.benches → (p : ℕ) → IsIdle (bench_at rack p)
idle-at rack idle p = go (cases_lt p (length rack.benches))
  where
    go : (p < length rack.benches) ⊎ (length rack.benches ≤ p) → IsIdle (bench_at rack p)
    go (inl h) = idle p (new_bench Pass 0) h
    go (inr h) = subst IsIdle (sym (get_or_past rack.benches p (new_bench Pass 0) h)) refl
