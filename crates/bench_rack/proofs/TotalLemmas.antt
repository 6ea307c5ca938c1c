-- How many rooms the benches of a rack have.
--     room_count-rooms, room_count-none, room_count-linked      a bench's rooms for links: by its rooms alone, none at first, and one more behind a link
--     kept_count-kept, kept_count-carried, kept_count-like      a wire more
--     kept_count-filled      filling a wire neither takes its room nor gives it one
--     wires-set, links-set      the totals with another bench at a place
--     wires-most, links-most      each bench has at most the total
--     wires-fresh, links-fresh      new benches have no rooms
use Rattle.std.proofs.Common.{◌≡◌, ℕ, ◌+◌, ◌<◌, ◌≤◌, Bool, cond, List, [], ◌∷◌, ◌++◌, length, map, replicate, get_or, ℤ, Option, Some, None, refl, ◌∙◌, ap, arith}
use Rattle.std.specs.Prelude.{count_by, is_some, slice_set}
use Rattle.std.proofs.lemmas.List.{length-set}
use Rattle.std.proofs.lemmas.List.Sums.{get_or-le-sum_by, sum_by-cons, sum_by-set, sum_by_push}
use Rattle.jack_types.specs.declared.kinds.Kind.{Kind}
use Rattle.jack_types.specs.declared.kinds.Kind.TheVariants.{Pass}
use Rattle.session_model.specs.Benches.{Signal}
use Rattle.session_model.specs.Samples.{below}
use Rattle.bench_crew.specs.client_benches.specs.declared.wires.Source.{Source}
use Rattle.bench_crew.specs.client_benches.specs.declared.wires.Source.TheVariants.{Carried, Kept, Like}
use Rattle.bench_crew.specs.client_benches.specs.declared.wires.Wire.{Wire}
use Rattle.bench_crew.specs.client_benches.specs.Seen.{Remembered, Seen, new_bench, room_at, room_count}
use Rattle.bench_crew.specs.client_benches.specs.Wires.{filled_with, is_kept, kept_count, no_wire, wire_at, with_samples}
use Rattle.bench_crew.specs.client_benches.proofs.CountLemmas.{room_count-is}
use Rattle.bench_rack.specs.Racks.{Racked, bench_at, link_total, linked, wire_total}

pub room_count-rooms : (seen other : Seen) → seen.rooms ≡ other.rooms → room_count seen ≡ room_count other
unfolding room_count
room_count-rooms seen other same = ap (λ (rooms : List (Option (List Signal))). count_by (λ place. is_some (get_or rooms place None)) (below 64)) same

pub room_count-none : (kept : Remembered) → room_count (record { kept = kept; rooms = replicate 64 None }) ≡ 0
room_count-none kept = room_count-is kept (replicate 64 None) refl

pub room_count-linked : (seen : Seen) (place : ℕ) → length seen.rooms ≡ 64 → place < 64 → room_at seen place ≡ None → room_count (linked place seen) ≡ room_count seen + 1
room_count-linked seen place long within none = omega (arith, before, after, counted, gone)
  where
    before : room_count seen ≡ count_by is_some seen.rooms
    before = room_count-is seen.kept seen.rooms long

    after : room_count (linked place seen) ≡ count_by is_some (slice_set seen.rooms place (Some []))
    after = room_count-is seen.kept (slice_set seen.rooms place (Some [])) (length-set seen.rooms place (Some []) ∙ long)

    counted : count_by is_some (slice_set seen.rooms place (Some [])) + cond (is_some (room_at seen place)) 1 0 ≡ count_by is_some seen.rooms + 1
    counted = sum_by-set (λ (room : Option (List Signal)). cond (is_some room) 1 0) seen.rooms place (Some []) None (omega (arith, long, within))

    gone : ◌≡◌ {A = ℕ} (cond (is_some (room_at seen place)) 1 0) 0
    gone = ap (λ (room : Option (List Signal)). cond (is_some room) 1 0) none

pub kept_count-kept : (wires : List Wire) (input : ℕ) (samples : List ℤ) → kept_count (wires ++ record { input = input; source = Kept samples } ∷ []) ≡ kept_count wires + 1
kept_count-kept wires input samples = sum_by_push (λ (wire : Wire). cond (is_kept wire) 1 0) wires (record { input = input; source = Kept samples })

pub kept_count-carried : (wires : List Wire) (input link connection : ℕ) → kept_count (wires ++ record { input = input; source = Carried link connection } ∷ []) ≡ kept_count wires
kept_count-carried wires input link connection =
    sum_by_push (λ (wire : Wire). cond (is_kept wire) 1 0) wires (record { input = input; source = Carried link connection }) ∙ (omega arith)

pub kept_count-like : (wires : List Wire) (input place : ℕ) → kept_count (wires ++ record { input = input; source = Like place } ∷ []) ≡ kept_count wires
kept_count-like wires input place =
    sum_by_push (λ (wire : Wire). cond (is_kept wire) 1 0) wires (record { input = input; source = Like place }) ∙ (omega arith)

is_kept-filled : (input : ℕ) (samples : List ℤ) (source : Source) → is_kept (record { input = input; source = filled_with samples source }) ≡ is_kept (record { input = input; source = source })
is_kept-filled input samples (Kept before) = refl
is_kept-filled input samples (Carried link connection) = refl
is_kept-filled input samples (Like place) = refl

pub kept_count-filled : (wires : List Wire) (place : ℕ) (samples : List ℤ) → place < length wires → kept_count (with_samples wires place samples) ≡ kept_count wires
kept_count-filled wires place samples within = omega (arith, counted, same)
  where
    new : Wire
    new = record (wire_at wires place) { source = filled_with samples (wire_at wires place).source }

    counted : kept_count (with_samples wires place samples) + cond (is_kept (wire_at wires place)) 1 0 ≡ kept_count wires + cond (is_kept new) 1 0
    counted = sum_by-set (λ (wire : Wire). cond (is_kept wire) 1 0) wires place new no_wire within

    same : ◌≡◌ {A = ℕ} (cond (is_kept new) 1 0) (cond (is_kept (wire_at wires place)) 1 0)
    same = ap (λ (b : Bool). cond b 1 0) (is_kept-filled (wire_at wires place).input samples (wire_at wires place).source)

module _ (rack : Racked) (place : ℕ) (within : place < length rack.benches) where
  pub wires-most : kept_count (bench_at rack place).kept.wires ≤ wire_total rack
  wires-most = get_or-le-sum_by (λ (bench : Seen). kept_count bench.kept.wires) rack.benches place (new_bench Pass 0) within

  pub links-most : room_count (bench_at rack place) ≤ link_total rack
  links-most = get_or-le-sum_by room_count rack.benches place (new_bench Pass 0) within

module _ (rack : Racked) (place : ℕ) (new : Seen) (within : place < length rack.benches) where
  pub wires-set : wire_total (record rack { benches = slice_set rack.benches place new }) + kept_count (bench_at rack place).kept.wires ≡ wire_total rack + kept_count new.kept.wires
  wires-set = sum_by-set (λ (bench : Seen). kept_count bench.kept.wires) rack.benches place new (new_bench Pass 0) within

  pub links-set : link_total (record rack { benches = slice_set rack.benches place new }) + room_count (bench_at rack place) ≡ link_total rack + room_count new
  links-set = sum_by-set room_count rack.benches place new (new_bench Pass 0) within

pub wires-fresh : (kinds : List Kind) (period links : ℕ) → wire_total (record { benches = map (λ kind. new_bench kind period) kinds; links = links }) ≡ 0
wires-fresh [] period links = refl
wires-fresh (kind ∷ kinds) period links =
    sum_by-cons (λ (bench : Seen). kept_count bench.kept.wires) (new_bench kind period) (map (λ kind. new_bench kind period) kinds)
    ∙ (omega (arith, wires-fresh kinds period links))

pub links-fresh : (kinds : List Kind) (period links : ℕ) → link_total (record { benches = map (λ kind. new_bench kind period) kinds; links = links }) ≡ 0
links-fresh [] period links = refl
links-fresh (kind ∷ kinds) period links =
    sum_by-cons room_count (new_bench kind period) (map (λ kind. new_bench kind period) kinds)
    ∙ (omega (arith, room_count-none (new_bench kind period).kept, links-fresh kinds period links))
