use Rattle.std.proofs.Common.{◌≡◌, ℕ, ◌+◌, ◌-◌, ◌<◌, ◌++◌, List, [], length, get_or, sym, ◌∙◌, ap, ap₂, subst, arith}
use Rattle.std.specs.Prelude.{slice_set, slice_index_or}
use Rattle.std.proofs.lemmas.List.{set-append_right}
use Rattle.jack_types.specs.declared.kinds.Kind.TheVariants.{Pass}
use Rattle.bench_crew.specs.client_benches.specs.Seen.{Seen, new_bench}
use Rattle.bench_rack.specs.Insides.{bench_among}
use Rattle.bench_rack.specs.Racks.{filled}
use Rattle.bench_rack.proofs.WholeLemmas.{read-same}
use Rattle.bench_rack.proofs.hearing.fill_behind.Goals as goal

pub fill_from-requires : goal.fill_from-requires
fill_from-requires g c =
    let from_is : c.args.place + 0 ≡ c.args.place = omega arith in
    let slot : get_or c.split_at_mut-front.result.1.now 0 c.index-back-0.result ≡ bench_among c.args.benches.now c.args.place =
    read-same c.split_at_mut-front.result.1.now 0 c.index-back-0.result (bench_among c.args.benches.now c.args.place) (omega (arith, c.split_at_mut-front.ensures.back_len, c.requires.place)) (c.split_at_mut-front.ensures.by_index.1 0 (new_bench Pass 0) ∙ ap (bench_among c.args.benches.now) from_is) in
    record { place = subst (λ (seen : Seen). c.args.wire < length seen.kept.wires) (sym slot) c.requires.wire }

pub returns : goal.returns
returns g c =
    let from_is : c.args.place + 0 ≡ c.args.place = omega arith in
    let slot : get_or c.split_at_mut-front.result.1.now 0 c.index-back-0.result ≡ bench_among c.args.benches.now c.args.place =
    read-same c.split_at_mut-front.result.1.now 0 c.index-back-0.result (bench_among c.args.benches.now c.args.place) (omega (arith, c.split_at_mut-front.ensures.back_len, c.requires.place)) (c.split_at_mut-front.ensures.by_index.1 0 (new_bench Pass 0) ∙ ap (bench_among c.args.benches.now) from_is) in
    let source : get_or c.split_at_mut-front.result.0.now c.args.from c.index-front-from.result ≡ bench_among c.args.benches.now c.args.from =
    read-same c.split_at_mut-front.result.0.now c.args.from c.index-front-from.result (bench_among c.args.benches.now c.args.from) (omega (arith, c.split_at_mut-front.ensures.front_len, c.requires.from)) (c.split_at_mut-front.ensures.by_index.0 c.args.from (new_bench Pass 0) c.requires.from) in
    let none : 0 ≡ c.args.place - c.args.place = omega arith in
    ap (λ (seen : Seen). c.split_at_mut-front.result.0.now ++ slice_set c.split_at_mut-front.result.1.now 0 seen)
    (c.fill_from.ensures ∙ ap₂ (λ (from here : Seen). filled c.args.wire (slice_index_or from.kept.audio c.args.output []) here) source slot)
    ∙ ap (λ (n : ℕ). c.split_at_mut-front.result.0.now ++ slice_set c.split_at_mut-front.result.1.now n (filled c.args.wire (slice_index_or (bench_among c.args.benches.now c.args.from).kept.audio c.args.output []) (bench_among c.args.benches.now c.args.place))) none
    ∙ sym (set-append_right c.split_at_mut-front.result.0.now c.split_at_mut-front.result.1.now c.args.place c.args.place (filled c.args.wire (slice_index_or (bench_among c.args.benches.now c.args.from).kept.audio c.args.output []) (bench_among c.args.benches.now c.args.place)) c.split_at_mut-front.ensures.front_len (omega arith))
    ∙ ap (λ (benches : List Seen). slice_set benches c.args.place (filled c.args.wire (slice_index_or (bench_among c.args.benches.now c.args.from).kept.audio c.args.output []) (bench_among c.args.benches.now c.args.place))) (sym c.split_at_mut-front.ensures.value)
