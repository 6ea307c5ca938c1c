use Rattle.std.proofs.Common.{◌<◌, [], length, refl, sym, ◌∙◌, ap, subst}
use Rattle.std.specs.Prelude.{slice_set, slice_index_or}
use Rattle.bench_crew.specs.client_benches.specs.Seen.{Seen}
use Rattle.bench_rack.specs.Insides.{bench_among}
use Rattle.bench_rack.specs.Racks.{filled}
use Rattle.bench_rack.proofs.WholeLemmas.{read-same}
use Rattle.bench_rack.proofs.hearing.fill_own.Goals as goal

pub fill_own-requires : goal.fill_own-requires
fill_own-requires g c =
    record { place = subst (λ (seen : Seen). c.args.wire < length seen.kept.wires) (sym (read-same c.args.benches.now c.args.place c.index-benches-place.result (bench_among c.args.benches.now c.args.place) c.requires.place refl)) c.requires.wire }

pub returns : goal.returns
returns g c =
    ap (λ (seen : Seen). slice_set c.args.benches.now c.args.place seen)
    (c.fill_own.ensures
    ∙ ap (λ (here : Seen). filled c.args.wire (slice_index_or here.kept.audio c.args.output []) here)
    (read-same c.args.benches.now c.args.place c.index-benches-place.result (bench_among c.args.benches.now c.args.place) c.requires.place refl))
