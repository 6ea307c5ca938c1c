use Rattle.std.proofs.Common.{◌≡◌, ap, arith, sym, subst, ◌∙◌}
use Rattle.bench_rack.specs.client_benches.specs.Seen.{MayPlay, Seen, moved_to}
use Rattle.bench_rack.specs.Racks.{bench_at}
use Rattle.client_tasks.proofs.turns.move_all.Goals as goal

pub set_moment-requires-clause-turn : goal.set_moment-requires-clause-turn
set_moment-requires-clause-turn g c turn e =
    let same : bench_at c.loop-place.rack c.loop-place.place ≡ bench_at c.args.rack.now c.loop-place.place = c.loop-place.invariant.others c.loop-place.place (omega arith) in
    subst (λ (bench : Seen). MayPlay bench.kept.standing (moved_to c.args.moment.now c.args.period turn)) (sym same)
    (c.requires.turns c.loop-place.place c.loop-place-test.true turn (sym (ap (λ (bench : Seen). bench.kept.turn) same) ∙ e))
