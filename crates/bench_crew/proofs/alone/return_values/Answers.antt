use Rattle.std.proofs.Common.{rules, arith, ◌≡◌, ◌≤◌, ◌<◌, ◌+◌, ◌-◌, ℕ, true, false, length, get_or, All, IsSome, sym, subst, vec_len}
use Rattle.std.proofs.lemmas.List.Elements.{All-take}
use Rattle.session_model.specs.Activation.{link_at}
use Rattle.client_benches.specs.activation.proofs.Places.{low_place}
use Rattle.bench_crew.proofs.TurnLemmas.{from-within, room-left, one-more}
use Rattle.bench_crew.proofs.alone.return_values.Goals as goal

pub back-requires : goal.back-requires
back-requires g c = record {
  room =
      let sources = c.args.sources.now in
      let links = sources.links.items in
      let which = c.args.which.now in
      let row = c.requires.row.1 in
      let i : ℕ = c.len.result in
      let fewer : vec_len c.loop-taken.given ≡ i + 1 = search rules in
      let most : vec_len c.loop-taken.given ≤ length which = c.loop-taken.invariant.3 in
      let low : i < length which = omega (arith, fewer, most) in
      let place = low_place sources.nodes links (get_or which i 0) sources.listing.are (row.within i low) in (
        omega (arith, c.origin-source.ensures.1, place, sources.listing.few),
        room-left g.B.Work.memory g.B.Work.has_room g.B.Work.value_at false links which (vec_len c.loop-taken.given) (length which) i c.origin-source.result.0 c.origin-source.result.1 c.args.benches.now c.loop-taken.benches c.index-benches-source.result row low (omega arith)
            (λ j a b e. omega (arith, a, e, fewer)) c.origin-source.ensures.0 c.origin-source.ensures.1 c.loop-taken.invariant.0 c.requires.room,
      );
}

pub loop-taken-preserved : goal.loop-taken-preserved
loop-taken-preserved g c =
    let sources = c.args.sources.now in
    let links = sources.links.items in
    let which = c.args.which.now in
    let row = c.requires.row.1 in
    let now = c.loop-taken.benches in
    let e = c.index-benches-source.result in
    let i : ℕ = c.len.result in
    let first : ℕ = vec_len c.loop-taken.given in
    let less : ℕ = vec_len c.pop.new.self in
    let fewer : first ≡ i + 1 = search rules in
    let is : i ≡ less = c.len.ensures in
    let most : first ≤ length which = c.loop-taken.invariant.3 in
    let low : i < length which = omega (arith, fewer, most) in
    let from : (link_at links (get_or which i 0)).from < sources.nodes = from-within sources.nodes links (get_or which i 0) sources.listing.are (row.within i low) in
    let inside : c.origin-source.result.0 < length now = omega (arith, from, c.origin-source.ensures.0, c.requires.row.0, c.loop-taken.auto.benches) in
    let both = one-more g.B.Work.memory g.B.Work.has_room g.B.Work.value_at true links which first (length which) less (length which) i c.origin-source.result.0 c.origin-source.result.1 c.args.benches.now now c.back.new.self e row low (omega arith) (omega (arith, is)) low (omega (arith, is, fewer)) (omega arith)
    (λ j a b ne. (omega (arith, a, ne, is, fewer), b)) c.origin-source.ensures.0 c.origin-source.ensures.1 inside c.back.ensures.memory c.back.ensures.room c.back.ensures.others c.loop-taken.invariant.0 c.loop-taken.invariant.1 in (
      both.0,
      both.1,
      subst (All (λ value. IsSome value)) (sym c.pop.ensures.rest) (All-take (λ value. IsSome value) (first - 1) c.loop-taken.given.items c.loop-taken.invariant.2),
      omega (arith, is, low),
      search rules,
    )
