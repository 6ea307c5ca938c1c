use Rattle.std.proofs.Common.{rules, arith, ◌<◌, ◌+◌, ℕ, true, false, length, map, get_or, Some, ◌∙◌, ap}
use Rattle.std.proofs.lemmas.List.{take_all}
use Rattle.session_model.specs.Activation.{link_at, place_among}
use Rattle.bench_crew.proofs.TurnLemmas.{from-within, room-left, value-left, one-more, given-next}
use Rattle.bench_crew.proofs.alone.take_values.Goals as goal

pub hand-requires : goal.hand-requires
hand-requires g c = record {
  room =
      let links = c.args.sources.now.links.items in
      let i : ℕ = c.loop-position.position-index in
      let low : i < length c.args.which.now = c.loop-position-test.true in
      room-left g.B.Work.memory g.B.Work.has_room g.B.Work.value_at true links c.args.which.now 0 i i c.origin-source.result.0 c.origin-source.result.1 c.args.benches.now c.loop-position.benches c.index-benches-source.result c.requires.row.1 low (omega (arith, low)) (λ j a b e. omega (arith, b, e))
      c.origin-source.ensures.0 c.origin-source.ensures.1 c.loop-position.invariant.0 c.requires.room;
}

pub loop-position-preserved : goal.loop-position-preserved
loop-position-preserved g c =
    let links = c.args.sources.now.links.items in
    let which = c.args.which.now in
    let i : ℕ = c.loop-position.position-index in
    let low : i < length which = c.loop-position-test.true in
    let row = c.requires.row.1 in
    let now = c.loop-position.benches in
    let e = c.index-benches-source.result in
    let from : (link_at links (get_or which i 0)).from < c.args.sources.now.nodes = from-within c.args.sources.now.nodes links (get_or which i 0) c.args.sources.now.listing.are (row.within i low) in
    let inside : c.origin-source.result.0 < length now = omega (arith, from, c.origin-source.ensures.0, c.requires.row.0, c.loop-position.auto.benches) in
    let both = one-more g.B.Work.memory g.B.Work.has_room g.B.Work.value_at false links which 0 i 0 (i + 1) i c.origin-source.result.0 c.origin-source.result.1 c.args.benches.now now c.hand.new.self e row low (omega (arith, low)) (omega arith) (omega arith) (omega arith) (omega arith)
    (λ j a b ne. (a, omega (arith, b, ne))) c.origin-source.ensures.0 c.origin-source.ensures.1 inside c.hand.ensures.memory c.hand.ensures.taken c.hand.ensures.others c.loop-position.invariant.0 c.loop-position.invariant.1 in (
      both.0,
      both.1,
      (λ d. given-next (λ k. g.B.Work.value_at (get_or c.args.benches.now (link_at links k).from d) (place_among links k)) which i c.loop-position.given.items c.push_reserved.new.self.items c.hand.result low (c.loop-position.invariant.2 d) c.push_reserved.ensures.items
          (c.hand.ensures.value ∙ value-left g.B.Work.memory g.B.Work.has_room g.B.Work.value_at links which 0 i i c.origin-source.result.0 c.origin-source.result.1 c.args.benches.now now e d row low (omega (arith, low)) (λ j a b same. omega (arith, b, same)) c.origin-source.ensures.0 c.origin-source.ensures.1 inside c.loop-position.invariant.0)),
      search rules,
      search rules,
    )

pub returns-clause-given : goal.returns-clause-given
returns-clause-given g c = λ d. c.loop-position.invariant.2 d ∙ ap (map (λ k. Some (g.B.Work.value_at (get_or c.args.benches.now (link_at c.args.sources.now.links.items k).from d) (place_among c.args.sources.now.links.items k)))) (take_all c.loop-position.position-index c.args.which.now c.loop-position-test.false)
