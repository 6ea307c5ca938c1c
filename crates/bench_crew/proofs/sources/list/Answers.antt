use Rattle.std.proofs.Common.{rules, arith, ◌≡◌, ◌≤◌, ◌<◌, ◌++◌, ℕ, [], ◌∷◌, length, sym, subst, ◌∙◌, ap, vec_capacity, length-set}
use Rattle.std.specs.Global.{Vec}
use Rattle.session_model.specs.Activation.{no_link, link_at, place_among}
use Rattle.bench_crew.proofs.ListingLemmas.{listed-next, listed-short, counted-next, places-next}
use Rattle.bench_crew.proofs.sources.list.Goals as goal

pub add-requires : goal.add-requires
add-requires c =
    let i = c.loop-position.invariant in
    let links = c.args.links.now in
    let p : ℕ = c.loop-position.position in
    let test : p < length links = c.loop-position-test.true in
    let within = c.requires.links.0.within p no_link test in
    let long : length c.loop-position.into.items ≡ length c.args.into.now.items = search rules in
    let low : (link_at links p).to < length c.loop-position.into.items = omega (arith, within, long) in (
      subst (λ (v : Vec ℕ). length v.items ≤ p) (sym c.index_mut.ensures.value) (listed-short links p c.loop-position.into.items (link_at links p).to _ i.2 low),
      omega (arith, test, c.requires.links.1),
      subst (λ (v : Vec ℕ). 512 ≤ vec_capacity v) (sym c.index_mut.ensures.value) (i.2.room (link_at links p).to _ low),
    )

pub loop-position-preserved : goal.loop-position-preserved
loop-position-preserved c =
    let i = c.loop-position.invariant in
    let links = c.args.links.now in
    let p : ℕ = c.loop-position.position in
    let test : p < length links = c.loop-position-test.true in
    let up = c.requires.links.0.upward p no_link test in
    let within = c.requires.links.0.within p no_link test in
    let long : length c.loop-position.into.items ≡ length c.args.into.now.items = search rules in
    let low : (link_at links p).to < length c.loop-position.into.items = omega (arith, within, long) in
    let low_from : (link_at links p).from < length c.loop-position.counts = omega (arith, up, within, i.1, c.requires.links.2) in
    let room : 512 ≤ vec_capacity c.index_mut.result.now = subst (λ (v : Vec ℕ). 512 ≤ vec_capacity v) (sym c.index_mut.ensures.value) (i.2.room (link_at links p).to _ low) in
    let place : c.count-place.result ≡ place_among links p = c.count-place.ensures.0 ∙ i.3 (link_at links p).from low_from in (
      i.0,
      length-set c.loop-position.counts (link_at links p).from c.count-place.new.counted ∙ i.1,
      listed-next links p c.loop-position.into.items c.add.new.which _ low (c.add.ensures.0 ∙ ap (λ (v : Vec ℕ). v.items ++ p ∷ []) c.index_mut.ensures.value) (omega (arith, room, c.add.ensures.1)) i.2,
      counted-next links p c.loop-position.counts c.count-place.new.counted low_from c.count-place.ensures.1 i.3,
      c.push_reserved.ensures.items ∙ ((λ j. i.4 j ++ place j ∷ []) ∙ places-next links p),
      search rules,
      search rules,
    )
