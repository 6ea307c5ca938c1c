use Rattle.std.proofs.Common.{rules, arith, ◌≡◌, ◌<◌, ◌≤◌, ◌+◌, ◌++◌, ℕ, suc, [], ◌∷◌, length, map, vec_capacity, refl, sym, ◌∙◌, ap, subst}
use Rattle.std.specs.Global.{Vec}
use Rattle.session_laws.specs.session_model.specs.Activation.{no_link, link_at, place_among}
use Rattle.session_laws.specs.session_model.specs.Samples.{below}
use Rattle.activation.proofs.Played.{map-snoc}
use Rattle.activation.proofs.Indexed.{index_empty, index_on, index_short, place_is}
use Rattle.activation.proofs.indexes.sort_links.Goals as goal

pub loop-position-init : goal.loop-position-init
loop-position-init c = (refl, refl, index_empty (λ k. (link_at c.args.links.now k).to) c.args.into.now.items c.requires.into, index_empty (λ k. (link_at c.args.links.now k).from) c.args.out.now.items c.requires.out, c.requires.places.0, search rules, refl)

pub add-place-requires : goal.add-place-requires
add-place-requires c =
    let i = c.loop-position.invariant in
    let links = c.args.links.now in
    let p : ℕ = c.loop-position.position in
    let test : p < length links = c.loop-position-test.true in
    let few = c.requires.links.1 in
    let up = c.requires.links.0.upward p no_link test in
    let within = c.requires.links.0.within p no_link test in
    let long : length c.loop-position.out.items ≡ length c.args.out.now.items = search rules in
    let low : (link_at links p).from < length c.loop-position.out.items = omega (arith, up, within, long, c.requires.links.2) in (
      subst (λ (v : Vec ℕ). length v.items ≤ p) (sym c.index_mut.ensures.value) (index_short (λ k. (link_at links k).from) p c.loop-position.out.items (link_at links p).from _ i.3 low),
      omega (arith, test, few),
      subst (λ (v : Vec ℕ). 512 ≤ vec_capacity v) (sym c.index_mut.ensures.value) (i.3.room (link_at links p).from _ low),
    )

pub add-requires : goal.add-requires
add-requires c =
    let i = c.loop-position.invariant in
    let links = c.args.links.now in
    let p : ℕ = c.loop-position.position in
    let test : p < length links = c.loop-position-test.true in
    let few = c.requires.links.1 in
    let within = c.requires.links.0.within p no_link test in
    let long : length c.loop-position.into.items ≡ length c.args.into.now.items = search rules in
    let low : (link_at links p).to < length c.loop-position.into.items = omega (arith, within, long) in (
      subst (λ (v : Vec ℕ). length v.items ≤ p) (sym c.index_mut-in-loop-position.ensures.value) (index_short (λ k. (link_at links k).to) p c.loop-position.into.items (link_at links p).to _ i.2 low),
      omega (arith, test, few),
      subst (λ (v : Vec ℕ). 512 ≤ vec_capacity v) (sym c.index_mut-in-loop-position.ensures.value) (i.2.room (link_at links p).to _ low),
    )

pub loop-position-preserved : goal.loop-position-preserved
loop-position-preserved c =
    let i = c.loop-position.invariant in
    let links = c.args.links.now in
    let p : ℕ = c.loop-position.position in
    let test : p < length links = c.loop-position-test.true in
    let up = c.requires.links.0.upward p no_link test in
    let within = c.requires.links.0.within p no_link test in
    let long_into : length c.loop-position.into.items ≡ length c.args.into.now.items = search rules in
    let long_out : length c.loop-position.out.items ≡ length c.args.out.now.items = search rules in
    let low_to : (link_at links p).to < length c.loop-position.into.items = omega (arith, within, long_into) in
    let low_from : (link_at links p).from < length c.loop-position.out.items = omega (arith, up, within, long_out, c.requires.links.2) in
    let room_to : 512 ≤ vec_capacity c.index_mut-in-loop-position.result.now = subst (λ (v : Vec ℕ). 512 ≤ vec_capacity v) (sym c.index_mut-in-loop-position.ensures.value) (i.2.room (link_at links p).to _ low_to) in
    let room_from : 512 ≤ vec_capacity c.index_mut.result.now = subst (λ (v : Vec ℕ). 512 ≤ vec_capacity v) (sym c.index_mut.ensures.value) (i.3.room (link_at links p).from _ low_from) in
    let next : suc p ≡ p + 1 = omega arith in
    let place : c.add-place.result ≡ place_among links p = c.add-place.ensures.2 ∙ (ap (λ (v : Vec ℕ). length v.items) c.index_mut.ensures.value ∙ place_is links p c.loop-position.out.items _ i.3 low_from) in (
      i.0,
      i.1,
      index_on (λ k. (link_at links k).to) p c.loop-position.into.items c.add.new.list _ low_to (c.add.ensures.0 ∙ ap (λ (v : Vec ℕ). v.items ++ p ∷ []) c.index_mut-in-loop-position.ensures.value) (omega (arith, room_to, c.add.ensures.1)) i.2,
      index_on (λ k. (link_at links k).from) p c.loop-position.out.items c.add-place.new.list _ low_from (c.add-place.ensures.0 ∙ ap (λ (v : Vec ℕ). v.items ++ p ∷ []) c.index_mut.ensures.value) (omega (arith, room_from, c.add-place.ensures.1)) i.3,
      c.push_reserved.ensures.items ∙ ((λ j. i.4 j ++ place j ∷ []) ∙ (sym (map-snoc (place_among links) (below p) p) ∙ ap (λ n. map (place_among links) (below n)) next)),
      search rules,
      search rules,
    )
