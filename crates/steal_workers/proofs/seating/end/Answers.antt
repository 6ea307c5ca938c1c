use Rattle.std.proofs.Common.{rules, arith, ◌≡◌, ◌<◌, ◌≤◌, ℕ, List, length, get_or, IfSome, vec_capacity, refl, sym, ap, ◌∙◌, subst}
use Rattle.std.specs.Global.{Vec, Global}
use Rattle.crossbeam_deque.specs.Handles.{Pass, worker_deque}
use Rattle.steal_workers.specs.declared.tallies.Tally.{Tally}
use Rattle.steal_workers.specs.declared.places.Place.{Place}
use Rattle.steal_workers.specs.Places.{Paired, IsPassAt, parts_of}
use Rattle.steal_workers.proofs.Changing.{any_of}
use Rattle.steal_workers.proofs.Seated.{rose}
use Rattle.steal_workers.proofs.seating.end.Goals as goal

pub close-requires-clause-passes : goal.close-requires-clause-passes
close-requires-clause-passes g c κs within =
    let old = c.args.places.now in
    let mid = c.rise.new.places in
    let value : c.as_mut_slice.result.now ≡ c.rise.new.passes.items = c.as_mut_slice.ensures.value in
    subst (λ (rows : List (Vec (Pass ℕ Tally Global))). (k : ℕ) (d : Vec (Pass ℕ Tally Global)) → k < length rows → Paired IsPassAt mid (get_or rows k d).items × (length mid ≤ vec_capacity (get_or rows k d))) (sym value)
    (rose old mid c.rise.new.seats.items c.rise.new.passes.items c.rise.ensures.passes.0 c.rise.ensures.seats.0 c.rise.auto.places c.requires.places c.rise.ensures.places c.rise.ensures.empty)

pub clear-requires-clause-parts : goal.clear-requires-clause-parts
clear-requires-clause-parts g c κs within = λ k d low.
    let old = c.args.places.now in
    let long = c.rise.auto.places in
    let long' = c.close.auto.places in
    let rows : length c.as_mut_slice.result.now ≡ length old = search rules in
    let low' : k < length old = omega (arith, low, long, long') in
    let back = (c.close.ensures.places.1 k d d (omega (arith, low, long'))).parts in
    let bare = ap (λ (p : Place g.row.B.Denot g.row.B-Value.Denot g.row.B-Memory.Denot). parts_of p) (c.rise.ensures.empty k d low') in
    let may = (c.requires.places k d low').parts in
    omega (arith, back, bare, may, rows)

pub returns-clause-order : goal.returns-clause-order
returns-clause-order g c = λ k place seat low.
    let row = any_of c.rise.new.passes.items k (let many = c.rise.ensures.passes.0 in omega (arith, low, many)) in
    subst (λ o. IfSome o (λ thief. get_or c.rise.new.seats.items k seat ≡ thief.seat)) (sym (c.rise.ensures.places k place seat row low)) refl

pub returns-clause-places : goal.returns-clause-places
returns-clause-places g c =
    let long = c.rise.auto.places in
    let long' = c.close.auto.places in
    let long'' = c.clear.auto.places in (
      long'' ∙ (long' ∙ long),
      λ k x y low.
          let low' : k < length c.rise.new.places = omega (arith, low, long) in
          let low'' : k < length c.close.new.places = omega (arith, low', long') in
          let bare = c.rise.ensures.empty k x low in
          let back = c.close.ensures.places.1 k x x low' in
          let empty = c.clear.ensures.1 k x y low'' in (
            empty.deque ∙ (back.deque ∙ ap (λ (p : Place g.row.B.Denot g.row.B-Value.Denot g.row.B-Memory.Denot). worker_deque p.deque.worker) bare),
            empty.all,
            empty.even,
            empty.thief ∙ (back.thief ∙ ap (λ (p : Place g.row.B.Denot g.row.B-Value.Denot g.row.B-Memory.Denot). p.thief) bare),
          ),
    )
