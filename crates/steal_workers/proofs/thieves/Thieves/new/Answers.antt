use Rattle.std.proofs.Common.{rules, arith, ◌≡◌, ◌≤◌, ◌<◌, ◌+◌, ℕ, [], ◌∷◌, ◌++◌, List, None, length, get_or, vec_capacity, refl, sym, ap, ◌∙◌, subst}
use Rattle.std.specs.Global.{Vec, Global}
use Rattle.crossbeam_deque.specs.Handles.{Pass}
use Rattle.steal_workers.specs.declared.tallies.Tally.{Tally}
use Rattle.steal_workers.specs.declared.ends.Stealer.{Stealer}
use Rattle.steal_workers.specs.declared.places.Place.{Place}
use Rattle.steal_workers.specs.Tallies.{tally, every_part}
use Rattle.steal_workers.specs.Deques.{tally_of, LeadsTo}
use Rattle.steal_workers.specs.Thefts.{IsEmpty}
use Rattle.steal_workers.proofs.Changing.{all_map, all_pushed, both_pushed}
use Rattle.steal_workers.proofs.Tallied.{holds_none}
use Rattle.steal_workers.proofs.thieves.Thieves.new.Goals as goal

pub loop-preserved : goal.loop-preserved
loop-preserved g c =
    let i = c.loop.invariant in
    let A : Type 0 = Place g.row.B.Denot g.row.B-Value.Denot g.row.B-Memory.Denot in
    let R : Stealer → A → Type 0 = λ x y. LeadsTo x y.deque in
    let Q : A → Type 0 = λ place. (tally_of place.deque ≡ tally every_part [] []) × (place.thief ≡ None) in
    let W : Vec (Pass ℕ Tally Global) → Type 0 = λ row. (row.items ≡ []) × (c.args.seats ≤ vec_capacity row) in
    let place : A = record { deque = c.in_ok-deque.deque; thief = None } in
    let at : length c.loop.stealers.items ≡ c.loop.counter = search rules in
    let at' : length c.loop.places.items ≡ c.loop.counter = search rules in record {
      stealers = search rules;
      places = search rules;
      passes = search rules;
      reached = λ k x y less. subst (λ (z : List Stealer × List A). R (get_or z.0 k x) (get_or z.1 k y)) (λ j. (sym c.push_reserved.ensures.items j, sym c.push_reserved-in-loop.ensures.items j))
          (both_pushed R c.loop.stealers.items c.loop.places.items c.loop.counter c.in_ok-stealer.field-0 place at at' c.in_ok-stealer.ensures i.reached k x y less);
      at_rest = subst (λ (l : List A). (k : ℕ) (d : A) → k < length l → Q (get_or l k d)) (sym c.push_reserved-in-loop.ensures.items) (all_pushed Q c.loop.places.items place (c.in_ok-deque.ensures, refl) i.at_rest);
      room = subst (λ (l : List (Vec (Pass ℕ Tally Global))). (k : ℕ) (d : Vec (Pass ℕ Tally Global)) → k < length l → W (get_or l k d)) (sym c.push_reserved-in-loop-2.ensures.items) (all_pushed W c.loop.passes.items c.in_ok-with_capacity.field-0 (search rules, search rules) i.room);
    }

pub returns-clause-empty : goal.returns-clause-empty
returns-clause-empty g c = all_map (λ place. tally_of place.deque) IsEmpty c.loop.places.items (λ k d low.
    let is = (c.loop.invariant.at_rest k d low).0 in
    holds_none (tally_of (get_or c.loop.places.items k d).deque) (ap (λ v. v.parts) is) (λ weight. ap (λ (v : Tally). Rattle.std.proofs.Common.sum_by weight v.taken) is ∙ sym (ap (λ (v : Tally). Rattle.std.proofs.Common.sum_by weight v.pushed) is)))
