use Rattle.std.proofs.Common.{arith, ◌≡◌, ◌<◌, ◌+◌, ℕ, List, length, get_or, Some, None, sym, ap, ◌∙◌, subst}
use Rattle.activation.specs.declared.views.Item.TheVariants.{Value}
use Rattle.activation.specs.declared.views.Duty.{Duty}
use Rattle.activation.specs.Contents.{IsFull, IsValueOf}
use Rattle.std.proofs.lemmas.List.{length-map}
use Rattle.session_laws.specs.session_model.specs.Activation.{incoming, link_at}
use Rattle.activation.specs.Rule.{has}
use Rattle.activation.proofs.Machines.{get_or_any}
use Rattle.activation.proofs.Listed.{each_at, incoming-facts, incoming-contains}
use Rattle.activation.proofs.Slots.{owns_value, some_at, none_some, full_value, given_value}
use Rattle.activation.proofs.crews.Crew.put_back_values.Goals as goal

pub unreachable-requires : goal.unreachable-requires
unreachable-requires g c =
    let i = c.loop-i.invariant in
    let given = c.requires.given in
    let test : c.loop-i.i < length c.incoming-link-items.result.now = c.loop-i-test.true in
    let same : length c.incoming-link-items.result.now ≡ length (incoming c.args.self.now.links.items c.args.node) = ap (λ (l : List ℕ). length l) c.incoming-link-items.ensures in
    let low : c.loop-i.i < length given.0 = omega (arith, test, same, given.2) in
    let long : length c.args.given.now.items ≡ length given.0 = ap (λ l. length l) given.1 ∙ length-map given.0 Some in
    let y = some_at given.0 c.loop-i.i low in
    none_some c.take.result y.0 c.in_default.is
    (c.take.ensures.value ∙ (c.index_mut.ensures.value ∙ (get_or_any c.loop-i.given.items c.loop-i.i c.index_mut.result.now None (omega (arith, low, long, i.3)) ∙ (i.4 c.loop-i.i (omega arith) ∙ (ap (λ l. get_or l c.loop-i.i None) given.1 ∙ y.1)))))

pub put_back-requires-clause-seat : goal.put_back-requires-clause-seat
put_back-requires-clause-seat g c κs within =
    let i = c.loop-i.invariant in
    let links = c.args.self.now.links.items in
    let x : ℕ = get_or c.incoming-link-items.result.now c.loop-i.i 0 in
    let low : c.loop-i.i < length (incoming links c.args.node) = subst (λ (l : List ℕ). c.loop-i.i < length l) c.incoming-link-items.ensures c.loop-i-test.true in
    let facts = each_at (λ l. (l < length links) × ((link_at links l).to ≡ c.args.node)) (incoming links c.args.node) (incoming-facts links c.args.node) c.loop-i.i 0 low in
    let is : get_or (incoming links c.args.node) c.loop-i.i 0 ≡ x = ap (λ (l : List ℕ). get_or l c.loop-i.i 0) (sym c.incoming-link-items.ensures) in (
      i.0.table,
      i.0.idle,
      owns_value c.loop-i.seat.me.0 links c.args.self.now.nodes i.0.same_links i.0.same_nodes c.args.node x (ap (λ d. has d.held c.args.node) i.1 ∙ c.requires.node.0)
          (subst (λ k. k < length links) is facts.0) (subst (λ k. (link_at links k).to ≡ c.args.node) is facts.1),
    )

pub put_back-requires-clause-slot : goal.put_back-requires-clause-slot
put_back-requires-clause-slot g c κs within =
    let links = c.args.self.now.links.items in
    let x : ℕ = get_or c.incoming-link-items.result.now c.loop-i.i 0 in
    let low : c.loop-i.i < length (incoming links c.args.node) = subst (λ (l : List ℕ). c.loop-i.i < length l) c.incoming-link-items.ensures c.loop-i-test.true in
    let facts = each_at (λ l. (l < length links) × ((link_at links l).to ≡ c.args.node)) (incoming links c.args.node) (incoming-facts links c.args.node) c.loop-i.i 0 low in
    let is : get_or (incoming links c.args.node) c.loop-i.i 0 ≡ x = ap (λ (l : List ℕ). get_or l c.loop-i.i 0) (sym c.incoming-link-items.ensures) in
    let inside : x < length links = subst (λ k. k < length links) is facts.0 in
    omega (arith, inside, c.args.self.now.shape.words, c.args.self.now.shape.few_links)

pub put_back-requires-clause-item : goal.put_back-requires-clause-item
put_back-requires-clause-item g c κs within =
    let i = c.loop-i.invariant in
    let links = c.args.self.now.links.items in
    let duty = c.args.seat.now.me.0.duty in
    let which = incoming links c.args.node in
    let x : ℕ = get_or c.incoming-link-items.result.now c.loop-i.i 0 in
    let low : c.loop-i.i < length which = subst (λ (l : List ℕ). c.loop-i.i < length l) c.incoming-link-items.ensures c.loop-i-test.true in
    let is : get_or which c.loop-i.i 0 ≡ x = ap (λ (l : List ℕ). get_or l c.loop-i.i 0) (sym c.incoming-link-items.ensures) in
    let many : length c.args.given.now.items ≡ length which = ap length c.requires.given.1 ∙ (length-map c.requires.given.0 Some ∙ c.requires.given.2) in
    let value : get_or c.args.given.now.items c.loop-i.i None ≡ Some c.in-Some.value =
    sym (i.4 c.loop-i.i (omega arith)) ∙ (sym (get_or_any c.loop-i.given.items c.loop-i.i c.index_mut.result.now None (omega (arith, low, many, i.3))) ∙ (sym c.index_mut.ensures.value ∙ (sym c.take.ensures.value ∙ c.in-Some.is))) in
    let its = given_value g.B.Work.memory g.B.Work.has_room g.B.Work.value_at g.B.Work.after g.B.Work.gives links duty.before which c.args.given.now.items c.loop-i.i c.in-Some.value c.requires.given low value in
    subst (λ (z : Duty g.row.B.Denot × ℕ). IsFull g.B.Work.memory g.B.Work.has_room g.B.Work.after g.B.Work.gives z.0.links z.0.before (z.1 + x) (Some (Value c.in-Some.value))) (λ k. (sym i.1 k, c.requires.seat.same_nodes k))
    (full_value g.B.Work.memory g.B.Work.has_room g.B.Work.value_at g.B.Work.after g.B.Work.gives duty.links links duty.before x c.in-Some.value c.requires.seat.same_links
    (subst (λ k. IsValueOf g.B.Work.memory g.B.Work.has_room g.B.Work.after g.B.Work.gives links duty.before k c.in-Some.value) is its))

pub returns-clause-back : goal.returns-clause-back
returns-clause-back g c l low to =
    let links = c.args.self.now.links.items in
    let xs : List ℕ = c.incoming-link-items.result.now in
    let there = incoming-contains links c.args.node l low to in
    let same : length xs ≡ length (incoming links c.args.node) = ap (λ (l : List ℕ). length l) c.incoming-link-items.ensures in
    let before : there.0 < length xs = omega (arith, there.1, same) in
    let past : there.0 < c.loop-i.i = omega (arith, before, c.loop-i-test.false) in
    let is : get_or xs there.0 0 ≡ l = get_or_any xs there.0 0 l before ∙ (ap (λ (k : List ℕ). get_or k there.0 l) c.incoming-link-items.ensures ∙ there.2) in
    ap (λ k. has c.loop-i.seat.me.0.hand.back (c.args.self.now.nodes + k)) (sym is) ∙ c.loop-i.invariant.2 there.0 past
