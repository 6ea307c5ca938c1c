use Rattle.std.proofs.Common.{arith, ◌≡◌, ◌≤◌, ◌<◌, ◌+◌, ℕ, suc, List, [], take, get_or, length, Some, vec_capacity, refl, sym, ap, ◌∙◌, subst, length-take-le}
use lib.Seq.{take-length}
use Rattle.std.proofs.lemmas.List.{length-map}
use Rattle.session_laws.specs.session_model.specs.Activation.{incoming, link_at}
use Rattle.activation.specs.Rule.{has}
use Rattle.activation.specs.Contents.{AreValuesOf, IsValueOf}
use Rattle.activation.proofs.Listed.{each_at, incoming-facts, incoming-rises, incoming-short}
use Rattle.activation.proofs.Played.{more_values, room_is}
use Rattle.activation.proofs.crews.Crew.lift_values.Goals as goal

pub loop-link-init : goal.loop-link-init
loop-link-init g c = (
  c.requires.seat,
  refl,
  c.requires.node.1,
  (λ j le low. let h = c.requires.node.2 in omega (arith, h)),
  ([], c.requires.room.0, refl, (λ before tells. refl)),
  refl,
)

pub lift_value-value-requires-clause-seat : goal.lift_value-value-requires-clause-seat
lift_value-value-requires-clause-seat g c κs within = c.loop-link.invariant.0

pub lift_value-value-requires-clause-link : goal.lift_value-value-requires-clause-link
lift_value-value-requires-clause-link g c κs within =
    let i = c.loop-link.invariant in
    let xs : List ℕ = c.incoming-link-items.result.now in
    let x : ℕ = get_or xs c.loop-link.link-index 0 in
    let links = c.args.self.now.links.items in
    let low : c.loop-link.link-index < length (incoming links c.args.node) = subst (λ (l : List ℕ). c.loop-link.link-index < length l) c.incoming-link-items.ensures c.loop-link-test.true in
    let facts = each_at (λ l. (l < length links) × ((link_at links l).to ≡ c.args.node)) (incoming links c.args.node) (incoming-facts links c.args.node) c.loop-link.link-index 0 low in
    let is : get_or (incoming links c.args.node) c.loop-link.link-index 0 ≡ x = ap (λ (l : List ℕ). get_or l c.loop-link.link-index 0) (sym c.incoming-link-items.ensures) in
    let inside : x < length links = subst (λ k. k < length links) is facts.0 in
    let to : (link_at links x).to ≡ c.args.node = subst (λ k. (link_at links k).to ≡ c.args.node) is facts.1 in (
      inside,
      ap (has c.loop-link.seat.me.0.duty.held) to ∙ (ap (λ d. has d.held c.args.node) i.1 ∙ c.requires.node.0),
      i.2 ∙ sym to,
      i.3 c.loop-link.link-index (omega arith) c.loop-link-test.true,
    )

pub push_reserved-requires : goal.push_reserved-requires
push_reserved-requires g c =
    let i = c.loop-link.invariant in
    let xs : List ℕ = c.incoming-link-items.result.now in
    let short : length xs ≤ length c.args.self.now.links.items = subst (λ (l : List ℕ). length l ≤ length c.args.self.now.links.items) (sym c.incoming-link-items.ensures) (incoming-short c.args.self.now.links.items c.args.node) in
    let test : c.loop-link.link-index < length xs = c.loop-link-test.true in
    let count : length c.loop-link.given.items ≡ c.loop-link.link-index = ap length i.4.1 ∙ (length-map i.4.0 Some ∙ (i.4.2 ∙ length-take-le c.loop-link.link-index xs (omega (arith, test)))) in
    let room : 512 ≤ vec_capacity c.args.given.now = room_is (vec_capacity c.args.given.now) c.requires.room.1 in
    omega (arith, count, test, short, room, i.5, c.loop-link.given.ok.0, c.args.self.now.shape.few_links)

pub loop-link-preserved : goal.loop-link-preserved
loop-link-preserved g c =
    let i = c.loop-link.invariant in
    let new = c.lift_value-value.ensures in
    let xs : List ℕ = c.incoming-link-items.result.now in
    let k : ℕ = c.loop-link.link-index in
    let test : k < length xs = c.loop-link-test.true in
    let next : suc k ≡ k + 1 = omega arith in (
      new.seat.0,
      ap (λ v. v.duty) new.seat.1 ∙ i.1,
      ap (λ v. v.hand.node) new.seat.1 ∙ i.2,
      (λ j le low.
          let rise : get_or xs k 0 < get_or xs j 0 = subst (λ (l : List ℕ). j < length l → get_or l k 0 < get_or l j 0) (sym c.incoming-link-items.ensures) (incoming-rises c.args.self.now.links.items c.args.node k j (omega (arith, le))) low in
          let floor : c.lift_value-value.new.seat.me.0.hand.floor ≡ suc (c.args.self.now.nodes + get_or xs k 0) = ap (λ v. v.hand.floor) new.seat.1 in
          omega (arith, rise, floor)),
      subst (λ n. AreValuesOf g.B.Work.memory g.B.Work.has_room g.B.Work.after g.B.Work.gives c.args.self.now.links.items c.args.seat.now.me.0.duty.before (take n xs) c.push_reserved.new.self.items) next
          (subst (λ l. AreValuesOf g.B.Work.memory g.B.Work.has_room g.B.Work.after g.B.Work.gives c.args.self.now.links.items c.args.seat.now.me.0.duty.before (take (suc k) xs) l) (sym c.push_reserved.ensures.items)
          (more_values g.B.Work.memory g.B.Work.has_room g.B.Work.value_at g.B.Work.after g.B.Work.gives c.args.self.now.links.items c.args.seat.now.me.0.duty.before xs k c.loop-link.given.items c.lift_value-value.result test i.4
          (subst (λ d. IsValueOf g.B.Work.memory g.B.Work.has_room g.B.Work.after g.B.Work.gives c.args.self.now.links.items d.before (get_or xs k 0) c.lift_value-value.result) i.1 new.value))),
      c.push_reserved.ensures.capacity ∙ i.5,
    )

pub returns-clause-seat : goal.returns-clause-seat
returns-clause-seat g c = (c.loop-link.invariant.0, c.loop-link.invariant.1)

pub returns-clause-given : goal.returns-clause-given
returns-clause-given g c =
    let xs : List ℕ = c.incoming-link-items.result.now in
    let end : c.loop-link.link-index ≡ length xs = omega (arith, c.loop-link.auto.link-index-end, c.loop-link-test.false) in
    let all : take c.loop-link.link-index xs ≡ incoming c.args.self.now.links.items c.args.node = ap (λ n. take n xs) end ∙ (take-length xs ∙ c.incoming-link-items.ensures) in
    subst (λ l. AreValuesOf g.B.Work.memory g.B.Work.has_room g.B.Work.after g.B.Work.gives c.args.self.now.links.items c.args.seat.now.me.0.duty.before l c.loop-link.given.items) all c.loop-link.invariant.4
