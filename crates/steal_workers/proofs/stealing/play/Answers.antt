use Rattle.std.proofs.Common.{arith, ◌≡◌, ◌<◌, ◌+◌, ℕ, false, List, ◌∷◌, length, get_or, sym, ap, ◌∙◌, subst, refl, inl, inr, ⊎_elim}
use Rattle.jack_types.specs.declared.ports.Link.{Link}
use Rattle.session_model.specs.Activation.{no_link, link_at, outgoing}
use Rattle.cycle_workers.specs.activation.specs.declared.takens.Seat.{Seat}
use Rattle.cycle_workers.specs.activation.specs.Rule.{has}
use Rattle.cycle_workers.specs.activation.specs.Plays.{without}
use Rattle.cycle_workers.specs.activation.specs.Seats.{Sits}
use Rattle.cycle_workers.specs.activation.specs.Takens.{IsPlayed, with_released}
use Rattle.cycle_workers.specs.activation.proofs.Waiting.{unplayed_low, played_stays, has_room_at}
use Rattle.cycle_workers.specs.Runs.{HaveRoom}
use Rattle.cycle_workers.proofs.Going.{Going, out_fact, kept_held, going_first, going_done}
use Rattle.steal_workers.specs.declared.ends.Deque.{Deque}
use Rattle.steal_workers.specs.Steals.{KeepsDeque, LeavesAbove}
use Rattle.steal_workers.proofs.Offered.{beside, left_one, left_same, offered_none, offered_some, came_home, deque_stays}
use Rattle.steal_workers.proofs.stealing.play.Goals as goal
use Rattle.steal_workers.proofs.stealing.play.Goals.{in-Some, in_default}

-- the link that is released next, by its position in the list of links
next_link : (links : List Link) (node k : ℕ) (xs : List ℕ) → xs ≡ outgoing links node → k < length xs → (k < length (outgoing links node)) × (get_or (outgoing links node) k 0 ≡ get_or xs k 0) × (get_or xs k 0 < length links) × ((link_at links (get_or xs k 0)).from ≡ node)
next_link links node k xs outs test =
    let low : k < length (outgoing links node) = subst (λ (l : List ℕ). k < length l) outs test in
    let is : get_or (outgoing links node) k 0 ≡ get_or xs k 0 = ap (λ (l : List ℕ). get_or l k 0) (sym outs) in
    let fact = out_fact links node k low in
    (low, is, subst (λ q. q < length links) is fact.0, subst (λ q. (link_at links q).from ≡ node) is fact.1)

pub outgoing-links-requires-clause-node : goal.outgoing-links-requires-clause-node
outgoing-links-requires-clause-node g c κs within =
    let low = unplayed_low g.B.Work.memory g.B.Work.has_room g.B.Work.value_at g.B.Work.after g.B.Work.gives c.args.seat.now.token.me.0.duty c.args.taken.node c.args.taken.tray c.requires.taken in
    omega (arith, low, c.requires.seat.at.same_nodes, c.node-node.ensures)

pub loop-link-init : goal.loop-link-init
loop-link-init g c =
    let d = c.args.seat.now.token.me.0.duty in
    let links = c.args.crew.now.links.items in
    let same : d.links ≡ links = c.requires.seat.at.same_links in record {
      number = refl;
      sits = c.requires.seat;
      same = c.play.ensures.node;
      played = c.play.ensures.played d c.requires.taken;
      going = going_first links c.args.taken.node d (λ l low from. c.requires.taken.none_released l (subst (λ ls. l < length ls) (sym same) low) (ap (λ ls. (link_at ls l).from) same ∙ from));
      deque = record { same = refl; parts = refl };
      left = λ n h. inl h;
    }

pub release-requires-clause-seat : goal.release-requires-clause-seat
release-requires-clause-seat g c κs within = c.loop-link.invariant.sits

pub release-requires-clause-taken : goal.release-requires-clause-taken
release-requires-clause-taken g c κs within = c.loop-link.invariant.played

pub release-requires-clause-link : goal.release-requires-clause-link
release-requires-clause-link g c κs within =
    let links = c.args.crew.now.links.items in
    let node : ℕ = c.args.taken.node in
    let i = c.loop-link.invariant in
    let outs : c.outgoing-links.result.now ≡ outgoing links node = c.outgoing-links.ensures ∙ ap (outgoing links) c.node-node.ensures in
    let next = next_link links node c.loop-link.link-index c.outgoing-links.result.now outs c.loop-link-test.true in
    let off = subst (λ q. has c.loop-link.seat.token.me.0.duty.released q ≡ false) next.1 (i.going.open_links c.loop-link.link-index (omega arith) next.0) in
    (next.2, next.3 ∙ sym i.same, off)

pub release-requires-clause-room : goal.release-requires-clause-room
release-requires-clause-room g c κs within =
    let links = c.args.crew.now.links.items in
    let node : ℕ = c.args.taken.node in
    let i = c.loop-link.invariant in
    let outs : c.outgoing-links.result.now ≡ outgoing links node = c.outgoing-links.ensures ∙ ap (outgoing links) c.node-node.ensures in
    let next = next_link links node c.loop-link.link-index c.outgoing-links.result.now outs c.loop-link-test.true in
    let off = subst (λ q. has c.loop-link.seat.token.me.0.duty.released q ≡ false) next.1 (i.going.open_links c.loop-link.link-index (omega arith) next.0) in
    let rooms = subst (HaveRoom g.B.Work.has_room links) (sym i.going.before_stays) c.requires.room in
    has_room_at g.B.Work.memory g.B.Work.has_room g.B.Work.value_at g.B.Work.after g.B.Work.gives c.loop-link.seat.token.me.0.duty links c.loop-link.taken.node (get_or c.outgoing-links.result.now c.loop-link.link-index 0) c.loop-link.taken.tray i.sits.at.same_links i.played
    (λ bench e. rooms (get_or c.outgoing-links.result.now c.loop-link.link-index 0) bench next.2 e) next.2 (next.3 ∙ sym i.same) off

pub offer-requires-clause-seat : goal.offer-requires-clause-seat
offer-requires-clause-seat g c κs within = c.in-Some.ensures.seat.1

pub offer-requires-clause-taken : goal.offer-requires-clause-taken
offer-requires-clause-taken g c κs within = c.in-Some.ensures.some.3

pub offer-requires-clause-room : goal.offer-requires-clause-room
offer-requires-clause-room g c κs within =
    subst (HaveRoom g.B.Work.has_room c.args.crew.now.links.items) (sym (ap (λ d. d.before) c.in-Some.ensures.some.2 ∙ c.loop-link.invariant.going.before_stays)) c.requires.room

pub loop-link-preserved : goal.loop-link-preserved
loop-link-preserved g c =
    let crew = c.args.crew.now in
    let links = crew.links.items in
    let node : ℕ = c.args.taken.node in
    let k : ℕ = c.loop-link.link-index in
    let i = c.loop-link.invariant in
    let x : ℕ = get_or c.outgoing-links.result.now k 0 in
    let outs : c.outgoing-links.result.now ≡ outgoing links node = c.outgoing-links.ensures ∙ ap (outgoing links) c.node-node.ensures in
    let at = next_link links node k c.outgoing-links.result.now outs c.loop-link-test.true in
    let old = c.args.seat.now.token.me.0.duty in
    let d = c.loop-link.seat.token.me.0.duty in
    let P : Seat g.row.B.Denot g.row.B-Value.Denot g.row.B-Memory.Denot × Deque → Type 0 = λ z. record {
      number : z.0.number ≡ c.args.seat.now.number;
      sits : Sits crew.board.shared.table_id links crew.nodes crew.seats z.0.number z.0.token;
      same : c.release.new.taken.node ≡ node;
      played : IsPlayed g.B.Work.memory g.B.Work.has_room g.B.Work.value_at g.B.Work.after g.B.Work.gives z.0.token.me.0.duty c.release.new.taken.node c.release.new.taken.tray;
      going : Going links node (k + 1) old (beside old z.0.token.me.0.duty);
      deque : KeepsDeque c.args.deque.now z.1;
      left : LeavesAbove node crew.nodes old.left z.0.token.me.0.duty.left;
    } in
    elim c.match-release.branch [
      | in-Some w ↦
          let mid = c.release.new.seat.token.me.0.duty in
          let new = w.offer.new.seat.token.me.0.duty in
          let next = w.in-Some.ensures.some in
          let offered = w.offer.ensures.offered in
          let up = crew.shape.are.upward x no_link at.2 in
          let within' = crew.shape.are.within x no_link at.2 in
          let from = at.3 in
          let same : c.release.new.taken.node ≡ node = w.in-Some.ensures.taken.0 ∙ i.same in
          let mine : c.release.new.taken.node < w.in-Some.next.node = omega (arith, same, from, next.0, up) in
          let sits = w.in-Some.ensures.seat.1 in
          let lefts : mid.left ≡ d.left = ap (λ e. e.left) next.2 in
          subst P (λ j. (sym w.seat-is j, sym w.deque-is j)) record {
            number = w.offer.ensures.seat.0 ∙ (w.in-Some.ensures.seat.0 ∙ i.number);
            sits = w.offer.ensures.seat.1;
            same = same;
            played = played_stays g.B.Work.memory g.B.Work.has_room g.B.Work.value_at g.B.Work.after g.B.Work.gives mid new c.release.new.taken.node c.release.new.taken.tray offered.links_stay offered.before_stays
                (kept_held w.in-Some.next.node c.release.new.taken.node mid new offered.held_are (λ e. absurd (omega (arith, mine, e))))
                (λ l low' from'. offered.lower l (subst (λ ls. l < length ls) sits.at.same_links low') (let f = ap (λ ls. (link_at ls l).from) (sym sits.at.same_links) ∙ from' in omega (arith, f, mine)))
                w.in-Some.ensures.taken.1;
            going = offered_some links node crew.nodes k x w.in-Some.next.node old d mid new crew.shape.are at.0 at.1 next.0 next.1 next.2 offered i.going;
            deque = deque_stays c.args.deque.now c.loop-link.deque w.offer.new.deque i.deque w.offer.ensures.deque;
            left = left_one node crew.nodes w.in-Some.next.node old.left mid.left new.left (omega (arith, mine, same)) (omega (arith, next.0, within'))
                (⊎_elim (λ (y : _ × (new.left ≡ w.in-Some.next.node ∷ mid.left)). inl y.1) (λ (y : _ × (new.left ≡ without w.in-Some.next.node mid.left)). inr y.1) w.offer.ensures.left)
                (left_same node crew.nodes old.left d.left mid.left lefts i.left);
          }
      | in_default w ↦
          let new = c.release.new.seat.token.me.0.duty in
          let skipped : new ≡ with_released d x = w.in_default.ensures.none refl in
          subst P (λ j. (sym w.seat-is j, sym w.deque-is j)) record {
            number = w.in_default.ensures.seat.0 ∙ i.number;
            sits = w.in_default.ensures.seat.1;
            same = w.in_default.ensures.taken.0 ∙ i.same;
            played = w.in_default.ensures.taken.1;
            going = offered_none links node k x old d new at.0 at.1 skipped i.going;
            deque = i.deque;
            left = left_same node crew.nodes old.left d.left new.left (ap (λ e. e.left) skipped) i.left;
          }
    ]

pub home-requires-clause-seat : goal.home-requires-clause-seat
home-requires-clause-seat g c κs within = c.loop-link.invariant.sits

pub home-requires-clause-taken : goal.home-requires-clause-taken
home-requires-clause-taken g c κs within = c.loop-link.invariant.played

pub home-requires-clause-released : goal.home-requires-clause-released
home-requires-clause-released g c κs within = λ l low from.
    let links = c.args.crew.now.links.items in
    let node : ℕ = c.args.taken.node in
    let i = c.loop-link.invariant in
    let old = c.args.seat.now.token.me.0.duty in
    let not = c.loop-link-test.false in
    let outs : c.outgoing-links.result.now ≡ outgoing links node = c.outgoing-links.ensures ∙ ap (outgoing links) c.node-node.ensures in
    going_done links node c.loop-link.link-index old (beside old c.loop-link.seat.token.me.0.duty) (omega (arith, not, ap length outs)) i.going l low (from ∙ i.same)

pub returns-clause-seat : goal.returns-clause-seat
returns-clause-seat g c = (c.home.ensures.seat.0 ∙ c.loop-link.invariant.number, c.home.ensures.seat.1)

pub returns-clause-deque : goal.returns-clause-deque
returns-clause-deque g c = c.loop-link.invariant.deque

pub returns-clause-played : goal.returns-clause-played
returns-clause-played g c =
    let i = c.loop-link.invariant in
    let old = c.args.seat.now.token.me.0.duty in
    let d = c.loop-link.seat.token.me.0.duty in
    came_home c.args.crew.now.links.items c.args.taken.node c.loop-link.link-index old d c.home.new.seat.token.me.0.duty (c.home.ensures.home ∙ ap (λ n. Rattle.cycle_workers.specs.activation.specs.Takens.with_home d n) i.same) i.going

pub returns-clause-left : goal.returns-clause-left
returns-clause-left g c =
    let i = c.loop-link.invariant in
    left_same c.args.taken.node c.args.crew.now.nodes c.args.seat.now.token.me.0.duty.left c.loop-link.seat.token.me.0.duty.left c.home.new.seat.token.me.0.duty.left (ap (λ d. d.left) c.home.ensures.home) i.left
