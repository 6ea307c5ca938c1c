use Rattle.std.proofs.Common.{rules, arith, ◌≡◌, ◌<◌, ◌-◌, ◌+◌, ℕ, false, List, length, get_or, sym, ap, ◌∙◌, subst, refl}
use Rattle.jack_types.specs.declared.ports.Link.{Link}
use Rattle.session_model.specs.Activation.{no_link, link_at, outgoing}
use Rattle.activation.specs.declared.takens.Seat.{Seat}
use Rattle.activation.specs.Rule.{has}
use Rattle.activation.specs.Plays.{without}
use Rattle.activation.specs.Seats.{Sits}
use Rattle.activation.specs.Takens.{IsPlayed, with_released}
use Rattle.activation.proofs.Waiting.{unplayed_low, played_stays, has_room_at}
use Rattle.cycle_workers.specs.Runs.{HaveRoom}
use Rattle.cycle_workers.proofs.Going.{Going, out_fact, kept_held, going_first, going_none, going_some, going_done}
use Rattle.cycle_workers.proofs.running.+run.Goals as goal
use Rattle.cycle_workers.proofs.running.+run.Goals.{in-Some, in_default}

-- the link that is released next, by its position in the list of links
next_link : (links : List Link) (node k : ℕ) (xs : List ℕ) → xs ≡ outgoing links node → k < length xs → (k < length (outgoing links node)) × (get_or (outgoing links node) k 0 ≡ get_or xs k 0) × (get_or xs k 0 < length links) × ((link_at links (get_or xs k 0)).from ≡ node)
next_link links node k xs outs test =
    let low : k < length (outgoing links node) = subst (λ (l : List ℕ). k < length l) outs test in
    let is : get_or (outgoing links node) k 0 ≡ get_or xs k 0 = ap (λ (l : List ℕ). get_or l k 0) (sym outs) in
    let fact = out_fact links node k low in
    (low, is, subst (λ q. q < length links) is fact.0, subst (λ q. (link_at links q).from ≡ node) is fact.1)

pub outgoing-links-requires-clause-node : goal.outgoing-links-requires-clause-node
outgoing-links-requires-clause-node g t c κs within =
    let low = unplayed_low g.B.Work.memory g.B.Work.has_room g.B.Work.value_at g.B.Work.after g.B.Work.gives c.args.seat.now.token.me.0.duty c.args.taken.node c.args.taken.tray c.requires.taken in
    omega (arith, low, c.requires.seat.at.same_nodes, c.node-node.ensures)

pub loop-link-init : goal.loop-link-init
loop-link-init g t c =
    let d = c.args.seat.now.token.me.0.duty in
    let links = c.args.crew.now.links.items in
    let same : d.links ≡ links = c.requires.seat.at.same_links in (
      refl,
      c.requires.seat,
      c.play.ensures.node,
      c.play.ensures.played d c.requires.taken,
      going_first links c.args.taken.node d (λ l low from. c.requires.taken.none_released l (subst (λ ls. l < length ls) (sym same) low) (ap (λ ls. (link_at ls l).from) same ∙ from)),
    )

pub release-requires-clause-seat : goal.release-requires-clause-seat
release-requires-clause-seat g t c κs within = c.loop-link.invariant.1

pub release-requires-clause-taken : goal.release-requires-clause-taken
release-requires-clause-taken g t c κs within = c.loop-link.invariant.3

pub release-requires-clause-link : goal.release-requires-clause-link
release-requires-clause-link g t c κs within =
    let links = c.args.crew.now.links.items in
    let node : ℕ = c.args.taken.node in
    let i = c.loop-link.invariant in
    let outs : c.outgoing-links.result.now ≡ outgoing links node = c.outgoing-links.ensures ∙ ap (outgoing links) c.node-node.ensures in
    let next = next_link links node c.loop-link.link-index c.outgoing-links.result.now outs c.loop-link-test.true in
    let off = subst (λ q. has c.loop-link.seat.token.me.0.duty.released q ≡ false) next.1 (i.4.open_links c.loop-link.link-index (omega arith) next.0) in
    (next.2, next.3 ∙ sym i.2, off)

pub release-requires-clause-room : goal.release-requires-clause-room
release-requires-clause-room g t c κs within =
    let links = c.args.crew.now.links.items in
    let node : ℕ = c.args.taken.node in
    let i = c.loop-link.invariant in
    let outs : c.outgoing-links.result.now ≡ outgoing links node = c.outgoing-links.ensures ∙ ap (outgoing links) c.node-node.ensures in
    let next = next_link links node c.loop-link.link-index c.outgoing-links.result.now outs c.loop-link-test.true in
    let off = subst (λ q. has c.loop-link.seat.token.me.0.duty.released q ≡ false) next.1 (i.4.open_links c.loop-link.link-index (omega arith) next.0) in
    let rooms = subst (HaveRoom g.B.Work.has_room links) (sym i.4.before_stays) c.requires.room in
    has_room_at g.B.Work.memory g.B.Work.has_room g.B.Work.value_at g.B.Work.after g.B.Work.gives c.loop-link.seat.token.me.0.duty links c.loop-link.taken.node (get_or c.outgoing-links.result.now c.loop-link.link-index 0) c.loop-link.taken.tray i.1.at.same_links i.3
    (λ bench e. rooms (get_or c.outgoing-links.result.now c.loop-link.link-index 0) bench next.2 e) next.2 (next.3 ∙ sym i.2) off

pub run-requires : goal.run-requires
run-requires g t c κs within =
    let links = c.args.crew.now.links.items in
    let node : ℕ = c.args.taken.node in
    let i = c.loop-link.invariant in
    let outs : c.outgoing-links.result.now ≡ outgoing links node = c.outgoing-links.ensures ∙ ap (outgoing links) c.node-node.ensures in
    let x : ℕ = get_or c.outgoing-links.result.now c.loop-link.link-index 0 in
    let at = next_link links node c.loop-link.link-index c.outgoing-links.result.now outs c.loop-link-test.true in
    let next = c.in-Some.ensures.some in
    let up = c.args.crew.now.shape.are.upward x no_link at.2 in
    let within' = c.args.crew.now.shape.are.within x no_link at.2 in
    let from = at.3 in
    let falls : c.args.crew.now.nodes - c.in-Some.next.node < t = (let fuel = c.decreases in omega (arith, next.0, up, within', from, fuel)) in (
      falls,
      (
        search rules,
        (
          search rules,
          (
            search rules,
            (
              search rules,
              (
                search rules,
                (
                  search rules,
                  (c.in-Some.ensures.seat.1, (next.3, subst (HaveRoom g.B.Work.has_room links) (sym (ap (λ d. d.before) next.2 ∙ i.4.before_stays)) c.requires.room)),
                ),
              ),
            ),
          ),
        ),
      ),
    )

pub loop-link-preserved : goal.loop-link-preserved
loop-link-preserved g t c =
    let links = c.args.crew.now.links.items in
    let node : ℕ = c.args.taken.node in
    let k : ℕ = c.loop-link.link-index in
    let i = c.loop-link.invariant in
    let x : ℕ = get_or c.outgoing-links.result.now k 0 in
    let outs : c.outgoing-links.result.now ≡ outgoing links node = c.outgoing-links.ensures ∙ ap (outgoing links) c.node-node.ensures in
    let at = next_link links node k c.outgoing-links.result.now outs c.loop-link-test.true in
    let old = c.args.seat.now.token.me.0.duty in
    let d = c.loop-link.seat.token.me.0.duty in
    let P : Seat g.row.B.Denot g.row.B-Value.Denot g.row.B-Memory.Denot → Type 0 = λ seat.
    (seat.number ≡ c.args.seat.now.number)
    × Sits c.args.crew.now.board.shared.table_id links c.args.crew.now.nodes c.args.crew.now.seats seat.number seat.token
    × (c.release.new.taken.node ≡ node)
    × IsPlayed g.B.Work.memory g.B.Work.has_room g.B.Work.value_at g.B.Work.after g.B.Work.gives seat.token.me.0.duty c.release.new.taken.node c.release.new.taken.tray
    × Going links node (k + 1) old seat.token.me.0.duty in
    elim c.match-release.branch [
      | in-Some w ↦
          let mid = c.release.new.seat.token.me.0.duty in
          let new = w.run.new.seat.token.me.0.duty in
          let next = w.in-Some.ensures.some in
          let ran = w.run.ensures.run in
          let up = c.args.crew.now.shape.are.upward x no_link at.2 in
          let from = at.3 in
          let same : c.release.new.taken.node ≡ node = w.in-Some.ensures.taken.0 ∙ i.2 in
          let mine : c.release.new.taken.node < w.in-Some.next.node = omega (arith, same, from, next.0, up) in
          let sits = w.in-Some.ensures.seat.1 in
          subst P (sym w.seat-is) (
            w.run.ensures.seat.0 ∙ (w.in-Some.ensures.seat.0 ∙ i.0),
            w.run.ensures.seat.1,
            same,
            played_stays g.B.Work.memory g.B.Work.has_room g.B.Work.value_at g.B.Work.after g.B.Work.gives mid new c.release.new.taken.node c.release.new.taken.tray ran.links_stay ran.before_stays
                (kept_held w.in-Some.next.node c.release.new.taken.node mid new ran.held_are (λ e. absurd (omega (arith, mine, e))))
                (λ l low' from'. ran.lower l (subst (λ ls. l < length ls) sits.at.same_links low') (let f = ap (λ ls. (link_at ls l).from) (sym sits.at.same_links) ∙ from' in omega (arith, f, mine)))
                w.in-Some.ensures.taken.1,
            going_some links node c.args.crew.now.nodes k x w.in-Some.next.node old d mid new c.args.crew.now.shape.are at.0 at.1 next.0 next.1 next.2 ran i.4,
          )
      | in_default w ↦
          let new = c.release.new.seat.token.me.0.duty in
          let skipped : new ≡ with_released d x = w.in_default.ensures.none refl in
          subst P (sym w.seat-is) (
            w.in_default.ensures.seat.0 ∙ i.0,
            w.in_default.ensures.seat.1,
            w.in_default.ensures.taken.0 ∙ i.2,
            w.in_default.ensures.taken.1,
            going_none links node k x old d new at.0 at.1 skipped i.4,
          )
    ]

pub home-requires-clause-seat : goal.home-requires-clause-seat
home-requires-clause-seat g t c κs within = c.loop-link.invariant.1

pub home-requires-clause-taken : goal.home-requires-clause-taken
home-requires-clause-taken g t c κs within = c.loop-link.invariant.3

pub home-requires-clause-released : goal.home-requires-clause-released
home-requires-clause-released g t c κs within l low from =
    let links = c.args.crew.now.links.items in
    let node : ℕ = c.args.taken.node in
    let i = c.loop-link.invariant in
    let not = c.loop-link-test.false in
    let outs : c.outgoing-links.result.now ≡ outgoing links node = c.outgoing-links.ensures ∙ ap (outgoing links) c.node-node.ensures in
    going_done links node c.loop-link.link-index c.args.seat.now.token.me.0.duty c.loop-link.seat.token.me.0.duty (omega (arith, not, ap length outs)) i.4 l low (from ∙ i.2)

pub returns-clause-seat : goal.returns-clause-seat
returns-clause-seat g t c = (c.home.ensures.seat.0 ∙ c.loop-link.invariant.0, c.home.ensures.seat.1)

pub returns-clause-run : goal.returns-clause-run
returns-clause-run g t c =
    let i = c.loop-link.invariant in
    let go = i.4 in
    let home = c.home.ensures.home in record {
      links_stay = ap (λ d. d.links) home ∙ go.links_stay;
      before_stays = ap (λ d. d.before) home ∙ go.before_stays;
      started_stay = ap (λ d. d.started) home ∙ go.started_stay;
      held_are = ap (λ d. d.held) home ∙ (λ j. without (i.2 j) (go.held_are j));
      left_stays = ap (λ d. d.left) home ∙ go.left_stays;
      lower = λ l low from. ap (λ d. has d.released l) home ∙ go.lower l low from;
    }
