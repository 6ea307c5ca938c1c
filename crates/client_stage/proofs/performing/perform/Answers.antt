use Rattle.std.proofs.Common.{◌≡◌, ◌<◌, ◌≤◌, List, length, sym, ◌∙◌, ap, subst, arith}
use Rattle.std.proofs.lemmas.List.{length-map}
use Rattle.session_model.specs.Activation.{AreLinks, link_at, place_among, sequential}
use Rattle.session_model.specs.Samples.{silence}
use Rattle.port_registry.specs.Registered.{open_client}
use Rattle.client_benches.specs.Seen.{Seen, kept_after, kept_gives}
use Rattle.client_wiring.specs.Wirings.{Wired, wired_of}
use Rattle.client_wiring.specs.declared.joints.Joint.{Joint}
use Rattle.bench_rack.specs.Racks.{Racked, bench_at}
use Rattle.client_tasks.specs.Fillings.{AreJoints, known_at}
use Rattle.client_tasks.specs.Tasks.{AreSet, HasRooms}
use Rattle.client_tasks.proofs.PlanLemmas.{few-links}
use Rattle.client_seats.specs.Seatings.{standing_at}
use Rattle.stage_feeds.specs.Feeding.{Feeds}
use Rattle.stage_feeds.proofs.FeedingLemmas.{rooms-fed}
use Rattle.client_stage.proofs.PerformLemmas.{feeds-of, more-nodes, rooms-filled}
use Rattle.client_stage.proofs.PlayLemmas.{others-filled}
use Rattle.client_stage.proofs.performing.perform.Goals as goal

pub play-requires-clause-links : goal.play-requires-clause-links
play-requires-clause-links g c κs within = (subst (λ links. AreLinks c.args.ensemble.now.nodes links) (sym are) upward, omega (arith, few-links c.args.plan.now c.links-links.ensures.planned few_edges, ap length are))
  where
    are : c.links-links.result.now ≡ c.args.plan.now.links
    are = c.links-links.ensures.value

    upward : AreLinks c.args.ensemble.now.nodes c.args.plan.now.links
    upward = more-nodes (length c.args.plan.now.nodes) c.args.ensemble.now.nodes c.args.plan.now.links c.requires.few
        (subst (λ n. AreLinks n c.args.plan.now.links) (length-map c.args.plan.now.nodes open_client) c.links-links.ensures.planned.is_plan.upward)

    few_edges : length c.args.plan.now.network.set.edges ≤ 512
    few_edges = c.load_of-load.ensures.few

pub feed_all-requires-clause-nodes : goal.feed_all-requires-clause-nodes
feed_all-requires-clause-nodes g c = omega (arith, c.requires.few, c.requires.crew, c.fill_wires.ensures.lengths, ap length c.nodes.ensures.value)

pub feed_all-requires-clause-unfed : goal.feed_all-requires-clause-unfed
feed_all-requires-clause-unfed g c = λ p. ap (λ (b : Seen). b.kept.standing.memory.fed) (c.fill_wires.ensures.others p) ∙ c.requires.unfed p

pub feed_all-requires-clause-periods : goal.feed_all-requires-clause-periods
feed_all-requires-clause-periods g c = λ some p h. ap (λ (b : Seen). b.kept.standing.period) (c.fill_wires.ensures.others p) ∙ c.requires.periods some p (subst (λ n. p < n) c.fill_wires.ensures.lengths h)

pub play-requires-clause-rooms : goal.play-requires-clause-rooms
play-requires-clause-rooms g c κs within = subst (λ links. HasRooms links c.feed_all.new.rack) (sym c.links-links.ensures.value)
    (rooms-fed c.args.plan.now c.args.disks.now c.fill_wires.new.rack c.feed_all.new.rack feeds (rooms-filled c.args.plan.now.links c.args.rack.now c.fill_wires.new.rack c.fill_wires.ensures.others c.requires.rooms))
  where
    feeds : Feeds c.args.plan.now c.args.disks.now c.fill_wires.new.rack c.feed_all.new.rack
    feeds = feeds-of c.args.plan.now c.args.disks.now c.fill_wires.new.rack c.feed_all.new.rack c.nodes.result.now c.nodes.ensures.value c.feed_all.ensures.each c.feed_all.ensures.others c.feed_all.ensures.lengths c.feed_all.ensures.links

pub returns-clause-rooms : goal.returns-clause-rooms
returns-clause-rooms g c = λ l low. c.play.ensures.rooms (link_at c.args.plan.now.links l).from (place_among c.args.plan.now.links l)
    ∙ rooms-fed c.args.plan.now c.args.disks.now c.fill_wires.new.rack c.feed_all.new.rack feeds (rooms-filled c.args.plan.now.links c.args.rack.now c.fill_wires.new.rack c.fill_wires.ensures.others c.requires.rooms) l low
  where
    feeds : Feeds c.args.plan.now c.args.disks.now c.fill_wires.new.rack c.feed_all.new.rack
    feeds = feeds-of c.args.plan.now c.args.disks.now c.fill_wires.new.rack c.feed_all.new.rack c.nodes.result.now c.nodes.ensures.value c.feed_all.ensures.each c.feed_all.ensures.others c.feed_all.ensures.lengths c.feed_all.ensures.links

pub returns-clause-performed : goal.returns-clause-performed
returns-clause-performed g c cast moment period sources is_rack is_silence set idle = (
  c.fill_wires.new.rack,
  c.feed_all.new.rack,
  record {
    set = subst (λ r. AreSet (wired_of c.args.plan.now) c.args.plan.now.links moment period (known_at r c.args.capture.now.channels (silence period) c.args.places.now (wired_of c.args.plan.now).joints) (length c.args.plan.now.nodes) c.fill_wires.new.rack) (sym is_rack)
        (subst (λ s. AreSet (wired_of c.args.plan.now) c.args.plan.now.links moment period (known_at c.args.rack.now c.args.capture.now.channels s c.args.places.now (wired_of c.args.plan.now).joints) (length c.args.plan.now.nodes) c.fill_wires.new.rack) is_silence
        (subst (λ (js : List Joint). AreSet (wired_of c.args.plan.now) c.args.plan.now.links moment period (known_at c.args.rack.now c.args.capture.now.channels c.args.silence.now c.args.places.now js) (length c.args.plan.now.nodes) c.fill_wires.new.rack) joints
        (c.fill_wires.ensures.set (wired_of c.args.plan.now) c.args.plan.now.links moment period sources (length c.args.plan.now.nodes) (sym joints) set)));
    standings = λ p. ap (λ (b : Seen). b.kept.standing) (c.fill_wires.ensures.others p) ∙ ap (λ (r : Racked). standing_at r p) (sym is_rack);
    idle = λ p h. ap (λ (b : Seen). b.kept.turn) (c.fill_wires.ensures.others p) ∙ idle p h;
    lengths = c.fill_wires.ensures.lengths ∙ ap (λ (r : Racked). length r.benches) (sym is_rack);
  },
  feeds,
  record {
    few = c.requires.few;
    each = λ n h. subst (λ links. (bench_at c.play.new.self n).kept ≡ sequential (kept_after g.G.Guest.sound) (kept_gives g.G.Guest.sound) links (λ n. (bench_at c.feed_all.new.rack n).kept) n) c.links-links.ensures.value (c.play.ensures.played n h);
    others = c.play.ensures.others;
    lengths = c.play.ensures.count;
  },
)
  where
    joints : c.joints.result.now ≡ (wired_of c.args.plan.now).joints
    joints = c.joints.ensures ∙ ap (λ (w : Wired). w.joints) c.requires.wired

    feeds : Feeds c.args.plan.now c.args.disks.now c.fill_wires.new.rack c.feed_all.new.rack
    feeds = feeds-of c.args.plan.now c.args.disks.now c.fill_wires.new.rack c.feed_all.new.rack c.nodes.result.now c.nodes.ensures.value c.feed_all.ensures.each c.feed_all.ensures.others c.feed_all.ensures.lengths c.feed_all.ensures.links

pub returns-clause-others : goal.returns-clause-others
returns-clause-others g c p h none =
    c.play.ensures.others p h
    ∙ c.feed_all.ensures.others p (omega (arith, h, c.requires.few, ap length c.nodes.ensures.value))
    ∙ others-filled c.args.rack.now c.fill_wires.new.rack c.joints.result.now (length c.args.plan.now.nodes) p (known_at c.args.rack.now c.args.capture.now.channels c.args.silence.now c.args.places.now c.joints.result.now)
    (subst (AreJoints (length c.args.plan.now.nodes)) (sym c.joints.ensures) c.requires.joints) (omega (arith, h, c.requires.few)) none c.fill_wires.ensures.wires c.fill_wires.ensures.others
