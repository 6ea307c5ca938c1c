-- Facts of a performance.
--     more-nodes      links between some nodes are links between more
--     rooms-filled      who hears has its rooms yet
--     feeds-of      the players of a plan's nodes are fed
use Rattle.std.proofs.Common.{◌≡◌, ℕ, ◌<◌, ◌≤◌, length, sym, ◌∙◌, ap, subst, arith}
use Rattle.std.specs.Prelude.{List}
use Rattle.jack_types.specs.declared.ports.Client.{Client}
use Rattle.jack_types.specs.declared.ports.Link.{Link}
use Rattle.session_model.specs.Activation.{AreLinks, link_at, place_among}
use Rattle.cycle_plan.specs.Plans.{Planned}
use Rattle.driver_words.specs.Feeding.{Fed}
use Rattle.client_benches.specs.Seen.{Seen, has_room_at}
use Rattle.bench_rack.specs.Racks.{Racked, bench_at}
use Rattle.client_tasks.specs.Fillings.{with_wires}
use Rattle.client_tasks.specs.Tasks.{HasRooms}
use Rattle.stage_feeds.specs.Feeding.{Feeds, fed_from}

pub more-nodes : (few many : ℕ) (links : List Link) → few ≤ many → AreLinks few links → AreLinks many links
more-nodes few many links h are = record {
  upward = are.upward;
  within = λ i d k. let low = are.within i d k in omega (arith, low, h);
  distinct = are.distinct;
}

pub rooms-filled : (links : List Link) (old filled : Racked) → ((p : ℕ) → bench_at filled p ≡ with_wires (bench_at filled p).kept.wires (bench_at old p)) → HasRooms links old → HasRooms links filled
rooms-filled links old filled others rooms l low = ap (λ (b : Seen). has_room_at b (place_among links l)) (others (link_at links l).from) ∙ rooms l low

pub feeds-of : (plan : Planned) (disks : Fed) (filled fed : Racked) (nodes : List Client) → nodes ≡ plan.nodes → ((n : ℕ) → n < length nodes → bench_at fed n ≡ fed_from disks (bench_at filled n))
    → ((p : ℕ) → length nodes ≤ p → bench_at fed p ≡ bench_at filled p) → length fed.benches ≡ length filled.benches → fed.links ≡ filled.links → Feeds plan disks filled fed
feeds-of plan disks filled fed nodes are each others lengths links = record {
  each = λ n h. each n (subst (λ (ns : List Client). n < length ns) (sym are) h);
  others = λ p h. others p (subst (λ (ns : List Client). length ns ≤ p) (sym are) h);
  lengths = lengths;
  links = links;
}
