use Rattle.bench_rack.proofs.PlayedLemmas.{have_front, others-front, played-front, rooms-front}
use Rattle.bench_rack.proofs.playing.play_front.Goals as goal

pub play-requires-clause-rooms : goal.play-requires-clause-rooms
play-requires-clause-rooms g c κs within = have_front c.nodes-nodes.result c.args.links.now c.args.benches.now c.requires.rooms

pub returns-clause-played : goal.returns-clause-played
returns-clause-played g c =
    played-front c.args.ensemble.now.nodes c.nodes-nodes.result c.args.benches.now c.play.new.benches c.requires.count c.nodes-nodes.ensures c.play.ensures.count g.G.Guest.sound c.args.links.now c.requires.links.0 c.play.ensures.played

pub returns-clause-rooms : goal.returns-clause-rooms
returns-clause-rooms g c =
    rooms-front c.args.ensemble.now.nodes c.nodes-nodes.result c.args.benches.now c.play.new.benches c.requires.count c.nodes-nodes.ensures c.play.ensures.count c.play.ensures.rooms

pub returns-clause-others : goal.returns-clause-others
returns-clause-others g c =
    others-front c.args.ensemble.now.nodes c.nodes-nodes.result c.args.benches.now c.play.new.benches c.requires.count c.nodes-nodes.ensures c.play.ensures.count
