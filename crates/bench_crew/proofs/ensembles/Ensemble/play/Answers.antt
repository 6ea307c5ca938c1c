use Rattle.bench_crew.proofs.KeptLemmas.{kept-returned, rooms-returned}
use Rattle.bench_crew.proofs.ensembles.Ensemble.play.Goals as goal

pub returns-clause-played : goal.returns-clause-played
returns-clause-played g c = kept-returned g.G.Guest.sound c.args.links.now c.args.benches.now c.play_by.new.benches c.play_by.auto.benches c.play_by.ensures.played

pub returns-clause-rooms : goal.returns-clause-rooms
returns-clause-rooms g c = rooms-returned g.G.Guest.sound c.args.links.now c.args.benches.now c.play_by.new.benches c.play_by.auto.benches c.play_by.ensures.played
