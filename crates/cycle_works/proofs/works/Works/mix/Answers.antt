use Rattle.std.proofs.Common.{List, map, ◌∙◌, ap}
use Rattle.session_model.specs.Samples.{below, interleaved}
use Rattle.midi_stage.specs.client_wiring.specs.declared.joints.Heard.{Heard}
use Rattle.client_stage.specs.bench_rack.specs.Racks.{Racked}
use Rattle.playback_mix.specs.Mixes.{channel_mix}
use Rattle.cycle_works.specs.Gears.{mixed}
use Rattle.cycle_works.proofs.works.Works.mix.Goals as goal

pub returns-clause-block : goal.returns-clause-block
returns-clause-block g c = c.mix.ensures.block
    ∙ ap (λ benches. interleaved c.self.inside.parts.set (map (channel_mix c.self.inside.parts.set benches c.self.inside.parts.capture.channels c.heard.result.now) (below c.args.playback.now.channels))) (c.benches.ensures ∙ ap (λ (r : Racked). r.benches) c.rack.ensures)
    ∙ ap (λ (heard : List Heard). interleaved c.self.inside.parts.set (map (channel_mix c.self.inside.parts.set c.self.inside.parts.stage.staged.racked.benches c.self.inside.parts.capture.channels heard) (below c.args.playback.now.channels))) c.heard.ensures.heard
    ∙ ap (λ gear. mixed gear c.args.playback.now.channels) c.self.view_is
