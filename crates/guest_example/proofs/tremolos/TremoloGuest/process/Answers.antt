use Rattle.std.proofs.Common.{◌∙◌, ap}
use Rattle.session_model.specs.Kinds.{fitted, outputs_by}
use Rattle.guest_example.specs.Tremolos.{played}
use Rattle.guest_example.proofs.PlaceLemmas.{fitted-by}
use Rattle.guest_example.proofs.TremoloLemmas.{length-played}
use Rattle.guest_example.proofs.tremolos.TremoloGuest.process.Goals as goal

pub returns-clause-output : goal.returns-clause-output
returns-clause-output c =
    let half = c.args.self.now.half in
    let start = c.first_frame-start.result in
    let ports = c.args.ports in
    let input = c.args.input.now in
    c.play_places.ensures
    ∙ fitted-by ports.period ports.outputs (played half start ports input) (length-played half start ports input)
    ∙ ap (λ frame. fitted ports.period ports.outputs (outputs_by ports.outputs (played half frame ports input))) c.first_frame-start.ensures
