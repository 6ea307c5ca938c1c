use Rattle.std.proofs.Common.{◌+◌, ◌∙◌, ap, refl, arith}
use Rattle.client_kinds.specs.Buffers.{buffers_of}
use Rattle.client_kinds.proofs.BufferLemmas.{with_buffer-step}
use Rattle.guest_example.specs.Tremolos.{played}
use Rattle.guest_example.proofs.TremoloLemmas.{length-played}
use Rattle.guest_example.proofs.tremolos.play_places.Goals as goal

pub loop-place-preserved : goal.loop-place-preserved
loop-place-preserved c =
    let ports = c.args.ports in
    let input = c.args.input.now in
    let place = c.loop-place.place in
    ap (λ output. buffers_of (place + 1) ports.period output) c.play_place.ensures
    ∙ with_buffer-step (played c.args.half c.args.start ports input) c.loop-place.output place ports.outputs ports.period _
    (omega (arith, c.loop-place.auto.output, c.requires.output)) (omega (arith, c.loop-place-test.true, c.from-place-end.ensures))
    (length-played c.args.half c.args.start ports input place) refl c.loop-place.invariant
