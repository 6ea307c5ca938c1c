use Rattle.std.proofs.Common.{◌+◌, ◌∙◌, ap, refl, arith}
use Rattle.client_kinds.specs.Buffers.{buffers_of}
use Rattle.client_kinds.specs.Sounds.{sound}
use Rattle.client_kinds.proofs.BufferLemmas.{with_buffer-step}
use Rattle.client_kinds.proofs.voices.Voice.fill_all.Goals as goal

pub loop-place-preserved : goal.loop-place-preserved
loop-place-preserved c =
    ap (λ output. buffers_of (c.loop-place.place + 1) c.args.ports.period output) c.fill_place.ensures.value
    ∙ with_buffer-step (sound c.args.self.now.kind c.args.self.now.memory c.args.moment.now c.args.ports.period (buffers_of c.args.ports.inputs c.args.ports.period c.args.input.now)) c.loop-place.output c.loop-place.place c.args.ports.outputs c.args.ports.period _
    (omega (arith, c.loop-place.auto.output, c.requires.output)) (omega (arith, c.loop-place-test.true, c.from-place-end.ensures)) c.fill_place.ensures.length refl c.loop-place.invariant
