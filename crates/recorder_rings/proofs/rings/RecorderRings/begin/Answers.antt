use Rattle.std.proofs.Common.{◌≡◌, ◌*◌, ◌<◌, ◌≤◌, length, get_or, arith, sym, ◌∙◌, ap, subst}
use Rattle.std.specs.Prelude.{vec_capacity}
use Rattle.session_model.specs.Samples.{silence}
use Rattle.recorder_rings.specs.Sending.{Sent, channels_at}
use Rattle.recorder_rings.proofs.BlockLemmas.{block_set, seen-number, read_at, room_at, room-fits, sound-block, seen-block}
use Rattle.recorder_rings.proofs.rings.RecorderRings.begin.Goals as goal

pub silence_block-requires : goal.silence_block-requires
silence_block-requires c =
    room-fits c.self.inside.room c.args.frames c.from.result (get_or c.self.inside.channels.items c.from-place.result 0) c.index_mut.result.now.samples.room
    (subst (λ (s : Sent). c.args.frames ≤ s.room) (sym c.self.view_is) c.requires.frames)
    (c.from.ensures ∙ sym (read_at c.self.inside.channels.items c.from-place.result c.index.result.now 0 low_channels c.index.ensures))
    (room_at c.self.inside.room c.self.inside.blocks.items c.self.inside.channels.items c.from-place.result c.index_mut.result.now low_blocks low_channels c.self.invariant.rooms c.index_mut.ensures.value)
  where
    low : c.from-place.result < length c.self.inside.rings.items
    low = omega (arith, c.from-place.ensures, c.requires.there, ap (λ (s : Sent). length s.rings) c.self.view_is)

    low_channels : c.from-place.result < length c.self.inside.channels.items
    low_channels = omega (arith, low, c.self.invariant.recorders)

    low_blocks : c.from-place.result < length c.self.inside.blocks.items
    low_blocks = omega (arith, low, c.self.invariant.as_many)

pub invariant_of-self : goal.invariant_of-self
invariant_of-self c =
    sound-block c.self.inside.rings.items c.self.inside.out.items c.self.inside.channels.items c.self.inside.sent.items c.self.inside.blocks.items c.self.inside.room c.from-place.result c.silence_block.new.block c.index_mut.result.now c.index_mut.ensures.value c.silence_block.ensures.room c.self.invariant

pub returns-clause-after : goal.returns-clause-after
returns-clause-after c =
    seen-block c.self.inside.rings.items c.self.inside.out.items c.self.inside.channels.items c.self.inside.sent.items c.self.inside.blocks.items c.self.inside.overruns.items c.self.inside.room (vec_capacity c.self.inside.overruns) c.args.self.now
    c.from-place.result c.args.recorder c.silence_block.new.block (silence (c.args.frames * channels_at c.args.self.now c.args.recorder)) c.self.view_is c.from-place.ensures
    (c.silence_block.ensures.items ∙ ap (λ n. silence (c.args.frames * n)) count)
  where
    low : c.from-place.result < length c.self.inside.channels.items
    low = omega (arith, c.from-place.ensures, c.requires.there, ap (λ (s : Sent). length s.rings) c.self.view_is, c.self.invariant.recorders)

    count : c.from.result ≡ channels_at c.args.self.now c.args.recorder
    count =
        c.from.ensures
        ∙ sym (read_at c.self.inside.channels.items c.from-place.result c.index.result.now 0 low c.index.ensures)
        ∙ ap (λ i. get_or c.self.inside.channels.items i 0) c.from-place.ensures
        ∙ ap (λ (s : Sent). channels_at s c.args.recorder) c.self.view_is

pub returns-clause-block : goal.returns-clause-block
returns-clause-block c =
    block_set c.self.inside.blocks.items c.from-place.result c.args.recorder c.silence_block.new.block c.from-place.ensures (omega (arith, low, c.self.invariant.as_many))
    ∙ c.silence_block.ensures.items
    ∙ ap (λ n. silence (c.args.frames * n)) (c.from.ensures ∙ sym (seen-number c.self.inside.channels.items c.args.self.now.channels c.from-place.result c.args.recorder c.index.result.now (ap (λ (s : Sent). s.channels) c.self.view_is) c.from-place.ensures (omega (arith, low, c.self.invariant.recorders)) c.index.ensures))
  where
    low : c.from-place.result < length c.self.inside.rings.items
    low = omega (arith, c.from-place.ensures, c.requires.there, ap (λ (s : Sent). length s.rings) c.self.view_is)
