use Rattle.std.proofs.Common.{◌*◌, ◌<◌, ◌^◌, ℤ, List, true, length, get_or, arith, refl, sym, ◌∙◌, ap, subst, length-set}
use Rattle.std.specs.Prelude.{vec_capacity}
use Rattle.jack_types.specs.declared.replies.Overrun.{Overrun}
use Rattle.driver_words.specs.Rings.{Sending}
use Rattle.driver_laws.specs.Cycling.{PutsOne}
use Rattle.driver_laws.specs.Drivers.{overruns_on}
use Rattle.recorder_rings.specs.Sending.{Sent, AreCounted, channels_at}
use Rattle.recorder_rings.proofs.BlockLemmas.{ring_set, room_at, seen-items, seen-ring}
use Rattle.recorder_rings.proofs.PutLemmas.{puts-went, puts-lacked, counted-went, counted-lacked, one-went, none-went, sent-more, sound-put, seen-put}
use Rattle.recorder_rings.proofs.rings.RecorderRings.put.Goals as goal

pub put_block-requires-clause-room : goal.put_block-requires-clause-room
put_block-requires-clause-room c =
    room_at c.self.inside.room c.self.inside.blocks.items c.self.inside.channels.items c.from-place.result c.index_mut-2.result.now (omega (arith, low, c.self.invariant.as_many)) (omega (arith, low, c.self.invariant.recorders)) c.self.invariant.rooms c.index_mut-2.ensures.value
    ∙ ap (λ i. c.self.inside.room * get_or c.self.inside.channels.items i 0) c.from-place.ensures
    ∙ ap (λ (s : Sent). s.room * channels_at s c.args.recorder) c.self.view_is
    ∙ sym c.requires.samples
    ∙ ap (λ (s : Sending). s.samples) (seen-ring c.self.inside.rings.items c.args.self.now.rings c.from-place.result c.args.recorder c.index_mut.result.now (ap (λ (s : Sent). s.rings) c.self.view_is) c.from-place.ensures low c.index_mut.ensures.value)
  where
    low : c.from-place.result < length c.self.inside.rings.items
    low = omega (arith, c.from-place.ensures, c.requires.there, ap (λ (s : Sent). length s.rings) c.self.view_is)

pub invariant_of-self : goal.invariant_of-self
invariant_of-self c =
    sound-put c.self.inside.rings.items c.self.inside.out.items c.self.inside.channels.items c.self.inside.sent.items c.self.inside.blocks.items c.self.inside.room c.from-place.result c.put_block.new.ring _ c.put_block.new.block c.index_mut-2.result.now
    (length-set c.self.inside.sent.items c.from-place.result c.saturating_add.result) c.index_mut-2.ensures.value c.put_block.ensures.room c.self.invariant

pub invariant_of-self-in-Some : goal.invariant_of-self-in-Some
invariant_of-self-in-Some c =
    sound-put c.self.inside.rings.items c.self.inside.out.items c.self.inside.channels.items c.self.inside.sent.items c.self.inside.blocks.items c.self.inside.room c.from-place.result c.put_block.new.ring _ c.put_block.new.block c.index_mut-2.result.now
    refl c.index_mut-2.ensures.value c.put_block.ensures.room c.self.invariant

pub returns-in-None-clause-at : goal.returns-in-None-clause-at
returns-in-None-clause-at c =
    subst (λ (q : List ℤ × Sending × Sending × List Overrun). PutsOne c.args.cycle c.args.recorder true q.0 q.1 q.2 q.3 (overruns_on c.self.inside.overruns.items c.args.recorder))
    (λ j. (
      (sym (seen-items c.self.inside.blocks.items c.args.self.now.blocks c.from-place.result c.args.recorder c.index_mut-2.result.now (ap (λ (s : Sent). s.blocks) c.self.view_is) c.from-place.ensures (omega (arith, low, c.self.invariant.as_many)) c.index_mut-2.ensures.value)) j,
      (sym (seen-ring c.self.inside.rings.items c.args.self.now.rings c.from-place.result c.args.recorder c.index_mut.result.now (ap (λ (s : Sent). s.rings) c.self.view_is) c.from-place.ensures low c.index_mut.ensures.value)) j,
      (sym (ring_set c.self.inside.rings.items c.from-place.result c.args.recorder c.put_block.new.ring c.from-place.ensures low)) j,
      (ap (λ (s : Sent). overruns_on s.overruns c.args.recorder) c.self.view_is) j,
    ))
    (puts-went c.args.cycle c.args.recorder c.index_mut-2.result.now.samples.items c.index_mut.result.now c.put_block.new.ring (overruns_on c.self.inside.overruns.items c.args.recorder) c.in-None.ensures.went)
  where
    low : c.from-place.result < length c.self.inside.rings.items
    low = omega (arith, c.from-place.ensures, c.requires.there, ap (λ (s : Sent). length s.rings) c.self.view_is)

pub returns-in-Some-clause-at : goal.returns-in-Some-clause-at
returns-in-Some-clause-at c =
    subst (λ (q : List ℤ × Sending × Sending × List Overrun × List Overrun). PutsOne c.args.cycle c.args.recorder true q.0 q.1 q.2 q.3 (overruns_on q.4 c.args.recorder))
    (λ j. (
      (sym (seen-items c.self.inside.blocks.items c.args.self.now.blocks c.from-place.result c.args.recorder c.index_mut-2.result.now (ap (λ (s : Sent). s.blocks) c.self.view_is) c.from-place.ensures (omega (arith, low, c.self.invariant.as_many)) c.index_mut-2.ensures.value)) j,
      (sym (seen-ring c.self.inside.rings.items c.args.self.now.rings c.from-place.result c.args.recorder c.index_mut.result.now (ap (λ (s : Sent). s.rings) c.self.view_is) c.from-place.ensures low c.index_mut.ensures.value)) j,
      (sym (ring_set c.self.inside.rings.items c.from-place.result c.args.recorder c.put_block.new.ring c.from-place.ensures low)) j,
      (ap (λ (s : Sent). overruns_on s.overruns c.args.recorder) c.self.view_is) j,
      (sym c.push_reserved.ensures.items) j,
    ))
    (puts-lacked c.args.cycle c.args.recorder c.index_mut-2.result.now.samples.items c.index_mut.result.now c.put_block.new.ring c.self.inside.overruns.items c.in-Some.overrun c.in-Some.ensures.lacked.0 c.in-Some.ensures.lacked.1)
  where
    low : c.from-place.result < length c.self.inside.rings.items
    low = omega (arith, c.from-place.ensures, c.requires.there, ap (λ (s : Sent). length s.rings) c.self.view_is)

pub returns-in-None-clause-counted : goal.returns-in-None-clause-counted
returns-in-None-clause-counted c = λ counted.
    counted-went c.self.inside.rings.items c.self.inside.sent.items c.from-place.result c.saturating_add.result c.index.result.now c.put_block.new.ring c.index_mut.result.now _ c.in-None.ensures.went c.index_mut.ensures.value low
    (subst (λ (ring : Sending). length ring.put < 2 ^ 62) (seen-ring c.self.inside.rings.items c.args.self.now.rings c.from-place.result c.args.recorder c.index_mut.result.now (ap (λ (s : Sent). s.rings) c.self.view_is) c.from-place.ensures low c.index_mut.ensures.value) c.requires.few)
    (subst AreCounted (sym c.self.view_is) counted) c.index.ensures c.saturating_add.ensures
  where
    low : c.from-place.result < length c.self.inside.rings.items
    low = omega (arith, c.from-place.ensures, c.requires.there, ap (λ (s : Sent). length s.rings) c.self.view_is)

pub returns-in-Some-clause-counted : goal.returns-in-Some-clause-counted
returns-in-Some-clause-counted c = λ counted.
    counted-lacked c.self.inside.rings.items c.self.inside.sent.items c.from-place.result c.in-Some.overrun.taken c.put_block.new.ring c.index_mut.result.now c.in-Some.ensures.lacked.0 c.index_mut.ensures.value (subst AreCounted (sym c.self.view_is) counted)

pub returns-in-None-clause-others : goal.returns-in-None-clause-others
returns-in-None-clause-others c =
    seen-put c.self.inside.rings.items c.self.inside.out.items c.self.inside.channels.items c.self.inside.sent.items c.self.inside.blocks.items c.self.inside.overruns.items c.self.inside.room (vec_capacity c.self.inside.overruns) c.args.self.now
    _ c.self.inside.overruns.items (vec_capacity c.self.inside.overruns) c.from-place.result c.args.recorder c.put_block.new.ring c.put_block.new.block c.self.view_is c.from-place.ensures refl low (omega (arith, low, c.self.invariant.as_many))
  where
    low : c.from-place.result < length c.self.inside.rings.items
    low = omega (arith, c.from-place.ensures, c.requires.there, ap (λ (s : Sent). length s.rings) c.self.view_is)

pub returns-in-Some-clause-others : goal.returns-in-Some-clause-others
returns-in-Some-clause-others c =
    seen-put c.self.inside.rings.items c.self.inside.out.items c.self.inside.channels.items c.self.inside.sent.items c.self.inside.blocks.items c.self.inside.overruns.items c.self.inside.room (vec_capacity c.self.inside.overruns) c.args.self.now
    c.self.inside.sent.items c.push_reserved.new.self.items (vec_capacity c.push_reserved.new.self) c.from-place.result c.args.recorder c.put_block.new.ring c.put_block.new.block c.self.view_is c.from-place.ensures c.push_reserved.ensures.capacity low (omega (arith, low, c.self.invariant.as_many))
  where
    low : c.from-place.result < length c.self.inside.rings.items
    low = omega (arith, c.from-place.ensures, c.requires.there, ap (λ (s : Sent). length s.rings) c.self.view_is)

pub returns-in-None-clause-went : goal.returns-in-None-clause-went
returns-in-None-clause-went c = λ more.
    sent-more c.self.inside.sent.items c.args.self.now.sent c.from-place.result c.args.recorder c.index.result.now c.saturating_add.result (ap (λ (s : Sent). s.sent) c.self.view_is) c.from-place.ensures (omega (arith, low, c.self.invariant.counts)) c.index.ensures c.saturating_add.ensures
  where
    low : c.from-place.result < length c.self.inside.rings.items
    low = omega (arith, c.from-place.ensures, c.requires.there, ap (λ (s : Sent). length s.rings) c.self.view_is)

pub returns-in-None-clause-refused : goal.returns-in-None-clause-refused
returns-in-None-clause-refused c = λ same.
    absurd (one-went c.index_mut.result.now c.put_block.new.ring _ _ _ c.in-None.ensures.went
    (seen-ring c.self.inside.rings.items c.args.self.now.rings c.from-place.result c.args.recorder c.index_mut.result.now (ap (λ (s : Sent). s.rings) c.self.view_is) c.from-place.ensures low c.index_mut.ensures.value)
    (ring_set c.self.inside.rings.items c.from-place.result c.args.recorder c.put_block.new.ring c.from-place.ensures low) same)
  where
    low : c.from-place.result < length c.self.inside.rings.items
    low = omega (arith, c.from-place.ensures, c.requires.there, ap (λ (s : Sent). length s.rings) c.self.view_is)

pub returns-in-Some-clause-went : goal.returns-in-Some-clause-went
returns-in-Some-clause-went c = λ more.
    absurd (none-went c.index_mut.result.now c.put_block.new.ring _ _ c.in-Some.overrun.taken c.in-Some.ensures.lacked.0
    (seen-ring c.self.inside.rings.items c.args.self.now.rings c.from-place.result c.args.recorder c.index_mut.result.now (ap (λ (s : Sent). s.rings) c.self.view_is) c.from-place.ensures low c.index_mut.ensures.value)
    (ring_set c.self.inside.rings.items c.from-place.result c.args.recorder c.put_block.new.ring c.from-place.ensures low) more)
  where
    low : c.from-place.result < length c.self.inside.rings.items
    low = omega (arith, c.from-place.ensures, c.requires.there, ap (λ (s : Sent). length s.rings) c.self.view_is)

pub returns-in-Some-clause-refused : goal.returns-in-Some-clause-refused
returns-in-Some-clause-refused c = λ same. ap (λ (s : Sent). s.sent) c.self.view_is
