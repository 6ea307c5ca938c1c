use Rattle.std.proofs.Common.{◌≡◌, ◌+◌, ◌*◌, ◌<◌, ◌++◌, ◌∷◌, [], ℕ, ℤ, List, length, arith, sym, ◌∙◌, ap, subst}
use Rattle.std.specs.Prelude.{vec_capacity}
use Rattle.session_model.specs.Samples.{interleaved}
use Rattle.device_periods.specs.Blocks.{IsLaid}
use Rattle.recorder_rings.specs.Sending.{Sent}
use Rattle.recorder_rings.proofs.BlockLemmas.{block_set, seen-items, seen-number, sound-block, seen-block}
use Rattle.recorder_rings.proofs.rings.RecorderRings.lay.Goals as goal

pub invariant_of-self : goal.invariant_of-self
invariant_of-self c =
    sound-block c.self.inside.rings.items c.self.inside.out.items c.self.inside.channels.items c.self.inside.sent.items c.self.inside.blocks.items c.self.inside.room c.from-at.result c.lay_into.new.block c.index_mut.result.now c.index_mut.ensures.value c.lay_into.ensures.room c.self.invariant

pub returns-clause-length : goal.returns-clause-length
returns-clause-length c =
    ap length (block_set c.self.inside.blocks.items c.from-at.result c.args.recorder c.lay_into.new.block c.from-at.ensures (omega (arith, low, c.self.invariant.as_many)))
    ∙ c.lay_into.ensures.length
    ∙ ap (λ n. c.args.frames * n) (c.from-channels.ensures ∙ sym (seen-number c.self.inside.channels.items c.args.self.now.channels c.from-at.result c.args.recorder c.index.result.now (ap (λ (s : Sent). s.channels) c.self.view_is) c.from-at.ensures (omega (arith, low, c.self.invariant.recorders)) c.index.ensures))
  where
    low : c.from-at.result < length c.self.inside.rings.items
    low = omega (arith, c.from-at.ensures, c.requires.there, ap (λ (s : Sent). length s.rings) c.self.view_is)

pub returns-clause-laid : goal.returns-clause-laid
returns-clause-laid c =
    subst (λ (q : ℕ × ℕ × List ℤ × List ℤ). (buffers : List (List ℤ)) → length buffers ≡ q.1 → IsLaid q.0 c.args.frames buffers q.2 → IsLaid q.0 c.args.frames (buffers ++ c.args.samples.now ∷ []) q.3)
    (λ j. (
      (c.from-channels.ensures ∙ sym (seen-number c.self.inside.channels.items c.args.self.now.channels c.from-at.result c.args.recorder c.index.result.now (ap (λ (s : Sent). s.channels) c.self.view_is) c.from-at.ensures (omega (arith, low, c.self.invariant.recorders)) c.index.ensures)) j,
      c.from.ensures j,
      (sym (seen-items c.self.inside.blocks.items c.args.self.now.blocks c.from-at.result c.args.recorder c.index_mut.result.now (ap (λ (s : Sent). s.blocks) c.self.view_is) c.from-at.ensures (omega (arith, low, c.self.invariant.as_many)) c.index_mut.ensures.value)) j,
      (sym (block_set c.self.inside.blocks.items c.from-at.result c.args.recorder c.lay_into.new.block c.from-at.ensures (omega (arith, low, c.self.invariant.as_many)))) j,
    ))
    c.lay_into.ensures.laid
  where
    low : c.from-at.result < length c.self.inside.rings.items
    low = omega (arith, c.from-at.ensures, c.requires.there, ap (λ (s : Sent). length s.rings) c.self.view_is)

pub returns-clause-whole : goal.returns-clause-whole
returns-clause-whole c =
    subst (λ (q : ℕ × ℕ × List ℤ × List ℤ). (buffers : List (List ℤ)) → length buffers ≡ q.1 → q.1 + 1 ≡ q.0 → IsLaid q.0 c.args.frames buffers q.2 → q.3 ≡ interleaved c.args.frames (buffers ++ c.args.samples.now ∷ []))
    (λ j. (
      (c.from-channels.ensures ∙ sym (seen-number c.self.inside.channels.items c.args.self.now.channels c.from-at.result c.args.recorder c.index.result.now (ap (λ (s : Sent). s.channels) c.self.view_is) c.from-at.ensures (omega (arith, low, c.self.invariant.recorders)) c.index.ensures)) j,
      c.from.ensures j,
      (sym (seen-items c.self.inside.blocks.items c.args.self.now.blocks c.from-at.result c.args.recorder c.index_mut.result.now (ap (λ (s : Sent). s.blocks) c.self.view_is) c.from-at.ensures (omega (arith, low, c.self.invariant.as_many)) c.index_mut.ensures.value)) j,
      (sym (block_set c.self.inside.blocks.items c.from-at.result c.args.recorder c.lay_into.new.block c.from-at.ensures (omega (arith, low, c.self.invariant.as_many)))) j,
    ))
    c.lay_into.ensures.whole
  where
    low : c.from-at.result < length c.self.inside.rings.items
    low = omega (arith, c.from-at.ensures, c.requires.there, ap (λ (s : Sent). length s.rings) c.self.view_is)

pub returns-clause-others : goal.returns-clause-others
returns-clause-others c =
    seen-block c.self.inside.rings.items c.self.inside.out.items c.self.inside.channels.items c.self.inside.sent.items c.self.inside.blocks.items c.self.inside.overruns.items c.self.inside.room (vec_capacity c.self.inside.overruns) c.args.self.now
    c.from-at.result c.args.recorder c.lay_into.new.block _ c.self.view_is c.from-at.ensures
    (sym (block_set c.self.inside.blocks.items c.from-at.result c.args.recorder c.lay_into.new.block c.from-at.ensures (omega (arith, low, c.self.invariant.as_many))))
  where
    low : c.from-at.result < length c.self.inside.rings.items
    low = omega (arith, c.from-at.ensures, c.requires.there, ap (λ (s : Sent). length s.rings) c.self.view_is)
