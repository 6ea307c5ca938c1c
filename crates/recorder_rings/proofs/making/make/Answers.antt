use Rattle.std.proofs.Common.{◌≡◌, ◌*◌, ℕ, List, refl, ◌∙◌, map, subst}
use Rattle.record_ring.specs.declared.block.Block.{Block}
use Rattle.recorder_rings.specs.Openings.{AreOpened}
use Rattle.recorder_rings.proofs.OpeningLemmas.{few-channels, none-sent, opened-empty, sound-opened}
use Rattle.recorder_rings.proofs.making.make.Goals as goal

pub open_rings-requires-clause-channels : goal.open_rings-requires-clause-channels
open_rings-requires-clause-channels c = few-channels c.args.formats.now c.deref.result.now (c.deref.ensures.value ∙ c.in_ok-channels.ensures) c.requires.channels

pub make_blocks-requires-clause-channels : goal.make_blocks-requires-clause-channels
make_blocks-requires-clause-channels c = few-channels c.args.formats.now c.deref-2.result.now (c.deref-2.ensures.value ∙ c.in_ok-channels.ensures) c.requires.channels

pub invariant_of-result : goal.invariant_of-result
invariant_of-result c =
    sound-opened c.args.formats.now c.args.capacity c.args.period c.in_ok-channels.channels.items c.in_ok-sent.sent.items c.in_ok-rings.field-0.rings.items c.in_ok-rings.field-0.out.items c.in_ok-blocks.blocks.items
    (subst (λ (channels : List ℕ). AreOpened c.args.capacity c.args.period channels c.in_ok-rings.field-0.rings.items c.in_ok-rings.field-0.out.items) c.deref.ensures.value c.in_ok-rings.ensures)
    c.in_ok-channels.ensures (c.in_ok-sent.ensures.items_if_clones_equal (λ y same. same))
    (subst (λ (channels : List ℕ). map (λ (block : Block). block.samples.room) c.in_ok-blocks.blocks.items ≡ map (λ count. c.args.period * count) channels) c.deref-2.ensures.value c.in_ok-blocks.ensures)
    (few-channels c.args.formats.now c.in_ok-channels.channels.items c.in_ok-channels.ensures c.requires.channels) c.requires.period

pub returns : goal.returns
returns c = record {
  channels = c.in_ok-channels.ensures;
  opened = opened;
  empty = opened-empty c.args.capacity c.args.period _ _ _ opened;
  sent = c.in_ok-sent.ensures.items_if_clones_equal (λ y same. same) ∙ none-sent c.args.formats.now;
  overruns = c.in_ok-overruns.ensures.items;
  room = refl;
  losses_kept = c.in_ok-overruns.ensures.capacity;
}
  where
    opened : AreOpened c.args.capacity c.args.period c.in_ok-channels.channels.items c.in_ok-rings.field-0.rings.items c.in_ok-rings.field-0.out.items
    opened = subst (λ (channels : List ℕ). AreOpened c.args.capacity c.args.period channels c.in_ok-rings.field-0.rings.items c.in_ok-rings.field-0.out.items) c.deref.ensures.value c.in_ok-rings.ensures
