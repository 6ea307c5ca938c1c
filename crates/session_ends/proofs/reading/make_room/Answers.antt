use Rattle.std.proofs.Common.{ℕ, ◌∙◌, List, ap, subst}
use Rattle.jack_types.specs.declared.scripts.Header.{Header}
use Rattle.session_ends.specs.Readers.{AreBlocks}
use Rattle.session_ends.proofs.ReaderLemmas.{sizes}
use Rattle.session_ends.proofs.reading.make_room.Goals as goal

pub returns-in-Ok-with_capacity-clause-blocks : goal.returns-in-Ok-with_capacity-clause-blocks
returns-in-Ok-with_capacity-clause-blocks g c =
    subst (λ (period : ℕ). AreBlocks (sizes period c.args.script.now.header.disks) c.in-Ok.blocks.items) c.greatest_period.ensures.greatest
    (subst (λ (channels : List ℕ). AreBlocks (sizes c.greatest_period.result channels) c.in-Ok.blocks.items) (c.as_slice-channels.ensures.value ∙ ap (λ (h : Header). h.disks) c.header-header.ensures.value) c.in-Ok.ensures)
