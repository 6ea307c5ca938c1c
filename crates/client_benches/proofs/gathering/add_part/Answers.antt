use Rattle.std.proofs.Common.{◌∙◌, ap, length}
use Rattle.client_kinds.specs.port_mixer.specs.Sums.{Mix}
use Rattle.client_kinds.specs.port_mixer.proofs.SumLemmas.{length-added}
use Rattle.client_benches.proofs.PartLemmas.{added-padded}
use Rattle.client_benches.proofs.gathering.add_part.Goals as goal

pub returns-then-part-padded-clause-sums : goal.returns-then-part-padded-clause-sums
returns-then-part-padded-clause-sums c = ap (λ (mix : Mix). length mix.sums) c.add.ensures.added ∙ length-added c.args.mixer.now.sums c.args.part.now

pub returns-else-part-padded-clause-parts : goal.returns-else-part-padded-clause-parts
returns-else-part-padded-clause-parts c = added-padded
    (length c.args.padded.now) c.args.mixer.now.sums c.add-else-part-padded.new.self.sums c.copy_part.new.out c.args.part.now
    c.copy_part.auto.out c.copy_part.ensures.samples c.add-else-part-padded.ensures.parts
