use Rattle.std.proofs.Common.{length, ◌∙◌, ap}
use Rattle.client_kinds.specs.Buffers.{channels_of}
use Rattle.client_kinds.proofs.BufferLemmas.{channels-front}
use Rattle.client_kinds.proofs.voices.keep_block.Goals as goal

pub returns : goal.returns
returns c = record {
  fed = channels-front c.args.channels c.args.period c.copy_from_slice.new.self _ (ap length c.copy_from_slice.ensures.after ∙ c.requires.samples)
      ∙ ap (λ block. channels_of c.args.channels c.args.period block) c.copy_from_slice.ensures.after;
}
