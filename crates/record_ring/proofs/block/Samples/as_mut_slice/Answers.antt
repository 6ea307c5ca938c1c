use Rattle.std.proofs.Common.{◌∙◌, ap, refl, ℕ, take, drop, length, ◌++◌}
use Rattle.record_ring.specs.Blocks.{SampleList, with_samples}
use Rattle.record_ring.proofs.block.Samples.as_mut_slice.Goals as goal

pub returns : goal.returns
returns c = let v = c.self.inside.items in (
  (refl, λ w. ap (λ (n : ℕ). record { items = take n (w ++ drop (length w) v.items); room = c.self.inside.room }) v.ok.0 ∙ ap (λ (s : SampleList). with_samples s w) c.self.view_is),
  record { writes_back = tt; value = c.as_mut_slice.ensures.value ∙ ap (λ (s : SampleList). s.items) c.self.view_is },
)
