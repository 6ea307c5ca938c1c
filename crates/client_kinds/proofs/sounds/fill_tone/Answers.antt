use Rattle.std.proofs.Common.{◌≡◌, ℕ, ◌+◌, ◌*◌, ◌%◌, ◌∙◌, ap, arith}
use Rattle.std.proofs.lemmas.Grind.{common_steps}
use Rattle.client_kinds.proofs.FillLemmas.{fill_more, tone_turned, frame_after, frame_below}
use Rattle.client_kinds.proofs.sounds.fill_tone.Goals as goal

pub loop-i-preserved : goal.loop-i-preserved
loop-i-preserved c = record {
  frame = c.next_frame-n.ensures ∙ frame_after c.args.half (c.args.phase + c.loop-i.i) c.loop-i.n c.loop-i.invariant.frame ∙ ap (λ m. m % (2 * c.args.half)) (next c.args.phase c.loop-i.i);
  done = grind (arith, common_steps, fill_more, tone_turned, frame_below);
}
  where
    next : (a b : ℕ) → a + b + 1 ≡ a + (b + 1)
    next a b = omega arith
