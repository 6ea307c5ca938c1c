use Rattle.std.proofs.Common.{◌≡◌, arith, sym, subst, length, All}
use Rattle.std.proofs.lemmas.Grind.{common_steps}
use Rattle.client_kinds.specs.Lines.{AreQuiet, IsWhole}
use Rattle.client_kinds.proofs.LineLemmas.{put-back}
use Rattle.client_kinds.proofs.voices.Voice.step.Goals as goal

pub invariant_of-self : goal.invariant_of-self
invariant_of-self c =
    let as_many : c.self.inside.lines.len ≡ length c.step_lines-self-inside.new.lines = grind (arith, common_steps) in
    record {
      playable = c.self.invariant.playable;
      silent = c.self.invariant.silent;
      lines = subst (All IsWhole) (sym (put-back c.self.inside.lines.len c.step_lines-self-inside.new.lines _ as_many)) c.step_lines-self-inside.ensures.whole;
      quiet = subst (AreQuiet c.step_lines-self-inside.result) (sym (put-back c.self.inside.lines.len c.step_lines-self-inside.new.lines _ as_many)) c.step_lines-self-inside.ensures.quiet;
      kept = grind (arith, common_steps);
      room = c.self.invariant.room;
      fed = c.self.invariant.fed;
    }
