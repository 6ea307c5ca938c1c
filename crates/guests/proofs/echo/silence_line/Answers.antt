use Rattle.std.proofs.Common.{◌∙◌, ◌++◌, [], ◌∷◌, ap, pos, ℤ}
use Rattle.circular_buffer.specs.Buffer.{Buffer, buffer, keep_last}
use Rattle.guests.proofs.EchoLemmas.{kept-more, kept-none}
use Rattle.guests.proofs.echo.silence_line.Goals as goal

pub loop-i-init : goal.loop-i-init
loop-i-init c = ap (λ items. buffer items c.args.line.now.capacity) (kept-none c.args.line.now.capacity c.args.line.now.items c.requires)

pub loop-i-preserved : goal.loop-i-preserved
loop-i-preserved c =
    c.push_back.ensures.items
    ∙ ap (λ (line : Buffer ℤ). buffer (keep_last line.capacity (line.items ++ pos 0 ∷ [])) line.capacity) c.loop-i.invariant
    ∙ ap (λ items. buffer items c.args.line.now.capacity) (kept-more c.args.line.now.capacity c.args.line.now.items c.loop-i.i)
