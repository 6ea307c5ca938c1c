use Rattle.std.proofs.Common.{rules, arith, ◌≡◌, ◌+◌, ℕ, replicate, ap, ◌∙◌}
use Rattle.activation.specs.Contents.{IsFull, IsDone}
use Rattle.activation.proofs.Begun.{opens_still}
use Rattle.activation.proofs.making.prepare.Goals as goal

pub vacant-requires : goal.vacant-requires
vacant-requires g c =
    let words : c.in_ok-words.words.items ≡ replicate (c.args.nodes + 577) 0 = search rules in
    let more : c.args.nodes + 577 ≡ c.args.nodes + 512 + 65 = omega arith in
    opens_still (IsFull g.B.Work.memory g.B.Work.has_room g.B.Work.after g.B.Work.gives) (IsDone g.B.Work.memory g.B.Work.has_room g.B.Work.after g.B.Work.gives) c.refill.new.kept.items c.as_slice.result.now (c.args.nodes + 512) c.args.seats (c.as_slice.ensures.value ∙ (words ∙ ap (λ (n : ℕ). replicate n 0) more))
