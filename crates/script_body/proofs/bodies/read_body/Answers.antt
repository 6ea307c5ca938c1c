use Rattle.std.proofs.Common.{◌≡◌, false, [], ◌∷◌, ◌++◌, sym, ◌∙◌}
use Rattle.std.specs.Prelude.{Result, Ok, Err, is_err, MatchResult}
use Rattle.script_body.proofs.StandingLemmas.{line-added, lines-faulty}
use Rattle.script_body.proofs.bodies.read_body.Goals as goal

was_ok : {T E : Type 0} (r : Result T E) (A : Type 0) (Q : E → Type 0) → MatchResult r (λ _. A) Q → is_err r ≡ false → A
was_ok (Ok x) A Q h e = h
was_ok (Err x) A Q h e = absurd cc

pub lines-preserved : goal.lines-preserved
lines-preserved c =
    let i = c.lines.invariant in
    let e = c.in-Ok.ensures in
    let pushed : c.push_item.new.items.items ≡ c.lines.bodies.items ++ c.in-Ok.body ∷ [] = was_ok c.push_item.result _ _ c.push_item.ensures (sym c.is_err.ensures.value ∙ c.if-is_err.false) in
    let s = line-added c.args.header.now c.lines.bodies.items c.push_item.new.items.items c.lines.standing c.in-Ok.next c.lines.lines.lines c.take.new.self.lines c.args.lines.now.lines (record { number = c.in-Some.line.number; words = c.in-Some.line.words }) c.in-Ok.body i.same i.follows i.limits i.period c.in-Some.ensures.taken e.0 e.1 e.2 pushed in
    record { same = s.0; follows = s.1; limits = s.2; period = s.3 }

pub returns-in-Err : goal.returns-in-Err
returns-in-Err c = λ not.
    c.lines.invariant.same ∙ lines-faulty c.args.header.now c.lines.bodies.items c.lines.standing c.lines.lines.lines c.take.new.self.lines (record { number = c.in-Some.line.number; words = c.in-Some.line.words }) c.in-Err.cause c.lines.invariant.follows c.in-Some.ensures.taken (sym c.in-Err.ensures)
