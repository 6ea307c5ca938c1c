use Rattle.std.proofs.Common.{◌≡◌, ◌+◌, [], ◌∷◌, ◌++◌, take, drop, sym, subst, arith}
use Rattle.std.proofs.lemmas.Grind.{common_steps}
use Rattle.port_mixer.specs.Sums.{AreSumsOf, all_added}
use Rattle.port_mixer.specs.Insides.{sums_in}
use Rattle.port_mixer.proofs.SumLemmas.{AreSumsOf-four}
use Rattle.port_mixer.proofs.fours.take_four.Goals as goal

pub returns-then-parts-eq0-clause-bound : goal.returns-then-parts-eq0-clause-bound
returns-then-parts-eq0-clause-bound c =
    let parts = c.args.one.now ∷ c.args.two.now ∷ c.args.three.now ∷ c.args.four.now ∷ [] in
    let before = sums_in c.args.parts c.args.frames c.args.sums.now in
    let is : take c.args.frames (c.set_to_four.new.sums ++ drop c.args.frames c.args.sums.now) ≡ all_added before parts = grind (arith, common_steps) in
    subst (AreSumsOf (c.args.parts + 4)) (sym is) (AreSumsOf-four c.args.parts before c.args.one.now c.args.two.now c.args.three.now c.args.four.now c.requires.sums c.see_four.ensures)

pub returns-else-parts-eq0-clause-bound : goal.returns-else-parts-eq0-clause-bound
returns-else-parts-eq0-clause-bound c =
    let parts = c.args.one.now ∷ c.args.two.now ∷ c.args.three.now ∷ c.args.four.now ∷ [] in
    let before = sums_in c.args.parts c.args.frames c.args.sums.now in
    let is : take c.args.frames (c.add_four_into.new.sums ++ drop c.args.frames c.args.sums.now) ≡ all_added before parts = grind (arith, common_steps) in
    subst (AreSumsOf (c.args.parts + 4)) (sym is) (AreSumsOf-four c.args.parts before c.args.one.now c.args.two.now c.args.three.now c.args.four.now c.requires.sums c.see_four.ensures)
