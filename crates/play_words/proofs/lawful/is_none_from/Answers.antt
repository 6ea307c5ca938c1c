use Rattle.std.proofs.Common.{◌≡◌, ◌≢◌, ◌≤◌, ℕ, [], arith, refl, slice_index_or, sym, ◌∙◌}
use Rattle.std.proofs.lemmas.Grind.{common_steps}
use Rattle.std.proofs.lemmas.Slice.Eq.{bytes_eq-Decides}
use Rattle.play_words.specs.Words.{names_of}
use Rattle.play_words.proofs.LawfulLemmas.{below-more}
use Rattle.play_words.proofs.lawful.is_none_from.Goals as goal

pub returns-then-eq : goal.returns-then-eq
returns-then-eq c =
    let same : c.args.name.now ≡ c.name.result.now = grind (arith, common_steps, bytes_eq-Decides) in
    let from = c.loop-other.invariant.from in
    let within = c.loop-other-test.true in
    ((λ t. absurd cc), λ none. absurd (none c.loop-other.other from (omega (arith, within, c.count-other-end.ensures)) (same ∙ c.name.ensures)))

pub loop-other-preserved : goal.loop-other-preserved
loop-other-preserved c =
    let unlike : c.args.name.now ≢ c.name.result.now = grind (arith, common_steps, bytes_eq-Decides) in
    let from = c.loop-other.invariant.from in
    record {
      from = omega (arith, from);
      none = λ k above below. below-more (λ (k : ℕ). c.args.first ≤ k → c.args.name.now ≢ slice_index_or (names_of c.args.names.now) k []) c.loop-other.other (λ k less more. c.loop-other.invariant.none k more less)
          (λ more same. unlike (same ∙ sym c.name.ensures)) k below above;
    }

pub returns : goal.returns
returns c =
    let ended = c.loop-other-test.false in
    ((λ t other above below. c.loop-other.invariant.none other above (omega (arith, below, ended, c.count-other-end.ensures))), λ none. refl)
