use Rattle.std.proofs.Common.{◌≡◌, true, arith, refl, subst, sym}
use Rattle.play_words.specs.Lawful.{IsLawfulAt, IsNoneFrom}
use Rattle.play_words.specs.Words.{IsName, names_of}
use Rattle.play_words.proofs.LawfulLemmas.{AreLawful-at, AreLawful-from_places, below-more}
use Rattle.play_words.proofs.lawful.are_lawful.Goals as goal

pub returns-then-not-is_name : goal.returns-then-not-is_name
returns-then-not-is_name c =
    let within = c.loop-place-test.true in (
      (λ t. absurd cc),
      λ are.
          let at : IsLawfulAt (names_of c.args.names.now) c.loop-place.place = AreLawful-at _ are c.loop-place.place (omega (arith, within, c.count-place-end.ensures)) in
          let yes : c.is_name.result ≡ true = c.is_name.ensures.1 (subst IsName (sym c.name-name.ensures) at.is_name) in
          absurd cc,
    )

pub returns-then-not-is_none_from : goal.returns-then-not-is_none_from
returns-then-not-is_none_from c =
    let within = c.loop-place-test.true in (
      (λ t. absurd cc),
      λ are.
          let at : IsLawfulAt (names_of c.args.names.now) c.loop-place.place = AreLawful-at _ are c.loop-place.place (omega (arith, within, c.count-place-end.ensures)) in
          let yes : c.is_none_from.result ≡ true = c.is_none_from.ensures.1 (subst (IsNoneFrom (names_of c.args.names.now) _) (sym c.name-name.ensures) at.is_last) in
          absurd cc,
    )

pub loop-place-preserved : goal.loop-place-preserved
loop-place-preserved c =
    below-more (IsLawfulAt (names_of c.args.names.now)) c.loop-place.place c.loop-place.invariant
    (record {
      is_name = subst IsName c.name-name.ensures (c.is_name.ensures.0 c.if-not-is_name.false);
      is_last = subst (IsNoneFrom (names_of c.args.names.now) _) c.name-name.ensures (c.is_none_from.ensures.0 c.if-not-is_none_from.false);
    })

pub returns : goal.returns
returns c =
    let ended = c.loop-place-test.false in
    ((λ t. AreLawful-from_places _ (λ k lt. c.loop-place.invariant k (omega (arith, lt, ended, c.count-place-end.ensures)))), λ are. refl)
