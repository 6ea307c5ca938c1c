-- The words of a rehearsal.
--     one_number      words are those of one rehearsal at most
--     no_play      and then of no play
--     both_items      a list of two items
use Rattle.std.proofs.Common.{◌≡◌, ℕ, ◌<◌, ◌≤◌, List, [], ◌∷◌, get_or, length, map, refl, sym, ◌∙◌, ap, arith}
use Rattle.session_model.specs.Grammar.{number_value}
use Rattle.play_words.specs.Rehearsals.{IsRehearse}
use Rattle.play_words.specs.Words.{IsPlay, Play}

pub one_number : (words : List (List ℕ)) (m n : ℕ) → IsRehearse words m → IsRehearse words n → m ≡ n
one_number words m n one other =
    let same : one.digits ≡ other.digits = cc (one.words_are, other.words_are) in
    sym one.number.value ∙ ap number_value same ∙ other.number.value

pub no_play : (words : List (List ℕ)) (play : Play) (n : ℕ) → IsPlay words play → IsRehearse words n → ⊥
no_play words play n is also = absurd (cc (is.words_are, also.words_are))

-- the texts of a list of two items
pub both_items : {X : Type 0} (f : X → List ℕ) (xs : List X) (a b : X) → 2 ≤ length xs → length xs < 3 → a ≡ get_or xs 0 a → b ≡ get_or xs 1 b → map f xs ≡ f a ∷ f b ∷ []
both_items f [] a b many few e g = absurd (omega (arith, many))
both_items f (v ∷ []) a b many few e g = absurd (omega (arith, many))
both_items f (v ∷ w ∷ []) a b many few e g = rw (e, g) refl
both_items f (v ∷ w ∷ x ∷ xs) a b many few e g = absurd (omega (arith, few))
