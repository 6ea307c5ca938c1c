-- What contracts see of a guest of one of two types.
--     of_one a b guest      what is seen of the one that it is
--     score_of_one a b guest, sound_of_one a b score      which of the two it is and its score, and what is played by them
use Rattle.std.specs.Prelude.{zero, [], ◌∷◌, pos}
use Rattle.client_kinds.specs.Scores.{Score}
use Rattle.session_model.specs.Kinds.{Sound}
use Rattle.guest_example.specs.declared.one_of.OneOf.{OneOf}
use Rattle.guest_example.specs.declared.one_of.OneOf.TheVariants.{First, Second}

abbrev pub of_one : {A B X : Type 0} → (A → X) → (B → X) → OneOf A B → X
of_one a b (First guest) = a guest
of_one a b (Second guest) = b guest

abbrev pub score_of_one : {A B : Type 0} → (A → Score) → (B → Score) → OneOf A B → Score
score_of_one a b guest = of_one (λ one. pos 0 ∷ a one) (λ one. pos 1 ∷ b one) guest

abbrev pub sound_of_one : (Score → Sound) → (Score → Sound) → Score → Sound
sound_of_one a b (pos zero ∷ score) = a score
sound_of_one a b (_ ∷ score) = b score
sound_of_one a b [] = b []
