-- What contracts see of any guest: the score and the numbers of the one that it is.
use Rattle.std.specs.Prelude.{List, ℤ}
use Rattle.client_kinds.specs.Scores.{Score}
use Rattle.guests.specs.declared.any.AnyGuest.{AnyGuest}
use Rattle.guests.specs.declared.any.AnyGuest.TheVariants.{Echo, Fir, Hold, Fail}

abbrev pub any_score : AnyGuest → Score
any_score (Echo guest) = guest.score
any_score (Fir guest) = guest.score
any_score (Hold guest) = guest.score
any_score (Fail guest) = guest.score

abbrev pub any_numbers : AnyGuest → List ℤ
any_numbers (Echo guest) = guest.numbers
any_numbers (Fir guest) = guest.numbers
any_numbers (Hold guest) = guest.numbers
any_numbers (Fail guest) = guest.numbers
