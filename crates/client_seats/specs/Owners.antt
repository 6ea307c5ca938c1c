-- What contracts see of the owners of the benches of a rack.
--     Owned      who owns each bench, the guests, and the clients that lost theirs
--     owner_at owned place      who owns the bench at a place
--     pooled owned guest      the score of a guest that is not lent
use Rattle.std.specs.Prelude.{ℕ, List, Option, None, slice_index_or}
use Rattle.bench_rack.specs.client_kinds.specs.Scores.{Score}
use Rattle.driver_laws.specs.Drivers.{Remembered}

-- `births` has of each place the birth of the client that owns its bench, if one does; `scores` are those of all guests, as they were
-- handed in; `pool` has by guest number the score of each guest that is not lent; `past` the clients whose guest went to another one,
-- each with its memory as it was then
pub record Owned : Type 0 where
  pub births : List (Option ℕ)
  pub scores : List Score
  pub pool : List (Option Score)
  pub past : List Remembered

-- nobody past the last place
abbrev pub owner_at : Owned → ℕ → Option ℕ
owner_at owned place = slice_index_or owned.births place None

abbrev pub pooled : Owned → ℕ → Option Score
pooled owned guest = slice_index_or owned.pool guest None
