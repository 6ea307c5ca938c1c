-- A crew, its seats and their tokens, as the calls of a crew see them.
--     TakesPart crew seat      the seat is one of the crew's, with its share
--     IsOf crew token      the token is one of the crew's table, and knows its links and benches
--     AreAllOf crew seats      all the seats of the crew, none of which holds a node
use Rattle.std.specs.Prelude.{List, Option}
use Rattle.atomic_table.specs.declared.shared.Seat.{Seat as Token}
use Rattle.activation.specs.declared.crews.Crew.{Crew}
use Rattle.activation.specs.declared.takens.Seat.{Seat}
use Rattle.activation.specs.declared.views.Item.{Item}
use Rattle.activation.specs.declared.views.View.{View}
use Rattle.activation.specs.Rounds.{AreSeats}
use Rattle.activation.specs.Seats.{IsAt, Sits}

module _ {B Y M : Type 0} where
  abbrev pub TakesPart : Crew B Y M → Seat B Y M → Type 0
  TakesPart crew seat = Sits crew.board.shared.table_id crew.links.items crew.nodes crew.seats seat.number seat.token

  abbrev pub IsOf : Crew B Y M → Token (Option (Item B Y)) (View (Option (Item B Y)) B) → Type 0
  IsOf crew token = IsAt crew.board.shared.table_id crew.links.items crew.nodes token

  abbrev pub AreAllOf : Crew B Y M → List (Seat B Y M) → Type 0
  AreAllOf crew seats = AreSeats crew.board.shared.table_id crew.links.items crew.nodes crew.seats seats
