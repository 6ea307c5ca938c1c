-- What the calls of a cycle keep of the crew.
--     CrewFacts, facts_of crew      its table, its links, and how many nodes and seats it has
--     IsSeatOf facts seat      the seat is one of the crew's, between two calls
use Rattle.std.specs.Prelude.{ℕ, List}
use Rattle.atomic_table.specs.Seated.{TableId}
use Rattle.jack_types.specs.declared.ports.Link.{Link}
use Rattle.cycle_workers.specs.activation.specs.declared.crews.Crew.{Crew}
use Rattle.cycle_workers.specs.activation.specs.declared.takens.Seat.{Seat}
use Rattle.cycle_workers.specs.activation.specs.Seats.{Sits}

pub record CrewFacts : Type 0 where
  pub id : TableId
  pub links : List Link
  pub nodes : ℕ
  pub seats : ℕ

module _ {B Y M : Type 0} where
  abbrev pub facts_of : Crew B Y M → CrewFacts
  facts_of crew = record { id = crew.board.shared.table_id; links = crew.links.items; nodes = crew.nodes; seats = crew.seats }

  abbrev pub IsSeatOf : CrewFacts → Seat B Y M → Type 0
  IsSeatOf facts seat = Sits facts.id facts.links facts.nodes facts.seats seat.number seat.token
