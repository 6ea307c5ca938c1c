-- What a stage did in a cycle of a plan.
--     PerformsPlan sounding old last plan moment period channels disks new      each step of it, in their order
use Rattle.std.specs.Prelude.{◌≡◌, ℕ, List, ℤ, Option}
use Rattle.jack_types.specs.declared.moments.Moment.{Moment}
use Rattle.session_model.specs.Kinds.{Sound}
use Rattle.client_kinds.specs.Scores.{Score}
use Rattle.cycle_plan.specs.Plans.{Planned}
use Rattle.bench_rack.specs.Racks.{Racked}
use Rattle.driver_words.specs.Feeding.{Fed}
use Rattle.stage_feeds.specs.Feeding.{Feeds}
use Rattle.stage_laws.specs.Casts.{ArePlaces, Casts, Fills, Performs}
use Rattle.stage_laws.specs.Stages.{Staged}

-- the clients of the plan were cast, what is known is in their wires, the players of disks have their blocks, and a crew played
pub record PerformsPlan (sounding : Score → Sound) (old : Staged) (last plan : Planned) (moment : Moment) (period : ℕ) (channels : List (List ℤ)) (disks : Fed) (new : Staged) : Type 0 where
  pub cast : Staged
  pub places : List (Option ℕ)
  pub filled : Racked
  pub fed : Racked
  pub crew : ℕ
  pub casts : Casts sounding old last plan moment period cast
  pub are_places : ArePlaces old cast period places
  pub fills : Fills cast plan moment period channels places filled
  pub feeds : Feeds plan disks filled fed
  pub performs : Performs sounding fed plan crew new.racked
  pub owned : new.owned ≡ cast.owned
