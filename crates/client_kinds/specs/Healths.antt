-- What a bench answers.
use Rattle.std.specs.Prelude.{Bool, true, false}
use Rattle.client_kinds.specs.declared.benches.Health.{Health}
use Rattle.client_kinds.specs.declared.benches.Health.TheVariants.{Alive, Dead}

-- dead where its guest answered other than 0
abbrev pub health_of : Bool → Health
health_of true = Dead
health_of false = Alive
