-- The fields of few parts. No public clause cites this module.
use Rattle.std.specs.Prelude.{◌≤◌, List, ℤ, map, take}
use Rattle.client_benches.specs.declared.gathering.Few.TheInside.{Inside}

-- in the order of making
abbrev pub parts_in : Inside → List (List ℤ)
parts_in few = map (λ part. part.now) (take few.count few.parts)

pub record IsWithin (few : Inside) : Type 0 where
  pub within : few.count ≤ 8
