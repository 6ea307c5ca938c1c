-- The parts of a mix, gathered eight at a time.
--     AreGathered frames mix few parts      some parts: the first of them are summed, and the last are few
use Rattle.std.specs.Prelude.{◌≡◌, ℕ, List, ◌++◌, ℤ, length}
use Rattle.client_kinds.specs.port_mixer.specs.Sums.{Mix, sums_of}

pub record AreGathered (frames : ℕ) (mix : Mix) (few parts : List (List ℤ)) : Type 0 where
  pub first : List (List ℤ)
  pub summed : mix.sums ≡ sums_of frames first
  pub counted : length first ≡ mix.parts
  pub all : parts ≡ first ++ few
