-- The fields of a mixer, and what stays true of them.
use Rattle.std.specs.Prelude.{◌≤◌, ◌==◌, ℕ, ℤ, List, if◌then◌else◌, length, take}
use Rattle.session_laws.specs.session_model.specs.Samples.{silence}
use Rattle.port_mixer.specs.Sums.{AreSumsOf, Mix}
use Rattle.port_mixer.specs.declared.mixing.Mixer.TheInside.{Inside}

-- zeros while no part is in them, whatever stands in their room
abbrev pub sums_in : ℕ → ℕ → List ℤ → List ℤ
sums_in parts frames room = if parts == 0 then silence frames else take frames room

-- what a caller sees
abbrev pub mix_in : Inside → Mix
mix_in m = record { room = length m.sums.items; sums = sums_in m.parts m.frames m.sums.items; parts = m.parts }

-- there are at most 512 parts, and each sum is one of so many samples
pub record IsWithin (m : Inside) : Type 0 where
  pub few : m.parts ≤ 512
  pub room : m.frames ≤ length m.sums.items
  pub sums : AreSumsOf m.parts (sums_in m.parts m.frames m.sums.items)
