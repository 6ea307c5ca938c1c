-- What the players of a session's disks are given in a period of two frames.
use Rattle.std.proofs.Common.{◌≡◌, [], ◌∷◌, pos, refl, arith}
use Rattle.std.specs.Prelude.{Some, None}
use Rattle.driver_words.specs.Feeding.{AreCounted, Fed, HasNoDisks, MayGet, fed_at, no_disks, no_ring}

-- of the first disk, which has two channels, a block was got; of the second one, which has one, none
abbrev two_disks : Fed
two_disks = record {
  disks = record no_ring { samples = 4; got = record { cycle = 1; samples = pos 1 ∷ pos 2 ∷ pos 3 ∷ pos 4 ∷ [] } ∷ [] } ∷ record no_ring { samples = 2 } ∷ [];
  out = None ∷ None ∷ [];
  channels = 2 ∷ 1 ∷ [];
  played = 1 ∷ 0 ∷ [];
  blocks = Some (pos 1 ∷ pos 2 ∷ pos 3 ∷ pos 4 ∷ []) ∷ None ∷ [];
  underruns = [];
  period = 2;
  misses = 2;
}

first_is_fed : fed_at two_disks 0 ≡ (pos 1 ∷ pos 3 ∷ []) ∷ (pos 2 ∷ pos 4 ∷ []) ∷ []
first_is_fed = refl

second_is_not : fed_at two_disks 1 ≡ []
second_is_not = refl

there_is_no_third : fed_at two_disks 2 ≡ []
there_is_no_third = refl

one_block_is_counted : AreCounted two_disks
one_block_is_counted = refl

-- a session without disks feeds nobody, and asks for no room
no_disks_feed : fed_at no_disks 0 ≡ []
no_disks_feed = refl

no_disks_is : HasNoDisks no_disks
no_disks_is = record { disks = refl; played = refl; blocks = refl }

no_disks_may : MayGet no_disks
no_disks_may = record { periods = λ disk low. absurd (omega (arith, low)); misses = omega arith }
