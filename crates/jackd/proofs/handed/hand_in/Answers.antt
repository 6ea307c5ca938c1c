use Rattle.std.proofs.Common.{◌≡◌, [], ◌∷◌, ap, map, pos, rules}
use Rattle.jack_types.specs.declared.kinds.Score.TheVariants.{Echo, Fir, Hold}
use Rattle.guests.specs.Any.{any_score}
use Rattle.guests.specs.Sounds.{numbers_of, sound_by}
use Rattle.jackd.proofs.handed.hand_in.Goals as goal

pub returns : goal.returns
returns c =
    let scores : map any_score c.add-3.new.guests.items ≡ numbers_of (Echo 4800 (pos 1) 1) ∷ numbers_of (Fir (pos 1 ∷ pos 2 ∷ pos 1 ∷ []) 2) ∷ numbers_of Hold ∷ [] = search rules in
    ap (map sound_by) scores
