-- What worked guests play.
use Rattle.std.proofs.Common.{◌≡◌, ℕ, List, [], ◌∷◌, ◌++◌, ℤ, pos, suc, refl, codes, replicate, map, take, drop}
use Rattle.std.specs.Fmt.{digits}
use Rattle.jack_types.specs.declared.commands.Command.TheVariants.{Close}
use Rattle.jack_types.specs.declared.kinds.Kind.TheVariants.{Guest}
use Rattle.jack_types.specs.declared.kinds.Score.TheVariants.{Echo, Fir, Hold, FailsAfter}
use Rattle.jack_types.specs.declared.scripts.Body.{Body}
use Rattle.jack_types.specs.declared.scripts.Body.TheVariants.{Do, Run}
use Rattle.session_model.specs.Kinds.{Sound, fitted, input_at}
use Rattle.session_model.specs.Samples.{below}
use Rattle.guests.specs.Sounds.{sound_of, turn_on}
use Rattle.model_rows.specs.Given.{header, given, plays, with_ports, joins}

-- a guest between capture and playback
abbrev guested : List Body
guested = with_ports (codes "g") (Guest 0) (codes "i" ∷ []) (codes "o" ∷ []) ++ joins (codes "system:capture_1") (codes "g:i") ++ joins (codes "g:o") (codes "system:playback_1")

abbrev rising : ℕ → List ℤ
rising n = map (λ i. pos (suc i)) (below n)

-- its third call fails; opened again it plays on
fails_third : plays (record (given (header 48000 4 1 1 32) (guested ++ Run 4 ∷ Do (Close (codes "g")) ∷ guested ++ Run 1 ∷ []) (rising 20)) { scores = sound_of (FailsAfter 2) ∷ [] })
    ≡ take 8 (rising 20) ++ replicate 8 (pos 0) ++ drop 16 (rising 20)
unfolding digits
fails_third = refl

-- the taps 1 2 1, a quarter of the sum
filtered : (turn_on (Fir (pos 1 ∷ pos 2 ∷ pos 1 ∷ []) 2) 1 (pos 0 ∷ pos 0 ∷ []) (pos 4000 ∷ pos 0 ∷ pos 0 ∷ pos 0 ∷ [])).outputs ≡ (pos 1000 ∷ pos 2000 ∷ pos 1000 ∷ pos 0 ∷ []) ∷ []
filtered = refl

-- half of the output of two frames before comes back
echoes : (turn_on (Echo 2 (pos 1) 1) 1 (pos 0 ∷ pos 0 ∷ []) (pos 8 ∷ pos 0 ∷ pos 0 ∷ pos 0 ∷ pos 0 ∷ [])).outputs ≡ (pos 8 ∷ pos 0 ∷ pos 4 ∷ pos 0 ∷ pos 2 ∷ []) ∷ []
echoes = refl

-- the last sample of the last cycle
held : (turn_on Hold 1 (pos 7 ∷ []) (pos 1 ∷ pos 2 ∷ pos 3 ∷ [])).outputs ≡ (pos 7 ∷ pos 7 ∷ pos 7 ∷ []) ∷ []
held = refl

-- a guest that is none of the program's: it plays its two inputs, exchanged
abbrev exchanged : Sound
exchanged = record { first = []; turn = λ moment outputs period numbers inputs. record { outputs = input_at period inputs 1 ∷ input_at period inputs 0 ∷ []; answer = 0; numbers = numbers } }

two_exchanged : plays (record (given (header 48000 4 2 2 32)
    (with_ports (codes "g") (Guest 0) (codes "a" ∷ codes "b" ∷ []) (codes "c" ∷ codes "d" ∷ [])
    ++ joins (codes "system:capture_1") (codes "g:a") ++ joins (codes "system:capture_2") (codes "g:b")
    ++ joins (codes "g:c") (codes "system:playback_1") ++ joins (codes "g:d") (codes "system:playback_2") ++ Run 1 ∷ [])
    (pos 1 ∷ pos 10 ∷ pos 2 ∷ pos 20 ∷ pos 3 ∷ pos 30 ∷ pos 4 ∷ pos 40 ∷ [])) { scores = exchanged ∷ [] })
    ≡ pos 10 ∷ pos 1 ∷ pos 20 ∷ pos 2 ∷ pos 30 ∷ pos 3 ∷ pos 40 ∷ pos 4 ∷ []
unfolding digits
two_exchanged = refl

-- of three outputs, the first is given too long, the second too short, and the third not at all
fits : fitted 2 3 ((pos 1 ∷ pos 2 ∷ pos 3 ∷ []) ∷ (pos 4 ∷ []) ∷ []) ≡ (pos 1 ∷ pos 2 ∷ []) ∷ (pos 4 ∷ pos 0 ∷ []) ∷ (pos 0 ∷ pos 0 ∷ []) ∷ []
fits = refl
