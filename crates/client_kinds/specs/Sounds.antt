-- What a kind plays at one place, and its memory behind a cycle, for the kinds that ask no guest.
--     sound kind memory moment period inputs j      what output j plays
--     stepped kind memory period inputs      the memory behind the cycle
use Rattle.std.specs.Prelude.{ℕ, ◌+◌, ◌*◌, ◌%◌, Bool, true, false, List, [], map, fold, take, drop, ℤ, ◌*ℤ◌}
use Rattle.std.specs.Int.{int_shr}
use Rattle.port_mixer.specs.jack_types.specs.declared.kinds.Kind.{Kind}
use Rattle.port_mixer.specs.jack_types.specs.declared.kinds.Kind.TheVariants.{Pass, Gain, Mix, Delay, Tone, Click, Meter, Guest, Disk}
use Rattle.port_mixer.specs.jack_types.specs.declared.moments.Moment.{Moment}
use Rattle.port_mixer.specs.session_model.specs.Kinds.{Memory, input_at, delayed, tone_sample, click_sample, peak_with}
use Rattle.port_mixer.specs.session_model.specs.Samples.{below, clamp, silence, mix}

abbrev pub asks_guest : Kind → Bool
asks_guest (Guest guest) = true
asks_guest _ = false

-- the samples of one output
abbrev pub sound : Kind → Memory → Moment → ℕ → List (List ℤ) → ℕ → List ℤ
sound Pass memory moment period inputs j = input_at period inputs j
sound (Gain factor shift) memory moment period inputs j = map (λ x. clamp (int_shr (x *ℤ factor) shift)) (input_at period inputs j)
sound Mix memory moment period inputs j = mix period inputs
sound (Delay frames) memory moment period inputs j = take period (delayed period memory.lines inputs j)
sound (Tone half level) memory moment period inputs j = map (λ i. tone_sample half level (memory.phase + i)) (below period)
sound (Click level) memory moment period inputs j = map (click_sample level moment) (below period)
sound (Disk disk) memory moment period inputs j = take period (input_at period memory.fed j)
sound _ memory moment period inputs j = silence period

-- what is kept for the next cycle
abbrev pub stepped : Kind → Memory → ℕ → List (List ℤ) → Memory
stepped (Delay frames) memory period inputs = record memory { lines = map (λ j. drop period (delayed period memory.lines inputs j)) (below 16) }
stepped (Tone half level) memory period inputs = record memory { phase = (memory.phase + period) % (2 * half) }
stepped Meter memory period inputs = record memory { peak = fold peak_with memory.peak inputs }
stepped (Disk disk) memory period inputs = record memory { fed = [] }
stepped _ memory period inputs = memory
