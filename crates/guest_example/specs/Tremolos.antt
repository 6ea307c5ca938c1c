-- What a tremolo plays.
--     IsHalf half      how many frames half of its wave may have
--     rising half n, gain half j n      how loud the first output and output j are at a frame of the wave, out of `half`
--     tremolo_sample half j n x, tremolo_output half start period inputs j      a sample of output j, and all its samples
--     first_frame_of moment numbers      the frame of the wave at which a cycle begins
--     tremolo half, sound_by score      its sound, and the sound by the numbers of its score
--     played half start ports input j      inside: output j, on the samples of these ports
use Rattle.std.specs.Prelude.{ℕ, ◌+◌, ◌-◌, ◌*◌, ◌%◌, ◌≤◌, min, ◌==◌, List, [], ◌∷◌, map, slice_index_or, ℤ, pos, ◌*ℤ◌, int_div, nat_abs, if◌then◌else◌}
use Rattle.jack_types.specs.declared.moments.Moment.{Moment}
use Rattle.jack_types.specs.declared.moments.TransportState.{TransportState}
use Rattle.jack_types.specs.declared.moments.TransportState.TheVariants.{Rolling}
use Rattle.session_model.specs.Kinds.{Sound, outputs_by}
use Rattle.session_model.specs.Samples.{below, clamp, sample}
use Rattle.client_kinds.specs.Buffers.{buffers_of}
use Rattle.client_kinds.specs.Scores.{Score}
use Rattle.client_kinds.specs.declared.guests.Shape.{Shape}

-- from 1 frame to 65,536
pub record IsHalf (half : ℕ) : Type 0 where
  pub least : 1 ≤ half
  pub most : half ≤ 65536

-- up to `half` in half of the wave, and down again
abbrev pub rising : ℕ → ℕ → ℕ
rising half n = min (n % (2 * half)) (2 * half - n % (2 * half))

-- while the outputs of even places rise, those of odd places fall
abbrev pub gain : ℕ → ℕ → ℕ → ℕ
gain half j n = if j % 2 == 0 then rising half n else half - rising half n

-- a sample times the gain, out of `half`, rounded toward 0
abbrev pub tremolo_sample : ℕ → ℕ → ℕ → ℤ → ℤ
tremolo_sample half j n x = clamp (int_div (x *ℤ pos (gain half j n)) (pos half))

-- output j plays input j, from a frame of the wave on; silence where there is no such input
abbrev pub tremolo_output : ℕ → ℕ → ℕ → List (List ℤ) → ℕ → List ℤ
tremolo_output half start period inputs j = map (λ i. tremolo_sample half j (start + i) (sample (slice_index_or inputs j []) i)) (below period)

-- the transport's frame while it rolls, and else the one that is remembered
abbrev pub first_frame_of : Moment → List ℤ → ℕ
first_frame_of moment numbers = by_state moment.state
  where
    by_state : TransportState → ℕ
    by_state Rolling = moment.frame
    by_state _ = nat_abs (sample numbers 0)

-- it remembers the frame of the wave behind the cycle
abbrev pub tremolo : ℕ → Sound
tremolo half = record {
  first = pos 0 ∷ [];
  turn = λ moment outputs period numbers inputs.
      let start = first_frame_of moment numbers in
      record { outputs = outputs_by outputs (tremolo_output half start period inputs); answer = 0; numbers = pos ((start + period) % (2 * half)) ∷ [] };
}

abbrev pub sound_by : Score → Sound
sound_by score = tremolo (nat_abs (sample score 0))

abbrev pub played : ℕ → ℕ → Shape → List ℤ → ℕ → List ℤ
played half start ports input j = tremolo_output half start ports.period (buffers_of ports.inputs ports.period input) j
