-- What the capture ports give in one cycle more, read from the samples that are left.
--     captured-left      of any course
use Rattle.std.proofs.Common.{◌≡◌, ℕ, ◌+◌, ◌*◌, cond, if◌then◌else◌, List, map, drop, ℤ, pos, sym, ◌∙◌, ap, arith}
use Rattle.std.proofs.Math.Nat.{add-mul}
use Rattle.std.proofs.lemmas.List.{get_or-drop}
use Rattle.record_ring.specs.session_model.specs.Courses.{Course, turn, period, captured, frames_before}
use Rattle.record_ring.specs.session_model.specs.Samples.{below, sample, silence}
use Rattle.record_ring.specs.session_model.specs.Scripts.{ScriptCycle}
use Rattle.cycle_plan.specs.session_laws.proofs.PlaceLemmas.{map-same}

-- a channel of the next frames; silence in a freewheel cycle
abbrev pub channel_of : ScriptCycle → ℕ → ℕ → List ℤ → ℕ → List ℤ
channel_of turn frames channels left channel = if turn.is_freewheel then silence frames else map (λ i. sample left (i * channels + channel)) (below frames)

pub captured-left : (course : Course) (k channel : ℕ)
    → captured course k channel ≡ channel_of (turn course k) (period course k) course.script.header.capture (drop (frames_before course k * course.script.header.capture) course.capture) channel
captured-left course k channel = ap (λ samples. cond (turn course k).is_freewheel (silence (period course k)) samples)
    (map-same
    (λ i. sample course.capture ((frames_before course k + i) * course.script.header.capture + channel))
    (λ i. sample (drop (frames_before course k * course.script.header.capture) course.capture) (i * course.script.header.capture + channel))
    (below (period course k))
    (λ i. ap (sample course.capture) (place (frames_before course k) i course.script.header.capture)
    ∙ sym (get_or-drop (frames_before course k * course.script.header.capture) course.capture (i * course.script.header.capture + channel) (pos 0))))
  where
    place : (frames i channels : ℕ) → (frames + i) * channels + channel ≡ frames * channels + (i * channels + channel)
    place frames i channels = let e : (frames + i) * channels ≡ frames * channels + i * channels = add-mul frames i channels in omega (arith, e)
