-- A WAVE file that was not written to its end.
--     frames_in front bytes      how many frames stand in it, by its first bytes and how many it has
use Rattle.std.specs.Prelude.{ℕ, ◌-◌, ◌/◌, ◌^◌, Bool, not, ◌&&◌, ◌==◌, nat_le, List, length, codes, take, Option, Some, None, if◌then◌else◌}
use Rattle.std.specs.Str.{bytes_eq}
use Rattle.session_model.specs.WaveFiles.{u16_at, u32_at}

-- a header of 44 bytes whose sizes are not set, with frames of some bytes
abbrev pub is_unfinished : List ℕ → Bool
is_unfinished front =
    nat_le 44 (length front) && bytes_eq (take 4 front) (codes "RIFF")
    && u32_at front 4 == 2 ^ 32 - 1 && u32_at front 40 == 2 ^ 32 - 1 && not (u16_at front 32 == 0)

abbrev pub frames_in : List ℕ → ℕ → Option ℕ
frames_in front bytes = if is_unfinished front then Some ((bytes - 44) / u16_at front 32) else None
