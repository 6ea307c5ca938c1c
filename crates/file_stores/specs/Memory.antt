-- What a file in memory shows of itself.
use Rattle.std.specs.Prelude.{ℕ, List, Some}
use Rattle.std.specs.declared.option.Option.{Option}
use Rattle.file_stores.specs.declared.memory_stream.MemoryStream.{MemoryStream}

-- its bytes
abbrev pub bytes_in : MemoryStream → List ℕ
bytes_in s = s.bytes.items

-- those that are kept
abbrev pub kept_in : MemoryStream → List ℕ
kept_in s = s.kept.items

-- the place at which it stands
abbrev pub place_in : MemoryStream → ℕ
place_in s = s.at

-- both, as a stream tells them
abbrev pub told_in : MemoryStream → Option (ℕ × List ℕ)
told_in s = Some (s.at, s.bytes.items)

-- for how many bytes it has room
abbrev pub room_in : MemoryStream → ℕ
room_in s = s.most

-- how many calls have failed
abbrev pub faults_in : MemoryStream → ℕ
faults_in s = s.faults

-- how many calls found no memory
abbrev pub wants_in : MemoryStream → ℕ
wants_in s = s.wants
