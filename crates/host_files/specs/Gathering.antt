-- The bytes that were read ahead.
use Rattle.std.specs.Prelude.{ℕ, List, take, drop}
use Rattle.host_files.specs.declared.file_source.FileSource.{FileSource}

-- those that a file read in large pieces has not given yet
abbrev pub waiting : {F : Type 0} → FileSource F → List ℕ
waiting s = drop s.at (take s.end s.room.bytes.items)
