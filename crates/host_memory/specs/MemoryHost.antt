-- What a host in memory shows of itself.
use Rattle.std.specs.Prelude.{◌≡◌, ℕ, List, Bool}
use Rattle.host_memory.specs.Listed.{listed, refused_under, closing_refused_under}
use Rattle.host_memory.specs.declared.memory_host.MemoryHost.{MemoryHost}

-- the names with their bytes
abbrev pub host_files : MemoryHost → List (List ℕ × List ℕ)
host_files h = listed h.files.entries

-- the numbers of the calls that fail under a name: 0 is the opening or making, and the reads or writes follow
abbrev pub host_refused : MemoryHost → List ℕ → List ℕ
host_refused h name = refused_under h.refusals name

-- whether the closing of an output fails under a name
abbrev pub host_closing_refused : MemoryHost → List ℕ → Bool
host_closing_refused h name = closing_refused_under h.refusals name

-- how many openings and reads have failed
abbrev pub host_read_faults : MemoryHost → ℕ
host_read_faults h = h.read_faults

-- how many makings, writes and closings have failed
abbrev pub host_write_faults : MemoryHost → ℕ
host_write_faults h = h.write_faults

-- how many calls found no memory
abbrev pub host_wants : MemoryHost → ℕ
host_wants h = h.wants

-- how many objects are out
abbrev pub host_lent : MemoryHost → ℕ
host_lent h = h.lent

-- the same calls fail
pub record SameRefusals (old new : MemoryHost) : Type 0 where
  pub calls : (name : List ℕ) → host_refused new name ≡ host_refused old name
  pub closings : (name : List ℕ) → host_closing_refused new name ≡ host_closing_refused old name

-- nothing was counted
pub record SameCounts (old new : MemoryHost) : Type 0 where
  pub reads : host_read_faults new ≡ host_read_faults old
  pub writes : host_write_faults new ≡ host_write_faults old
  pub wants : host_wants new ≡ host_wants old
  pub lent : host_lent new ≡ host_lent old
