-- What a source, a store and a sink in memory show of themselves.
use Rattle.std.specs.Prelude.{ℕ, List, drop, string_bytes}
use Rattle.host_memory.specs.declared.memory_source.MemorySource.{MemorySource}
use Rattle.host_memory.specs.declared.memory_store.MemoryStore.{MemoryStore}
use Rattle.host_memory.specs.declared.memory_sink.MemorySink.{MemorySink}

-- the bytes that were not read yet
abbrev pub source_left : MemorySource → List ℕ
source_left s = drop s.at s.bytes.items

-- how many reads have failed
abbrev pub source_faults : MemorySource → ℕ
source_faults s = s.faults

-- the number of the next read, from 1
abbrev pub source_next : MemorySource → ℕ
source_next s = s.next

-- the numbers of the reads that fail
abbrev pub source_refused : MemorySource → List ℕ
source_refused s = s.refused.items

-- the bytes of the file's name
abbrev pub store_name : MemoryStore → List ℕ
store_name s = string_bytes s.name

-- the file's bytes
abbrev pub store_bytes : MemoryStore → List ℕ
store_bytes s = s.bytes.items

-- how many writes have failed
abbrev pub store_faults : MemoryStore → ℕ
store_faults s = s.faults

-- how many writes found no memory
abbrev pub store_wants : MemoryStore → ℕ
store_wants s = s.wants

-- the number of the next write, from 1
abbrev pub store_next : MemoryStore → ℕ
store_next s = s.next

-- the numbers of the writes that fail
abbrev pub store_refused : MemoryStore → List ℕ
store_refused s = s.refused.items

-- the bytes that were put
abbrev pub sink_bytes : MemorySink → List ℕ
sink_bytes s = s.bytes.items

-- how many puts have failed
abbrev pub sink_faults : MemorySink → ℕ
sink_faults s = s.faults

-- how many puts found no memory
abbrev pub sink_wants : MemorySink → ℕ
sink_wants s = s.wants

-- the number of the next put, from 1
abbrev pub sink_next : MemorySink → ℕ
sink_next s = s.next

-- the numbers of the puts that fail
abbrev pub sink_refused : MemorySink → List ℕ
sink_refused s = s.refused.items
