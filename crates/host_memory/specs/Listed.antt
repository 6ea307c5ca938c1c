-- The entries of the maps in memory, as lists.
use Rattle.std.specs.Prelude.{ℕ, List, [], map, string_bytes, Bool, false}
use Rattle.std.specs.Option.{option_map_or}
use Rattle.std.specs.BTreeMap.{BTreeMap, get_by_text}
use Rattle.std.specs.declared.string.String.{String}
use Rattle.std.specs.declared.vec.Vec.{Vec}
use Rattle.std.specs.declared.alloc.Global.{Global}
use Rattle.host_memory.specs.declared.refusals.Refusals.{Refusals}

-- the names and bytes of these entries
abbrev pub listed : List (String Global × Vec ℕ Global) → List (List ℕ × List ℕ)
listed entries = map (λ e. (string_bytes e.0, e.1.items)) entries

-- the numbers of the calls that fail under a name
abbrev pub refused_under : BTreeMap (String Global) Refusals → List ℕ → List ℕ
refused_under refusals name = option_map_or (λ r. r.calls.items) (get_by_text refusals name) []

-- whether the closing fails under a name
abbrev pub closing_refused_under : BTreeMap (String Global) Refusals → List ℕ → Bool
closing_refused_under refusals name = option_map_or (λ r. r.closing) (get_by_text refusals name) false
