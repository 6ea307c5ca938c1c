use Rattle.std.proofs.Common.{◌<◌, ◌≤◌, ◌≢◌, [], ℕ, slice_index_or}
use Rattle.play_words.specs.Words.{names_of}
use Rattle.play_words.proofs.lawful.is_none_from.Given as goal

-- the name is that of none between
abbrev pub invariant-loop-other : goal.invariant-loop-other
invariant-loop-other l =
    record {
      from : l.first ≤ l.other;
      none : (k : ℕ) → l.first ≤ k → k < l.other → l.name ≢ slice_index_or (names_of l.names) k [];
    }
