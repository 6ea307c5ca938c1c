use Rattle.std.proofs.Common.{◌≡◌, ◌+◌, ◌-◌, ◌≤◌, drop, length, map, string_bytes}
use Rattle.play_words.specs.Pairs.{words_in_pairs}
use Rattle.play_words.proofs.pairs.words_in_pairs.Given as goal

-- the words so far and those behind them that are pairs
abbrev pub invariant-pairs : goal.invariant-pairs
invariant-pairs l =
    record {
      within : l.found ≤ length l.words;
      so_far : l.found + words_in_pairs l.option (drop l.found (map string_bytes l.words)) ≡ words_in_pairs l.option (map string_bytes l.words);
    }

abbrev pub decreases-pairs : goal.decreases-pairs
decreases-pairs l = length l.words - l.found
