use Rattle.std.proofs.Common.{◌+◌, ◌*◌, [], arith, map, string_bytes, sym, ◌∙◌}
use Rattle.play_words.proofs.PairLemmas.{name_of_pair, pair_is_there, text_at}
use Rattle.play_words.proofs.pairs.name_at.Goals as goal

pub overflow_mul-i : goal.overflow_mul-i
overflow_mul-i c =
    let there = pair_is_there string_bytes c.args.words.now c.args.i c.requires in
    let size = c.well_formed.0.1 in
    omega (arith, there, size)

pub overflow_add-i : goal.overflow_add-i
overflow_add-i c =
    let there = pair_is_there string_bytes c.args.words.now c.args.i c.requires in
    let size = c.well_formed.0.1 in
    omega (arith, there, size)

pub offset_bounds-words-i : goal.offset_bounds-words-i
offset_bounds-words-i c =
    let there = pair_is_there string_bytes c.args.words.now c.args.i c.requires in
    let size = c.well_formed.0.1 in
    omega (arith, there, size)

pub bounds-words-i : goal.bounds-words-i
bounds-words-i c = pair_is_there string_bytes c.args.words.now c.args.i c.requires

pub returns : goal.returns
returns c =
    c.as_str.ensures.value ∙ sym (name_of_pair (map string_bytes c.args.words.now) c.args.i [] c.requires ∙ text_at string_bytes c.args.words.now (2 * c.args.i + 1) c.index-words-i.result (pair_is_there string_bytes c.args.words.now c.args.i c.requires) c.index-words-i.is)
