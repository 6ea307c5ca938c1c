use Rattle.std.proofs.Common.{◌≡◌, ◌+◌, ◌<◌, ◌≤◌, [], ℕ, List, ap, arith, bytes_eq, drop, get_or, length, length-drop, map, string_bytes, sym, true, false, ◌∙◌}
use Rattle.std.proofs.lemmas.List.{length-map}
use Rattle.std.proofs.lemmas.Grind.{common_steps}
use Rattle.play_words.proofs.PairLemmas.{text_at, words_in_pairs-more, words_in_pairs-other, words_in_pairs-short}
use Rattle.play_words.proofs.pairs.words_in_pairs.Goals as goal

pub returns-then-ne-clause-value : goal.returns-then-ne-clause-value
returns-then-ne-clause-value c =
    let long : length (map string_bytes c.args.words.now) ≡ length c.args.words.now = length-map c.args.words.now string_bytes in
    let room : c.pairs.found + 2 ≤ length c.args.words.now = omega (arith, c.pairs-test.true) in
    let word : get_or (map string_bytes c.args.words.now) c.pairs.found [] ≡ c.as_str.result.now = text_at string_bytes c.args.words.now c.pairs.found c.index-words-found.result (omega (arith, room)) c.index-words-found.is ∙ sym c.as_str.ensures.value in
    let unlike : bytes_eq c.as_str.result.now c.args.option.now ≡ false = grind (arith, common_steps) in
    let none = words_in_pairs-other c.args.option.now (map string_bytes c.args.words.now) c.pairs.found (omega (arith, long, room)) (ap (λ (w : List ℕ). bytes_eq w c.args.option.now) word ∙ unlike) in
    let so_far = c.pairs.invariant.so_far in
    omega (arith, none, so_far)

pub pairs-preserved : goal.pairs-preserved
pairs-preserved c =
    let long : length (map string_bytes c.args.words.now) ≡ length c.args.words.now = length-map c.args.words.now string_bytes in
    let room : c.pairs.found + 2 ≤ length c.args.words.now = omega (arith, c.pairs-test.true) in
    let word : get_or (map string_bytes c.args.words.now) c.pairs.found [] ≡ c.as_str.result.now = text_at string_bytes c.args.words.now c.pairs.found c.index-words-found.result (omega (arith, room)) c.index-words-found.is ∙ sym c.as_str.ensures.value in
    let alike : bytes_eq c.as_str.result.now c.args.option.now ≡ true = grind (arith, common_steps) in
    let more = words_in_pairs-more c.args.option.now (map string_bytes c.args.words.now) c.pairs.found (omega (arith, long, room)) (ap (λ (w : List ℕ). bytes_eq w c.args.option.now) word ∙ alike) in
    let so_far = c.pairs.invariant.so_far in
    record { within = room; so_far = omega (arith, more, so_far) }

pub returns-clause-value : goal.returns-clause-value
returns-clause-value c =
    let long : length (map string_bytes c.args.words.now) ≡ length c.args.words.now = length-map c.args.words.now string_bytes in
    let few : length c.args.words.now < c.pairs.found + 2 = omega (arith, c.pairs-test.false) in
    let left = length-drop c.pairs.found (map string_bytes c.args.words.now) in
    let none = words_in_pairs-short c.args.option.now (drop c.pairs.found (map string_bytes c.args.words.now)) (omega (arith, long, few, left)) in
    let so_far = c.pairs.invariant.so_far in
    omega (arith, none, so_far)
