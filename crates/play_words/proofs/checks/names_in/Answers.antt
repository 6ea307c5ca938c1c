use Rattle.std.proofs.Common.{◌≡◌, ◌-◌, arith, codes, drop, length, map, string_bytes, take, refl}
use Rattle.std.proofs.lemmas.Grind.{common_steps}
use Rattle.std.proofs.lemmas.Slice.Eq.{bytes_eq-Decides}
use Rattle.play_words.proofs.PlayLemmas.{first_five}
use Rattle.play_words.proofs.checks.names_in.Goals as goal

pub returns-clause-formed : goal.returns-clause-formed
returns-clause-formed c =
    let command : c.as_str.result.now ≡ codes "check" = grind (arith, common_steps, bytes_eq-Decides) in
    let items = first_five string_bytes c.args.words.now c.command-item.result c.script-item.result c.capture-item.result c.report-item.result c.playback-item.result
    c.in-len5-up.len_at_least c.command-item.is c.script-item.is c.capture-item.is c.report-item.is c.playback-item.is in
    record {
      pairs = map string_bytes (take (length c.args.words.now - 5) (drop 5 c.args.words.now));
      words_are = rw (items, c.as_str-2.ensures.value, c.as_str-3.ensures.value, c.as_str-4.ensures.value, c.as_str-5.ensures.value, ← command, c.as_str.ensures.value) refl;
      are_pairs = c.in-Some.ensures.pairs;
    }
