use Rattle.std.proofs.Common.{◌≡◌, codes, arith, string_bytes, refl}
use Rattle.std.proofs.lemmas.Grind.{common_steps}
use Rattle.std.proofs.lemmas.Slice.Eq.{bytes_eq-Decides}
use Rattle.play_words.proofs.RehearsalLemmas.{both_items}
use Rattle.play_words.proofs.numbers.rehearsal_number.Goals as goal

pub returns-clause-lawful : goal.returns-clause-lawful
returns-clause-lawful c =
    let command : c.as_str.result.now ≡ codes "rehearse" = grind (arith, common_steps, bytes_eq-Decides) in
    let items = both_items string_bytes c.args.words.now c.command-item.result c.digits-item.result c.in-len2.len_at_least c.in-len2.len_below c.command-item.is c.digits-item.is in
    record {
      digits = c.as_bytes.result.now;
      words_are = rw (items, c.as_bytes.ensures.value, c.as_str-2.ensures.value, ← command, c.as_str.ensures.value) refl;
      number = record { digits = c.in-Some.ensures.0; value = c.in-Some.ensures.1 };
      few = grind (arith, common_steps);
    }
