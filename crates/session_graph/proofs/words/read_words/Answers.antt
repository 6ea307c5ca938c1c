use Rattle.std.proofs.Common.{◌≡◌, ◌≢◌, arith, codes, string_bytes, refl, rules}
use Rattle.std.proofs.lemmas.Grind.{common_steps}
use Rattle.std.proofs.lemmas.Slice.Eq.{bytes_eq-Decides}
use Rattle.play_words.proofs.PlayLemmas.{first_four}
use Rattle.session_graph.proofs.words.read_words.Goals as goal

pub returns-clause-lawful : goal.returns-clause-lawful
returns-clause-lawful c =
    let command : c.as_str.result.now ≡ codes "graph" = grind (arith, common_steps, bytes_eq-Decides) in
    let other : c.as_str-script.result.now ≢ c.as_str-report.result.now = grind (arith, common_steps, bytes_eq-Decides) in
    let items = first_four string_bytes c.args.words.now c.command-item.result c.script-item.result c.report-item.result c.cycle-item.result
    c.in-len4-up.len_at_least c.command-item.is c.script-item.is c.report-item.is c.cycle-item.is in
    record {
      digits = c.as_str-2.result.now;
      words_are = rw (items, c.as_str-script.ensures.value, c.as_str-report.ensures.value, c.as_str-2.ensures.value, ← command, c.as_str.ensures.value, ← c.in_ok-dot.ensures.some) refl;
      script_name = c.is_name.ensures.0 c.if-not-is_name.false;
      report_name = c.is_name-else-not-is_name.ensures.0 c.if-not-is_name-2.false;
      apart = other;
      number = (c.in_ok-cycle.ensures.some).0;
      counted = (c.in_ok-cycle.ensures.some).1;
      few = search (rules, arith);
    }
