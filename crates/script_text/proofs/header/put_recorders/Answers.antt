use Rattle.std.specs.Prelude.{string_bytes}
use Rattle.grammar_laws.specs.session_model.specs.Grammar.{recorder_slots}
use Rattle.script_text.proofs.PrintingLemmas.{lines-next-at}
use Rattle.script_text.proofs.header.put_recorders.Goals as goal

pub loop-format-preserved : goal.loop-format-preserved
loop-format-preserved c = lines-next-at (string_bytes c.args.text.now) recorder_slots c.args.recorders.now c.loop-format.format-index (record { rate = 0; channels = 0; bits = 0 }) (string_bytes c.loop-format.text) (string_bytes c.put_format.new.text) c.loop-format-test.true c.loop-format.invariant c.in_ok-put_format.ensures
