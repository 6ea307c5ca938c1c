use Rattle.std.specs.Prelude.{codes, string_bytes}
use Rattle.grammar_laws.specs.session_model.specs.Grammar.{number_slots}
use Rattle.script_text.proofs.PrintingLemmas.{lines-next-at}
use Rattle.script_text.proofs.header.put_disks.Goals as goal

pub loop-channels-preserved : goal.loop-channels-preserved
loop-channels-preserved c = lines-next-at (string_bytes c.args.text.now) (number_slots (codes "disk")) c.args.disks.now c.loop-channels.channels-index 0 (string_bytes c.loop-channels.text) (string_bytes c.put_number_line.new.text) c.loop-channels-test.true c.loop-channels.invariant (rw c.from.ensures at c.in_ok-put_number_line.ensures)
