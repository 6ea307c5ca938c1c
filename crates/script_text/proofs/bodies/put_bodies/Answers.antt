use Rattle.std.specs.Prelude.{string_bytes}
use Rattle.grammar_laws.specs.session_model.specs.Grammar.{body_slots}
use Rattle.script_text.proofs.PrintingLemmas.{lines-next}
use Rattle.script_text.proofs.bodies.put_bodies.Goals as goal

pub loop-body-preserved : goal.loop-body-preserved
loop-body-preserved c = lines-next (string_bytes c.args.text.now) body_slots c.args.bodies.now c.loop-body.body-index c.body-item.result (string_bytes c.loop-body.text) (string_bytes c.put_body.new.text) c.loop-body-test.true c.body-item.is c.loop-body.invariant c.in_ok-put_body.ensures
