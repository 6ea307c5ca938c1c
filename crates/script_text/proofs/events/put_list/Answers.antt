use Rattle.std.proofs.Common.{ℕ, []}
use Rattle.std.specs.Prelude.{string_bytes}
use Rattle.jack_types.specs.declared.events.Event.{Event}
use Rattle.grammar_laws.specs.session_model.specs.Grammar.{event_slots}
use Rattle.script_text.proofs.PrintingLemmas.{lines-next-made}
use Rattle.script_text.proofs.events.put_list.Goals as goal

pub loop-frame-preserved : goal.loop-frame-preserved
loop-frame-preserved c = lines-next-made (string_bytes c.args.text.now) event_slots (λ (item : ℕ × Event). (c.args.list, item)) c.args.events.now c.loop-frame.frame-index (0, record { offset = 0; size = 0; bytes = record { 0 = [] } }) (string_bytes c.loop-frame.text) (string_bytes c.put_event.new.text) c.loop-frame-test.true c.loop-frame.invariant c.in_ok-put_event.ensures
