use Rattle.std.proofs.Common.{map, refl}
use Rattle.std.specs.Prelude.{string_bytes}
use Rattle.session_script.specs.Parts.{script_of_parts}
use Rattle.session_script.proofs.WholeLemmas.{list-sizes, text-spells}
use Rattle.session_script.proofs.script.Script.text.Goals as goal

pub printed-requires-clause-sizes : goal.printed-requires-clause-sizes
printed-requires-clause-sizes c = rw c.as_slice.ensures.value (list-sizes (λ list. list.items) c.self.inside.events.items c.self.inside.header c.self.inside.lines.items c.self.invariant)

pub returns-in-Ok-clause-again : goal.returns-in-Ok-clause-again
returns-in-Ok-clause-again c =
    text-spells (string_bytes c.in-Ok.text) (script_of_parts c.self.inside.header (map (λ list. list.items) c.as_slice.result.now) c.as_slice-2.result.now) (script_of_parts c.self.inside.header (map (λ list. list.items) c.self.inside.events.items) c.self.inside.lines.items) c.args.self.now c.in-Ok.ensures (rw (c.as_slice.ensures.value, c.as_slice-2.ensures.value) refl) c.self.view_is c.self.invariant
