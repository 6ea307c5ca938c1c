use Rattle.std.proofs.Common.{◌≡◌, ◌∙◌, IfOk, List, ap, filter_map, subst}
use Rattle.jack_types.specs.declared.kinds.Kind.{Kind}
use Rattle.script_needs.specs.Lines.{kind_on}
use Rattle.script_needs.proofs.OpenLemmas.{kinds-on_lines}
use Rattle.script_needs.proofs.opening.open_kinds.Goals as goal

pub returns : goal.returns
returns c =
    subst (λ (kinds : List Kind). IfOk c.kinds_on.result (λ found. found.items ≡ kinds))
    (ap (filter_map kind_on) c.lines.ensures.value ∙ kinds-on_lines c.args.script.now c.lines.ensures.lawful)
    c.kinds_on.ensures
