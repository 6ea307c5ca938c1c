use Rattle.std.proofs.Common.{◌≡◌, ◌++◌, ◌∙◌, Some, [], ap, length, refl, slice_get}
use Rattle.std.specs.List.{cons_option}
use Rattle.std.proofs.lemmas.Option.{slice_get_read}
use Rattle.script_needs.proofs.OpenLemmas.{kept-none, kept-some, kinds-next}
use Rattle.script_needs.proofs.opening.kinds_on.Goals as goal
use Rattle.script_needs.proofs.opening.kinds_on.Goals.{in-Some+in_ok-keep_kind, in_default}

pub loop-line-preserved : goal.loop-line-preserved
loop-line-preserved c =
    let at : slice_get c.args.lines.now c.loop-line.line-index ≡ Some c.line-item.result = slice_get_read c.args.lines.now (length c.args.lines.now) c.loop-line.line-index c.line-item.result refl c.loop-line-test.true c.line-item.is in
    let here : c.match-kind_on.kinds.items ≡ c.loop-line.kinds.items ++ cons_option c.kind_on.result [] = elim c.match-kind_on.branch [
      | in-Some+in_ok-keep_kind w ↦ kept-some w.in-Some.kind c.loop-line.kinds.items c.match-kind_on.kinds.items c.kind_on.result w.in-Some.is (ap (λ v. v.items) w.kinds-is ∙ w.in_ok-keep_kind.ensures)
      | in_default w ↦ kept-none c.loop-line.kinds.items c.match-kind_on.kinds.items c.kind_on.result w.in_default.is (ap (λ v. v.items) w.kinds-is)
    ] in
    kinds-next c.args.lines.now c.loop-line.line-index c.line-item.result c.loop-line.kinds.items c.match-kind_on.kinds.items c.kind_on.result at c.loop-line.invariant c.kind_on.ensures here
