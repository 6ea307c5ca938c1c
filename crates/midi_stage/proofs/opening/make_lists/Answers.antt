use Rattle.std.proofs.Common.{◌≡◌, length, ◌∙◌, arith}
use Rattle.std.proofs.lemmas.List.{take_all}
use Rattle.midi_stage.proofs.opening.make_lists.Goals as goal

pub returns : goal.returns
returns c =
    let many : length c.args.script.now.events ≡ 16 = c.loop-list.invariant.lawful (omega (arith, c.loop-list-test.false)) in
    c.loop-list.invariant.lists ∙ take_all c.loop-list.list c.args.script.now.events (omega (arith, many, c.loop-list-test.false))
