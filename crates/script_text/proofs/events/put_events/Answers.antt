use Rattle.std.proofs.Common.{◌<◌, length, arith}
use Rattle.std.specs.Prelude.{string_bytes}
use Rattle.script_text.proofs.PrintingLemmas.{lists-next}
use Rattle.script_text.proofs.events.put_events.Goals as goal

pub loop-list-preserved : goal.loop-list-preserved
loop-list-preserved c =
    let size = c.requires.lists in
    let test = c.loop-list-test.true in
    let room : c.loop-list.list < length c.args.lists.now = omega (arith, size, test) in
    lists-next (string_bytes c.args.text.now) (λ list. list.items) c.args.lists.now c.loop-list.list c.index-lists-list.result c.as_slice.result.now (string_bytes c.loop-list.text) (string_bytes c.put_list.new.text) room c.index-lists-list.is c.as_slice.ensures.value c.loop-list.invariant c.in_ok-put_list.ensures
