use Rattle.std.proofs.Common.{◌≡◌, ◌<◌, ◌∙◌, true, Some, ap, ap₂, arith, length, slice_get, sym}
use Rattle.std.proofs.lemmas.Option.{slice_get-get_or}
use Rattle.session_model.specs.Ids.{same_id_node}
use Rattle.session_laws.proofs.LoopLemmas.{and_parts}
use Rattle.latency_ranges.specs.Tables.{is_beside, is_near, join_with}
use Rattle.latency_ranges.proofs.JoinLemmas.{joined_skip, joined_step}
use Rattle.latency_ranges.proofs.passes.join_beside.Goals as goal
use Rattle.latency_ranges.proofs.passes.join_beside.Goals.{then-is_beside, else-is_beside}

pub loop-place-preserved : goal.loop-place-preserved
loop-place-preserved c = λ range shown.
    let within : c.loop-place.place < length c.args.ports.now = omega (arith, c.loop-place-test.true) in
    let at : slice_get c.args.ports.now c.loop-place.place ≡ Some c.index-ports-place.result =
    slice_get-get_or c.args.ports.now c.loop-place.place c.index-ports-place.result within ∙ ap Some (sym c.index-ports-place.is) in
    elim c.if-is_beside.branch [
      | then-is_beside w ↦
          let test : is_beside c.args.mode c.args.node c.index-ports-place.result ≡ true = sym c.is_beside.ensures ∙ w.if-is_beside.true in
          w.so_far-is
          ∙ ap Some (w.joined_to.ensures
          ∙ ap₂ join_with (c.loop-place.invariant range shown)
          (shown c.loop-place.place c.index-ports-place.result at (and_parts (same_id_node c.index-ports-place.result.node c.args.node) (is_near c.args.mode c.index-ports-place.result) test).1 ∙ ap range c.index-ports-place.is))
          ∙ sym (joined_step range (is_beside c.args.mode c.args.node) c.args.ports.now c.loop-place.place c.index-ports-place.result within (ap (is_beside c.args.mode c.args.node) (sym c.index-ports-place.is) ∙ test))
      | else-is_beside w ↦
          w.so_far-is
          ∙ c.loop-place.invariant range shown
          ∙ sym (joined_skip range (is_beside c.args.mode c.args.node) c.args.ports.now c.loop-place.place c.index-ports-place.result within
          (ap (is_beside c.args.mode c.args.node) (sym c.index-ports-place.is) ∙ sym c.is_beside.ensures ∙ w.if-is_beside.false))
    ]
