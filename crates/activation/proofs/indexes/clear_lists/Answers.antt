use Rattle.std.proofs.Common.{rules, arith, ◌≡◌, ◌<◌, ◌≤◌, ℕ, [], length, vec_capacity}
use Rattle.std.specs.Global.{Vec}
use Rattle.activation.proofs.Listed.{all_set, mapped_set}
use Rattle.activation.proofs.Indexed.{cleared}
use Rattle.activation.proofs.indexes.clear_lists.Goals as goal

pub loop-node-preserved : goal.loop-node-preserved
loop-node-preserved c =
    let i = c.loop-node.invariant in
    let low : c.loop-node.node < length c.loop-node.all.items = search rules in (
      i.0,
      all_set (λ (which : Vec ℕ). 512 ≤ vec_capacity which) c.loop-node.all.items c.loop-node.node c.clear.new.self i.1 (search rules),
      mapped_set (λ (which : Vec ℕ). which.items) c.loop-node.all.items (λ n. []) c.loop-node.node c.clear.new.self low c.clear.ensures.items i.2,
    )

pub returns : goal.returns
returns c =
    let i = c.loop-node.invariant in
    let end : c.loop-node.node ≡ length c.loop-node.all.items = search rules in
    let long : length c.loop-node.all.items ≡ length c.args.all.now.items = search rules in
    (long, cleared c.loop-node.all.items i.1 (λ k low. i.2 k (omega (arith, low, end))))
