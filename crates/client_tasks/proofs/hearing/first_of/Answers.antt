use Rattle.std.proofs.Common.{◌==◌, arith, filter}
use Rattle.std.proofs.lemmas.Iterator.Adapters.{position_from-zero}
use Rattle.client_wiring.specs.declared.joints.Joint.{Joint}
use Rattle.client_wiring.specs.declared.joints.Origin.TheVariants.{Captured}
use Rattle.client_tasks.specs.Tasks.{is_same_channel}
use Rattle.client_tasks.proofs.hearing.first_of.Goals as goal

pub loop-joint-init : goal.loop-joint-init
loop-joint-init c = record {
  left = position_from-zero (λ (other : Joint). is_same_channel other.origin (Captured c.args.channel)) (filter (λ (other : Joint). other.node == c.args.node) c.args.joints.now);
  few = omega arith;
}
