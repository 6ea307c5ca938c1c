use Rattle.std.proofs.Common.{◌+◌, add-one, arith, subst, sym}
use Rattle.control_desk.specs.Desks.{Desk, IsDesk, MayBegin}
use Rattle.control_desk.proofs.DeskLemmas.{IsDesk-begun}
use Rattle.control_desk.proofs.ScriptLemmas.{phases-few}
use Rattle.control_desk.proofs.desk.Desk.begin.Goals as goal

pub overflow_add-begun : goal.overflow_add-begun
overflow_add-begun c =
    let may : MayBegin (record { script = c.self.inside.history.script; history = c.self.inside.history.history; phase = c.self.inside.phase; publishing = c.self.inside.publisher.0 }) c.args.phase = subst (λ (d : Desk). MayBegin d c.args.phase) (sym c.self.view_is) c.requires in
    let few = phases-few c.self.inside.history.script c.self.invariant.1 in
    omega (arith, few, may.there)

pub invariant_of-self : goal.invariant_of-self
invariant_of-self c =
    let may : MayBegin (record { script = c.self.inside.history.script; history = c.self.inside.history.history; phase = c.self.inside.phase; publishing = c.self.inside.publisher.0 }) c.args.phase = subst (λ (d : Desk). MayBegin d c.args.phase) (sym c.self.view_is) c.requires in (
      subst (λ n. IsDesk (record { script = c.self.inside.history.script; history = c.self.inside.history.history; phase = n; publishing = c.self.inside.publisher.0 })) (sym (add-one c.args.phase))
          (IsDesk-begun (record { script = c.self.inside.history.script; history = c.self.inside.history.history; phase = c.self.inside.phase; publishing = c.self.inside.publisher.0 }) c.self.invariant.1 c.self.invariant.0 c.args.phase may),
      c.self.invariant.1,
      c.self.invariant.2,
    )
