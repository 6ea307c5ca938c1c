use Rattle.std.proofs.Common.{◌<◌, sym, subst, length}
use Rattle.std.specs.Prelude.{IfSome}
use Rattle.std.specs.Option.{ForSome}
use Rattle.client_benches.specs.Seen.{Seen}
use Rattle.client_benches.proofs.InsideLemmas.{room-carried, sound-carried}
use Rattle.client_benches.proofs.benches.ClientBench.carry.Goals as goal

pub invariant_of-self : goal.invariant_of-self
invariant_of-self g c =
    let holds = rw (← c.deref_mut.ensures.value) at c.self.invariant in
    let seen = rw (← c.deref_mut.ensures.value) at c.self.view_is in (
      room-carried c.deref_mut.result.now.bench.period c.deref_mut.result.now.mixer c.deref_mut.result.now.padded.items c.deref_mut.result.now.input.items c.deref_mut.result.now.output.items c.deref_mut.result.now.wires c.deref_mut.result.now.routes c.push_reserved.new.self c.deref_mut.result.now.rooms.items _
          c.push_reserved.ensures.items (c.push_reserved.ensures.capacity)
          (subst (λ (seen : Seen). length seen.kept.routes < 512) (sym seen) c.requires.few)
          holds.0,
      holds.1,
      rw c.push_reserved.ensures.items (sound-carried c.deref_mut.result.now.bench c.deref_mut.result.now.turn c.deref_mut.result.now.routes.items _
          (subst (λ (seen : Seen). IfSome c.args.output (λ output. ForSome seen.kept.turn (λ turn. output < turn.ports.outputs))) (sym seen) c.requires.output) holds.2),
      holds.3,
    )
