use Rattle.std.proofs.Common.{sym, ◌∙◌, ap, subst}
use Rattle.client_kinds.specs.Standings.{IsGuest}
use Rattle.client_benches.specs.Seen.{Seen}
use Rattle.client_benches.proofs.InsideLemmas.{sound-lent}
use Rattle.client_benches.proofs.benches.ClientBench.lend.Goals as goal

pub invariant_of-self : goal.invariant_of-self
invariant_of-self g c =
    let holds = rw (← c.deref_mut.ensures.value) at c.self.invariant in
    let seen = rw (← c.deref_mut.ensures.value) at c.self.view_is in (
      rw c.lend.ensures.period holds.0,
      rw c.lend.ensures.period holds.1,
      sound-lent g.G.Guest.sound c.deref_mut.result.now.bench c.lend.new.self c.deref_mut.result.now.turn c.deref_mut.result.now.routes.items
          (subst (λ (seen : Seen). IsGuest seen.kept.standing.kind) (sym seen) c.requires.kind)
          (ap (λ (seen : Seen). seen.kept.standing.score) seen ∙ c.requires.none)
          c.lend.ensures.memory holds.2,
      holds.3,
    )
