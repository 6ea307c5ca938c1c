use Rattle.std.proofs.Common.{rules, ◌∷◌, ◌++◌, [], ap, sym, ◌∙◌, subst, ℕ, List, ◌*◌, ◌+◌, ◌%◌, ◌≡◌}
use Rattle.std.specs.Prelude.{Option, Some}
use mathlib.Core.Option.{none}
use Rattle.atomic_table.specs.Table.{Me, Allows, step, rest}
use Rattle.graph_word.specs.declared.plans.Base.{Base}
use Rattle.graph_word.specs.declared.view.SeatView.{SeatView}
use Rattle.graph_word.specs.Publications.{Publishing}
use Rattle.graph_word.specs.Rule.{PublicationRule}
use Rattle.graph_word.specs.Steps.{Committed}
use Rattle.graph_word.proofs.Publishes.{commits}
use Rattle.graph_word.proofs.publisher.Publisher.committed.Goals as goal

pub swap-found-requires : goal.swap-found-requires
swap-found-requires g c =
    let p = c.self.inside in let i = c.self.invariant in let is = c.self.view_is in let v : SeatView = p.seat.me.0 in let P : Type 0 = g.row.P.Denot in let n : ℕ = c.deref.result.now.shared.table_id.slots in
    let content = g.P.Numbered.content in let base_of = g.P.Numbered.base in let z : Base = base_of c.deref.result.now.shared.key in let new : ℕ = c.number-published.result * 4 + p.place in
    let now = c.exchange.ensures.3 ∙ ap (λ (l : List (ℕ × Option P)). (v, (p.place, Some p.plan) ∷ rest l)) i.3 in let next = c.requires.next in (
      search rules,
      search rules,
      subst (λ (m : Me (Option P) SeatView). Allows (PublicationRule content base_of z) n c.exchange.new.seat.id m 0 (λ _. new) (Committed content base_of (step n 0 new 0 none) m)) (sym now)
          (commits content base_of z n c.exchange.new.seat.id v p.place new p.plan next.more i.4 i.5 i.6 i.7
          (subst (λ (u : Publishing × P). u.0.held ≡ u.0.all ++ next.more ∷ []) (sym is) next.one_more) (subst (λ (u : Publishing × P). base_of u.1 ≡ u.0.base) (sym is) c.requires.base) (ap (λ (q : ℕ). q * 4 + p.place) c.number-published.ensures)),
    )

pub exchange-requires-2 : goal.exchange-requires-2
exchange-requires-2 g c = let did = c.swap-found.ensures.2 in let e = ap (λ (m : Me (Option g.row.P.Denot) SeatView). m.1) did.4 in
    (search rules, (Some did.0, e ∙ ap (λ (l : List (ℕ × Option g.row.P.Denot)). (c.swap-found.result % 4, Some did.0) ∷ rest l) (sym e)))
