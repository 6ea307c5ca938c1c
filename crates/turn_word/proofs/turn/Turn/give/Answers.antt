use Rattle.std.proofs.Common.{rules, ◌≡◌, ℕ, suc, List, [], ◌∷◌, true, is_some, refl, sym, ap, ◌∙◌, subst, Some}
use Rattle.std.specs.Prelude.{Option, IsSomeAnd}
use mathlib.Core.Option.{none}
use Rattle.atomic_table.specs.Table.{Me, Allows, step, rest}
use Rattle.turn_word.specs.declared.view.Known.{Known}
use Rattle.turn_word.specs.Rule.{TurnRule}
use Rattle.turn_word.specs.Steps.{Gave}
use Rattle.turn_word.specs.Handles.{out_with}
use Rattle.turn_word.specs.Turns.{Handle, newest}
use Rattle.turn_word.proofs.Keeps.{gives}
use Rattle.turn_word.proofs.Places.{from_some, from_some_and}
use Rattle.turn_word.proofs.turn.Turn.give.Goals as goal

pub store-requires : goal.store-requires
store-requires g c =
    let T : Type 0 = g.row.T.Denot in let v : Known T = c.pass.inside.seat.me.0 in let view = sym c.pass.view_is in let n : ℕ = c.self.inside.table.shared.table_id.slots in
    let z : ℕ = c.self.inside.table.shared.key.passes in
    let o = from_some v.opened (subst (λ (h : Handle T). is_some h.opened ≡ true) view c.requires.open) in
    let holds : v.holds ≡ true = subst (λ (h : Handle T). h.holds ≡ true) view c.requires.held in
    let out : c.pass.inside.seat.me.1 ≡ out_with true = c.pass.invariant ∙ ap out_with holds in
    let now : c.exchange.new.seat.me ≡ (v, (0, Some c.args.thing) ∷ []) = c.exchange.ensures.3 ∙ ap (λ (l : List (ℕ × Option T)). (v, (0, Some c.args.thing) ∷ rest l)) out in
    let later = from_some_and (newest v.seen) (λ taken. g.T.Kept.goes_on taken c.args.thing) (subst (λ (h : Handle T). IsSomeAnd (newest h.seen) (λ taken. g.T.Kept.goes_on taken c.args.thing)) view c.requires.later) in (
      search rules,
      search rules,
      subst (λ (m : Me (Option T) (Known T)). Allows (TurnRule g.T.Kept.goes_on (suc z)) n c.exchange.new.seat.id m 0 (λ _. 1) (λ _. Gave (step n 0 1 0 none) m 1)) (sym now)
          (gives g.T.Kept.goes_on g.T.Kept.same g.T.Kept.later (suc z) n c.exchange.new.seat.id v o.0 later.0 c.args.thing 1 o.1 later.1 later.2 holds refl),
    )
