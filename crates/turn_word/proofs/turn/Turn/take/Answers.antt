use Rattle.std.proofs.Common.{rules, ◌≡◌, ◌<◌, ◌∷◌, true, false, is_some, sym, ap, ◌∙◌, subst, Some}
use Rattle.std.specs.Prelude.{Option}
use Rattle.atomic_table.specs.Table.{Me, rest}
use Rattle.turn_word.specs.declared.view.Known.{Known}
use Rattle.turn_word.specs.Turns.{Handle}
use Rattle.turn_word.proofs.Keeps.{takes}
use Rattle.turn_word.proofs.Places.{from_some}
use Rattle.turn_word.proofs.turn.Turn.take.Goals as goal

pub swap-found-requires : goal.swap-found-requires
swap-found-requires g c =
    let T : Type 0 = g.row.T.Denot in let v : Known T = c.pass.inside.seat.me.0 in let view = sym c.pass.view_is in
    let o = from_some v.opened (subst (λ (h : Handle T). is_some h.opened ≡ true) view c.requires.open) in
    (search rules, search rules, takes g.T.Kept.goes_on g.T.Kept.same g.T.Kept.later _ _ _ c.pass.inside.seat.me o.0 o.1 (subst (λ (h : Handle T). h.from < h.to) view c.requires.pass) (subst (λ (h : Handle T). h.holds ≡ false) view c.requires.free))

pub exchange-requires : goal.exchange-requires
exchange-requires g c =
    let T : Type 0 = g.row.T.Denot in let did = c.swap-found.ensures.2.0 (search rules) in let e = ap (λ (m : Me (Option T) (Known T)). m.1) did.5 in
    (search rules, (Some did.1, e ∙ ap (λ l. (0, Some did.1) ∷ rest l) (sym e)))
