use Rattle.std.proofs.Common.{arith, ◌≡◌, suc, refl, sym, ap, ◌∙◌}
use Rattle.std.specs.Prelude.{Option}
use Rattle.atomic_table.specs.Table.{Me}
use Rattle.turn_word.specs.declared.view.Known.{Known}
use Rattle.turn_word.specs.Turns.{Caller, Lock}
use Rattle.turn_word.proofs.Calls.{calls}
use Rattle.turn_word.proofs.turn.Turn.call_off.Goals as goal

pub store-requires : goal.store-requires
store-requires g c =
    let T : Type 0 = g.row.T.Denot in let me : Me (Option T) (Known T) = c.caller.inside.seat.me in let known = c.caller.invariant in let is = c.requires.1 in
    let from = ap (λ (x : Caller T). x.passes) c.caller.view_is ∙ ap (λ (x : Caller T). x.passes) is ∙ sym (ap (λ (l : Lock). l.passes) c.self.view_is) in
    let to : me.0.to ≡ suc me.0.from = ap (λ (m : Me (Option T) (Known T)). m.0.to) known in (
      ap (λ (x : Caller T). x.table) c.caller.view_is ∙ ap (λ (x : Caller T). x.table) is ∙ sym (ap (λ (l : Lock). l.table) c.self.view_is),
      (let two = c.self.invariant.0 in omega arith),
      calls g.T.Kept.goes_on _ _ _ me 1 (omega arith) (to ∙ ap suc from) (ap (λ (m : Me (Option T) (Known T)). m.0.holds) known) refl,
    )
