use Rattle.std.proofs.Common.{rules, arith, ◌≡◌, ℕ, suc, [], ◌∷◌, refl, sym, ap, ◌∙◌, subst, Some, None}
use Rattle.std.specs.Prelude.{Option}
use mathlib.Core.Option.{none}
use Rattle.atomic_table.specs.Table.{Me, Allows, step, rest}
use Rattle.turn_word.specs.declared.view.Known.{Known}
use Rattle.turn_word.specs.Rule.{TurnRule}
use Rattle.turn_word.specs.Steps.{Laid, Seized, seize, lay, hand}
use Rattle.turn_word.specs.Handles.{whole_of}
use Rattle.turn_word.specs.Turns.{Lock, AreAll, Caller, IsCaller}
use Rattle.turn_word.proofs.Keeps.{seizes, opens}
use Rattle.turn_word.proofs.Places.{of_caller}
use Rattle.turn_word.proofs.turn.Turn.open.Goals as goal

pub swap-requires : goal.swap-requires
swap-requires g c =
    let T : Type 0 = g.row.T.Denot in let z : ℕ = c.self.inside.table.shared.key.passes in let n : ℕ = c.self.inside.table.shared.table_id.slots in
    let all = subst (λ (l : Lock). AreAll l.table l.passes None c.args.passes.now) (sym c.self.view_is) c.requires.shut in
    let w = c.gather-whole.ensures.whole None all in (
      search rules,
      search rules,
      subst (λ (m : Me (Option T) (Known T)). Allows (TurnRule g.T.Kept.goes_on (suc z)) n c.gather-whole.result.id m 0 (λ _. 2) (Seized (step n 0 2 0 none) m)) (sym w)
          (seizes g.T.Kept.goes_on g.T.Kept.same g.T.Kept.later (suc z) n c.gather-whole.result.id (whole_of z None c.gather-whole.result.me.0.seen, []) (refl, refl, omega arith) refl refl),
    )

pub store-requires : goal.store-requires
store-requires g c =
    let T : Type 0 = g.row.T.Denot in let z : ℕ = c.self.inside.table.shared.key.passes in let n : ℕ = c.self.inside.table.shared.table_id.slots in
    let all = subst (λ (l : Lock). AreAll l.table l.passes None c.args.passes.now) (sym c.self.view_is) c.requires.shut in
    let w = c.gather-whole.ensures.whole None all in let v : Known T = seize (whole_of z None c.gather-whole.result.me.0.seen) in
    let took : c.swap.new.seat.me ≡ (v, (0, None) ∷ []) = c.swap.ensures.2 ∙ ap (λ (m : Me (Option T) (Known T)). (seize m.0, (0, None) ∷ m.1)) w in
    let now : c.exchange.new.seat.me ≡ (v, (0, Some c.args.thing) ∷ []) = c.exchange.ensures.3 ∙ ap (λ (m : Me (Option T) (Known T)). (m.0, (0, Some c.args.thing) ∷ rest m.1)) took in (
      search rules,
      search rules,
      subst (λ (m : Me (Option T) (Known T)). Allows (TurnRule g.T.Kept.goes_on (suc z)) n c.exchange.new.seat.id m 0 (λ _. 1) (λ _. Laid (step n 0 1 0 none) m 1)) (sym now)
          (opens g.T.Kept.goes_on g.T.Kept.same g.T.Kept.later (suc z) n c.exchange.new.seat.id v c.args.thing 1 (refl, refl, omega arith) refl refl refl),
    )

pub deal-requires-clause-whole : goal.deal-requires-clause-whole
deal-requires-clause-whole g c =
    let T : Type 0 = g.row.T.Denot in let z : ℕ = c.self.inside.table.shared.key.passes in
    let all = subst (λ (l : Lock). AreAll l.table l.passes None c.args.passes.now) (sym c.self.view_is) c.requires.shut in
    let w = c.gather-whole.ensures.whole None all in let v : Known T = seize (whole_of z None c.gather-whole.result.me.0.seen) in
    let took : c.swap.new.seat.me ≡ (v, (0, None) ∷ []) = c.swap.ensures.2 ∙ ap (λ (m : Me (Option T) (Known T)). (seize m.0, (0, None) ∷ m.1)) w in
    let now : c.exchange.new.seat.me ≡ (v, (0, Some c.args.thing) ∷ []) = c.exchange.ensures.3 ∙ ap (λ (m : Me (Option T) (Known T)). (m.0, (0, Some c.args.thing) ∷ rest m.1)) took in
    (search rules, (Some c.args.thing, c.store.ensures.2 ∙ ap (λ (m : Me (Option T) (Known T)). (lay (hand m.1) m.0, rest m.1)) now))

pub returns-clause-open : goal.returns-clause-open
returns-clause-open g c =
    let T : Type 0 = g.row.T.Denot in let z : ℕ = c.self.inside.table.shared.key.passes in
    let all = subst (λ (l : Lock). AreAll l.table l.passes None c.args.passes.now) (sym c.self.view_is) c.requires.shut in
    let w = c.gather-whole.ensures.whole None all in let v : Known T = seize (whole_of z None c.gather-whole.result.me.0.seen) in
    let took : c.swap.new.seat.me ≡ (v, (0, None) ∷ []) = c.swap.ensures.2 ∙ ap (λ (m : Me (Option T) (Known T)). (seize m.0, (0, None) ∷ m.1)) w in
    let now : c.exchange.new.seat.me ≡ (v, (0, Some c.args.thing) ∷ []) = c.exchange.ensures.3 ∙ ap (λ (m : Me (Option T) (Known T)). (m.0, (0, Some c.args.thing) ∷ rest m.1)) took in
    subst (λ (l : Lock). AreAll l.table l.passes (Some c.args.thing) c.deal.new.passes) c.self.view_is
    (c.deal.ensures.passes (Some c.args.thing) (c.store.ensures.2 ∙ ap (λ (m : Me (Option T) (Known T)). (lay (hand m.1) m.0, rest m.1)) now))

pub returns-clause-caller : goal.returns-clause-caller
returns-clause-caller g c =
    let T : Type 0 = g.row.T.Denot in let z : ℕ = c.self.inside.table.shared.key.passes in
    let all = subst (λ (l : Lock). AreAll l.table l.passes None c.args.passes.now) (sym c.self.view_is) c.requires.shut in
    let w = c.gather-whole.ensures.whole None all in let v : Known T = seize (whole_of z None c.gather-whole.result.me.0.seen) in
    let took : c.swap.new.seat.me ≡ (v, (0, None) ∷ []) = c.swap.ensures.2 ∙ ap (λ (m : Me (Option T) (Known T)). (seize m.0, (0, None) ∷ m.1)) w in
    let now : c.exchange.new.seat.me ≡ (v, (0, Some c.args.thing) ∷ []) = c.exchange.ensures.3 ∙ ap (λ (m : Me (Option T) (Known T)). (m.0, (0, Some c.args.thing) ∷ rest m.1)) took in
    let is = c.deal.ensures.caller (Some c.args.thing) (c.store.ensures.2 ∙ ap (λ (m : Me (Option T) (Known T)). (lay (hand m.1) m.0, rest m.1)) now) in
    subst (λ (l : Lock). IsCaller l.table l.passes (Some c.args.thing) c.deal.result) c.self.view_is
    (of_caller _ _ (Some c.args.thing) _ (ap (λ (x : Caller T). x.table) is) (ap (λ (x : Caller T). x.passes) is) (ap (λ (x : Caller T). x.opened) is))

pub returns-clause-goes : goal.returns-clause-goes
returns-clause-goes g c =
    let T : Type 0 = g.row.T.Denot in let z : ℕ = c.self.inside.table.shared.key.passes in
    let all = subst (λ (l : Lock). AreAll l.table l.passes None c.args.passes.now) (sym c.self.view_is) c.requires.shut in
    let w = c.gather-whole.ensures.whole None all in let v : Known T = seize (whole_of z None c.gather-whole.result.me.0.seen) in
    let took : c.swap.new.seat.me ≡ (v, (0, None) ∷ []) = c.swap.ensures.2 ∙ ap (λ (m : Me (Option T) (Known T)). (seize m.0, (0, None) ∷ m.1)) w in
    let now : c.exchange.new.seat.me ≡ (v, (0, Some c.args.thing) ∷ []) = c.exchange.ensures.3 ∙ ap (λ (m : Me (Option T) (Known T)). (m.0, (0, Some c.args.thing) ∷ rest m.1)) took in
    ap (λ (x : Caller T). x.called) (c.deal.ensures.caller (Some c.args.thing) (c.store.ensures.2 ∙ ap (λ (m : Me (Option T) (Known T)). (lay (hand m.1) m.0, rest m.1)) now))
