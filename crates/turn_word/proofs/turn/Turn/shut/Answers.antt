use Rattle.std.proofs.Common.{rules, arith, ◌≡◌, All, Contains, ℕ, suc, List, [], ◌∷◌, true, refl, sym, ap, ◌∙◌, subst, Some, None}
use Rattle.std.specs.Prelude.{Option}
use mathlib.Core.Option.{none}
use Rattle.atomic_table.specs.Table.{Me, Allows, step, rest}
use Rattle.turn_word.specs.declared.view.Known.{Known}
use Rattle.turn_word.specs.Rule.{TurnRule}
use Rattle.turn_word.specs.Steps.{Laid, Claimed, saw, lay, hand}
use Rattle.turn_word.specs.Handles.{whole_of}
use Rattle.turn_word.specs.Turns.{Lock, AreAll, Caller, IsCaller}
use Rattle.turn_word.proofs.Keeps.{claims, shuts}
use Rattle.std.proofs.lemmas.List.Elements.{All-contains, All-weaker}
use Rattle.turn_word.proofs.Places.{of_caller, same_Some}
use Rattle.turn_word.proofs.turn.Turn.shut.Goals as goal

pub swap-requires : goal.swap-requires
swap-requires g c =
    let T : Type 0 = g.row.T.Denot in let z : ℕ = c.self.inside.table.shared.key.passes in let n : ℕ = c.self.inside.table.shared.table_id.slots in let o = c.requires.open in
    let all = subst (λ (l : Lock). AreAll l.table l.passes (Some o.0) c.args.passes.now) (sym c.self.view_is) o.1 in
    let w = c.gather-whole.ensures.whole (Some o.0) all in (
      search rules,
      search rules,
      subst (λ (m : Me (Option T) (Known T)). Allows (TurnRule g.T.Kept.goes_on (suc z)) n c.gather-whole.result.id m 0 (λ _. 2) (Claimed g.T.Kept.goes_on (step n 0 2 0 none) m)) (sym w)
          (claims g.T.Kept.goes_on g.T.Kept.same g.T.Kept.later (suc z) n c.gather-whole.result.id (whole_of z (Some o.0) c.gather-whole.result.me.0.seen, []) o.0 (refl, refl, omega arith) refl refl),
    )

pub exchange-requires : goal.exchange-requires
exchange-requires g c =
    let T : Type 0 = g.row.T.Denot in let did = c.swap.ensures.2 in let e = ap (λ (m : Me (Option T) (Known T)). m.1) did.5 in
    (search rules, (Some did.1, e ∙ ap (λ l. (0, Some did.1) ∷ rest l) (sym e)))

pub store-requires : goal.store-requires
store-requires g c =
    let T : Type 0 = g.row.T.Denot in let z : ℕ = c.self.inside.table.shared.key.passes in let n : ℕ = c.self.inside.table.shared.table_id.slots in let o = c.requires.open in
    let all = subst (λ (l : Lock). AreAll l.table l.passes (Some o.0) c.args.passes.now) (sym c.self.view_is) o.1 in
    let w = c.gather-whole.ensures.whole (Some o.0) all in let did = c.swap.ensures.2 in let v : Known T = saw true (Some did.1) (whole_of z (Some o.0) c.gather-whole.result.me.0.seen) in
    let took : c.swap.new.seat.me ≡ (v, (0, Some did.1) ∷ []) = did.5 ∙ ap (λ (m : Me (Option T) (Known T)). (saw true (Some did.1) m.0, (0, Some did.1) ∷ m.1)) w in
    let now : c.exchange.new.seat.me ≡ (v, (0, None) ∷ []) = c.exchange.ensures.3 ∙ ap (λ (m : Me (Option T) (Known T)). (m.0, (0, None) ∷ rest m.1)) took in (
      search rules,
      search rules,
      subst (λ (m : Me (Option T) (Known T)). Allows (TurnRule g.T.Kept.goes_on (suc z)) n c.exchange.new.seat.id m 0 (λ _. 0) (λ _. Laid (step n 0 0 0 none) m 0)) (sym now)
          (shuts g.T.Kept.goes_on g.T.Kept.same g.T.Kept.later (suc z) n c.exchange.new.seat.id v 0 (refl, refl, omega arith) refl refl),
    )

pub deal-caller-requires-clause-whole : goal.deal-caller-requires-clause-whole
deal-caller-requires-clause-whole g c =
    let T : Type 0 = g.row.T.Denot in let z : ℕ = c.self.inside.table.shared.key.passes in let o = c.requires.open in
    let all = subst (λ (l : Lock). AreAll l.table l.passes (Some o.0) c.args.passes.now) (sym c.self.view_is) o.1 in
    let w = c.gather-whole.ensures.whole (Some o.0) all in let did = c.swap.ensures.2 in let v : Known T = saw true (Some did.1) (whole_of z (Some o.0) c.gather-whole.result.me.0.seen) in
    let took : c.swap.new.seat.me ≡ (v, (0, Some did.1) ∷ []) = did.5 ∙ ap (λ (m : Me (Option T) (Known T)). (saw true (Some did.1) m.0, (0, Some did.1) ∷ m.1)) w in
    let now : c.exchange.new.seat.me ≡ (v, (0, None) ∷ []) = c.exchange.ensures.3 ∙ ap (λ (m : Me (Option T) (Known T)). (m.0, (0, None) ∷ rest m.1)) took in
    (search rules, (None, c.store.ensures.2 ∙ ap (λ (m : Me (Option T) (Known T)). (lay (hand m.1) m.0, rest m.1)) now))

pub returns-clause-shut : goal.returns-clause-shut
returns-clause-shut g c =
    let T : Type 0 = g.row.T.Denot in let z : ℕ = c.self.inside.table.shared.key.passes in let o = c.requires.open in
    let all = subst (λ (l : Lock). AreAll l.table l.passes (Some o.0) c.args.passes.now) (sym c.self.view_is) o.1 in
    let w = c.gather-whole.ensures.whole (Some o.0) all in let did = c.swap.ensures.2 in let v : Known T = saw true (Some did.1) (whole_of z (Some o.0) c.gather-whole.result.me.0.seen) in
    let took : c.swap.new.seat.me ≡ (v, (0, Some did.1) ∷ []) = did.5 ∙ ap (λ (m : Me (Option T) (Known T)). (saw true (Some did.1) m.0, (0, Some did.1) ∷ m.1)) w in
    let now : c.exchange.new.seat.me ≡ (v, (0, None) ∷ []) = c.exchange.ensures.3 ∙ ap (λ (m : Me (Option T) (Known T)). (m.0, (0, None) ∷ rest m.1)) took in
    subst (λ (l : Lock). AreAll l.table l.passes None c.deal-caller.new.passes) c.self.view_is
    (c.deal-caller.ensures.passes None (c.store.ensures.2 ∙ ap (λ (m : Me (Option T) (Known T)). (lay (hand m.1) m.0, rest m.1)) now))

pub returns-clause-caller : goal.returns-clause-caller
returns-clause-caller g c =
    let T : Type 0 = g.row.T.Denot in let z : ℕ = c.self.inside.table.shared.key.passes in let o = c.requires.open in
    let all = subst (λ (l : Lock). AreAll l.table l.passes (Some o.0) c.args.passes.now) (sym c.self.view_is) o.1 in
    let w = c.gather-whole.ensures.whole (Some o.0) all in let did = c.swap.ensures.2 in let v : Known T = saw true (Some did.1) (whole_of z (Some o.0) c.gather-whole.result.me.0.seen) in
    let took : c.swap.new.seat.me ≡ (v, (0, Some did.1) ∷ []) = did.5 ∙ ap (λ (m : Me (Option T) (Known T)). (saw true (Some did.1) m.0, (0, Some did.1) ∷ m.1)) w in
    let now : c.exchange.new.seat.me ≡ (v, (0, None) ∷ []) = c.exchange.ensures.3 ∙ ap (λ (m : Me (Option T) (Known T)). (m.0, (0, None) ∷ rest m.1)) took in
    let is = c.deal-caller.ensures.caller None (c.store.ensures.2 ∙ ap (λ (m : Me (Option T) (Known T)). (lay (hand m.1) m.0, rest m.1)) now) in
    subst (λ (l : Lock). IsCaller l.table l.passes None c.deal-caller.result) c.self.view_is
    (of_caller _ _ None _ (ap (λ (x : Caller T). x.table) is) (ap (λ (x : Caller T). x.passes) is) (ap (λ (x : Caller T). x.opened) is))

pub returns-clause-later : goal.returns-clause-later
returns-clause-later g c =
    λ opened given.
    let T : Type 0 = g.row.T.Denot in
    let all = subst (λ (l : Lock). AreAll l.table l.passes (Some opened) c.args.passes.now) (sym c.self.view_is) given in
    let w = c.gather-whole.ensures.whole (Some opened) all in let did = c.swap.ensures.2 in
    let one : opened ≡ did.0 = same_Some opened did.0 (sym (ap (λ (m : Me (Option T) (Known T)). m.0.opened) w) ∙ did.2) in
    let slots = sym (ap (λ (m : Me (Option T) (Known T)). hand m.1) did.5) ∙ ap hand c.exchange.ensures.2 ∙ c.unwrap-thing.ensures in
    let two : did.1 ≡ c.unwrap-thing.result = same_Some did.1 c.unwrap-thing.result slots in
    subst (λ (p : T × T). g.T.Kept.goes_on p.0 p.1) (λ k. (sym one k, two k)) did.3

pub returns-clause-seen : goal.returns-clause-seen
returns-clause-seen g c k d low =
    let T : Type 0 = g.row.T.Denot in let did = c.swap.ensures.2 in let seen : List T = c.gather-whole.result.me.0.seen in
    let slots = sym (ap (λ (m : Me (Option T) (Known T)). hand m.1) did.5) ∙ ap hand c.exchange.ensures.2 ∙ c.unwrap-thing.ensures in
    let is : did.1 ≡ c.unwrap-thing.result = same_Some did.1 c.unwrap-thing.result slots in
    let before = subst (λ (x : T). All (λ y. g.T.Kept.goes_on y x) seen) is did.4 in
    All-weaker (Contains seen) (λ y. g.T.Kept.goes_on y c.unwrap-thing.result) (λ y at. All-contains (λ y. g.T.Kept.goes_on y c.unwrap-thing.result) seen y before at) _ (c.gather-whole.ensures.seen k d low)
