use Rattle.std.proofs.Common.{rules, arith, ◌≡◌, ◌<◌, ℕ, suc, ◌+◌, [], ◌∷◌, ◌++◌, List, length, slice_get, sym, ap, ◌∙◌, subst, length-append, Some}
use Rattle.std.specs.Prelude.{Option, None}
use Rattle.atomic_table.specs.Table.{Me, Splits, opening}
use Rattle.turn_word.specs.declared.view.Known.{Known}
use Rattle.turn_word.specs.declared.view.Size.{Size}
use Rattle.turn_word.specs.Turns.{Handle}
use Rattle.turn_word.specs.Handles.{handle_of, left_of, new_pass}
use Rattle.turn_word.specs.Rule.{TurnRule, first_view}
use Rattle.turn_word.specs.Steps.{the_first, but_first}
use Rattle.turn_word.proofs.Opening.{begins}
use Rattle.turn_word.proofs.Places.{got_more, of_caller, of_new}
use Rattle.turn_word.proofs.Shares.{parts}
use Rattle.turn_word.proofs.turn.Turn.new.Goals as goal

pub new-requires : goal.new-requires
new-requires g c =
    let T : Type 0 = g.row.T.Denot in
    let items : c.push_reserved.new.self.items ≡ None ∷ [] = c.push_reserved.ensures.items ∙ ap (λ (l : List (Option T)). l ++ None ∷ []) c.in_ok-slots.ensures.items in
    subst (λ (l : List (Option T)). TurnRule g.T.Kept.goes_on (suc c.args.passes) (opening (0 ∷ 0 ∷ []) l (first_view (suc c.args.passes)))) (sym items) (begins g.T.Kept.goes_on (suc c.args.passes))

pub split_seat-rest-requires : goal.split_seat-rest-requires
split_seat-rest-requires g c =
    let T : Type 0 = g.row.T.Denot in let inv = c.loop-number.invariant in let w = inv.left in
    let v : Known T = c.loop-number.seat.me.0 in let i : ℕ = c.loop-number.number in
    let from : v.from ≡ i = ap (λ (m : Me (Option T) (Known T)). m.0.from) w in let to : v.to ≡ suc c.args.passes = ap (λ (m : Me (Option T) (Known T)). m.0.to) w in
    let there = c.loop-number-test.true in (
      search rules,
      search rules,
      subst (λ (n : ℕ). Splits (TurnRule g.T.Kept.goes_on (suc n)) c.loop-number.seat.id v (the_first v) (but_first v)) (sym (ap (λ (s : Size). s.passes) c.in-Ok.ensures.ok.5))
          (parts g.T.Kept.goes_on (suc c.args.passes) c.loop-number.seat.id v (suc v.from) (omega arith) (omega arith) (ap (λ (m : Me (Option T) (Known T)). m.0.holds) w)),
    )

pub loop-number-preserved : goal.loop-number-preserved
loop-number-preserved g c =
    let T : Type 0 = g.row.T.Denot in let inv = c.loop-number.invariant in let i : ℕ = c.loop-number.number in let z : ℕ = c.args.passes in
    let next : suc i ≡ i + 1 = omega arith in let cut = c.split_seat-rest.ensures in let put = c.push_reserved-in-loop-number.ensures in
    let Is : ℕ → Handle T → Type 0 = λ k p. p ≡ new_pass c.in-Ok.table.shared.table_id z None k in
    record {
      table = cut.3 ∙ inv.table;
      left = cut.4 ∙ ap (λ (m : Me (Option T) (Known T)). (but_first m.0, [])) inv.left ∙ ap (λ (n : ℕ). (left_of z None n, [])) next;
      before = λ k p e. got_more Is c.loop-number.all.items _ inv.before
          ((λ n. handle_of ((cut.0 ∙ inv.table) n) ((cut.2 ∙ ap (λ (m : Me (Option T) (Known T)). (the_first m.0, m.1)) inv.left) n).0) ∙ ap (new_pass c.in-Ok.table.shared.table_id z None) (sym inv.many))
          k p (subst (λ (l : List (Handle T)). slice_get l k ≡ Some p) put.items e);
      many = ap length put.items ∙ length-append c.loop-number.all.items _ ∙ ap (λ (n : ℕ). n + 1) inv.many;
      room = search rules;
    }

pub returns-clause-caller : goal.returns-clause-caller
returns-clause-caller g c =
    let T : Type 0 = g.row.T.Denot in let inv = c.loop-number.invariant in
    let size : c.in-Ok.table.shared.key.passes ≡ c.args.passes = ap (λ (s : Size). s.passes) c.in-Ok.ensures.ok.5 in
    let end = c.loop-number-test.false in let top = c.loop-number.auto.number-end in let all : c.loop-number.number ≡ c.args.passes = omega arith in
    of_caller _ _ None _ inv.table (ap (λ (m : Me (Option T) (Known T)). m.0.from) inv.left ∙ all ∙ sym size) (ap (λ (m : Me (Option T) (Known T)). m.0.opened) inv.left)

pub returns-clause-passes : goal.returns-clause-passes
returns-clause-passes g c =
    let T : Type 0 = g.row.T.Denot in let inv = c.loop-number.invariant in
    let size : c.in-Ok.table.shared.key.passes ≡ c.args.passes = ap (λ (s : Size). s.passes) c.in-Ok.ensures.ok.5 in
    let end = c.loop-number-test.false in let top = c.loop-number.auto.number-end in
    let many : length c.loop-number.all.items ≡ c.in-Ok.table.shared.key.passes = inv.many ∙ (let e : c.loop-number.number ≡ c.args.passes = omega arith in e) ∙ sym size in
    (size, record { some = subst (λ (n : ℕ). 0 < n) (sym size) c.requires; many = many; each = λ i p e. of_new _ _ None i p (inv.before i p e ∙ ap (λ (n : ℕ). new_pass c.in-Ok.table.shared.table_id n None i) (sym size)) })
