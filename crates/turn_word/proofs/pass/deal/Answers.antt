use Rattle.std.proofs.Common.{rules, arith, ◌≡◌, ℕ, suc, ◌+◌, [], set, slice_get, sym, ap, ◌∙◌, subst, length-set, Some}
use Rattle.std.specs.Prelude.{Option}
use Rattle.std.proofs.lemmas.Option.{slice_get_within}
use mathlib.Core.Logic.{dite}
use native.Mathlib.Decide.{ℕ_discrete}
use Rattle.atomic_table.specs.Table.{Me}
use Rattle.turn_word.specs.declared.view.Known.{Known}
use Rattle.turn_word.specs.Handles.{caller_of, handle_of, known_by, left_of, new_pass}
use Rattle.turn_word.specs.Steps.{the_first, but_first}
use Rattle.turn_word.proofs.Shares.{parts}
use Rattle.turn_word.proofs.Places.{got_here, got_else, of_new}
use Rattle.turn_word.proofs.pass.deal.Goals as goal

pub split_seat-rest-requires : goal.split_seat-rest-requires
split_seat-rest-requires g c =
    let T : Type 0 = g.row.T.Denot in let inv = c.loop-i.invariant in let is = c.requires.whole.1 in let w = inv.whole is.0 is.1 in
    let v : Known T = c.loop-i.whole.me.0 in let i : ℕ = c.loop-i.i in let z : ℕ = c.args.words.now.key.passes in
    let from : v.from ≡ i = ap (λ (m : Me (Option T) (Known T)). m.0.from) w in let to : v.to ≡ suc z = ap (λ (m : Me (Option T) (Known T)). m.0.to) w in
    let there = c.loop-i-test.true in let many = inv.many in let few = c.requires.some.1 in let same = c.loop-i.auto.passes in
    (search rules, search rules, parts g.T.Kept.goes_on _ _ v (suc v.from) (omega arith) (omega arith) (ap (λ (m : Me (Option T) (Known T)). m.0.holds) w))

pub put-requires : goal.put-requires
put-requires g c =
    let T : Type 0 = g.row.T.Denot in let is = c.requires.whole.1 in let w = c.loop-i.invariant.whole is.0 is.1 in let cut = c.split_seat-rest.ensures.2 in
    (ap (λ (m : Me (Option T) (Known T)). m.1) cut ∙ ap (λ (m : Me (Option T) (Known T)). m.1) w, ap (λ (m : Me (Option T) (Known T)). m.0.holds) cut ∙ ap (λ (m : Me (Option T) (Known T)). m.0.holds) w)

pub loop-i-preserved : goal.loop-i-preserved
loop-i-preserved g c =
    let T : Type 0 = g.row.T.Denot in let inv = c.loop-i.invariant in let i : ℕ = c.loop-i.i in let z : ℕ = c.args.words.now.key.passes in
    let next : suc i ≡ i + 1 = omega arith in let cut = c.split_seat-rest.ensures in record {
      table = cut.3 ∙ inv.table;
      whole = λ opened is. cut.4 ∙ ap (λ (m : Me (Option T) (Known T)). (but_first m.0, [])) (inv.whole opened is) ∙ ap (λ (n : ℕ). (left_of z opened n, [])) next;
      before = λ opened is k q low e. dite (ℕ_discrete k i)
          (λ (here : k ≡ i).
          let now : slice_get (set c.loop-i.passes i c.put.new.self) i ≡ Some q = subst (λ (n : ℕ). slice_get (set c.loop-i.passes i c.put.new.self) n ≡ Some q) here e in
          got_here c.loop-i.passes i c.put.new.self q now ∙ c.put.ensures ∙ (λ n. handle_of ((cut.0 ∙ inv.table) n) ((cut.2 ∙ ap (λ (m : Me (Option T) (Known T)). (the_first m.0, m.1)) (inv.whole opened is)) n).0)
          ∙ ap (new_pass c.args.words.now.table_id z opened) (sym here))
          (λ away. inv.before opened is k q (omega arith) (sym (got_else c.loop-i.passes i k c.put.new.self away) ∙ e));
      many = length-set c.loop-i.passes i c.put.new.self ∙ inv.many;
    }

pub invariant_of-result : goal.invariant_of-result
invariant_of-result g c =
    let T : Type 0 = g.row.T.Denot in let z : ℕ = c.args.words.now.key.passes in let inv = c.loop-i.invariant in let is = c.requires.whole.1 in
    let end : c.loop-i.i ≡ z = (let top = c.loop-i-test.false in let same = c.loop-i.auto.passes in let many = inv.many in let few = c.requires.some.1 in let low = c.loop-i.auto.i-end in omega arith) in
    let w = inv.whole is.0 is.1 ∙ ap (λ (n : ℕ). (left_of z is.0 n, [])) end in
    w ∙ ap (λ (m : Me (Option T) (Known T)). (known_by (caller_of c.loop-i.whole.table_id m.0), [])) (sym w)

pub returns-clause-caller : goal.returns-clause-caller
returns-clause-caller g c =
    λ opened is.
    let z : ℕ = c.args.words.now.key.passes in let inv = c.loop-i.invariant in
    let end : c.loop-i.i ≡ z = (let top = c.loop-i-test.false in let same = c.loop-i.auto.passes in let many = inv.many in let few = c.requires.some.1 in let low = c.loop-i.auto.i-end in omega arith) in
    (λ k. caller_of (inv.table k) ((inv.whole opened is ∙ ap (λ (n : ℕ). (left_of z opened n, [])) end) k).0)

pub returns-clause-passes : goal.returns-clause-passes
returns-clause-passes g c =
    λ opened is. let inv = c.loop-i.invariant in let end = c.loop-i-test.false in let same = c.loop-i.auto.passes in record {
      some = c.requires.some.0;
      many = inv.many ∙ c.requires.some.1;
      each = λ k q e. let low = slice_get_within c.loop-i.passes k q e in of_new _ _ opened k q (inv.before opened is k q (omega arith) e);
    }
