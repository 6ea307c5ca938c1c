use Rattle.std.proofs.Common.{rules, arith, ◌≡◌, ◌<◌, ◌≤◌, ℕ, suc, ◌+◌, Bool, ◌||◌, [], get_or, slice_get, sym, ap, ◌∙◌, subst, le_refl, length-set, Some}
use Rattle.std.specs.Prelude.{Option}
use Rattle.std.proofs.lemmas.Option.{slice_get-get_or}
use mathlib.Core.Logic.{dite}
use native.Mathlib.Decide.{ℕ_discrete}
use Rattle.atomic_table.specs.Table.{Me}
use Rattle.turn_word.specs.declared.view.Known.{Known}
use Rattle.turn_word.specs.Turns.{Handle, pass_of}
use Rattle.turn_word.specs.Handles.{gathered, known_of}
use Rattle.turn_word.specs.Steps.{joined}
use Rattle.turn_word.proofs.Shares.{joins, or_true}
use Rattle.turn_word.proofs.Places.{got_else, left_seen, own_seen, right_seen, same_Some}
use Rattle.turn_word.proofs.pass.gather_passes.Goals as goal

pub loop-i-init : goal.loop-i-init
loop-i-init g c =
    let T : Type 0 = g.row.T.Denot in let z : ℕ = c.args.words.now.key.passes in
    let p : Handle T = get_or c.args.passes.now 0 c.index-passes-0.result in
    let some = c.requires.all.1.some in let long = c.requires.all.1.many in
    let there : slice_get c.args.passes.now 0 ≡ Some p = slice_get-get_or c.args.passes.now 0 c.index-passes-0.result (omega arith) in
    let lent : c.lend-whole.result.me ≡ (known_of p, []) = c.lend-whole.ensures.1 in
    let one : (k : ℕ) (q : Handle T) → k < 1 → slice_get c.args.passes.now k ≡ Some q → q ≡ p
    = λ k q low e. same_Some q p (sym e ∙ ap (slice_get c.args.passes.now) (let zero : k ≡ 0 = omega arith in zero) ∙ there) in record {
      table = c.lend-whole.ensures.0;
      whole = λ opened all. lent ∙ ap (λ (h : Handle T). (known_of h, [])) (all.each 0 p there) ∙ ap (λ (v : Known T). (gathered z opened 1 v, [])) (sym (ap (λ (m : Me (Option T) (Known T)). m.0) lent));
      sees = λ k q low e. own_seen c.lend-whole.result.me.0.seen q.seen (ap (λ (m : Me (Option T) (Known T)). m.0.seen) lent ∙ sym (ap (λ (h : Handle T). h.seen) (one k q low e)));
      tells = λ k q low e is. ap (λ (m : Me (Option T) (Known T)). m.0.told) lent ∙ sym (ap (λ (h : Handle T). h.told) (one k q low e)) ∙ is;
      behind = λ k q low e. sym (got_else c.args.passes.now 0 k c.lend-whole.new.self (λ (same : k ≡ 0). omega arith)) ∙ e;
      many = length-set c.args.passes.now 0 c.lend-whole.new.self;
    }

pub lend-theirs-requires : goal.lend-theirs-requires
lend-theirs-requires g c =
    let T : Type 0 = g.row.T.Denot in let inv = c.loop-i.invariant in let all = c.requires.all in let i : ℕ = c.loop-i.i in
    let p : Handle T = get_or c.loop-i.passes i c.index-passes-i.result in
    let there : slice_get c.loop-i.passes i ≡ Some p = slice_get-get_or c.loop-i.passes i c.index-passes-i.result (search rules) in
    let is : p ≡ pass_of c.args.words.now.table_id c.args.words.now.key.passes all.0 i p = all.1.each i p (inv.behind i p (le_refl i) there) in
    record { turn = (ap (λ (h : Handle T). h.table) is, c.requires.two); some = subst (λ (h : Handle T). h.from < h.to) (sym is) (omega arith); free = ap (λ (h : Handle T). h.holds) is }

pub join_seat-requires : goal.join_seat-requires
join_seat-requires g c =
    let T : Type 0 = g.row.T.Denot in let inv = c.loop-i.invariant in let all = c.requires.all in let i : ℕ = c.loop-i.i in
    let w = inv.whole all.0 all.1 in let v : Known T = c.loop-i.whole.me.0 in let u : Known T = c.lend-theirs.result.me.0 in
    let to : v.to ≡ i = ap (λ (m : Me (Option T) (Known T)). m.0.to) w in let from : v.from ≡ 0 = ap (λ (m : Me (Option T) (Known T)). m.0.from) w in
    let first : 1 ≤ i = c.loop-i.auto.i in
    let p : Handle T = get_or c.loop-i.passes i c.index-passes-i.result in
    let there : slice_get c.loop-i.passes i ≡ Some p = slice_get-get_or c.loop-i.passes i c.index-passes-i.result (search rules) in
    let is : p ≡ pass_of c.args.words.now.table_id c.args.words.now.key.passes all.0 i p = all.1.each i p (inv.behind i p (le_refl i) there) in
    let theirs : c.lend-theirs.result.me ≡ (known_of (pass_of c.args.words.now.table_id c.args.words.now.key.passes all.0 i p), []) = c.lend-theirs.ensures.1 ∙ ap (λ (h : Handle T). (known_of h, [])) is in (
      search rules,
      search rules,
      ap (λ (m : Me (Option T) (Known T)). m.1) theirs,
      search rules,
      joins g.T.Kept.goes_on _ _ v _ u (omega arith) (subst (λ (m : Me (Option T) (Known T)). m.0.from < m.0.to) (sym theirs) (omega arith)) (ap (λ (m : Me (Option T) (Known T)). m.0.from) theirs ∙ sym to) (ap (λ (m : Me (Option T) (Known T)). m.0.holds) w) (ap (λ (m : Me (Option T) (Known T)). m.0.holds) theirs),
    )

pub loop-i-preserved : goal.loop-i-preserved
loop-i-preserved g c =
    let T : Type 0 = g.row.T.Denot in let inv = c.loop-i.invariant in let i : ℕ = c.loop-i.i in let z : ℕ = c.args.words.now.key.passes in
    let v : Known T = c.loop-i.whole.me.0 in let u : Known T = c.lend-theirs.result.me.0 in
    let p : Handle T = get_or c.loop-i.passes i c.index-passes-i.result in
    let there : slice_get c.loop-i.passes i ≡ Some p = slice_get-get_or c.loop-i.passes i c.index-passes-i.result (search rules) in
    let known : c.lend-theirs.result.me ≡ (known_of p, []) = c.lend-theirs.ensures.1 in let both = c.join_seat.ensures.2 in
    let one : (k : ℕ) (q : Handle T) → k ≡ i → slice_get c.args.passes.now k ≡ Some q → q ≡ p
    = λ k q here e. same_Some q p (sym e ∙ ap (slice_get c.args.passes.now) here ∙ inv.behind i p (le_refl i) there) in record {
      table = c.join_seat.ensures.0 ∙ inv.table;
      whole = λ opened all.
          let is = all.each i p (inv.behind i p (le_refl i) there) in let w = inv.whole opened all in
          let theirs = known ∙ ap (λ (h : Handle T). (known_of h, [])) is in
          both ∙ (λ k. (record (joined v u) { from = (w k).0.from; to = (theirs k).0.to; passes = (w k).0.passes; opened = (w k).0.opened; holds = (w k).0.holds }, (w k).1))
          ∙ ap (λ (n : ℕ). (gathered z opened n (joined v u), [])) (let e : suc i ≡ i + 1 = omega arith in e)
          ∙ ap (λ (x : Known T). (gathered z opened (i + 1) x, [])) (sym (ap (λ (m : Me (Option T) (Known T)). m.0) both));
      sees = λ k q low e. dite (ℕ_discrete k i)
          (λ (here : k ≡ i). right_seen v.seen u.seen _ q.seen (ap (λ (m : Me (Option T) (Known T)). m.0.seen) both) (ap (λ (h : Handle T). h.seen) (one k q here e) ∙ sym (ap (λ (m : Me (Option T) (Known T)). m.0.seen) known)))
          (λ away. left_seen v.seen u.seen _ q.seen (ap (λ (m : Me (Option T) (Known T)). m.0.seen) both) (inv.sees k q (omega arith) e));
      tells = λ k q low e is. ap (λ (m : Me (Option T) (Known T)). m.0.told) both ∙ dite (ℕ_discrete k i)
          (λ (here : k ≡ i). ap (λ (b : Bool). v.told || b) (ap (λ (m : Me (Option T) (Known T)). m.0.told) known ∙ sym (ap (λ (h : Handle T). h.told) (one k q here e)) ∙ is) ∙ or_true v.told)
          (λ away. ap (λ (b : Bool). b || u.told) (inv.tells k q (omega arith) e is));
      behind = λ k q low e. inv.behind k q (omega arith) (sym (got_else c.loop-i.passes i k c.lend-theirs.new.self (λ (same : k ≡ i). omega arith)) ∙ e);
      many = length-set c.loop-i.passes i c.lend-theirs.new.self ∙ inv.many;
    }

pub returns-clause-whole : goal.returns-clause-whole
returns-clause-whole g c =
    λ opened all.
    let inv = c.loop-i.invariant in let end : c.loop-i.i ≡ c.args.words.now.key.passes =
    (let many = all.many in let some = all.some in let long = length-set c.args.passes.now 0 c.lend-whole.new.self in let top = c.loop-i.auto.i-end (omega arith) in let low = c.loop-i-test.false in omega arith) in
    inv.whole opened all ∙ ap (λ (n : ℕ). (gathered c.args.words.now.key.passes opened n c.loop-i.whole.me.0, [])) end

pub returns-clause-seen : goal.returns-clause-seen
returns-clause-seen g c k d low =
    let inv = c.loop-i.invariant in let all = c.requires.all.1 in let many = all.many in let some = all.some in
    let long = length-set c.args.passes.now 0 c.lend-whole.new.self in let top = c.loop-i.auto.i-end (omega arith) in let last = c.loop-i-test.false in
    inv.sees k (get_or c.args.passes.now k d) (omega arith) (slice_get-get_or c.args.passes.now k d low)

pub returns-clause-told : goal.returns-clause-told
returns-clause-told g c k d low =
    let inv = c.loop-i.invariant in let all = c.requires.all.1 in let many = all.many in let some = all.some in
    let long = length-set c.args.passes.now 0 c.lend-whole.new.self in let top = c.loop-i.auto.i-end (omega arith) in let last = c.loop-i-test.false in
    inv.tells k (get_or c.args.passes.now k d) (omega arith) (slice_get-get_or c.args.passes.now k d low)
