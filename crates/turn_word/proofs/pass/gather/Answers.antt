use Rattle.std.proofs.Common.{arith, ◌≡◌, ◌<◌, ℕ, ◌++◌, Bool, true, false, ◌||◌, List, [], get_or, refl, sym, ap, ◌∙◌, subst}
use Rattle.std.specs.Prelude.{Option}
use Rattle.atomic_table.specs.Table.{Me}
use Rattle.turn_word.specs.declared.view.Known.{Known}
use Rattle.turn_word.specs.Turns.{Caller}
use Rattle.turn_word.specs.Handles.{known_by, whole_of}
use Rattle.turn_word.specs.Steps.{cleared, joined}
use Rattle.turn_word.proofs.Calls.{clears}
use Rattle.turn_word.proofs.Shares.{joins}
use Rattle.turn_word.proofs.Places.{if_not_true, left_seen}
use Rattle.turn_word.proofs.pass.gather.Goals as goal

pub join_seat-requires : goal.join_seat-requires
join_seat-requires g c =
    let T : Type 0 = g.row.T.Denot in let all = c.requires.all in let some = all.1.some in
    let w = c.gather_passes-whole.ensures.whole all.0 all.1 in let last = c.caller.invariant ∙ ap (λ (x : Caller T). (known_by x, [])) (c.caller.view_is ∙ c.requires.caller.1) in
    let v : Known T = c.gather_passes-whole.result.me.0 in let u : Known T = c.caller.inside.seat.me.0 in
    let from : v.from ≡ 0 = ap (λ (m : Me (Option T) (Known T)). m.0.from) w in let to : v.to ≡ c.args.words.now.key.passes = ap (λ (m : Me (Option T) (Known T)). m.0.to) w in (
      c.gather_passes-whole.ensures.table,
      ap (λ (x : Caller T). x.table) (c.caller.view_is ∙ c.requires.caller.1),
      ap (λ (m : Me (Option T) (Known T)). m.1) last,
      (let two = c.requires.two in omega arith),
      joins g.T.Kept.goes_on _ _ v _ u (omega arith) (subst (λ (m : Me (Option T) (Known T)). m.0.from < m.0.to) (sym last) (omega arith)) (ap (λ (m : Me (Option T) (Known T)). m.0.from) last ∙ sym to) (ap (λ (m : Me (Option T) (Known T)). m.0.holds) w) (ap (λ (m : Me (Option T) (Known T)). m.0.holds) last),
    )

pub store-requires : goal.store-requires
store-requires g c =
    let T : Type 0 = g.row.T.Denot in let all = c.requires.all in
    let w = c.gather_passes-whole.ensures.whole all.0 all.1 in let last = c.caller.invariant ∙ ap (λ (x : Caller T). (known_by x, [])) (c.caller.view_is ∙ c.requires.caller.1) in
    let both = c.join_seat.ensures.2 in (
      c.join_seat.ensures.0 ∙ c.gather_passes-whole.ensures.table,
      (let two = c.requires.two in omega arith),
      clears g.T.Kept.goes_on _ _ _ _ 0 (
        ap (λ (m : Me (Option T) (Known T)). m.0.from) both ∙ ap (λ (m : Me (Option T) (Known T)). m.0.from) w,
        ap (λ (m : Me (Option T) (Known T)). m.0.to) both ∙ ap (λ (m : Me (Option T) (Known T)). m.0.to) last,
        omega arith,
      )
          (ap (λ (m : Me (Option T) (Known T)). m.0.holds) both ∙ ap (λ (m : Me (Option T) (Known T)). m.0.holds) w) refl,
    )

pub returns-clause-whole : goal.returns-clause-whole
returns-clause-whole g c =
    λ opened all.
    let T : Type 0 = g.row.T.Denot in let z : ℕ = c.args.words.now.key.passes in let seen : List T = c.gather_passes-whole.result.me.0.seen ++ [] in
    let w = c.gather_passes-whole.ensures.whole opened all in let last = c.caller.invariant ∙ ap (λ (x : Caller T). (known_by x, [])) (c.caller.view_is ∙ c.requires.caller.1) in
    let known : c.store.new.seat.me ≡ (whole_of z opened seen, []) = c.store.ensures.2.1 ∙ ap (λ (m : Me (Option T) (Known T)). (cleared m.0, m.1)) (c.join_seat.ensures.2 ∙ (λ k. (joined (w k).0 (last k).0, (w k).1))) in
    known ∙ ap (λ (l : List T). (whole_of z opened l, [])) (sym (ap (λ (m : Me (Option T) (Known T)). m.0.seen) known))

pub returns-clause-seen : goal.returns-clause-seen
returns-clause-seen g c k d low =
    let T : Type 0 = g.row.T.Denot in
    left_seen c.gather_passes-whole.result.me.0.seen c.caller.inside.seat.me.0.seen _ _
    (ap (λ (m : Me (Option T) (Known T)). m.0.seen) c.store.ensures.2.1 ∙ ap (λ (m : Me (Option T) (Known T)). m.0.seen) c.join_seat.ensures.2) (c.gather_passes-whole.ensures.seen k d low)

pub returns-clause-told : goal.returns-clause-told
returns-clause-told g c quiet k d low =
    let T : Type 0 = g.row.T.Denot in let u : Known T = c.caller.inside.seat.me.0 in let both = c.join_seat.ensures.2 in
    if_not_true (get_or c.args.passes.now k d).told
    (λ told. let called = c.store.ensures.2.0 (ap (λ (m : Me (Option T) (Known T)). m.0.told) both ∙ ap (λ (b : Bool). b || u.told) (c.gather_passes-whole.ensures.told k d low told)) in
    let no : true ≡ false = sym called ∙ ap (λ (m : Me (Option T) (Known T)). m.0.called) both ∙ ap (λ (x : Caller T). x.called) c.caller.view_is ∙ quiet in cc)
