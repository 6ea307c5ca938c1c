use Rattle.std.proofs.Common.{rules, ◌≤◌, ◌≡◌, ◌∷◌, ap, sym, ◌∙◌, subst, ℕ, List, length, ◌*◌, ◌+◌, ◌/◌, ◌%◌}
use Rattle.std.specs.Prelude.{Option, Some}
use mathlib.Core.Option.{none}
use Rattle.atomic_table.specs.Table.{Me, Allows, step, rest}
use Rattle.graph_word.specs.declared.plans.Base.{Base}
use Rattle.graph_word.specs.declared.view.SeatView.{SeatView}
use Rattle.graph_word.specs.Rule.{PublicationRule}
use Rattle.graph_word.specs.Publications.{IsFront}
use Rattle.graph_word.specs.Steps.{Swapped, swap_after}
use Rattle.graph_word.proofs.Taking.{swaps}
use Rattle.graph_word.proofs.reader.swapped.Goals as goal

pub swap-found-requires : goal.swap-found-requires
swap-found-requires g c =
    let r = c.args.hold in let i = c.requires.stands in let v : SeatView = r.seat.me.0 in let P : Type 0 = g.row.P.Denot in let n : ℕ = c.args.words.now.table_id.slots in
    let content = g.P.Numbered.content in let base_of = g.P.Numbered.base in let z : Base = base_of c.args.words.now.key in
    let new : ℕ = r.number * 4 + r.place in let count : r.number ≡ length v.reader.held = i.number in
    let now = c.exchange.ensures.3 ∙ ap (λ (l : List (ℕ × Option P)). (v, (r.place, Some r.plan) ∷ rest l)) i.slot_out in (
      search rules,
      search rules,
      subst (λ (m : Me (Option P) SeatView). Allows (PublicationRule content base_of z) n c.exchange.new.seat.id m 0 (λ _. new) (Swapped content base_of (step n 0 new 0 none) m)) (sym now)
          (swaps content base_of z n c.exchange.new.seat.id v r.place new r.plan i.reads i.alone i.holds i.place i.content i.base (ap (λ (q : ℕ). q * 4 + r.place) count) c.requires.newer),
    )

pub exchange-requires-2 : goal.exchange-requires-2
exchange-requires-2 g c = let did = c.swap-found.ensures.2.3 in let e = ap (λ (m : Me (Option g.row.P.Denot) SeatView). m.1) did.4 in
    (search rules, (Some did.0, e ∙ ap (λ (l : List (ℕ × Option g.row.P.Denot)). (c.swap-found.result % 4, Some did.0) ∷ rest l) (sym e)))

pub returns-clause-swaps : goal.returns-clause-swaps
returns-clause-swaps g c =
    let r = c.args.hold in let v : SeatView = r.seat.me.0 in let P : Type 0 = g.row.P.Denot in let content = g.P.Numbered.content in
    let f : ℕ = c.swap-found.result in let n : ℕ = c.number-number.result in
    let now : c.exchange.new.seat.me.0 ≡ v = ap (λ (m : Me (Option P) SeatView). m.0) c.exchange.ensures.3 in
    let did = c.swap-found.ensures.2.3 in let x : P = did.0 in record {
      found = f;
      content = content x;
      number_is = search rules;
      long = did.3;
      least = subst (λ (u : SeatView). u.reader.least ≤ f / 4) now c.swap-found.ensures.2.1;
      front = subst (λ (u : SeatView). IsFront u.reader.held (content x)) now did.2;
      after_is = ap (λ (m : Me (Option P) SeatView). m.0.reader) c.exchange-2.ensures.3 ∙ (ap (λ (m : Me (Option P) SeatView). m.0.reader) did.4 ∙ ap (λ (u : SeatView). swap_after u.reader f (content x)) now);
    }
