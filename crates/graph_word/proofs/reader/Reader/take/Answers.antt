use Rattle.std.proofs.Common.{rules, arith, ◌≡◌, ◌/◌, sym, subst, ℕ, length}
use Rattle.std.specs.Prelude.{Option}
use Rattle.atomic_table.specs.Seated.{TableId}
use Rattle.atomic_table.specs.Table.{Me}
use Rattle.graph_word.specs.declared.view.ReaderView.{ReaderView}
use Rattle.graph_word.specs.declared.view.SeatView.{SeatView}
use Rattle.graph_word.specs.Ends.{reading_of}
use Rattle.graph_word.specs.Publications.{Reading, Takes}
use Rattle.graph_word.specs.Steps.{Exchanges, ahead_after}
use Rattle.graph_word.proofs.Taking.{sees, took}
use Rattle.graph_word.proofs.reader.Reader.take.Goals as goal

pub load-found-requires : goal.load-found-requires
load-found-requires g c = let i = c.self.invariant in (search rules, search rules, sees g.P.Numbered.content g.P.Numbered.base _ _ _ c.self.inside.hold.seat.me i.reads i.alone)

pub returns : goal.returns
returns g c =
    let r = c.self.inside.hold in let e : ReaderView = r.seat.me.0.reader in let P : Type 0 = g.row.P.Denot in let w : ℕ = c.load-found.result / 4 in let n : ℕ = c.replace_with.result in
    let count : r.number ≡ length e.held = c.self.invariant.number in let above = c.if-found-self.false in let looked = c.load-found.ensures.2.0 (omega arith) in
    let after : ReaderView = c.replace_with.new.dest.seat.me.0.reader in let brought : Exchanges c.load-found.new.seat.me.0.reader n after = search rules in
    let came : Exchanges (ahead_after e w) n after = subst (λ (m : Me (Option P) SeatView). Exchanges m.0.reader n after) looked brought in
    let tables : c.replace_with.new.dest.seat.table_id ≡ r.seat.table_id = search rules in
    subst (λ (u : (Reading × P) × TableId × ReaderView). Takes u.0.0 n (reading_of u.1 u.2)) (λ j. (c.self.view_is j, sym tables j, sym came.after_is j)) (took r.seat.table_id e w came.found n came.content (omega arith) came.number_is came.long came.least came.front)
