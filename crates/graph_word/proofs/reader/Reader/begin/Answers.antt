use Rattle.std.proofs.Common.{rules, sym, subst, ◌<◌}
use Rattle.graph_word.specs.Publications.{Reading, last_row}
use Rattle.graph_word.proofs.Taking.{begins}
use Rattle.graph_word.proofs.reader.Reader.begin.Goals as goal

pub store-requires : goal.store-requires
store-requires g c = let i = c.self.invariant in let P : Type 0 = g.row.P.Denot in
    (search rules, search rules, begins g.P.Numbered.content g.P.Numbered.base _ _ _ c.self.inside.hold.seat.me _ i.reads i.alone (subst (λ (u : Reading × P). last_row u.0.rows < c.args.cycle) (sym c.self.view_is) c.requires) (search rules))
