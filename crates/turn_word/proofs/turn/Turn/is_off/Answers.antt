use Rattle.std.proofs.Common.{rules, arith, ◌≡◌, false, sym, subst}
use Rattle.turn_word.specs.Turns.{Handle}
use Rattle.turn_word.proofs.Calls.{asks}
use Rattle.turn_word.proofs.turn.Turn.is_off.Goals as goal

pub load-requires : goal.load-requires
load-requires g c = (search rules, (let two = c.self.invariant.0 in omega arith), asks g.T.Kept.goes_on _ _ _ c.pass.inside.seat.me (subst (λ (h : Handle g.row.T.Denot). h.holds ≡ false) (sym c.pass.view_is) c.requires.free))
