use Rattle.std.proofs.Common.{rules}
use Rattle.graph_word.proofs.Publishes.{notes}
use Rattle.graph_word.proofs.publisher.Publisher.cycle_seen.Goals as goal

pub load-requires : goal.load-requires
load-requires g c = let i = c.self.invariant in (search rules, search rules, notes g.P.Numbered.content g.P.Numbered.base _ _ _ c.self.inside.seat.me i.4 i.5)
