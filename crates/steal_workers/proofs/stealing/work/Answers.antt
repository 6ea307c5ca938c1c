use Rattle.std.proofs.Common.{refl, ◌∙◌}
use Rattle.steal_workers.specs.Places.{thief_of}
use Rattle.steal_workers.proofs.Offered.{deque_stays}
use Rattle.steal_workers.proofs.stealing.work.Goals as goal

pub find-requires-clause-passes : goal.find-requires-clause-passes
find-requires-clause-passes g c = (c.loop.invariant.behind c.requires.ready.thief c.requires.ready.there).passes

pub returns-in_default-find : goal.returns-in_default-find
returns-in_default-find g c =
    let i = c.loop.invariant in record {
      thief = thief_of c.loop.seat c.find.new.passes;
      there = refl;
      deque = deque_stays c.args.place.now.deque c.loop.deque c.find.new.deque i.deque c.find.ensures.deque;
      behind = λ before is. let b = i.behind before is in record { number = b.number; sits = b.sits; links_stay = b.links_stay; before_stays = b.before_stays; started_stay = b.started_stay; none_held = b.none_held; left = b.left; passes = c.find.ensures.passes; room = c.find.ensures.room ∙ b.room };
    }

pub returns : goal.returns
returns g c =
    let i = c.loop.invariant in record {
      thief = thief_of c.loop.seat c.loop.passes;
      there = refl;
      deque = i.deque;
      behind = i.behind;
    }
