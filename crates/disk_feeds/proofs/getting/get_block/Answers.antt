use Rattle.disk_feeds.proofs.OneLemmas.{gets-found, gets-missed}
use Rattle.disk_feeds.proofs.getting.get_block.Goals as goal

pub returns-in-Empty-clause-gets : goal.returns-in-Empty-clause-gets
returns-in-Empty-clause-gets c = gets-missed c.args.cycle c.args.disk c.args.ring.now c.get.new.ring c.in-Empty.sent c.in-Empty.taken c.in-Empty.ensures.gets

pub returns-in_default : goal.returns-in_default
returns-in_default c = record {
  gets = gets-found c.args.cycle c.args.disk c.args.ring.now c.get.new.ring c.get.result c.in_default.not-Empty c.get.ensures.gets;
  feeds = c.get.ensures.feeds;
  few = c.get.ensures.few;
}
