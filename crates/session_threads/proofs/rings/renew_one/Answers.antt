use Rattle.std.proofs.Common.{set, sym}
use Rattle.std.proofs.lemmas.List.{get_or-set_same}
use Rattle.recorder_rings.specs.Sending.{no_ring, ring_at}
use Rattle.session_threads.proofs.RenewLemmas.{renews-at}
use Rattle.session_threads.proofs.rings.renew_one.Goals as goal

pub returns-clause-renews : goal.returns-clause-renews
returns-clause-renews g c =
    renews-at (ring_at c.args.driver.now.rings c.args.place) c.producer.result.now c.renew.new.producer (ring_at (record c.args.driver.now.rings { rings = set c.args.driver.now.rings.rings c.args.place c.renew.new.producer }) c.args.place) c.args.recorder.now.getting c.renew.new.self.getting c.producer.ensures.value
    (sym (get_or-set_same c.args.driver.now.rings.rings c.args.place c.renew.new.producer no_ring c.requires.there)) c.renew.ensures.renews
