use Rattle.std.proofs.Common.{sym}
use Rattle.std.proofs.lemmas.List.{get_or-set_same}
use Rattle.driver_words.specs.Feeding.{no_ring}
use Rattle.session_works.proofs.DiskLemmas.{told-one}
use Rattle.session_works.proofs.reading.tell_one.Goals as goal

pub returns-clause-told : goal.returns-clause-told
returns-clause-told g c most =
    told-one most c.args.reader.now c.tell.new.self _ _ c.disk_consumer.result.now c.tell.new.consumer c.disk_consumer.ensures.value
    (sym (get_or-set_same c.args.driver.now.disks.disks c.args.disk c.tell.new.consumer no_ring c.requires.there)) c.tell.ensures.pair c.tell.ensures.tells
