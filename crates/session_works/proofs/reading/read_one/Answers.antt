use Rattle.std.proofs.Common.{rules, sym}
use Rattle.std.proofs.lemmas.List.{get_or-set_same}
use Rattle.driver_words.specs.Feeding.{no_ring}
use Rattle.session_works.proofs.DiskLemmas.{read-one}
use Rattle.session_works.proofs.reading.read_one.Goals as goal

pub returns-clause-read : goal.returns-clause-read
returns-clause-read g c =
    read-one c.args.most c.args.reader.now c.read_ahead-read.new.self _ _ c.disk_consumer.result.now c.read_ahead-read.new.consumer c.disk_consumer.ensures.value
    (sym (get_or-set_same c.args.driver.now.disks.disks c.args.disk c.read_ahead-read.new.consumer no_ring c.requires.there)) c.read_ahead-read.ensures.pair c.read_ahead-read.result c.read_ahead-read.ensures.ok c.read_ahead-read.ensures.err
    c.read_ahead-read.ensures.cause c.requires.going c.read_ahead-read.ensures.failed c.is_ok.result (search rules)
