use Rattle.script_header.proofs.HeaderLemmas.{workers-read}
use Rattle.script_header.proofs.words.workers.Goals as goal

pub returns : goal.returns
returns c = workers-read c.args.version c.args.words.now c.word.new.self c.workers_of.new.words c.in_ok-first.first.now c.workers_of.result c.in_ok-first.ensures c.workers_of.ensures
