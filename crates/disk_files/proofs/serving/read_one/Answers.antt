use Rattle.disk_files.proofs.ReadLemmas.{read-by}
use Rattle.disk_files.proofs.serving.read_one.Goals as goal

pub returns : goal.returns
returns g c = read-by c.read_on.result c.args.reader.now c.read_on.new.self c.read_on.ensures.ok c.read_on.ensures.err c.read_on.ensures.cause
