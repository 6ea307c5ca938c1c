use Rattle.session_script.proofs.WholeLemmas.{front-faulty-at}
use Rattle.session_script.proofs.reading.read_lines.Goals as goal

pub returns-in-Err : goal.returns-in-Err
returns-in-Err c = λ not. front-faulty-at c.args.bytes.now c.of-lines.result c.in-Err.fault c.of-lines.ensures (c.in-Err.ensures.gives not)
