use Rattle.script_commands.proofs.ChoosingLemmas.{kind-reads}
use Rattle.script_commands.proofs.kinds.kind.Goals as goal

pub returns : goal.returns
returns c = kind-reads c.args.header.now c.args.words.now c.word.new.self c.kind_of.new.words c.in_ok-first.first.now c.kind_of.result c.in_ok-first.ensures c.kind_of.ensures
