use Rattle.script_commands.proofs.ChoosingLemmas.{command-reads}
use Rattle.script_commands.proofs.commands.command.Goals as goal

pub returns : goal.returns
returns c = command-reads c.args.header.now c.args.words.now c.word.new.self c.command_of.new.words c.in_ok-first.first.now c.command_of.result c.in_ok-first.ensures c.command_of.ensures
