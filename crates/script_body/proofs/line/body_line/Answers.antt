use Rattle.script_body.proofs.StandingLemmas.{line-read}
use Rattle.script_body.proofs.line.body_line.Goals as goal

pub returns-clause-gives : goal.returns-clause-gives
returns-clause-gives c = line-read c.args.header.now c.args.standing.now c.args.words.now c.word.new.self c.line_at.new.words c.in_ok-first.first.now c.line_at.result c.in_ok-first.ensures c.line_at.ensures.gives
