use Rattle.script_words.proofs.HexLemmas.{event-none}
use Rattle.script_words.proofs.hexed.event_of.Goals as goal

pub returns-in_default : goal.returns-in_default
returns-in_default c = event-none c.args.word.now (λ bytes e. c.in_default.ensures.none bytes e)
