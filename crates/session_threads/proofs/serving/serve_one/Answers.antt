use Rattle.session_threads.proofs.ServeLemmas.{served-by}
use Rattle.session_threads.proofs.serving.serve_one.Goals as goal

pub returns : goal.returns
returns g c = served-by c.serve.result c.args.recorder.now c.serve.new.self c.requires.tape c.requires.there c.serve.ensures.served c.serve.ensures.broken c.serve.ensures.cause

pub serve-requires-clause-file : goal.serve-requires-clause-file
serve-requires-clause-file g c κs within = (c.requires.tape, c.requires.there, c.requires.may)
