use Rattle.session_model.specs.State.{opening}
use Rattle.session_laws.proofs.LoopFreeLemmas.{HasNoLoop-opening, HasNoLoop-replay}
use Rattle.session_laws.proofs.loops.direct_edges_form_no_loop.Goals as goal

pub returns : goal.returns
returns c = λ capture playback changes. HasNoLoop-replay (opening capture playback) changes (HasNoLoop-opening capture playback)
