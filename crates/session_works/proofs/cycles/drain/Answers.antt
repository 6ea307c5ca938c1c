use Rattle.session_works.proofs.cycles.drain.Goals as goal

pub returns-in-Err-clause-write : goal.returns-in-Err-clause-write
returns-in-Err-clause-write g c desk is = c.in-Err.ensures.cause desk
