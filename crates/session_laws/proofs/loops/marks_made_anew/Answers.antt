use Rattle.session_laws.proofs.RemarkLemmas.{AllClose-remark, remark-remark}
use Rattle.session_laws.proofs.loops.marks_made_anew.Goals as goal

pub returns : goal.returns
returns c = record { closes = AllClose-remark; again = remark-remark }
