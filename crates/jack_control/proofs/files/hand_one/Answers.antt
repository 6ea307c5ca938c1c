use Rattle.jack_control.proofs.FileLemmas.{part-handed}
use Rattle.jack_control.proofs.files.hand_one.Goals as goal

pub returns-then-wanted-clause-part : goal.returns-then-wanted-clause-part
returns-then-wanted-clause-part g c =
    part-handed c.done.result (g.H.Host.files c.args.host.now) (g.H.Host.files c.done.new.self) (g.H.Out.Store.name c.args.store) (g.H.Out.Store.content c.args.store) c.done.ensures.bytes c.done.ensures.part
