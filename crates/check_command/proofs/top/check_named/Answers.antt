use Rattle.std.proofs.Common.{◌≡◌, Err, ap, map}
use Rattle.jack_host.specs.Causes.{Rose}
use Rattle.check_command.proofs.AnswerLemmas.{early-decided, early-decides, early-exact, early-names, put-cut, put-decides, put-exact, put-fault, put-names, put-writes, put-wrong}
use Rattle.check_command.proofs.top.check_named.Goals as goal

-- ---- a verdict was put

pub returns-in-Ok-clause-wrong : goal.returns-in-Ok-clause-wrong
returns-in-Ok-clause-wrong g c =
    put-wrong (map g.G.Guest.sound (map g.G.Guest.score c.args.guests.items)) c.args.names.now (g.H.Host.files c.args.host.now) c.in-Ok.verdict c.put_verdict.result _ _ c.in-Ok.ensures.verdict c.put_verdict.ensures.status

pub returns-in-Ok-clause-decides : goal.returns-in-Ok-clause-decides
returns-in-Ok-clause-decides g c =
    put-decides (map g.G.Guest.sound (map g.G.Guest.score c.args.guests.items)) c.args.names.now (g.H.Host.files c.args.host.now) c.in-Ok.verdict c.put_verdict.result _ _ (Rose (g.H.Host.read_faults c.args.host.now) (g.H.Host.read_faults c.decide.new.host))
    c.wrong_is_unexplained.ensures c.in-Ok.ensures.verdict c.put_verdict.ensures.status

pub returns-in-Ok-clause-names : goal.returns-in-Ok-clause-names
returns-in-Ok-clause-names g c =
    put-names (map g.G.Guest.sound (map g.G.Guest.score c.args.guests.items)) c.args.names.now (g.H.Host.files c.args.host.now) c.in-Ok.verdict c.put_verdict.result _ _ (Rose (g.H.Host.read_faults c.args.host.now) (g.H.Host.read_faults c.decide.new.host))
    c.wrong_is_unexplained.ensures c.one_first_wrong.ensures c.in-Ok.ensures.verdict c.put_verdict.ensures.status

pub returns-in-Ok-clause-fault : goal.returns-in-Ok-clause-fault
returns-in-Ok-clause-fault g c =
    put-fault (map g.G.Guest.sound (map g.G.Guest.score c.args.guests.items)) c.args.names.now (g.H.Host.files c.args.host.now) c.in-Ok.verdict c.put_verdict.result _ _ c.in-Ok.ensures.verdict c.put_verdict.ensures.status

pub returns-in-Ok-clause-write : goal.returns-in-Ok-clause-write
returns-in-Ok-clause-write g c = λ e. (
  put-writes c.in-Ok.verdict c.put_verdict.result _ _ c.put_verdict.ensures.status e,
  put-cut (map g.G.Guest.sound (map g.G.Guest.score c.args.guests.items)) c.args.names.now (g.H.Host.files c.args.host.now) c.in-Ok.verdict _ _ c.in-Ok.ensures.verdict (c.put_verdict.ensures.cut e),
)

pub returns-in-Ok-clause-exact : goal.returns-in-Ok-clause-exact
returns-in-Ok-clause-exact g c = λ status refused none.
    absurd (put-exact (map g.G.Guest.sound (map g.G.Guest.score c.args.guests.items)) c.args.names.now (g.H.Host.files c.args.host.now) c.in-Ok.verdict status c.in-Ok.ensures.verdict refused)

-- ---- there was none

pub returns-in-Err-clause-decides : goal.returns-in-Err-clause-decides
returns-in-Err-clause-decides g c =
    early-decides (map g.G.Guest.sound (map g.G.Guest.score c.args.guests.items)) c.args.names.now (g.H.Host.files c.args.host.now) c.in-Err.status (Rose (g.H.Host.read_faults c.args.host.now) (g.H.Host.read_faults c.decide.new.host)) _
    c.in-Err.ensures.fault (λ e. c.in-Err.ensures.read (ap Err e))

pub returns-in-Err-clause-names : goal.returns-in-Err-clause-names
returns-in-Err-clause-names g c =
    early-names (map g.G.Guest.sound (map g.G.Guest.score c.args.guests.items)) c.args.names.now (g.H.Host.files c.args.host.now) c.in-Err.status (Rose (g.H.Host.read_faults c.args.host.now) (g.H.Host.read_faults c.decide.new.host)) _
    c.in-Err.ensures.fault (λ e. c.in-Err.ensures.read (ap Err e))

pub returns-in-Err-clause-decided : goal.returns-in-Err-clause-decided
returns-in-Err-clause-decided g c = λ has no_read no_put.
    early-decided (map g.G.Guest.sound (map g.G.Guest.score c.args.guests.items)) c.args.names.now (g.H.Host.files c.args.host.now) c.in-Err.status (Rose (g.H.Host.read_faults c.args.host.now) (g.H.Host.read_faults c.decide.new.host))
    c.in-Err.ensures.fault (λ e. c.in-Err.ensures.read (ap Err e)) has no_read

pub returns-in-Err-clause-read : goal.returns-in-Err-clause-read
returns-in-Err-clause-read g c = λ e. c.in-Err.ensures.read (ap Err e)

pub returns-in-Err-clause-exact : goal.returns-in-Err-clause-exact
returns-in-Err-clause-exact g c = λ fault refused none.
    early-exact (map g.G.Guest.sound (map g.G.Guest.score c.args.guests.items)) c.args.names.now (g.H.Host.files c.args.host.now) fault c.in-Err.status (Rose (g.H.Host.read_faults c.args.host.now) (g.H.Host.read_faults c.decide.new.host))
    c.in-Err.ensures.fault (λ e. c.in-Err.ensures.read (ap Err e)) refused none
