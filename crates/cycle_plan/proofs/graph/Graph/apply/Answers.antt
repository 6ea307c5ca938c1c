use Rattle.cycle_plan.proofs.graph.Graph.apply.Goals as goal

pub returns-in-Close : goal.returns-in-Close
returns-in-Close c = let done = c.close.ensures c.args.number in rw c.in-Close.is (record { answer = done.answer; after = done.effect; same = done.same })

pub returns-in-Activate : goal.returns-in-Activate
returns-in-Activate c = let done = c.activate.ensures c.args.number in rw c.in-Activate.is (record { answer = done.answer; after = done.effect; same = done.same })

pub returns-in-Deactivate : goal.returns-in-Deactivate
returns-in-Deactivate c = let done = c.deactivate.ensures c.args.number in rw c.in-Deactivate.is (record { answer = done.answer; after = done.effect; same = done.same })

pub returns-in-Register : goal.returns-in-Register
returns-in-Register c = let done = c.register.ensures in rw c.in-Register.is (record { answer = done.answer; after = done.effect; same = done.same })

pub returns-in-Unregister : goal.returns-in-Unregister
returns-in-Unregister c = let done = c.unregister.ensures c.args.number in rw c.in-Unregister.is (record { answer = done.answer; after = done.effect; same = done.same })

pub returns-in-Connect : goal.returns-in-Connect
returns-in-Connect c = let done = c.connect.ensures c.args.number in rw c.in-Connect.is (record { answer = done.answer; after = done.effect; same = done.same })

pub returns-in-Disconnect : goal.returns-in-Disconnect
returns-in-Disconnect c = let done = c.disconnect.ensures c.args.number in rw c.in-Disconnect.is (record { answer = done.answer; after = done.effect; same = done.same })

pub returns-in-Timeout : goal.returns-in-Timeout
returns-in-Timeout c = let done = c.set_timeout.ensures c.args.number in rw c.in-Timeout.is (record { answer = done.answer; after = done.effect; same = done.same })

pub returns-in-Slow : goal.returns-in-Slow
returns-in-Slow c = let done = c.slow.ensures c.args.number in rw c.in-Slow.is (record { answer = done.answer; after = done.effect; same = done.same })

pub returns-in-Timebase : goal.returns-in-Timebase
returns-in-Timebase c = let done = c.lead.ensures c.args.number in rw c.in-Timebase.is (record { answer = done.answer; after = done.effect; same = done.same })

pub returns-in-TimebaseIf : goal.returns-in-TimebaseIf
returns-in-TimebaseIf c = let done = c.lead_if_free.ensures c.args.number in rw c.in-TimebaseIf.is (record { answer = done.answer; after = done.effect; same = done.same })

pub returns-in-Release : goal.returns-in-Release
returns-in-Release c = let done = c.release.ensures c.args.number in rw c.in-Release.is (record { answer = done.answer; after = done.effect; same = done.same })
