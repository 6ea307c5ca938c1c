-- Inside: the fields of a transport that is stepped by plans, and what stays true of them. No public clause cites this module.
use Rattle.std.specs.Prelude.{◌≡◌, ◌≤◌}
use Rattle.plan_transport.specs.declared.transports.PlanTransport.TheInside.{Inside}

-- the rate is the transport's, and one that a session may have
pub record IsOfSession (t : Inside) : Type 0 where
  pub same : t.rate ≡ t.transport.rate
  pub least : 8000 ≤ t.rate
  pub most : t.rate ≤ 192000
