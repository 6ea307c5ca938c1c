-- The fields of a transport, and what stays true of them.
use Rattle.std.specs.Prelude.{ℕ, ◌+◌, ◌≤◌}
use Rattle.std.specs.Option.{ForSome}
use Rattle.session_model.specs.Transport.{Row}
use Rattle.transport.specs.Standings.{Standing}
use Rattle.transport.specs.declared.stepping.Transport.TheInside.{Inside}

-- what a caller sees
abbrev pub standing : Inside → Standing
standing t = record {
  rate = t.rate;
  cycles = t.cycles;
  frames = t.frames;
  row = record { state = t.state; frame = t.frame; wait = t.wait; target = t.target; period = t.period };
}

-- the numbers stay small enough for the next step: a frame is at most a target and the frames since
pub record IsWithin (t : Inside) : Type 0 where
  pub least_rate : 8000 ≤ t.rate
  pub most_rate : t.rate ≤ 192000
  pub cycles : t.cycles ≤ 1000000
  pub frames : t.frames ≤ 500000000
  pub wait : t.wait ≤ t.cycles
  pub frame : t.frame + t.period ≤ 2147483647 + t.frames
  pub target : ForSome t.target (λ target. target ≤ 2147483647)
