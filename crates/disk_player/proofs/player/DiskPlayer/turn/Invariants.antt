use Rattle.std.proofs.Common.{◌≡◌}
use Rattle.disk_player.specs.Insides.{LooksAhead}
use Rattle.disk_player.specs.Playing.{Playing}
use Rattle.disk_player.specs.Turning.{IsReady, PutsOn}
use Rattle.disk_player.proofs.player.DiskPlayer.turn.Given as goal

abbrev pub invariant-loop-count : goal.invariant-loop-count
invariant-loop-count g l = record {
  on : (before : Playing) → LooksAhead before l.initial.self → PutsOn l.count before l.self;
  ready : IsReady l.self;
  faults : l.self.faults ≡ l.initial.self.faults;
}
