-- A deque, and who may take from it.
--     SameDeque old new      they are one deque
--     LeadsTo stealer deque      what the stealer steals leaves this deque
--     IsPassOn deque pass, IsPassFor stealer pass      the pass is of this deque, and has one part
--     tally_of deque      what its owner knows of it
use Rattle.std.specs.Prelude.{◌≡◌, ℕ}
use Rattle.std.specs.Global.{Global}
use Rattle.crossbeam_deque.specs.Handles.{Pass, view, IsPassOf, worker_deque, stealer_deque, worker_view}
use Rattle.steal_workers.specs.declared.tallies.Tally.{Tally}
use Rattle.steal_workers.specs.declared.ends.Deque.{Deque}
use Rattle.steal_workers.specs.declared.ends.Stealer.{Stealer}

abbrev pub tally_of : Deque → Tally
tally_of d = worker_view d.worker

abbrev pub SameDeque : Deque → Deque → Type 0
SameDeque old new = worker_deque new.worker ≡ worker_deque old.worker

abbrev pub LeadsTo : Stealer → Deque → Type 0
LeadsTo s d = stealer_deque s.stealer ≡ worker_deque d.worker

abbrev pub IsPassOn : Deque → Pass ℕ Tally Global → Type 0
IsPassOn d pass = IsPassOf (worker_deque d.worker) pass × ((view pass).parts ≡ 1)

abbrev pub IsPassFor : Stealer → Pass ℕ Tally Global → Type 0
IsPassFor s pass = IsPassOf (stealer_deque s.stealer) pass × ((view pass).parts ≡ 1)
