-- From a cycle in the driver's own terms to one that keeps every course.
--     CyclesOnce-own      a whole cycle
--     FailsAtWrite-own      one that failed at the playback
use Rattle.std.proofs.Common.{◌≡◌, ◌+◌, ◌*◌, true, List, drop, ℤ, Some, subst}
use Rattle.record_ring.specs.session_model.specs.Courses.{Course, frames_before}
use Rattle.driver_laws.specs.Drivers.{Driver, run, graph_now}
use Rattle.driver_laws.specs.Keeping.{Fits, Keeps}
use Rattle.driver_laws.specs.Cycling.{CyclesOnce, FailsAtWrite, StepsOnce, WritesOnce, Written, WrittenFront}
use Rattle.driver_laws.specs.Playing.{PlaysOwn, played_now}
use Rattle.driver_laws.proofs.OwnLemmas.{PlaysOnce-own, played-now}
use Rattle.driver_laws.proofs.StepLemmas.{Keeps-next, KeepsBut-next}
use Rattle.driver_laws.proofs.TapeLemmas.{IsOneOfEach}

module _ (driver after : Driver) (steps : StepsOnce driver after) (one : IsOneOfEach (graph_now after)) where
  -- what the capture has left by a course
  abbrev left_by : Course → List ℤ
  left_by course = drop (frames_before course (run driver + 1) * course.script.header.capture) course.capture

  pub CyclesOnce-own : WritesOnce driver after → ((left : List ℤ) (course : Course) → Fits after course → Keeps driver course → driver.left ≡ Some left → PlaysOwn driver after left × Written driver after (played_now driver after left)) → CyclesOnce driver after
  CyclesOnce-own writes own = record {
    steps = steps;
    writes = writes;
    keeps = λ course fits keeps.
        let here = own (left_by course) course fits keeps keeps.left in
        Keeps-next driver after steps course fits (PlaysOnce-own driver after steps (left_by course) here.0 course fits keeps keeps.left one) keeps writes
        (subst (Written driver after) (played-now driver after steps (left_by course) here.0 course fits keeps keeps.left) here.1);
  }

  pub FailsAtWrite-own : after.failed ≡ true → ((left : List ℤ) (course : Course) → Fits after course → Keeps driver course → driver.left ≡ Some left → PlaysOwn driver after left × WrittenFront driver after (played_now driver after left)) → FailsAtWrite driver after
  FailsAtWrite-own failed own = record {
    steps = steps;
    failed = failed;
    keeps = λ course fits keeps.
        let here = own (left_by course) course fits keeps keeps.left in
        KeepsBut-next driver after steps course fits (PlaysOnce-own driver after steps (left_by course) here.0 course fits keeps keeps.left one) keeps
        (subst (WrittenFront driver after) (played-now driver after steps (left_by course) here.0 course fits keeps keeps.left) here.1);
  }
