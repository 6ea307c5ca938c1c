-- The core: the activation machine with its links and the number of its seats, and what each step does to it.
--     MayStep course step      the step is allowed
--     behind course step      the core behind it
--     answer course step      the node that it takes
--     opening nodes links seats      before any step
use Rattle.std.specs.Prelude.{◌≤◌, ℕ, Bool, true, List, length, map, Option, Some, None}
use Rattle.session_laws.specs.jack_types.specs.declared.ports.Link.{Link}
use Rattle.session_laws.specs.session_model.specs.Activation.{AreLinks, Place, Waiting, Held, AtHome, Machine, Move, StartNode, ReleaseLink, HomeNode, PlayNode, Allowed, moved, node_taken, fresh, IsConsistent}
use Rattle.activation.specs.declared.stands.Stand.{Stand}
use Rattle.activation.specs.declared.stands.Stand.TheVariants as stand
use Rattle.activation.specs.declared.stands.Step.{Step}
use Rattle.activation.specs.declared.stands.Step.TheVariants as step

pub record Course : Type 0 where
  pub links : List Link
  pub seats : ℕ
  pub machine : Machine

-- a core plays nothing, so a held node counts as played
abbrev pub place : Stand → Place
place stand.Waiting = Waiting
place (stand.Held seat) = Held seat true
place stand.Home = AtHome

abbrev pub course_of : List Link → ℕ → List ℕ → List Bool → List Stand → List Bool → Course
course_of links seats counters started stands released = record {
  links = links;
  seats = seats;
  machine = record { counters = counters; started = started; places = map place stands; released = released };
}

pub record IsCourse (course : Course) : Type 0 where
  pub few_nodes : length course.machine.places ≤ 64
  pub few_links : length course.links ≤ 512
  pub are_links : AreLinks (length course.machine.places) course.links
  pub consistent : IsConsistent course.links course.machine

abbrev pub opening : ℕ → List Link → ℕ → Course
opening nodes links seats = record { links = links; seats = seats; machine = fresh nodes links }

abbrev pub move : Step → Move
move (step.Start seat n) = StartNode seat n
move (step.Release seat l) = ReleaseLink seat l
move (step.Home seat n) = HomeNode seat n

abbrev pub seat_of : Step → ℕ
seat_of (step.Start seat n) = seat
seat_of (step.Release seat l) = seat
seat_of (step.Home seat n) = seat

abbrev pub MayStep : Course → Step → Type 0
MayStep course s = Allowed course.links course.seats course.machine (move s)

abbrev pub answer : Course → Step → Option ℕ
answer course s = node_taken course.links course.machine (move s)

-- the node that was taken counts as played
abbrev pub played : List Link → ℕ → Option ℕ → Machine → Machine
played links seat None machine = machine
played links seat (Some n) machine = moved links machine (PlayNode seat n)

abbrev pub behind : Course → Step → Course
behind course s = record course { machine = played course.links (seat_of s) (answer course s) (moved course.links course.machine (move s)) }
