-- A seat that has started its share, and goes on with its work.
use Rattle.std.proofs.Common.{arith, ◌≡◌, ◌<◌, ℕ, Bool, List, length, get_or, sym, ap, ◌∙◌, subst}
use Rattle.cycle_workers.specs.activation.specs.Rule.{has}
use Rattle.cycle_workers.specs.Runs.{HaveRoom}
use Rattle.steal_workers.specs.declared.ends.Stealer.{Stealer}
use Rattle.steal_workers.specs.declared.places.Place.{Place}
use Rattle.steal_workers.specs.Crews.{CrewFacts}
use Rattle.steal_workers.specs.Works.{IsReady, IsUnderWay, IsAtWork, WorksOn}
use Rattle.steal_workers.proofs.Offered.{deque_stays}

module _ {B Y M : Type 0} (crew : CrewFacts) (stealers : List Stealer) where
  pub at_work : (has_room : B → ℕ → Bool) (old new : Place B Y M) → IsReady has_room crew stealers old → IsUnderWay crew stealers old new → IsAtWork has_room crew stealers new
  at_work has_room old new ready on =
      let behind = on.behind ready.thief ready.there in record {
        thief = on.thief;
        there = on.there;
        sits = behind.sits;
        room = subst (HaveRoom has_room crew.links) (sym behind.worked.before_stays) ready.room;
        none_held = behind.worked.none_held;
        left = behind.worked.left;
        passes = behind.passes;
        part = subst (λ (n : ℕ). 0 < n) (sym on.deque.parts) ready.part;
      }

  pub worked_on : (old mid new : Place B Y M) → IsUnderWay crew stealers old mid → WorksOn crew stealers mid new → IsUnderWay crew stealers old new
  worked_on old mid new on more =
      let further = more.behind on.thief on.there in record {
        thief = more.thief;
        there = more.there;
        deque = deque_stays old.deque mid.deque new.deque on.deque more.deque;
        behind = λ before is. let b = on.behind before is in record {
          number = further.number ∙ b.number;
          sits = further.sits;
          worked = record {
            links_stay = further.links_stay ∙ b.worked.links_stay;
            before_stays = further.before_stays ∙ b.worked.before_stays;
            started_all = λ n low mine. ap (λ l. has l n) further.started_stay ∙ b.worked.started_all n low (mine ∙ further.number);
            none_held = further.none_held;
            left = further.left;
          };
          passes = further.passes;
          room = further.room ∙ b.room;
        };
      }
