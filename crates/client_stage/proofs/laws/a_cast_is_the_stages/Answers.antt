use Rattle.std.proofs.Common.{[], length, sym, ap, subst}
use Rattle.client_benches.specs.Seen.{Seen}
use Rattle.client_tasks.specs.Fillings.{AreJoints}
use Rattle.client_tasks.specs.Tasks.{AreSet}
use Rattle.client_wiring.specs.Wirings.{Wired}
use Rattle.client_stage.proofs.laws.a_cast_is_the_stages.Goals as goal

pub returns : goal.returns
returns c sounding old new last plan moment period cast seating periods unfed wiring places scores crew room same_period lengths links = record {
  wiring = wiring;
  seating = seating;
  periods = periods;
  unfed = unfed;
  idle = λ p h. sym (ap (λ (b : Seen). b.kept.turn) (cast.idle p h));
  has = cast.has;
  sources = λ i. [];
  set = subst (λ (w : Wired). AreSet w plan.links moment period (λ i. []) (length plan.nodes) new.racked) (sym wiring) cast.set;
  rooms = cast.rooms;
  joints = subst (λ (w : Wired). AreJoints (length plan.nodes) w.joints) (sym wiring) cast.joints;
  standings = cast.standings;
  audio = cast.audio;
  fresh = cast.fresh;
  others = cast.others;
  scores = scores;
  last_is = places;
  crew_stays = crew;
  room_stays = room;
  period_stays = same_period;
  lengths = lengths;
  links_stay = links;
}
