-- A cycle on the stage, from one cycle to the next.
--     stands-moved_on, refused-moved_on      the stage once the period is set
--     the-cast, few-there, set-there, unused-there, unfed-there, periods-there, places-there      what the performance stands on
--     stands-behind, kinds-behind      the stage behind it
use Rattle.std.proofs.Common.{◌≡◌, ◌≢◌, ℕ, ◌≤◌, true, false, List, [], length, None, refl, sym, ◌∙◌, ap, subst}
use Rattle.std.specs.Prelude.{ℤ, slice_index_or}
use Rattle.std.specs.List.Sorted.{IsPermutation}
use Rattle.jack_types.specs.declared.moments.Moment.{Moment}
use Rattle.session_model.specs.Kinds.{Sound}
use Rattle.client_kinds.specs.Scores.{Score}
use Rattle.cycle_plan.specs.Plans.{Planned}
use Rattle.client_wiring.specs.Wirings.{Wired, wired_of}
use Rattle.bench_rack.specs.Racks.{Racked, bench_at}
use Rattle.client_tasks.specs.Tasks.{AreSet, HasRooms}
use Rattle.client_seats.specs.Moves.{kinds_of}
use Rattle.client_seats.specs.Seatings.{HavePeriod, standing_at}
use Rattle.driver_words.specs.Feeding.{Fed}
use Rattle.stage_feeds.specs.Feeding.{Feeds}
use Rattle.stage_laws.specs.Known.{AreKnown}
use Rattle.stage_laws.specs.Casts.{ArePlaces, Casts, Fills, Performs}
use Rattle.stage_laws.specs.Stages.{Staged}
use Rattle.client_stage.specs.Insides.{staged_by}
use Rattle.stage_laws.specs.Standing.{StandsBy, StandsOn}
use Rattle.client_stage.specs.declared.parts.Parts.{Parts}
use Rattle.client_stage.proofs.PlayLemmas.{places-of, stands-moved, stands-played, stands-refused}
use Rattle.client_stage.proofs.TurnLemmas.{few-seated}

module _ (sounding : Score → Sound) {G : Type 0} (parts turned moved : Parts G) (crew period : ℕ) (last plan : Planned) (moment : Moment)
    (by : StandsBy (staged_by turned crew plan.nodes) plan)
    (rest : moved ≡ record turned { last = moved.last; period = period }) where
  abbrev cast : Staged
  cast = staged_by turned crew plan.nodes

  rack-same : moved.rack ≡ turned.rack
  rack-same = ap (λ p. p.rack) rest

  owners-same : moved.owners ≡ turned.owners
  owners-same = ap (λ p. p.owners) rest

  wiring-same : moved.wiring ≡ turned.wiring
  wiring-same = ap (λ p. p.wiring) rest

  room-same : moved.room ≡ turned.room
  room-same = ap (λ p. p.room) rest

  staffed-same : moved.is_staffed ≡ turned.is_staffed
  staffed-same = ap (λ p. p.is_staffed) rest

  pub stands-moved_on : StandsBy (staged_by moved crew plan.nodes) plan
  stands-moved_on = stands-moved cast (staged_by moved crew plan.nodes) plan rack-same owners-same refl room-same wiring-same refl staffed-same by

  pub refused-moved_on : moved.is_staffed ≡ false → StandsOn (staged_by moved crew plan.nodes) plan
  refused-moved_on e = stands-refused (staged_by moved crew plan.nodes) plan stands-moved_on e

  pub unfed-there : (p : ℕ) → (standing_at moved.rack p).memory.fed ≡ []
  unfed-there p = stands-moved_on.unfed p

  pub periods-there : HavePeriod moved.rack moved.room
  periods-there p h = stands-moved_on.periods p h

  module _ (casts : turned.is_staffed ≡ true → Casts sounding (staged_by parts crew last.nodes) last plan moment period cast) (is_staffed : moved.is_staffed ≡ true) where
    pub the-cast : Casts sounding (staged_by parts crew last.nodes) last plan moment period cast
    the-cast = casts (sym staffed-same ∙ is_staffed)

    pub few-there : length plan.nodes ≤ crew
    few-there = subst (λ k. length plan.nodes ≤ k) (sym by.crew) (few-seated plan turned.rack turned.owners the-cast.seating the-cast.has the-cast.joints.few_nodes)

    pub set-there : AreSet (wired_of plan) plan.links moment period the-cast.sources (length plan.nodes) moved.rack
    set-there = subst (λ r. AreSet (wired_of plan) plan.links moment period the-cast.sources (length plan.nodes) r) (sym rack-same)
        (subst (λ (w : Wired). AreSet w plan.links moment period the-cast.sources (length plan.nodes) turned.rack) the-cast.wiring the-cast.set)

    pub unused-there : (p : ℕ) → length plan.nodes ≤ p → (bench_at moved.rack p).kept.turn ≡ None
    unused-there p h = stands-moved_on.unused p h

    pub places-there : (turned.period ≡ parts.period) → (turned.period ≡ period → moved.last ≡ turned.last) → (turned.period ≢ period → (i : ℕ) → slice_index_or moved.last.items i None ≡ None)
        → ArePlaces (staged_by parts crew last.nodes) cast period moved.last.items
    places-there kept same other = places-of (staged_by parts crew last.nodes) cast period moved.last.items turned.period (sym kept) (λ e. ap (λ v. v.items) (same e)) other

    module _ (channels : List (List ℤ)) (filled : Racked) (fills : Fills cast plan moment period channels moved.last.items filled) (disks : Fed) (fed : Racked) (feeds : Feeds plan disks filled fed)
        (played : Racked) (performs : Performs sounding fed plan crew played) where
      pub kinds-behind : kinds_of played ≡ kinds_of turned.rack → IsPermutation (kinds_of parts.rack) (kinds_of turned.rack) → IsPermutation (kinds_of parts.rack) (kinds_of played)
      kinds-behind kinds moved_kinds = subst (IsPermutation (kinds_of parts.rack)) (sym kinds) moved_kinds

      pub stands-behind : AreKnown plan played turned.owners → HasRooms plan.links played → played.links ≡ moved.rack.links
          → ((p : ℕ) → crew ≤ p → (bench_at moved.rack p).kept.wires ≡ [] → bench_at played p ≡ bench_at moved.rack p) → StandsOn (staged_by (record moved { rack = played }) crew plan.nodes) plan
      stands-behind known rooms links others =
          stands-played sounding (staged_by parts crew last.nodes) last plan moment period channels cast the-cast by moved.last.items filled fills disks fed feeds played performs rooms (links ∙ ap (λ (r : Racked). r.links) rack-same)
          (λ p h none. others p h (ap (λ (r : Racked). (bench_at r p).kept.wires) rack-same ∙ none) ∙ ap (λ (r : Racked). bench_at r p) rack-same) known
          (staged_by (record moved { rack = played }) crew plan.nodes) refl owners-same refl room-same wiring-same refl (ap (λ p. p.period) rest) is_staffed
