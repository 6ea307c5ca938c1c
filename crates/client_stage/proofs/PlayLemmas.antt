-- A cycle on the stage.
--     no-wires      past the nodes nobody hears
--     stands-moved      where kept outputs stand, and the period, do not tell whose benches they are
--     places-of      at which places kept outputs stood
--     stands-played      the stage behind a performance
use Rattle.std.proofs.Common.{◌≡◌, ◌≢◌, ℕ, ◌<◌, ◌≤◌, ◌==◌, Bool, true, false, List, [], length, map, min, Option, None, refl, sym, ◌∙◌, ap, subst, arith, true≢false, eqb-true}
use Rattle.std.specs.Prelude.{ℤ, slice_index_or}
use Rattle.jack_types.specs.declared.moments.Moment.{Moment}
use Rattle.session_model.specs.Samples.{below}
use Rattle.session_model.specs.Kinds.{Sound}
use Rattle.client_kinds.specs.Scores.{Score}
use Rattle.session_laws.proofs.ListLemmas.{Each-below, filter-none}
use Rattle.port_registry.specs.Registered.{open_clients}
use Rattle.cycle_plan.specs.Plans.{Planned}
use Rattle.client_benches.specs.Seen.{Seen, cleared}
use Rattle.client_wiring.specs.declared.joints.Joint.{Joint}
use Rattle.client_wiring.specs.declared.joints.Origin.TheVariants.{Captured}
use Rattle.bench_rack.specs.Racks.{Racked, bench_at}
use Rattle.client_tasks.specs.Fillings.{AreJoints, with_wires}
use Rattle.client_tasks.specs.Tasks.{HasRooms, joint_at, wire_by, wires_of}
use Rattle.client_seats.specs.Seatings.{HavePeriod, IsRefused, IsSeating, standing_at}
use Rattle.driver_words.specs.Feeding.{Fed}
use Rattle.stage_feeds.specs.Feeding.{Feeds}
use Rattle.stage_laws.specs.Known.{AreKnown}
use Rattle.stage_laws.specs.Casts.{ArePlaces, Casts, Fills, Performs}
use Rattle.stage_laws.specs.Stages.{Staged}
use Rattle.stage_laws.proofs.WholeLemmas.{idle-played, periods-played, seating-played, staffed-played, unfed-played}
use Rattle.stage_laws.specs.Standing.{EnoughLinks, StandsBy, StandsOn}

no-joints : (joints : List Joint) (nodes p : ℕ) → AreJoints nodes joints → nodes ≤ p → (i : ℕ) → i < length joints → ((joint_at joints i).node == p) ≡ false
no-joints joints nodes p are past i low = go ((joint_at joints i).node == p) refl
  where
    placed : (joint_at joints i).node < nodes
    placed = are.placed i (record { node = 0; input = 0; origin = Captured 0 }) low

    go : (b : Bool) → ((joint_at joints i).node == p) ≡ b → b ≡ false
    go false e = refl
    go true e = let same = eqb-true (joint_at joints i).node p e in let low_node = placed in absurd (below_itself (subst (λ k. k < nodes) same low_node))
      where
        below_itself : p < nodes → ⊥
        below_itself h = omega (arith, h, past)

pub no-wires : (sources : ℕ → List ℤ) (joints : List Joint) (nodes p : ℕ) → AreJoints nodes joints → nodes ≤ p → wires_of sources joints p ≡ []
no-wires sources joints nodes p are past =
    ap (map (wire_by sources joints)) (filter-none (λ i. (joint_at joints i).node == p) (below (length joints)) (Each-below (λ i. ((joint_at joints i).node == p) ≡ false) (length joints) (no-joints joints nodes p are past)))

-- a bench past the nodes is left as it is
pub others-filled : (old filled : Racked) (joints : List Joint) (nodes p : ℕ) (known : ℕ → List ℤ) → AreJoints nodes joints → nodes ≤ p → (bench_at old p).kept.wires ≡ []
    → ((sources : ℕ → List ℤ) (n : ℕ) → (bench_at old n).kept.wires ≡ wires_of sources joints n → (bench_at filled n).kept.wires ≡ wires_of known joints n)
    → ((q : ℕ) → bench_at filled q ≡ with_wires (bench_at filled q).kept.wires (bench_at old q)) → bench_at filled p ≡ bench_at old p
others-filled old filled joints nodes p known are past none wires others =
    others p ∙ ap (λ ws. with_wires ws (bench_at old p)) (wires (λ i. []) p (none ∙ sym (no-wires (λ i. []) joints nodes p are past)) ∙ no-wires known joints nodes p are past ∙ sym none)

pub stands-moved : (staged after : Staged) (plan : Planned) → after.racked ≡ staged.racked → after.owned ≡ staged.owned → after.crew ≡ staged.crew → after.room ≡ staged.room → after.wiring ≡ staged.wiring → after.nodes ≡ staged.nodes
    → after.is_staffed ≡ staged.is_staffed → StandsBy staged plan → StandsBy after plan
stands-moved staged after plan rack owned crew room wiring nodes staffed by = record {
  planned = by.planned;
  wiring = wiring ∙ by.wiring;
  nodes = nodes ∙ by.nodes;
  seating = subst (λ r. IsSeating r after.owned) (sym rack) (subst (IsSeating staged.racked) (sym owned) by.seating);
  known = subst (λ r. AreKnown plan r after.owned) (sym rack) (subst (AreKnown plan staged.racked) (sym owned) by.known);
  periods = subst (HavePeriod after.racked) (sym room) (subst (λ r. HavePeriod r staged.room) (sym rack) by.periods);
  unfed = λ p. ap (λ (r : Racked). (standing_at r p).memory.fed) rack ∙ by.unfed p;
  unused = λ p h. ap (λ (r : Racked). (bench_at r p).kept.turn) rack ∙ by.unused p h;
  idle = λ p h. subst (λ (r : Racked). cleared (bench_at r p) ≡ bench_at r p) (sym rack) (by.idle p (omega (arith, h, crew)));
  crew = crew ∙ by.crew ∙ ap (λ (r : Racked). min (length r.benches) 64) (sym rack);
  links = subst (λ n. EnoughLinks n after.racked.links) (sym crew) (subst (λ (r : Racked). EnoughLinks staged.crew r.links) (sym rack) by.links);
  room = subst (λ n. n ≤ 4096) (sym room) by.room;
  refused = λ e. subst (λ r. IsRefused (open_clients plan.nodes) r after.owned) (sym rack) (subst (IsRefused (open_clients plan.nodes) staged.racked) (sym owned) (by.refused (sym staffed ∙ e)));
}

-- where nobody plays there is nothing to be set
pub stands-refused : (staged : Staged) (plan : Planned) → StandsBy staged plan → staged.is_staffed ≡ false → StandsOn staged plan
stands-refused staged plan by refused = record { stands = by; staffed = λ e. absurd (true≢false (sym e ∙ refused)) }

pub places-of : (old cast : Staged) (period : ℕ) (places : List (Option ℕ)) (before : ℕ) → old.period ≡ before → (before ≡ period → places ≡ cast.last) → (before ≢ period → (i : ℕ) → slice_index_or places i None ≡ None) → ArePlaces old cast period places
places-of old cast period places before is same other = record {
  same = λ e. same (sym is ∙ e);
  other = λ e i. other (λ f. e (is ∙ f)) i;
}

module _ (sounding : Score → Sound) (old : Staged) (last plan : Planned) (moment : Moment) (period : ℕ) (channels : List (List ℤ)) (cast : Staged) (casts : Casts sounding old last plan moment period cast) (by : StandsBy cast plan)
    (places : List (Option ℕ)) (filled : Racked) (fills : Fills cast plan moment period channels places filled) (disks : Fed) (fed : Racked) (feeds : Feeds plan disks filled fed)
    (played : Racked) (performs : Performs sounding fed plan cast.crew played)
    (rooms : HasRooms plan.links played) (links : played.links ≡ cast.racked.links) (others : (p : ℕ) → cast.crew ≤ p → (bench_at cast.racked p).kept.wires ≡ [] → bench_at played p ≡ bench_at cast.racked p)
    (known : AreKnown plan played cast.owned) where
  idle-there : (p : ℕ) → cast.crew ≤ p → cleared (bench_at played p) ≡ bench_at played p
  idle-there p h =
      let was = by.idle p h in
      subst (λ (b : Seen). cleared b ≡ b) (sym (others p h (sym (ap (λ (b : Seen). b.kept.wires) was)))) was

  lengths-there : length played.benches ≡ length cast.racked.benches
  lengths-there = performs.lengths ∙ feeds.lengths ∙ fills.lengths

  pub stands-played : (new : Staged) → new.racked ≡ played → new.owned ≡ cast.owned → new.crew ≡ cast.crew → new.room ≡ cast.room → new.wiring ≡ cast.wiring → new.nodes ≡ plan.nodes → new.period ≡ period → new.is_staffed ≡ true → StandsOn new plan
  stands-played new rack owned crew room wiring nodes same_period is_staffed = record {
    stands = record {
      planned = by.planned;
      wiring = wiring ∙ casts.wiring;
      nodes = nodes;
      seating = subst (λ r. IsSeating r new.owned) (sym rack) (subst (IsSeating played) (sym owned) (seating-played sounding old last plan moment period channels cast casts places filled fills disks fed feeds cast.crew played performs));
      known = subst (λ r. AreKnown plan r new.owned) (sym rack) (subst (AreKnown plan played) (sym owned) known);
      periods = subst (HavePeriod new.racked) (sym room) (subst (λ r. HavePeriod r cast.room) (sym rack) (periods-played sounding old last plan moment period channels cast casts places filled fills disks fed feeds cast.crew played performs));
      unfed = λ p. ap (λ (r : Racked). (standing_at r p).memory.fed) rack ∙ unfed-played sounding old last plan moment period channels cast casts places filled fills disks fed feeds cast.crew played performs p;
      unused = λ p h. ap (λ (r : Racked). (bench_at r p).kept.turn) rack ∙ idle-played sounding old last plan moment period channels cast casts places filled fills disks fed feeds cast.crew played performs p h;
      idle = λ p h. subst (λ (r : Racked). cleared (bench_at r p) ≡ bench_at r p) (sym rack) (idle-there p (omega (arith, h, crew)));
      crew = crew ∙ by.crew ∙ ap (λ n. min n 64) (sym (ap (λ (r : Racked). length r.benches) rack ∙ lengths-there));
      links = subst (λ n. EnoughLinks n new.racked.links) (sym crew) (subst (EnoughLinks cast.crew) (sym (ap (λ (r : Racked). r.links) rack ∙ links)) by.links);
      room = subst (λ n. n ≤ 4096) (sym room) by.room;
      refused = λ e. absurd (true≢false (sym is_staffed ∙ e));
    };
    staffed = λ e. staffed-played sounding old last plan moment period channels cast casts places filled fills disks fed feeds cast.crew played performs rooms new rack owned (wiring ∙ casts.wiring) same_period (ap open_clients nodes);
  }
