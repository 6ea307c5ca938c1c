use Rattle.std.proofs.Common.{◌≡◌, ◌≤◌, length, take, pos, true, sym, ◌∙◌, ap, subst}
use Rattle.std.specs.List.Sorted.{IsPermutation}
use Rattle.std.proofs.lemmas.List.{take-replicate}
use Rattle.session_model.specs.Samples.{silence}
use Rattle.graph_word.specs.Publications.{IsFront}
use Rattle.client_wiring.specs.Keeping.{GoesOn}
use Rattle.client_wiring.specs.Wirings.{Wired}
use Rattle.bench_rack.specs.Racks.{Racked}
use Rattle.client_seats.specs.Moves.{kinds_of}
use Rattle.stage_feeds.specs.Feeding.{Feeds}
use Rattle.stage_laws.specs.Known.{AreKnown}
use Rattle.stage_laws.specs.Casts.{ArePlaces, Casts, Fills, Performs}
use Rattle.stage_laws.specs.Performances.{PerformsPlan}
use Rattle.client_stage.specs.Insides.{plan_in, staged_by}
use Rattle.stage_laws.specs.Standing.{OnStage, StandsBy, StandsOn}
use Rattle.client_stage.proofs.InsideLemmas.{plan-noted, whole}
use Rattle.client_stage.proofs.StageLemmas.{few-there, kinds-behind, periods-there, places-there, refused-moved_on, set-there, stands-behind, the-cast, unfed-there, unused-there}
use Rattle.client_stage.proofs.stage.Stage.play.Goals as goal

pub turn_to-requires-clause-stands : goal.turn_to-requires-clause-stands
turn_to-requires-clause-stands g c = ((plan_in c.self.inside.plan.items), on, goes, c.self.invariant.number)
  where
    goes : GoesOn (plan_in c.self.inside.plan.items) c.args.plan.now
    goes = record {
      planned_last = c.self.invariant.stands.stands.planned;
      planned = c.number-number.ensures.planned;
      base = c.requires.base ∙ ap (λ s. s.plan.base) (sym c.self.view_is);
      front = subst (λ changes. IsFront changes c.args.plan.now.changes) (ap (λ s. s.plan.changes) (sym c.self.view_is)) c.requires.front;
    }

    on : StandsOn (staged_by {G = g.row.G.Denot} c.self.inside.parts c.nodes-crew.result (plan_in c.self.inside.plan.items).nodes) (plan_in c.self.inside.plan.items)
    on = subst (λ k. StandsOn (staged_by {G = g.row.G.Denot} c.self.inside.parts k (plan_in c.self.inside.plan.items).nodes) (plan_in c.self.inside.plan.items)) (sym c.nodes-crew.ensures) c.self.invariant.stands

pub invariant_of-self : goal.invariant_of-self
invariant_of-self g c =
    whole record { parts = record { rack = c.set_period.new.parts.rack; owners = c.set_period.new.parts.owners; wiring = c.set_period.new.parts.wiring; earlier = c.set_period.new.parts.earlier; last = c.set_period.new.parts.last; room = c.set_period.new.parts.room; period = c.set_period.new.parts.period; number = c.number-number.result; is_staffed = c.set_period.new.parts.is_staffed }; ensemble = c.self.inside.ensemble; silence = c.self.inside.silence; plan = c.note-self-inside.result } c.args.plan.now c.note-self-inside.ensures refused
    c.number-number.ensures.value (subst (λ k. 512 ≤ k) (sym (c.set_period.ensures.room ∙ c.turn_to.ensures.room)) c.self.invariant.places)
    (subst (λ (w : Wired). length w.heard ≤ 512) (sym (ap (λ p. p.wiring) c.set_period.ensures.rest)) (c.turn_to.ensures.heard c.self.invariant.heard))
    (c.self.invariant.silence ∙ ap silence (sym (ap (λ p. p.room) c.set_period.ensures.rest ∙ c.turn_to.ensures.same.0)))
  where
    goes : GoesOn (plan_in c.self.inside.plan.items) c.args.plan.now
    goes = record {
      planned_last = c.self.invariant.stands.stands.planned;
      planned = c.number-number.ensures.planned;
      base = c.requires.base ∙ ap (λ s. s.plan.base) (sym c.self.view_is);
      front = subst (λ changes. IsFront changes c.args.plan.now.changes) (ap (λ s. s.plan.changes) (sym c.self.view_is)) c.requires.front;
    }

    on : StandsOn (staged_by {G = g.row.G.Denot} c.self.inside.parts c.nodes-crew.result (plan_in c.self.inside.plan.items).nodes) (plan_in c.self.inside.plan.items)
    on = subst (λ k. StandsOn (staged_by {G = g.row.G.Denot} c.self.inside.parts k (plan_in c.self.inside.plan.items).nodes) (plan_in c.self.inside.plan.items)) (sym c.nodes-crew.ensures) c.self.invariant.stands

    by : StandsBy (staged_by {G = g.row.G.Denot} c.turn_to.new.parts c.self.inside.ensemble.nodes c.args.plan.now.nodes) c.args.plan.now
    by = subst (λ k. StandsBy (staged_by {G = g.row.G.Denot} c.turn_to.new.parts k c.args.plan.now.nodes) c.args.plan.now) c.nodes-crew.ensures (c.turn_to.ensures.stands (plan_in c.self.inside.plan.items) on goes c.self.invariant.number)

    refused : StandsOn (staged_by {G = g.row.G.Denot} c.set_period.new.parts c.self.inside.ensemble.nodes c.args.plan.now.nodes) c.args.plan.now
    refused = refused-moved_on g.G.Guest.sound c.self.inside.parts c.turn_to.new.parts c.set_period.new.parts c.self.inside.ensemble.nodes c.args.period (plan_in c.self.inside.plan.items) c.args.plan.now c.args.moment.now by c.set_period.ensures.rest c.if-not-self.true

pub returns-then-not-self-clause-stands : goal.returns-then-not-self-clause-stands
returns-then-not-self-clause-stands g c = subst (λ p. StandsOn (staged_by {G = g.row.G.Denot} c.set_period.new.parts c.self.inside.ensemble.nodes p.nodes) p) (sym (plan-noted c.note-self-inside.result.items c.args.plan.now c.note-self-inside.ensures)) refused
  where
    goes : GoesOn (plan_in c.self.inside.plan.items) c.args.plan.now
    goes = record {
      planned_last = c.self.invariant.stands.stands.planned;
      planned = c.number-number.ensures.planned;
      base = c.requires.base ∙ ap (λ s. s.plan.base) (sym c.self.view_is);
      front = subst (λ changes. IsFront changes c.args.plan.now.changes) (ap (λ s. s.plan.changes) (sym c.self.view_is)) c.requires.front;
    }

    on : StandsOn (staged_by {G = g.row.G.Denot} c.self.inside.parts c.nodes-crew.result (plan_in c.self.inside.plan.items).nodes) (plan_in c.self.inside.plan.items)
    on = subst (λ k. StandsOn (staged_by {G = g.row.G.Denot} c.self.inside.parts k (plan_in c.self.inside.plan.items).nodes) (plan_in c.self.inside.plan.items)) (sym c.nodes-crew.ensures) c.self.invariant.stands

    by : StandsBy (staged_by {G = g.row.G.Denot} c.turn_to.new.parts c.self.inside.ensemble.nodes c.args.plan.now.nodes) c.args.plan.now
    by = subst (λ k. StandsBy (staged_by {G = g.row.G.Denot} c.turn_to.new.parts k c.args.plan.now.nodes) c.args.plan.now) c.nodes-crew.ensures (c.turn_to.ensures.stands (plan_in c.self.inside.plan.items) on goes c.self.invariant.number)

    refused : StandsOn (staged_by {G = g.row.G.Denot} c.set_period.new.parts c.self.inside.ensemble.nodes c.args.plan.now.nodes) c.args.plan.now
    refused = refused-moved_on g.G.Guest.sound c.self.inside.parts c.turn_to.new.parts c.set_period.new.parts c.self.inside.ensemble.nodes c.args.period (plan_in c.self.inside.plan.items) c.args.plan.now c.args.moment.now by c.set_period.ensures.rest c.if-not-self.true

pub perform-requires-clause-few : goal.perform-requires-clause-few
perform-requires-clause-few g c κs within = few-there g.G.Guest.sound c.self.inside.parts c.turn_to.new.parts c.set_period.new.parts c.self.inside.ensemble.nodes c.args.period (plan_in c.self.inside.plan.items) c.args.plan.now c.args.moment.now by c.set_period.ensures.rest casts c.if-not-self.false
  where
    goes : GoesOn (plan_in c.self.inside.plan.items) c.args.plan.now
    goes = record {
      planned_last = c.self.invariant.stands.stands.planned;
      planned = c.number-number.ensures.planned;
      base = c.requires.base ∙ ap (λ s. s.plan.base) (sym c.self.view_is);
      front = subst (λ changes. IsFront changes c.args.plan.now.changes) (ap (λ s. s.plan.changes) (sym c.self.view_is)) c.requires.front;
    }

    on : StandsOn (staged_by {G = g.row.G.Denot} c.self.inside.parts c.nodes-crew.result (plan_in c.self.inside.plan.items).nodes) (plan_in c.self.inside.plan.items)
    on = subst (λ k. StandsOn (staged_by {G = g.row.G.Denot} c.self.inside.parts k (plan_in c.self.inside.plan.items).nodes) (plan_in c.self.inside.plan.items)) (sym c.nodes-crew.ensures) c.self.invariant.stands

    by : StandsBy (staged_by {G = g.row.G.Denot} c.turn_to.new.parts c.self.inside.ensemble.nodes c.args.plan.now.nodes) c.args.plan.now
    by = subst (λ k. StandsBy (staged_by {G = g.row.G.Denot} c.turn_to.new.parts k c.args.plan.now.nodes) c.args.plan.now) c.nodes-crew.ensures (c.turn_to.ensures.stands (plan_in c.self.inside.plan.items) on goes c.self.invariant.number)

    casts : c.turn_to.new.parts.is_staffed ≡ true → Casts g.G.Guest.sound (staged_by {G = g.row.G.Denot} c.self.inside.parts c.self.inside.ensemble.nodes (plan_in c.self.inside.plan.items).nodes) (plan_in c.self.inside.plan.items) c.args.plan.now c.args.moment.now c.args.period (staged_by {G = g.row.G.Denot} c.turn_to.new.parts c.self.inside.ensemble.nodes c.args.plan.now.nodes)
    casts = subst (λ k. c.turn_to.new.parts.is_staffed ≡ true → Casts g.G.Guest.sound (staged_by {G = g.row.G.Denot} c.self.inside.parts k (plan_in c.self.inside.plan.items).nodes) (plan_in c.self.inside.plan.items) c.args.plan.now c.args.moment.now c.args.period (staged_by {G = g.row.G.Denot} c.turn_to.new.parts k c.args.plan.now.nodes)) c.nodes-crew.ensures (c.turn_to.ensures.cast (plan_in c.self.inside.plan.items) on goes c.self.invariant.number)

pub perform-requires-clause-unfed : goal.perform-requires-clause-unfed
perform-requires-clause-unfed g c κs within = unfed-there g.G.Guest.sound c.self.inside.parts c.turn_to.new.parts c.set_period.new.parts c.self.inside.ensemble.nodes c.args.period (plan_in c.self.inside.plan.items) c.args.plan.now c.args.moment.now by c.set_period.ensures.rest
  where
    goes : GoesOn (plan_in c.self.inside.plan.items) c.args.plan.now
    goes = record {
      planned_last = c.self.invariant.stands.stands.planned;
      planned = c.number-number.ensures.planned;
      base = c.requires.base ∙ ap (λ s. s.plan.base) (sym c.self.view_is);
      front = subst (λ changes. IsFront changes c.args.plan.now.changes) (ap (λ s. s.plan.changes) (sym c.self.view_is)) c.requires.front;
    }

    on : StandsOn (staged_by {G = g.row.G.Denot} c.self.inside.parts c.nodes-crew.result (plan_in c.self.inside.plan.items).nodes) (plan_in c.self.inside.plan.items)
    on = subst (λ k. StandsOn (staged_by {G = g.row.G.Denot} c.self.inside.parts k (plan_in c.self.inside.plan.items).nodes) (plan_in c.self.inside.plan.items)) (sym c.nodes-crew.ensures) c.self.invariant.stands

    by : StandsBy (staged_by {G = g.row.G.Denot} c.turn_to.new.parts c.self.inside.ensemble.nodes c.args.plan.now.nodes) c.args.plan.now
    by = subst (λ k. StandsBy (staged_by {G = g.row.G.Denot} c.turn_to.new.parts k c.args.plan.now.nodes) c.args.plan.now) c.nodes-crew.ensures (c.turn_to.ensures.stands (plan_in c.self.inside.plan.items) on goes c.self.invariant.number)

pub perform-requires-clause-periods : goal.perform-requires-clause-periods
perform-requires-clause-periods g c κs within = λ some p h. periods-there g.G.Guest.sound c.self.inside.parts c.turn_to.new.parts c.set_period.new.parts c.self.inside.ensemble.nodes c.args.period (plan_in c.self.inside.plan.items) c.args.plan.now c.args.moment.now by c.set_period.ensures.rest p h
    ∙ ap (λ p. p.room) c.set_period.ensures.rest ∙ c.turn_to.ensures.same.0 ∙ ap (λ s. s.staged.room) c.self.view_is ∙ sym (c.requires.periods some)
  where
    goes : GoesOn (plan_in c.self.inside.plan.items) c.args.plan.now
    goes = record {
      planned_last = c.self.invariant.stands.stands.planned;
      planned = c.number-number.ensures.planned;
      base = c.requires.base ∙ ap (λ s. s.plan.base) (sym c.self.view_is);
      front = subst (λ changes. IsFront changes c.args.plan.now.changes) (ap (λ s. s.plan.changes) (sym c.self.view_is)) c.requires.front;
    }

    on : StandsOn (staged_by {G = g.row.G.Denot} c.self.inside.parts c.nodes-crew.result (plan_in c.self.inside.plan.items).nodes) (plan_in c.self.inside.plan.items)
    on = subst (λ k. StandsOn (staged_by {G = g.row.G.Denot} c.self.inside.parts k (plan_in c.self.inside.plan.items).nodes) (plan_in c.self.inside.plan.items)) (sym c.nodes-crew.ensures) c.self.invariant.stands

    by : StandsBy (staged_by {G = g.row.G.Denot} c.turn_to.new.parts c.self.inside.ensemble.nodes c.args.plan.now.nodes) c.args.plan.now
    by = subst (λ k. StandsBy (staged_by {G = g.row.G.Denot} c.turn_to.new.parts k c.args.plan.now.nodes) c.args.plan.now) c.nodes-crew.ensures (c.turn_to.ensures.stands (plan_in c.self.inside.plan.items) on goes c.self.invariant.number)

pub perform-requires-clause-set : goal.perform-requires-clause-set
perform-requires-clause-set g c κs within = (c.args.moment.now, c.args.period, the.sources, set-there g.G.Guest.sound c.self.inside.parts c.turn_to.new.parts c.set_period.new.parts c.self.inside.ensemble.nodes c.args.period (plan_in c.self.inside.plan.items) c.args.plan.now c.args.moment.now by c.set_period.ensures.rest casts c.if-not-self.false)
  where
    goes : GoesOn (plan_in c.self.inside.plan.items) c.args.plan.now
    goes = record {
      planned_last = c.self.invariant.stands.stands.planned;
      planned = c.number-number.ensures.planned;
      base = c.requires.base ∙ ap (λ s. s.plan.base) (sym c.self.view_is);
      front = subst (λ changes. IsFront changes c.args.plan.now.changes) (ap (λ s. s.plan.changes) (sym c.self.view_is)) c.requires.front;
    }

    on : StandsOn (staged_by {G = g.row.G.Denot} c.self.inside.parts c.nodes-crew.result (plan_in c.self.inside.plan.items).nodes) (plan_in c.self.inside.plan.items)
    on = subst (λ k. StandsOn (staged_by {G = g.row.G.Denot} c.self.inside.parts k (plan_in c.self.inside.plan.items).nodes) (plan_in c.self.inside.plan.items)) (sym c.nodes-crew.ensures) c.self.invariant.stands

    by : StandsBy (staged_by {G = g.row.G.Denot} c.turn_to.new.parts c.self.inside.ensemble.nodes c.args.plan.now.nodes) c.args.plan.now
    by = subst (λ k. StandsBy (staged_by {G = g.row.G.Denot} c.turn_to.new.parts k c.args.plan.now.nodes) c.args.plan.now) c.nodes-crew.ensures (c.turn_to.ensures.stands (plan_in c.self.inside.plan.items) on goes c.self.invariant.number)

    casts : c.turn_to.new.parts.is_staffed ≡ true → Casts g.G.Guest.sound (staged_by {G = g.row.G.Denot} c.self.inside.parts c.self.inside.ensemble.nodes (plan_in c.self.inside.plan.items).nodes) (plan_in c.self.inside.plan.items) c.args.plan.now c.args.moment.now c.args.period (staged_by {G = g.row.G.Denot} c.turn_to.new.parts c.self.inside.ensemble.nodes c.args.plan.now.nodes)
    casts = subst (λ k. c.turn_to.new.parts.is_staffed ≡ true → Casts g.G.Guest.sound (staged_by {G = g.row.G.Denot} c.self.inside.parts k (plan_in c.self.inside.plan.items).nodes) (plan_in c.self.inside.plan.items) c.args.plan.now c.args.moment.now c.args.period (staged_by {G = g.row.G.Denot} c.turn_to.new.parts k c.args.plan.now.nodes)) c.nodes-crew.ensures (c.turn_to.ensures.cast (plan_in c.self.inside.plan.items) on goes c.self.invariant.number)

    the : Casts g.G.Guest.sound (staged_by {G = g.row.G.Denot} c.self.inside.parts c.self.inside.ensemble.nodes (plan_in c.self.inside.plan.items).nodes) (plan_in c.self.inside.plan.items) c.args.plan.now c.args.moment.now c.args.period (staged_by {G = g.row.G.Denot} c.turn_to.new.parts c.self.inside.ensemble.nodes c.args.plan.now.nodes)
    the = the-cast g.G.Guest.sound c.self.inside.parts c.turn_to.new.parts c.set_period.new.parts c.self.inside.ensemble.nodes c.args.period (plan_in c.self.inside.plan.items) c.args.plan.now c.args.moment.now by c.set_period.ensures.rest casts c.if-not-self.false

pub invariant_of-self-2 : goal.invariant_of-self-2
invariant_of-self-2 g c =
    whole record { parts = record { rack = c.perform.new.rack; owners = c.set_period.new.parts.owners; wiring = c.set_period.new.parts.wiring; earlier = c.set_period.new.parts.earlier; last = c.set_period.new.parts.last; room = c.set_period.new.parts.room; period = c.set_period.new.parts.period; number = c.number-number.result; is_staffed = c.set_period.new.parts.is_staffed }; ensemble = c.perform.new.ensemble; silence = c.self.inside.silence; plan = c.note-self-inside.result } c.args.plan.now c.note-self-inside.ensures (subst (λ e. StandsOn (staged_by {G = g.row.G.Denot} (record c.set_period.new.parts { rack = c.perform.new.rack }) e c.args.plan.now.nodes) c.args.plan.now) (sym (ap (λ e. e.nodes) c.perform.ensures.crew)) stands)
    c.number-number.ensures.value (subst (λ k. 512 ≤ k) (sym (c.set_period.ensures.room ∙ c.turn_to.ensures.room)) c.self.invariant.places)
    (subst (λ (w : Wired). length w.heard ≤ 512) (sym (ap (λ p. p.wiring) c.set_period.ensures.rest)) (c.turn_to.ensures.heard c.self.invariant.heard))
    (c.self.invariant.silence ∙ ap silence (sym (ap (λ p. p.room) c.set_period.ensures.rest ∙ c.turn_to.ensures.same.0)))
  where
    goes : GoesOn (plan_in c.self.inside.plan.items) c.args.plan.now
    goes = record {
      planned_last = c.self.invariant.stands.stands.planned;
      planned = c.number-number.ensures.planned;
      base = c.requires.base ∙ ap (λ s. s.plan.base) (sym c.self.view_is);
      front = subst (λ changes. IsFront changes c.args.plan.now.changes) (ap (λ s. s.plan.changes) (sym c.self.view_is)) c.requires.front;
    }

    on : StandsOn (staged_by {G = g.row.G.Denot} c.self.inside.parts c.nodes-crew.result (plan_in c.self.inside.plan.items).nodes) (plan_in c.self.inside.plan.items)
    on = subst (λ k. StandsOn (staged_by {G = g.row.G.Denot} c.self.inside.parts k (plan_in c.self.inside.plan.items).nodes) (plan_in c.self.inside.plan.items)) (sym c.nodes-crew.ensures) c.self.invariant.stands

    by : StandsBy (staged_by {G = g.row.G.Denot} c.turn_to.new.parts c.self.inside.ensemble.nodes c.args.plan.now.nodes) c.args.plan.now
    by = subst (λ k. StandsBy (staged_by {G = g.row.G.Denot} c.turn_to.new.parts k c.args.plan.now.nodes) c.args.plan.now) c.nodes-crew.ensures (c.turn_to.ensures.stands (plan_in c.self.inside.plan.items) on goes c.self.invariant.number)

    casts : c.turn_to.new.parts.is_staffed ≡ true → Casts g.G.Guest.sound (staged_by {G = g.row.G.Denot} c.self.inside.parts c.self.inside.ensemble.nodes (plan_in c.self.inside.plan.items).nodes) (plan_in c.self.inside.plan.items) c.args.plan.now c.args.moment.now c.args.period (staged_by {G = g.row.G.Denot} c.turn_to.new.parts c.self.inside.ensemble.nodes c.args.plan.now.nodes)
    casts = subst (λ k. c.turn_to.new.parts.is_staffed ≡ true → Casts g.G.Guest.sound (staged_by {G = g.row.G.Denot} c.self.inside.parts k (plan_in c.self.inside.plan.items).nodes) (plan_in c.self.inside.plan.items) c.args.plan.now c.args.moment.now c.args.period (staged_by {G = g.row.G.Denot} c.turn_to.new.parts k c.args.plan.now.nodes)) c.nodes-crew.ensures (c.turn_to.ensures.cast (plan_in c.self.inside.plan.items) on goes c.self.invariant.number)

    the : Casts g.G.Guest.sound (staged_by {G = g.row.G.Denot} c.self.inside.parts c.self.inside.ensemble.nodes (plan_in c.self.inside.plan.items).nodes) (plan_in c.self.inside.plan.items) c.args.plan.now c.args.moment.now c.args.period (staged_by {G = g.row.G.Denot} c.turn_to.new.parts c.self.inside.ensemble.nodes c.args.plan.now.nodes)
    the = the-cast g.G.Guest.sound c.self.inside.parts c.turn_to.new.parts c.set_period.new.parts c.self.inside.ensemble.nodes c.args.period (plan_in c.self.inside.plan.items) c.args.plan.now c.args.moment.now by c.set_period.ensures.rest casts c.if-not-self.false

    silent : take c.args.period c.deref-2.result.now ≡ silence c.args.period
    silent = ap (take c.args.period) (c.deref-2.ensures.value ∙ c.self.invariant.silence) ∙ take-replicate c.args.period c.self.inside.parts.room (pos 0) (subst (λ k. c.args.period ≤ k) (ap (λ s. s.staged.room) (sym c.self.view_is)) c.requires.period)

    was : (filled : Racked) × (fed : Racked) × Fills (staged_by {G = g.row.G.Denot} c.turn_to.new.parts c.self.inside.ensemble.nodes c.args.plan.now.nodes) c.args.plan.now c.args.moment.now c.args.period c.args.capture.now.channels c.set_period.new.parts.last.items filled × Feeds c.args.plan.now c.args.disks.now filled fed × Performs g.G.Guest.sound fed c.args.plan.now c.self.inside.ensemble.nodes c.perform.new.rack
    was = subst (λ places. (filled : Racked) × (fed : Racked) × Fills (staged_by {G = g.row.G.Denot} c.turn_to.new.parts c.self.inside.ensemble.nodes c.args.plan.now.nodes) c.args.plan.now c.args.moment.now c.args.period c.args.capture.now.channels places filled × Feeds c.args.plan.now c.args.disks.now filled fed × Performs g.G.Guest.sound fed c.args.plan.now c.self.inside.ensemble.nodes c.perform.new.rack) c.deref.ensures.value
        (c.perform.ensures.performed (staged_by {G = g.row.G.Denot} c.turn_to.new.parts c.self.inside.ensemble.nodes c.args.plan.now.nodes) c.args.moment.now c.args.period the.sources (sym (ap (λ p. p.rack) c.set_period.ensures.rest)) silent (set-there g.G.Guest.sound c.self.inside.parts c.turn_to.new.parts c.set_period.new.parts c.self.inside.ensemble.nodes c.args.period (plan_in c.self.inside.plan.items) c.args.plan.now c.args.moment.now by c.set_period.ensures.rest casts c.if-not-self.false) (unused-there g.G.Guest.sound c.self.inside.parts c.turn_to.new.parts c.set_period.new.parts c.self.inside.ensemble.nodes c.args.period (plan_in c.self.inside.plan.items) c.args.plan.now c.args.moment.now by c.set_period.ensures.rest casts c.if-not-self.false))

    kinds : kinds_of c.perform.new.rack ≡ kinds_of c.turn_to.new.parts.rack
    kinds = c.a_stage_stands_behind_its_cycle.ensures.kinds g.G.Guest.sound (staged_by {G = g.row.G.Denot} c.self.inside.parts c.self.inside.ensemble.nodes (plan_in c.self.inside.plan.items).nodes) (plan_in c.self.inside.plan.items) c.args.plan.now c.args.moment.now c.args.period c.args.capture.now.channels (staged_by {G = g.row.G.Denot} c.turn_to.new.parts c.self.inside.ensemble.nodes c.args.plan.now.nodes) c.set_period.new.parts.last.items was.0 c.args.disks.now was.1 c.self.inside.ensemble.nodes c.perform.new.rack the was.2 was.3 was.4

    known : AreKnown c.args.plan.now c.perform.new.rack c.turn_to.new.parts.owners
    known = c.kinds_alone_count.ensures c.args.plan.now c.turn_to.new.parts.rack c.turn_to.new.parts.owners c.perform.new.rack by.known kinds

    stands : StandsOn (staged_by {G = g.row.G.Denot} (record c.set_period.new.parts { rack = c.perform.new.rack }) c.self.inside.ensemble.nodes c.args.plan.now.nodes) c.args.plan.now
    stands = stands-behind g.G.Guest.sound c.self.inside.parts c.turn_to.new.parts c.set_period.new.parts c.self.inside.ensemble.nodes c.args.period (plan_in c.self.inside.plan.items) c.args.plan.now c.args.moment.now by c.set_period.ensures.rest casts c.if-not-self.false c.args.capture.now.channels was.0 was.2 c.args.disks.now was.1 was.3 c.perform.new.rack was.4 known c.perform.ensures.rooms c.perform.ensures.links c.perform.ensures.others

pub returns-clause-stands : goal.returns-clause-stands
returns-clause-stands g c = subst (λ p. StandsOn (staged_by {G = g.row.G.Denot} (record c.set_period.new.parts { rack = c.perform.new.rack }) c.perform.new.ensemble.nodes p.nodes) p) (sym (plan-noted c.note-self-inside.result.items c.args.plan.now c.note-self-inside.ensures))
    (subst (λ e. StandsOn (staged_by {G = g.row.G.Denot} (record c.set_period.new.parts { rack = c.perform.new.rack }) e c.args.plan.now.nodes) c.args.plan.now) (sym (ap (λ e. e.nodes) c.perform.ensures.crew)) stands)
  where
    goes : GoesOn (plan_in c.self.inside.plan.items) c.args.plan.now
    goes = record {
      planned_last = c.self.invariant.stands.stands.planned;
      planned = c.number-number.ensures.planned;
      base = c.requires.base ∙ ap (λ s. s.plan.base) (sym c.self.view_is);
      front = subst (λ changes. IsFront changes c.args.plan.now.changes) (ap (λ s. s.plan.changes) (sym c.self.view_is)) c.requires.front;
    }

    on : StandsOn (staged_by {G = g.row.G.Denot} c.self.inside.parts c.nodes-crew.result (plan_in c.self.inside.plan.items).nodes) (plan_in c.self.inside.plan.items)
    on = subst (λ k. StandsOn (staged_by {G = g.row.G.Denot} c.self.inside.parts k (plan_in c.self.inside.plan.items).nodes) (plan_in c.self.inside.plan.items)) (sym c.nodes-crew.ensures) c.self.invariant.stands

    by : StandsBy (staged_by {G = g.row.G.Denot} c.turn_to.new.parts c.self.inside.ensemble.nodes c.args.plan.now.nodes) c.args.plan.now
    by = subst (λ k. StandsBy (staged_by {G = g.row.G.Denot} c.turn_to.new.parts k c.args.plan.now.nodes) c.args.plan.now) c.nodes-crew.ensures (c.turn_to.ensures.stands (plan_in c.self.inside.plan.items) on goes c.self.invariant.number)

    casts : c.turn_to.new.parts.is_staffed ≡ true → Casts g.G.Guest.sound (staged_by {G = g.row.G.Denot} c.self.inside.parts c.self.inside.ensemble.nodes (plan_in c.self.inside.plan.items).nodes) (plan_in c.self.inside.plan.items) c.args.plan.now c.args.moment.now c.args.period (staged_by {G = g.row.G.Denot} c.turn_to.new.parts c.self.inside.ensemble.nodes c.args.plan.now.nodes)
    casts = subst (λ k. c.turn_to.new.parts.is_staffed ≡ true → Casts g.G.Guest.sound (staged_by {G = g.row.G.Denot} c.self.inside.parts k (plan_in c.self.inside.plan.items).nodes) (plan_in c.self.inside.plan.items) c.args.plan.now c.args.moment.now c.args.period (staged_by {G = g.row.G.Denot} c.turn_to.new.parts k c.args.plan.now.nodes)) c.nodes-crew.ensures (c.turn_to.ensures.cast (plan_in c.self.inside.plan.items) on goes c.self.invariant.number)

    the : Casts g.G.Guest.sound (staged_by {G = g.row.G.Denot} c.self.inside.parts c.self.inside.ensemble.nodes (plan_in c.self.inside.plan.items).nodes) (plan_in c.self.inside.plan.items) c.args.plan.now c.args.moment.now c.args.period (staged_by {G = g.row.G.Denot} c.turn_to.new.parts c.self.inside.ensemble.nodes c.args.plan.now.nodes)
    the = the-cast g.G.Guest.sound c.self.inside.parts c.turn_to.new.parts c.set_period.new.parts c.self.inside.ensemble.nodes c.args.period (plan_in c.self.inside.plan.items) c.args.plan.now c.args.moment.now by c.set_period.ensures.rest casts c.if-not-self.false

    silent : take c.args.period c.deref-2.result.now ≡ silence c.args.period
    silent = ap (take c.args.period) (c.deref-2.ensures.value ∙ c.self.invariant.silence) ∙ take-replicate c.args.period c.self.inside.parts.room (pos 0) (subst (λ k. c.args.period ≤ k) (ap (λ s. s.staged.room) (sym c.self.view_is)) c.requires.period)

    was : (filled : Racked) × (fed : Racked) × Fills (staged_by {G = g.row.G.Denot} c.turn_to.new.parts c.self.inside.ensemble.nodes c.args.plan.now.nodes) c.args.plan.now c.args.moment.now c.args.period c.args.capture.now.channels c.set_period.new.parts.last.items filled × Feeds c.args.plan.now c.args.disks.now filled fed × Performs g.G.Guest.sound fed c.args.plan.now c.self.inside.ensemble.nodes c.perform.new.rack
    was = subst (λ places. (filled : Racked) × (fed : Racked) × Fills (staged_by {G = g.row.G.Denot} c.turn_to.new.parts c.self.inside.ensemble.nodes c.args.plan.now.nodes) c.args.plan.now c.args.moment.now c.args.period c.args.capture.now.channels places filled × Feeds c.args.plan.now c.args.disks.now filled fed × Performs g.G.Guest.sound fed c.args.plan.now c.self.inside.ensemble.nodes c.perform.new.rack) c.deref.ensures.value
        (c.perform.ensures.performed (staged_by {G = g.row.G.Denot} c.turn_to.new.parts c.self.inside.ensemble.nodes c.args.plan.now.nodes) c.args.moment.now c.args.period the.sources (sym (ap (λ p. p.rack) c.set_period.ensures.rest)) silent (set-there g.G.Guest.sound c.self.inside.parts c.turn_to.new.parts c.set_period.new.parts c.self.inside.ensemble.nodes c.args.period (plan_in c.self.inside.plan.items) c.args.plan.now c.args.moment.now by c.set_period.ensures.rest casts c.if-not-self.false) (unused-there g.G.Guest.sound c.self.inside.parts c.turn_to.new.parts c.set_period.new.parts c.self.inside.ensemble.nodes c.args.period (plan_in c.self.inside.plan.items) c.args.plan.now c.args.moment.now by c.set_period.ensures.rest casts c.if-not-self.false))

    kinds : kinds_of c.perform.new.rack ≡ kinds_of c.turn_to.new.parts.rack
    kinds = c.a_stage_stands_behind_its_cycle.ensures.kinds g.G.Guest.sound (staged_by {G = g.row.G.Denot} c.self.inside.parts c.self.inside.ensemble.nodes (plan_in c.self.inside.plan.items).nodes) (plan_in c.self.inside.plan.items) c.args.plan.now c.args.moment.now c.args.period c.args.capture.now.channels (staged_by {G = g.row.G.Denot} c.turn_to.new.parts c.self.inside.ensemble.nodes c.args.plan.now.nodes) c.set_period.new.parts.last.items was.0 c.args.disks.now was.1 c.self.inside.ensemble.nodes c.perform.new.rack the was.2 was.3 was.4

    known : AreKnown c.args.plan.now c.perform.new.rack c.turn_to.new.parts.owners
    known = c.kinds_alone_count.ensures c.args.plan.now c.turn_to.new.parts.rack c.turn_to.new.parts.owners c.perform.new.rack by.known kinds

    stands : StandsOn (staged_by {G = g.row.G.Denot} (record c.set_period.new.parts { rack = c.perform.new.rack }) c.self.inside.ensemble.nodes c.args.plan.now.nodes) c.args.plan.now
    stands = stands-behind g.G.Guest.sound c.self.inside.parts c.turn_to.new.parts c.set_period.new.parts c.self.inside.ensemble.nodes c.args.period (plan_in c.self.inside.plan.items) c.args.plan.now c.args.moment.now by c.set_period.ensures.rest casts c.if-not-self.false c.args.capture.now.channels was.0 was.2 c.args.disks.now was.1 was.3 c.perform.new.rack was.4 known c.perform.ensures.rooms c.perform.ensures.links c.perform.ensures.others

pub returns-clause-performs : goal.returns-clause-performs
returns-clause-performs g c was_staffed now_staffed =
    subst (λ (s : OnStage). PerformsPlan g.G.Guest.sound s.staged s.plan c.args.plan.now c.args.moment.now c.args.period c.args.capture.now.channels c.args.disks.now (staged_by {G = g.row.G.Denot} record { rack = c.perform.new.rack; owners = c.set_period.new.parts.owners; wiring = c.set_period.new.parts.wiring; earlier = c.set_period.new.parts.earlier; last = c.set_period.new.parts.last; room = c.set_period.new.parts.room; period = c.set_period.new.parts.period; number = c.number-number.result; is_staffed = c.set_period.new.parts.is_staffed } c.perform.new.ensemble.nodes (plan_in c.note-self-inside.result.items).nodes)) c.self.view_is record {
      cast = staged_by {G = g.row.G.Denot} c.turn_to.new.parts c.self.inside.ensemble.nodes c.args.plan.now.nodes;
      places = c.set_period.new.parts.last.items;
      filled = was.0;
      fed = was.1;
      crew = c.self.inside.ensemble.nodes;
      casts = the;
      are_places = places;
      fills = was.2;
      feeds = was.3;
      performs = was.4;
      owned = ap (λ p. p.owners) c.set_period.ensures.rest;
    }
  where
    goes : GoesOn (plan_in c.self.inside.plan.items) c.args.plan.now
    goes = record {
      planned_last = c.self.invariant.stands.stands.planned;
      planned = c.number-number.ensures.planned;
      base = c.requires.base ∙ ap (λ s. s.plan.base) (sym c.self.view_is);
      front = subst (λ changes. IsFront changes c.args.plan.now.changes) (ap (λ s. s.plan.changes) (sym c.self.view_is)) c.requires.front;
    }

    on : StandsOn (staged_by {G = g.row.G.Denot} c.self.inside.parts c.nodes-crew.result (plan_in c.self.inside.plan.items).nodes) (plan_in c.self.inside.plan.items)
    on = subst (λ k. StandsOn (staged_by {G = g.row.G.Denot} c.self.inside.parts k (plan_in c.self.inside.plan.items).nodes) (plan_in c.self.inside.plan.items)) (sym c.nodes-crew.ensures) c.self.invariant.stands

    by : StandsBy (staged_by {G = g.row.G.Denot} c.turn_to.new.parts c.self.inside.ensemble.nodes c.args.plan.now.nodes) c.args.plan.now
    by = subst (λ k. StandsBy (staged_by {G = g.row.G.Denot} c.turn_to.new.parts k c.args.plan.now.nodes) c.args.plan.now) c.nodes-crew.ensures (c.turn_to.ensures.stands (plan_in c.self.inside.plan.items) on goes c.self.invariant.number)

    casts : c.turn_to.new.parts.is_staffed ≡ true → Casts g.G.Guest.sound (staged_by {G = g.row.G.Denot} c.self.inside.parts c.self.inside.ensemble.nodes (plan_in c.self.inside.plan.items).nodes) (plan_in c.self.inside.plan.items) c.args.plan.now c.args.moment.now c.args.period (staged_by {G = g.row.G.Denot} c.turn_to.new.parts c.self.inside.ensemble.nodes c.args.plan.now.nodes)
    casts = subst (λ k. c.turn_to.new.parts.is_staffed ≡ true → Casts g.G.Guest.sound (staged_by {G = g.row.G.Denot} c.self.inside.parts k (plan_in c.self.inside.plan.items).nodes) (plan_in c.self.inside.plan.items) c.args.plan.now c.args.moment.now c.args.period (staged_by {G = g.row.G.Denot} c.turn_to.new.parts k c.args.plan.now.nodes)) c.nodes-crew.ensures (c.turn_to.ensures.cast (plan_in c.self.inside.plan.items) on goes c.self.invariant.number)

    the : Casts g.G.Guest.sound (staged_by {G = g.row.G.Denot} c.self.inside.parts c.self.inside.ensemble.nodes (plan_in c.self.inside.plan.items).nodes) (plan_in c.self.inside.plan.items) c.args.plan.now c.args.moment.now c.args.period (staged_by {G = g.row.G.Denot} c.turn_to.new.parts c.self.inside.ensemble.nodes c.args.plan.now.nodes)
    the = the-cast g.G.Guest.sound c.self.inside.parts c.turn_to.new.parts c.set_period.new.parts c.self.inside.ensemble.nodes c.args.period (plan_in c.self.inside.plan.items) c.args.plan.now c.args.moment.now by c.set_period.ensures.rest casts c.if-not-self.false

    silent : take c.args.period c.deref-2.result.now ≡ silence c.args.period
    silent = ap (take c.args.period) (c.deref-2.ensures.value ∙ c.self.invariant.silence) ∙ take-replicate c.args.period c.self.inside.parts.room (pos 0) (subst (λ k. c.args.period ≤ k) (ap (λ s. s.staged.room) (sym c.self.view_is)) c.requires.period)

    was : (filled : Racked) × (fed : Racked) × Fills (staged_by {G = g.row.G.Denot} c.turn_to.new.parts c.self.inside.ensemble.nodes c.args.plan.now.nodes) c.args.plan.now c.args.moment.now c.args.period c.args.capture.now.channels c.set_period.new.parts.last.items filled × Feeds c.args.plan.now c.args.disks.now filled fed × Performs g.G.Guest.sound fed c.args.plan.now c.self.inside.ensemble.nodes c.perform.new.rack
    was = subst (λ places. (filled : Racked) × (fed : Racked) × Fills (staged_by {G = g.row.G.Denot} c.turn_to.new.parts c.self.inside.ensemble.nodes c.args.plan.now.nodes) c.args.plan.now c.args.moment.now c.args.period c.args.capture.now.channels places filled × Feeds c.args.plan.now c.args.disks.now filled fed × Performs g.G.Guest.sound fed c.args.plan.now c.self.inside.ensemble.nodes c.perform.new.rack) c.deref.ensures.value
        (c.perform.ensures.performed (staged_by {G = g.row.G.Denot} c.turn_to.new.parts c.self.inside.ensemble.nodes c.args.plan.now.nodes) c.args.moment.now c.args.period the.sources (sym (ap (λ p. p.rack) c.set_period.ensures.rest)) silent (set-there g.G.Guest.sound c.self.inside.parts c.turn_to.new.parts c.set_period.new.parts c.self.inside.ensemble.nodes c.args.period (plan_in c.self.inside.plan.items) c.args.plan.now c.args.moment.now by c.set_period.ensures.rest casts c.if-not-self.false) (unused-there g.G.Guest.sound c.self.inside.parts c.turn_to.new.parts c.set_period.new.parts c.self.inside.ensemble.nodes c.args.period (plan_in c.self.inside.plan.items) c.args.plan.now c.args.moment.now by c.set_period.ensures.rest casts c.if-not-self.false))

    places : ArePlaces (staged_by {G = g.row.G.Denot} c.self.inside.parts c.self.inside.ensemble.nodes (plan_in c.self.inside.plan.items).nodes) (staged_by {G = g.row.G.Denot} c.turn_to.new.parts c.self.inside.ensemble.nodes c.args.plan.now.nodes) c.args.period c.set_period.new.parts.last.items
    places = places-there g.G.Guest.sound c.self.inside.parts c.turn_to.new.parts c.set_period.new.parts c.self.inside.ensemble.nodes c.args.period (plan_in c.self.inside.plan.items) c.args.plan.now c.args.moment.now by c.set_period.ensures.rest casts c.if-not-self.false c.turn_to.ensures.same.1 c.set_period.ensures.same c.set_period.ensures.other

pub returns-clause-kinds : goal.returns-clause-kinds
returns-clause-kinds g c = subst (λ (s : OnStage). IsPermutation (kinds_of s.staged.racked) (kinds_of c.perform.new.rack)) c.self.view_is (kinds-behind g.G.Guest.sound c.self.inside.parts c.turn_to.new.parts c.set_period.new.parts c.self.inside.ensemble.nodes c.args.period (plan_in c.self.inside.plan.items) c.args.plan.now c.args.moment.now by c.set_period.ensures.rest casts c.if-not-self.false c.args.capture.now.channels was.0 was.2 c.args.disks.now was.1 was.3 c.perform.new.rack was.4 kinds c.turn_to.ensures.kinds)
  where
    goes : GoesOn (plan_in c.self.inside.plan.items) c.args.plan.now
    goes = record {
      planned_last = c.self.invariant.stands.stands.planned;
      planned = c.number-number.ensures.planned;
      base = c.requires.base ∙ ap (λ s. s.plan.base) (sym c.self.view_is);
      front = subst (λ changes. IsFront changes c.args.plan.now.changes) (ap (λ s. s.plan.changes) (sym c.self.view_is)) c.requires.front;
    }

    on : StandsOn (staged_by {G = g.row.G.Denot} c.self.inside.parts c.nodes-crew.result (plan_in c.self.inside.plan.items).nodes) (plan_in c.self.inside.plan.items)
    on = subst (λ k. StandsOn (staged_by {G = g.row.G.Denot} c.self.inside.parts k (plan_in c.self.inside.plan.items).nodes) (plan_in c.self.inside.plan.items)) (sym c.nodes-crew.ensures) c.self.invariant.stands

    by : StandsBy (staged_by {G = g.row.G.Denot} c.turn_to.new.parts c.self.inside.ensemble.nodes c.args.plan.now.nodes) c.args.plan.now
    by = subst (λ k. StandsBy (staged_by {G = g.row.G.Denot} c.turn_to.new.parts k c.args.plan.now.nodes) c.args.plan.now) c.nodes-crew.ensures (c.turn_to.ensures.stands (plan_in c.self.inside.plan.items) on goes c.self.invariant.number)

    casts : c.turn_to.new.parts.is_staffed ≡ true → Casts g.G.Guest.sound (staged_by {G = g.row.G.Denot} c.self.inside.parts c.self.inside.ensemble.nodes (plan_in c.self.inside.plan.items).nodes) (plan_in c.self.inside.plan.items) c.args.plan.now c.args.moment.now c.args.period (staged_by {G = g.row.G.Denot} c.turn_to.new.parts c.self.inside.ensemble.nodes c.args.plan.now.nodes)
    casts = subst (λ k. c.turn_to.new.parts.is_staffed ≡ true → Casts g.G.Guest.sound (staged_by {G = g.row.G.Denot} c.self.inside.parts k (plan_in c.self.inside.plan.items).nodes) (plan_in c.self.inside.plan.items) c.args.plan.now c.args.moment.now c.args.period (staged_by {G = g.row.G.Denot} c.turn_to.new.parts k c.args.plan.now.nodes)) c.nodes-crew.ensures (c.turn_to.ensures.cast (plan_in c.self.inside.plan.items) on goes c.self.invariant.number)

    the : Casts g.G.Guest.sound (staged_by {G = g.row.G.Denot} c.self.inside.parts c.self.inside.ensemble.nodes (plan_in c.self.inside.plan.items).nodes) (plan_in c.self.inside.plan.items) c.args.plan.now c.args.moment.now c.args.period (staged_by {G = g.row.G.Denot} c.turn_to.new.parts c.self.inside.ensemble.nodes c.args.plan.now.nodes)
    the = the-cast g.G.Guest.sound c.self.inside.parts c.turn_to.new.parts c.set_period.new.parts c.self.inside.ensemble.nodes c.args.period (plan_in c.self.inside.plan.items) c.args.plan.now c.args.moment.now by c.set_period.ensures.rest casts c.if-not-self.false

    silent : take c.args.period c.deref-2.result.now ≡ silence c.args.period
    silent = ap (take c.args.period) (c.deref-2.ensures.value ∙ c.self.invariant.silence) ∙ take-replicate c.args.period c.self.inside.parts.room (pos 0) (subst (λ k. c.args.period ≤ k) (ap (λ s. s.staged.room) (sym c.self.view_is)) c.requires.period)

    was : (filled : Racked) × (fed : Racked) × Fills (staged_by {G = g.row.G.Denot} c.turn_to.new.parts c.self.inside.ensemble.nodes c.args.plan.now.nodes) c.args.plan.now c.args.moment.now c.args.period c.args.capture.now.channels c.set_period.new.parts.last.items filled × Feeds c.args.plan.now c.args.disks.now filled fed × Performs g.G.Guest.sound fed c.args.plan.now c.self.inside.ensemble.nodes c.perform.new.rack
    was = subst (λ places. (filled : Racked) × (fed : Racked) × Fills (staged_by {G = g.row.G.Denot} c.turn_to.new.parts c.self.inside.ensemble.nodes c.args.plan.now.nodes) c.args.plan.now c.args.moment.now c.args.period c.args.capture.now.channels places filled × Feeds c.args.plan.now c.args.disks.now filled fed × Performs g.G.Guest.sound fed c.args.plan.now c.self.inside.ensemble.nodes c.perform.new.rack) c.deref.ensures.value
        (c.perform.ensures.performed (staged_by {G = g.row.G.Denot} c.turn_to.new.parts c.self.inside.ensemble.nodes c.args.plan.now.nodes) c.args.moment.now c.args.period the.sources (sym (ap (λ p. p.rack) c.set_period.ensures.rest)) silent (set-there g.G.Guest.sound c.self.inside.parts c.turn_to.new.parts c.set_period.new.parts c.self.inside.ensemble.nodes c.args.period (plan_in c.self.inside.plan.items) c.args.plan.now c.args.moment.now by c.set_period.ensures.rest casts c.if-not-self.false) (unused-there g.G.Guest.sound c.self.inside.parts c.turn_to.new.parts c.set_period.new.parts c.self.inside.ensemble.nodes c.args.period (plan_in c.self.inside.plan.items) c.args.plan.now c.args.moment.now by c.set_period.ensures.rest casts c.if-not-self.false))

    kinds : kinds_of c.perform.new.rack ≡ kinds_of c.turn_to.new.parts.rack
    kinds = c.a_stage_stands_behind_its_cycle.ensures.kinds g.G.Guest.sound (staged_by {G = g.row.G.Denot} c.self.inside.parts c.self.inside.ensemble.nodes (plan_in c.self.inside.plan.items).nodes) (plan_in c.self.inside.plan.items) c.args.plan.now c.args.moment.now c.args.period c.args.capture.now.channels (staged_by {G = g.row.G.Denot} c.turn_to.new.parts c.self.inside.ensemble.nodes c.args.plan.now.nodes) c.set_period.new.parts.last.items was.0 c.args.disks.now was.1 c.self.inside.ensemble.nodes c.perform.new.rack the was.2 was.3 was.4
