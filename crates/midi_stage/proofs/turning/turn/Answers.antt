use Rattle.std.proofs.Common.{Some, ap, refl}
use Rattle.midi_stage.specs.Insides.{kinds_in}
use Rattle.midi_stage.specs.declared.parts.Parts.{Parts}
use Rattle.midi_stage.proofs.TurnLemmas.{TurnsTo-turn}
use Rattle.midi_stage.proofs.turning.turn.Goals as goal

pub returns : goal.returns
returns c known =
    TurnsTo-turn c.args.plan.now c.number-number.ensures.planned c.args.parts.now turned (ap Some c.number-number.ensures.value) c.fill.ensures.wired
    c.seat_plan-parts.ensures.all c.seat_plan-parts.ensures.some c.seat_plan-parts.ensures.none c.seat_plan-parts.ensures.room refl
    (λ seats all. c.owners_are_known.ensures.all c.args.plan.now (kinds_in c.args.parts.now) seats c.args.parts.now.owners.items c.seat_plan-parts.new.owners.items c.number-number.ensures.planned known all)
    (λ seats some. c.owners_are_known.ensures.some c.args.plan.now (kinds_in c.args.parts.now) seats c.args.parts.now.owners.items c.seat_plan-parts.new.owners.items c.number-number.ensures.planned known some)
    (λ seats all. c.a_plan_is_seated.ensures.all c.args.plan.now seats c.args.parts.now.owners.items c.seat_plan-parts.new.owners.items all)
    (λ seats some. c.a_plan_is_seated.ensures.some c.args.plan.now seats c.args.parts.now.owners.items c.seat_plan-parts.new.owners.items some)
  where
    turned : Parts
    turned = record c.args.parts.now {
      owners = c.seat_plan-parts.new.owners;
      sounds = record c.args.parts.now.sounds { seats = c.seat_plan-parts.new.seats };
      wiring = c.fill.new.self;
      number = Some c.number-number.result;
      is_staffed = c.seat_plan-parts.result;
    }
