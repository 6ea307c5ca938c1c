use Rattle.std.proofs.Common.{◌≡◌, Bool, true, false, ap, refl, subst, sym, ◌∙◌}
use Rattle.midi_stage.specs.Insides.{Stands, staged_by}
use Rattle.midi_stage.specs.Stages.{PlaysMidi, heard_in}
use Rattle.midi_stage.specs.Standing.{HearsNobody}
use Rattle.midi_stage.specs.declared.parts.Parts.{Parts}
use Rattle.midi_stage.proofs.PartLemmas.{Stands-cleared, Stands-exchanged, Stands-played, free-turned, known-turned, room-turned, seats-apart}
use Rattle.midi_stage.proofs.PerformLemmas.{HearsNobody-performed, PlaysMidi-performed}
use Rattle.midi_stage.proofs.performing.perform.Goals as goal
use Rattle.midi_stage.proofs.performing.perform.Goals.{then-parts, else-parts}

untrue : (b : Bool) → b ≡ true → b ≡ false → ⊥
untrue b e f = cc

pub play_all-requires-clause-turned : goal.play_all-requires-clause-turned
play_all-requires-clause-turned c = (c.turn_to.ensures c.requires.stands.0 (Stands-exchanged c.args.has_same_period c.args.parts.now c.exchange.new.sounds c.exchange.ensures c.requires.stands.0 c.requires.stands.1) c.requires.stands.2).turned

pub play_all-requires-clause-seated : goal.play_all-requires-clause-seated
play_all-requires-clause-seated c =
    let before = Stands-exchanged c.args.has_same_period c.args.parts.now c.exchange.new.sounds c.exchange.ensures c.requires.stands.0 c.requires.stands.1 in
    let t = c.turn_to.ensures c.requires.stands.0 before c.requires.stands.2 in
    seats-apart c.args.plan.now c.turn_to.new.parts t.turned (room-turned c.args.plan.now _ c.turn_to.new.parts t before.room) (known-turned c.args.plan.now _ c.turn_to.new.parts t) c.if-parts.true

pub returns-clause-stands : goal.returns-clause-stands
returns-clause-stands c last stands goes =
    let before = Stands-exchanged c.args.has_same_period c.args.parts.now c.exchange.new.sounds c.exchange.ensures last stands in
    let t = c.turn_to.ensures last before goes in
    let room = room-turned c.args.plan.now _ c.turn_to.new.parts t before.room in
    let known = known-turned c.args.plan.now _ c.turn_to.new.parts t in
    let free = free-turned c.args.plan.now _ c.turn_to.new.parts t before.free in
    elim c.if-parts.branch [
      | then-parts w ↦ subst (Stands c.args.plan.now) (sym w.parts-is)
          (Stands-played c.args.plan.now c.args.moment.now c.args.period c.turn_to.new.parts w.play_all.new.parts w.play_all.ensures t.turned t.number room known free w.if-parts.true)
      | else-parts w ↦ subst (Stands c.args.plan.now) (sym w.parts-is) (Stands-cleared c.turn_to.new.parts _ refl c.args.plan.now w.clear.ensures.capacity t.turned t.number room known free)
    ]

pub returns-clause-plays : goal.returns-clause-plays
returns-clause-plays c last before stands goes same staffed =
    let exchanged = Stands-exchanged c.args.has_same_period c.args.parts.now c.exchange.new.sounds c.exchange.ensures last stands in
    let t = c.turn_to.ensures last exchanged goes in
    let after = returns-clause-stands c last stands goes in
    elim c.if-parts.branch [
      | then-parts w ↦ subst (λ (parts : Parts). PlaysMidi (staged_by before c.args.parts.now) c.args.plan.now c.args.moment.now c.args.period (staged_by c.args.period parts)) (sym w.parts-is)
          (PlaysMidi-performed last c.args.plan.now c.args.moment.now before c.args.period c.args.has_same_period same c.args.parts.now c.turn_to.new.parts c.exchange.new.sounds stands c.exchange.ensures t
          w.play_all.new.parts (subst (Stands c.args.plan.now) w.parts-is after) w.if-parts.true w.play_all.ensures)
      | else-parts w ↦ absurd (untrue c.turn_to.new.parts.is_staffed (sym (ap (λ (parts : Parts). parts.is_staffed) w.parts-is) ∙ staffed) w.if-parts.false)
    ]

pub returns-clause-rests : goal.returns-clause-rests
returns-clause-rests c last before stands goes same refused =
    let exchanged = Stands-exchanged c.args.has_same_period c.args.parts.now c.exchange.new.sounds c.exchange.ensures last stands in
    let t = c.turn_to.ensures last exchanged goes in
    let after = returns-clause-stands c last stands goes in
    elim c.if-parts.branch [
      | then-parts w ↦ absurd (untrue c.turn_to.new.parts.is_staffed w.if-parts.true (sym (ap (λ (parts : Parts). parts.is_staffed) w.play_all.ensures.same) ∙ sym (ap (λ (parts : Parts). parts.is_staffed) w.parts-is) ∙ refused))
      | else-parts w ↦ subst (λ (parts : Parts). HearsNobody (heard_in (staged_by before c.args.parts.now)) c.args.period (heard_in (staged_by c.args.period parts))) (sym w.parts-is)
          (HearsNobody-performed last c.args.plan.now c.args.moment.now before c.args.period c.args.has_same_period same c.args.parts.now c.turn_to.new.parts c.exchange.new.sounds stands c.exchange.ensures t
          _ (subst (Stands c.args.plan.now) w.parts-is after) w.if-parts.false refl w.clear.ensures.items)
    ]
