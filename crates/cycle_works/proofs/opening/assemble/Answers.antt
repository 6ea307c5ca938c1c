use Rattle.std.proofs.Common.{false, map, None, refl, sym, ◌∙◌, ap, subst}
use Rattle.jack_types.specs.declared.scripts.Header.{Header}
use Rattle.midi_stage.specs.Standing.{OnMidi}
use Rattle.midi_stage.specs.driver_laws.specs.Openings.{IsNew}
use Rattle.cycle_laws.specs.Gears.{driver_of}
use Rattle.cycle_works.specs.Insides.{gear_of}
use Rattle.cycle_works.proofs.InsideLemmas.{script-noted, whole-new}
use Rattle.cycle_works.proofs.OpeningLemmas.{IsGear-new, IsNew-gear, parts-made}
use Rattle.cycle_works.proofs.opening.assemble.Goals as goal

pub invariant_of-result : goal.invariant_of-result
invariant_of-result g c =
    whole-new g.G.Guest.sound _ c.args.script.now c.note.ensures
    (IsGear-new g.G.Guest.sound (gear_of {S = g.row.S.Denot} {G = g.row.G.Denot} c.args.script.now None false (parts-made c.args.reader c.args.capture c.args.made c.header.result.period)) c.args.made.stage.staged.owned.scores c.requires.lawful c.requires.made.stage c.requires.guests c.requires.made.outfit.transport c.requires.made.outfit.rings c.requires.made.outfit.lists.numbers.none c.requires.made.outfit.lists.moments.none c.requires.capture (ap (λ (m : OnMidi). m.heard) c.requires.made.outfit.midi) (c.what_is_carried.ensures.first c.args.script.now c.args.made.stage.plan 0) c.requires.made.outfit.disks (c.new_disks_are_ready.ensures.periods _ _ _ _ c.args.made.outfit.disks c.requires.made.outfit.disks))
    c.requires.made.outfit.lists.numbers.enough c.requires.made.outfit.lists.moments.enough
    (ap (λ (m : OnMidi). m.script) c.requires.made.outfit.midi)
    (ap (λ (m : OnMidi). m.changes) c.requires.made.outfit.midi ∙ sym c.requires.made.stage.opening.changes)

pub returns-clause-new : goal.returns-clause-new
returns-clause-new g c =
    subst (λ s. IsNew c.args.script.now (map g.G.Guest.sound c.args.made.stage.staged.owned.scores) (driver_of g.G.Guest.sound (gear_of {S = g.row.S.Denot} {G = g.row.G.Denot} s None false (parts-made c.args.reader c.args.capture c.args.made c.header.result.period)))) (sym (script-noted c.note.result.items c.args.script.now c.note.ensures))
    (IsNew-gear g.G.Guest.sound (gear_of {S = g.row.S.Denot} {G = g.row.G.Denot} c.args.script.now None false (parts-made c.args.reader c.args.capture c.args.made c.header.result.period)) c.args.made.stage.staged.owned.scores c.requires.lawful c.requires.made.stage c.requires.guests c.requires.made.outfit.transport c.requires.made.outfit.rings c.requires.made.outfit.lists.numbers.none c.requires.made.outfit.lists.moments.none c.requires.capture (ap (λ (m : OnMidi). m.heard) c.requires.made.outfit.midi) (c.what_is_carried.ensures.first c.args.script.now c.args.made.stage.plan 0) c.requires.made.outfit.disks (c.new_disks_are_ready.ensures.periods _ _ _ _ c.args.made.outfit.disks c.requires.made.outfit.disks) c.requires.rows refl (ap (λ (h : Header). h.period) c.header.ensures.value) refl)
