use Rattle.std.proofs.Common.{[], ap, subst, sym, ◌∙◌}
use Rattle.session_model.specs.Scripts.{Script}
use Rattle.midi_stage.specs.Insides.{HavePartsOf, no_plan, plan_in, script_in, seen_by}
use Rattle.midi_stage.specs.Standing.{OnMidi}
use Rattle.midi_stage.proofs.OpeningLemmas.{heard-new, parts-new}
use Rattle.midi_stage.proofs.stage.MidiStage.new.Goals as goal

pub invariant_of-result : goal.invariant_of-result
invariant_of-result c = record {
  base = ap (λ noted. (plan_in (script_in c.note_script.result.items) noted).base) c.new.ensures;
  parts = subst (λ noted. HavePartsOf (script_in c.note_script.result.items) (plan_in (script_in c.note_script.result.items) noted) c.in_ok-parts.parts) (sym c.new.ensures)
      (subst (λ (script : Script). HavePartsOf script (no_plan script) c.in_ok-parts.parts) (sym (ap script_in c.note_script.ensures))
      (parts-new c.args.script.now (no_plan c.args.script.now) c.in_ok-parts.parts (c.owners_are_known.ensures.first []) c.in_ok-parts.ensures.parts));
}

pub returns : goal.returns
returns c =
    ap (λ noted. seen_by (script_in c.note_script.result.items) noted 0 c.in_ok-parts.parts) c.new.ensures
    ∙ ap (λ (script : Script). seen_by script [] 0 c.in_ok-parts.parts) (ap script_in c.note_script.ensures)
    ∙ ap (λ heard. (let seen : OnMidi = record { script = c.args.script.now; changes = []; heard = heard } in seen)) (heard-new c.args.script.now c.in_ok-parts.parts c.in_ok-parts.ensures.parts)
