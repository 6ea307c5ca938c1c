-- The fields of the works.
--     script-noted      the script that was noted
--     whole-new      what stays true of the fields of new works
use Rattle.std.proofs.Common.{◌≡◌, ◌≤◌, List, [], ◌∷◌, length, None, sym, ◌∙◌, ap, subst}
use Rattle.std.specs.Vec.{vec_capacity}
use Rattle.session_model.specs.Scripts.{Script, turns}
use Rattle.session_model.specs.Kinds.{Sound}
use Rattle.client_kinds.specs.Scores.{Score}
use Rattle.cycle_laws.specs.Gears.{IsGear}
use Rattle.cycle_works.specs.Insides.{IsWhole, gear_of, script_in}
use Rattle.cycle_works.specs.declared.works.Works.TheInside.{Inside}

pub script-noted : (noted : List (Unit {0} × Script)) (script : Script) → noted ≡ (tt, script) ∷ [] → script_in noted ≡ script
script-noted noted script e = ap script_in e

pub whole-new : (sounding : Score → Sound) → {S G : Type 0} (works : Inside S G) (script : Script) → works.script.items ≡ (tt, script) ∷ [] → IsGear sounding (gear_of script None works.failed works.parts) → length (turns script) ≤ vec_capacity works.parts.numbers → length (turns script) ≤ vec_capacity works.parts.moments
    → works.parts.midi.script ≡ script → works.parts.midi.changes ≡ works.parts.stage.plan.changes → IsWhole sounding works
whole-new sounding works script noted gear numbers moments midi_script midi_changes = record {
  gear = subst (λ s. IsGear sounding (gear_of s None works.failed works.parts)) (sym (script-noted works.script.items script noted)) gear;
  numbers = subst (λ (s : Script). length (turns s) ≤ vec_capacity works.parts.numbers) (sym (script-noted works.script.items script noted)) numbers;
  moments = subst (λ (s : Script). length (turns s) ≤ vec_capacity works.parts.moments) (sym (script-noted works.script.items script noted)) moments;
  midi_script = midi_script ∙ sym (script-noted works.script.items script noted);
  midi_changes = midi_changes;
}
