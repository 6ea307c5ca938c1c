use Rattle.std.proofs.Common.{◌∙◌, sym, ap, subst}
use Rattle.rehearsal_laws.specs.Lines.{lines_drawn}
use Rattle.rehearsal_laws.proofs.ScriptLemmas.{lines-drawn, samples-drawn}
use Rattle.rehearsal_model.specs.Rehearsals.{capture_samples, drawn, rehearsal_format, sample_drawn}
use Rattle.session_model.specs.WaveFiles.{AreWritable, wave_text}
use Rattle.rehearsals.specs.Texts.{text_by}
use Rattle.rehearsals.proofs.rehearsal.Rehearsal.make.Goals as goal

pub file_of-requires : goal.file_of-requires
file_of-requires c =
    subst (AreWritable rehearsal_format)
    (sym (c.deref.ensures.value ∙ c.in-Ok-draw_samples.ensures.items ∙ ap (λ h. (drawn sample_drawn capture_samples 0 h).0) (c.in-Ok.ensures.behind ∙ ap (λ h. (lines_drawn h).1) c.generator-rng.ensures) ∙ samples-drawn c.args.number))
    (c.rehearsal_is_a_wave.ensures.writable c.args.number)

pub returns-clause-script : goal.returns-clause-script
returns-clause-script c = c.in-Ok.ensures.text ∙ ap text_by (ap (λ h. (lines_drawn h).0) c.generator-rng.ensures ∙ lines-drawn c.args.number)

pub returns-clause-capture : goal.returns-clause-capture
returns-clause-capture c =
    c.in_ok-capture.ensures
    ∙ ap (wave_text rehearsal_format) (c.deref.ensures.value ∙ c.in-Ok-draw_samples.ensures.items ∙ ap (λ h. (drawn sample_drawn capture_samples 0 h).0) (c.in-Ok.ensures.behind ∙ ap (λ h. (lines_drawn h).1) c.generator-rng.ensures) ∙ samples-drawn c.args.number)
