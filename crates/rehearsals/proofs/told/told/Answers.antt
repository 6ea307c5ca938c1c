use Rattle.std.proofs.Common.{◌≡◌, List, ℤ, map, of_z, to_z, w64, ◌∙◌, ap, rules}
use Rattle.std.specs.Prelude.{count_by}
use Rattle.jack_types.specs.declared.replies.Entry.{Entry}
use Rattle.rehearsal_model.specs.Rehearsals.{greatest, is_refused}
use Rattle.session_model.specs.Samples.{down, samples_of, total}
use Rattle.rehearsals.specs.Summaries.{summary_of, units_behind}
use Rattle.rehearsals.proofs.SummaryLemmas.{behind, few_samples}
use Rattle.rehearsals.proofs.told.told.Goals as goal

pub sum_of-requires : goal.sum_of-requires
sum_of-requires c = few_samples c.deref-2.result.now _ c.args.playback.now (c.deref-2.ensures.value ∙ c.in-Ok.ensures) (behind c.args.playback.now) c.requires.few

pub returns : goal.returns
returns c =
    let sum : to_z w64 (of_z w64 c.sum_of.result) ≡ c.sum_of.result = search rules in
    c.lines_of.ensures
    ∙ ap (λ sum. summary_of c.args.number c.refused_in.result c.peak_of.result sum) sum
    ∙ ap (λ refused. summary_of c.args.number refused c.peak_of.result c.sum_of.result) c.refused_in.ensures
    ∙ ap (λ peak. summary_of c.args.number (count_by (λ (entry : Entry). is_refused entry.reply) c.args.history.now) peak c.sum_of.result)
    (c.peak_of.ensures ∙ ap (λ (xs : List ℤ). greatest (map (down 16) xs)) (c.deref.ensures.value ∙ c.in-Ok.ensures ∙ ap (samples_of 16) (behind c.args.playback.now)))
    ∙ ap (λ sum. summary_of c.args.number (count_by (λ (entry : Entry). is_refused entry.reply) c.args.history.now) (greatest (units_behind c.args.playback.now)) sum)
    (c.sum_of.ensures ∙ ap (λ (xs : List ℤ). total (map (down 16) xs)) (c.deref-2.ensures.value ∙ c.in-Ok.ensures ∙ ap (samples_of 16) (behind c.args.playback.now)))
