use Rattle.std.proofs.Common.{[], ap, get_or, refl, sym, ◌∙◌}
use Rattle.driver_words.specs.Hearings.{carried_at}
use Rattle.midi_stage.proofs.laws.what_is_carried.Goals as goal

pub returns-clause-first : goal.returns-clause-first
returns-clause-first c script plan period = record { given = λ given m. refl; others = λ birth none. refl }

pub returns-clause-nobody : goal.returns-clause-nobody
returns-clause-nobody c old new plan period rests = record {
  given = λ given m. ap (λ carried. carried_at carried given.birth) rests.carried ∙ sym (ap (λ played. get_or played given.node []) rests.played);
  others = λ birth none. ap (λ carried. carried_at carried birth) rests.carried;
}
