use Rattle.std.proofs.Common.{◌≡◌, ◌∙◌, refl, sym, subst}
use Rattle.std.proofs.lemmas.Option.{same_Some}
use Rattle.driver_words.specs.Tapes.{Tape}
use Rattle.recorder_files.specs.Recorders.{Stored}
use Rattle.session_ends.specs.Closings.{PlaybackCloses}
use Rattle.session_ends.proofs.closing.close_playback.Goals as goal

pub returns-clause-back : goal.returns-clause-back
returns-clause-back g c tape is =
    let store = c.finish-store.result.0 in let ends = c.finish-store.ensures in
    let back : Stored = record { name = g.W.Store.name store; bytes = g.W.Store.content store; faults = g.W.Store.faults store } in
    let same : c.in-Some.file ≡ tape = same_Some c.in-Some.file tape (sym c.in-Some.is ∙ c.close.ensures.file ∙ is) in (
      back,
      refl,
      subst (λ (t : Tape). PlaybackCloses c.finish-store.result.1 t back) same
          (record { later = record { name = ends.name; tells = ends.tells; faults = ends.cause.later }; whole = ends.finished; broken = ends.front; rose = ends.cause.failed }),
    )
