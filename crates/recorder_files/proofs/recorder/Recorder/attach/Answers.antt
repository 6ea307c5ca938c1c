use Rattle.std.proofs.Common.{ap, subst, Some, IfSome}
use Rattle.driver_words.specs.Tapes.{IsCut}
use Rattle.recorder_files.specs.Recorders.{Recording, Stored}
use Rattle.recorder_files.proofs.recorder.Recorder.attach.Goals as goal

pub returns-in-Err-clause-kept : goal.returns-in-Err-clause-kept
returns-in-Err-clause-kept g c =
    let store = c.in-Err.back in let start = c.in-Err.ensures in
    let back : Stored = record { name = g.W.Store.name store; bytes = g.W.Store.content store; faults = g.W.Store.faults store } in (
      back,
      ap (λ (r : Recording). record r { store = Some back }) c.self.view_is,
      subst (λ (r : Recording). IfSome back.bytes (IsCut r.format)) c.self.view_is start.front,
      start.back.0,
      start.back.1,
      start.cause.0,
      start.cause.1,
    )
