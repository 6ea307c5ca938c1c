use Rattle.std.proofs.Common.{◌≡◌, ◌∙◌, List, Some, IfSome, OnErr, OnOk, is_some, sym, ap, subst}
use Rattle.std.specs.Prelude.{ℤ}
use Rattle.jack_host.specs.Causes.{HasCause}
use Rattle.session_model.specs.WaveFiles.{wave_text}
use Rattle.driver_words.specs.Tapes.{HasFront, HasSamples, Tape}
use Rattle.recorder_files.specs.Recorders.{Recording, Stored}
use Rattle.recorder_files.proofs.Closings.{closed-is}
use Rattle.recorder_files.proofs.recorder.Recorder.close.Goals as goal

pub returns : goal.returns
returns g c =
    let store = c.finish-store.result.0 in let finished = c.finish-store.result.1 in let ends = c.finish-store.ensures in
    let back : Stored = record { name = g.W.Store.name store; bytes = g.W.Store.content store; faults = g.W.Store.faults store } in
    record {
      closed = λ tape is.
          let taken : Some c.in-Some.file ≡ c.self.inside.file = sym c.in-Some.is ∙ c.take.ensures.value in
          let told : c.self.inside.file ≡ Some tape = ap (λ (r : Recording). r.tape) c.self.view_is ∙ is in
          let same : c.in-Some.file ≡ tape = cc in (
            back,
            closed-is _ c.args.self.now c.take.new.self back c.self.view_is c.take.ensures.after,
            ends.name ∙ ap (λ (t : Tape). t.name) same,
            ends.tells ∙ ap (λ (t : Tape). is_some t.bytes) same,
            subst (λ (t : Tape). HasCause t.faults back.faults finished) same ends.cause,
            subst (λ (t : Tape). OnOk finished ((samples : List ℤ) → HasSamples t samples → IfSome back.bytes (λ text. text ≡ wave_text t.format samples))) same ends.finished,
            subst (λ (t : Tape). OnErr finished ((samples : List ℤ) → HasSamples t samples → HasFront t.format samples back.bytes)) same ends.front,
          );
    }
