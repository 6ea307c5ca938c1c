use Rattle.std.proofs.Common.{◌≡◌, ◌%◌, ap, subst, length, List, ℤ, map, ◌∙◌}
use Rattle.std.specs.Prelude.{All, IfSome, OnErr, OnOk, is_some}
use Rattle.std.specs.Int.{w32}
use Rattle.std.specs.Int.RustNames.{FitsSigned}
use Rattle.driver_words.specs.session_model.specs.Samples.{down, up}
use Rattle.driver_words.specs.session_model.specs.WaveFiles.{IsWave, opening_text, wave_text}
use Rattle.driver_words.specs.Tapes.{AreInOrder, HasFront, HasSamples, Tape}
use Rattle.wave_write.proofs.TapeLemmas.{finish_front, finish_order, finish_tells, finish_text, finish_wave}
use Rattle.wave_write.proofs.tape.WaveOut.finish.Goals as goal

pub returns-clause-finished : goal.returns-clause-finished
returns-clause-finished g c =
    subst (λ (t : Tape). OnOk c.complete-result.result ((samples : List ℤ) → HasSamples t samples → IfSome (g.W.Store.content c.complete-result.new.store) (λ text. text ≡ wave_text t.format samples))) c.self.view_is
    (finish_text c.complete-result.result (record {
      format = c.self.inside.format;
      name = g.W.Store.name c.self.inside.store;
      bytes = g.W.Store.content c.self.inside.store;
      faults = g.W.Store.faults c.self.inside.store;
      written = c.self.inside.written;
      stopped = c.self.inside.stopped;
    }) (g.W.Store.content c.complete-result.new.store) c.complete-result.ensures.finished)

pub returns-clause-front : goal.returns-clause-front
returns-clause-front g c =
    subst (λ (t : Tape). OnErr c.complete-result.result ((samples : List ℤ) → HasSamples t samples → HasFront t.format samples (g.W.Store.content c.complete-result.new.store))) c.self.view_is
    (finish_front c.complete-result.result (record {
      format = c.self.inside.format;
      name = g.W.Store.name c.self.inside.store;
      bytes = g.W.Store.content c.self.inside.store;
      faults = g.W.Store.faults c.self.inside.store;
      written = c.self.inside.written;
      stopped = c.self.inside.stopped;
    }) (g.W.Store.content c.complete-result.new.store) c.complete-result.ensures.part)

pub returns-clause-order : goal.returns-clause-order
returns-clause-order g c =
    subst (λ (t : Tape). OnErr c.complete-result.result ((samples : List ℤ) → HasSamples t samples → IfSome (g.W.Store.content c.complete-result.new.store) (AreInOrder (opening_text t.format) (wave_text t.format samples)))) c.self.view_is
    (finish_order c.complete-result.result (record {
      format = c.self.inside.format;
      name = g.W.Store.name c.self.inside.store;
      bytes = g.W.Store.content c.self.inside.store;
      faults = g.W.Store.faults c.self.inside.store;
      written = c.self.inside.written;
      stopped = c.self.inside.stopped;
    }) (g.W.Store.content c.complete-result.new.store) c.complete-result.ensures.part)

pub returns-clause-wave : goal.returns-clause-wave
returns-clause-wave g c =
    subst (λ (t : Tape). OnOk c.complete-result.result ((samples : List ℤ) → HasSamples t samples → length samples % t.format.channels ≡ 0 → All (FitsSigned w32) samples
    → IfSome (g.W.Store.content c.complete-result.new.store) (λ text. IsWave text t.format (map (λ x. up t.format.bits (down t.format.bits x)) samples)))) c.self.view_is
    (finish_wave c.complete-result.result (record {
      format = c.self.inside.format;
      name = g.W.Store.name c.self.inside.store;
      bytes = g.W.Store.content c.self.inside.store;
      faults = g.W.Store.faults c.self.inside.store;
      written = c.self.inside.written;
      stopped = c.self.inside.stopped;
    }) (g.W.Store.content c.complete-result.new.store) c.self.invariant c.complete-result.ensures.finished)

pub returns-clause-tells : goal.returns-clause-tells
returns-clause-tells g c =
    finish_tells c.complete-result.result (g.W.Store.content c.self.inside.store) (g.W.Store.content c.complete-result.new.store) c.complete-result.ensures.finished c.complete-result.ensures.part
    ∙ ap (λ (t : Tape). is_some t.bytes) c.self.view_is
