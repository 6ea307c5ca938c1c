use Rattle.std.proofs.Common.{◌+◌, ap, arith, refl, true, ◌∙◌}
use Rattle.driver_words.specs.Tapes.{Tape}
use Rattle.wave_write.proofs.TapeLemmas.{bytes_fit, gained_by_write, kept_more, part_by_write}
use Rattle.wave_write.proofs.tape.WaveOut.put_piece.Goals as goal

pub invariant_of-self : goal.invariant_of-self
invariant_of-self g c =
    kept_more c.self.inside.format (g.W.Store.content c.self.inside.store) (g.W.Store.content c.write-written.new.store) c.self.inside.written (44 + c.from-place.result) c.self.inside.stopped c.to_bytes.new.out c.self.invariant (omega (arith, c.from-place.ensures))
    (bytes_fit _ c.args.self.now c.args.samples.now c.to_bytes.new.out c.self.view_is c.to_bytes.ensures c.requires.room)
    c.in-Ok.ensures.bytes

pub returns-in-Ok-clause-gained : goal.returns-in-Ok-clause-gained
returns-in-Ok-clause-gained g c =
    gained_by_write _ c.args.self.now _ c.args.samples.now c.to_bytes.new.out (44 + c.from-place.result) c.self.view_is c.to_bytes.ensures (omega (arith, c.from-place.ensures))
    (c.self.invariant.long (ap (λ (t : Tape). t.stopped) c.self.view_is ∙ c.requires.going)) refl c.in-Ok.ensures.bytes

pub returns-in-Err-clause-part : goal.returns-in-Err-clause-part
returns-in-Err-clause-part g c =
    let cut = c.in-Err.ensures.bytes in
    part_by_write _ c.args.self.now (record {
      format = c.self.inside.format;
      name = g.W.Store.name c.write-written.new.store;
      bytes = g.W.Store.content c.write-written.new.store;
      faults = g.W.Store.faults c.write-written.new.store;
      written = c.self.inside.written;
      stopped = true;
    }) c.args.samples.now c.to_bytes.new.out (44 + c.from-place.result) cut.0 c.self.view_is c.to_bytes.ensures (omega (arith, c.from-place.ensures))
    (c.self.invariant.long (ap (λ (t : Tape). t.stopped) c.self.view_is ∙ c.requires.going)) cut.1 cut.2
