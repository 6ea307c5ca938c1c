use Rattle.std.proofs.Common.{rules, ◌≡◌, ◌+◌, ◌-◌, ◌*◌, ◌≤◌, ◌∙◌, ℕ, arith, drop, length, length-drop, subst, sym, take}
use Rattle.std.specs.Prelude.{slice_range}
use Rattle.std.proofs.lemmas.List.{length-take}
use Rattle.jack_types.specs.declared.files.Format.{Format}
use Rattle.driver_words.specs.session_model.specs.Samples.{bytes_of, width}
use Rattle.driver_words.specs.Tapes.{Gained, GainedPart}
use Rattle.wave_write.proofs.FinishingLemmas.{on_err}
use Rattle.wave_write.proofs.TapeLemmas.{gained_more, gained_part, piece_room, same_file-trans}
use Rattle.wave_write.proofs.tape.WaveOut.put_all.Goals as goal

pub put_piece-requires-clause-room : goal.put_piece-requires-clause-room
put_piece-requires-clause-room g c =
    let samples = c.args.samples.now in
    let at = c.putting.at in
    let count = c.min-end.result - at in
    let long : length (take count (drop at samples)) ≡ count = omega (arith, length-take count (drop at samples), length-drop at samples, c.min-end.ensures) in
    subst (λ (n : ℕ). c.putting.self.written + n * width c.putting.self.format.bits ≤ 4294967000) (sym long)
    (subst (λ (f : Format). c.putting.self.written + count * width f.bits ≤ 4294967000) (sym c.putting.invariant.file.format)
    (piece_room c.args.self.now.format.bits c.args.self.now.written c.putting.self.written samples at count (omega (arith, c.min-end.ensures)) c.requires.room c.putting.invariant.gained.written))

pub returns-in_err-put_piece-clause-part : goal.returns-in_err-put_piece-clause-part
returns-in_err-put_piece-clause-part g c =
    on_err _ _ (gained_part c.args.self.now c.putting.self c.put_piece.new.self c.args.self.now.format.bits c.args.samples.now c.putting.at c.min-end.result (omega (arith, c.min-end.ensures)) c.putting.invariant.gained
    (subst (λ (f : Format). GainedPart c.putting.self c.put_piece.new.self (bytes_of f.bits (slice_range c.args.samples.now c.putting.at c.min-end.result))) c.putting.invariant.file.format c.in_err-put_piece.ensures.part))

pub putting-preserved : goal.putting-preserved
putting-preserved g c =
    record {
      within = omega (arith, c.min-end.ensures);
      gained =
          gained_more c.args.self.now c.putting.self c.put_piece.new.self c.args.self.now.format.bits c.args.samples.now c.putting.at c.min-end.result (omega (arith, c.min-end.ensures)) c.putting.invariant.gained
          (subst (λ (f : Format). Gained c.putting.self c.put_piece.new.self (bytes_of f.bits (slice_range c.args.samples.now c.putting.at c.min-end.result))) c.putting.invariant.file.format c.in_ok-put_piece.ensures.gained);
      going = search rules;
      file = same_file-trans c.args.self.now c.putting.self c.put_piece.new.self c.putting.invariant.file c.in_ok-put_piece.ensures.file;
      kept = (rw c.in_ok-put_piece.was at c.put_piece.ensures.cause.kept) ∙ c.putting.invariant.kept;
    }
