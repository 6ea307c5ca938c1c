use Rattle.std.proofs.Common.{ℕ, ◌*◌, ◌/◌, ◌<◌, ◌≤◌, subst, sym}
use Rattle.driver_words.specs.session_model.specs.Samples.{width}
use Rattle.driver_words.specs.Tapes.{Tape}
use Rattle.wave_write.proofs.TapeLemmas.{most_by_width}
use Rattle.wave_write.proofs.tape.WaveOut.most_samples.Goals as goal

pub returns : goal.returns
returns g c =
    let most = most_by_width c.self.inside.format.bits c.self.invariant.lawful.bits in
    record {
      some = subst (λ (n : ℕ). 0 < 4096 / n) (sym c.from.ensures) most.0;
      few = subst (λ (n : ℕ). 4096 / n ≤ 4096) (sym c.from.ensures) most.1;
      fits =
          subst (λ (n : ℕ). 4096 / n * width c.args.self.now.format.bits ≤ 4096) (sym c.from.ensures)
          (subst (λ (t : Tape). 4096 / width c.self.inside.format.bits * width t.format.bits ≤ 4096) c.self.view_is most.2);
    }
