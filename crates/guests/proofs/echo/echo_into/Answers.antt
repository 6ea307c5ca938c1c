use Rattle.std.proofs.Common.{◌≡◌, ◌∙◌, ◌<◌, ◌+ℤ◌, ◌*ℤ◌, ℤ, ap, arith, length, refl, rules, subst}
use Rattle.std.specs.Int.{int_shr, w32}
use Rattle.std.specs.Prelude.{FitsSigned}
use Rattle.std.proofs.lemmas.Int.{to_z-of_z}
use Rattle.session_model.specs.Samples.{clamp, sample}
use mir.Val.{of_z, to_z}
use Rattle.guests.proofs.EchoLemmas.{IsKept, HasEchoed, echo_of, kept-all, kept-first, kept-next, played-all_frames, played-next}
use Rattle.guests.proofs.echo.echo_into.Goals as goal

pub loop-frame-init : goal.loop-frame-init
loop-frame-init c = record {
  kept = kept-first (to_z w32 (of_z w32 c.args.gain)) c.args.shift c.args.line.now.items c.args.line.now.capacity (length c.args.part.now) c.args.x.now c.args.line.now c.requires.whole refl;
  played = record { size = refl; played = refl };
}

pub loop-frame-preserved : goal.loop-frame-preserved
loop-frame-preserved c =
    let fits : FitsSigned w32 c.sample_at.result = search rules in
    let result_fits : FitsSigned w32 c.echo_frame.result = search rules in
    let within : c.loop-frame.frame < length c.args.part.now = omega (arith, c.loop-frame-test.true, c.loop-frame.invariant.played.size) in
    let is : c.echo_frame.result ≡ echo_of (to_z w32 (of_z w32 c.args.gain)) c.args.shift c.loop-frame.line.items (sample c.args.x.now c.loop-frame.frame) =
    c.echo_frame.ensures.value
    ∙ ap (λ a. clamp (a +ℤ int_shr (sample c.loop-frame.line.items 0 *ℤ to_z w32 (of_z w32 c.args.gain)) c.args.shift)) (to_z-of_z w32 c.sample_at.result fits ∙ c.sample_at.ensures) in
    record {
      kept = kept-next (to_z w32 (of_z w32 c.args.gain)) c.args.shift c.args.line.now.items c.args.line.now.capacity (length c.args.part.now) c.args.x.now c.loop-frame.frame c.loop-frame.line c.echo_frame.new.line c.echo_frame.result within c.requires.least
          c.loop-frame.invariant.kept.whole is c.echo_frame.ensures.line c.loop-frame.invariant.kept;
      played = played-next (to_z w32 (of_z w32 c.args.gain)) c.args.shift c.args.line.now.items c.args.line.now.capacity (length c.args.part.now) c.args.x.now c.loop-frame.frame c.loop-frame.line c.echo_frame.new.line c.echo_frame.result within c.requires.least
          c.loop-frame.invariant.kept.whole is c.echo_frame.ensures.line c.loop-frame.part _ (to_z-of_z w32 c.echo_frame.result result_fits) c.loop-frame.invariant.played;
    }

pub returns-clause-played : goal.returns-clause-played
returns-clause-played c =
    played-all_frames c.args.gain c.args.shift c.args.line.now.items c.args.line.now.capacity (length c.args.part.now) c.args.x.now c.loop-frame.frame c.loop-frame.line c.loop-frame.part (omega (arith, c.loop-frame-test.false, c.loop-frame.invariant.played.size))
    (subst (λ (gain : ℤ). HasEchoed gain c.args.shift c.args.line.now.items (length c.args.part.now) c.args.x.now c.loop-frame.frame c.loop-frame.line c.loop-frame.part) (to_z-of_z w32 c.args.gain c.ranges.gain) c.loop-frame.invariant.played)

pub returns-clause-line : goal.returns-clause-line
returns-clause-line c =
    kept-all c.args.gain c.args.shift c.args.line.now.items c.args.line.now.capacity (length c.args.part.now) c.args.x.now c.loop-frame.frame c.loop-frame.line (omega (arith, c.loop-frame-test.false, c.loop-frame.invariant.played.size))
    (subst (λ (gain : ℤ). IsKept gain c.args.shift c.args.line.now.items c.args.line.now.capacity (length c.args.part.now) c.args.x.now c.loop-frame.frame c.loop-frame.line) (to_z-of_z w32 c.args.gain c.ranges.gain) c.loop-frame.invariant.kept)
