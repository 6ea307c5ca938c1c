use Rattle.std.proofs.Common.{◌≡◌, ◌∙◌, ◌+ℤ◌, ◌*ℤ◌, ℤ, ap, arith, refl, rules, subst}
use Rattle.std.specs.Int.{int_shr, w32}
use Rattle.std.specs.Prelude.{FitsSigned}
use Rattle.std.proofs.lemmas.Int.{to_z-of_z}
use Rattle.session_model.specs.Samples.{clamp, sample}
use mir.Val.{of_z, to_z}
use Rattle.guests.proofs.EchoLemmas.{IsKept, echo_of, kept-all, kept-first, kept-next}
use Rattle.guests.proofs.echo.echo_unheard.Goals as goal

pub loop-frame-init : goal.loop-frame-init
loop-frame-init c = kept-first (to_z w32 (of_z w32 c.args.gain)) c.args.shift c.args.line.now.items c.args.line.now.capacity c.args.period c.args.x.now c.args.line.now c.requires.whole refl

pub loop-frame-preserved : goal.loop-frame-preserved
loop-frame-preserved c =
    let fits : FitsSigned w32 c.sample_at.result = search rules in
    let is : c.echo_frame.result ≡ echo_of (to_z w32 (of_z w32 c.args.gain)) c.args.shift c.loop-frame.line.items (sample c.args.x.now c.loop-frame.frame) =
    c.echo_frame.ensures.value
    ∙ ap (λ a. clamp (a +ℤ int_shr (sample c.loop-frame.line.items 0 *ℤ to_z w32 (of_z w32 c.args.gain)) c.args.shift)) (to_z-of_z w32 c.sample_at.result fits ∙ c.sample_at.ensures) in
    kept-next (to_z w32 (of_z w32 c.args.gain)) c.args.shift c.args.line.now.items c.args.line.now.capacity c.args.period c.args.x.now c.loop-frame.frame c.loop-frame.line c.echo_frame.new.line c.echo_frame.result (omega (arith, c.loop-frame-test.true)) c.requires.least
    c.loop-frame.invariant.whole is c.echo_frame.ensures.line c.loop-frame.invariant

pub returns : goal.returns
returns c = kept-all c.args.gain c.args.shift c.args.line.now.items c.args.line.now.capacity c.args.period c.args.x.now c.loop-frame.frame c.loop-frame.line (omega (arith, c.loop-frame-test.false))
    (subst (λ (gain : ℤ). IsKept gain c.args.shift c.args.line.now.items c.args.line.now.capacity c.args.period c.args.x.now c.loop-frame.frame c.loop-frame.line) (to_z-of_z w32 c.args.gain c.ranges.gain) c.loop-frame.invariant)
