use Rattle.std.proofs.Common.{◌≡◌, ◌==◌, List, filter, length, map, take, get_or, refl, subst, arith, eq-eqb}
use Rattle.std.proofs.lemmas.List.{length-map, take_all}
use Rattle.client_wiring.specs.declared.joints.Heard.{Heard}
use Rattle.client_wiring.specs.declared.joints.Sound.TheVariants.{Played}
use Rattle.playback_mix.specs.Mixes.{sound_in, sounds_on}
use Rattle.playback_mix.proofs.OnlyLemmas.{IsOnly, more-pass, only-mixed, only-one}
use Rattle.playback_mix.proofs.channels.only_sound.Goals as goal

pub returns-then-is_some : goal.returns-then-is_some
returns-then-is_some g c =
    let test = λ (one : Heard). one.channel == c.args.channel in
    let before = take c.loop-one.one-index c.args.heard.now in
    let here : Heard = record { channel = 0; sound = Played 0 0 } in
    let one : length (filter test before) ≡ 1 =
    omega (
      arith,
      only-one c.loop-one.only (map (sound_in c.args.benches.now c.args.capture.now.channels) (sounds_on before c.args.channel)) c.if-is_some.ensures c.loop-one.invariant,
      length-map (sounds_on before c.args.channel) (sound_in c.args.benches.now c.args.capture.now.channels),
      length-map (filter test before) (λ (one : Heard). one.sound),
    ) in
    omega (
      arith,
      more-pass test c.args.heard.now c.loop-one.one-index 1 here c.loop-one-test.true (eq-eqb (get_or c.args.heard.now c.loop-one.one-index here).channel c.args.channel c.if-one-channel.false) one,
      length-map (filter test c.args.heard.now) (λ (one : Heard). one.sound),
    )

pub returns : goal.returns
returns g c = only-mixed c.loop-one.only (map (sound_in c.args.benches.now c.args.capture.now.channels) (sounds_on c.args.heard.now c.args.channel)) _ c.unwrap_or.result refl c.unwrap_or.ensures
    (subst (λ (heard : List Heard). IsOnly c.loop-one.only (map (sound_in c.args.benches.now c.args.capture.now.channels) (sounds_on heard c.args.channel)))
    (take_all c.loop-one.one-index c.args.heard.now c.loop-one-test.false) c.loop-one.invariant)
