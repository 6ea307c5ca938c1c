use Rattle.std.proofs.Common.{rules, ◌≡◌, ◌+◌, ◌-◌, ◌*◌, ◌/◌, ◌≤◌, ◌++◌, ap, arith, drop, length, pos, refl, subst, sym, take, ◌∙◌}
use Rattle.std.proofs.lemmas.List.{get_or_append_left, length-take-le}
use Rattle.std.proofs.lemmas.Nat.{div-add-mod'}
use Rattle.wave_pcm.specs.Readings.{GivesPairs, left_of, Reading}
use Rattle.wave_pcm.proofs.PairLemmas.{pairs_give}
use Rattle.wave_pcm.proofs.wave.Wave.read_pairs.Goals as goal

pub returns-in-Ok-clause-samples : goal.returns-in-Ok-clause-samples
returns-in-Ok-clause-samples g c =
    let format = c.self.inside.format in
    let frames = length c.args.left.now in
    let got = c.in-Ok.count / 4 in
    let left = g.S.Source.left c.fill-filled.new.source in
    let one = c.take_pairs.new.left ++ drop got c.args.left.now in
    let other = c.take_pairs.new.right ++ drop got c.args.right.now in
    let two : format.channels ≡ 2 = ap (λ (t : Reading). t.format.channels) c.self.view_is ∙ c.requires.stereo.0 in
    let bits : format.bits ≡ 16 = ap (λ (t : Reading). t.format.bits) c.self.view_is ∙ c.requires.stereo.1 in
    let long : length c.fill-filled.new.buffer ≡ frames * 4 = search rules in
    let room : c.self.inside.given + frames * 4 ≤ c.self.inside.size = subst (λ (t : Reading). t.given + frames * 4 ≤ t.size) (sym c.self.view_is) c.requires.told in
    let few : got ≤ frames = omega (arith, long, c.in-Ok.ensures.bound, div-add-mod' c.in-Ok.count 4) in
    let first : length (take got c.args.left.now) ≡ got = length-take-le got c.args.left.now few in
    let second : length (take got c.args.right.now) ≡ got = length-take-le got c.args.right.now (omega (arith, few, c.requires.lengths)) in
    let first_long : length c.take_pairs.new.left ≡ got = c.take_pairs.auto.left ∙ first in
    let second_long : length c.take_pairs.new.right ≡ got = c.take_pairs.auto.right ∙ second in
    subst (λ (t : Reading). GivesPairs t.left (left_of format (c.self.inside.size - (c.self.inside.given + got * 4)) left) got frames one other) c.self.view_is
    (pairs_give format c.self.inside.size c.self.inside.given frames got c.in-Ok.count (g.S.Source.left c.self.inside.source) left c.fill-filled.new.buffer one other c.self.invariant.0 two bits long room
    c.in-Ok.ensures.bound c.in-Ok.ensures.bytes c.in-Ok.ensures.short refl
    (λ k h. get_or_append_left c.take_pairs.new.left (drop got c.args.left.now) (pos 0) k (omega (arith, h, first_long)) ∙ c.take_pairs.ensures.left k (omega (arith, h, first)))
    (λ k h. get_or_append_left c.take_pairs.new.right (drop got c.args.right.now) (pos 0) k (omega (arith, h, second_long)) ∙ c.take_pairs.ensures.right k (omega (arith, h, first))))
