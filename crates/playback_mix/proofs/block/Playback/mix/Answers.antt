use Rattle.std.proofs.Common.{◌≡◌, ℕ, ◌*◌, ◌≤◌, ◌∙◌, List, ℤ, length, map, take, ap, sym, subst}
use Rattle.std.proofs.lemmas.List.{with_items_is}
use Rattle.session_model.specs.Samples.{below, interleaved}
use Rattle.device_periods.proofs.PeriodLemmas.{room_for}
use Rattle.playback_mix.specs.Mixes.{PlaybackRoom, channel_mix}
use Rattle.playback_mix.proofs.block.Playback.mix.Goals as goal

pub mix_front-requires-clause-block : goal.mix_front-requires-clause-block
mix_front-requires-clause-block g c =
    subst (λ (n : ℕ). c.args.frames * n ≤ length c.deref_mut-3.result.now) (sym c.from.ensures)
    (subst (λ (n : ℕ). c.args.frames * c.self.inside.channels ≤ n) (sym (ap length c.deref_mut-3.ensures.value ∙ c.self.invariant.laid)) (room_for c.args.frames c.self.inside.room c.self.inside.channels within))
  where
    within : c.args.frames ≤ c.self.inside.room
    within = subst (λ (seen : PlaybackRoom). c.args.frames ≤ seen.room) (sym c.self.view_is) c.requires.frames

pub invariant_of-self : goal.invariant_of-self
invariant_of-self g c = record {
  most = c.self.invariant.most;
  few = c.self.invariant.few;
  within = subst (λ (seen : PlaybackRoom). c.args.frames ≤ seen.room) (sym c.self.view_is) c.requires.frames;
  sums = subst (λ (n : ℕ). c.self.inside.room ≤ n) (sym c.mix_front.ensures.room) c.self.invariant.sums;
  silence = ap length (with_items_is c.self.inside.padded c.mix_front.new.padded (c.mix_front.ensures.padded ∙ c.deref_mut.ensures.len)) ∙ c.mix_front.ensures.padded ∙ ap length c.deref_mut.ensures.value ∙ c.self.invariant.silence;
  mixed = ap length (with_items_is c.self.inside.channel c.mix_front.new.out (c.mix_front.ensures.frames ∙ c.deref_mut-2.ensures.len)) ∙ c.mix_front.ensures.frames ∙ ap length c.deref_mut-2.ensures.value ∙ c.self.invariant.mixed;
  laid = ap length (with_items_is c.self.inside.block c.mix_front.new.block (c.mix_front.ensures.length ∙ c.deref_mut-3.ensures.len)) ∙ c.mix_front.ensures.length ∙ ap length c.deref_mut-3.ensures.value ∙ c.self.invariant.laid;
}

pub returns-clause-block : goal.returns-clause-block
returns-clause-block g c =
    ap (take (c.args.frames * c.self.inside.channels)) (with_items_is c.self.inside.block c.mix_front.new.block (c.mix_front.ensures.length ∙ c.deref_mut-3.ensures.len))
    ∙ subst (λ (n : ℕ). take (c.args.frames * n) c.mix_front.new.block ≡ interleaved c.args.frames (map mixes (below n))) c.from.ensures c.mix_front.ensures.block
    ∙ ap (λ (seen : PlaybackRoom). interleaved c.args.frames (map mixes (below seen.channels))) c.self.view_is
  where
    mixes : ℕ → List ℤ
    mixes = channel_mix c.args.frames c.args.benches.now c.args.capture.now.channels c.args.heard.now
