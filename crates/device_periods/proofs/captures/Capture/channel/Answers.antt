use Rattle.std.proofs.Common.{◌+◌, ◌*◌, ◌<◌, ◌≤◌, [], ap, subst, ◌∙◌, ℕ, List, ℤ}
use Rattle.std.specs.Prelude.{slice_index_or, slice_range}
use Rattle.jack_types.specs.declared.files.Format.{Format}
use Rattle.device_periods.proofs.PeriodLemmas.{channel_past, channel_there}
use Rattle.device_periods.proofs.captures.Capture.channel.Goals as goal

pub returns-then-place-from-clause-samples : goal.returns-then-place-from-clause-samples
returns-then-place-from-clause-samples g c =
    ap (λ (samples : List ℤ). slice_range samples (c.args.place * c.self.inside.frames) (c.args.place * c.self.inside.frames + c.self.inside.frames)) c.deref.ensures.value
    ∙ channel_there c.self.inside.wave.format.channels c.self.inside.frames c.args.place c.self.inside.planar.items (subst (λ (n : ℕ). c.args.place < n) (c.from.ensures ∙ ap (λ (format : Format). format.channels) c.format.ensures) c.if-place-from.true)
    ∙ ap (λ seen. slice_index_or seen.channels c.args.place []) c.self.view_is

pub returns-else-place-from-clause-samples : goal.returns-else-place-from-clause-samples
returns-else-place-from-clause-samples g c =
    channel_past c.self.inside.wave.format.channels c.self.inside.frames c.args.place c.self.inside.planar.items (subst (λ (n : ℕ). n ≤ c.args.place) (c.from.ensures ∙ ap (λ (format : Format). format.channels) c.format.ensures) c.if-place-from.false)
    ∙ ap (λ seen. slice_index_or seen.channels c.args.place []) c.self.view_is
