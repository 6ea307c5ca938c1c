-- What is mixed for the playback is what the definitions give its ports.
--     channel-mixed      a channel is the mix of what the edges into its playback port bring
--     channels-mixed      so is each
use Rattle.std.proofs.Common.{◌≡◌, ℕ, ◌<◌, ◌==◌, List, [], length, map, get_or, Contains, ℤ, refl, sym, ◌∙◌, ap, subst}
use Rattle.jack_types.specs.declared.kinds.Kind.TheVariants.{Pass}
use Rattle.session_model.specs.Benches.{Bench, outputs_of}
use Rattle.session_model.specs.Cycles.{Settled, edges_into}
use Rattle.session_model.specs.Kinds.{Sound as GuestSound}
use Rattle.session_model.specs.Samples.{below, mix, sample}
use Rattle.session_model.specs.State.{Connection, playback_port}
use Rattle.session_laws.proofs.PlaceLemmas.{map-after, mix-same}
use Rattle.port_registry.specs.Registered.{open_clients}
use Rattle.playback_mix.specs.cycle_plan.specs.Plans.{IsPlanned, Planned, state_of_plan}
use Rattle.playback_mix.specs.client_benches.specs.Seen.{Seen, bench_in, new_bench}
use Rattle.playback_mix.specs.client_benches.proofs.SliceLemmas.{map_below-same}
use Rattle.playback_mix.specs.client_wiring.specs.declared.joints.Heard.{Heard}
use Rattle.playback_mix.specs.client_wiring.specs.declared.joints.Sound.{Sound}
use Rattle.playback_mix.specs.client_wiring.specs.declared.joints.Sound.TheVariants.{Played, Captured}
use Rattle.playback_mix.specs.client_wiring.specs.Wirings.{heard_at, sound_from, wired_of}
use Rattle.playback_mix.specs.client_wiring.proofs.PlaybackLemmas.{SetsPlayback-wired}
use Rattle.playback_mix.specs.Mixes.{channel_mix, sound_in}
use Rattle.playback_laws.proofs.BoundLemmas.{heard-within}
use Rattle.playback_laws.proofs.ListLemmas.{sample-lacking}

module _ (plan : Planned) (planned : IsPlanned plan) (scores : List GuestSound) (benches : List Seen) (channels : List (List ℤ)) (at : Settled) (graph : at.graph ≡ state_of_plan plan) (as_many : length channels ≡ plan.base.capture) (captured : (c : ℕ) → c < length channels → at.capture c ≡ get_or channels c []) where
  abbrev played : ℕ → Bench
  played n = bench_in scores (get_or benches n (new_bench Pass 0)).kept

  abbrev mixed : List ℕ → List ℤ
  mixed port = mix at.frames (map (λ (edge : Connection). (outputs_of at (open_clients plan.nodes) (λ n. bench_in scores (get_or benches n (new_bench Pass 0)).kept)).audio edge.source) (edges_into at.graph port))

  same-sound : (sound : Sound) → ((c : ℕ) → sound ≡ Captured c → c < length channels) → (i : ℕ) → sample (sound_in benches channels sound) i ≡ sample (sound_from at played sound) i
  same-sound (Played n j) within i = sample-lacking (get_or benches n (new_bench Pass 0)).kept.audio j at.frames i
  same-sound (Captured c) within i = ap (λ (samples : List ℤ). sample samples i) (sym (captured c (within c refl)))

  same-heard : (heard : Heard) → Contains (wired_of plan).heard heard → (i : ℕ) → sample (sound_in benches channels heard.sound) i ≡ sample (sound_from at played heard.sound) i
  same-heard heard m i = same-sound heard.sound (λ c is. subst (λ n. c < n) (sym as_many) (heard-within plan planned heard c m is)) i

  pub channel-mixed : (c : ℕ) → c < plan.base.playback → channel_mix at.frames benches channels (wired_of plan).heard c ≡ mixed (playback_port c).name
  channel-mixed c low =
      ap (mix at.frames) (map-after (sound_in benches channels) (λ (one : Heard). one.sound) (heard_at (wired_of plan) c))
      ∙ mix-same at.frames (λ (one : Heard). one.channel == c) (λ (one : Heard). sound_in benches channels one.sound) (λ (one : Heard). sound_from at played one.sound) (wired_of plan).heard (λ one m t i. same-heard one m i)
      ∙ ap (mix at.frames) (sym (SetsPlayback-wired plan planned at played c graph low))

  pub channels-mixed : map (channel_mix at.frames benches channels (wired_of plan).heard) (below plan.base.playback) ≡ map mixed (map (λ i. (playback_port i).name) (below plan.base.playback))
  channels-mixed =
      map_below-same (channel_mix at.frames benches channels (wired_of plan).heard) (λ i. mixed (playback_port i).name) plan.base.playback channel-mixed
      ∙ sym (map-after mixed (λ i. (playback_port i).name) (below plan.base.playback))
