-- When a click is silent.
--     click_stopped, click_starting, click_untimed
use Rattle.std.proofs.Common.{◌≡◌, ℕ, map, ℤ, pos, Option, None, sym, subst}
use Rattle.port_mixer.specs.jack_types.specs.declared.moments.Bbt.{Bbt}
use Rattle.port_mixer.specs.jack_types.specs.declared.moments.Moment.{Moment}
use Rattle.port_mixer.specs.jack_types.specs.declared.moments.TransportState.{TransportState}
use Rattle.port_mixer.specs.jack_types.specs.declared.moments.TransportState.TheVariants.{Stopped, Rolling, Starting}
use Rattle.port_mixer.specs.session_model.specs.Kinds.{click_sample}
use Rattle.port_mixer.specs.session_model.specs.Samples.{below, silence}
use Rattle.client_kinds.proofs.BufferLemmas.{replicate-below}

silent-below : (n : ℕ) → silence n ≡ map (λ i. pos 0) (below n)
silent-below n = sym (replicate-below n (pos 0))

pub click_stopped : (level : ℤ) (moment : Moment) (n : ℕ) → moment.state ≡ Stopped → silence n ≡ map (click_sample level moment) (below n)
click_stopped level moment n h = subst (λ (s : TransportState). silence n ≡ map (click_sample level (record moment { state = s })) (below n)) (sym h) (silent-below n)

pub click_starting : (level : ℤ) (moment : Moment) (n : ℕ) → moment.state ≡ Starting → silence n ≡ map (click_sample level moment) (below n)
click_starting level moment n h = subst (λ (s : TransportState). silence n ≡ map (click_sample level (record moment { state = s })) (below n)) (sym h) (silent-below n)

pub click_untimed : (level : ℤ) (moment : Moment) (n : ℕ) → moment.bbt ≡ None → silence n ≡ map (click_sample level moment) (below n)
click_untimed level moment n h = subst (λ (place : Option Bbt). silence n ≡ map (click_sample level (record moment { bbt = place })) (below n)) (sym h) (go moment.state)
  where
    go : (s : TransportState) → silence n ≡ map (click_sample level (record moment { state = s; bbt = None })) (below n)
    go Stopped = silent-below n
    go Rolling = silent-below n
    go Starting = silent-below n
