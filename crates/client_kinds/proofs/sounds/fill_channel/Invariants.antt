use Rattle.std.proofs.Common.{◌≡◌, ◌+◌, ◌*◌, take, map}
use Rattle.port_mixer.specs.session_model.specs.Samples.{below, sample}
use Rattle.client_kinds.proofs.sounds.fill_channel.Given as goal

abbrev pub invariant-loop-i : goal.invariant-loop-i
invariant-loop-i l = take l.i l.part ≡ map (λ i. sample l.block (i * l.channels + l.channel)) (below l.i)
