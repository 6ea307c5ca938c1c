use Rattle.std.proofs.Common.{◌≡◌, ◌+◌, take, map, pos, if◌then◌else◌}
use Rattle.port_mixer.specs.session_model.specs.Tempo.{begins_beat}
use Rattle.port_mixer.specs.session_model.specs.Samples.{below}
use Rattle.client_kinds.proofs.sounds.fill_click.Given as goal

abbrev pub invariant-loop-i : goal.invariant-loop-i
invariant-loop-i l = take l.i l.part ≡ map (λ i. if begins_beat l.mbpm l.rate (l.frame + i) then l.level else pos 0) (below l.i)
