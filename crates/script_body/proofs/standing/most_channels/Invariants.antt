use Rattle.std.proofs.Common.{◌≡◌, take, map}
use Rattle.std.specs.Prelude.{fold, max}
use Rattle.jack_types.specs.declared.files.Format.{Format}
use Rattle.script_body.proofs.standing.most_channels.Given as goal

abbrev pub invariant-loop-format : goal.invariant-loop-format
invariant-loop-format l = l.most ≡ fold max (max l.header.capture l.header.playback) (map (λ (format : Format). format.channels) (take l.format-index l.header.recorders))

abbrev pub invariant-loop-channels : goal.invariant-loop-channels
invariant-loop-channels l = l.most ≡ fold max (fold max (max l.header.capture l.header.playback) (map (λ (format : Format). format.channels) l.header.recorders)) (take l.channels-index l.header.disks)
