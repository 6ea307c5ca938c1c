use Rattle.std.proofs.Common.{◌≡◌, take, map}
use Rattle.jack_types.specs.declared.files.Format.{Format}
use Rattle.recorder_rings.proofs.making.list_channels.Given as goal

abbrev pub invariant-loop-format : goal.invariant-loop-format
invariant-loop-format l = l.channels.items ≡ map (λ (format : Format). format.channels) (take l.format-index l.formats)
