-- What a driver's playback is.
--     playback_format script      the format of its file
use Rattle.jack_types.specs.declared.files.Format.{Format}
use Rattle.session_model.specs.Scripts.{Script}

-- the script's rate, its playback channels, and its bits a sample
abbrev pub playback_format : Script → Format
playback_format script = record { rate = script.header.rate; channels = script.header.playback; bits = script.header.bits }
