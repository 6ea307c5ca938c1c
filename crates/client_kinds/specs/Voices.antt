-- The inside of a voice, the part of a bench that asks no guest.
use Rattle.std.specs.Prelude.{◌≡◌, ℕ, ◌*◌, ◌≤◌, false, [], length, All}
use Rattle.port_mixer.specs.jack_types.specs.declared.kinds.Kind.{Kind}
use Rattle.port_mixer.specs.session_model.specs.Kinds.{Memory}
use Rattle.port_mixer.specs.session_model.specs.Samples.{silence}
use Rattle.client_kinds.specs.Buffers.{channels_of}
use Rattle.client_kinds.specs.Lines.{AreQuiet, IsWhole, items_of}
use Rattle.client_kinds.specs.Standings.{IsPlayable}
use Rattle.client_kinds.specs.Rooms.{HasRoom, IsKept}
use Rattle.client_kinds.specs.declared.voices.Voice.TheInside.{Inside}

-- kind, greatest period and memory
pub record Voiced : Type 0 where
  pub kind : Kind
  pub period : ℕ
  pub memory : Memory

abbrev pub voiced : Inside → Voiced
voiced v = record {
  kind = v.kind;
  period = v.period;
  memory = record { lines = items_of v.lines.items; phase = v.phase; peak = v.peak; numbers = []; is_dead = false; fed = channels_of v.channels v.period v.block.items; log = [] };
}

pub record IsVoice (v : Inside) : Type 0 where
  pub playable : IsPlayable v.kind
  pub silent : v.silent.items ≡ silence v.period
  pub lines : All IsWhole v.lines.items
  pub quiet : AreQuiet v.reached v.lines.items
  pub kept : IsKept v.kind v.lines.items v.phase
  pub room : HasRoom v.kind v.period (length v.block.items)
  pub fed : v.channels * v.period ≤ length v.block.items
