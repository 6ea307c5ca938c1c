-- The fields of the rings of recorders, and what stays true of them. No public clause cites this module.
use Rattle.std.specs.Prelude.{◌≡◌, ℕ, ◌*◌, ◌≤◌, List, length, map, All, Option}
use Rattle.jack_types.specs.declared.replies.Overrun.{Overrun}
use Rattle.record_ring.specs.declared.block.Block.{Block}
use Rattle.driver_words.specs.Rings.{Sending, Getting}
use Rattle.recorder_rings.specs.Sending.{Sent}

abbrev pub sent_of : List Sending → List (Option Getting) → List ℕ → List ℕ → List Block → List Overrun → ℕ → ℕ → Sent
sent_of rings out channels sent blocks overruns room losses = record {
  rings = rings;
  out = out;
  channels = channels;
  sent = sent;
  blocks = map (λ (block : Block). block.samples.items) blocks;
  overruns = overruns;
  room = room;
  losses = losses;
}

-- all lists are of the same recorders, and each block has room for a period of the recorder's channels
pub record IsSound (rings : List Sending) (out : List (Option Getting)) (channels sent : List ℕ) (blocks : List Block) (room : ℕ) : Type 0 where
  pub ends : length out ≡ length rings
  pub recorders : length channels ≡ length rings
  pub counts : length sent ≡ length rings
  pub as_many : length blocks ≡ length rings
  pub rooms : map (λ (block : Block). block.samples.room) blocks ≡ map (λ count. room * count) channels
  pub few : All (λ count. count ≤ 8) channels
  pub period : room ≤ 4096
