-- Behind a reset each bench has the room that it had before the cycle.
use Rattle.std.proofs.Common.{arith, ◌≡◌, ◌<◌, ℕ, Bool, List, length, get_or}
use Rattle.table_lemmas.proofs.Readings.{at_get}
use Rattle.session_laws.specs.jack_types.specs.declared.ports.Link.{Link}
use Rattle.activation.specs.Rounds.{AreReturned}

pub room_returned : {B M Y : Type 0} (memory : B → M) (has_room : B → ℕ → Bool) (after : M → List Y → M) (gives : M → List Y → ℕ → Y) (links : List Link) (before benches : List B) → length benches ≡ length before → AreReturned memory has_room after gives links before benches
    → (n : ℕ) (d : B) (place : ℕ) → n < length benches → has_room (get_or benches n d) place ≡ has_room (get_or before n d) place
room_returned memory has_room after gives links before benches long back n d place low = (back n (get_or benches n d) (at_get benches n d low)).1 (get_or before n d) (at_get before n d (omega (arith, low, long))) place
