-- Behind a cycle each bench, looked up by its node, is sequential and has the rooms that it had.
use Rattle.std.proofs.Common.{arith, ◌≡◌, ◌<◌, ℕ, List, length, ap}
use Rattle.table_lemmas.proofs.Readings.{at_get, get_at}
use Rattle.jack_types.specs.declared.kinds.Kind.TheVariants.{Pass}
use Rattle.jack_types.specs.declared.ports.Link.{Link}
use Rattle.session_model.specs.Activation.{sequential}
use Rattle.session_model.specs.Kinds.{Sound}
use Rattle.client_benches.specs.activation.specs.Rounds.{AreReturned}
use Rattle.client_benches.specs.activation.proofs.Returned.{room_returned}
use Rattle.client_benches.specs.client_kinds.specs.Scores.{Score}
use Rattle.client_benches.specs.Seen.{Seen, has_room_at, kept_after, kept_gives, new_bench}
use Rattle.bench_crew.specs.Ensembles.{bench_of}

module _ (sound : Score → Sound) (links : List Link) (before benches : List Seen) (long : length benches ≡ length before) (back : AreReturned (λ (bench : Seen). bench.kept) has_room_at (kept_after sound) (kept_gives sound) links before benches) where
  pub kept-returned : (n : ℕ) → n < length before → (bench_of benches n).kept ≡ sequential (kept_after sound) (kept_gives sound) links (λ m. (bench_of before m).kept) n
  kept-returned n low =
      (back n (bench_of benches n) (at_get benches n (new_bench Pass 0) (omega (arith, low, long)))).0 (λ m. (bench_of before m).kept)
      (λ m bench e. ap (λ (b : Seen). b.kept) (get_at before m bench (new_bench Pass 0) e))

  pub rooms-returned : (n place : ℕ) → n < length before → has_room_at (bench_of benches n) place ≡ has_room_at (bench_of before n) place
  rooms-returned n place low =
      room_returned (λ (bench : Seen). bench.kept) has_room_at (kept_after sound) (kept_gives sound) links before benches long back n (new_bench Pass 0) place (omega (arith, low, long))
