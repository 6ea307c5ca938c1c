-- The rings of recorders and disks behind one cycle more.
--     put-kept      a cycle leaves a ring its bounds
--     put-one_more      it puts one block at most
--     put-samples      and no more samples than that has
--     puts-same      a cycle's part at a ring, told in other words
--     block-length      a block has no more samples than the channels of a period
--     HasOwnRings-next      the rings are the driver's own again
use Rattle.std.proofs.Common.{◌≡◌, ℕ, ◌+◌, ◌*◌, ◌≤◌, Bool, List, [], ◌∷◌, ◌++◌, length, map, slice_get, Option, Some, None, ℤ, sym, ◌∙◌, ap, subst, arith, add-mul}
use Rattle.std.specs.Option.{option_map_or}
use Rattle.std.proofs.lemmas.List.{length_push, length-map}
use Rattle.std.proofs.lemmas.List.Sums.{sum_by_push}
use Rattle.jack_types.specs.declared.replies.Overrun.{Overrun}
use Rattle.session_model.specs.Rings.{RingBlock}
use Rattle.session_model.specs.Samples.{below, interleaved}
use Rattle.session_model.specs.Scripts.{Script}
use Rattle.session_laws.proofs.SequentialLemmas.{length-below}
use Rattle.driver_words.specs.Rings.{Getting, Sending, items_of}
use Rattle.plan_transport.specs.driver_laws.specs.Cycling.{Idle, Lacked, PutsOne, Went}
use Rattle.plan_transport.specs.driver_laws.specs.Drivers.{Driver, HasOwnRings, IsOwnDisk, IsOwnRing, channels_on, frames_run, greatest_period}
use Rattle.plan_transport.specs.driver_laws.proofs.PlaceLemmas.{there_too}
use Rattle.cycle_laws.proofs.ListLemmas.{interleaved-length}

-- what a cycle leaves of a ring: its bounds, and one block more at most
pub record Grows (block : List ℤ) (before after : Sending) : Type 0 where
  pub samples : after.samples ≡ before.samples
  pub most : after.most ≡ before.most
  pub puts : length after.put ≤ length before.put + 1
  pub items : items_of after.put ≤ items_of before.put + length block

module _ (k recorder : ℕ) (active : Bool) (samples : List ℤ) (before after : Sending) (losses losses_after : List Overrun) where
  pub grows : PutsOne k recorder active samples before after losses losses_after → Grows samples before after
  grows (Idle idle same none) =
      let put : after.put ≡ before.put = ap (λ (r : Sending). r.put) same in
      let long : length after.put ≡ length before.put = ap length put in
      let items : items_of after.put ≡ items_of before.put = ap items_of put in
      record { samples = ap (λ (r : Sending). r.samples) same; most = ap (λ (r : Sending). r.most) same; puts = omega (arith, long); items = omega (arith, items) }
  grows (Went look on puts none) =
      let block : RingBlock = record { cycle = k; samples = samples } in
      let put : after.put ≡ before.put ++ block ∷ [] = ap (λ (r : Sending). r.put) puts.after_is in
      let long : length after.put ≡ length before.put + 1 = ap length put ∙ length_push before.put block in
      let items : items_of after.put ≡ items_of before.put + length samples = ap items_of put ∙ sum_by_push (λ (b : RingBlock). length b.samples) before.put block in
      record { samples = ap (λ (r : Sending). r.samples) puts.after_is; most = ap (λ (r : Sending). r.most) puts.after_is; puts = omega (arith, long); items = omega (arith, items) }
  grows (Lacked look on full more) =
      let put : after.put ≡ before.put = ap (λ (r : Sending). r.put) full.after_is in
      let long : length after.put ≡ length before.put = ap length put in
      let items : items_of after.put ≡ items_of before.put = ap items_of put in
      record { samples = ap (λ (r : Sending). r.samples) full.after_is; most = ap (λ (r : Sending). r.most) full.after_is; puts = omega (arith, long); items = omega (arith, items) }

-- the same part, of terms that are equal
pub puts-same : (k recorder : ℕ) (active other_active : Bool) (samples other_samples : List ℤ) (ring other after other_after : Sending) (losses losses_after : List Overrun)
    → active ≡ other_active → samples ≡ other_samples → ring ≡ other → after ≡ other_after → PutsOne k recorder active samples ring after losses losses_after → PutsOne k recorder other_active other_samples other other_after losses losses_after
puts-same k recorder active other_active samples other_samples ring other after other_after losses losses_after a s r f puts =
    subst (λ (b : Bool). PutsOne k recorder b other_samples other other_after losses losses_after) a
    (subst (λ (xs : List ℤ). PutsOne k recorder active xs other other_after losses losses_after) s
    (subst (λ (x : Sending). PutsOne k recorder active samples x other_after losses losses_after) r
    (subst (λ (x : Sending). PutsOne k recorder active samples ring x losses losses_after) f puts)))

-- a block has no more samples than the channels of a period
pub block-length : (period channels : ℕ) (inputs : ℕ → ℕ → List ℤ) (found : Option ℕ)
    → length (option_map_or (λ n. interleaved period (map (inputs n) (below channels))) found []) ≤ period * channels
block-length period channels inputs None = omega arith
block-length period channels inputs (Some n) =
    let all : length (interleaved period (map (inputs n) (below channels))) ≡ period * length (map (inputs n) (below channels)) = interleaved-length period (map (inputs n) (below channels)) in
    let same : period * length (map (inputs n) (below channels)) ≡ period * channels = ap (λ m. period * m) (length-map (below channels) (inputs n) ∙ length-below channels) in
    omega (arith, all, same)

-- the ring of a recorder is the driver's own again
own-next : (driver after : Driver) (recorder : ℕ) (ring ring_after : Sending) (samples : List ℤ) → after.script ≡ driver.script → frames_run after ≡ frames_run driver + driver.set
    → length samples ≤ driver.set * channels_on driver.script recorder → Grows samples ring ring_after → IsOwnRing driver recorder ring → IsOwnRing after recorder ring_after
own-next driver after recorder ring ring_after samples script frames few grown own =
    let channels : channels_on after.script recorder ≡ channels_on driver.script recorder = ap (λ (s : Script). channels_on s recorder) script in
    let room : frames_run after * channels_on after.script recorder ≡ (frames_run driver + driver.set) * channels_on driver.script recorder = ap (λ n. n * channels_on after.script recorder) frames ∙ ap (λ n. (frames_run driver + driver.set) * n) channels in
    let both : (frames_run driver + driver.set) * channels_on driver.script recorder ≡ frames_run driver * channels_on driver.script recorder + driver.set * channels_on driver.script recorder = add-mul (frames_run driver) driver.set (channels_on driver.script recorder) in
    let old : items_of ring.put ≤ frames_run driver * channels_on driver.script recorder = own.items in
    let more : items_of ring_after.put ≤ items_of ring.put + length samples = grown.items in
    record {
      samples = grown.samples ∙ own.samples ∙ ap (λ (s : Script). greatest_period s * channels_on s recorder) (sym script);
      most = grown.most ∙ own.most;
      items = omega (arith, room, both, old, more, few);
    }

-- all rings are
pub HasOwnRings-next : (driver after : Driver) → HasOwnRings driver → after.script ≡ driver.script → frames_run after ≡ frames_run driver + driver.set → length after.rings ≡ length driver.rings
    → length after.disks ≡ length driver.disks → map (λ (got : Getting). length got.got) after.disks ≡ after.played → ((disk : ℕ) (got : Getting) → slice_get after.disks disk ≡ Some got → IsOwnDisk after disk got)
    → map (λ (ring : Sending). length ring.put) after.rings ≡ after.sent → (samples : ℕ → List ℤ)
    → ((recorder : ℕ) → length (samples recorder) ≤ driver.set * channels_on driver.script recorder)
    → ((recorder : ℕ) (ring ring_after : Sending) → slice_get driver.rings recorder ≡ Some ring → slice_get after.rings recorder ≡ Some ring_after → Grows (samples recorder) ring ring_after)
    → HasOwnRings after
HasOwnRings-next driver after own script frames as_many as_many_disks played own_disks counted samples few grown = record {
  recorders = as_many ∙ own.recorders ∙ ap (λ (s : Script). length s.header.recorders) (sym script);
  disks = as_many_disks ∙ own.disks ∙ ap (λ (s : Script). length s.header.disks) (sym script);
  puts = counted;
  gets = played;
  own = λ recorder ring_after here.
      let there = there_too after.rings driver.rings recorder ring_after (sym as_many) here in
      own-next driver after recorder there.0 ring_after (samples recorder) script frames (few recorder) (grown recorder there.0 ring_after there.1 here) (own.own recorder there.0 there.1);
  own_disks = own_disks;
}
