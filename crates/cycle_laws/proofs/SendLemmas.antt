-- The blocks of the next cycle may be put into the rings of a driver that runs no failed cycle.
--     ring-own      the ring of a recorder is the driver's own
--     channels-are      its channels are those of the script
--     samples-are      its blocks have room for the greatest period
--     puts-few      few blocks were put
--     items-fit      one block more fits what is left
--     losses-fit      and there is room for an overrun of each recorder
use Rattle.std.proofs.Common.{◌≡◌, ℕ, zero, suc, ◌+◌, ◌*◌, ◌<◌, ◌≤◌, List, [], ◌∷◌, length, map, get_or, slice_get, All, Some, refl, sym, ◌∙◌, ap, ap₂, arith, add-mul, mul-le-mul_right}
use Rattle.std.proofs.lemmas.List.{get_or-map, length-map}
use Rattle.std.proofs.lemmas.Option.{slice_get-get_or}
use Rattle.jack_types.specs.Recorders.{no_format}
use Rattle.jack_types.specs.declared.files.Format.{Format}
use Rattle.driver_words.specs.Rings.{Sending, items_of}
use Rattle.plan_transport.specs.driver_laws.specs.Drivers.{Driver, IsOwnRing, channels_on, frames_run, greatest_period}
use Rattle.cycle_blocks.specs.recorder_rings.specs.Sending.{Sent, channels_at, no_ring, ring_at}

format-channels : (formats : List Format) (i : ℕ) → get_or (map (λ (format : Format). format.channels) formats) i 0 ≡ (get_or formats i no_format).channels
format-channels [] i = refl
format-channels (format ∷ formats) zero = refl
format-channels (format ∷ formats) (suc i) = format-channels formats i

module _ (seen : Sent) (driver : Driver) (own : (recorder : ℕ) (ring : Sending) → slice_get seen.rings recorder ≡ Some ring → IsOwnRing driver recorder ring) where
  pub ring-own : (recorder : ℕ) → recorder < length seen.rings → IsOwnRing driver recorder (ring_at seen recorder)
  ring-own recorder low = own recorder (ring_at seen recorder) (slice_get-get_or seen.rings recorder no_ring low)

  module _ (channels : seen.channels ≡ map (λ (format : Format). format.channels) driver.script.header.recorders) where
    pub channels-are : (recorder : ℕ) → channels_at seen recorder ≡ channels_on driver.script recorder
    channels-are recorder = ap (λ cs. get_or cs recorder 0) channels ∙ format-channels driver.script.header.recorders recorder

    pub samples-are : seen.room ≡ greatest_period driver.script → (recorder : ℕ) → recorder < length seen.rings → (ring_at seen recorder).samples ≡ seen.room * channels_at seen recorder
    samples-are room recorder low = (ring-own recorder low).samples ∙ ap₂ (λ a b. a * b) (sym room) (sym (channels-are recorder))

    pub items-fit : (recorder : ℕ) → recorder < length seen.rings → frames_run driver * channels_on driver.script recorder + driver.set * channels_on driver.script recorder ≤ 500000000
        → items_of (ring_at seen recorder).put + driver.set * channels_at seen recorder ≤ (ring_at seen recorder).most
    items-fit recorder low few =
        let items : items_of (ring_at seen recorder).put ≤ frames_run driver * channels_on driver.script recorder = (ring-own recorder low).items in
        let most : (ring_at seen recorder).most ≡ 500000000 = (ring-own recorder low).most in
        let block : driver.set * channels_at seen recorder ≡ driver.set * channels_on driver.script recorder = ap (λ c. driver.set * c) (channels-are recorder) in
        omega (arith, items, most, block, few)

-- few blocks were put
pub puts-few : (rings : List Sending) (sent : List ℕ) (cycles recorder : ℕ) → map (λ (ring : Sending). length ring.put) rings ≡ sent → All (λ n. n ≤ cycles) sent → recorder < length rings
    → length (get_or rings recorder no_ring).put ≤ cycles
puts-few rings sent cycles recorder counted all low =
    let long : length sent ≡ length rings = ap length (sym counted) ∙ length-map rings (λ (ring : Sending). length ring.put) in
    let at : get_or sent recorder 0 ≡ length (get_or rings recorder no_ring).put = ap (λ ns. get_or ns recorder 0) (sym counted) ∙ get_or-map (λ (ring : Sending). length ring.put) rings recorder no_ring 0 low in
    let few : get_or sent recorder 0 ≤ cycles = all recorder 0 (omega (arith, long, low)) in
    omega (arith, at, few)

-- there is room for an overrun of each recorder, or an underrun of each disk
pub losses-fit : (overruns recorders losses cycles turns : ℕ) → overruns ≤ cycles * recorders → turns * recorders ≤ losses → cycles < turns → overruns + recorders ≤ losses
losses-fit overruns recorders losses cycles turns so_far room few =
    let next : (cycles + 1) * recorders ≡ cycles * recorders + 1 * recorders = add-mul cycles 1 recorders in
    let all : (cycles + 1) * recorders ≤ turns * recorders = mul-le-mul_right recorders (omega (arith, few)) in
    omega (arith, so_far, room, next, all)

-- one block more at most was put into each ring
pub sent-next : (rings rings_after : List Sending) (sent sent_after : List ℕ) (cycles : ℕ) → map (λ (ring : Sending). length ring.put) rings ≡ sent → map (λ (ring : Sending). length ring.put) rings_after ≡ sent_after
    → length rings_after ≡ length rings → ((recorder : ℕ) → recorder < length rings → length (get_or rings_after recorder no_ring).put ≤ length (get_or rings recorder no_ring).put + 1)
    → All (λ n. n ≤ cycles) sent → All (λ n. n ≤ cycles + 1) sent_after
sent-next rings rings_after sent sent_after cycles counted counted_after as_many more all k d low =
    let long : length sent_after ≡ length rings_after = ap length (sym counted_after) ∙ length-map rings_after (λ (ring : Sending). length ring.put) in
    let there : k < length rings_after = omega (arith, low, long) in
    let at : get_or sent_after k d ≡ length (get_or rings_after k no_ring).put = ap (λ ns. get_or ns k d) (sym counted_after) ∙ get_or-map (λ (ring : Sending). length ring.put) rings_after k no_ring d there in
    let old : length (get_or rings k no_ring).put ≤ cycles = puts-few rings sent cycles k counted all (omega (arith, there, as_many)) in
    let new : length (get_or rings_after k no_ring).put ≤ length (get_or rings k no_ring).put + 1 = more k (omega (arith, there, as_many)) in
    omega (arith, at, old, new)
