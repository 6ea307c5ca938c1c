-- What a recorder has where its ring was emptied for the last time.
--     maps-by_place      lists that agree at each place
--     RingStays-emptied, IsPair-emptied      the ring keeps its blocks, and its two ends stay one pair
--     got-all, blocks-all, samples-all      all that was put was got, counted and written
--     EndedAt session after recorder, ended_at      and so it is for each recorder of a session
--     rings-stay, pairs-stay, puts-same, capacities-same      so the rings and their pairs stay
--     counts-put      and the counts are those of what was put
use Rattle.std.proofs.Common.{◌≡◌, ◌⊎◌, inl, inr, ℕ, suc, ◌+◌, ◌<◌, ◌≤◌, List, [], ◌∷◌, length, map, take, get_or, slice_get, All, Option, Some, refl, sym, ◌∙◌, ap, ap₂, subst, arith, map-id}
use Rattle.std.proofs.Math.Seq.{take-length}
use Rattle.std.proofs.lemmas.Bool.{cases_lt}
use Rattle.std.proofs.lemmas.List.{length-map}
use Rattle.std.proofs.lemmas.Option.{get_or_from_slice_get, same_Some, slice_get-get_or, slice_get_within}
use Rattle.jack_types.specs.declared.files.Format.{Format}
use Rattle.session_model.specs.Rings.{RingBlock, samples_of_blocks}
use Rattle.driver_words.specs.Rings.{Getting, IsPair, Sending}
use Rattle.driver_words.specs.Tapes.{HasSamples, Tape}
use Rattle.run_laws.specs.driver_laws.specs.Cycling.{RingStays}
use Rattle.recorder_files.specs.Recorders.{GivesUp, Reel}
use Rattle.run_laws.specs.Runs.{HasFiles}
use Rattle.run_laws.specs.Sessions.{IsOne, Session}
use Rattle.run_laws.proofs.PlaceLemmas.{mapped_there, some_at}
use Rattle.serial_laws.specs.Endings.{EndsAll, EndsOne, IsFinished}
use Rattle.serial_laws.specs.Steps.{IsReel}

-- ---- lists

-- lists that agree at each place, each under its own function, are alike under these
maps-by_place : {X Y Z : Type 0} (f : X → Z) (g : Y → Z) (xs : List X) (ys : List Y) → length xs ≡ length ys
    → ((k : ℕ) (x : X) (y : Y) → slice_get xs k ≡ Some x → slice_get ys k ≡ Some y → f x ≡ g y) → map f xs ≡ map g ys
maps-by_place f g [] [] size same = refl
maps-by_place f g [] (y ∷ ys) size same = absurd (omega (arith, size))
maps-by_place f g (x ∷ xs) [] size same = absurd (omega (arith, size))
maps-by_place f g (x ∷ xs) (y ∷ ys) size same =
    ap₂ (λ a rest. a ∷ rest) (same 0 x y refl refl) (maps-by_place f g xs ys (omega (arith, size)) (λ k. same (suc k)))

-- ---- one recorder

module _ (capacity : ℕ) (before after : Reel) (gives : GivesUp capacity before after) where
  got_met : gives.got_met.got ≡ before.getting.got
  got_met = ap (λ (g : Getting). g.got) gives.first.getting_is

  put_met : gives.ring_met.put ≡ before.ring.put
  put_met = ap (λ (r : Sending). r.put) gives.first.sending_is

  -- so many more were got
  got_more : length gives.written.got ≡ length before.getting.got + gives.count
  got_more = gives.drains.writes.count_is ∙ ap (λ (blocks : List RingBlock). length blocks + gives.count) got_met

  RingStays-emptied : RingStays before.ring after.ring
  RingStays-emptied =
      let bound : after.ring.least ≡ length gives.written.got = ap (λ (r : Sending). r.least) gives.second.sending_is in
      let looked : before.ring.least ≤ length before.getting.got = gives.first.met.looks_least in
      record {
        put = ap (λ (r : Sending). r.put) gives.second.sending_is ∙ put_met;
        capacity = ap (λ (r : Sending). r.capacity) gives.second.sending_is ∙ ap (λ (r : Sending). r.capacity) gives.first.sending_is;
        samples = ap (λ (r : Sending). r.samples) gives.second.sending_is ∙ ap (λ (r : Sending). r.samples) gives.first.sending_is;
        most = ap (λ (r : Sending). r.most) gives.second.sending_is ∙ ap (λ (r : Sending). r.most) gives.first.sending_is;
        least = omega (arith, bound, looked, got_more);
      }

  IsPair-emptied : IsPair before.ring before.getting → IsPair after.ring after.getting
  IsPair-emptied pair = record {
    one = ap (λ (r : Sending). r.table) gives.second.sending_is ∙ ap (λ (r : Sending). r.table) gives.first.sending_is ∙ pair.one
        ∙ sym (ap (λ (g : Getting). g.table) gives.second.getting_is ∙ gives.drains.writes.same.table ∙ ap (λ (g : Getting). g.table) gives.first.getting_is);
    same_samples = RingStays-emptied.samples ∙ pair.same_samples
        ∙ sym (ap (λ (g : Getting). g.samples) gives.second.getting_is ∙ gives.drains.writes.same.room ∙ ap (λ (g : Getting). g.samples) gives.first.getting_is);
    same_most = RingStays-emptied.most ∙ pair.same_most
        ∙ sym (ap (λ (g : Getting). g.most) gives.second.getting_is ∙ gives.drains.writes.same.most ∙ ap (λ (g : Getting). g.most) gives.first.getting_is);
  }

  pub format-emptied : after.tape.format ≡ before.tape.format
  format-emptied = gives.drains.writes.same.format

  -- a ring gives up as many as it may have: no block is left in it
  module _ (room : before.ring.capacity ≡ capacity) where
    none_left : length before.ring.put ≤ length gives.written.got
    none_left = go (cases_lt gives.count capacity)
      where
        within : length before.ring.put ≤ length before.getting.got + before.ring.capacity
        within = gives.first.met.within

        found : gives.got_met.least ≡ length before.ring.put
        found = ap (λ (g : Getting). g.least) gives.first.getting_is

        later : gives.got_met.least ≤ gives.written.least
        later = gives.drains.writes.same.least

        go : (gives.count < capacity) ⊎ (capacity ≤ gives.count) → length before.ring.put ≤ length gives.written.got
        go (inl low) = let found_all : gives.written.least ≡ length gives.written.got = gives.drains.fewer low in omega (arith, found, later, found_all)
        go (inr high) = omega (arith, within, room, high, got_more)

    got-all : gives.written.got ≡ before.ring.put
    got-all =
        let behind : length gives.written.got ≤ length gives.ring_met.put = gives.second.met.behind in
        let size_met : length gives.ring_met.put ≡ length before.ring.put = ap (λ (blocks : List RingBlock). length blocks) put_met in
        let size : length gives.written.got ≡ length gives.ring_met.put = omega (arith, behind, size_met, none_left) in
        gives.second.met.front ∙ ap (λ n. take n gives.ring_met.put) size ∙ take-length gives.ring_met.put ∙ put_met

    blocks-all : before.blocks ≡ length before.getting.got → after.blocks ≡ length after.ring.put
    blocks-all counted =
        gives.counted ∙ ap (λ n. n + gives.count) counted ∙ sym got_more ∙ ap (λ (blocks : List RingBlock). length blocks) (got-all ∙ sym RingStays-emptied.put)

    pub samples-all : HasSamples before.tape (samples_of_blocks before.getting.got) → HasSamples after.tape (samples_of_blocks before.ring.put)
    samples-all had =
        subst (λ (blocks : List RingBlock). HasSamples after.tape (samples_of_blocks blocks)) got-all
        (gives.drains.writes.samples [] (subst (λ (blocks : List RingBlock). HasSamples before.tape (samples_of_blocks blocks)) (sym got_met) had))

-- ---- each recorder of a session

-- what the recorder has before and behind, and what its store told that came back
pub record EndedAt (session after : Session) (recorder : ℕ) : Type 0 where
  pub before : Reel
  pub behind : Reel
  pub bytes : Option (List ℕ)
  pub is_reel : IsReel session recorder before
  pub ring : slice_get after.driver.rings recorder ≡ Some behind.ring
  pub getting : slice_get after.getting recorder ≡ Some behind.getting
  pub blocks : slice_get after.counts recorder ≡ Some behind.blocks
  pub file : slice_get after.record_files recorder ≡ Some bytes
  pub gives : GivesUp session.script.header.ring before behind
  pub finished : IsFinished behind.tape bytes

module _ (session after : Session) (one : IsOne session) (files : HasFiles session) (ends : EndsAll session after) where
  abbrev recorders : ℕ
  recorders = length session.script.header.recorders

  rings_many : length session.driver.rings ≡ recorders
  rings_many = one.rings.recorders ∙ ap (λ script. length script.header.recorders) one.driver_script

  tapes_many : length session.tapes ≡ recorders
  tapes_many = sym (length-map session.tapes (λ (tape : Tape). tape.format)) ∙ ap (λ (formats : List Format). length formats) files.formats

  counts_many : length session.counts ≡ recorders
  counts_many = sym (ap (λ (counts : List ℕ). length counts) files.counted) ∙ length-map session.getting (λ (got : Getting). length got.got) ∙ one.recorder_ends

  pub ended_at : (recorder : ℕ) → recorder < recorders → EndedAt session after recorder
  ended_at recorder low =
      let ring = some_at session.driver.rings recorder (omega (arith, low, rings_many)) in
      let getting = some_at session.getting recorder (omega (arith, low, one.recorder_ends)) in
      let tape = some_at session.tapes recorder (omega (arith, low, tapes_many)) in
      let blocks = some_at session.counts recorder (omega (arith, low, counts_many)) in
      let ring_after = some_at after.driver.rings recorder (omega (arith, low, rings_many, ends.rings)) in
      let getting_after = some_at after.getting recorder (omega (arith, low, one.recorder_ends, ends.getting)) in
      let blocks_after = some_at after.counts recorder (omega (arith, low, counts_many, ends.counts)) in
      let bytes = some_at after.record_files recorder (omega (arith, low, one.recorder_ends, ends.records)) in
      let before : Reel = record { ring = ring.0; getting = getting.0; tape = tape.0; blocks = blocks.0 } in
      let is_reel : IsReel session recorder before = record { ring = ring.1; getting = getting.1; tape = tape.1; blocks = blocks.1 } in
      let ends_one : EndsOne session.script.header.ring before ring_after.0 getting_after.0 blocks_after.0 bytes.0 =
      ends.each recorder before ring_after.0 getting_after.0 blocks_after.0 bytes.0 is_reel ring_after.1 getting_after.1 blocks_after.1 bytes.1 in
      record {
        before = before;
        behind = record { ring = ring_after.0; getting = getting_after.0; tape = ends_one.tape; blocks = blocks_after.0 };
        bytes = bytes.0;
        is_reel = is_reel;
        ring = ring_after.1;
        getting = getting_after.1;
        blocks = blocks_after.1;
        file = bytes.1;
        gives = ends_one.empties;
        finished = ends_one.finished;
      }

  -- a ring of the session has the script's capacity
  pub capacity_at : (recorder : ℕ) (ring : Sending) → slice_get session.driver.rings recorder ≡ Some ring → ring.capacity ≡ session.script.header.ring
  capacity_at recorder ring there =
      ap (λ (r : Sending). r.capacity) (sym (get_or_from_slice_get session.driver.rings recorder ring ring there))
      ∙ one.capacity recorder ring (slice_get_within session.driver.rings recorder ring there)

  -- a file of the session has all blocks got, as many as were counted
  counted_at : (recorder : ℕ) (reel : Reel) → IsReel session recorder reel → reel.blocks ≡ length reel.getting.got
  counted_at recorder reel is_reel =
      same_Some reel.blocks (length reel.getting.got)
      (sym is_reel.blocks ∙ ap (λ (counts : List ℕ). slice_get counts recorder) (sym files.counted)
      ∙ mapped_there (λ (got : Getting). length got.got) session.getting recorder reel.getting is_reel.getting)

  -- where a ring is there behind the end
  ended_there : (recorder : ℕ) (ring : Sending) → slice_get after.driver.rings recorder ≡ Some ring → EndedAt session after recorder
  ended_there recorder ring there = ended_at recorder (omega (arith, slice_get_within after.driver.rings recorder ring there, ends.rings, rings_many))

  pub rings-stay : (recorder : ℕ) (ring : Sending) → slice_get after.driver.rings recorder ≡ Some ring → (old : Sending) × (slice_get session.driver.rings recorder ≡ Some old) × RingStays old ring
  rings-stay recorder ring there =
      let at : EndedAt session after recorder = ended_there recorder ring there in
      (at.before.ring, at.is_reel.ring, subst (λ (r : Sending). RingStays at.before.ring r) (same_Some at.behind.ring ring (sym at.ring ∙ there)) (RingStays-emptied session.script.header.ring at.before at.behind at.gives))

  pub pairs-stay : (recorder : ℕ) (ring : Sending) (got : Getting) → slice_get after.driver.rings recorder ≡ Some ring → slice_get after.getting recorder ≡ Some got → IsPair ring got
  pairs-stay recorder ring got ring_there got_there =
      let at : EndedAt session after recorder = ended_there recorder ring ring_there in
      let pair : IsPair at.behind.ring at.behind.getting =
      IsPair-emptied session.script.header.ring at.before at.behind at.gives (one.recorder_pairs recorder at.before.ring at.before.getting at.is_reel.ring at.is_reel.getting) in
      subst (λ (g : Getting). IsPair ring g) (same_Some at.behind.getting got (sym at.getting ∙ got_there))
      (subst (λ (r : Sending). IsPair r at.behind.getting) (same_Some at.behind.ring ring (sym at.ring ∙ ring_there)) pair)

  pub puts-same : map (λ (ring : Sending). length ring.put) after.driver.rings ≡ map (λ (ring : Sending). length ring.put) session.driver.rings
  puts-same = maps-by_place (λ (ring : Sending). length ring.put) (λ (ring : Sending). length ring.put) after.driver.rings session.driver.rings ends.rings
      (λ recorder ring old ring_there old_there.
      let stays = rings-stay recorder ring ring_there in
      ap (λ (blocks : List RingBlock). length blocks) (stays.2.put ∙ ap (λ (r : Sending). r.put) (same_Some stays.0 old (sym stays.1 ∙ old_there))))

  pub capacities-same : All (λ (ring : Sending). ring.capacity ≡ session.script.header.ring) after.driver.rings
  capacities-same recorder default low =
      let stays = rings-stay recorder (get_or after.driver.rings recorder default) (slice_get-get_or after.driver.rings recorder default low) in
      stays.2.capacity ∙ capacity_at recorder stays.0 stays.1

  pub counts-put : after.counts ≡ map (λ (ring : Sending). length ring.put) after.driver.rings
  counts-put =
      let size : length after.counts ≡ length after.driver.rings = ends.counts ∙ counts_many ∙ sym (ends.rings ∙ rings_many) in
      sym (map-id after.counts)
      ∙ maps-by_place (λ (blocks : ℕ). blocks) (λ (ring : Sending). length ring.put) after.counts after.driver.rings size
      (λ recorder blocks ring blocks_there ring_there.
      let at : EndedAt session after recorder = ended_there recorder ring ring_there in
      same_Some blocks at.behind.blocks (sym blocks_there ∙ at.blocks)
      ∙ blocks-all session.script.header.ring at.before at.behind at.gives (capacity_at recorder at.before.ring at.is_reel.ring) (counted_at recorder at.before at.is_reel)
      ∙ ap (λ (r : Sending). length r.put) (same_Some at.behind.ring ring (sym at.ring ∙ ring_there)))
