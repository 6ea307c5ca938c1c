-- What a step leaves of a recorder's ring.
--     SameRing before after      the same ring, behind a cycle
--     stays-blocks, pair-blocks, no_end-blocks      blocks that left it
--     format-blocks, may-blocks, samples-blocks, counted-blocks      and went to its file
--     empty-blocks      as many as its capacity leave it empty
--     same-put      a cycle's part at it
use Rattle.std.proofs.Common.{◌≡◌, ℕ, ◌+◌, ◌<◌, ◌≤◌, ◌⊎◌, inl, inr, Bool, false, List, [], length, ℤ, sym, ◌∙◌, ap, subst, arith}
use Rattle.std.proofs.lemmas.Bool.{cases_lt}
use Rattle.jack_types.specs.declared.replies.Overrun.{Overrun}
use Rattle.driver_words.specs.Rings.{Getting, IsPair, Sending}
use Rattle.driver_words.specs.Tapes.{HasSamples}
use Rattle.recorder_files.specs.disk_recorder.specs.Recordings.{MayWrite}
use Rattle.session_model.specs.Rings.{samples_of_blocks}
use Rattle.run_laws.specs.driver_laws.specs.Cycling.{Idle, Lacked, PutsOne, RingStays, Went}
use Rattle.recorder_files.specs.Recorders.{GivesUp, Reel}

-- the same ring, whose ends are a pair as before, and without an end
pub record SameRing (before after : Sending) : Type 0 where
  pub capacity : after.capacity ≡ before.capacity
  pub pair : (got : Getting) → IsPair before got → IsPair after got
  pub no_end : before.ended ≡ false → after.ended ≡ false

same-ring : (before after : Sending) → after.table ≡ before.table → after.samples ≡ before.samples → after.most ≡ before.most → after.capacity ≡ before.capacity
    → (before.ended ≡ false → after.ended ≡ false) → SameRing before after
same-ring before after table samples most capacity ended = record {
  capacity = capacity;
  pair = λ got pair. record { one = table ∙ pair.one; same_samples = samples ∙ pair.same_samples; same_most = most ∙ pair.same_most };
  no_end = ended;
}

module _ (most : ℕ) (before after : Reel) (gives : GivesUp most before after) where
  ring_is : after.ring ≡ record before.ring { least = length gives.written.got; ended = false }
  ring_is = gives.second.sending_is ∙ ap (λ (r : Sending). record r { least = length gives.written.got; ended = false }) gives.first.sending_is

  -- what both ends have got when they meet again
  got_is : after.getting.got ≡ gives.written.got
  got_is = ap (λ (g : Getting). g.got) gives.second.getting_is

  first_got : gives.got_met.got ≡ before.getting.got
  first_got = ap (λ (g : Getting). g.got) gives.first.getting_is

  size : length gives.written.got ≡ length before.getting.got + gives.count
  size = gives.drains.writes.count_is ∙ ap (λ got. length got + gives.count) first_got

  pub stays-blocks : RingStays before.ring after.ring
  stays-blocks =
      let looks : before.ring.least ≤ length before.getting.got = gives.first.met.looks_least in
      let least : after.ring.least ≡ length gives.written.got = ap (λ (r : Sending). r.least) ring_is in
      record {
        put = ap (λ (r : Sending). r.put) ring_is;
        capacity = ap (λ (r : Sending). r.capacity) ring_is;
        samples = ap (λ (r : Sending). r.samples) ring_is;
        most = ap (λ (r : Sending). r.most) ring_is;
        least = omega (arith, looks, least, size);
      }

  pub pair-blocks : IsPair before.ring before.getting → IsPair after.ring after.getting
  pair-blocks pair =
      let same = gives.drains.writes.same in
      record {
        one = ap (λ (r : Sending). r.table) ring_is ∙ pair.one ∙ sym (ap (λ (g : Getting). g.table) gives.second.getting_is ∙ same.table ∙ ap (λ (g : Getting). g.table) gives.first.getting_is);
        same_samples = ap (λ (r : Sending). r.samples) ring_is ∙ pair.same_samples ∙ sym (ap (λ (g : Getting). g.samples) gives.second.getting_is ∙ same.room ∙ ap (λ (g : Getting). g.samples) gives.first.getting_is);
        same_most = ap (λ (r : Sending). r.most) ring_is ∙ pair.same_most ∙ sym (ap (λ (g : Getting). g.most) gives.second.getting_is ∙ same.most ∙ ap (λ (g : Getting). g.most) gives.first.getting_is);
      }

  pub no_end-blocks : after.ring.ended ≡ false
  no_end-blocks = ap (λ (r : Sending). r.ended) ring_is

  pub format-blocks : after.tape.format ≡ before.tape.format
  format-blocks = gives.drains.writes.same.format

  pub may-blocks : MayWrite after.getting after.tape
  may-blocks =
      let may : MayWrite gives.written after.tape = gives.drains.writes.may in
      subst (λ (g : Getting). MayWrite g after.tape) (sym gives.second.getting_is) (record { going = may.going; lawful = may.lawful; few = may.few; got = may.got; written = may.written })

  pub samples-blocks : HasSamples before.tape (samples_of_blocks before.getting.got) → HasSamples after.tape (samples_of_blocks after.getting.got)
  samples-blocks has =
      subst (λ blocks. HasSamples after.tape (samples_of_blocks blocks)) (sym got_is)
      (gives.drains.writes.samples [] (subst (λ blocks. HasSamples before.tape (samples_of_blocks blocks)) (sym first_got) has))

  pub counted-blocks : length before.getting.got ≡ before.blocks → length after.getting.got ≡ after.blocks
  counted-blocks counted = ap length got_is ∙ size ∙ ap (λ n. n + gives.count) counted ∙ sym gives.counted

  -- no more blocks are in a ring than its capacity, and fewer leave it only where no more were found
  pub empty-blocks : before.ring.capacity ≤ most → after.ring.least ≡ length after.ring.put
  empty-blocks room = go (cases_lt gives.count most)
    where
      least : after.ring.least ≡ length gives.written.got
      least = ap (λ (r : Sending). r.least) ring_is

      put : length after.ring.put ≡ length before.ring.put
      put = ap (λ (r : Sending). length r.put) ring_is

      -- the second meeting tells that no more was got than put
      behind : length gives.written.got ≤ length before.ring.put
      behind =
          let met : length gives.written.got ≤ length gives.ring_met.put = gives.second.met.behind in
          let same : length gives.ring_met.put ≡ length before.ring.put = ap (λ (r : Sending). length r.put) gives.first.sending_is in
          omega (arith, met, same)

      go : (gives.count < most) ⊎ (most ≤ gives.count) → after.ring.least ≡ length after.ring.put
      go (inl few) =
          let all : gives.written.least ≡ length gives.written.got = gives.drains.fewer few in
          let known : gives.got_met.least ≤ gives.written.least = gives.drains.writes.same.least in
          let found : gives.got_met.least ≡ length before.ring.put = ap (λ (g : Getting). g.least) gives.first.getting_is in
          omega (arith, least, put, behind, all, known, found)
      go (inr many) =
          let within : length before.ring.put ≤ length before.getting.got + before.ring.capacity = gives.first.met.within in
          omega (arith, least, put, behind, many, size, within, room)

-- one cycle at a ring
pub same-put : (k recorder : ℕ) (active : Bool) (samples : List ℤ) (before after : Sending) (losses losses_after : List Overrun) → PutsOne k recorder active samples before after losses losses_after → SameRing before after
same-put k recorder active samples before after losses losses_after (Idle idle same none) =
    same-ring before after (ap (λ (r : Sending). r.table) same) (ap (λ (r : Sending). r.samples) same) (ap (λ (r : Sending). r.most) same) (ap (λ (r : Sending). r.capacity) same)
    (λ ended. ap (λ (r : Sending). r.ended) same ∙ ended)
same-put k recorder active samples before after losses losses_after (Went look on puts none) =
    same-ring before after (ap (λ (r : Sending). r.table) puts.after_is) (ap (λ (r : Sending). r.samples) puts.after_is) (ap (λ (r : Sending). r.most) puts.after_is) (ap (λ (r : Sending). r.capacity) puts.after_is)
    (λ ended. ap (λ (r : Sending). r.ended) puts.after_is ∙ ended)
same-put k recorder active samples before after losses losses_after (Lacked look on full more) =
    same-ring before after (ap (λ (r : Sending). r.table) full.after_is) (ap (λ (r : Sending). r.samples) full.after_is) (ap (λ (r : Sending). r.most) full.after_is) (ap (λ (r : Sending). r.capacity) full.after_is)
    (λ ended. ap (λ (r : Sending). r.ended) full.after_is ∙ ended)
