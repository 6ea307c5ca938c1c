-- A recorder's ring and file behind steps that were whole, or broke off.
--     IsFilled, AreFilled      each file has what was got, which is a front of what was put
--     IsTold      a file tells a front of what was put
--     AreFilled-one, AreFilled-emptied, AreFilled-disks, AreFilled-stepped      before a cycle, behind what leaves the rings, behind readings of the disks, and behind a cycle
use Rattle.std.proofs.Common.{◌≡◌, ℕ, ◌<◌, ◌≤◌, Bool, true, false, List, [], ◌∷◌, length, map, take, slice_get, slice_index_or, Some, sym, ◌∙◌, ap, subst, arith, ℤ}
use Rattle.std.proofs.lemmas.List.{length-map}
use Rattle.std.proofs.lemmas.Option.{get_or_from_slice_get, same_Some, slice_get_within}
use Rattle.jack_types.specs.Recorders.{no_format}
use Rattle.jack_types.specs.declared.files.Format.{Format}
use Rattle.jack_types.specs.declared.replies.Overrun.{Overrun}
use Rattle.session_model.specs.Rings.{RingBlock, samples_of_blocks}
use Rattle.session_model.specs.Scripts.{Script}
use Rattle.driver_words.specs.Rings.{Getting, Renews, Sending}
use Rattle.driver_words.specs.Tapes.{HasSamples, HasUnfinished, Tape}
use Rattle.wave_write.proofs.TapeLemmas.{samples-unfinished}
use Rattle.recorder_files.specs.disk_recorder.proofs.Fronts.{front_append, front_itself, front_on}
use Rattle.run_laws.specs.driver_laws.specs.Cycling.{Idle, Lacked, PutsOne, RingStays, StepsOnce, Went}
use Rattle.run_laws.specs.driver_laws.specs.Drivers.{Driver}
use Rattle.run_laws.specs.driver_laws.proofs.PlaceLemmas.{there_too}
use Rattle.recorder_files.specs.Recorders.{BreaksOff, GivesUp, Reel}
use Rattle.run_laws.specs.Runs.{HasFiles}
use Rattle.run_laws.specs.Sessions.{IsOne, Session}
use Rattle.run_laws.proofs.PlaceLemmas.{mapped_there, some_at}
use Rattle.disk_runs.specs.Readings.{DisksBroke}
use Rattle.serial_laws.specs.Faults.{BreakUp, Broke, Gave, Left, Tried}
use Rattle.serial_laws.specs.Steps.{Emptied, GiveUp, IsReel}

-- ---- one recorder

-- the file has what was got, which is a front of what was put
pub record IsFilled (format : Format) (reel : Reel) : Type 0 where
  pub samples : HasSamples reel.tape (samples_of_blocks reel.getting.got)
  pub front : reel.getting.got ≡ take (length reel.getting.got) reel.ring.put
  pub format_is : reel.tape.format ≡ format

-- the file tells a front of what was put
pub record IsTold (format : Format) (put : List RingBlock) (tape : Tape) : Type 0 where
  pub blocks : List RingBlock
  pub front : blocks ≡ take (length blocks) put
  pub unfinished : HasUnfinished format (samples_of_blocks blocks) tape.bytes

RingStays-trans : (a b c : Sending) → RingStays a b → RingStays b c → RingStays a c
RingStays-trans a b c f g = record {
  put = g.put ∙ f.put;
  capacity = g.capacity ∙ f.capacity;
  samples = g.samples ∙ f.samples;
  most = g.most ∙ f.most;
  least = omega (arith, f.least, g.least);
}

pub RingStays-renewed : (ring ring_after : Sending) (got got_after : Getting) → Renews ring got ring_after got_after → RingStays ring ring_after
RingStays-renewed ring ring_after got got_after renews = record {
  put = ap (λ (r : Sending). r.put) renews.sending_is;
  capacity = ap (λ (r : Sending). r.capacity) renews.sending_is;
  samples = ap (λ (r : Sending). r.samples) renews.sending_is;
  most = ap (λ (r : Sending). r.most) renews.sending_is;
  least = subst (λ n. ring.least ≤ n) (sym (ap (λ (r : Sending). r.least) renews.sending_is)) renews.met.looks_least;
}

pub got-renewed : (ring ring_after : Sending) (got got_after : Getting) → Renews ring got ring_after got_after → got_after.got ≡ got.got
got-renewed ring ring_after got got_after renews = ap (λ (g : Getting). g.got) renews.getting_is

pub RingStays-gave : (most : ℕ) (before after : Reel) → GivesUp most before after → RingStays before.ring after.ring
RingStays-gave most before after gives =
    RingStays-trans before.ring gives.ring_met after.ring
    (RingStays-renewed before.ring gives.ring_met before.getting gives.got_met gives.first)
    (RingStays-renewed gives.ring_met after.ring gives.written after.getting gives.second)

module _ (format : Format) (before : Reel) (filled : IsFilled format before) where
  pub IsFilled-gave : (most : ℕ) (after : Reel) → GivesUp most before after → IsFilled format after
  IsFilled-gave most after gives =
      let got : after.getting.got ≡ gives.written.got = got-renewed gives.ring_met after.ring gives.written after.getting gives.second in
      let put : after.ring.put ≡ gives.ring_met.put = (RingStays-renewed gives.ring_met after.ring gives.written after.getting gives.second).put in
      let was : HasSamples before.tape (samples_of_blocks gives.got_met.got) =
      subst (λ blocks. HasSamples before.tape (samples_of_blocks blocks)) (sym (got-renewed before.ring gives.ring_met before.getting gives.got_met gives.first)) filled.samples in
      record {
        samples = subst (λ blocks. HasSamples after.tape (samples_of_blocks blocks)) (sym got) (gives.drains.writes.samples [] was);
        front = subst (λ blocks. after.getting.got ≡ take (length after.getting.got) blocks) (sym put)
            (subst (λ blocks. blocks ≡ take (length blocks) gives.ring_met.put) (sym got) gives.second.met.front);
        format_is = gives.drains.writes.same.format ∙ filled.format_is;
      }

  pub IsTold-filled : IsTold format before.ring.put before.tape
  IsTold-filled = record {
    blocks = before.getting.got;
    front = filled.front;
    unfinished = subst (λ f. HasUnfinished f (samples_of_blocks before.getting.got) before.tape.bytes) filled.format_is (samples-unfinished before.tape (samples_of_blocks before.getting.got) filled.samples);
  }

  pub IsTold-broke : (after : Reel) → BreaksOff before after → IsTold format before.ring.put after.tape
  IsTold-broke after breaks =
      let was : HasSamples before.tape (samples_of_blocks breaks.got_met.got) =
      subst (λ blocks. HasSamples before.tape (samples_of_blocks blocks)) (sym (got-renewed before.ring breaks.ring_met before.getting breaks.got_met breaks.first)) filled.samples in
      record {
        blocks = breaks.written.got;
        front = subst (λ blocks. breaks.written.got ≡ take (length breaks.written.got) blocks) (RingStays-renewed before.ring breaks.ring_met before.getting breaks.got_met breaks.first).put breaks.second.met.front;
        unfinished = subst (λ f. HasUnfinished f (samples_of_blocks breaks.written.got) after.tape.bytes) (breaks.fails.same.format ∙ filled.format_is) (breaks.fails.front [] was);
      }

  IsTold-gave : (most : ℕ) (after : Reel) → GivesUp most before after → IsTold format before.ring.put after.tape
  IsTold-gave most after gives =
      let filled_after : IsFilled format after = IsFilled-gave most after gives in
      record {
        blocks = after.getting.got;
        front = subst (λ blocks. after.getting.got ≡ take (length after.getting.got) blocks) (RingStays-gave most before after gives).put filled_after.front;
        unfinished = subst (λ f. HasUnfinished f (samples_of_blocks after.getting.got) after.tape.bytes) filled_after.format_is (samples-unfinished after.tape (samples_of_blocks after.getting.got) filled_after.samples);
      }

  pub IsTold-tried : (most : ℕ) (after : Reel) → Tried most before after → IsTold format before.ring.put after.tape
  IsTold-tried most after (Gave gives) = IsTold-gave most after gives
  IsTold-tried most after (Broke breaks) = IsTold-broke after breaks
  IsTold-tried most after (Left same) = subst (λ (reel : Reel). IsTold format before.ring.put reel.tape) (sym same) IsTold-filled

-- ---- all recorders

abbrev pub format_at : Script → ℕ → Format
format_at script recorder = slice_index_or script.header.recorders recorder no_format

pub record AreFilled (session : Session) : Type 0 where
  pub rings : length session.driver.rings ≡ length session.script.header.recorders
  pub getting : length session.getting ≡ length session.script.header.recorders
  pub tapes : length session.tapes ≡ length session.script.header.recorders
  pub counts : length session.counts ≡ length session.script.header.recorders
  pub each : (recorder : ℕ) (reel : Reel) → IsReel session recorder reel → IsFilled (format_at session.script recorder) reel

-- at each place within there is a reel
reel-at : (session : Session) (n recorder : ℕ) → length session.driver.rings ≡ n → length session.getting ≡ n → length session.tapes ≡ n → length session.counts ≡ n → recorder < n → (reel : Reel) × IsReel session recorder reel
reel-at session n recorder rings getting tapes counts low =
    let ring = some_at session.driver.rings recorder (omega (arith, rings, low)) in
    let got = some_at session.getting recorder (omega (arith, getting, low)) in
    let tape = some_at session.tapes recorder (omega (arith, tapes, low)) in
    let blocks = some_at session.counts recorder (omega (arith, counts, low)) in
    (record { ring = ring.0; getting = got.0; tape = tape.0; blocks = blocks.0 }, record { ring = ring.1; getting = got.1; tape = tape.1; blocks = blocks.1 })

pub reel-of : (session : Session) → AreFilled session → (recorder : ℕ) → recorder < length session.script.header.recorders → (reel : Reel) × IsReel session recorder reel
reel-of session filled recorder low = reel-at session (length session.script.header.recorders) recorder filled.rings filled.getting filled.tapes filled.counts low

pub AreFilled-one : (session : Session) → IsOne session → HasFiles session
    → ((recorder : ℕ) (ring : Sending) (got : Getting) → slice_get session.driver.rings recorder ≡ Some ring → slice_get session.getting recorder ≡ Some got → got.got ≡ take (length got.got) ring.put)
    → AreFilled session
AreFilled-one session one files fronts = record {
  rings = one.rings.recorders ∙ ap (λ (s : Script). length s.header.recorders) one.driver_script;
  getting = one.recorder_ends;
  tapes = sym (length-map session.tapes (λ (tape : Tape). tape.format)) ∙ ap length files.formats;
  counts = sym (ap length files.counted) ∙ length-map session.getting (λ (got : Getting). length got.got) ∙ one.recorder_ends;
  each = λ recorder reel is. record {
    samples = files.samples recorder reel.getting reel.tape is.getting is.tape;
    front = fronts recorder reel.ring reel.getting is.ring is.getting;
    format_is =
        sym (get_or_from_slice_get (map (λ (tape : Tape). tape.format) session.tapes) recorder reel.tape.format no_format (mapped_there (λ (tape : Tape). tape.format) session.tapes recorder reel.tape is.tape))
        ∙ ap (λ formats. slice_index_or formats recorder no_format) files.formats;
  };
}

pub AreFilled-gave : (most : ℕ) (session after : Session) → GiveUp most session after → AreFilled session → AreFilled after
AreFilled-gave most session after gives filled = record {
  rings = gives.rings ∙ filled.rings ∙ as_many;
  getting = gives.getting ∙ filled.getting ∙ as_many;
  tapes = gives.tapes ∙ filled.tapes ∙ as_many;
  counts = gives.counts ∙ filled.counts ∙ as_many;
  each = λ recorder reel is.
      let low : recorder < length session.script.header.recorders = let h = slice_get_within after.driver.rings recorder reel.ring is.ring in omega (arith, h, gives.rings, filled.rings) in
      let was = reel-of session filled recorder low in
      subst (λ (s : Script). IsFilled (format_at s recorder) reel) script_is
      (IsFilled-gave (format_at session.script recorder) was.0 (filled.each recorder was.0 was.1) most reel (gives.each recorder was.0 reel was.1 is));
}
  where
    script_is : session.script ≡ after.script
    script_is = sym (ap (λ (s : Session). s.script) gives.same)

    as_many : length session.script.header.recorders ≡ length after.script.header.recorders
    as_many = ap (λ (s : Script). length s.header.recorders) script_is

pub AreFilled-emptied : (freewheel : Bool) (session after : Session) → Emptied freewheel session after → AreFilled session → AreFilled after
AreFilled-emptied true session after gives filled = AreFilled-gave session.script.header.ring session after gives filled
AreFilled-emptied false session after same filled = subst AreFilled (sym same) filled

-- readings of the disks leave the recorders
pub AreFilled-disks : (most : ℕ) (session after : Session) → DisksBroke most session after → AreFilled session → AreFilled after
AreFilled-disks most session after tried filled =
    let behind : AreFilled (record session { driver = record session.driver { disks = after.driver.disks }; players = after.players }) = record {
      rings = filled.rings;
      getting = filled.getting;
      tapes = filled.tapes;
      counts = filled.counts;
      each = λ recorder reel is. filled.each recorder reel record { ring = is.ring; getting = is.getting; tape = is.tape; blocks = is.blocks };
    } in
    subst AreFilled (sym tried.same) behind

-- what was put before a cycle is a front of what is put behind it
put-longer : (k recorder : ℕ) (active : Bool) (samples : List ℤ) (before after : Sending) (losses losses_after : List Overrun) → PutsOne k recorder active samples before after losses losses_after → before.put ≡ take (length before.put) after.put
put-longer k recorder active samples before after losses losses_after (Idle idle same none) =
    subst (λ (r : Sending). before.put ≡ take (length before.put) r.put) (sym same) (front_itself before.put)
put-longer k recorder active samples before after losses losses_after (Went look on puts none) =
    subst (λ blocks. before.put ≡ take (length before.put) blocks) (sym (ap (λ (r : Sending). r.put) puts.after_is)) (front_append before.put (record { cycle = k; samples = samples } ∷ []))
put-longer k recorder active samples before after losses losses_after (Lacked look on full more) =
    subst (λ blocks. before.put ≡ take (length before.put) blocks) (sym (ap (λ (r : Sending). r.put) full.after_is)) (front_itself before.put)

pub AreFilled-stepped : (session : Session) (driver : Driver) → StepsOnce session.driver driver → AreFilled session → AreFilled (record session { driver = driver })
AreFilled-stepped session driver steps filled = record {
  rings = steps.as_many ∙ filled.rings;
  getting = filled.getting;
  tapes = filled.tapes;
  counts = filled.counts;
  each = λ recorder reel is.
      let was = there_too driver.rings session.driver.rings recorder reel.ring (sym steps.as_many) is.ring in
      let old = filled.each recorder (record reel { ring = was.0 }) (record { ring = was.1; getting = is.getting; tape = is.tape; blocks = is.blocks }) in
      record {
        samples = old.samples;
        front = front_on reel.getting.got was.0.put reel.ring.put old.front (put-longer _ recorder _ _ was.0 reel.ring _ _ (steps.rings recorder was.0 reel.ring was.1 is.ring));
        format_is = old.format_is;
      };
}

-- ---- rings that gave up blocks, until a file failed

-- what a recorder had before, and has behind, where its file in the making is this one
pub record WasTried (most : ℕ) (session after : Session) (recorder : ℕ) (tape : Tape) : Type 0 where
  pub low : recorder < length session.script.header.recorders
  pub before : Reel
  pub behind : Reel
  pub was : IsReel session recorder before
  pub tried : Tried most before behind
  pub tape_is : behind.tape ≡ tape

pub tried-at : (most : ℕ) (session after : Session) → AreFilled session → BreakUp most session after → (recorder : ℕ) (tape : Tape) → slice_get after.tapes recorder ≡ Some tape → WasTried most session after recorder tape
tried-at most session after filled breaks recorder tape there =
    let count : ℕ = length session.script.header.recorders in
    let here : recorder < count = let h = slice_get_within after.tapes recorder tape there in omega (arith, h, breaks.tapes, filled.tapes) in
    let was = reel-of session filled recorder here in
    let now = reel-at after count recorder (breaks.rings ∙ filled.rings) (breaks.getting ∙ filled.getting) (breaks.tapes ∙ filled.tapes) (breaks.counts ∙ filled.counts) here in
    record { low = here; before = was.0; behind = now.0; was = was.1; tried = breaks.each recorder was.0 now.0 was.1 now.1; tape_is = same_Some now.0.tape tape (sym now.1.tape ∙ there) }
