-- What the files tell behind a `run` segment that failed.
--     playback_of script      the format of the playback
--     Tells script course kept state      each file that tells has a front of what the course gives in so many cycles
--     Tells-left      so they have where they are left
--     AreFrontsOf, fronts-renewed      where both ends of each ring met, what was got is a front of what was put
--     AreFilled-set      a meeting, and another period, change nothing of the files
--     Tells-run      behind the join of a `run` segment
use Rattle.std.proofs.Common.{◌≡◌, ℕ, ◌<◌, List, length, map, take, slice_get, Some, [], sym, ◌∙◌, ap, subst, arith}
use Rattle.std.proofs.lemmas.List.{length-map}
use Rattle.std.proofs.lemmas.Option.{slice_get_within}
use Rattle.jack_types.specs.declared.files.Format.{Format}
use Rattle.session_model.specs.Courses.{Course}
use Rattle.session_model.specs.Rings.{RingBlock, samples_of_blocks}
use Rattle.session_model.specs.Scripts.{Script}
use Rattle.session_laws.proofs.ListLemmas.{slice_get-map}
use Rattle.graph_word.specs.Publications.{Reading}
use Rattle.driver_words.specs.Rings.{Getting, Sending}
use Rattle.driver_words.specs.Tapes.{HasSamples, HasUnfinished, Tape}
use Rattle.wave_write.proofs.TapeLemmas.{samples-unfinished}
use Rattle.control_desk.specs.Desks.{Desk}
use Rattle.driver_laws.specs.Drivers.{overruns_on}
use Rattle.driver_laws.specs.Keeping.{kept_blocks, played_so_far}
use Rattle.recorder_files.specs.Recorders.{Reel}
use Rattle.run_laws.specs.Sessions.{Session}
use Rattle.run_laws.proofs.PlaceLemmas.{some_at}
use Rattle.serial_laws.specs.Faults.{bytes_in}
use Rattle.serial_laws.specs.Steps.{IsReel}
use Rattle.serial_laws.proofs.FaultLemmas.{AreFilled, IsFilled, format_at, reel-of}
use Rattle.thread_laws.specs.Segments.{Renewed, RingsEnded, with_end}
use Rattle.thread_laws.specs.Faults.{Got, ReelEnds, ServedSome, Torn}
use Rattle.thread_laws.proofs.FileLemmas.{unfinished-blocks, unfinished-told}
use Rattle.thread_laws.proofs.FaultKeptLemmas.{HasSoFar, IsOwn}

abbrev pub playback_of : Script → Format
playback_of script = record { rate = script.header.rate; channels = script.header.playback; bits = script.header.bits }

pub record Tells (script : Script) (course : Course) (kept : ℕ) (state : Session) : Type 0 where
  pub playback : HasUnfinished (playback_of script) (played_so_far course kept) (bytes_in state.driver.playback)
  pub records : (recorder : ℕ) (tape : Tape) → slice_get state.tapes recorder ≡ Some tape
      → HasUnfinished (format_at script recorder) (samples_of_blocks (kept_blocks course (overruns_on state.driver.overruns recorder) recorder kept)) tape.bytes

-- where playback, overruns and files are left
pub Tells-left : (script : Script) (course : Course) (kept : ℕ) (session after : Session) → after.driver.playback ≡ session.driver.playback → after.driver.overruns ≡ session.driver.overruns → after.tapes ≡ session.tapes
    → Tells script course kept session → Tells script course kept after
Tells-left script course kept session after playback overruns tapes tells = record {
  playback = subst (λ p. HasUnfinished (playback_of script) (played_so_far course kept) (bytes_in p)) (sym playback) tells.playback;
  records = λ recorder tape there.
      subst (λ os. HasUnfinished (format_at script recorder) (samples_of_blocks (kept_blocks course (overruns_on os recorder) recorder kept)) tape.bytes) (sym overruns)
      (tells.records recorder tape (ap (λ ts. slice_get ts recorder) (sym tapes) ∙ there));
}

-- what was got from each ring is a front of what was put into it
abbrev pub AreFrontsOf : Session → Type 0
AreFrontsOf session = (recorder : ℕ) (ring : Sending) (got : Getting) → slice_get session.driver.rings recorder ≡ Some ring → slice_get session.getting recorder ≡ Some got → got.got ≡ take (length got.got) ring.put

pub fronts-renewed : (session after : Session) → Renewed session after → AreFrontsOf session
fronts-renewed session after renews recorder ring got here there =
    let h : recorder < length session.driver.rings = slice_get_within session.driver.rings recorder ring here in
    let g : recorder < length session.getting = slice_get_within session.getting recorder got there in
    let ring_after = some_at after.driver.rings recorder (omega (arith, h, renews.rings)) in
    let got_after = some_at after.getting recorder (omega (arith, g, renews.getting)) in
    (renews.each recorder ring ring_after.0 got got_after.0 here there ring_after.1 got_after.1).met.front

pub AreFilled-set : (session : Session) (desk : Desk) (reading : Reading) (period : ℕ) → AreFilled session → AreFilled (record session { desk = desk; driver = record session.driver { reading = reading; set = period } })
AreFilled-set session desk reading period filled = record {
  rings = filled.rings;
  getting = filled.getting;
  tapes = filled.tapes;
  counts = filled.counts;
  each = λ recorder reel is. filled.each recorder reel (record { ring = is.ring; getting = is.getting; tape = is.tape; blocks = is.blocks });
}

-- a recorder's file, whatever became of its thread
told-reel : (format : Format) (before after : Reel) → HasSamples before.tape (samples_of_blocks before.getting.got) → before.tape.format ≡ format → ReelEnds before after → HasUnfinished format (samples_of_blocks after.getting.got) after.tape.bytes
told-reel format before after has named (Got got) =
    subst (λ f. HasUnfinished f (samples_of_blocks after.getting.got) after.tape.bytes) (got.serves.writes.same.format ∙ named) (samples-unfinished after.tape (samples_of_blocks after.getting.got) (got.serves.writes.samples [] has))
told-reel format before after has named (Torn fails) =
    subst (λ f. HasUnfinished f (samples_of_blocks after.getting.got) after.tape.bytes) (fails.same.format ∙ named) (fails.front [] has)

-- behind the join: the driver's thread changed the driver alone, the rings ended, and each recorder's thread came to its end
module _ (session driven ended served : Session) (filled : AreFilled session) (driven_is : driven ≡ record session { driver = driven.driver })
    (as_many : length driven.driver.rings ≡ length session.script.header.recorders) (ends : RingsEnded driven ended) (serves : ServedSome ended served) (fronts : AreFrontsOf served)
    (course : Course) (kept : ℕ) (own : IsOwn (playback_of session.script) driven.driver.playback) (so_far : HasSoFar course kept driven.driver) where
  abbrev count : ℕ
  count = length session.script.header.recorders

  ended-is : ended ≡ record session { driver = record driven.driver { rings = map with_end driven.driver.rings } }
  ended-is = ends.same ∙ ap (λ (s : Session). record s { driver = record s.driver { rings = map with_end driven.driver.rings } }) driven_is

  rings-are : served.driver.rings ≡ map with_end driven.driver.rings
  rings-are = ap (λ (s : Session). s.driver.rings) serves.same ∙ ap (λ (s : Session). s.driver.rings) ended-is

  overruns-are : served.driver.overruns ≡ driven.driver.overruns
  overruns-are = ap (λ (s : Session). s.driver.overruns) serves.same ∙ ap (λ (s : Session). s.driver.overruns) ended-is

  playback-is : served.driver.playback ≡ driven.driver.playback
  playback-is = ap (λ (s : Session). s.driver.playback) serves.same ∙ ap (λ (s : Session). s.driver.playback) ended-is

  getting-is : ended.getting ≡ session.getting
  getting-is = ap (λ (s : Session). s.getting) ended-is

  tapes-are : ended.tapes ≡ session.tapes
  tapes-are = ap (λ (s : Session). s.tapes) ended-is

  counts-are : ended.counts ≡ session.counts
  counts-are = ap (λ (s : Session). s.counts) ended-is

  many-rings : length served.driver.rings ≡ count
  many-rings = ap length rings-are ∙ length-map driven.driver.rings with_end ∙ as_many

  told-at : (recorder : ℕ) (tape : Tape) → slice_get served.tapes recorder ≡ Some tape
      → HasUnfinished (format_at session.script recorder) (samples_of_blocks (kept_blocks course (overruns_on served.driver.overruns recorder) recorder kept)) tape.bytes
  told-at recorder tape there =
      let h : recorder < length served.tapes = slice_get_within served.tapes recorder tape there in
      let low : recorder < count = omega (arith, h, serves.tapes, ap length tapes-are, filled.tapes) in
      let was = reel-of session filled recorder low in
      let old : IsFilled (format_at session.script recorder) was.0 = filled.each recorder was.0 was.1 in
      let ring = some_at served.driver.rings recorder (omega (arith, low, many-rings)) in
      let got = some_at served.getting recorder (omega (arith, low, serves.getting, ap length getting-is, filled.getting)) in
      let blocks = some_at served.counts recorder (omega (arith, low, serves.counts, ap length counts-are, filled.counts)) in
      let before : Reel = record was.0 { ring = ring.0 } in
      let after : Reel = record { ring = ring.0; getting = got.0; tape = tape; blocks = blocks.0 } in
      let is_before : IsReel ended recorder before = record {
        ring = ap (λ (s : Session). slice_get s.driver.rings recorder) (sym serves.same) ∙ ring.1;
        getting = ap (λ gs. slice_get gs recorder) getting-is ∙ was.1.getting;
        tape = ap (λ ts. slice_get ts recorder) tapes-are ∙ was.1.tape;
        blocks = ap (λ ns. slice_get ns recorder) counts-are ∙ was.1.blocks;
      } in
      let is_after : IsReel served recorder after = record { ring = ring.1; getting = got.1; tape = there; blocks = blocks.1 } in
      let w = slice_get-map with_end driven.driver.rings recorder ring.0 (ap (λ rs. slice_get rs recorder) (sym rings-are) ∙ ring.1) in
      let whole : List RingBlock = kept_blocks course (overruns_on served.driver.overruns recorder) recorder kept in
      let put : ring.0.put ≡ whole =
      ap (λ (r : Sending). r.put) (sym w.2) ∙ so_far.rings recorder w.0 w.1 ∙ ap (λ os. kept_blocks course (overruns_on os recorder) recorder kept) (sym overruns-are) in
      unfinished-blocks (format_at session.script recorder) got.0.got whole tape.bytes
      (subst (λ bs. got.0.got ≡ take (length got.0.got) bs) put (fronts recorder ring.0 got.0 ring.1 got.1))
      (told-reel (format_at session.script recorder) before after old.samples old.format_is (serves.each recorder before after is_before is_after))

  pub Tells-run : Tells session.script course kept served
  Tells-run = record {
    playback = subst (λ p. HasUnfinished (playback_of session.script) (played_so_far course kept) (bytes_in p)) (sym playback-is)
        (unfinished-told (playback_of session.script) driven.driver.playback (played_so_far course kept) own so_far.playback);
    records = told-at;
  }
