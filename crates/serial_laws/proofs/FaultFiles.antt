-- What the files tell behind a cycle of serial mode that failed.
--     TellsBlocks, TellsPlayback      a file tells a front of what serial mode gives in so many cycles
--     TellsFronts      all files do
--     StandsInSerial-tells      and so have fronts of what serial mode gives them
--     AreKept      the rings have what it keeps in so many cycles
--     TellsBlocks-kept, TellsBlocks-tried      then each file tells a front of that, also where blocks left or it broke off
use Rattle.std.proofs.Common.{◌≡◌, ℕ, ◌<◌, ◌≤◌, List, length, take, slice_get, None, Some, sym, ◌∙◌, ap, subst, arith}
use Rattle.std.specs.Prelude.{IfSome, Option}
use Rattle.std.proofs.lemmas.Option.{same_Some, slice_get_within}
use Rattle.jack_types.specs.declared.files.Format.{Format}
use Rattle.jack_types.specs.declared.replies.Overrun.{Overrun}
use Rattle.session_model.specs.Courses.{Course}
use Rattle.session_model.specs.Explanations.{Given}
use Rattle.session_model.specs.Playback.{playback_format, played_back}
use Rattle.session_model.specs.Recorders.{recorded}
use Rattle.session_model.specs.Rings.{RingBlock, samples_of_blocks}
use Rattle.session_model.specs.Scripts.{Script, turns}
use Rattle.session_model.specs.Serial.{serial_overruns}
use Rattle.session_laws.proofs.ListLemmas.{slice_get-map}
use Rattle.driver_words.specs.Rings.{Sending}
use Rattle.driver_words.specs.Tapes.{HasFront, HasUnfinished, Tape}
use Rattle.run_laws.specs.driver_laws.specs.Keeping.{kept_blocks, played_so_far}
use Rattle.recorder_files.specs.Recorders.{Reel}
use Rattle.run_laws.specs.Sessions.{Session}
use Rattle.disk_runs.specs.Readings.{DisksBroke}
use Rattle.serial_laws.specs.Faults.{StandsInSerial, Tried, bytes_in, serial_course_of, told}
use Rattle.serial_laws.specs.Steps.{IsReel, Met}
use Rattle.serial_laws.proofs.FaultLemmas.{AreFilled, AreFilled-disks, IsTold, IsTold-filled, IsTold-tried, format_at, reel-of}

-- ---- fronts of what serial mode gives

-- the blocks that serial mode keeps in so many cycles
abbrev pub blocks_serial : Given → ℕ → ℕ → List RingBlock
blocks_serial given recorder n = kept_blocks (serial_course_of given) (serial_overruns given.script recorder) recorder n

pub record TellsBlocks (given : Given) (recorder : ℕ) (tape : Tape) : Type 0 where
  pub cycles : ℕ
  pub low : cycles ≤ length (turns given.script)
  pub one : IsTold (format_at given.script recorder) (blocks_serial given recorder cycles) tape

pub record TellsPlayback (given : Given) (playback : Option Tape) : Type 0 where
  pub cycles : ℕ
  pub low : cycles ≤ length (turns given.script)
  pub unfinished : IfSome playback (λ (tape : Tape). HasUnfinished (playback_format (serial_course_of given)) (played_so_far (serial_course_of given) cycles) tape.bytes)

pub record TellsFronts (given : Given) (session : Session) : Type 0 where
  pub playback : TellsPlayback given session.driver.playback
  pub records : (recorder : ℕ) (tape : Tape) → slice_get session.tapes recorder ≡ Some tape → TellsBlocks given recorder tape

-- a meeting leaves them
pub TellsFronts-met : (given : Given) (session after : Session) → Met session after → TellsFronts given session → TellsFronts given after
TellsFronts-met given session after met tells = subst (TellsFronts given) (sym met.same) (record { playback = tells.playback; records = tells.records })

-- so do readings of the disks, be it that one failed
pub TellsFronts-disks : (given : Given) (most : ℕ) (session after : Session) → DisksBroke most session after → TellsFronts given session → TellsFronts given after
TellsFronts-disks given most session after tried tells = subst (TellsFronts given) (sym tried.same) (record { playback = tells.playback; records = tells.records })

-- fronts of what was played and kept so far are fronts of the files
abbrev pub PlayedFronts : Type 0
PlayedFronts = (course : Course) (n : ℕ) (format : Format) (bytes : Option (List ℕ)) → n ≤ length (turns course.script) → HasUnfinished format (played_so_far course n) bytes → HasFront format (played_back course) bytes

abbrev pub KeptFronts : Type 0
KeptFronts = (course : Course) (losses : List Overrun) (recorder n : ℕ) (format : Format) (blocks : List RingBlock) (bytes : Option (List ℕ)) → n ≤ length (turns course.script)
    → blocks ≡ take (length blocks) (kept_blocks course losses recorder n) → HasUnfinished format (samples_of_blocks blocks) bytes → HasFront format (recorded course losses recorder) bytes

pub StandsInSerial-tells : PlayedFronts → KeptFronts → (given : Given) (session : Session) → TellsFronts given session → StandsInSerial given (told session)
StandsInSerial-tells played kept given session tells = record {
  playback = go session.driver.playback tells.playback;
  records = λ recorder file there.
      let w = slice_get-map (λ (tape : Tape). tape.bytes) session.tapes recorder file there in
      let t : TellsBlocks given recorder w.0 = tells.records recorder w.0 w.1 in
      subst (λ bytes. HasFront (format_at given.script recorder) (recorded (serial_course_of given) (serial_overruns given.script recorder) recorder) bytes) w.2
      (kept (serial_course_of given) (serial_overruns given.script recorder) recorder t.cycles (format_at given.script recorder) t.one.blocks w.0.bytes t.low t.one.front t.one.unfinished);
}
  where
    go : (playback : Option Tape) → TellsPlayback given playback → HasFront (playback_format (serial_course_of given)) (played_back (serial_course_of given)) (bytes_in playback)
    go None t = tt
    go (Some tape) t = played (serial_course_of given) t.cycles (playback_format (serial_course_of given)) tape.bytes t.low t.unfinished

-- ---- rings that have what serial mode keeps

-- each file has what was got, and what was put into the rings is what serial mode keeps in so many cycles
pub record AreKept (given : Given) (session : Session) (n : ℕ) : Type 0 where
  pub low : n ≤ length (turns given.script)
  pub script_is : given.script ≡ session.script
  pub filled : AreFilled session
  pub puts : (recorder : ℕ) (ring : Sending) → slice_get session.driver.rings recorder ≡ Some ring → ring.put ≡ blocks_serial given recorder n

-- readings of the disks change none of that
pub AreKept-disks : (given : Given) (most : ℕ) (session after : Session) (n : ℕ) → DisksBroke most session after → AreKept given session n → AreKept given after n
AreKept-disks given most session after n tried kept = record {
  low = kept.low;
  script_is = kept.script_is ∙ sym (ap (λ (s : Session). s.script) tried.same);
  filled = AreFilled-disks most session after tried kept.filled;
  puts = λ recorder ring there. kept.puts recorder ring (ap (λ (s : Session). slice_get s.driver.rings recorder) (sym tried.same) ∙ there);
}

-- a front of what was put, where that is what so many cycles keep
pub TellsBlocks-put : (given : Given) (session : Session) → given.script ≡ session.script → (recorder n : ℕ) → n ≤ length (turns given.script) → (put : List RingBlock) (tape : Tape) → put ≡ blocks_serial given recorder n
    → IsTold (format_at session.script recorder) put tape → TellsBlocks given recorder tape
TellsBlocks-put given session script_is recorder n low put tape same one = record {
  cycles = n;
  low = low;
  one = subst (λ (s : Script). IsTold (format_at s recorder) (blocks_serial given recorder n) tape) (sym script_is) (subst (λ blocks. IsTold (format_at session.script recorder) blocks tape) same one);
}

module _ (given : Given) (session : Session) (n : ℕ) (kept : AreKept given session n) where
  pub TellsBlocks-kept : (recorder : ℕ) (tape : Tape) → slice_get session.tapes recorder ≡ Some tape → TellsBlocks given recorder tape
  TellsBlocks-kept recorder tape there =
      let here : recorder < length session.script.header.recorders = let h = slice_get_within session.tapes recorder tape there in omega (arith, h, kept.filled.tapes) in
      let was = reel-of session kept.filled recorder here in
      subst (TellsBlocks given recorder) (same_Some was.0.tape tape (sym was.1.tape ∙ there))
      (TellsBlocks-put given session kept.script_is recorder n kept.low was.0.ring.put was.0.tape (kept.puts recorder was.0.ring was.1.ring) (IsTold-filled (format_at session.script recorder) was.0 (kept.filled.each recorder was.0 was.1)))

  -- a recorder whose ring gave up blocks, or whose file failed, or that was left alone
  pub TellsBlocks-tried : (recorder most : ℕ) (before after : Reel) → IsReel session recorder before → Tried most before after → TellsBlocks given recorder after.tape
  TellsBlocks-tried recorder most before after is tried =
      TellsBlocks-put given session kept.script_is recorder n kept.low before.ring.put after.tape (kept.puts recorder before.ring is.ring)
      (IsTold-tried (format_at session.script recorder) before (kept.filled.each recorder before is) most after tried)
