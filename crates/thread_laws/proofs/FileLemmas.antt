-- What files in the making tell.
--     StandsSoFar-unfinished      a front of an unfinished file is one of the file
--     unfinished-told      a playback that has a front of the samples
--     unfinished-blocks      a file that has a front of the blocks
use Rattle.std.proofs.Common.{◌≡◌, ℕ, List, length, take, None, Some, sym, ◌∙◌, ap, subst, ℤ}
use Rattle.std.specs.Prelude.{IfSome, Option}
use Rattle.jack_types.specs.declared.files.Format.{Format}
use Rattle.session_model.specs.Explanations.{Given}
use Rattle.session_model.specs.Playback.{playback_format}
use Rattle.session_model.specs.Recorders.{recorder_format}
use Rattle.session_model.specs.Rings.{RingBlock, samples_of_blocks}
use Rattle.driver_words.specs.Tapes.{HasUnfinished, Tape}
use Rattle.wave_write.proofs.TapeLemmas.{unfinished-front, unfinished-longer}
use Rattle.driver_laws.specs.Drivers.{overruns_on}
use Rattle.driver_laws.specs.Keeping.{HasTapeFront, kept_blocks, played_so_far}
use Rattle.run_laws.specs.Sessions.{Session, course_in}
use Rattle.run_laws.specs.Told.{StandsSoFar}
use Rattle.serial_laws.specs.Faults.{bytes_in}
use Rattle.serial_laws.proofs.FrontLemmas.{behind_front, samples-more}
use Rattle.thread_laws.specs.Faults.{StandsUnfinished}

pub StandsSoFar-unfinished : (kept : ℕ) (session : Session) (given : Given) → StandsUnfinished kept session given → StandsSoFar kept session given
StandsSoFar-unfinished kept session given stands = record {
  low = stands.low;
  near = stands.near;
  playback = unfinished-front (playback_format (course_in given session)) (played_so_far (course_in given session) kept) session.playback_file stands.playback;
  records = λ recorder file there.
      unfinished-front (recorder_format (course_in given session) recorder)
      (samples_of_blocks (kept_blocks (course_in given session) (overruns_on session.driver.overruns recorder) recorder kept)) file (stands.records recorder file there);
}

pub unfinished-told : (format : Format) (playback : Option Tape) (samples : List ℤ) → IfSome playback (λ (tape : Tape). tape.format ≡ format) → HasTapeFront playback samples → HasUnfinished format samples (bytes_in playback)
unfinished-told format None samples own has = tt
unfinished-told format (Some tape) samples own has = subst (λ f. HasUnfinished f samples tape.bytes) own has

pub unfinished-blocks : (format : Format) (blocks whole : List RingBlock) (bytes : Option (List ℕ)) → blocks ≡ take (length blocks) whole → HasUnfinished format (samples_of_blocks blocks) bytes → HasUnfinished format (samples_of_blocks whole) bytes
unfinished-blocks format blocks whole bytes front has =
    let w = behind_front blocks whole front in
    subst (λ samples. HasUnfinished format samples bytes) (sym (ap samples_of_blocks w.1 ∙ samples-more blocks w.0)) (unfinished-longer format (samples_of_blocks blocks) (samples_of_blocks w.0) bytes has)
