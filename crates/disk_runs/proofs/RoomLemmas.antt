-- Rings that a long reading fills.
--     AreFilled-read, DisksFilled-read
use Rattle.std.proofs.Common.{◌≡◌, ℕ, ◌+◌, ◌<◌, ◌≤◌, length, Some, slice_get, sym, ◌∙◌, ap, subst, arith}
use Rattle.session_model.specs.Courses.{disk_file}
use Rattle.session_model.specs.Disks.{file_blocks}
use Rattle.session_model.specs.Explanations.{Given}
use Rattle.driver_words.specs.Rings.{Getting}
use Rattle.disk_player.specs.Playing.{Playing}
use Rattle.disk_files.specs.Readers.{ReadsAhead}
use Rattle.disk_turns.specs.Segments.{IsFilled}
use Rattle.disk_turns.proofs.SegmentLemmas.{filled-behind, room-goes-on}
use Rattle.run_laws.specs.Runs.{PlaysAll}
use Rattle.run_laws.specs.Sessions.{IsDisk, IsOne, Session}
use Rattle.disk_runs.specs.Readings.{DisksRead}
use Rattle.disk_runs.specs.Rests.{AreFilled, DiskTells, DisksFilled, DisksHaveRoom, DisksTell}
use Rattle.disk_runs.proofs.PlaceLemmas.{Stepped, both-by, long, long-after, stepped}

module _ (session after : Session) (one : IsOne session) (reads : DisksRead session.script.header.ring session after) (room : DisksHaveRoom session) (tell : DisksTell session) where
  abbrev ring : ℕ
  ring = session.script.header.ring

  -- the script is the same one
  ring-after : after.script.header.ring ≡ ring
  ring-after = ap (λ (s : Session). s.script.header.ring) reads.same

  record IsLong (disk : ℕ) (got_after : Getting) : Type 0 where
    pub player_after : Playing
    pub step : Stepped (ReadsAhead ring) session disk player_after got_after
    pub capacity : step.player.sending.capacity ≡ ring
    pub low : step.player.sending.capacity ≤ ring
    pub tells : DiskTells step.player.sending step.got
    pub looks : length step.got.got ≤ step.player.sending.least

  is-long : (disk : ℕ) (got_after : Getting) → slice_get after.driver.disks disk ≡ Some got_after → IsLong disk got_after
  is-long disk got_after here =
      let there : (player : Playing) × IsDisk after disk player got_after = both-by after (long-after (ReadsAhead ring) session after reads (long session one)) disk got_after here in
      let step : Stepped (ReadsAhead ring) session disk there.0 got_after = stepped (ReadsAhead ring) session after reads disk there.0 got_after there.1 in
      let capacity : step.player.sending.capacity ≡ ring = room disk step.player step.before.player_is in
      let tells : DiskTells step.player.sending step.got = tell disk step.player step.got step.before in
      record { player_after = there.0; step = step; capacity = capacity; low = omega (arith, capacity); tells = tells; looks = omega (arith, tells.looks) }

  pub AreFilled-read : AreFilled after
  AreFilled-read disk got here =
      let it : IsLong disk got = is-long disk got here in
      subst (λ n. IsFilled n got) (it.capacity ∙ sym ring-after) (filled-behind ring it.step.player it.player_after it.step.got got it.low it.tells.front it.looks it.step.step)

  pub DisksFilled-read : (given : Given) → PlaysAll given session → DisksFilled given after
  DisksFilled-read given plays disk got here = record {
    filled = AreFilled-read disk got here;
    goes_on = λ going course over.
        let it : IsLong disk got = is-long disk got here in
        let more : length got.got + it.step.player.sending.capacity < file_blocks course disk =
        room-goes-on (disk_file course disk) course.script.header.period ring it.step.player it.player_after it.step.got got (plays course over disk it.step.player it.step.before.player_is) it.low it.tells.front it.looks it.step.step going in
        omega (arith, more, it.capacity, ring-after);
  }
