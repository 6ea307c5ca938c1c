-- The players of a session's disks.
--     PlaysAll-new      those of a new session go on with what its sources tell
--     PutsFile-plays      what a player has put is a front of its disk's file
use Rattle.std.proofs.Common.{◌≡◌, ℕ, ◌*◌, ◌<◌, ◌≤◌, List, ◌++◌, length, map, get_or, drop, slice_get, Option, Some, sym, ◌∙◌, ap, ap₂, subst, arith, true≢false, ℤ}
use Rattle.std.proofs.lemmas.List.{length-map}
use Rattle.std.proofs.lemmas.Option.{get_or_from_slice_get, same_Some, slice_get-get_or, slice_get_within}
use Rattle.session_model.specs.Courses.{Course, DiskFile, disk_file, no_disk}
use Rattle.session_model.specs.Disks.{blocks_of}
use Rattle.session_model.specs.Explanations.{Given}
use Rattle.session_model.specs.Rings.{RingBlock}
use Rattle.session_model.specs.Scripts.{Script}
use Rattle.disk_player.specs.Files.{HasPut, PlaysFile}
use Rattle.disk_player.specs.Playing.{Playing, in_hand}
use Rattle.disk_player.specs.Turning.{samples_of}
use Rattle.run_laws.specs.Runs.{PlaysAll, PutsFile}
use Rattle.run_laws.specs.Sessions.{IsGiven, IsOver, Session}
use Rattle.run_laws.specs.Told.{IsNew, IsNewPlayer}
use Rattle.run_laws.proofs.PlaceLemmas.{mapped_there}

module _ (session : Session) (given : Given) (new : IsNew session) (is_given : IsGiven session given) (disk : ℕ) (player : Playing) (here : slice_get session.players disk ≡ Some player) where
  is : IsNewPlayer session.script disk player
  is = new.new_players disk player here

  abbrev file : DiskFile
  file = get_or given.disks disk no_disk

  file_there : slice_get given.disks disk ≡ Some file
  file_there =
      let as_many : length session.players ≡ length given.disks =
      sym (length-map session.players (λ (p : Playing). p.left)) ∙ ap length is_given.disks ∙ length-map given.disks (λ (f : DiskFile). Some f.samples) in
      slice_get-get_or given.disks disk no_disk (subst (λ n. disk < n) as_many (slice_get_within session.players disk player here))

  left : player.left ≡ Some file.samples
  left = same_Some player.left (Some file.samples)
      (sym (mapped_there (λ (p : Playing). p.left) session.players disk player here)
      ∙ ap (λ (os : List (Option (List ℤ))). slice_get os disk) is_given.disks
      ∙ mapped_there (λ (f : DiskFile). Some f.samples) given.disks disk file file_there)

  size : player.sending.samples ≡ file.channels * given.script.header.period
  size =
      let channels : get_or session.script.header.disks disk 0 ≡ file.channels =
      ap (λ (cs : List ℕ). get_or cs disk 0) (sym is_given.own.channels)
      ∙ get_or_from_slice_get (map (λ (f : DiskFile). f.channels) given.disks) disk file.channels 0 (mapped_there (λ (f : DiskFile). f.channels) given.disks disk file file_there) in
      is.size ∙ ap₂ (λ c p. c * p) channels (ap (λ (s : Script). s.header.period) (sym is_given.own.script))

  pub PlaysFile-new : PlaysFile file given.script.header.period player
  PlaysFile-new = record {
    read = 0;
    size = size;
    some = subst (λ n. 0 < n) size is.some;
    blocks = ap₂ (λ (put : List RingBlock) (waiting : Option (List ℤ)). samples_of put ++ in_hand waiting) is.put is.waiting;
    within = low (blocks_of file given.script.header.period);
    left = left ∙ ap (λ k. Some (drop k file.samples)) (none (file.channels * given.script.header.period));
    over = λ h. absurd (true≢false (sym h ∙ is.over));
    ended = λ h. absurd (true≢false (sym h ∙ is.open_ended));
  }
    where
      low : (n : ℕ) → 0 ≤ n
      low n = omega arith

      none : (n : ℕ) → 0 ≡ 0 * n
      none n = omega arith

pub PlaysAll-new : (session : Session) (given : Given) → IsNew session → IsGiven session given → PlaysAll given session
PlaysAll-new session given new is_given course over disk player here =
    subst (λ (files : List DiskFile). PlaysFile (get_or files disk no_disk) course.script.header.period player) (sym over.disks)
    (subst (λ (s : Script). PlaysFile (get_or given.disks disk no_disk) s.header.period player) (sym over.script) (PlaysFile-new session given new is_given disk player here))

pub PutsFile-plays : ((file : DiskFile) (period : ℕ) (playing : Playing) → PlaysFile file period playing → HasPut file period playing.sending)
    → (session : Session) (given : Given) → PlaysAll given session → (disk : ℕ) (player : Playing) → slice_get session.players disk ≡ Some player → PutsFile given disk player.sending
PutsFile-plays has session given plays disk player here = record {
  blocks = λ course over. (put course over).blocks;
  within = λ course over. (put course over).within;
  whole = λ course over. (put course over).whole;
}
  where
    put : (course : Course) → IsOver given course → HasPut (disk_file course disk) course.script.header.period player.sending
    put course over = has (disk_file course disk) course.script.header.period player (plays course over disk player here)
