-- What the players put of their files, and what was got of them.
--     PlaysAll-read, PlaysAll-told, PlaysAll-served      players go on where no read failed
--     PutsAll-plays, PutsAll-tried, PutsAll-served, PutsAll-told      what was put is of the files
--     fits-put      what was got fits the file
--     DisksTell-tried, AtRest      both ends know how far the other is
--     FitsDisk-tells      so what was got fits
use Rattle.std.proofs.Common.{◌≡◌, ℕ, ◌<◌, true, [], length, map, get_or, take, slice_get, Some, sym, ◌∙◌, ap, subst, arith, true≢false}
use Rattle.std.proofs.lemmas.Option.{get_or_from_slice_get, slice_get_within}
use Rattle.session_model.specs.Courses.{Course, disk_file}
use Rattle.session_model.specs.Explanations.{Given}
use Rattle.session_model.specs.Rings.{RingBlock}
use Rattle.session_laws.proofs.ActivationLemmas.{get_or-map_below}
use Rattle.driver_words.specs.Rings.{Getting, Sending}
use Rattle.disk_player.specs.Files.{HasPut, PlaysFile}
use Rattle.disk_player.specs.Playing.{Playing}
use Rattle.disk_player.proofs.FileLemmas.{has-put}
use Rattle.disk_files.specs.Readers.{ReadsAhead, TellsAhead}
use Rattle.disk_turns.proofs.TurnLemmas.{plays-told}
use Rattle.driver_laws.specs.Keeping.{FitsDisk, file_block}
use Rattle.run_laws.specs.Runs.{DisksAtRest, PlaysAll, PutsFile}
use Rattle.run_laws.specs.Sessions.{IsDisk, IsOne, IsOver, Session}
use Rattle.run_laws.proofs.PlaceLemmas.{front_there, mapped_there}
use Rattle.disk_runs.specs.Readings.{DisksBroke, DisksRead, DisksServed, DisksTold, NoneFailed, ServedDisk, ServedOff, ServedOn, TriedDisk}
use Rattle.disk_runs.specs.Rests.{DiskTells, DisksTell, PutsAll}
use Rattle.disk_runs.proofs.PlaceLemmas.{Stepped, both-by, both-of, long, long-after, stepped}
use Rattle.disk_runs.proofs.StepLemmas.{met-tried}
use Rattle.disk_runs.proofs.PartLemmas.{came-served}

-- what a player has put is a front of its disk's file
abbrev pub PutTheirFiles : Type 0
PutTheirFiles = (session : Session) (given : Given) → PlaysAll given session → (disk : ℕ) (player : Playing) → slice_get session.players disk ≡ Some player → PutsFile given disk player.sending

-- ---- players

pub PlaysAll-read : (most : ℕ) (session after : Session) (given : Given) → IsOne session → DisksRead most session after → PlaysAll given session → PlaysAll given after
PlaysAll-read most session after given one reads plays course over disk player here =
    let there : (got : Getting) × IsDisk after disk player got = both-of after (long-after (ReadsAhead most) session after reads (long session one)) disk player here in
    let step : Stepped (ReadsAhead most) session disk player there.0 = stepped (ReadsAhead most) session after reads disk player there.0 there.1 in
    step.step.plays (disk_file course disk) course.script.header.period (plays course over disk step.player step.before.player_is)

pub PlaysAll-told : (session after : Session) (given : Given) → IsOne session → DisksTold session after → PlaysAll given session → PlaysAll given after
PlaysAll-told session after given one tells plays course over disk player here =
    let there : (got : Getting) × IsDisk after disk player got = both-of after (long-after TellsAhead session after tells (long session one)) disk player here in
    let step : Stepped TellsAhead session disk player there.0 = stepped TellsAhead session after tells disk player there.0 there.1 in
    plays-told (disk_file course disk) course.script.header.period step.player player step.got there.0 step.step (plays course over disk step.player step.before.player_is)

pub PlaysAll-served : (session after : Session) (given : Given) → DisksServed session after → NoneFailed after → PlaysAll given session → PlaysAll given after
PlaysAll-served session after given served none plays course over disk player here =
    let old : (old : Playing) × (slice_get session.players disk ≡ Some old) × ServedDisk old player = came-served session after served disk player here in
    by old.0 (plays course over disk old.0 old.1) old.2
  where
    by : (old : Playing) → PlaysFile (disk_file course disk) course.script.header.period old → ServedDisk old player → PlaysFile (disk_file course disk) course.script.header.period player
    by old was (ServedOn reads) = reads.plays (disk_file course disk) course.script.header.period was
    by old was (ServedOff reads) = absurd (true≢false (sym reads.failed ∙ none disk player here))

-- ---- what was put

-- over each course
PutsFile-each : (given : Given) (disk : ℕ) (ring : Sending) → ((course : Course) → IsOver given course → HasPut (disk_file course disk) course.script.header.period ring) → PutsFile given disk ring
PutsFile-each given disk ring put = record {
  blocks = λ course over. (put course over).blocks;
  within = λ course over. (put course over).within;
  whole = λ course over. (put course over).whole;
}

pub PutsAll-plays : PutTheirFiles → (session : Session) (given : Given) → PlaysAll given session → PutsAll given session
PutsAll-plays puts session given plays = puts session given plays

pub PutsAll-tried : (most : ℕ) (session after : Session) (given : Given) → IsOne session → DisksBroke most session after → PlaysAll given session → PutsAll given after
PutsAll-tried most session after given one tried plays disk player here =
    let there : (got : Getting) × IsDisk after disk player got = both-of after (long-after (TriedDisk most) session after tried (long session one)) disk player here in
    let step : Stepped (TriedDisk most) session disk player there.0 = stepped (TriedDisk most) session after tried disk player there.0 there.1 in
    PutsFile-each given disk player.sending (λ course over. (met-tried most step.player player step.got there.0 step.step).put (disk_file course disk) course.script.header.period (plays course over disk step.player step.before.player_is))

pub PutsAll-served : PutTheirFiles → (session after : Session) (given : Given) → DisksServed session after → PlaysAll given session → PutsAll given after
PutsAll-served puts session after given served plays disk player here =
    let old : (old : Playing) × (slice_get session.players disk ≡ Some old) × ServedDisk old player = came-served session after served disk player here in
    PutsFile-each given disk player.sending (λ course over. by course old.0 (plays course over disk old.0 old.1) old.2)
  where
    by : (course : Course) (old : Playing) → PlaysFile (disk_file course disk) course.script.header.period old → ServedDisk old player → HasPut (disk_file course disk) course.script.header.period player.sending
    by course old was (ServedOn reads) = has-put (disk_file course disk) course.script.header.period player (reads.plays (disk_file course disk) course.script.header.period was)
    by course old was (ServedOff reads) = reads.has_put (disk_file course disk) course.script.header.period was

pub PutsAll-told : (session after : Session) (given : Given) → IsOne session → DisksTold session after → PutsAll given session → PutsAll given after
PutsAll-told session after given one tells puts disk player here =
    let there : (got : Getting) × IsDisk after disk player got = both-of after (long-after TellsAhead session after tells (long session one)) disk player here in
    let step : Stepped TellsAhead session disk player there.0 = stepped TellsAhead session after tells disk player there.0 there.1 in
    let old : PutsFile given disk step.player.sending = puts disk step.player step.before.player_is in
    subst (PutsFile given disk) (sym step.step.tells.sending_is) record { blocks = old.blocks; within = old.within; whole = old.whole }

-- ---- what was got

pub fits-put : (course : Course) (disk : ℕ) (ring : Sending) (got : Getting) → HasPut (disk_file course disk) course.script.header.period ring → got.got ≡ take (length got.got) ring.put
    → (got.done ≡ true → (got.got ≡ ring.put) × (ring.ended ≡ true)) → FitsDisk course disk got
fits-put course disk ring got put front over = record {
  blocks = λ i one there.
      let put_there : slice_get ring.put i ≡ Some one = front_there (length got.got) ring.put i one (sym (ap (λ bs. slice_get bs i) front) ∙ there) in
      let low : i < length ring.put = slice_get_within ring.put i one put_there in
      let samples : get_or (map (λ (b : RingBlock). b.samples) ring.put) i [] ≡ one.samples =
      get_or_from_slice_get (map (λ (b : RingBlock). b.samples) ring.put) i one.samples [] (mapped_there (λ (b : RingBlock). b.samples) ring.put i one put_there) in
      (omega (arith, low, put.within), sym samples ∙ ap (λ bs. get_or bs i []) put.blocks ∙ get_or-map_below (file_block course disk) (length ring.put) i [] low);
  whole = λ done. ap length (over done).0 ∙ put.whole (over done).1;
}

pub FitsDisk-tells : (session : Session) (given : Given) (course : Course) → IsOne session → PutsAll given session → DisksTell session → IsOver given course
    → (disk : ℕ) (got : Getting) → slice_get session.driver.disks disk ≡ Some got → FitsDisk course disk got
FitsDisk-tells session given course one puts tell over disk got here =
    let there : (player : Playing) × IsDisk session disk player got = both-by session (long session one) disk got here in
    let put : PutsFile given disk there.0.sending = puts disk there.0 there.1.player_is in
    let tells : DiskTells there.0.sending got = tell disk there.0 got there.1 in
    fits-put course disk there.0.sending got record { blocks = put.blocks course over; within = put.within course over; whole = put.whole course over } tells.front tells.over

-- ---- both ends

pub DisksTell-tried : (most : ℕ) (session after : Session) → DisksBroke most session after → DisksTell after
DisksTell-tried most session after tried disk player got behind =
    let step : Stepped (TriedDisk most) session disk player got = stepped (TriedDisk most) session after tried disk player got behind in
    (met-tried most step.player player step.got got step.step).tells

pub AtRest : PutTheirFiles → (session : Session) (given : Given) → PlaysAll given session → DisksTell session → DisksAtRest given session
AtRest puts session given plays tell disk player got here there =
    let tells : DiskTells player.sending got = tell disk player got record { player_is = here; got_is = there } in
    record {
      file = puts session given plays disk player here;
      front = tells.front;
      over = tells.over;
      looks = tells.looks;
      finds = tells.finds;
      told = tells.told;
    }
