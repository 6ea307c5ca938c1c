-- A session whose stores are attached, and what a run of its phases leaves of it.
--     written-format      a recorder's format may be written
--     files-begun      its files are begun, each of its format, and have no sample
--     whole works playback attached      the parts of these works
--     seen_is, script_is, tape-begun      what its works are
--     ready-settled, ready-files      they may run their phases
--     after_is, told_is, same_script      what works that ran are
--     run-stays, has-run, run-rose, run-source      what the run of its phases leaves of it
use Rattle.std.proofs.Common.{◌≡◌, ℕ, zero, suc, ◌<◌, ◌≤◌, true, List, [], ◌∷◌, length, map, filter_map, slice_get, Contains, Option, Some, None, IsNone, refl, sym, ◌∙◌, ap, ap₂, subst, arith}
use Rattle.std.specs.List.{cons_option}
use Rattle.std.specs.Prelude.{IfSome}
use Rattle.std.proofs.lemmas.Option.{same_Some, slice_get_within}
use Rattle.jack_types.specs.declared.files.Format.{Format}
use Rattle.session_model.specs.Grammar.{IsFormat as IsRecorderFormat, IsScript}
use Rattle.session_model.specs.Kinds.{Sound}
use Rattle.session_model.specs.Rings.{samples_of_blocks}
use Rattle.session_model.specs.Scripts.{Script, phases}
use Rattle.session_model.specs.WaveFiles.{IsFormat, is_width}
use Rattle.client_kinds.specs.Scores.{Score}
use Rattle.driver_words.specs.Rings.{Getting, Sending, items_of}
use Rattle.driver_words.specs.Tapes.{HasSamples, Tape}
use Rattle.wave_pcm.specs.Readings.{Reading, SameReading}
use Rattle.disk_recorder.specs.Recordings.{MayWrite}
use Rattle.driver_laws.specs.Keeping.{HasTape}
use Rattle.recorder_files.specs.Recorders.{Recording, Stored}
use Rattle.recorder_files.proofs.Reels.{begun-may}
use Rattle.run_laws.specs.Runs.{HasFiles, RanPhases}
use Rattle.run_laws.specs.SerialRuns.{SerialBehind}
use Rattle.run_laws.specs.Sessions.{Playing, Session}
use Rattle.run_laws.proofs.PlaceLemmas.{mapped_there, some_at}
use Rattle.serial_laws.specs.Steps.{IsSettled}
use Rattle.session_works.specs.Drivers.{driver_of, playback_format}
use Rattle.session_works.specs.Insides.{Stays, held, parts_of, seen}
use Rattle.session_works.specs.Laws.{SettledAtFirst}
use Rattle.session_works.specs.Parts.{AreLater, AreReadLater, HasOpenFiles, OfCapture, OfDisk, OneRose, Parts, SourceRose, bytes_of, session_of, stores_in, told_of}
use Rattle.session_works.specs.Standings.{HasRun, IsBegun, IsReady}
use Rattle.session_works.specs.declared.works.SessionWorks.{SessionWorks}
use Rattle.session_works.proofs.ReelLemmas.{all-there, picked_from}

-- ---- files that are begun

-- each recorder has a begun file of its format
abbrev AreBegun : List Recording → Type 0
AreBegun recordings = (i : ℕ) (r : Recording) → slice_get recordings i ≡ Some r → (tape : Tape) × (r.tape ≡ Some tape) × IsBegun r.format tape

begun-files : (sounding : Score → Sound) (parts : Parts) → IsReady sounding parts → AreBegun parts.recorders
begun-files sounding parts ready i r there = (ready.0.records i r there).begun (let all = ready.1 in let low = slice_get_within parts.recorders i r there in omega (arith, all, low))

begun-playback : (sounding : Score → Sound) (parts : Parts) → IsReady sounding parts → (tape : Tape) × (parts.gear.playback ≡ Some tape) × IsBegun (playback_format parts.gear.script) tape
begun-playback sounding parts ready = ready.0.playback.begun (let all = ready.1 in omega (arith, all))

formats-begun : (recordings : List Recording) → AreBegun recordings → map (λ (tape : Tape). tape.format) (filter_map (λ (r : Recording). r.tape) recordings) ≡ map (λ (r : Recording). r.format) recordings
formats-begun [] begun = refl
formats-begun (one ∷ others) begun =
    let file = begun 0 one refl in
    let rest = formats-begun others (λ i r e. begun (suc i) r e) in
    subst (λ (t : Option Tape). map (λ (tape : Tape). tape.format) (cons_option t (filter_map (λ (r : Recording). r.tape) others)) ≡ map (λ (r : Recording). r.format) (one ∷ others)) (sym file.1)
    (ap₂ (λ (f : Format) (fs : List Format). f ∷ fs) file.2.format_is rest)

none-got : (getting : List Getting) (formats : List Format) → length getting ≡ length formats → ((i : ℕ) (got : Getting) → slice_get getting i ≡ Some got → got.got ≡ [])
    → map (λ (got : Getting). length got.got) getting ≡ map (λ _. 0) formats
none-got [] [] same none = refl
none-got [] (f ∷ formats) same none = absurd (omega (arith, same))
none-got (got ∷ getting) [] same none = absurd (omega (arith, same))
none-got (got ∷ getting) (f ∷ formats) same none =
    ap₂ (λ (n : ℕ) (ns : List ℕ). n ∷ ns) (ap length (none 0 got refl)) (none-got getting formats (omega (arith, same)) (λ i g e. none (suc i) g e))

wide-of : (bits : ℕ) → Contains (8 ∷ 16 ∷ 24 ∷ 32 ∷ []) bits → is_width bits ≡ true
wide-of bits (zero, low, e) = ap is_width (sym e)
wide-of bits (suc zero, low, e) = ap is_width (sym e)
wide-of bits (suc (suc zero), low, e) = ap is_width (sym e)
wide-of bits (suc (suc (suc zero)), low, e) = ap is_width (sym e)
wide-of bits (suc (suc (suc (suc n))), low, e) = absurd (omega (arith, low))

pub written-format : (rate : ℕ) (format : Format) → 8000 ≤ rate → rate ≤ 192000 → IsRecorderFormat rate format → IsFormat format
written-format rate format low high is =
    let rate_is : format.rate ≡ rate = is.rate_is in
    let least = is.channels.0 in
    let most = is.channels.1 in
    record {
      least_channels = least;
      most_channels = omega (arith, most);
      least_rate = omega (arith, low, rate_is);
      most_rate = omega (arith, high, rate_is);
      bits = wide-of format.bits is.bits;
    }

-- what a recorder has at its place: what it got, its file and its ring
module _ (sounding : Score → Sound) (parts : Parts) (ready : IsReady sounding parts) (recorder : ℕ) (got : Getting) (tape : Tape) (got_there : slice_get (session_of sounding parts).getting recorder ≡ Some got)
    (tape_there : slice_get (session_of sounding parts).tapes recorder ≡ Some tape) where
  recording : (r : Recording) × (slice_get parts.recorders recorder ≡ Some r) × (r.tape ≡ Some tape)
  recording = picked_from (λ (r : Recording). r.tape) parts.recorders recorder tape (λ i r e. let file = begun-files sounding parts ready i r e in (file.0, file.1)) tape_there

  begun : IsBegun recording.0.format tape
  begun =
      let file = begun-files sounding parts ready recorder recording.0 recording.1 in
      subst (λ (t : Tape). IsBegun recording.0.format t) (same_Some file.0 tape (sym file.1 ∙ recording.2)) file.2

  no_blocks : got.got ≡ []
  no_blocks = all-there (λ (g : Getting). g.got ≡ []) (session_of sounding parts).getting recorder got ready.0.new.no_gets got_there

  samples-begun : HasSamples tape (samples_of_blocks got.got)
  samples-begun = subst (λ blocks. HasSamples tape (samples_of_blocks blocks)) (sym no_blocks) begun.samples

  ring : (s : Sending) × (slice_get parts.gear.rings.rings recorder ≡ Some s)
  ring =
      let one = ready.0.new.one in
      let low = slice_get_within (session_of sounding parts).getting recorder got got_there in
      some_at parts.gear.rings.rings recorder (subst (λ n. recorder < n) (one.recorder_ends ∙ sym one.rings.recorders) low)

  most_got : got.most ≡ 500000000
  most_got =
      let one = ready.0.new.one in
      sym (one.recorder_pairs recorder ring.0 got ring.1 got_there).same_most ∙ (one.rings.own recorder ring.0 ring.1).most

  may-begun : MayWrite got tape
  may-begun =
      let header = ready.0.new.one.lawful.header in
      let there : slice_get parts.gear.script.header.recorders recorder ≡ Some recording.0.format = ap (λ (fs : List Format). slice_get fs recorder) (sym ready.0.formats) ∙ mapped_there (λ (r : Recording). r.format) parts.recorders recorder recording.0 recording.1 in
      let lawful : IsRecorderFormat parts.gear.script.header.rate recording.0.format = all-there (IsRecorderFormat parts.gear.script.header.rate) parts.gear.script.header.recorders recorder recording.0.format header.recorders there in
      let most = most_got in
      let none : items_of got.got ≡ 0 = ap items_of no_blocks in
      begun-may got tape (subst IsFormat (sym begun.format_is) (written-format parts.gear.script.header.rate recording.0.format header.rate.0 header.rate.1 lawful))
      (omega (arith, most)) (omega (arith, most, none)) begun.samples.going begun.written

pub files-begun : (sounding : Score → Sound) (parts : Parts) → IsReady sounding parts → HasFiles (session_of sounding parts)
files-begun sounding parts ready =
    let file = begun-playback sounding parts ready in
    let new = ready.0.new in
    record {
      playback = record { tape = file.0; attached = file.1; going = file.2.samples.going };
      playback_format = subst (λ (t : Option Tape). IfSome t (λ (tape : Tape). tape.format ≡ playback_format parts.gear.script)) (sym file.1) file.2.format_is;
      sound = new.new_driver.failed;
      formats = formats-begun parts.recorders (begun-files sounding parts ready) ∙ ready.0.formats;
      may = λ recorder got tape there here. may-begun sounding parts ready recorder got tape there here;
      samples = λ recorder got tape there here. samples-begun sounding parts ready recorder got tape there here;
      counted = none-got (session_of sounding parts).getting parts.gear.script.header.recorders new.one.recorder_ends (λ i got there. all-there (λ (g : Getting). g.got ≡ []) (session_of sounding parts).getting i got new.no_gets there) ∙ sym new.counts;
    }

-- ---- its works

module _ {S W G : Type 0} where
  abbrev pub whole : SessionWorks S W G → Option Stored → ℕ → Parts
  whole works playback attached = record { desk = works.desk; gear = works.driver; recorders = works.recorders.items; players = works.readers.items; playback = playback; attached = attached }

module _ (sounding : Score → Sound) {S W G : Type 0} where
  session-whole : (works : SessionWorks S W G) (playback : Option Stored) (attached : ℕ) → playback ≡ None → session_of sounding (whole works playback attached) ≡ seen sounding works
  session-whole works playback attached = ap (λ (s : Option Stored). record (seen sounding works) { playback_file = bytes_of s })

  told-whole : (works : SessionWorks S W G) (playback : Option Stored) (attached : ℕ) → playback ≡ None → told_of sounding (whole works playback attached) ≡ told_of sounding (parts_of works)
  told-whole works playback attached = ap (λ (s : Option Stored). told_of sounding (whole works s attached))

  module _ (now : Parts) (works : SessionWorks S W G) (playback : Option Stored) (attached : ℕ) (view : whole works playback attached ≡ now) (ready : IsReady sounding now) where
    none_held : playback ≡ None
    none_held = ap (λ (p : Parts). p.playback) view ∙ ready.0.no_playback

    pub seen_is : session_of sounding now ≡ seen sounding works
    seen_is = sym (ap (session_of sounding) view) ∙ session-whole works playback attached none_held

    pub ready-settled : SettledAtFirst → IsSettled (seen sounding works)
    ready-settled law = subst (λ (s : Session). IsSettled s) seen_is (law (session_of sounding now) ready.0.new ready.0.fresh (files-begun sounding now ready))

    pub script_is : works.driver.script ≡ now.gear.script
    script_is = ap (λ (p : Parts). p.gear.script) view

    pub ready-files : HasOpenFiles (parts_of works)
    ready-files =
        subst (λ (p : Parts). HasOpenFiles (record { desk = p.desk; gear = p.gear; recorders = p.recorders; players = p.players; playback = None; attached = 0 })) (sym view)
        (record { tapes = λ i r there. let file = begun-files sounding now ready i r there in (file.0, file.1); no_playback = refl; no_stores = ready.0.no_stores })

    pub tape-begun : HasTape now.gear.playback []
    tape-begun = let file = begun-playback sounding now ready in subst (λ (t : Option Tape). HasTape t []) (sym file.1) file.2.samples

    -- what a run left, with the fields that it did not touch
    module _ (after : SessionWorks S W G) (stays : Stays sounding (parts_of works) (parts_of after)) where
      pub after_is : session_of sounding (whole after playback attached) ≡ seen sounding after
      after_is = session-whole after playback attached none_held

      pub told_is : told_of sounding (whole after playback attached) ≡ told_of sounding (parts_of after)
      told_is = told-whole after playback attached none_held

      pub same_script : after.driver.script ≡ now.gear.script
      same_script = stays.script ∙ script_is

      files_now : HasOpenFiles (whole after playback attached)
      files_now = record { tapes = stays.files.tapes; no_playback = none_held; no_stores = stays.files.no_stores }

      stores_are : held works ≡ stores_in now
      stores_are = sym (ap (λ (s : Option Stored). stores_in (whole works s attached)) none_held) ∙ ap stores_in view

      stores_behind : held after ≡ stores_in (whole after playback attached)
      stores_behind = sym (ap (λ (s : Option Stored). stores_in (whole after s attached)) none_held)

      pub run-stays : Stays sounding now (whole after playback attached)
      run-stays = record {
        script = same_script;
        scores = stays.scores ∙ ap (λ (p : Parts). (driver_of sounding p.gear).scores) view;
        files = files_now;
        later = subst (λ (new : List Stored). AreLater (stores_in now) new) stores_behind (subst (λ (old : List Stored). AreLater old (held after)) stores_are stays.later);
        capture = subst (λ (r : Reading). SameReading r after.driver.capture.reading) (ap (λ (p : Parts). p.gear.capture.reading) view) stays.capture;
        many = stays.many ∙ ap (λ (p : Parts). length p.recorders) view;
        players = subst (λ (players : List Playing). AreReadLater players after.readers.items) (ap (λ (p : Parts). p.players) view) stays.players;
      }

      pub has-run : IsSettled (seen sounding after) → RanPhases (seen sounding after) (length (phases after.driver.script)) → (IsNone after.driver.script.header.threads → SerialBehind (seen sounding after) (length (phases after.driver.script))) → HasRun sounding (whole after playback attached)
      has-run settled ran serial = record {
        served = subst (λ (s : Script). IsScript s) (sym same_script) ready.0.served;
        settled = subst (λ (s : Session). IsSettled s) (sym after_is) settled;
        ran = subst (λ (s : Session). RanPhases s (length (phases after.driver.script))) (sym after_is) ran;
        serial = λ none. subst (λ (s : Session). SerialBehind s (length (phases after.driver.script))) (sym after_is) (serial none);
        files = files_now;
      }

      pub run-rose : OneRose (held works) (held after) → OneRose (stores_in now) (stores_in (whole after playback attached))
      run-rose rose = subst (λ (new : List Stored). OneRose (stores_in now) new) stores_behind (subst (λ (old : List Stored). OneRose old (held after)) stores_are rose)

      pub run-source : SourceRose (parts_of works) (parts_of after) → SourceRose now (whole after playback attached)
      run-source rose = subst (λ (p : Parts). SourceRose p (whole after playback attached)) view (as-whole rose)
        where
          as-whole : SourceRose (parts_of works) (parts_of after) → SourceRose (whole works playback attached) (whole after playback attached)
          as-whole (OfCapture count) = OfCapture count
          as-whole (OfDisk disk old new was is count) = OfDisk disk old new was is count
