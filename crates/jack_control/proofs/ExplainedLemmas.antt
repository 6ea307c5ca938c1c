-- A session that was run and ended, and what its stores have.
--     told-stores      the bytes of a session's stores, where each place has one
--     printed-serial      the report prints the history of serial mode
--     fronts-told, fronts-so_far      fronts of the files at their places, in serial mode and with threads
--     fronts-begun, begun-so_far      so where files were begun alone
--     fronts-ended, ended-so_far      finished files are fronts of themselves
--     explain      what is written is explained by what is printed
use Rattle.std.proofs.Common.{◌≡◌, ℕ, zero, suc, ◌<◌, ◌≤◌, List, [], ◌∷◌, length, map, filter_map, slice_get, ℤ, Option, Some, None, IsNone, inl, refl, sym, ◌∙◌, ap, ap₂, subst, arith}
use Rattle.std.specs.Prelude.{IfSome}
use Rattle.std.proofs.lemmas.List.{length-map}
use Rattle.std.proofs.lemmas.Option.{same_Some, slice_get_within}
use Rattle.jack_types.specs.declared.files.Format.{Format}
use Rattle.jack_types.specs.declared.replies.Entry.{Entry}
use Rattle.jack_types.specs.declared.replies.Overrun.{Overrun}
use Rattle.jack_types.specs.declared.replies.Underrun.{Underrun}
use Rattle.session_model.specs.Courses.{Course}
use Rattle.session_model.specs.Explanations.{Explained, Given, Printed, course_of, overruns_of, playback_text, record_text}
use Rattle.session_model.specs.Playback.{playback_format, played_back}
use Rattle.session_model.specs.Recorders.{recorded, recorder_format}
use Rattle.session_model.specs.Samples.{below}
use Rattle.session_model.specs.Scripts.{Script, turns}
use Rattle.session_model.specs.Serial.{serial_history, serial_numbers, serial_overruns, serial_printed}
use Rattle.session_model.specs.WaveFiles.{wave_text}
use Rattle.session_model.specs.Kinds.{Sound}
use Rattle.client_kinds.specs.Scores.{Score}
use Rattle.session_laws.proofs.ActivationLemmas.{get_or-map_below}
use Rattle.driver_words.specs.Tapes.{HasAnyFront, HasFront, IsCut}
use Rattle.session_model.specs.Rings.{samples_of_blocks}
use Rattle.front_laws.proofs.FrontLemmas.{any-front}
use Rattle.driver_laws.specs.Drivers.{overruns_on, run}
use Rattle.driver_laws.specs.Keeping.{kept_blocks, played_so_far}
use Rattle.recorder_files.specs.Recorders.{Recording, Stored, held_in, held_or}
use Rattle.run_laws.proofs.PlaceLemmas.{mapped_there}
use Rattle.run_laws.specs.Sessions.{IsGiven, Session, course_in, printed_of}
use Rattle.run_laws.specs.Told.{Ends, Runs, StandsSoFar, text_in}
use Rattle.serial_laws.specs.Faults.{StandsInSerial, serial_course_of}
use Rattle.serial_laws.proofs.FrontLemmas.{HasFront-told, KeptAreAll, PlayedIsAll}
use Rattle.session_run.specs.Seen.{Parts, bytes_of, session_of, stores_in, told_of}
use Rattle.session_run.specs.Standings.{format_at}
use Rattle.jack_control.specs.Files.{AreFronts}
use Rattle.jack_control.specs.Performances.{Explain, HaveFronts, front_at, front_so_far}

-- ---- the bytes of stores

module _ {X : Type 0} where
  picked-few : (xs : List (Option X)) → length (filter_map (λ (x : Option X). x) xs) ≤ length xs
  picked-few [] = omega arith
  picked-few (Some x ∷ xs) = let few = picked-few xs in omega (arith, few)
  picked-few (None ∷ xs) = let few = picked-few xs in omega (arith, few)

  picked-all : (xs : List (Option X)) → length (filter_map (λ (x : Option X). x) xs) ≡ length xs → map Some (filter_map (λ (x : Option X). x) xs) ≡ xs
  picked-all [] all = refl
  picked-all (Some x ∷ xs) all = ap (λ (rest : List (Option X)). Some x ∷ rest) (picked-all xs (omega (arith, all)))
  picked-all (None ∷ xs) all = absurd (let few = picked-few xs in omega (arith, all, few))

map-map : {X Y Z : Type 0} (g : Y → Z) (f : X → Y) (xs : List X) → map g (map f xs) ≡ map (λ x. g (f x)) xs
map-map g f [] = refl
map-map g f (x ∷ xs) = ap (λ rest. g (f x) ∷ rest) (map-map g f xs)

-- each place has a store
abbrev pub AreHeld : Parts → Type 0
AreHeld parts = length (stores_in parts) ≡ suc (length parts.recorders)

pub told-stores : (sounding : Score → Sound) (parts : Parts) → AreHeld parts → map (λ (store : Stored). store.bytes) (stores_in parts) ≡ (told_of sounding parts).playback_file ∷ (told_of sounding parts).record_files
told-stores sounding parts all =
    sym (map-map bytes_of Some (stores_in parts))
    ∙ ap (map bytes_of) (picked-all held (all ∙ ap suc (sym (length-map parts.recorders held_in))))
    ∙ ap (λ (rest : List (Option (List ℕ))). bytes_of (held_or parts.playback parts.gear.playback) ∷ rest) (map-map bytes_of held_in parts.recorders)
  where
    held : List (Option Stored)
    held = held_or parts.playback parts.gear.playback ∷ map held_in parts.recorders

-- ---- what the report prints

pub printed-serial : (before between : Session) (given : Given) → Runs before between → IsNone before.script.header.threads → IsGiven before given → printed_of between ≡ serial_printed given
printed-serial before between given runs serial is =
    ap₂ (λ (history : List Entry) (numbers : List ℕ). record (printed_of between) { history = history; numbers = numbers })
    (runs.serial_history serial ∙ ap serial_history script) (runs.serial_numbers serial ∙ ap serial_numbers script)
    ∙ ap₂ (λ (overruns : List (List Overrun)) (underruns : List (List Underrun)). record (serial_printed given) { overruns = overruns; underruns = underruns })
    (runs.serial_overruns serial given is ∙ ap (λ (s : Script). map (serial_overruns s) (below (length s.header.recorders))) script)
    (runs.serial_underruns serial given is)
  where
    script : before.script ≡ given.script
    script = sym is.own.script

-- ---- fronts

module _ (sounding : Score → Sound) (front : ℕ → Option (List ℕ) → Type 0) where
  front-there : (playback : Option (List ℕ)) (records : List (Option (List ℕ))) → front zero playback
      → ((recorder : ℕ) (file : Option (List ℕ)) → slice_get records recorder ≡ Some file → front (suc recorder) file)
      → (place : ℕ) (bytes : Option (List ℕ)) → slice_get (playback ∷ records) place ≡ Some bytes → front place bytes
  front-there playback records first others zero bytes is = subst (λ (told : Option (List ℕ)). front zero told) (same_Some playback bytes is) first
  front-there playback records first others (suc recorder) bytes is = others recorder bytes is

  fronts-held : (parts : Parts) → AreHeld parts → front zero (told_of sounding parts).playback_file
      → ((recorder : ℕ) (file : Option (List ℕ)) → slice_get (told_of sounding parts).record_files recorder ≡ Some file → front (suc recorder) file) → HaveFronts front (stores_in parts)
  fronts-held parts all first others place store is =
      front-there (told_of sounding parts).playback_file (told_of sounding parts).record_files first others place store.bytes
      (ap (λ (told : List (Option (List ℕ))). slice_get told place) (sym (told-stores sounding parts all)) ∙ mapped_there (λ (store : Stored). store.bytes) (stores_in parts) place store is)

pub fronts-told : (sounding : Score → Sound) (parts : Parts) (given : Given) → AreHeld parts → StandsInSerial given (told_of sounding parts) → HaveFronts (front_at given) (stores_in parts)
fronts-told sounding parts given all stands =
    fronts-held sounding (front_at given) parts all (any-front (playback_format (serial_course_of given)) (played_back (serial_course_of given)) (told_of sounding parts).playback_file stands.playback)
    (λ recorder file there. any-front (recorder_format (serial_course_of given) recorder) (recorded (serial_course_of given) (serial_overruns given.script recorder) recorder) file (stands.records recorder file there))

-- the overruns that the report prints of a recorder
printed-overruns : (session : Session) (recorder : ℕ) → recorder < length session.script.header.recorders → overruns_of (printed_of session) recorder ≡ overruns_on session.driver.overruns recorder
printed-overruns session recorder low = get_or-map_below (overruns_on session.driver.overruns) (length session.script.header.recorders) recorder [] low

pub fronts-so_far : (sounding : Score → Sound) (parts : Parts) (given : Given) (kept : ℕ) → AreHeld parts → length parts.recorders ≡ length parts.gear.script.header.recorders → StandsSoFar kept (told_of sounding parts) given
    → HaveFronts (front_so_far given (printed_of (session_of sounding parts)) kept) (stores_in parts)
fronts-so_far sounding parts given kept all many stands =
    fronts-held sounding (front_so_far given (printed_of session) kept) parts all
    (any-front (playback_format (course_in given session)) (played_so_far (course_in given session) kept) (told_of sounding parts).playback_file stands.playback) each
  where
    session : Session
    session = session_of sounding parts

    each : (recorder : ℕ) (file : Option (List ℕ)) → slice_get (told_of sounding parts).record_files recorder ≡ Some file → front_so_far given (printed_of session) kept (suc recorder) file
    each recorder file there =
        let low : recorder < length parts.gear.script.header.recorders = subst (λ n. recorder < n) (length-map parts.recorders (λ (r : Recording). bytes_of (held_in r)) ∙ many) (slice_get_within (told_of sounding parts).record_files recorder file there) in
        any-front (recorder_format (course_in given session) recorder) (samples_of_blocks (kept_blocks (course_in given session) (overruns_of (printed_of session) recorder) recorder kept)) file
        (subst (λ (overruns : List Overrun). HasFront (recorder_format (course_in given session) recorder) (samples_of_blocks (kept_blocks (course_in given session) overruns recorder kept)) file)
        (sym (printed-overruns session recorder low)) (stands.records recorder file there))

front-begun : (format of : Format) (samples : List ℤ) (told : Option (List ℕ)) → format ≡ of → IfSome told (IsCut format) → HasAnyFront of samples told
front-begun format of samples None same cut = tt
front-begun format of samples (Some bytes) same cut = any-front of samples (Some bytes) (inl (subst (λ (f : Format). IsCut f bytes) same cut))

pub fronts-begun : (sounding : Score → Sound) (parts : Parts) (stores : List Stored) → AreFronts parts stores → (given : Given) → IsGiven (session_of sounding parts) given → HaveFronts (front_at given) stores
fronts-begun sounding parts stores begun given is zero store there =
    front-begun (format_at zero parts) (playback_format (serial_course_of given)) (played_back (serial_course_of given)) store.bytes (ap (λ (s : Script). playback_format (record (serial_course_of given) { script = s })) (sym is.own.script)) (begun zero store there)
fronts-begun sounding parts stores begun given is (suc recorder) store there =
    front-begun (format_at (suc recorder) parts) (recorder_format (serial_course_of given) recorder) (recorded (serial_course_of given) (serial_overruns given.script recorder) recorder) store.bytes
    (ap (λ (s : Script). recorder_format (record (serial_course_of given) { script = s }) recorder) (sym is.own.script)) (begun (suc recorder) store there)

pub begun-so_far : (sounding : Score → Sound) (parts : Parts) (stores : List Stored) → AreFronts parts stores → (given : Given) (printed : Printed) (kept : ℕ) → IsGiven (session_of sounding parts) given → HaveFronts (front_so_far given printed kept) stores
begun-so_far sounding parts stores begun given printed kept is zero store there =
    front-begun (format_at zero parts) (playback_format (course_of given printed)) (played_so_far (course_of given printed) kept) store.bytes (ap (λ (s : Script). playback_format (record (course_of given printed) { script = s })) (sym is.own.script)) (begun zero store there)
begun-so_far sounding parts stores begun given printed kept is (suc recorder) store there =
    front-begun (format_at (suc recorder) parts) (recorder_format (course_of given printed) recorder) (samples_of_blocks (kept_blocks (course_of given printed) (overruns_of printed recorder) recorder kept)) store.bytes
    (ap (λ (s : Script). recorder_format (record (course_of given printed) { script = s }) recorder) (sym is.own.script)) (begun (suc recorder) store there)

pub fronts-ended : (given : Given) (between after : Session) → Ends given between after → printed_of between ≡ serial_printed given → length after.record_files ≡ length given.script.header.recorders → StandsInSerial given after
fronts-ended given between after ends same many = record {
  playback = HasFront-told (playback_format (serial_course_of given)) (played_back (serial_course_of given)) after.playback_file
      (subst (λ (printed : Printed). IfSome after.playback_file (λ bytes. bytes ≡ playback_text given printed)) same ends.playback);
  records = λ recorder file there.
      let low : recorder < length given.script.header.recorders = subst (λ n. recorder < n) many (slice_get_within after.record_files recorder file there) in
      subst (λ (overruns : List Overrun). HasFront (recorder_format (serial_course_of given) recorder) (recorded (serial_course_of given) overruns recorder) file)
      (get_or-map_below (serial_overruns given.script) (length given.script.header.recorders) recorder [] low)
      (HasFront-told (recorder_format (serial_course_of given) recorder) (recorded (serial_course_of given) _ recorder) file
      (subst (λ (printed : Printed). IfSome file (λ bytes. bytes ≡ record_text given printed recorder)) same (ends.records recorder file there)));
}

-- behind all cycles all is played, and all blocks are kept
pub ended-so_far : PlayedIsAll → KeptAreAll → (given : Given) (between after : Session) → Ends given between after → run after.driver ≡ length (turns given.script) → length after.record_files ≡ length after.script.header.recorders
    → StandsSoFar (run after.driver) after given
ended-so_far played kept given between after ends all many = record {
  low = omega arith;
  near = omega arith;
  playback = HasFront-told (playback_format course) (played_so_far course (run after.driver)) after.playback_file
      (subst (λ (samples : List ℤ). IfSome after.playback_file (λ bytes. bytes ≡ wave_text (playback_format course) samples)) (sym (ap (played_so_far course) all ∙ played course))
      (subst (λ (printed : Printed). IfSome after.playback_file (λ bytes. bytes ≡ playback_text given printed)) (sym ends.printed) ends.playback));
  records = λ recorder file there.
      let low : recorder < length after.script.header.recorders = subst (λ n. recorder < n) many (slice_get_within after.record_files recorder file there) in
      let losses : List Overrun = overruns_on after.driver.overruns recorder in
      HasFront-told (recorder_format course recorder) (samples_of_blocks (kept_blocks course losses recorder (run after.driver))) file
      (subst (λ (samples : List ℤ). IfSome file (λ bytes. bytes ≡ wave_text (recorder_format course recorder) samples))
      (ap (λ (overruns : List Overrun). recorded course overruns recorder) (printed-overruns after recorder low) ∙ sym (ap (λ n. samples_of_blocks (kept_blocks course losses recorder n)) all ∙ kept course losses recorder))
      (subst (λ (printed : Printed). IfSome file (λ bytes. bytes ≡ record_text given printed recorder)) (sym ends.printed) (ends.records recorder file there)));
}
  where
    course : Course
    course = course_in given after

-- ---- explained

abbrev pub IsExplainedEach : Type 0
IsExplainedEach =
    (before between after : Session) (given : Given) (playback : List ℕ) (records : List (List ℕ)) → IsGiven before given → Runs before between → Ends given between after
    → after.playback_file ≡ Some playback → after.record_files ≡ map Some records → length records ≡ length before.script.header.recorders
    → Explained given (printed_of between) (record { playback = playback; records = records; report = text_in after })

first-told : (a b : Option (List ℕ)) (rest others : List (Option (List ℕ))) → a ∷ rest ≡ b ∷ others → a ≡ b
first-told a b rest others same = cc

others-told : (a b : Option (List ℕ)) (rest others : List (Option (List ℕ))) → a ∷ rest ≡ b ∷ others → rest ≡ others
others-told a b rest others same = cc

pub explain : (sounding : Score → Sound) → IsExplainedEach → (before between after : Parts) → Runs (session_of sounding before) (session_of sounding between)
    → AreHeld after → told_of sounding after ≡ session_of sounding after → length after.recorders ≡ length before.gear.script.header.recorders
    → (given : Given) → IsGiven (session_of sounding before) given → Ends given (session_of sounding between) (session_of sounding after) → Explain given (printed_of (session_of sounding after)) (stores_in after) (text_in (session_of sounding after))
explain sounding law before between after runs all told many given is ends playback records same =
    subst (λ (printed : Printed). Explained given printed (record { playback = playback; records = records; report = text_in (session_of sounding after) }))
    (sym ends.printed)
    (law (session_of sounding before) (session_of sounding between) (session_of sounding after) given playback records is runs ends
    (ap (λ (s : Session). s.playback_file) (sym told) ∙ first-told (told_of sounding after).playback_file (Some playback) (told_of sounding after).record_files (map Some records) files)
    (ap (λ (s : Session). s.record_files) (sym told) ∙ rest)
    (sym (length-map records Some) ∙ sym (ap length rest) ∙ length-map after.recorders (λ (r : Recording). bytes_of (held_in r)) ∙ many))
  where
    files : (told_of sounding after).playback_file ∷ (told_of sounding after).record_files ≡ Some playback ∷ map Some records
    files = sym (told-stores sounding after all) ∙ same

    rest : (told_of sounding after).record_files ≡ map Some records
    rest = others-told (told_of sounding after).playback_file (Some playback) (told_of sounding after).record_files (map Some records) files
