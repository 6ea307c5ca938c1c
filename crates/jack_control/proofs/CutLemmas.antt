-- The files of a play, before it and behind it.
--     apart-front, apart-take      names that are apart
--     handed, others-kept      of the files that were made, when they were handed back
--     explained      an ended play
--     cut      one that failed
use Rattle.std.proofs.Common.{◌≡◌, ℕ, zero, suc, ◌<◌, ◌≤◌, ◌⊎◌, inl, inr, ℤ, List, [], ◌∷◌, ◌++◌, length, map, take, drop, get_or, slice_get, Contains, Option, Some, None, IsNone, refl, sym, ◌∙◌, ap, ap₂, subst, arith}
use Rattle.std.specs.Prelude.{IsSome}
use Rattle.std.proofs.lemmas.Bool.{cases_lt}
use Rattle.std.proofs.lemmas.List.{length-map, take-append-drop}
use Rattle.std.proofs.lemmas.Option.{same_Some, slice_get-get_or}
use Rattle.jack_types.specs.declared.files.Format.{Format}
use Rattle.jack_host.specs.Bytes.{Gains}
use Rattle.jack_host.specs.Files.{bytes_under, IsFrontOf, SameFiles}
use Rattle.session_model.specs.Explanations.{Given, Printed, course_of, overruns_of}
use Rattle.session_model.specs.Kinds.{Sound}
use Rattle.session_model.specs.Playback.{playback_format, played_back}
use Rattle.session_model.specs.Recorders.{recorded, recorder_format}
use Rattle.session_model.specs.Rings.{samples_of_blocks}
use Rattle.session_model.specs.Serial.{serial_overruns, serial_printed}
use Rattle.client_kinds.specs.Scores.{Score}
use Rattle.driver_words.specs.Tapes.{HasAnyFront}
use Rattle.front_laws.proofs.FrontLemmas.{empty-front, front-left}
use Rattle.session_laws.proofs.LoopFreeLemmas.{Contains-append_left}
use Rattle.port_registry.proofs.PlaceLemmas.{Apart-place}
use Rattle.driver_laws.specs.Keeping.{kept_blocks, played_so_far}
use Rattle.recorder_files.specs.Recorders.{Stored}
use Rattle.run_laws.proofs.PlaceLemmas.{front_there, some_at}
use Rattle.run_laws.specs.Sessions.{IsGiven}
use Rattle.serial_laws.specs.Faults.{serial_course_of}
use Rattle.play_words.specs.Words.{Play}
use Rattle.session_run.specs.Seen.{Parts, session_of}
use Rattle.jack_control.specs.Files.{AllStand, AreApart, AreOut, IsHeld, IsPart, IsWhole, Stand, Standing}
use Rattle.play_inputs.specs.Inputs.{Files}
use Rattle.jack_control.specs.Openings.{IsSessionOf}
use Rattle.jack_control.specs.Performances.{Explain, HaveCut, HaveCutSoFar, HaveFronts, MadeSome, front_at, front_so_far}
use Rattle.jack_control.specs.Plays.{Cuts, IsExplained, IsMadeOrKept, IsPlayCut, Plays, TouchesOnly, made_by}
use Rattle.jack_control.proofs.FileLemmas.{some-told, touches-after, touches_same}
use Rattle.jack_control.proofs.MadeLemmas.{made-touches}

-- ---- names

pub apart-front : (names others : List (List ℕ)) → AreApart (names ++ others) → AreApart names
apart-front [] others apart = tt
apart-front (name ∷ names) others apart = (λ other there. apart.0 other (Contains-append_left names others other there), apart-front names others apart.1)

pub apart-take : (many : ℕ) (names : List (List ℕ)) → AreApart names → AreApart (take many names)
apart-take many names apart = apart-front (take many names) (drop many names) (subst (λ (whole : List (List ℕ)). AreApart whole) (sym (take-append-drop many names)) apart)

-- ---- handed back

pub handed : (P : Standing) (old made behind : Option Files) (names : List (List ℕ)) (stores : List Stored) → AreApart names → (some : MadeSome old made names stores) → AllStand P made behind stores → Stand P made behind (take some.made names) stores
handed P old made behind names stores apart some stand = stand (take some.made names) some.out (apart-take some.made names apart)

pub others-kept : (old made behind new : Option Files) (names : List (List ℕ)) (stores : List Stored) → AreApart names → MadeSome old made names stores → AllStand IsPart made behind stores → SameFiles behind new → TouchesOnly old new names
others-kept old made behind new names stores apart some stand same =
    touches-after old made new names (made-touches old made some.made names some.touches)
    (touches-after made behind new names (made-touches made behind some.made names (handed IsPart old made behind names stores apart some stand).others) (touches_same behind new names same))

-- ---- ended

abbrev AllHeld : Files → List (List ℕ) → List Stored → Type 0
AllHeld files names stores = (i : ℕ) (name : List ℕ) (store : Stored) → slice_get names i ≡ Some name → slice_get stores i ≡ Some store → IsHeld files name store

texts-told : (files : Files) (names : List (List ℕ)) (stores : List Stored) → length stores ≡ length names → AllHeld files names stores → (texts : List (List ℕ)) × (map (λ (store : Stored). store.bytes) stores ≡ map Some texts)
texts-told files names [] same held = ([], refl)
texts-told files [] (store ∷ stores) same held = absurd (omega (arith, same))
texts-told files (name ∷ names) (store ∷ stores) same held =
    let first = some-told store.bytes (held zero name store refl refl).tells in
    let rest = texts-told files names stores (omega (arith, same)) (λ i n s a b. held (suc i) n s a b) in
    (first.0 ∷ rest.0, ap₂ (λ (one : Option (List ℕ)) (others : List (Option (List ℕ))). one ∷ others) first.1 rest.1)

abbrev AllUnder : Files → List (List ℕ) → List Stored → Type 0
AllUnder files names stores = (i : ℕ) (name : List ℕ) (store : Stored) → slice_get names i ≡ Some name → slice_get stores i ≡ Some store → bytes_under files name ≡ store.bytes

bytes-all : (files : Files) (names : List (List ℕ)) (stores : List Stored) → length stores ≡ length names → AllUnder files names stores → map (bytes_under files) names ≡ map (λ (store : Stored). store.bytes) stores
bytes-all files [] [] same under = refl
bytes-all files [] (store ∷ stores) same under = absurd (omega (arith, same))
bytes-all files (name ∷ names) [] same under = absurd (omega (arith, same))
bytes-all files (name ∷ names) (store ∷ stores) same under =
    ap₂ (λ (one : Option (List ℕ)) (others : List (Option (List ℕ))). one ∷ others) (under zero name store refl refl) (bytes-all files names stores (omega (arith, same)) (λ i n s a b. under (suc i) n s a b))

bytes-same : (a b : Files) → ((name : List ℕ) → bytes_under b name ≡ bytes_under a name) → (names : List (List ℕ)) → map (bytes_under b) names ≡ map (bytes_under a) names
bytes-same a b same [] = refl
bytes-same a b same (name ∷ names) = ap₂ (λ (one : Option (List ℕ)) (others : List (Option (List ℕ))). one ∷ others) (same name) (bytes-same a b same names)

first-of : (a b : Option (List ℕ)) (rest others : List (Option (List ℕ))) → a ∷ rest ≡ b ∷ others → a ≡ b
first-of a b rest others same = cc

others-of : (a b : Option (List ℕ)) (rest others : List (Option (List ℕ))) → a ∷ rest ≡ b ∷ others → rest ≡ others
others-of a b rest others same = cc

-- whatever is given, what is printed explains what the stores have and this report, and in serial mode it is the history of that
abbrev pub ExplainsAll : (Score → Sound) → Parts → Printed → List Stored → List ℕ → Type 0
ExplainsAll sounding parts printed stores report = (given : Given) → IsGiven (session_of sounding parts) given → Explain given printed stores report

abbrev pub IsSerialOf : (Score → Sound) → Parts → Printed → Type 0
IsSerialOf sounding parts printed = (given : Given) → IsGiven (session_of sounding parts) given → IsNone given.script.header.threads → printed ≡ serial_printed given

module _ (sounding : Score → Sound) (scores : List Sound) (play : Play) (parts : Parts) (printed : Printed) (stores : List Stored) where
  plays : (files made behind new : Files) (out out_after : Option (List ℕ)) (report : List ℕ) → IsSessionOf sounding (Some files) scores play parts → AreOut (Some made) (made_by play) stores
      → Stand IsWhole (Some made) (Some behind) (made_by play) stores → SameFiles (Some behind) (Some new) → ExplainsAll sounding parts printed stores report → IsSerialOf sounding parts printed → Gains out out_after report → Plays files new out out_after scores play
  plays files made behind new out out_after report is held stand same explains serial gains = go texts.0 texts.1
    where
      texts : (texts : List (List ℕ)) × (map (λ (store : Stored). store.bytes) stores ≡ map Some texts)
      texts = texts-told made (made_by play) stores held.as_many (λ i n s a b. held.each i n s a b)

      under : map (bytes_under new) (made_by play) ≡ map (λ (store : Stored). store.bytes) stores
      under = bytes-same behind new same (made_by play) ∙ bytes-all behind (made_by play) stores held.as_many (λ i n s a b. stand.each i n s a b)

      go : (texts : List (List ℕ)) → map (λ (store : Stored). store.bytes) stores ≡ map Some texts → Plays files new out out_after scores play
      go [] are = absurd (let none : length (map (λ (store : Stored). store.bytes) stores) ≡ 0 = ap length are in let many = length-map stores (λ (store : Stored). store.bytes) in let held_many = held.as_many in omega (arith, none, many, held_many))
      go (text ∷ texts) are = record {
        script_bytes = is.given.0;
        capture_bytes = is.given.2.0;
        disk_bytes = is.given.2.2.0;
        script_is = is.given.1;
        capture_is = is.given.2.1;
        disks_are = is.given.2.2.1;
        given = is.given.2.2.2.0;
        input = is.given.2.2.2.1;
        printed = printed;
        serial = serial is.given.2.2.2.0 is.given.2.2.2.2;
        written = record { playback = text; records = texts; report = report };
        explained = explains is.given.2.2.2.0 is.given.2.2.2.2 text texts are;
        playback_is = first-of (bytes_under new play.playback) (Some text) (map (bytes_under new) play.records) (map Some texts) (under ∙ are);
        records_are = others-of (bytes_under new play.playback) (Some text) (map (bytes_under new) play.records) (map Some texts) (under ∙ are);
        report_is = gains;
      }

  pub explained : (files old made behind new : Option Files) (out out_after : Option (List ℕ)) (report : List ℕ) → SameFiles files old → TouchesOnly old made (made_by play) → AreApart (made_by play) → AllStand IsWhole made behind stores → SameFiles behind new
      → IsSessionOf sounding files scores play parts → AreOut made (made_by play) stores → ExplainsAll sounding parts printed stores report → IsSerialOf sounding parts printed → Gains out out_after report → IsExplained files new out out_after scores play
  explained None old made behind new out out_after report first touches apart stand last is held explains serial gains = tt
  explained (Some files) None made behind new out out_after report first touches apart stand last is held explains serial gains = absurd first
  explained (Some files) (Some old) None behind new out out_after report first touches apart stand last is held explains serial gains = absurd touches
  explained (Some files) (Some old) (Some made) None new out out_after report first touches apart stand last is held explains serial gains = absurd (stand (made_by play) held apart).others
  explained (Some files) (Some old) (Some made) (Some behind) None out out_after report first touches apart stand last is held explains serial gains = absurd last
  explained (Some files) (Some old) (Some made) (Some behind) (Some new) out out_after report first touches apart stand last is held explains serial gains =
      plays files made behind new out out_after report is held (stand (made_by play) held apart) last explains serial gains

-- ---- cut

-- a name behind the first so many is none of them
none-there : (many : ℕ) (names : List (List ℕ)) (i : ℕ) (name : List ℕ) → AreApart names → slice_get names i ≡ Some name → length (take many names) ≤ i → Contains (take many names) name → ⊥
none-there many names i name apart there high contains =
    let at = front_there many names contains.0 (get_or (take many names) contains.0 name) (slice_get-get_or (take many names) contains.0 name contains.1) in
    let same = Apart-place (λ (n : List ℕ). n) names i contains.0 name (get_or (take many names) contains.0 name) apart there at (sym contains.2) in
    let low = contains.1 in
    omega (arith, same, high, low)

-- what holds of a store's bytes holds of the first of them, and of none
record IsClosed (front : Option (List ℕ) → Type 0) : Type 0 where
  left : (told : Option (List ℕ)) (left : List ℕ) → front told → IsFrontOf told left → front (Some left)
  none : front (Some [])

fronts-closed : (format : Format) (samples : List ℤ) → IsClosed (HasAnyFront format samples)
fronts-closed format samples = record { left = front-left format samples; none = empty-front format samples }

closed-at : (given : Given) (place : ℕ) → IsClosed (front_at given place)
closed-at given zero = fronts-closed (playback_format (serial_course_of given)) (played_back (serial_course_of given))
closed-at given (suc recorder) =
    fronts-closed (recorder_format (serial_course_of given) recorder) (recorded (serial_course_of given) (serial_overruns given.script recorder) recorder)

closed-so_far : (given : Given) (printed : Printed) (kept place : ℕ) → IsClosed (front_so_far given printed kept place)
closed-so_far given printed kept zero = fronts-closed (playback_format (course_of given printed)) (played_so_far (course_of given printed) kept)
closed-so_far given printed kept (suc recorder) =
    fronts-closed (recorder_format (course_of given printed) recorder) (samples_of_blocks (kept_blocks (course_of given printed) (overruns_of printed recorder) recorder kept))

module _ (front : ℕ → Option (List ℕ) → Type 0) (names : List (List ℕ)) (stores : List Stored) (apart : AreApart names) (closed : (place : ℕ) → IsClosed (front place)) (fronts : HaveFronts front stores) where
  cut-at : (files old made behind new : Files) → SameFiles (Some files) (Some old) → (some : MadeSome (Some old) (Some made) names stores) → Stand IsPart (Some made) (Some behind) (take some.made names) stores → SameFiles (Some behind) (Some new)
      → (place : ℕ) (name : List ℕ) → slice_get names place ≡ Some name → IsMadeOrKept (front place) (length (take some.made names)) place files new name
  cut-at files old made behind new first some stand last place name there = go (cases_lt place (length (take some.made names)))
    where
      -- its store was handed back
      made-one : (store : Stored) → place < length (take some.made names) → slice_get stores place ≡ Some store → IsSome (bytes_under made name) → (bytes_under made name ≡ Some []) ⊎ (bytes_under made name ≡ bytes_under old name)
          → IsPart store (bytes_under made name) (bytes_under behind name) → IsMadeOrKept (front place) (length (take some.made names)) place files new name
      made-one store low at found empties (inr (left, part, is)) = inl (low, left, last name ∙ is, (closed place).left store.bytes left (fronts place store at) part)
      made-one store low at found (inl empty) (inl same) = inl (low, [], last name ∙ same ∙ empty, (closed place).none)
      made-one store low at found (inr kept) (inl same) = inr (λ _. subst (λ (now : Option (List ℕ)). IsSome now) (kept ∙ first name) found, last name ∙ same ∙ kept ∙ first name)

      go : (place < length (take some.made names)) ⊎ (length (take some.made names) ≤ place) → IsMadeOrKept (front place) (length (take some.made names)) place files new name
      go (inr high) =
          let other : Contains (take some.made names) name → ⊥ = none-there some.made names place name apart there high in
          inr (λ low. absurd (omega (arith, low, high)), last name ∙ stand.others name other ∙ some.touches name other ∙ first name)
      go (inl low) =
          let named = some_at (take some.made names) place low in
          let same : named.0 ≡ name = same_Some named.0 name (sym (front_there some.made names place named.0 named.1) ∙ there) in
          let at : slice_get (take some.made names) place ≡ Some name = named.1 ∙ ap Some same in
          let store = some_at stores place (subst (λ n. place < n) (sym some.out.as_many) low) in
          let held : IsHeld made name store.0 = some.out.each place name store.0 at store.1 in
          made-one store.0 low store.1 held.there (some.empties name) (stand.each place name store.0 at store.1)

module _ (sounding : Score → Sound) (scores : List Sound) (play : Play) (parts : Parts) (printed : Printed) (stores : List Stored) where
  cuts : (files old made behind new : Files) → SameFiles (Some files) (Some old) → AreApart (made_by play) → MadeSome (Some old) (Some made) (made_by play) stores → AllStand IsPart (Some made) (Some behind) stores → SameFiles (Some behind) (Some new)
      → IsSessionOf sounding (Some files) scores play parts → ((given : Given) → IsGiven (session_of sounding parts) given → HaveCut given printed stores) → Cuts files new scores play
  cuts files old made behind new first apart some stand last is cut = record {
    script_bytes = is.given.0;
    capture_bytes = is.given.2.0;
    disk_bytes = is.given.2.2.0;
    script_is = is.given.1;
    capture_is = is.given.2.1;
    disks_are = is.given.2.2.1;
    given = given;
    input = is.given.2.2.2.1;
    serial = λ none. record {
      made = made_so_many;
      playback = at (front_at given) (closed-at given) ((cut given is.given.2.2.2.2).serial none) zero play.playback refl;
      records = λ recorder name there. at (front_at given) (closed-at given) ((cut given is.given.2.2.2.2).serial none) (suc recorder) name there;
    };
    so_far = λ threads.
        let far : HaveCutSoFar given printed stores = (cut given is.given.2.2.2.2).so_far threads in
        record {
          printed = printed;
          kept = far.kept;
          came = far.came;
          fronts = record {
            made = made_so_many;
            playback = at (front_so_far given printed far.kept) (closed-so_far given printed far.kept) far.fronts zero play.playback refl;
            records = λ recorder name there. at (front_so_far given printed far.kept) (closed-so_far given printed far.kept) far.fronts (suc recorder) name there;
          };
        };
  }
    where
      given : Given
      given = is.given.2.2.2.0

      made_so_many : ℕ
      made_so_many = length (take some.made (made_by play))

      at : (front : ℕ → Option (List ℕ) → Type 0) → ((place : ℕ) → IsClosed (front place)) → HaveFronts front stores → (place : ℕ) (name : List ℕ) → slice_get (made_by play) place ≡ Some name → IsMadeOrKept (front place) made_so_many place files new name
      at front closed fronts place name there =
          cut-at front (made_by play) stores apart closed fronts files old made behind new first some (handed IsPart (Some old) (Some made) (Some behind) (made_by play) stores apart some stand) last place name there

  pub cut : (files old made behind new : Option Files) → SameFiles files old → AreApart (made_by play) → MadeSome old made (made_by play) stores → AllStand IsPart made behind stores → SameFiles behind new
      → IsSessionOf sounding files scores play parts → ((given : Given) → IsGiven (session_of sounding parts) given → HaveCut given printed stores) → IsPlayCut files new scores play
  cut None old made behind new first apart some stand last is fronts = tt
  cut (Some files) None made behind new first apart some stand last is fronts = absurd first
  cut (Some files) (Some old) None behind new first apart some stand last is fronts = absurd some.touches
  cut (Some files) (Some old) (Some made) None new first apart some stand last is fronts = absurd (handed IsPart (Some old) (Some made) None (made_by play) stores apart some stand).others
  cut (Some files) (Some old) (Some made) (Some behind) None first apart some stand last is fronts = absurd last
  cut (Some files) (Some old) (Some made) (Some behind) (Some new) first apart some stand last is fronts = inr (cuts files old made behind new first apart some stand last is fronts)
