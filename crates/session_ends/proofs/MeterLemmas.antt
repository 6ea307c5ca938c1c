-- The lines of a report as the texts of its items.
--     text-parted      of items made from some of a list
--     text-grouped      of items with several lines each
--     text-meters, text-logged, text-events, text-recorders, text-recorder, text-disks      of meters, logs, recorders and disks
--     disk_text_is      of the disk at a place
--     cycles-below      the cycles of numbers and moments
use Rattle.std.proofs.Common.{◌≡◌, ℕ, ◌<◌, List, [], ◌∷◌, ◌++◌, length, map, flat_map, filter_map, get_or, Option, Some, None, refl, sym, ◌∙◌, ap, ap₂, arith, append-nil}
use Rattle.std.specs.Prelude.{slice_index, slice_index_or}
use Rattle.std.proofs.lemmas.List.{get_or-map, map-append, same_lists}
use Rattle.std.proofs.lemmas.List.Concat.{flat_map-append}
use Rattle.jack_types.specs.declared.commands.Change.{Change}
use Rattle.jack_types.specs.declared.events.Logged.{Logged}
use Rattle.jack_types.specs.declared.replies.Entry.{Entry}
use Rattle.jack_types.specs.declared.replies.Overrun.{Overrun}
use Rattle.jack_types.specs.declared.replies.Underrun.{Underrun}
use Rattle.session_model.specs.Histories.{accepted, change_of}
use Rattle.session_model.specs.Reports.{PrintedDisk, PrintedEvent, PrintedRecorder, disk_lines, event_line, meter_line, recorder_lines}
use Rattle.session_model.specs.Samples.{below}
use Rattle.session_laws.proofs.ActivationLemmas.{get_or-map_below, length-map_below}
use Rattle.driver_laws.specs.Drivers.{Driver, run}
use Rattle.session_works.specs.RunWords.{cycle_in, events_from, meters_from, no_moment}
use Rattle.recorder_files.specs.Recorders.{Recording}
use Rattle.report_lines.specs.Outputs.{cycles_of, overruns_on, text_of, underruns_on}
use Rattle.report_lines.proofs.PutLemmas.{cycles-at, length-cycles, same-at, text-mapped}

-- what is made from the items of a list, where something is
pub text-parted : {X Y Z : Type 0} (part : X → Option Y) (f : Y → List Z) (line : Z → List ℕ) (xs : List X)
    → text_of (map line (flat_map f (filter_map part xs))) ≡ flat_map (λ x. text_of (map line (flat_map f (filter_map part (x ∷ []))))) xs
text-parted part f line [] = refl
text-parted {X} {Y} part f line (x ∷ xs) = go (part x) refl (text-parted part f line xs)
  where
    go : (found : Option Y) → part x ≡ found → text_of (map line (flat_map f (filter_map part xs))) ≡ flat_map (λ x. text_of (map line (flat_map f (filter_map part (x ∷ []))))) xs
        → text_of (map line (flat_map f (filter_map part (x ∷ xs)))) ≡ flat_map (λ x. text_of (map line (flat_map f (filter_map part (x ∷ []))))) (x ∷ xs)
    go None e others = rw e others
    go (Some y) e others = rw e (
        ap text_of (map-append line (f y) (flat_map f (filter_map part xs))) ∙ flat_map-append (λ (t : List ℕ). t) (map line (f y)) (map line (flat_map f (filter_map part xs)))
        ∙ ap₂ (λ (a b : List ℕ). a ++ b) (ap (λ zs. text_of (map line zs)) (sym (append-nil (f y)))) others)

-- items with several lines each
pub text-grouped : {X Y : Type 0} (lines : Y → List (List ℕ)) (part : X → Y) (xs : List X) → text_of (flat_map lines (map part xs)) ≡ flat_map (λ x. text_of (lines (part x))) xs
text-grouped lines part [] = refl
text-grouped lines part (x ∷ xs) =
    flat_map-append (λ (t : List ℕ). t) (lines (part x)) (flat_map lines (map part xs)) ∙ ap (λ (t : List ℕ). text_of (lines (part x)) ++ t) (text-grouped lines part xs)

-- the lines that the meter of a call prints
abbrev pub meter_text : Driver → Entry → List ℕ
meter_text driver entry = text_of (map meter_line (flat_map (λ (change : Change). meters_from driver change.number change.command) (accepted (entry ∷ []))))

pub text-meters : (driver : Driver) (history : List Entry) → text_of (map meter_line (flat_map (λ (change : Change). meters_from driver change.number change.command) (accepted history))) ≡ flat_map (meter_text driver) history
text-meters driver history = text-parted change_of (λ (change : Change). meters_from driver change.number change.command) meter_line history

-- an event's item in the report, which a client of this name logged
abbrev pub event_item : List ℕ → Logged → PrintedEvent
event_item client logged = record { client = client; logged = logged }

abbrev pub logged_text : List ℕ → Logged → List ℕ
logged_text client logged = event_line (event_item client logged)

pub text-logged : (client : List ℕ) (log : List Logged) → text_of (map event_line (map (event_item client) log)) ≡ flat_map (logged_text client) log
text-logged client log = text-mapped event_line (event_item client) log

-- the lines that the log of a call prints
abbrev pub event_text : Driver → Entry → List ℕ
event_text driver entry = text_of (map event_line (flat_map (λ (change : Change). events_from driver change.number change.command) (accepted (entry ∷ []))))

pub text-events : (driver : Driver) (history : List Entry) → text_of (map event_line (flat_map (λ (change : Change). events_from driver change.number change.command) (accepted history))) ≡ flat_map (event_text driver) history
text-events driver history = text-parted change_of (λ (change : Change). events_from driver change.number change.command) event_line history

-- a recorder's item in the report, and its lines
abbrev pub recorder_item : List Recording → List Overrun → ℕ → PrintedRecorder
recorder_item recorders overruns i = record { recorder = i; blocks = slice_index_or (map (λ (r : Recording). r.blocks) recorders) i 0; overruns = overruns_on overruns i }

abbrev pub recorder_text : List Recording → List Overrun → ℕ → List ℕ
recorder_text recorders overruns i = text_of (recorder_lines (recorder_item recorders overruns i))

pub text-recorders : (recorders : List Recording) (overruns : List Overrun)
    → text_of (flat_map recorder_lines (map (recorder_item recorders overruns) (below (length recorders)))) ≡ flat_map (recorder_text recorders overruns) (below (length recorders))
text-recorders recorders overruns = text-grouped recorder_lines (recorder_item recorders overruns) (below (length recorders))

-- a disk's item in the report, and its lines
abbrev pub disk_item : List ℕ → List Underrun → ℕ → PrintedDisk
disk_item played underruns i = record { disk = i; blocks = slice_index_or played i 0; underruns = underruns_on underruns i }

abbrev pub disk_text : List ℕ → List Underrun → ℕ → List ℕ
disk_text played underruns i = text_of (disk_lines (disk_item played underruns i))

pub text-disks : (played : List ℕ) (underruns : List Underrun) (count : ℕ)
    → text_of (flat_map disk_lines (map (disk_item played underruns) (below count))) ≡ flat_map (disk_text played underruns) (below count)
text-disks played underruns count = text-grouped disk_lines (disk_item played underruns) (below count)

pub disk_text_is : (played : List ℕ) (underruns handed : List Underrun) (i blocks : ℕ) → handed ≡ underruns → blocks ≡ slice_index played i
    → text_of (disk_lines (record { disk = i; blocks = blocks; underruns = underruns_on handed i })) ≡ disk_text played underruns i
disk_text_is played underruns handed i blocks own same = ap₂ (λ (us : List Underrun) (n : ℕ). text_of (disk_lines (record { disk = i; blocks = n; underruns = underruns_on us i }))) own same

-- the cycles of numbers and as many moments
pub cycles-below : (driver : Driver) → length driver.moments ≡ length driver.numbers → map (cycle_in driver) (below (run driver)) ≡ cycles_of driver.numbers driver.moments
cycles-below driver as_many = same_lists (map (cycle_in driver) (below (run driver))) (cycles_of driver.numbers driver.moments)
    (let pairs = length-cycles driver.numbers driver.moments in let long = length-map_below (cycle_in driver) (run driver) in omega (arith, pairs, as_many, long))
    (λ k d within.
    let long : length (map (cycle_in driver) (below (run driver))) ≡ length driver.numbers = length-map_below (cycle_in driver) (run driver) in
    let a : k < length driver.numbers = omega (arith, long, within) in
    let b : k < length driver.moments = omega (arith, a, as_many) in
    let there : k < length (cycles_of driver.numbers driver.moments) = omega (arith, a, b, length-cycles driver.numbers driver.moments) in
    get_or-map_below (cycle_in driver) (run driver) k d a ∙ cycles-at driver.numbers driver.moments k 0 no_moment a b ∙ same-at (cycles_of driver.numbers driver.moments) k (cycle_in driver k) d there)

-- the text of the recorder at a place
pub text-recorder : (recorders : List Recording) (overruns : List Overrun) (i : ℕ) (r : Recording) (blocks : ℕ) → i < length recorders → r ≡ get_or recorders i r → blocks ≡ r.blocks
    → text_of (recorder_lines (record { recorder = i; blocks = blocks; overruns = overruns_on overruns i })) ≡ recorder_text recorders overruns i
text-recorder recorders overruns i r blocks within at same =
    ap (λ (n : ℕ). text_of (recorder_lines (record { recorder = i; blocks = n; overruns = overruns_on overruns i })))
    (same ∙ ap (λ (x : Recording). x.blocks) at ∙ sym (get_or-map (λ (x : Recording). x.blocks) recorders i r 0 within))
