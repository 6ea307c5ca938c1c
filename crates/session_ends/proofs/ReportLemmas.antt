-- The pieces of a report.
--     title, calls_text, cycles_text, meters_text, events_text, recorders_text, disks_text, last      what is put one after the other
--     text-put      what is put behind the first line
--     took-calls      what the last cycle took is of the script's calls
--     calls-put, cycles-put, meters-put, events-put, recorders-put, disks-put      what is put of the desk's and the driver's lists and of the recorders is what the report says
--     as-many-disks, few-disks      how many disks the report has
--     cause-later, cause-cut      what failed behind earlier calls has its cause behind them
use Rattle.std.proofs.Common.{◌≡◌, ℕ, List, [], ◌∷◌, ◌++◌, ◌≤◌, codes, length, map, flat_map, take, subst, sym, ◌∙◌, ap, ap₂, append_assoc, append-nil, Option, refl, true≢false}
use Rattle.std.specs.Prelude.{Result, Ok, Err, IsErr}
use Rattle.std.proofs.lemmas.List.{length-map}
use Rattle.std.proofs.lemmas.List.Concat.{flat_map-append}
use Rattle.jack_host.specs.Bytes.{Gains, Puts}
use Rattle.jack_host.specs.Causes.{HasCause}
use Rattle.jack_types.specs.declared.commands.Change.{Change}
use Rattle.jack_types.specs.declared.moments.Moment.{Moment}
use Rattle.jack_types.specs.declared.replies.Entry.{Entry}
use Rattle.jack_types.specs.declared.replies.Overrun.{Overrun}
use Rattle.session_model.specs.Histories.{accepted}
use Rattle.session_model.specs.Kinds.{Sound}
use Rattle.session_model.specs.Reports.{Report, PrintedCycle, call_line, cycle_line, disk_lines, event_line, line, meter_line, printed_call, recorder_lines, report_lines}
use Rattle.session_model.specs.Samples.{below}
use Rattle.session_model.specs.Scripts.{Script}
use Rattle.client_kinds.specs.Scores.{Score}
use Rattle.session_works.specs.DeskWords.{OfCallsAccepted}
use Rattle.driver_laws.specs.Keeping.{AreOfCalls}
use Rattle.session_works.specs.Drivers.{driver_of}
use Rattle.session_works.specs.RunWords.{events_from, IsMet, IsOne, meters_from, recorder_in, report_in, text_in}
use Rattle.report_lines.specs.Outputs.{cycles_of, text_of}
use Rattle.report_lines.proofs.PutLemmas.{first_last}
use Rattle.recorder_files.specs.Recorders.{Recording}
use Rattle.session_works.specs.Insides.{seen}
use Rattle.session_works.proofs.PassedLemmas.{AreOfCalls-kept, AreOfCalls-last}
use Rattle.session_works.specs.declared.works.SessionWorks.{SessionWorks}
use Rattle.session_ends.proofs.MeterLemmas.{cycles-below, disk_item, recorder_item}

abbrev pub title : List ℕ
title = line (codes "report" ∷ codes "1" ∷ [])

abbrev pub last : List ℕ
last = line (codes "end" ∷ [])

abbrev pub calls_text : Report → List ℕ
calls_text report = text_of (map call_line report.calls)

abbrev pub cycles_text : Report → List ℕ
cycles_text report = text_of (map cycle_line report.cycles)

abbrev pub meters_text : Report → List ℕ
meters_text report = text_of (map meter_line report.meters)

abbrev pub events_text : Report → List ℕ
events_text report = text_of (map event_line report.events)

abbrev pub recorders_text : Report → List ℕ
recorders_text report = text_of (flat_map recorder_lines report.recorders)

abbrev pub disks_text : Report → List ℕ
disks_text report = text_of (flat_map disk_lines report.disks)

-- what stands behind each
abbrev pub behind_recorders : Report → List ℕ
behind_recorders report = disks_text report ++ last

abbrev pub behind_events : Report → List ℕ
behind_events report = recorders_text report ++ behind_recorders report

abbrev pub behind_meters : Report → List ℕ
behind_meters report = events_text report ++ behind_events report

abbrev pub behind_cycles : Report → List ℕ
behind_cycles report = meters_text report ++ behind_meters report

abbrev pub behind_calls : Report → List ℕ
behind_calls report = cycles_text report ++ behind_cycles report

abbrev pub behind_title : Report → List ℕ
behind_title report = calls_text report ++ behind_calls report

text-behind : (xs ys : List (List ℕ)) (rest : List ℕ) → text_of (xs ++ ys) ++ rest ≡ text_of xs ++ (text_of ys ++ rest)
text-behind xs ys rest = ap (λ (t : List ℕ). t ++ rest) (flat_map-append (λ (t : List ℕ). t) xs ys) ∙ append_assoc (text_of xs) (text_of ys) rest

text-pieces : (a b c d e f g : List (List ℕ)) → text_of ((((((a ++ b) ++ c) ++ d) ++ e) ++ f) ++ g) ≡ text_of a ++ (text_of b ++ (text_of c ++ (text_of d ++ (text_of e ++ (text_of f ++ text_of g)))))
text-pieces a b c d e f g =
    flat_map-append (λ (t : List ℕ). t) (((((a ++ b) ++ c) ++ d) ++ e) ++ f) g
    ∙ text-behind ((((a ++ b) ++ c) ++ d) ++ e) f (text_of g)
    ∙ text-behind (((a ++ b) ++ c) ++ d) e (text_of f ++ text_of g)
    ∙ text-behind ((a ++ b) ++ c) d (text_of e ++ (text_of f ++ text_of g))
    ∙ text-behind (a ++ b) c (text_of d ++ (text_of e ++ (text_of f ++ text_of g)))
    ∙ text-behind a b (text_of c ++ (text_of d ++ (text_of e ++ (text_of f ++ text_of g))))

text-report : (report : Report) → text_of (report_lines report) ≡ title ++ behind_title report
text-report report =
    ap (λ (t : List ℕ). title ++ t)
    (text-pieces (map call_line report.calls) (map cycle_line report.cycles) (map meter_line report.meters) (map event_line report.events) (flat_map recorder_lines report.recorders) (flat_map disk_lines report.disks) (last ∷ [])
    ∙ ap (λ (ending : List ℕ). calls_text report ++ (cycles_text report ++ (meters_text report ++ (events_text report ++ (recorders_text report ++ (disks_text report ++ ending)))))) (append-nil last))

-- the first line, and what is put behind it
pub text-put : (sounding : Score → Sound) {S W G T E : Type 0} (works : SessionWorks S W G) (whole : Result T E) (a b c : Option (List ℕ)) → Gains a b title
    → Puts b c whole (behind_title (report_in (seen sounding works))) → Puts a c whole (text_in (seen sounding works))
text-put sounding {T = T} {E = E} works whole a b c first rest =
    subst (λ (t : List ℕ). Puts {T = T} {E = E} a c whole t) (sym (text-report (report_in (seen sounding works))))
    (first_last whole a b c title title (behind_title (report_in (seen sounding works))) refl first rest)

-- what the last cycle took is a front of what was accepted
pub took-calls : (sounding : Score → Sound) {S W G : Type 0} (works : SessionWorks S W G) → IsOne (seen sounding works) → IsMet (seen sounding works) → OfCallsAccepted → AreOfCalls works.driver.script works.driver.stage.plan.changes
took-calls sounding works one met of_calls =
    AreOfCalls-last works.driver.script works.driver.stage.plan.changes works.driver.reading.held (accepted works.desk.history) one.rows.place (met.met.held ∙ ap (take (length works.driver.reading.held)) one.desk.published)
    (subst (λ (script : Script). AreOfCalls script (accepted works.desk.history)) one.desk_script (AreOfCalls-kept works.desk.script (accepted works.desk.history) (of_calls works.desk.script works.desk.history one.desk.legal)))

pub calls-put : (sounding : Score → Sound) {S W G : Type 0} (works : SessionWorks S W G) (history : List Entry) → history ≡ works.desk.history → text_of (map call_line (map printed_call history)) ≡ calls_text (report_in (seen sounding works))
calls-put sounding works history own = ap (λ (h : List Entry). text_of (map call_line (map printed_call h))) own

pub meters-put : (sounding : Score → Sound) {S W G : Type 0} (works : SessionWorks S W G) (history : List Entry) → history ≡ works.desk.history
    → text_of (map meter_line (flat_map (λ (change : Change). meters_from (driver_of sounding works.driver) change.number change.command) (accepted history))) ≡ meters_text (report_in (seen sounding works))
meters-put sounding works history own = ap (λ (h : List Entry). text_of (map meter_line (flat_map (λ (change : Change). meters_from (driver_of sounding works.driver) change.number change.command) (accepted h)))) own

pub events-put : (sounding : Score → Sound) {S W G : Type 0} (works : SessionWorks S W G) (history : List Entry) → history ≡ works.desk.history
    → text_of (map event_line (flat_map (λ (change : Change). events_from (driver_of sounding works.driver) change.number change.command) (accepted history))) ≡ events_text (report_in (seen sounding works))
events-put sounding works history own = ap (λ (h : List Entry). text_of (map event_line (flat_map (λ (change : Change). events_from (driver_of sounding works.driver) change.number change.command) (accepted h)))) own

pub cycles-put : (sounding : Score → Sound) {S W G : Type 0} (works : SessionWorks S W G) (numbers : List ℕ) (moments : List Moment) → numbers ≡ works.driver.numbers → moments ≡ works.driver.moments → length works.driver.moments ≡ length works.driver.numbers
    → text_of (map cycle_line (cycles_of numbers moments)) ≡ cycles_text (report_in (seen sounding works))
cycles-put sounding works numbers moments own_numbers own_moments as_many =
    ap₂ (λ (ns : List ℕ) (ms : List Moment). text_of (map cycle_line (cycles_of ns ms))) own_numbers own_moments ∙ ap (λ (cycles : List PrintedCycle). text_of (map cycle_line cycles)) (sym (cycles-below (driver_of sounding works.driver) as_many))

pub recorders-put : (sounding : Score → Sound) {S W G : Type 0} (works : SessionWorks S W G) (recorders : List Recording) (overruns : List Overrun) → IsOne (seen sounding works) → recorders ≡ works.recorders.items → overruns ≡ works.driver.rings.overruns
    → text_of (flat_map recorder_lines (map (recorder_item recorders overruns) (below (length recorders)))) ≡ recorders_text (report_in (seen sounding works))
recorders-put sounding works recorders overruns one own_recorders own_overruns =
    let as_many : length works.recorders.items ≡ length works.driver.script.header.recorders = sym (length-map works.recorders.items (λ (r : Recording). r.getting)) ∙ one.recorder_ends in
    ap₂ (λ (rs : List Recording) (os : List Overrun). text_of (flat_map recorder_lines (map (recorder_item rs os) (below (length rs))))) own_recorders own_overruns
    ∙ ap (λ (n : ℕ). text_of (flat_map recorder_lines (map (recorder_in (seen sounding works)) (below n)))) as_many

-- there is a ring for each reader, and there are few
pub as-many-disks : (sounding : Score → Sound) {S W G : Type 0} (works : SessionWorks S W G) → IsOne (seen sounding works) → length works.readers.items ≡ length works.driver.disks.disks
as-many-disks sounding works one = one.disk_ends ∙ sym one.rings.disks

pub few-disks : (sounding : Score → Sound) {S W G : Type 0} (works : SessionWorks S W G) → IsOne (seen sounding works) → length works.readers.items ≤ 4
few-disks sounding works one = subst (λ n. n ≤ 4) (sym one.disk_ends) one.lawful.header.few_disks

pub disks-put : (sounding : Score → Sound) {S W G : Type 0} (works : SessionWorks S W G) (disks : ℕ) → IsOne (seen sounding works) → disks ≡ length works.readers.items
    → text_of (flat_map disk_lines (map (disk_item works.driver.disks.played works.driver.disks.underruns) (below disks))) ≡ disks_text (report_in (seen sounding works))
disks-put sounding works disks one is =
    ap (λ (n : ℕ). text_of (flat_map disk_lines (map (disk_item works.driver.disks.played works.driver.disks.underruns) (below n)))) (is ∙ one.disk_ends)

-- a call behind others that left the count
pub cause-later : {T E : Type 0} (r : Result T E) (a b c : ℕ) → b ≡ a → HasCause b c r → HasCause a c r
cause-later r a b c same cause = subst (λ (n : ℕ). HasCause n c r) same cause

-- what failed is handed on
pub cause-cut : {T E U F : Type 0} (r : Result T E) (handed : Result U F) (a b c : ℕ) (e : E) → b ≡ a → HasCause b c r → r ≡ Err e → IsErr handed → HasCause a c handed
cause-cut {T} {E} r (Err f) a b c e same cause was is =
    let failed : HasCause {T = T} {E = E} a c (Err e) = subst (λ (n : ℕ). HasCause {T = T} {E = E} n c (Err e)) same (subst (HasCause b c) was cause) in
    record { later = failed.later; failed = failed.failed; kept = tt }
cause-cut r (Ok v) a b c e same cause was is = absurd (true≢false (sym is))
