-- The course of a session's own lists.
--     AreOfCalls-kept      what a desk accepts are the driver's changes of calls
--     Fits-met      it fits the driver, where desk and driver met
--     FitsDisk-rest      it fits a disk's ring between its turns
--     KeepsAny-new      a new session keeps each course over what it was given
use Rattle.std.proofs.Common.{◌≡◌, ◌⊎◌, inl, inr, ℕ, ◌<◌, ◌≤◌, Bool, true, false, cond, ◌==◌, List, [], ◌∷◌, length, map, get_or, take, slice_get, slice_index_or, All, Contains, Some, refl, sym, ◌∙◌, ap, subst, arith, eqb-true}
use Rattle.std.specs.List.{list_any}
use Rattle.std.proofs.Math.Seq.{take-length}
use Rattle.std.proofs.lemmas.Bool.{cases_lt}
use Rattle.std.proofs.lemmas.List.{get_or_past}
use Rattle.std.proofs.lemmas.List.Elements.{All-head, All-tail}
use Rattle.std.proofs.lemmas.Option.{get_or_from_slice_get, slice_get_within}
use Rattle.jack_types.specs.declared.commands.Change.{Change}
use Rattle.jack_types.specs.declared.replies.Underrun.{Underrun}
use Rattle.session_model.specs.Courses.{Course}
use Rattle.session_model.specs.Explanations.{Given}
use Rattle.session_model.specs.Histories.{accepted}
use Rattle.session_model.specs.Kinds.{Sound}
use Rattle.session_model.specs.Rings.{RingBlock}
use Rattle.session_model.specs.Samples.{below}
use Rattle.session_model.specs.Scripts.{Script}
use Rattle.session_model.specs.Soundness.{Apart}
use Rattle.session_laws.proofs.ActivationLemmas.{get_or-map_below, length-map_below}
use Rattle.graph_word.specs.declared.view.TakenRow.{TakenRow}
use Rattle.graph_word.specs.Publications.{HaveMet, IsFront}
use Rattle.driver_words.specs.Rings.{Getting, Sending}
use Rattle.serial_lanes.specs.control_desk.specs.Laws.{AreApart, AreOfCalls as AcceptsCalls, OfCallsAccepted}
use Rattle.driver_laws.specs.Drivers.{Driver, underruns_on}
use Rattle.driver_laws.specs.Keeping.{AreOfCalls, Fits, FitsDisk, Keeps, file_block}
use Rattle.driver_laws.specs.Openings.{IsNew as IsNewDriver}
use Rattle.run_laws.specs.Runs.{DiskAtRest}
use Rattle.run_laws.specs.Sessions.{IsFor, IsGiven, IsOne, IsOver, KeepsAny, Session, course_in}
use Rattle.run_laws.specs.Told.{IsNew}
use Rattle.run_laws.proofs.PlaceLemmas.{front_there, mapped_there}

-- the course of the session's own lists is one over what was given
pub IsOver-own : (session : Session) (given : Given) → IsOver given (course_in given session)
IsOver-own session given = record { script = refl; capture = refl; disks = refl; scores = refl }

Apart-from : {X : Type 0} (xs : List X) → AreApart xs → Apart (λ x. x) xs
Apart-from [] h = tt
Apart-from (x ∷ xs) h = (λ y there same. h.0 (subst (Contains xs) (sym same) there), Apart-from xs h.1)

pub AreOfCalls-kept : (script : Script) (changes : List Change) → AcceptsCalls script changes → AreOfCalls script changes
AreOfCalls-kept script changes accepts = record { calls = accepts.calls; commands = accepts.commands; planned_ones = accepts.planned_ones; once = Apart-from accepts.calls accepts.once }

-- a row at a place is a front of all that is published, as long as the driver's number says
pub row_at : (rows : List TakenRow) (all : List Change) (numbers : List ℕ) → map (λ (row : TakenRow). length row.changes) rows ≡ numbers → All (λ (row : TakenRow). IsFront row.changes all) rows
    → (k : ℕ) (row : TakenRow) → slice_get rows k ≡ Some row → row.changes ≡ take (slice_index_or numbers k 0) all
row_at rows all numbers same fronts k row there =
    let row_is : get_or rows k row ≡ row = get_or_from_slice_get rows k row row there in
    let front : IsFront row.changes all = subst (λ (r : TakenRow). IsFront r.changes all) row_is (fronts k row (slice_get_within rows k row there)) in
    let number : slice_index_or numbers k 0 ≡ length row.changes =
    ap (λ ns. get_or ns k 0) (sym same)
    ∙ get_or_from_slice_get (map (λ (r : TakenRow). length r.changes) rows) k (length row.changes) 0 (mapped_there (λ (r : TakenRow). length r.changes) rows k row there) in
    front ∙ ap (λ n. take n all) (sym number)

-- no underrun is of a disk past the script's
none_beyond : (count disk k : ℕ) → count ≤ disk → (us : List Underrun) → All (λ (u : Underrun). u.disk < count) us → list_any (λ (u : Underrun). u.cycle == k) (underruns_on us disk) ≡ false
none_beyond count disk k high [] h = refl
none_beyond count disk k high (u ∷ us) h =
    go (u.disk == disk) refl (All-head (λ (v : Underrun). v.disk < count) u us h) (none_beyond count disk k high us (All-tail (λ (v : Underrun). v.disk < count) u us h))
  where
    rest : List Underrun
    rest = underruns_on us disk

    go : (b : Bool) → (u.disk == disk) ≡ b → u.disk < count → list_any (λ (v : Underrun). v.cycle == k) rest ≡ false → list_any (λ (v : Underrun). v.cycle == k) (cond b (u ∷ rest) rest) ≡ false
    go true e low r = absurd (omega (arith, eqb-true u.disk disk e, low, high))
    go false e low r = r

-- the printed underruns of a disk are missed where the driver's are
missed_same : (underruns : List Underrun) (count disk k : ℕ) → All (λ (u : Underrun). u.disk < count) underruns
    → list_any (λ (u : Underrun). u.cycle == k) (slice_index_or (map (underruns_on underruns) (below count)) disk []) ≡ list_any (λ (u : Underrun). u.cycle == k) (underruns_on underruns disk)
missed_same underruns count disk k own = go (cases_lt disk count)
  where
    go : (disk < count) ⊎ (count ≤ disk)
        → list_any (λ (u : Underrun). u.cycle == k) (slice_index_or (map (underruns_on underruns) (below count)) disk []) ≡ list_any (λ (u : Underrun). u.cycle == k) (underruns_on underruns disk)
    go (inl low) = ap (list_any (λ (u : Underrun). u.cycle == k)) (get_or-map_below (underruns_on underruns) count disk [] low)
    go (inr high) =
        let past : length (map (underruns_on underruns) (below count)) ≤ disk = omega (arith, length-map_below (underruns_on underruns) count, high) in
        ap (list_any (λ (u : Underrun). u.cycle == k)) (get_or_past (map (underruns_on underruns) (below count)) disk [] past) ∙ sym (none_beyond count disk k high underruns own)

pub Fits-met : OfCallsAccepted → (session : Session) (given : Given) → IsOne session → IsFor session given → HaveMet session.desk.publishing session.driver.reading
    → ((disk : ℕ) (got : Getting) → slice_get session.driver.disks disk ≡ Some got → FitsDisk (course_in given session) disk got) → Fits session.driver (course_in given session)
Fits-met of_calls session given one own met disks =
    let desk_script : session.desk.script ≡ given.script = one.desk_script ∙ sym own.script in
    let accepts : AreOfCalls session.desk.script (accepted session.desk.history) = AreOfCalls-kept session.desk.script (accepted session.desk.history) (of_calls session.desk.script session.desk.history one.desk.legal) in
    record {
      script = own.script ∙ sym one.driver_script;
      scores = own.scores;
      channels = own.channels ∙ ap (λ (s : Script). s.header.disks) (sym own.script);
      of_calls = subst (λ (s : Script). AreOfCalls s (accepted session.desk.history)) desk_script accepts;
      numbers = sym (take-length session.driver.numbers);
      rows = λ k row there.
          row_at session.driver.reading.rows session.desk.publishing.all session.driver.numbers one.rows.numbers met.rows k row there
          ∙ ap (take (slice_index_or session.driver.numbers k 0)) one.desk.published;
      underruns = λ disk k low. missed_same session.driver.underruns (length session.script.header.disks) disk k one.own_disks;
      disks = disks;
    }

pub FitsDisk-rest : (session : Session) (given : Given) (disk : ℕ) (ring : Sending) (got : Getting) → DiskAtRest given disk ring got → FitsDisk (course_in given session) disk got
FitsDisk-rest session given disk ring got rest = record {
  blocks = λ i one there.
      let put_there : slice_get ring.put i ≡ Some one = front_there (length got.got) ring.put i one (sym (ap (λ bs. slice_get bs i) rest.front) ∙ there) in
      let low : i < length ring.put = slice_get_within ring.put i one put_there in
      let within = rest.file.within course over in
      let samples : get_or (map (λ (b : RingBlock). b.samples) ring.put) i [] ≡ one.samples =
      get_or_from_slice_get (map (λ (b : RingBlock). b.samples) ring.put) i one.samples [] (mapped_there (λ (b : RingBlock). b.samples) ring.put i one put_there) in
      (omega (arith, low, within), sym samples ∙ ap (λ bs. get_or bs i []) (rest.file.blocks course over) ∙ get_or-map_below (file_block course disk) (length ring.put) i [] low);
  whole = λ done. ap length (rest.over done).0 ∙ rest.file.whole course over (rest.over done).1;
}
  where
    course : Course
    course = course_in given session

    over : IsOver given course
    over = IsOver-own session given

pub KeepsAny-new : ((script : Script) (scores : List Sound) (driver : Driver) → IsNewDriver script scores driver → (course : Course) → course.script ≡ script → driver.left ≡ Some course.capture → Keeps driver course)
    → (session : Session) (given : Given) → IsNew session → IsGiven session given → KeepsAny given session.driver
KeepsAny-new keeps session given new is_given course over fits =
    keeps session.script session.driver.scores session.driver new.new_driver course (over.script ∙ is_given.own.script) (is_given.capture ∙ ap Some (sym over.capture))
