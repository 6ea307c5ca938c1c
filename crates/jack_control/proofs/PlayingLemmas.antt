-- A session that is performed, from the clauses of its calls.
--     given-made      what a session is given, behind the making of its files
--     out-behind      its stores, later
--     MadeAll, made-all      all files were made
--     all-held, made-behind      what is so behind that
--     status-either, was-read, was-write, one-failed      whose fault it was
--     come-none, come-ran, come-ended      how far it came
--     cut-begun, cut-broken, cut-whole      of the stores, where making files failed, where the run or the end failed, and where neither did
--     explain-whole, serial-whole      what is printed explains them, and in serial mode it is the history of that
use Rattle.std.proofs.Common.{◌≡◌, ◌⊎◌, inl, inr, ℕ, suc, ◌<◌, ◌≤◌, List, [], length, map, slice_get, take, Option, Some, None, IsNone, is_some, Result, Ok, Err, is_err, OnOk, false, sym, ◌∙◌, ap, subst, arith, true≢false}
use Rattle.std.specs.Prelude.{IsErrOf, IsSome}
use Rattle.std.proofs.lemmas.List.{length-map, take_all}
use Rattle.std.proofs.lemmas.Option.{slice_get_within}
use Rattle.jack_types.specs.declared.replies.Entry.{Entry}
use Rattle.jack_host.specs.Causes.{Rose}
use Rattle.session_model.specs.Explanations.{Given, Printed}
use Rattle.session_model.specs.Histories.{LegalSoFar}
use Rattle.session_model.specs.Scripts.{Script, phases, turns}
use Rattle.session_model.specs.Serial.{serial_printed}
use Rattle.session_model.specs.Kinds.{Sound}
use Rattle.client_kinds.specs.Scores.{Score}
use Rattle.session_laws.proofs.HistoryLemmas.{LegalSoFar-none}
use Rattle.control_desk.specs.Desks.{Desk}
use Rattle.driver_laws.specs.Drivers.{run}
use Rattle.session_run.specs.Seen.{Gear}
use Rattle.recorder_files.specs.Recorders.{Recording, Stored, held_in}
use Rattle.run_laws.proofs.PlaceLemmas.{some_at}
use Rattle.run_laws.specs.Runs.{AtPhase}
use Rattle.run_laws.specs.Sessions.{IsGiven, Session, printed_of}
use Rattle.run_laws.specs.Told.{Ends, HasLists, Runs, StandsSoFar, text_in}
use Rattle.serial_laws.specs.Faults.{StandsInSerial}
use Rattle.serial_laws.proofs.FrontLemmas.{KeptAreAll, PlayedIsAll}
use Rattle.session_run.specs.Seen.{HasCome}
use Rattle.session_run.specs.Seen.{AreLater, AreReadLater, IsLater, OfCapture, OfDisk, OneRose, Parts, Playing, SourceRose, bytes_of, session_of, stores_in, told_of}
use Rattle.session_run.specs.Faults.{SessionFault}
use Rattle.session_run.specs.Faults.{Read, Write}
use Rattle.session_run.specs.Standings.{IsAttaching}
use Rattle.play_inputs.specs.declared.status.Status.{Status}
use Rattle.play_inputs.specs.declared.status.Status.TheVariants.{ReadFault, WriteFault}
use Rattle.jack_control.specs.Files.{AreFronts, AreOut, Empties, IsOut, OneFailed}
use Rattle.play_inputs.specs.Inputs.{Files}
use Rattle.jack_control.specs.Openings.{AreFaultless}
use Rattle.jack_control.specs.Performances.{Explain, HaveCut, MadeSome, status_of_session}
use Rattle.jack_control.specs.Plays.{TouchesOnly}
use Rattle.jack_control.proofs.ExplainedLemmas.{AreHeld, IsExplainedEach, begun-so_far, ended-so_far, explain, fronts-begun, fronts-ended, fronts-so_far, fronts-told, printed-serial}

-- the playback's file alone is new
abbrev pub HasFiles : Parts → Parts → Type 0
HasFiles before after = after.gear ≡ record before.gear { playback = after.gear.playback }

pub given-made : (sounding : Score → Sound) (before after : Parts) → HasFiles before after → after.players ≡ before.players → (given : Given) → IsGiven (session_of sounding before) given
    → IsGiven (session_of sounding after) given
given-made sounding before after same players given is = record {
  own = record {
    script = is.own.script ∙ sym script;
    scores = is.own.scores ∙ sym (ap (λ (g : Gear). map sounding g.stage.staged.owned.scores) same);
    channels = is.own.channels ∙ ap (λ (s : Script). s.header.disks) (sym script);
  };
  capture = ap (λ (g : Gear). g.capture.reading.left) same ∙ is.capture;
  disks = ap (λ (ps : List Playing). map (λ (p : Playing). p.left) ps) players ∙ is.disks;
}
  where
    script : after.gear.script ≡ before.gear.script
    script = ap (λ (g : Gear). g.script) same

-- ---- stores, later

still-some : {X : Type 0} (a b : Option X) → is_some b ≡ is_some a → IsSome a → IsSome b
still-some a b same is = same ∙ is

out-later : (files : Option Files) (name : List ℕ) (before after : Stored) → IsOut files name before → IsLater before after → IsOut files name after
out-later None name before after out later = tt
out-later (Some all) name before after out later = record { named = later.name ∙ out.named; there = out.there; tells = still-some before.bytes after.bytes later.tells out.tells }

pub out-behind : (files : Option Files) (names : List (List ℕ)) (before after : List Stored) → AreOut files names before → AreLater before after → AreOut files names after
out-behind files names before after out later = record {
  as_many = later.as_many ∙ out.as_many;
  each = λ i name store named is.
      let was = some_at before i (subst (λ n. i < n) later.as_many (slice_get_within after i store is)) in
      out-later files name was.0 store (out.each i name was.0 named was.1) (later.each i was.0 store was.1 is);
}

-- nothing was called, and no cycle begun
come-none : (script : Script) (history : List Entry) (numbers : List ℕ) → history ≡ [] → numbers ≡ [] → HasCome script history numbers
come-none script history numbers none no_cycles = record {
  legal = subst (LegalSoFar script) (sym none) (LegalSoFar-none script);
  rising = λ i j d order inside. let size = ap length no_cycles in absurd (omega (arith, inside, size));
  within = λ k number turn at of. let size = ap length no_cycles in let inside = slice_get_within numbers k number at in absurd (omega (arith, inside, size));
}

-- a file could not be made, or begun: nothing was run
pub cut-begun : (sounding : Score → Sound) (parts later : Parts) (stores : List Stored) → IsAttaching sounding parts → AreFronts parts stores → later.desk ≡ parts.desk → HasFiles parts later → (given : Given) → IsGiven (session_of sounding parts) given
    → HaveCut given (printed_of (session_of sounding later)) stores
cut-begun sounding parts later stores attaching begun desk same given is = record {
  serial = λ none. fronts-begun sounding parts stores begun given is;
  so_far = λ some. record {
    kept = 0;
    came = record {
      come = come-none given.script later.desk.history later.gear.numbers (ap (λ (d : Desk). d.history) (desk ∙ attaching.new.new_desk)) (ap (λ (g : Gear). g.numbers) same ∙ attaching.new.new_driver.numbers);
      low = omega arith;
      near = subst (λ (numbers : List ℕ). length numbers ≤ 1) (sym (ap (λ (g : Gear). g.numbers) same ∙ attaching.new.new_driver.numbers)) (omega arith);
    };
    fronts = begun-so_far sounding parts stores begun given (printed_of (session_of sounding later)) 0 is;
  };
}

come-ran : (sounding : Score → Sound) (parts : Parts) → HasLists (session_of sounding parts) → HasCome parts.gear.script parts.desk.history parts.gear.numbers
come-ran sounding parts lists = record { legal = lists.legal.so_far; rising = lists.cycles.rising; within = lists.cycles.bounds }

-- the run came to its end, and what it made stays behind an end that failed
pub come-ended : (sounding : Score → Sound) (after between ended : Parts) → between.gear.script ≡ after.gear.script → HasLists (session_of sounding between) → ended.desk.history ≡ between.desk.history → ended.gear.numbers ≡ between.gear.numbers
    → HasCome after.gear.script ended.desk.history ended.gear.numbers
come-ended sounding after between ended script lists history numbers =
    subst (λ (ns : List ℕ). HasCome after.gear.script ended.desk.history ns) (sym numbers)
    (subst (λ (h : List Entry). HasCome after.gear.script h between.gear.numbers) (sym history)
    (subst (λ (s : Script). HasCome s between.desk.history between.gear.numbers) script
    (come-ran sounding between lists)))

-- ---- the causes of a session's fault

pub status-either : (fault : SessionFault) (status : Status) → status ≡ status_of_session fault → (status ≡ ReadFault) ⊎ (status ≡ WriteFault)
status-either Read status is = inl is
status-either Write status is = inr is

pub was-read : (fault : SessionFault) (status : Status) (r : Result (Unit {0}) SessionFault) (answer : Result (Unit {0}) Status) → r ≡ Err fault → status ≡ status_of_session fault → answer ≡ Err status → IsErrOf answer ReadFault → IsErrOf r Read
was-read Read status r answer is of told e = is
was-read Write status r answer is of told e = let no : ⊥ = cc in absurd no

pub was-write : (fault : SessionFault) (status : Status) (r : Result (Unit {0}) SessionFault) (answer : Result (Unit {0}) Status) → r ≡ Err fault → status ≡ status_of_session fault → answer ≡ Err status → IsErrOf answer WriteFault → IsErrOf r Write
was-write Read status r answer is of told e = let no : ⊥ = cc in absurd no
was-write Write status r answer is of told e = is

pub one-failed : (before after : List Stored) → OneRose before after → OneFailed after
one-failed before after one = (one.place, one.new, one.is, let rose = one.rose in omega (arith, rose))

-- the sources of a session whose files were made are those that it had
pub source-made : (before after later : Parts) → HasFiles before after → after.players ≡ before.players → SourceRose after later → SourceRose before later
source-made before after later same players (OfCapture rose) = OfCapture (subst (λ (n : ℕ). Rose n later.gear.capture.reading.faults) (ap (λ (g : Gear). g.capture.reading.faults) same) rose)
source-made before after later same players (OfDisk disk old new was is rose) = OfDisk disk old new (subst (λ (ps : List Playing). slice_get ps disk ≡ Some old) players was) is rose

-- where no read of the later ones failed, their counts stand
pub faultless-later : (before after : List Playing) → AreReadLater before after → ((disk : ℕ) (player : Playing) → slice_get after disk ≡ Some player → player.failed ≡ false) → AreFaultless before → AreFaultless after
faultless-later before after later going none disk player is =
    let was = some_at before disk (subst (λ n. disk < n) later.as_many (slice_get_within after disk player is)) in
    ((later.each disk was.0 player was.1 is).kept (going disk player is)).1 ∙ none disk was.0 was.1

-- all files were made, of a session that had none
pub record MadeAll (sounding : Score → Sound) (old new : Option Files) (names records : List (List ℕ)) (before after : Parts) : Type 0 where
  pub names_are : length names ≡ suc (length records)
  pub ready : IsAttaching sounding after
  pub out : AreOut new names (stores_in after)
  pub touches : TouchesOnly old new names
  pub empties : Empties old new
  pub many : length before.recorders ≡ length records
  pub as_many : length after.recorders ≡ length before.recorders

pub made-all : (sounding : Score → Sound) {T E : Type 0} (r : Result T E) (old new : Option Files) (names records : List (List ℕ)) (before after : Parts) → false ≡ is_err r → length names ≡ suc (length records)
    → OnOk r (IsAttaching sounding after × (after.attached ≡ suc (length after.recorders)) × AreOut new names (stores_in after)) → TouchesOnly old new names → Empties old new → length before.recorders ≡ length records → length after.recorders ≡ length before.recorders
    → MadeAll sounding old new names records before after
made-all sounding (Ok x) old new names records before after is names_are made touches empties many as_many = record { names_are = names_are; ready = made.0; out = made.2; touches = touches; empties = empties; many = many; as_many = as_many }
made-all sounding (Err e) old new names records before after is names_are made touches empties many as_many = absurd (true≢false (sym is))

module _ (sounding : Score → Sound) (old new : Option Files) (names records : List (List ℕ)) (before after : Parts) (made : MadeAll sounding old new names records before after) where
  pub all-held : AreHeld after
  all-held = made.out.as_many ∙ made.names_are ∙ ap suc (sym made.many) ∙ ap suc (sym made.as_many)

  pub recorders-held : length after.recorders ≡ length after.gear.script.header.recorders
  recorders-held = sym (length-map after.recorders (λ (r : Recording). r.format)) ∙ ap length made.ready.formats

  module _ (later : Parts) (goes : AreLater (stores_in after) (stores_in later)) (many : length later.recorders ≡ length after.recorders) where
    pub made-behind : MadeSome old new names (stores_in later)
    made-behind = record {
      made = length names;
      out = subst (λ (done : List (List ℕ)). AreOut new done (stores_in later)) (sym all) (out-behind new names (stores_in after) (stores_in later) made.out goes);
      touches = subst (λ (done : List (List ℕ)). TouchesOnly old new done) (sym all) made.touches;
      empties = made.empties;
    }
      where
        all : take (length names) names ≡ names
        all = take_all (length names) names (omega arith)

    pub held-behind : AreHeld later
    held-behind = goes.as_many ∙ all-held ∙ ap suc (sym many)

    -- the run failed, or the end
    pub cut-broken : later.gear.script ≡ after.gear.script → (given : Given) → given.script ≡ after.gear.script
        → (IsNone after.gear.script.header.threads → StandsInSerial given (told_of sounding later))
        → (IsSome after.gear.script.header.threads → HasCome after.gear.script later.desk.history later.gear.numbers × (kept : ℕ) × StandsSoFar kept (told_of sounding later) given)
        → HaveCut given (printed_of (session_of sounding later)) (stores_in later)
    cut-broken same given is serial threads = record {
      serial = λ none. fronts-told sounding later given held-behind (serial (subst (λ (s : Script). IsNone s.header.threads) is none));
      so_far = λ some.
          let far = threads (subst (λ (s : Script). IsSome s.header.threads) is some) in
          record {
            kept = far.1;
            came = record { come = subst (λ (s : Script). HasCome s later.desk.history later.gear.numbers) (sym is) far.0; low = far.2.low; near = far.2.near };
            fronts = fronts-so_far sounding later given far.1 held-behind (many ∙ recorders-held ∙ ap (λ (s : Script). length s.header.recorders) (sym same)) far.2;
          };
    }

  -- the run and the end, both with Ok
  module _ (same : HasFiles before after) (players : after.players ≡ before.players) (between ended : Parts) (runs : Runs (session_of sounding after) (session_of sounding between))
      (ends : (given : Given) → AtPhase (session_of sounding between) given (length (phases between.gear.script)) → Ends given (session_of sounding between) (session_of sounding ended))
      (told : told_of sounding ended ≡ session_of sounding ended) (goes : AreLater (stores_in after) (stores_in ended)) (many : length ended.recorders ≡ length after.recorders) (script : ended.gear.script ≡ between.gear.script) where
    at-end : (given : Given) → IsGiven (session_of sounding after) given → AtPhase (session_of sounding between) given (length (phases between.gear.script))
    at-end given is = subst (λ (s : Script). AtPhase (session_of sounding between) given (length (phases s))) (sym runs.script) (runs.at_end given is)

    as-many : length (session_of sounding ended).record_files ≡ length after.gear.script.header.recorders
    as-many = sym (ap (λ (s : Session). length s.record_files) told) ∙ length-map ended.recorders (λ (r : Recording). bytes_of (held_in r)) ∙ many ∙ recorders-held

    module _ (given : Given) (is : IsGiven (session_of sounding before) given) where
      here : IsGiven (session_of sounding after) given
      here = given-made sounding before after same players given is

      ends-here : Ends given (session_of sounding between) (session_of sounding ended)
      ends-here = ends given (at-end given here)

      serial-printed : IsNone given.script.header.threads → printed_of (session_of sounding between) ≡ serial_printed given
      serial-printed serial = printed-serial (session_of sounding after) (session_of sounding between) given runs (subst (λ (s : Script). IsNone s.header.threads) here.own.script serial) here

      pub serial-whole : IsNone given.script.header.threads → printed_of (session_of sounding ended) ≡ serial_printed given
      serial-whole serial = ends-here.printed ∙ serial-printed serial

      script-here : between.gear.script ≡ given.script
      script-here = runs.script ∙ sym here.own.script

      all-cycles : run (session_of sounding ended).driver ≡ length (turns given.script)
      all-cycles = ap (λ (printed : Printed). length printed.numbers) ends-here.printed ∙ runs.lists.cycles.each ∙ ap (λ (s : Script). length (turns s)) script-here

      come-whole : HasCome given.script (printed_of (session_of sounding ended)).history (printed_of (session_of sounding ended)).numbers
      come-whole =
          subst (λ (printed : Printed). HasCome given.script printed.history printed.numbers) (sym ends-here.printed)
          (subst (λ (s : Script). HasCome s between.desk.history between.gear.numbers) script-here (come-ran sounding between runs.lists))

      pub cut-whole : PlayedIsAll → KeptAreAll → HaveCut given (printed_of (session_of sounding ended)) (stores_in ended)
      cut-whole played kept = record {
        serial = λ serial.
            fronts-told sounding ended given (held-behind ended goes many)
            (subst (λ (s : Session). StandsInSerial given s) (sym told)
            (fronts-ended given (session_of sounding between) (session_of sounding ended) ends-here (serial-printed serial) (as-many ∙ ap (λ (s : Script). length s.header.recorders) (sym here.own.script))));
        so_far = λ some. record {
          kept = run (session_of sounding ended).driver;
          came = record { come = come-whole; low = omega arith; near = omega arith };
          fronts = fronts-so_far sounding ended given (run (session_of sounding ended).driver) (held-behind ended goes many) (many ∙ recorders-held ∙ ap (λ (s : Script). length s.header.recorders) (sym (script ∙ runs.script)))
              (subst (λ (s : Session). StandsSoFar (run (session_of sounding ended).driver) s given) (sym told)
              (ended-so_far played kept given (session_of sounding between) (session_of sounding ended) ends-here all-cycles (as-many ∙ ap (λ (s : Script). length s.header.recorders) (sym (script ∙ runs.script)))));
        };
      }

      pub explain-whole : IsExplainedEach → Explain given (printed_of (session_of sounding ended)) (stores_in ended) (text_in (session_of sounding ended))
      explain-whole law = explain sounding law after between ended runs (held-behind ended goes many) told (many ∙ recorders-held) given here ends-here
