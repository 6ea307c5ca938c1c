-- The stores that recorders hold come out, one after another.
--     AreTaken place recorders      the recorders before a place hold none
--     held-none      a recorder that holds none has neither a file nor a store
--     set-there, taken-set      one that holds none stays
--     taken-none, taken-more      up to which place
--     taken-all, taken-one      what that says of the stores
--     taken-same      the rest of a recorder stays
--     taken session playback tapes playback_file record_files      a session whose stores were taken
--     text-taken, ran-taken      its report and its run stay
--     session-taken, report-stays, ended-stays      so they stay where stores are taken of a session's parts
--     stores-rest      without a playback it holds its recorders' stores
--     removed-first      the first of a list is taken
--     if-none      what follows from what holds where there is nothing
use Rattle.std.proofs.Common.{◌≡◌, ℕ, zero, suc, ◌+◌, ◌<◌, ◌≤◌, ◌⊎◌, inl, inr, List, [], ◌∷◌, length, map, flat_map, get_or, set, slice_get, Option, Some, None, IfNone, refl, sym, ◌∙◌, ap, ap₂, subst, arith}
use Rattle.std.specs.List.{cons_option, remove}
use Rattle.std.proofs.lemmas.Bool.{cases_lt}
use Rattle.std.proofs.lemmas.Option.{none-some, same_Some}
use Rattle.jack_types.specs.declared.commands.Change.{Change}
use Rattle.jack_types.specs.declared.commands.Command.{Command}
use Rattle.jack_types.specs.declared.commands.Command.TheVariants.{Open}
use Rattle.jack_types.specs.declared.kinds.Kind.TheVariants.{Meter, Midilog}
use Rattle.session_model.specs.Histories.{accepted}
use Rattle.session_model.specs.Kinds.{Sound}
use Rattle.session_model.specs.Reports.{Report, report_lines}
use Rattle.session_model.specs.Scripts.{phases}
use Rattle.session_laws.proofs.ListLemmas.{flat_map-same}
use Rattle.client_kinds.specs.Scores.{Score}
use Rattle.driver_words.specs.Rings.{Getting}
use Rattle.driver_words.specs.Tapes.{Tape}
use Rattle.session_works.specs.DeskWords.{Desk}
use Rattle.driver_laws.specs.Drivers.{Driver}
use Rattle.session_works.specs.Drivers.{Gear, driver_of}
use Rattle.recorder_files.specs.Recorders.{Recording, Stored, held_in, held_or, stored_of}
use Rattle.session_works.specs.RunWords.{events_from, IsOne, meters_from, Playing, RanPhases, report_in, Session, text_in}
use Rattle.session_works.specs.Parts.{Parts, session_of, stores_in}
use Rattle.session_works.specs.Standings.{HasEnded}
use Rattle.session_ends.specs.Takings.{stores_of}
use Rattle.session_ends.proofs.EndLemmas.{has-ended}

abbrev pub AreTaken : ℕ → List Recording → Type 0
AreTaken place recorders = (i : ℕ) (r : Recording) → i < place → slice_get recorders i ≡ Some r → held_in r ≡ None

-- without a file and a store
abbrev pub emptied : Recording → Recording
emptied r = record r { tape = None; store = None }

pub held-none : (r : Recording) → held_in r ≡ None → emptied r ≡ r
held-none r none = go r.store r.tape none
  where
    go : (store : Option Stored) (tape : Option Tape) → held_or store tape ≡ None → emptied r ≡ record r { tape = tape; store = store }
    go store None h = ap (λ (s : Option Stored). record r { tape = None; store = s }) (sym h)
    go store (Some tape) h = absurd (none-some (stored_of tape) (sym h))

pub set-there : {X : Type 0} (xs : List X) (i : ℕ) (x : X) → slice_get xs i ≡ Some x → set xs i x ≡ xs
set-there [] i x e = absurd (none-some x e)
set-there (y ∷ xs) zero x e = ap (λ z. z ∷ xs) (sym (same_Some y x e))
set-there (y ∷ xs) (suc i) x e = ap (λ zs. y ∷ zs) (set-there xs i x e)

-- a recorder that holds none is as before when it was asked
pub taken-set : (recorders : List Recording) (place : ℕ) (r : Recording) → slice_get recorders place ≡ Some r → held_in r ≡ None → set recorders place (emptied r) ≡ recorders
taken-set recorders place r there none = ap (set recorders place) (held-none r none) ∙ set-there recorders place r there

pub taken-none : (recorders : List Recording) → AreTaken 0 recorders
taken-none recorders i r low = absurd (omega (arith, low))

pub taken-more : (recorders : List Recording) (place : ℕ) (r : Recording) → slice_get recorders place ≡ Some r → held_in r ≡ None → AreTaken place recorders → AreTaken (place + 1) recorders
taken-more recorders place r there none taken i other low is = go (cases_lt i place)
  where
    same : i ≡ place → held_in other ≡ None
    same e = subst (λ (x : Recording). held_in x ≡ None) (same_Some r other (sym there ∙ ap (slice_get recorders) (sym e) ∙ is)) none

    go : (i < place) ⊎ (place ≤ i) → held_in other ≡ None
    go (inl below) = taken i other below is
    go (inr high) = same (omega (arith, low, high))

pub taken-all : (recorders : List Recording) (place : ℕ) → length recorders ≤ place → AreTaken place recorders → stores_of recorders ≡ []
taken-all [] place all taken = refl
taken-all (r ∷ rs) zero all taken = absurd (omega (arith, all))
taken-all (r ∷ rs) (suc place) all taken =
    ap (λ (h : Option Stored). cons_option h (stores_of rs)) (taken 0 r (omega arith) refl) ∙ taken-all rs place (omega (arith, all)) (λ i other low is. taken (suc i) other (omega (arith, low)) is)

pub taken-one : (recorders : List Recording) (place : ℕ) (r : Recording) (back : Stored) → slice_get recorders place ≡ Some r → held_in r ≡ Some back → AreTaken place recorders → stores_of recorders ≡ back ∷ stores_of (set recorders place (emptied r))
taken-one [] place r back there held taken = absurd (none-some r there)
taken-one (x ∷ rs) zero r back there held taken = ap (λ (h : Option Stored). cons_option h (stores_of rs)) (ap held_in (same_Some x r there) ∙ held)
taken-one (x ∷ rs) (suc place) r back there held taken =
    ap (λ (h : Option Stored). cons_option h (stores_of rs)) none
    ∙ taken-one rs place r back there held (λ i other low is. taken (suc i) other (omega (arith, low)) is)
    ∙ ap (λ (h : Option Stored). back ∷ cons_option h (stores_of (set rs place (emptied r)))) (sym none)
  where
    none : held_in x ≡ None
    none = taken 0 x (omega arith) refl

pub taken-same : {Y : Type 0} (f : Recording → Y) (recorders : List Recording) (place : ℕ) (r : Recording) → f (emptied r) ≡ f r → slice_get recorders place ≡ Some r → map f (set recorders place (emptied r)) ≡ map f recorders
taken-same f [] place r same there = absurd (none-some r there)
taken-same f (x ∷ rs) zero r same there = ap (λ y. y ∷ map f rs) (same ∙ ap f (sym (same_Some x r there)))
taken-same f (x ∷ rs) (suc place) r same there = ap (λ ys. f x ∷ ys) (taken-same f rs place r same there)

-- ---- a session whose stores were taken

abbrev pub taken : Session → Option Tape → List Tape → Option (List ℕ) → List (Option (List ℕ)) → Session
taken session playback tapes playback_file record_files = record session { driver = record session.driver { playback = playback }; tapes = tapes; playback_file = playback_file; record_files = record_files }

meters-taken : (driver : Driver) (playback : Option Tape) (birth : ℕ) (command : Command) → meters_from (record driver { playback = playback }) birth command ≡ meters_from driver birth command
meters-taken driver playback birth (Open client Meter) = refl
meters-taken driver playback birth _ = refl

events-taken : (driver : Driver) (playback : Option Tape) (birth : ℕ) (command : Command) → events_from (record driver { playback = playback }) birth command ≡ events_from driver birth command
events-taken driver playback birth (Open client Midilog) = refl
events-taken driver playback birth _ = refl

module _ (session : Session) (playback : Option Tape) (tapes : List Tape) (playback_file : Option (List ℕ)) (record_files : List (Option (List ℕ))) where
  report-taken : report_in (taken session playback tapes playback_file record_files) ≡ report_in session
  report-taken i = record {
    calls = (report_in session).calls;
    cycles = (report_in session).cycles;
    meters = flat_map-same (λ (change : Change). meters_from (record session.driver { playback = playback }) change.number change.command) (λ (change : Change). meters_from session.driver change.number change.command)
        (λ change. meters-taken session.driver playback change.number change.command) (accepted session.desk.history) i;
    events = flat_map-same (λ (change : Change). events_from (record session.driver { playback = playback }) change.number change.command) (λ (change : Change). events_from session.driver change.number change.command)
        (λ change. events-taken session.driver playback change.number change.command) (accepted session.desk.history) i;
    recorders = (report_in session).recorders;
    disks = (report_in session).disks;
  }

  pub text-taken : text_in (taken session playback tapes playback_file record_files) ≡ text_in session
  text-taken = ap (λ (report : Report). flat_map (λ text. text) (report_lines report)) report-taken

  one-taken : IsOne session → IsOne (taken session playback tapes playback_file record_files)
  one-taken one = record {
    lawful = one.lawful;
    desk_script = one.desk_script;
    driver_script = one.driver_script;
    desk = one.desk;
    table = one.table;
    base = one.base;
    rows = record { cycles = one.rows.cycles; numbers = one.rows.numbers; last = one.rows.last; place = one.rows.place; base = one.rows.base };
    rings = record {
      recorders = one.rings.recorders;
      disks = one.rings.disks;
      puts = one.rings.puts;
      gets = one.rings.gets;
      own_disks = one.rings.own_disks;
      own = λ recorder ring there. let own = one.rings.own recorder ring there in record { samples = own.samples; most = own.most; items = own.items };
    };
    own_recorders = one.own_recorders;
    own_disks = one.own_disks;
    capacity = one.capacity;
    recorder_ends = one.recorder_ends;
    recorder_pairs = one.recorder_pairs;
    disk_ends = one.disk_ends;
    disk_pairs = one.disk_pairs;
  }

  pub ran-taken : (done : ℕ) → RanPhases session done → RanPhases (taken session playback tapes playback_file record_files) done
  ran-taken done ran = record {
    one = one-taken ran.one;
    phase = ran.phase;
    used = ran.used;
    cycles = ran.cycles;
    met = record { met = ran.met.met; reader = ran.met.reader; publisher = ran.met.publisher };
    rising = ran.rising;
    within = ran.within;
    misses = record { overruns = ran.misses.overruns; underruns = ran.misses.underruns };
  }

-- ---- of its parts the playback and the recorders' files and stores were taken

module _ (sounding : Score → Sound) (parts after : Parts) (gear : after.gear ≡ record parts.gear { playback = None }) (desk : after.desk ≡ parts.desk)
    (getting : map (λ (r : Recording). r.getting) after.recorders ≡ map (λ (r : Recording). r.getting) parts.recorders)
    (blocks : map (λ (r : Recording). r.blocks) after.recorders ≡ map (λ (r : Recording). r.blocks) parts.recorders) (players : after.players ≡ parts.players) where
  pub session-taken : session_of sounding after ≡ taken (session_of sounding parts) None (session_of sounding after).tapes (session_of sounding after).playback_file (session_of sounding after).record_files
  session-taken =
      ap (λ (g : Gear). record (session_of sounding after) { script = g.script; driver = driver_of sounding g }) gear
      ∙ ap (λ (d : Desk). record (session_of sounding after) { script = parts.gear.script; driver = driver_of sounding (record parts.gear { playback = None }); desk = d }) desk
      ∙ ap₂ (λ (got : List Getting) (counts : List ℕ). record (session_of sounding after) { script = parts.gear.script; driver = driver_of sounding (record parts.gear { playback = None }); desk = parts.desk; getting = got; counts = counts }) getting blocks
      ∙ ap (λ (ps : List Playing). record (session_of sounding after) { script = parts.gear.script; driver = driver_of sounding (record parts.gear { playback = None }); desk = parts.desk; getting = map (λ (r : Recording). r.getting) parts.recorders; counts = map (λ (r : Recording). r.blocks) parts.recorders; players = ps }) players

  pub report-stays : text_in (session_of sounding after) ≡ text_in (session_of sounding parts)
  report-stays = ap text_in session-taken ∙ text-taken (session_of sounding parts) None (session_of sounding after).tapes (session_of sounding after).playback_file (session_of sounding after).record_files

  pub ended-stays : HasEnded sounding parts → HasEnded sounding after
  ended-stays ended =
      has-ended sounding parts after ended.served ended.sound (ap (λ (g : Gear). g.script) gear) (ap (λ (g : Gear). g.failed) gear)
      (subst (λ (s : Session). RanPhases s (length (phases parts.gear.script))) (sym session-taken)
      (ran-taken (session_of sounding parts) None (session_of sounding after).tapes (session_of sounding after).playback_file (session_of sounding after).record_files (length (phases parts.gear.script)) ended.ran))

pub stores-rest : (parts : Parts) → parts.playback ≡ None → parts.gear.playback ≡ None → stores_in parts ≡ stores_of parts.recorders
stores-rest parts kept gear = ap (λ (h : Option Stored). cons_option h (stores_of parts.recorders)) (ap₂ held_or kept gear)

-- the first of a list, and what is left behind it
pub removed-first : {X : Type 0} (xs after : List X) (x : X) → 0 < length xs → x ≡ get_or xs 0 x → after ≡ remove xs 0 → xs ≡ x ∷ after
removed-first [] after x some is rest = absurd (omega (arith, some))
removed-first {X} (y ∷ xs) after x some is rest = ap₂ (λ (z : X) (zs : List X). z ∷ zs) (sym is) (sym rest)

pub if-none : {X : Type 0} (o : Option X) (P Q : Type 0) → (P → Q) → IfNone o P → IfNone o Q
if-none None P Q follows holds = follows holds
if-none (Some x) P Q follows holds = tt
