-- Events' lines, log by log.
--     event-same, same-event      the test of a line
--     behind-none, behind-one, behind-all      a log's lines, one after the other
--     departs, departs-other      the first that is not right, or missing
--     IsLoggedTo sounding changes walking rows at place      the first changes' logs are those of the first lines
--     logged-none, logged-other, logged-one      of no change, and of one more: it opens no log, or one whose lines follow
--     events-all      of all
--     event-wrong, event-more      the first line that is not right: in a log, or behind all of them
use Rattle.std.proofs.Common.{◌≡◌, ◌≢◌, ℕ, ◌+◌, ◌<◌, ◌≤◌, Bool, true, false, ◌&&◌, ◌==◌, eqb-true, eq-eqb, List, [], ◌∷◌, ◌++◌, length, map, take, slice_get, Option, Some, None, refl, sym, ◌∙◌, ap, ap₂, option_map, subst, arith, append-nil, append_assoc, true≢false}
use Rattle.std.specs.Str.{bytes_eq}
use Rattle.std.proofs.lemmas.List.{take_all, take_more}
use Rattle.jack_types.specs.declared.commands.Change.{Change}
use Rattle.jack_types.specs.declared.commands.Command.{Command}
use Rattle.jack_types.specs.declared.commands.Command.TheVariants.{Open}
use Rattle.jack_types.specs.declared.events.Event.{Event}
use Rattle.jack_types.specs.declared.events.Logged.{Logged}
use Rattle.jack_types.specs.declared.kinds.Kind.TheVariants.{Midilog}
use Rattle.grammar_laws.proofs.GrammarReaders.{bytes-same, bytes-self}
use Rattle.session_laws.proofs.LoopLemmas.{and_parts}
use Rattle.check_model.specs.Checking.{IsFirstNot, SameAt}
use Rattle.session_model.specs.Courses.{Course}
use Rattle.session_model.specs.Reports.{PrintedEvent, events_by, last_log}
use Rattle.session_model.specs.Kinds.{Sound}
use Rattle.client_kinds.specs.Scores.{Score}
use Rattle.report_reader.specs.Forms.{printed_event}
use Rattle.report_reader.specs.declared.rows.EventLine.{EventLine}
use Rattle.check_laws.proofs.PlaceLists.{get-of, length-map, none-some, slice-inside, slice-map, slice-past, some-same}
use Rattle.check_walk.specs.Walkings.{Walking}
use Rattle.session_check.specs.Logs.{DepartsAt, GoesBehind, events_in, events_of, is_event, log_in}
use Rattle.session_check.proofs.JoinedLemmas.{front-within, joined-next, next-within, none-in, not-none, same-front}
use Rattle.session_check.proofs.MeterLemmas.{IsBehind}

-- ---- the test of a line

abbrev event_at : List ℕ → Logged → PrintedEvent
event_at client logged = record { client = client; logged = logged }

pub event-same : (row : EventLine) (client : List ℕ) (logged : Logged) → is_event row client logged ≡ true → printed_event row ≡ event_at client logged
event-same row client logged e = λ k. record {
  client = client_is k;
  logged = record { cycle = cycle_is k; event = record { offset = offset_is k; size = size_is k; bytes = record { 0 = bytes_are k } } };
}
  where
    parts : (bytes_eq row.client client ≡ true) × (((row.cycle == logged.cycle) && ((row.offset == logged.event.offset) && ((row.event.size == logged.event.size) && bytes_eq row.event.bytes.0 logged.event.bytes.0))) ≡ true)
    parts = and_parts (bytes_eq row.client client) ((row.cycle == logged.cycle) && ((row.offset == logged.event.offset) && ((row.event.size == logged.event.size) && bytes_eq row.event.bytes.0 logged.event.bytes.0))) e

    cycles : ((row.cycle == logged.cycle) ≡ true) × (((row.offset == logged.event.offset) && ((row.event.size == logged.event.size) && bytes_eq row.event.bytes.0 logged.event.bytes.0)) ≡ true)
    cycles = and_parts (row.cycle == logged.cycle) ((row.offset == logged.event.offset) && ((row.event.size == logged.event.size) && bytes_eq row.event.bytes.0 logged.event.bytes.0)) parts.1

    offsets : ((row.offset == logged.event.offset) ≡ true) × (((row.event.size == logged.event.size) && bytes_eq row.event.bytes.0 logged.event.bytes.0) ≡ true)
    offsets = and_parts (row.offset == logged.event.offset) ((row.event.size == logged.event.size) && bytes_eq row.event.bytes.0 logged.event.bytes.0) cycles.1

    sizes : ((row.event.size == logged.event.size) ≡ true) × (bytes_eq row.event.bytes.0 logged.event.bytes.0 ≡ true)
    sizes = and_parts (row.event.size == logged.event.size) (bytes_eq row.event.bytes.0 logged.event.bytes.0) offsets.1

    client_is : row.client ≡ client
    client_is = bytes-same row.client client parts.0

    cycle_is : row.cycle ≡ logged.cycle
    cycle_is = eqb-true row.cycle logged.cycle cycles.0

    offset_is : row.offset ≡ logged.event.offset
    offset_is = eqb-true row.offset logged.event.offset offsets.0

    size_is : row.event.size ≡ logged.event.size
    size_is = eqb-true row.event.size logged.event.size sizes.0

    bytes_are : row.event.bytes.0 ≡ logged.event.bytes.0
    bytes_are = bytes-same row.event.bytes.0 logged.event.bytes.0 sizes.1

pub same-event : (row : EventLine) (client : List ℕ) (logged : Logged) → printed_event row ≡ event_at client logged → is_event row client logged ≡ true
same-event row client logged e =
    ap₂ (λ p q. p && q) (subst (λ x. bytes_eq row.client x ≡ true) (ap (λ (p : PrintedEvent). p.client) e) (bytes-self row.client))
    (ap₂ (λ p q. p && q) (eq-eqb row.cycle logged.cycle (ap (λ (p : PrintedEvent). p.logged.cycle) e))
    (ap₂ (λ p q. p && q) (eq-eqb row.offset logged.event.offset (ap (λ (p : PrintedEvent). p.logged.event.offset) e))
    (ap₂ (λ p q. p && q) (eq-eqb row.event.size logged.event.size (ap (λ (p : PrintedEvent). p.logged.event.size) e))
    (subst (λ x. bytes_eq row.event.bytes.0 x ≡ true) (ap (λ (p : PrintedEvent). p.logged.event.bytes.0) e) (bytes-self row.event.bytes.0)))))

-- ---- one log

take-next : {X : Type 0} (xs : List X) (n : ℕ) (x : X) → slice_get xs n ≡ Some x → take (n + 1) xs ≡ take n xs ++ x ∷ []
take-next xs n x here = take_more xs n x (slice-inside xs n x here) ∙ ap (λ y. take n xs ++ y ∷ []) (get-of xs n x x here)

module _ (client : List ℕ) (log : List Logged) (rows : List EventLine) (place : ℕ) where
  abbrev printed : List PrintedEvent
  printed = map printed_event rows

  -- the first lines of the log follow
  pub record IsBehindTo (at next : ℕ) : Type 0 where
    pub next_is : next ≡ place + at
    pub low : next ≤ length rows
    pub same : take next printed ≡ take place printed ++ take at (events_of client log)

  pub behind-none : place ≤ length rows → IsBehindTo 0 place
  behind-none low = record { next_is = omega arith; low = low; same = sym (append-nil (take place printed)) }

  pub behind-one : (at next : ℕ) (row : EventLine) (logged : Logged) → IsBehindTo at next → slice_get rows next ≡ Some row → slice_get log at ≡ Some logged → is_event row client logged ≡ true → IsBehindTo (at + 1) (next + 1)
  behind-one at next row logged so_far there here told = record {
    next_is = let next_is = so_far.next_is in omega (arith, next_is);
    low = let low = slice-inside rows next row there in omega (arith, low);
    same =
        take-next printed next (printed_event row) (slice-map printed_event rows next ∙ ap (option_map printed_event) there)
        ∙ ap₂ (λ xs event. xs ++ event ∷ []) so_far.same (event-same row client logged told)
        ∙ append_assoc (take place printed) (take at (events_of client log)) (event_at client logged ∷ [])
        ∙ ap (λ xs. take place printed ++ xs) (sym (take-next (events_of client log) at (event_at client logged) (slice-map (event_at client) log at ∙ ap (option_map (event_at client)) here)));
  }

  pub behind-all : (at next : ℕ) → length log ≤ at → IsBehindTo at next → GoesBehind printed place (events_of client log) next
  behind-all at next past so_far = record {
    low = subst (λ n. next ≤ n) (sym (length-map printed_event rows)) so_far.low;
    same = so_far.same ∙ ap (λ xs. take place printed ++ xs) (take_all at (events_of client log) (subst (λ n. n ≤ at) (sym (length-map (event_at client) log)) past));
  }

  -- a line is missing, or another one
  pub departs : (at next : ℕ) (logged : Logged) → IsBehindTo at next → slice_get log at ≡ Some logged → ((row : EventLine) → slice_get rows next ≡ Some row → is_event row client logged ≡ false) → DepartsAt printed place (events_of client log) next
  departs at next logged so_far here other = record {
    i = at;
    event = event_at client logged;
    there = slice-map (event_at client) log at ∙ ap (option_map (event_at client)) here;
    at_is = so_far.next_is;
    low = subst (λ n. next ≤ n) (sym (length-map printed_event rows)) so_far.low;
    same = so_far.same;
    differs = λ e. at-row (slice_get rows next) refl (sym (slice-map printed_event rows next) ∙ e);
  }
    where
      at-row : (found : Option EventLine) → slice_get rows next ≡ found → option_map printed_event found ≡ Some (event_at client logged) → ⊥
      at-row None there e = none-some (event_at client logged) e
      at-row (Some row) there e = true≢false (sym (same-event row client logged (some-same (printed_event row) (event_at client logged) e)) ∙ other row there)

  pub departs-other : (at next : ℕ) (row : EventLine) (logged : Logged) → IsBehindTo at next → slice_get rows next ≡ Some row → slice_get log at ≡ Some logged → is_event row client logged ≡ false → DepartsAt printed place (events_of client log) next
  departs-other at next row logged so_far there here off = departs at next logged so_far here (λ other found. subst (λ (r : EventLine). is_event r client logged ≡ false) (some-same row other (sym there ∙ found)) off)

-- ---- all logs

pub record IsLoggedTo (sounding : Score → Sound) (changes : List Change) (walking : Walking) (rows : List EventLine) (at place : ℕ) : Type 0 where
  pub low : place ≤ length rows
  pub same : (course : Course) → IsBehind sounding walking course → take place (map printed_event rows) ≡ events_in course (take at changes)

-- the events' lines of a command
events-other : (course : Course) (change : Change) → log_in change.command ≡ None → events_by course change.number change.command ≡ []
events-other course change none = by change.command none
  where
    by : (command : Command) → log_in command ≡ None → events_by course change.number command ≡ []
    by (Open client Midilog) none = absurd (none-some client (sym none))
    by _ none = refl

events-one : (course : Course) (change : Change) (client : List ℕ) → log_in change.command ≡ Some client → events_by course change.number change.command ≡ events_of client (last_log course change.number)
events-one course change client some = by change.command some
  where
    by : (command : Command) → log_in command ≡ Some client → events_by course change.number command ≡ events_of client (last_log course change.number)
    by (Open other Midilog) some = ap (λ (name : List ℕ). events_of name (last_log course change.number)) (some-same other client some)
    by _ some = absurd (none-some client some)

module _ (sounding : Score → Sound) (changes : List Change) (walking : Walking) (rows : List EventLine) where
  abbrev lines : List PrintedEvent
  lines = map printed_event rows

  abbrev by_change : Course → Change → List PrintedEvent
  by_change course change = events_by course change.number change.command

  pub logged-none : IsLoggedTo sounding changes walking rows 0 0
  logged-none = record { low = omega arith; same = λ course behind. refl }

  module _ (at place : ℕ) (change : Change) (so_far : IsLoggedTo sounding changes walking rows at place) (here : slice_get changes at ≡ Some change) where
    low-lines : place ≤ length lines
    low-lines = subst (λ n. place ≤ n) (sym (length-map printed_event rows)) so_far.low

    pub logged-other : log_in change.command ≡ None → IsLoggedTo sounding changes walking rows (at + 1) place
    logged-other none = record {
      low = so_far.low;
      same = λ course behind.
          so_far.same course behind
          ∙ sym (joined-next (by_change course) changes at change here
          ∙ ap (λ es. events_in course (take at changes) ++ es) (events-other course change none)
          ∙ append-nil (events_in course (take at changes)));
    }

    module _ (client : List ℕ) (some : log_in change.command ≡ Some client) (log : List Logged) (log_is : (course : Course) → IsBehind sounding walking course → log ≡ last_log course change.number) where
      one-of : (course : Course) → IsBehind sounding walking course → events_of client log ≡ by_change course change
      one-of course behind = ap (events_of client) (log_is course behind) ∙ sym (events-one course change client some)

      pub logged-one : (next : ℕ) → GoesBehind lines place (events_of client log) next → IsLoggedTo sounding changes walking rows (at + 1) next
      logged-one next goes = record {
        low = subst (λ n. next ≤ n) (length-map printed_event rows) goes.low;
        same = λ course behind.
            goes.same
            ∙ ap₂ (λ xs es. xs ++ es) (so_far.same course behind) (one-of course behind)
            ∙ sym (joined-next (by_change course) changes at change here);
      }

      pub event-wrong : ((xs ys : List PrintedEvent) (n : ℕ) → take n xs ≡ take n ys → slice_get xs n ≢ slice_get ys n → IsFirstNot (SameAt xs ys) (n + 1))
          → (next : ℕ) → DepartsAt lines place (events_of client log) next → (course : Course) → IsBehind sounding walking course → IsFirstNot (SameAt lines (events_in course changes)) (next + 1)
      event-wrong first next departs course behind =
          first lines (events_in course changes) next
          (front-within (by_change course) changes at place lines low-lines (so_far.same course behind) change here departs.i next departs.at_is few
          (departs.same ∙ ap (λ es. take place lines ++ take departs.i es) (one-of course behind)))
          (λ e. departs.differs (e ∙ next-within (by_change course) changes at place lines low-lines (so_far.same course behind) change here departs.i next departs.at_is departs.event there))
        where
          there : slice_get (by_change course change) departs.i ≡ Some departs.event
          there = subst (λ es. slice_get es departs.i ≡ Some departs.event) (one-of course behind) departs.there

          few : departs.i ≤ length (by_change course change)
          few = let inside = slice-inside (by_change course change) departs.i departs.event there in omega (arith, inside)

  module _ (at place : ℕ) (so_far : IsLoggedTo sounding changes walking rows at place) (all : length changes ≤ at) where
    -- no log is left
    pub event-more : ((xs ys : List PrintedEvent) (n : ℕ) → take n xs ≡ take n ys → slice_get xs n ≢ slice_get ys n → IsFirstNot (SameAt xs ys) (n + 1))
        → place < length rows → (course : Course) → IsBehind sounding walking course → IsFirstNot (SameAt lines (events_in course changes)) (place + 1)
    event-more first more course behind =
        first lines (events_in course changes) place
        (same-front (by_change course) changes at place lines low (so_far.same course behind))
        (λ e. absurd (there (e ∙ none-in (by_change course) changes at place lines low (so_far.same course behind) all)))
      where
        low : place ≤ length lines
        low = subst (λ n. place ≤ n) (sym (length-map printed_event rows)) so_far.low

        there : slice_get lines place ≡ None → ⊥
        there none = not-none lines place (subst (λ n. place < n) (sym (length-map printed_event rows)) more) none

    pub events-all : length rows ≤ place → (course : Course) → IsBehind sounding walking course → lines ≡ events_in course changes
    events-all past course behind =
        sym (take_all place lines (subst (λ n. n ≤ place) (sym (length-map printed_event rows)) past)) ∙ so_far.same course behind ∙ ap (events_in course) (take_all at changes all)
