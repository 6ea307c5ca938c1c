-- One cycle that can be: a script connects the capture to the playback and runs once.
--     a_cycle      it is a whole cycle, in the driver's own terms
--     a_course, a_kept      a course fits behind it, and is kept
--     a_playback      its playback gets the capture's first samples
use Rattle.std.proofs.Common.{◌≡◌, ℕ, zero, suc, ◌<◌, false, ◌==◌, ◌⊎◌, inl, inr, List, [], ◌∷◌, drop, take, slice_get, get_or, All, Contains, ℤ, pos, codes, Some, None, Option, option_map, refl, sym, ◌∙◌, ap, subst, arith, true≢false}
use Rattle.std.specs.Fmt.{digits}
use Rattle.std.specs.List.{list_any}
use Rattle.std.proofs.lemmas.List.{get_or_past}
use Rattle.std.proofs.lemmas.List.Elements.{All-cons, All-nil}
use Rattle.std.proofs.lemmas.Option.{none-some}
use Rattle.atomic_table.specs.Seated.{TableId}
use Rattle.record_ring.specs.jack_types.specs.declared.commands.Call.{Call}
use Rattle.record_ring.specs.jack_types.specs.declared.commands.Change.{Change}
use Rattle.record_ring.specs.jack_types.specs.declared.commands.Command.{Command}
use Rattle.record_ring.specs.jack_types.specs.declared.commands.Command.TheVariants.{Connect}
use Rattle.record_ring.specs.jack_types.specs.declared.moments.TransportState.TheVariants.{Stopped}
use Rattle.record_ring.specs.jack_types.specs.declared.replies.Underrun.{Underrun}
use Rattle.record_ring.specs.jack_types.specs.declared.scripts.Body.TheVariants.{Do, Run}
use Rattle.record_ring.specs.session_model.specs.Benches.{no_bench, IsPlan}
use Rattle.record_ring.specs.session_model.specs.Courses.{Course}
use Rattle.record_ring.specs.session_model.specs.Scripts.{Script}
use Rattle.record_ring.specs.session_model.specs.State.{OpenClient, system_client}
use Rattle.record_ring.specs.session_model.specs.Transport.{first_row}
use Rattle.cycle_plan.specs.session_laws.proofs.LoopLemmas.{Contains-cases}
use Rattle.cycle_plan.specs.graph_word.specs.declared.view.TakenRow.{TakenRow}
use Rattle.cycle_plan.specs.graph_word.specs.Publications.{Reading}
use Rattle.record_ring.specs.driver_words.specs.Tapes.{Tape, SameFile}
use Rattle.driver_laws.specs.Drivers.{Driver, graph_now}
use Rattle.driver_laws.specs.Keeping.{Fits, Keeps}
use Rattle.driver_laws.specs.Cycling.{CyclesOnce, StepsOnce, WritesOnce, Written}
use Rattle.driver_laws.specs.Openings.{IsNew}
use Rattle.driver_laws.specs.Playing.{PlaysOwn, played_now}
use Rattle.driver_laws.proofs.CycleLemmas.{CyclesOnce-own}
use Rattle.driver_laws.proofs.OpeningLemmas.{Keeps-none}
use Rattle.driver_laws.proofs.PlaceLemmas.{none_below}
use Rattle.driver_laws.proofs.TapeLemmas.{IsOneOfEach}

-- channel 1 of the capture to channel 1 of the playback, and one cycle of four frames
abbrev joining : Command
joining = Connect (codes "system:capture_1") (codes "system:playback_1")

abbrev script_of : Script
script_of = record {
  header = record { version = 1; rate = 48000; period = 4; capture = 1; playback = 1; bits = 16; threads = None; steal = false; ring = 16; drain = 4; fill = 4; recorders = []; disks = [] };
  events = [];
  lines = Do joining ∷ Run 1 ∷ [];
}

abbrev samples : List ℤ
samples = pos 1000 ∷ pos 2000 ∷ pos 3000 ∷ pos 4000 ∷ pos 5000 ∷ []

abbrev content : List Change
content = record { number = 1; command = joining } ∷ []

abbrev pub course_of : Course
course_of = record { script = script_of; capture = samples; disks = []; scores = []; changes = content; numbers = 1 ∷ []; underruns = [] }

-- a file whose store tells nothing
abbrev tape_of : ℕ → Tape
tape_of written = record { format = record { rate = 48000; channels = 1; bits = 16 }; name = None; bytes = None; faults = 0; written = written; stopped = false }

SameFile-of : (tape other : Tape) → Some (tape_of 0) ≡ Some tape → Some (tape_of 8) ≡ Some other → SameFile tape other
SameFile-of tape other e f = subst (λ t. SameFile t other) (same e) (subst (λ t. SameFile (tape_of 0) t) (same f) (record { format = refl; name = refl; tells = refl; later = omega arith }))
  where
    same : {a b : Tape} → Some a ≡ Some b → a ≡ b
    same p = cc

module _ (table : TableId) where
  -- the reader before the cycle's take
  abbrev opening : Reading
  opening = record { table = table; base = record { capture = 1; playback = 1 }; held = []; reads = []; rows = []; least = 0 }

  abbrev driver : Driver
  driver = record {
    script = script_of;
    scores = [];
    reading = opening;
    content = [];
    left = Some samples;
    numbers = [];
    moments = [];
    transport = first_row;
    overruns = [];
    underruns = [];
    rings = [];
    sent = [];
    disks = [];
    played = [];
    playback = None;
    set = 4;
    failed = false;
    nodes = [];
    benches = [];
    memories = [];
  }

  -- with a playback that is attached
  abbrev pub before : Driver
  before = record driver { playback = Some (tape_of 0) }

  abbrev taken_of : Reading
  taken_of = record opening { held = content; reads = 1 ∷ 1 ∷ []; least = 1 }

  abbrev pub after : Driver
  after = record before {
    reading = record taken_of { rows = record { cycle = 1; changes = content } ∷ [] };
    content = content;
    left = Some (pos 5000 ∷ []);
    numbers = 1 ∷ [];
    moments = record { cycle = 1; state = Stopped; frame = 0; rate = 48000; bbt = None } ∷ [];
    transport = record { state = Stopped; frame = 0; wait = 0; target = None; period = 4 };
    playback = Some (tape_of 8);
  }

  steps : StepsOnce before after
  unfolding digits
  steps = record {
    taken = taken_of;
    number = 1;
    takes = record { earlier = 1 ∷ []; one_more = omega arith; newer = All-cons (λ number. 0 < number) 1 [] (omega arith) (All-nil (λ number. 0 < number)); stays = λ none. absurd (cc); reads = refl; number = refl; least = omega arith; front = refl; same = refl };
    begins = record { after_is = refl };
    numbers = refl;
    transport = λ of_calls. refl;
    moments = refl;
    rings = λ recorder ring ring_after here there. absurd (none-some ring here);
    as_many = refl;
    overruns = [];
    more_overruns = refl;
    overruns_now = λ k d h. absurd (none_below h);
    disks = λ disk got got_after here there. absurd (none-some got here);
    as_many_disks = refl;
    underruns = [];
    more_underruns = refl;
    underruns_now = λ k d h. absurd (none_below h);
    left = λ left told. ap (λ (left : Option (List ℤ)). option_map (drop 4) left) told;
    own_rows = record { cycles = refl; numbers = refl; last = refl; place = refl; base = refl };
    own_rings = record { recorders = refl; disks = refl; puts = refl; gets = refl; own = λ recorder ring here. absurd (none-some ring here); own_disks = λ disk got here. absurd (none-some got here) };
    script = refl;
    scores = refl;
    set = refl;
  }

  writes : WritesOnce before after
  writes = record {
    unwritten = λ e. absurd (true≢false (sym e));
    playback = record { tape = tape_of 8; attached = refl; going = refl };
    file = SameFile-of;
    failed = refl;
  }

  -- nobody plays but the capture and the playback
  plan : IsPlan (graph_now after) [] []
  unfolding digits
  plan = record {
    placed = λ n h. absurd (none_below h);
    named = λ n h. absurd (none_below h);
    born = λ n h. absurd (none_below h);
    every = λ client member. member;
    fewer = omega arith;
    upward = record { upward = λ k d h. absurd (none_below h); within = λ k d h. absurd (none_below h); distinct = λ i j d p q. absurd (none_below q) };
    joined = λ edge a b member mark from to. absurd (none-some a from);
  }

  own : PlaysOwn before after samples
  unfolding digits
  own = record {
    period = refl;
    full = λ disk h. absurd (none_below h);
    transport = refl;
    moments = refl;
    links = [];
    before = λ n. no_bench;
    plan = plan;
    ready = record { task = λ n h. absurd (none_below h); memory = λ n h. absurd (none_below h) };
    played = λ n h. absurd (none_below h);
    remembered = λ n h. absurd (none_below h);
    others = λ birth none. refl;
  }

  -- what the playback gets
  pub a_playback : played_now before after samples ≡ pos 1000 ∷ pos 2000 ∷ pos 3000 ∷ pos 4000 ∷ []
  unfolding digits
  a_playback = refl

  one : IsOneOfEach (graph_now after)
  unfolding digits
  one a b p q h = sym (only a p) ∙ only b q
    where
      only : (client : OpenClient) → Contains (system_client ∷ []) client → system_client ≡ client
      only client m = go (Contains-cases system_client client [] m)
        where
          go : (system_client ≡ client) ⊎ Contains [] client → system_client ≡ client
          go (inl e) = e
          go (inr k) = absurd (none_below k.1)

  pub a_cycle : CyclesOnce before after
  a_cycle = CyclesOnce-own before after steps one writes (λ left course fits keeps told. subst (λ xs. PlaysOwn before after xs × Written before after (played_now before after xs)) (same told) (own, λ e xs has. record { going = refl; bytes = tt }))
    where
      same : {xs ys : List ℤ} → Some xs ≡ Some ys → xs ≡ ys
      same p = cc

  -- a course that fits behind it
  pub a_course : Fits after course_of
  a_course = record {
    script = refl;
    scores = refl;
    channels = refl;
    of_calls = record { calls = record { lane = 0; index = 1; command = joining } ∷ []; commands = refl; planned_ones = planned_one; once = (λ y m e. none_below m.1, tt) };
    numbers = refl;
    rows = rows;
    underruns = λ disk k low. ap (λ us. list_any (λ (u : Underrun). u.cycle == k) us) (get_or_past [] disk [] (omega arith));
    disks = λ disk got here. absurd (none-some got here);
  }
    where
      planned_one : All {X = Call} (Contains {X = Call} (record { lane = 0; index = 1; command = joining } ∷ [])) (record { lane = 0; index = 1; command = joining } ∷ [])
      planned_one zero d h = (0, omega arith, refl)
      planned_one (suc k) d h = absurd (omega (arith, h))

      rows : (k : ℕ) (taken : TakenRow) → slice_get (record { cycle = 1; changes = content } ∷ []) k ≡ Some taken → taken.changes ≡ take (get_or (1 ∷ []) k 0) content
      rows zero taken e = ap (λ (t : TakenRow). t.changes) (sym (same e))
        where
          same : {a b : TakenRow} → Some a ≡ Some b → a ≡ b
          same p = cc
      rows (suc k) taken e = absurd (none-some taken e)

  new : IsNew script_of [] driver
  new = record {
    script_is = refl;
    scores_are = refl;
    rows = refl;
    numbers = refl;
    moments = refl;
    transport = refl;
    overruns = refl;
    underruns = refl;
    as_many = refl;
    rings = λ k d h. absurd (none_below h);
    own_rings = λ recorder ring here. absurd (none-some ring here);
    own_disks = λ disk got here. absurd (none-some got here);
    sent = refl;
    as_many_disks = refl;
    disks = λ k d h. absurd (none_below h);
    played = refl;
    playback = refl;
    set = refl;
    failed = refl;
    nodes = refl;
    memories = refl;
    content = refl;
  }

  kept_before : Keeps before course_of
  kept_before =
      let kept : Keeps driver course_of = Keeps-none script_of [] driver new course_of refl refl in
      record {
        moments = kept.moments;
        transport = kept.transport;
        rings = kept.rings;
        disks = kept.disks;
        left = kept.left;
        playback = record { going = refl; bytes = tt };
        driven = kept.driven;
      }

  -- and the driver keeps it
  pub a_kept : Keeps after course_of
  a_kept = a_cycle.keeps course_of a_course kept_before
