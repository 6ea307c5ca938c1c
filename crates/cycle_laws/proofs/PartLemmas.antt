-- Behind a cycle the parts of a driver are as before it.
--     kinds-is, guests-are, stands-is, staffed-is      who has which bench
--     logs-are      who has no memory has no log
--     IsGear-turned      they are made for the script, and stand behind the same cycles
use Rattle.std.proofs.Common.{◌≡◌, ℕ, ◌+◌, ◌*◌, ◌<◌, ◌≤◌, Bool, true, false, List, [], get_or, length, map, All, None, refl, sym, ◌∙◌, ap, ap₂, subst, arith, add-mul, length-append}
use Rattle.std.proofs.lemmas.List.{length_push}
use Rattle.std.proofs.lemmas.List.Sorted.{IsPermutation-trans}
use Rattle.std.specs.List.Sorted.{IsPermutation}
use Rattle.jack_types.specs.declared.files.Format.{Format}
use Rattle.jack_types.specs.declared.kinds.Kind.{Kind}
use Rattle.jack_types.specs.declared.moments.Moment.{Moment}
use Rattle.session_model.specs.Benches.{node_at}
use Rattle.session_model.specs.Grammar.{IsScript}
use Rattle.session_model.specs.Scripts.{Script, turns}
use Rattle.session_model.specs.Kinds.{Sound}
use Rattle.client_kinds.specs.Scores.{Score}
use Rattle.port_registry.specs.Registered.{open_clients}
use Rattle.graph_word.specs.declared.plans.Base.{Base}
use Rattle.plan_transport.specs.cycle_plan.specs.Plans.{Planned}
use Rattle.graph_word.specs.Publications.{IsFront}
use Rattle.transport.specs.Standings.{Standing}
use Rattle.plan_transport.specs.driver_laws.specs.Cycling.{MayCycle}
use Rattle.plan_transport.specs.driver_laws.specs.Drivers.{greatest_period, overruns_on, turn_of}
use Rattle.plan_transport.specs.driver_laws.specs.Keeping.{AreOfCalls}
use Rattle.driver_words.specs.Feeding.{AreUpTo, Fed}
use Rattle.driver_words.specs.Hearings.{log_at}
use Rattle.midi_wiring.specs.Hearings.{AreCarried}
use Rattle.client_seats.specs.Moves.{kinds_of}
use Rattle.client_seats.specs.Seatings.{IsRefused, memory_of}
use Rattle.cycle_blocks.specs.recorder_rings.specs.Sending.{Sent, channels_at, no_ring, ring_at}
use Rattle.script_needs.specs.task_laws.specs.Calls.{guests_needed, open_kinds}
use Rattle.play_laws.specs.Plays.{PerformsPlan, StandsOn}
use Rattle.cycle_blocks.specs.Blocks.{block_by, is_taped}
use Rattle.cycle_laws.specs.Gears.{AreDisks, Gear, IsGear, IsInStep, driver_of}
use Rattle.cycle_laws.specs.Turnings.{Turns}
use Rattle.cycle_laws.proofs.FrontLemmas.{AreOfCalls-last}
use Rattle.cycle_laws.proofs.RingLemmas.{grows}
use Rattle.cycle_laws.proofs.RowLemmas.{taken-base}
use Rattle.cycle_laws.proofs.SendLemmas.{sent-next}
use Rattle.cycle_laws.proofs.StepLemmas.{frames-is}

-- at most one overrun more at each recorder, or one underrun at each disk
overruns-next : (overruns more recorders cycles : ℕ) → overruns ≤ cycles * recorders → more ≤ recorders → overruns + more ≤ (cycles + 1) * recorders
overruns-next overruns more recorders cycles so_far few = let next : (cycles + 1) * recorders ≡ cycles * recorders + 1 * recorders = add-mul cycles 1 recorders in omega (arith, so_far, few, next)

module _ (sounding : Score → Sound) (freewheel : Bool) (before after : Gear) (plan : Planned) (moment : Moment) (is : IsGear sounding before) (may : MayCycle (driver_of sounding before) freewheel) (turned : Turns sounding freewheel before plan moment after) where
  size : length after.numbers ≡ length before.numbers + 1
  size = ap length turned.numbers ∙ length_push before.numbers turned.number

  -- what is told of the script is told of it behind the cycle
  script-back : {X : Type 0} (f : Script → X) → f before.script ≡ f after.script
  script-back f = ap f (sym turned.script)

  base-is : after.stage.plan.base ≡ record { capture = after.script.header.capture; playback = after.script.header.playback }
  base-is =
      ap (λ (p : Planned). p.base) turned.plan_is
      ∙ turned.base
      ∙ taken-base (driver_of sounding before) (driver_of sounding after) turned.number turned.taken turned.takes turned.begins
      ∙ may.rows.base
      ∙ script-back {X = Base} (λ (s : Script). record { capture = s.header.capture; playback = s.header.playback })

  pub kinds-is : IsPermutation (open_kinds after.script) (kinds_of after.stage.staged.racked)
  kinds-is = IsPermutation-trans (open_kinds after.script) (kinds_of before.stage.staged.racked) (kinds_of after.stage.staged.racked)
      (subst (λ (kinds : List Kind). IsPermutation kinds (kinds_of before.stage.staged.racked)) (script-back open_kinds) is.kinds) turned.kinds

  sent-is : All (λ n. n ≤ length after.numbers) after.rings.sent
  sent-is =
      subst (λ most. All (λ n. n ≤ most) after.rings.sent) (sym size)
      (sent-next before.rings.rings after.rings.rings before.rings.sent after.rings.sent (length before.numbers) may.rings.puts (turned.sends.counted may.rings.puts) turned.sends.as_many one_more is.sent)
    where
      one_more : (recorder : ℕ) → recorder < length before.rings.rings → length (get_or after.rings.rings recorder no_ring).put ≤ length (get_or before.rings.rings recorder no_ring).put + 1
      one_more recorder low = (grows (length before.numbers + 1) recorder (is_taped (open_clients plan.nodes) recorder)
          (block_by after.stage.staged.racked (open_clients plan.nodes) before.set (channels_at before.rings recorder) recorder)
          (ring_at before.rings recorder) (ring_at after.rings recorder) (overruns_on before.rings.overruns recorder) (overruns_on after.rings.overruns recorder) (turned.sends.each recorder low)).puts

  overruns-is : length after.rings.overruns ≤ length after.numbers * length after.rings.rings
  overruns-is =
      let all : length after.rings.overruns ≡ length before.rings.overruns + length turned.sends.overruns = ap length turned.sends.more ∙ length-append before.rings.overruns turned.sends.overruns in
      let next : length before.rings.overruns + length turned.sends.overruns ≤ (length before.numbers + 1) * length before.rings.rings =
      overruns-next (length before.rings.overruns) (length turned.sends.overruns) (length before.rings.rings) (length before.numbers) is.overruns turned.sends.few in
      let same : length after.numbers * length after.rings.rings ≡ (length before.numbers + 1) * length before.rings.rings = ap₂ (λ a b. a * b) size turned.sends.as_many in
      omega (arith, all, next, same)

  in-step : IsInStep sounding after
  in-step =
      let old : IsInStep sounding before = is.in_step may.sound in
      let next : (turn_of before.script (length before.numbers + 1)).period ≡ (turn_of after.script (length after.numbers)).period =
      script-back (λ (s : Script). (turn_of s (length before.numbers + 1)).period) ∙ ap (λ k. (turn_of after.script k).period) (sym size) in
      record {
        cycles = ap (λ (t : Standing). t.cycles) turned.standing ∙ ap (λ n. n + 1) old.cycles ∙ sym size;
        frames = ap (λ (t : Standing). t.frames) turned.standing ∙ ap (λ n. n + before.set) old.frames ∙ sym (frames-is sounding freewheel before after plan moment is may turned);
        period = turned.period ∙ sym may.period_is ∙ next;
        moments = ap length turned.moments ∙ length_push before.moments moment ∙ ap (λ n. n + 1) old.moments ∙ sym size;
        capture = turned.capture_sound;
        heard = turned.heard_period ∙ sym may.period_is ∙ next;
      }

  underruns-are : length after.disks.underruns ≤ length after.numbers * length after.disks.disks
  underruns-are =
      let all : length after.disks.underruns ≡ length before.disks.underruns + length turned.gets.underruns = ap length turned.gets.more ∙ length-append before.disks.underruns turned.gets.underruns in
      let next : length before.disks.underruns + length turned.gets.underruns ≤ (length before.numbers + 1) * length before.disks.disks =
      overruns-next (length before.disks.underruns) (length turned.gets.underruns) (length before.disks.disks) (length before.numbers) is.disks.underruns turned.gets.few in
      let same : length after.numbers * length after.disks.disks ≡ (length before.numbers + 1) * length before.disks.disks = ap₂ (λ a b. a * b) size turned.gets.as_many in
      omega (arith, all, next, same)

  disks-is : (AreUpTo (length before.numbers) before.disks → AreUpTo (length before.numbers + 1) after.disks) → AreDisks after
  disks-is up_to = record {
    channels = ap (λ (f : Fed). f.channels) turned.gets.same ∙ is.disks.channels ∙ script-back (λ (s : Script). s.header.disks);
    as_many = turned.gets.as_many ∙ is.disks.as_many ∙ script-back (λ (s : Script). length s.header.disks);
    period = ap (λ (f : Fed). f.period) turned.gets.same ∙ is.disks.period ∙ script-back greatest_period;
    misses =
        subst (λ n. n * length after.disks.disks ≤ after.disks.misses) (script-back (λ (s : Script). length (turns s)))
        (subst (λ n. length (turns before.script) * n ≤ after.disks.misses) (sym turned.gets.as_many)
        (subst (λ n. length (turns before.script) * length before.disks.disks ≤ n) (sym (ap (λ (f : Fed). f.misses) turned.gets.same)) is.disks.misses));
    underruns = underruns-are;
    up_to = subst (λ n. AreUpTo n after.disks) (sym size) (up_to is.disks.up_to);
  }

  pub stands-is : StandsOn after.stage.staged after.stage.plan
  stands-is = subst (StandsOn after.stage.staged) (sym turned.plan_is) turned.stands

  pub guests-are : guests_needed after.script ≤ length after.stage.staged.owned.scores
  guests-are =
      let needed : guests_needed before.script ≡ guests_needed after.script = script-back guests_needed in
      let there : length after.stage.staged.owned.scores ≡ length before.stage.staged.owned.scores = ap length turned.scores in
      let enough = is.guests in
      omega (arith, needed, there, enough)

  -- where none can be refused a bench, each has one
  pub staffed-is : (IsRefused (open_clients after.stage.plan.nodes) after.stage.staged.racked after.stage.staged.owned → ⊥) → after.stage.staged.is_staffed ≡ true
  staffed-is none = go after.stage.staged.is_staffed refl
    where
      go : (b : Bool) → after.stage.staged.is_staffed ≡ b → b ≡ true
      go true e = refl
      go false e = absurd (none (stands-is.stands.refused e))

  module _ (of : AreOfCalls after.script after.stage.plan.changes) where
    calls-now : AreOfCalls before.script plan.changes
    calls-now = subst (λ (q : Script × Planned). AreOfCalls q.0 q.1.changes) (λ j. (turned.script j, turned.plan_is j)) of

    -- the changes that the stage played before are a front of these
    calls-last : AreOfCalls before.script before.stage.plan.changes
    calls-last = AreOfCalls-last before.script before.stage.plan.changes before.reading.held plan.changes may.rows.place (subst (IsFront before.reading.held) (sym turned.content) turned.takes.front) calls-now

    -- who has no memory had none before, and is no client of the plan
    pub logs-are : (AreOfCalls before.script before.stage.plan.changes → before.stage.staged.is_staffed ≡ true)
        → after.stage.staged.is_staffed ≡ true
        → ((birth : ℕ) → PerformsPlan sounding before.stage.staged before.stage.plan plan moment before.set after.capture.channels after.disks after.stage.staged → memory_of after.stage.staged.racked after.stage.staged.owned birth ≡ None
        → (memory_of before.stage.staged.racked before.stage.staged.owned birth ≡ None) × ((n : ℕ) → n < length plan.nodes → (node_at (open_clients plan.nodes) n).birth ≡ birth → ⊥))
        → (birth : ℕ) → memory_of after.stage.staged.racked after.stage.staged.owned birth ≡ None → log_at after.events birth ≡ []
    logs-are was_staffed staffed never_go birth none =
        let gone : (memory_of before.stage.staged.racked before.stage.staged.owned birth ≡ None) × ((n : ℕ) → n < length plan.nodes → (node_at (open_clients plan.nodes) n).birth ≡ birth → ⊥) =
        never_go birth (turned.performs (was_staffed calls-last) staffed) none in
        (turned.hears calls-now).others birth gone.1 ∙ is.logs calls-last birth gone.0

  pub IsGear-turned : (AreUpTo (length before.numbers) before.disks → AreUpTo (length before.numbers + 1) after.disks)
      → (AreOfCalls after.script after.stage.plan.changes → (birth : ℕ) → memory_of after.stage.staged.racked after.stage.staged.owned birth ≡ None → log_at after.events birth ≡ []) → IsGear sounding after
  IsGear-turned up_to logs = record {
    lawful = subst IsScript (sym turned.script) is.lawful;
    stands = stands-is;
    base = base-is;
    kinds = kinds-is;
    guests = guests-are;
    room = turned.room ∙ is.room ∙ script-back greatest_period;
    capture_room = turned.capture_room ∙ is.capture_room ∙ script-back greatest_period;
    capture_channels = ap (λ (f : Format). f.channels) turned.same_reading.format ∙ is.capture_channels ∙ script-back (λ (s : Script). s.header.capture);
    rate = ap (λ (t : Standing). t.rate) turned.standing ∙ is.rate ∙ script-back (λ (s : Script). s.header.rate);
    rings_room = ap (λ (s : Sent). s.room) turned.sends.same ∙ is.rings_room ∙ script-back greatest_period;
    rings_channels = ap (λ (s : Sent). s.channels) turned.sends.same ∙ is.rings_channels ∙ script-back (λ (s : Script). map (λ (format : Format). format.channels) s.header.recorders);
    as_many = turned.sends.as_many ∙ is.as_many ∙ script-back (λ (s : Script). length s.header.recorders);
    sent = sent-is;
    overruns = overruns-is;
    losses =
        subst (λ n. n * length after.rings.rings ≤ after.rings.losses) (script-back (λ (s : Script). length (turns s)))
        (subst (λ n. length (turns before.script) * n ≤ after.rings.losses) (sym turned.sends.as_many)
        (subst (λ n. length (turns before.script) * length before.rings.rings ≤ n) (sym (ap (λ (s : Sent). s.losses) turned.sends.same)) is.losses));
    few =
        let left : length before.numbers < length (turns before.script) = may.left in
        let same : length (turns before.script) ≡ length (turns after.script) = script-back (λ (s : Script). length (turns s)) in
        let ran = size in
        omega (arith, left, same, ran);
    lists = turned.lists ∙ is.lists ∙ script-back (λ (s : Script). s.events);
    carried = subst (λ (p : Planned). AreCarried p after.events) (sym turned.plan_is) turned.carried;
    logs = logs;
    disks = disks-is up_to;
    in_step = λ sound. in-step;
  }
