-- The works before their first cycle.
--     plan-staged      a new stage over an opening plan of the script
--     kinds-new      new benches are of the kinds that they were made for
--     zeros-few      nothing was put
--     no-memories      nobody has played
--     made-scores, made-own      the scores are those that the stage has
--     made-rings, made-disks      works of these rings have those of the script
--     parts-made     the parts of what was made
--     IsGear-new, IsNew-gear      the parts of new works
use Rattle.std.proofs.Common.{◌≡◌, ℕ, zero, suc, ◌*◌, ◌<◌, ◌≤◌, false, List, [], ◌∷◌, length, map, replicate, slice_get, sum_by, take, ◌++◌, All, Option, Some, None, refl, sym, ◌∙◌, ap, subst, arith}
use Rattle.std.specs.Prelude.{IfOk, MatchOption, Result, Ok, Err, slice_index, slice_index_or, true}
use Rattle.std.specs.List.Sorted.{IsPermutation}
use Rattle.std.proofs.lemmas.List.{length-map}
use Rattle.std.proofs.lemmas.List.Sorted.{IsPermutation-refl}
use Rattle.std.proofs.lemmas.Option.{get_or_from_slice_get, slice_get_within}
use Rattle.std.proofs.Math.ListN.{get_or-map}
use Rattle.jack_types.specs.Recorders.{no_format}
use Rattle.jack_types.specs.declared.files.Format.{Format}
use Rattle.jack_types.specs.declared.kinds.Kind.{Kind}
use Rattle.jack_types.specs.declared.replies.Underrun.{Underrun}
use Rattle.session_model.specs.Commands.{replay}
use Rattle.session_model.specs.Grammar.{IsScript}
use Rattle.session_model.specs.Scripts.{Script, ScriptCycle, turns}
use Rattle.session_model.specs.Kinds.{Sound}
use Rattle.port_registry.specs.Registered.{open_clients}
use Rattle.graph_word.specs.Publications.{Reading}
use Rattle.client_kinds.specs.Scores.{Score}
use Rattle.midi_stage.specs.cycle_plan.specs.Plans.{Planned, nodes_of, opening_of}
use Rattle.transport.specs.Standings.{Standing}
use Rattle.driver_words.specs.Rings.{Getting, IsOpening, Sending, items_of}
use Rattle.midi_stage.specs.client_benches.specs.Seen.{Seen, new_bench}
use Rattle.client_stage.specs.client_seats.specs.Moves.{kinds_of}
use Rattle.client_stage.specs.client_seats.specs.Owners.{Owned}
use Rattle.client_stage.specs.client_seats.specs.Seatings.{memories, owned_memories}
use Rattle.client_stage.specs.device_periods.specs.Captures.{Captured}
use Rattle.midi_stage.specs.driver_laws.specs.Drivers.{IsOwnDisk, IsOwnRing, Remembered, frames_run, channels_on, greatest_period, turn_of}
use Rattle.midi_stage.specs.driver_laws.specs.Openings.{IsNew}
use Rattle.recorder_rings.specs.Sending.{no_ring}
use Rattle.midi_stage.specs.task_laws.specs.Calls.{guests_needed, open_kinds}
use Rattle.driver_words.specs.Feeding.{AreForPeriods, no_ring as no_disk}
use Rattle.driver_words.specs.Hearings.{Heard, log_at}
use Rattle.midi_stage.specs.Standing.{quiet_heard}
use Rattle.midi_stage.specs.midi_wiring.specs.Hearings.{AreCarried}
use Rattle.cycle_laws.specs.Gears.{OnStage, StandsOn, Gear, IsGear, driver_of}
use Rattle.cycle_works.specs.Makings.{AreNewDisks, AreNewRings, IsMade, IsNewStage, IsNewTransport, IsOpeningPlan, IsUnread}
use Rattle.cycle_works.specs.declared.opening.Made.{Made}
use Rattle.cycle_works.specs.declared.parts.Parts.{Parts}

-- a new stage over an opening plan of the script
pub plan-staged : {E : Type 0} (script : Script) (kinds : List Kind) (scores : List Score) (period : ℕ) (opening : Planned) → kinds ≡ open_kinds script → period ≡ greatest_period script → IsOpeningPlan script opening → (result : Result OnStage E)
    → IfOk result (λ stage. stage.staged.racked.benches ≡ map (λ kind. new_bench kind period) kinds)
    → IfOk result (λ stage. stage.staged.owned ≡ record { births = replicate (length kinds) None; scores = scores; pool = map (λ score. Some score) scores; past = [] })
    → IfOk result (λ stage. (stage.staged.room ≡ period) × (stage.staged.period ≡ 0) × (stage.staged.is_staffed ≡ true)) → IfOk result (λ stage. stage.plan ≡ opening)
    → IfOk result (λ stage. StandsOn stage.staged stage.plan) → IfOk result (IsNewStage script scores)
plan-staged script kinds scores period opening kinds_are longest opens (Ok stage) benches owned room plan stands = record {
  benches = subst (λ ks. stage.staged.racked.benches ≡ map (λ kind. new_bench kind (greatest_period script)) ks) kinds_are (subst (λ n. stage.staged.racked.benches ≡ map (λ kind. new_bench kind n) kinds) longest benches);
  owned = subst (λ (ks : List Kind). stage.staged.owned ≡ record { births = replicate (length ks) None; scores = scores; pool = map (λ score. Some score) scores; past = [] }) kinds_are owned;
  room = room.0 ∙ longest;
  period = room.1;
  opening = subst (IsOpeningPlan script) (sym plan) opens;
  stands = stands;
}
plan-staged script kinds scores period opening kinds_are longest opens (Err e) benches owned room plan stands = tt

none_below : {n : ℕ} → n < 0 → ⊥
none_below p = omega arith

kinds-new : (period : ℕ) (kinds : List Kind) → map (λ (bench : Seen). bench.kept.standing.kind) (map (λ kind. new_bench kind period) kinds) ≡ kinds
kinds-new period [] = refl
kinds-new period (kind ∷ kinds) = ap (λ (rest : List Kind). kind ∷ rest) (kinds-new period kinds)

abbrev none_of : {X : Type 0} → X → ℕ
none_of x = 0

zeros-few : {X : Type 0} (most : ℕ) (xs : List X) → All (λ n. n ≤ most) (map none_of xs)
zeros-few most [] i d h = absurd (none_below h)
zeros-few most (x ∷ xs) zero d h = omega arith
zeros-few most (x ∷ xs) (suc i) d h = zeros-few most xs i d (omega (arith, h))

no-memories : (n : ℕ) (benches : List Seen) → owned_memories (replicate n None) benches ≡ []
no-memories zero [] = refl
no-memories zero (bench ∷ benches) = refl
no-memories (suc n) [] = refl
no-memories (suc n) (bench ∷ benches) = no-memories n benches

opened-at : (out : Option Getting) (P : Getting → Type 0) → MatchOption out ⊥ P → (getting : Getting) × P getting
opened-at None P never = absurd never
opened-at (Some getting) P holds = (getting, holds)

-- the scores are those that the stage has, and works of its rings have those of the script
module _ {G : Type 0} (script : Script) (scores : List Score) (made : Made G) (is : IsMade script scores made) where
  pub made-scores : made.stage.staged.owned.scores ≡ scores
  made-scores = ap (λ (o : Owned). o.scores) is.stage.owned

  pub made-own : IsMade script made.stage.staged.owned.scores made
  made-own = subst (λ own. IsMade script own made) (sym made-scores) is

  pub made-rings : {E : Type 0} (result : Result Gear E) → IfOk result (λ gear. gear.rings ≡ made.outfit.rings) → IfOk result (λ gear. AreNewRings script gear.rings)
  made-rings (Ok gear) same = subst (AreNewRings script) (sym same) is.outfit.rings
  made-rings (Err e) same = tt

  pub made-disks : {E : Type 0} (result : Result Gear E) → IfOk result (λ gear. gear.disks ≡ made.outfit.disks) → IfOk result (λ gear. AreNewDisks script gear.disks)
  made-disks (Ok gear) same = subst (AreNewDisks script) (sym same) is.outfit.disks
  made-disks (Err e) same = tt

-- the parts of what was made
abbrev pub parts-made : {S G : Type 0} → Reading × Planned → Captured → Made G → ℕ → Parts S G
parts-made reader capture made set = record { reader = reader; stage = made.stage; midi = made.outfit.midi; capture = capture; disks = made.outfit.disks; transport = made.outfit.transport; rings = made.outfit.rings; numbers = made.outfit.lists.numbers; moments = made.outfit.lists.moments; set = set }

module _ (sounding : Score → Sound) (gear : Gear) (scores : List Score) (lawful : IsScript gear.script) (stage : IsNewStage gear.script scores gear.stage) (guests : guests_needed gear.script ≤ length scores)
    (transport : IsNewTransport gear.script gear.transport) (rings : AreNewRings gear.script gear.rings) (numbers : gear.numbers ≡ []) (moments : gear.moments ≡ []) (capture : IsUnread gear.script gear.capture) (events : gear.events ≡ quiet_heard gear.script 0) (carried : AreCarried gear.stage.plan (quiet_heard gear.script 0))
    (disks : AreNewDisks gear.script gear.disks) (periods : AreForPeriods gear.disks) where
  kinds-are : kinds_of gear.stage.staged.racked ≡ open_kinds gear.script
  kinds-are = ap (map (λ (bench : Seen). bench.kept.standing.kind)) stage.benches ∙ kinds-new (greatest_period gear.script) (open_kinds gear.script)

  as-many : length gear.rings.rings ≡ length gear.script.header.recorders
  as-many = rings.opened.as_many ∙ ap length rings.channels ∙ length-map gear.script.header.recorders (λ (format : Format). format.channels)

  pub IsGear-new : IsGear sounding gear
  IsGear-new = record {
    lawful = lawful;
    stands = stage.stands;
    base = stage.opening.base;
    kinds = subst (IsPermutation (open_kinds gear.script)) (sym kinds-are) (IsPermutation-refl (open_kinds gear.script));
    guests = subst (λ n. guests_needed gear.script ≤ n) (sym (ap (λ (o : Owned). length o.scores) stage.owned)) guests;
    room = stage.room;
    capture_room = capture.room;
    capture_channels = capture.channels;
    rate = ap (λ (t : Standing). t.rate) transport;
    rings_room = rings.room;
    rings_channels = rings.channels;
    as_many = as-many;
    sent = subst (All (λ sent. sent ≤ length gear.numbers)) (sym rings.sent) (zeros-few (length gear.numbers) gear.script.header.recorders);
    overruns = subst (λ xs. length xs ≤ length gear.numbers * length gear.rings.rings) (sym rings.overruns) (omega arith);
    losses = subst (λ n. length (turns gear.script) * n ≤ gear.rings.losses) (sym as-many) rings.losses_kept;
    few = subst (λ xs. length xs ≤ length (turns gear.script)) (sym numbers) (omega arith);
    lists = ap (λ (e : Heard). e.lists) events;
    carried = subst (AreCarried gear.stage.plan) (sym events) carried;
    logs = λ of birth none. ap (λ (e : Heard). log_at e birth) events;
    disks = record {
      channels = disks.channels_are;
      as_many = disks.opened.as_many;
      period = disks.period_is;
      misses = subst (λ n. length (turns gear.script) * n ≤ gear.disks.misses) (sym disks.opened.as_many) disks.misses_kept;
      underruns = subst (λ xs. length xs ≤ length gear.numbers * length gear.disks.disks) (sym disks.underruns) (omega arith);
      up_to = subst (All (λ (underrun : Underrun). underrun.cycle ≤ length gear.numbers)) (sym disks.underruns) (λ i d h. absurd (none_below h));
    };
    in_step = λ sound. record {
      cycles = ap (λ (t : Standing). t.cycles) transport ∙ sym (ap length numbers);
      frames = ap (λ (t : Standing). t.frames) transport ∙ sym (ap (λ (xs : List ℕ). sum_by (λ (turn : ScriptCycle). turn.period) (take (length xs) (turns gear.script))) numbers);
      period = stage.period ∙ sym (ap (λ (xs : List ℕ). (turn_of gear.script (length xs)).period) numbers);
      moments = ap length moments ∙ sym (ap length numbers);
      capture = capture.sound;
      heard = ap (λ (e : Heard). e.period) events ∙ sym (ap (λ (xs : List ℕ). (turn_of gear.script (length xs)).period) numbers);
    };
  }

  own-disk : (disk : ℕ) (got : Getting) → slice_get gear.disks.disks disk ≡ Some got → IsOwnDisk (driver_of sounding gear) disk got
  own-disk disk got here =
      let low : disk < length gear.disks.disks = slice_get_within gear.disks.disks disk got here in
      ap (λ (g : Getting). g.samples) (sym (get_or_from_slice_get gear.disks.disks disk got no_disk here)) ∙ periods disk low
      ∙ ap (λ n. n * slice_index gear.disks.channels disk) disks.period_is
      ∙ ap (λ channels. greatest_period gear.script * slice_index channels disk) disks.channels_are

  channels-at : (recorder : ℕ) → slice_index gear.rings.channels recorder ≡ channels_on gear.script recorder
  channels-at recorder = ap (λ cs. slice_index cs recorder) rings.channels ∙ get_or-map (λ (format : Format). format.channels) gear.script.header.recorders recorder no_format

  own : (recorder : ℕ) (ring : Sending) → slice_get gear.rings.rings recorder ≡ Some ring → IsOwnRing (driver_of sounding gear) recorder ring
  own recorder ring here = record {
    samples = ap (λ (s : Sending). s.samples) ring-is ∙ ap (λ n. greatest_period gear.script * n) (channels-at recorder);
    most = ap (λ (s : Sending). s.most) ring-is;
    items = subst (λ blocks. items_of blocks ≤ frames_run (driver_of sounding gear) * channels_on gear.script recorder) (sym (ap (λ (s : Sending). s.put) ring-is)) (omega arith);
  }
    where
      low : recorder < length gear.rings.channels
      low = let within : recorder < length gear.rings.rings = slice_get_within gear.rings.rings recorder ring here in let as_many = rings.opened.as_many in omega (arith, within, as_many)

      opened : (getting : Getting) × IsOpening gear.script.header.ring (greatest_period gear.script * slice_index gear.rings.channels recorder) 500000000 (slice_index_or gear.rings.rings recorder no_ring) getting
      opened = opened-at (slice_index_or gear.rings.out recorder None) (IsOpening gear.script.header.ring (greatest_period gear.script * slice_index gear.rings.channels recorder) 500000000 (slice_index_or gear.rings.rings recorder no_ring)) (rings.opened.each recorder low)

      ring-is : ring ≡ record { table = (slice_index_or gear.rings.rings recorder no_ring).table; capacity = gear.script.header.ring; samples = greatest_period gear.script * slice_index gear.rings.channels recorder; most = 500000000; put = []; looks = []; least = 0; ended = false }
      ring-is = sym (get_or_from_slice_get gear.rings.rings recorder ring no_ring here) ∙ opened.1.sending_is

  pub IsNew-gear : gear.reading.rows ≡ [] → gear.playback ≡ None → gear.set ≡ gear.script.header.period → gear.failed ≡ false → IsNew gear.script (map sounding scores) (driver_of sounding gear)
  IsNew-gear rows playback set failed = record {
    script_is = refl;
    scores_are = ap (λ (o : Owned). map sounding o.scores) stage.owned;
    rows = rows;
    content = stage.opening.changes;
    numbers = numbers;
    moments = moments;
    transport = ap (λ (t : Standing). t.row) transport;
    overruns = rings.overruns;
    underruns = disks.underruns;
    as_many = as-many;
    rings = rings.empty;
    own_rings = own;
    sent = rings.sent;
    as_many_disks = disks.opened.as_many;
    disks = disks.empty;
    own_disks = own-disk;
    played = disks.played;
    playback = playback;
    set = set;
    failed = failed;
    nodes = ap open_clients stage.stands.stands.nodes ∙ stage.stands.stands.planned.nodes ∙ ap (λ cs. nodes_of (replay (opening_of gear.stage.plan.base) cs)) stage.opening.changes;
    memories = ap (map (λ (kept : Remembered). record kept { memory = record kept.memory { log = log_at gear.events kept.birth } })) (ap (λ (o : Owned). memories gear.stage.staged.racked o) stage.owned ∙ ap (λ (xs : List Remembered). xs ++ []) (no-memories (length (open_kinds gear.script)) gear.stage.staged.racked.benches));
  }
