-- Two courses that differ at rest give and leave the same.
--     gives-same      in each cycle
use Rattle.std.proofs.Common.{◌≡◌, ℕ, ℤ, zero, suc, ◌+◌, ◌<◌, ◌≤◌, ◌==◌, ◌&&◌, Bool, true, cond, List, [], length, map, take, Contains, Option, Some, None, unwrap_or, refl, ◌∙◌, ap, ap₂, arith, eq-eqb}
use Rattle.std.specs.List.{list_any}
use Rattle.std.specs.Str.{bytes_eq}
use Rattle.jack_types.specs.Names.{client_part}
use Rattle.jack_types.specs.declared.events.Event.{Event}
use Rattle.jack_types.specs.declared.kinds.Kind.{Kind}
use Rattle.jack_types.specs.declared.kinds.Kind.TheVariants.{Disk}
use Rattle.jack_types.specs.declared.moments.Moment.{Moment}
use Rattle.jack_types.specs.declared.replies.Underrun.{Underrun}
use Rattle.session_model.specs.Courses.{Course, DiskFile, adopted, captured, fed, graph, is_disk, period, players}
use Rattle.session_model.specs.Cycles.{ClientPlayed, Cycle, Settled, Signals, at_port, audio_inputs, audio_into, audio_of, audio_outputs, client_played, cycle, cycle_of, given, input_of, list_of, memory_after, midi_inputs, midi_into, midi_of, midi_outputs, played_on, player_born, player_named, previous, settled_after, signals, was_there, with_block}
use Rattle.session_model.specs.Grammar.{IsScript}
use Rattle.session_model.specs.Kinds.{Memory, Played, first, input_at, midi_play, outputs_by, play}
use Rattle.session_model.specs.Playback.{playback_names}
use Rattle.session_model.specs.Recorders.{block_of, recorder_format, taping}
use Rattle.session_model.specs.Samples.{below, interleaved, silence}
use Rattle.session_model.specs.Scripts.{turns}
use Rattle.session_model.specs.State.{OpenClient, OpenPort, State}
use Rattle.session_model.specs.Transport.{active_master, moment, next_row, row, shown, slow_numbers, timeout_of}
use Rattle.session_laws.proofs.CycleLemmas.{find-contains}
use Rattle.std.proofs.lemmas.List.Folds.{list_any_at}
use Rattle.driver_laws.specs.Drivers.{turn_of}
use Rattle.check_courses.specs.Rests.{DifferAtRest, GivesSame, with_underruns}
use Rattle.check_courses.proofs.RestLemmas.{fed-alike}

any-there : {X : Type 0} (test : X → Bool) (xs : List X) (x : X) → Contains xs x → test x ≡ true → list_any test xs ≡ true
any-there test xs x c e = list_any_at test xs c.0 x c.1 (ap test c.2 ∙ e)

module _ (course : Course) (is : IsScript course.script) (channels : map (λ (file : DiskFile). file.channels) course.disks ≡ course.script.header.disks)
    (keeps : (k : ℕ) → k < length (turns course.script) → 0 < length course.script.header.disks → (turn_of course.script (k + 1)).period ≡ course.script.header.period)
    (underruns : List (List Underrun)) (last : ℕ) (within : last ≤ length (turns course.script)) (rest : DifferAtRest course (with_underruns course underruns) last) where
  abbrev other : Course
  other = with_underruns course underruns

  -- ---- the transport rests on no underrun

  row-same : (k : ℕ) → row course k ≡ row other k
  row-same zero = refl
  row-same (suc k) =
      ap (λ before. next_row before (adopted course (suc k)) (slow_numbers (graph course (suc k))) (timeout_of (graph course (suc k)) course.script.header.rate (period course (suc k))) (period course (suc k))) (row-same k)

  moment-same : (k : ℕ) → moment course k ≡ moment other k
  moment-same k = ap (λ before. shown k before course.script.header.rate (active_master (graph course k))) (row-same k)

  -- ---- what one client plays

  -- where a disk's player is given the same channels at each place, all kinds play the same
  play-same : (k : ℕ) (kind : Kind) (memory : Memory) (outputs : ℕ) (now : Moment) (frames : ℕ) (inputs : List (List ℤ))
      → ((disk j : ℕ) → is_disk disk kind ≡ true → input_at frames (fed course disk k) j ≡ input_at frames (fed other disk k) j)
      → play course.scores kind (with_block course k kind memory) outputs now frames inputs ≡ play other.scores kind (with_block other k kind memory) outputs now frames inputs
  play-same k (Disk disk) memory outputs now frames inputs alike =
      ap (λ (at : ℕ → List ℤ). record { outputs = outputs_by outputs (λ j. take frames (at j)); memory = record memory { fed = [] } }) (λ i j. alike disk j (eq-eqb disk disk refl) i)
  play-same k _ memory outputs now frames inputs alike = refl

  -- what a client plays, from what it plays on its audio ports
  abbrev with_events : State → Moment → ℕ → OpenClient → List (List Event) → Played → ClientPlayed
  with_events state now frames client notes sound =
      let midi = midi_play (list_of course client.kind) client.kind sound.memory (length (midi_outputs state client.name)) now frames notes in
      record { audio = sound.outputs; midi = midi.outputs; memory = midi.memory }

  -- ---- one cycle more

  -- two cycles that gave and left the same
  record Alike (one two : Cycle) : Type 0 where
    pub graph : one.settled.graph ≡ two.settled.graph
    pub frames : one.settled.frames ≡ two.settled.frames
    pub before : one.settled.before ≡ two.settled.before
    pub now : one.now ≡ two.now
    pub memory : one.memory ≡ two.memory

  abbrev previous_by : State → ℕ → State → ℕ → Signals → Signals
  previous_by graph_now frames_now old_graph old_frames old_now = record {
    audio = λ port. cond (old_frames == frames_now && was_there old_graph graph_now port) (old_now.audio port) (silence frames_now);
    midi = λ port. cond (old_frames == frames_now && was_there old_graph graph_now port) (old_now.midi port) [];
  }

  module _ (k : ℕ) (low : suc k ≤ last) (one two : Cycle) (alike : Alike one two) where
    abbrev state : State
    state = graph course (suc k)

    abbrev frames : ℕ
    frames = period course (suc k)

    previous-same : previous one state frames ≡ previous two state frames
    previous-same =
        ap₂ (λ g f. previous_by state frames g f one.now) alike.graph alike.frames
        ∙ ap (λ now. previous_by state frames two.settled.graph two.settled.frames now) alike.now

    abbrev settled_by : Moment → Signals → (ℕ → Option Memory) → Settled
    settled_by now before memories = record {
      graph = state;
      moment = now;
      frames = frames;
      capture = captured course (suc k);
      before = before;
      memory = λ client. with_block course (suc k) client.kind (unwrap_or (memories client.birth) (first course.scores client.kind));
    }

    -- the first course's cycle, over what the second has from before
    abbrev first_at : Settled
    first_at = settled_by (moment other (suc k)) (previous two state frames) two.memory

    abbrev second_at : Settled
    second_at = settled_after other (suc k) two

    first-is : settled_after course (suc k) one ≡ first_at
    first-is =
        ap (λ now. settled_by now (previous one state frames) one.memory) (moment-same (suc k))
        ∙ ap₂ (λ before memories. settled_by (moment other (suc k)) before memories) previous-same alike.memory

    -- a client that plays
    module _ (client : OpenClient) (there : Contains (players state) client) where
      given-alike : (disk j : ℕ) → is_disk disk client.kind ≡ true → input_at frames (fed course disk (suc k)) j ≡ input_at frames (fed other disk (suc k)) j
      given-alike disk j of = fed-alike course is channels keeps underruns last within rest disk k j low (any-there (λ (c : OpenClient). is_disk disk c.kind) (players state) client there of)

      played-same : (sounds : List (List ℤ)) (notes : List (List Event)) → played_on course first_at client sounds notes ≡ played_on other second_at client sounds notes
      played-same sounds notes =
          ap (with_events state (moment other (suc k)) frames client notes)
          (play-same (suc k) client.kind (unwrap_or (two.memory client.birth) (first course.scores client.kind)) (length (audio_outputs state client.name)) (moment other (suc k)) frames sounds given-alike)

      client-same : (now : Signals) → client_played course first_at now client ≡ client_played other second_at now client
      client-same now =
          played-same
          (map (λ (port : OpenPort). audio_into state frames now (previous two state frames) port.name) (audio_inputs state client.name))
          (map (λ (port : OpenPort). midi_into state now (previous two state frames) port.name) (midi_inputs state client.name))

    given-same : (now : Signals) → given course first_at now ≡ given other second_at now
    given-same now = λ i. record { audio = λ port. audio port (player_named state (client_part port)) refl i; midi = λ port. midi port (player_named state (client_part port)) refl i }
      where
        audio : (port : List ℕ) (o : Option OpenClient) → player_named state (client_part port) ≡ o → audio_of course first_at now port o ≡ audio_of other second_at now port o
        audio port None e = refl
        audio port (Some client) e =
            ap (λ (p : ClientPlayed). at_port (silence frames) (audio_outputs state client.name) p.audio port)
            (client-same client (find-contains (λ (c : OpenClient). bytes_eq c.name (client_part port)) (players state) client e) now)

        midi : (port : List ℕ) (o : Option OpenClient) → player_named state (client_part port) ≡ o → midi_of course first_at now port o ≡ midi_of other second_at now port o
        midi port None e = refl
        midi port (Some client) e =
            ap (λ (p : ClientPlayed). at_port [] (midi_outputs state client.name) p.midi port)
            (client-same client (find-contains (λ (c : OpenClient). bytes_eq c.name (client_part port)) (players state) client e) now)

    signals-same : (depth : ℕ) → signals course first_at depth ≡ signals other second_at depth
    signals-same zero = refl
    signals-same (suc depth) = ap (given course first_at) (signals-same depth) ∙ given-same (signals other second_at depth)

    memory-same : (now : Signals) (birth : ℕ) → memory_after course first_at now (two.memory birth) (player_born state birth) ≡ memory_after other second_at now (two.memory birth) (player_born state birth)
    memory-same now birth = go (player_born state birth) refl
      where
        go : (o : Option OpenClient) → player_born state birth ≡ o → memory_after course first_at now (two.memory birth) o ≡ memory_after other second_at now (two.memory birth) o
        go None e = refl
        go (Some client) e = ap (λ (p : ClientPlayed). Some p.memory) (client-same client (find-contains (λ (c : OpenClient). c.birth == birth) (players state) client e) now)

    abbrev deep : ℕ
    deep = length state.clients

    alike-next : Alike (cycle_of course one (settled_after course (suc k) one)) (cycle_of other two second_at)
    alike-next = record {
      graph = refl;
      frames = refl;
      before = previous-same;
      now = ap (λ at. signals course at deep) first-is ∙ signals-same deep;
      memory = λ i birth. (
          ap₂ (λ at (memories : ℕ → Option Memory). memory_after course at (signals course at deep) (memories birth) (player_born state birth)) first-is alike.memory
          ∙ ap (λ now. memory_after course first_at now (two.memory birth) (player_born state birth)) (signals-same deep)
          ∙ memory-same (signals other second_at deep) birth) i;
    }

  all-alike : (k : ℕ) → k ≤ last → Alike (cycle course k) (cycle other k)
  all-alike zero low = record { graph = refl; frames = refl; before = refl; now = refl; memory = refl }
  all-alike (suc k) low = alike-next k low (cycle course k) (cycle other k) (all-alike k (omega (arith, low)))

  -- ---- what is told of a cycle

  gives : (k : ℕ) → k ≤ last → GivesSame course other k
  gives k low =
      let alike : Alike (cycle course k) (cycle other k) = all-alike k low in
      record {
        now = alike.now;
        memory = λ birth i. alike.memory i birth;
        inputs = input k alike;
        midi_inputs = λ port.
            ap₂ (λ g n. midi_into g n (cycle course k).settled.before port) alike.graph alike.now
            ∙ ap (λ b. midi_into (cycle other k).settled.graph (cycle other k).now b port) alike.before;
        blocks = λ recorder. block-same k alike recorder (taping course recorder k);
        playback = ap (λ (f : List ℕ → List ℤ). interleaved (period course k) (map f (playback_names course))) (λ i port. input k alike port i);
        moment = moment-same k;
      }
    where
      input : (k : ℕ) → Alike (cycle course k) (cycle other k) → (port : List ℕ) → input_of course k port ≡ input_of other k port
      input k alike port =
          ap₂ (λ g f. audio_into g f (cycle course k).now (cycle course k).settled.before port) alike.graph alike.frames
          ∙ ap₂ (λ n b. audio_into (cycle other k).settled.graph (cycle other k).settled.frames n b port) alike.now alike.before

      block-same : (k : ℕ) → Alike (cycle course k) (cycle other k) → (recorder : ℕ) (o : Option OpenClient)
          → block_of course (recorder_format course recorder).channels k o ≡ block_of other (recorder_format other recorder).channels k o
      block-same k alike recorder None = refl
      block-same k alike recorder (Some client) =
          ap (λ (f : List ℕ → List ℤ). interleaved (period course k) (map (input_at (period course k) (map (λ (port : OpenPort). f port.name) (audio_inputs (graph course k) client.name))) (below (recorder_format course recorder).channels))) (λ i port. input k alike port i)

pub gives-same : (course : Course) (underruns : List (List Underrun)) (last : ℕ) → IsScript course.script → map (λ (file : DiskFile). file.channels) course.disks ≡ course.script.header.disks
    → last ≤ length (turns course.script) → DifferAtRest course (with_underruns course underruns) last
    → ((k : ℕ) → k < length (turns course.script) → 0 < length course.script.header.disks → (turn_of course.script (k + 1)).period ≡ course.script.header.period)
    → (k : ℕ) → k ≤ last → GivesSame course (with_underruns course underruns) k
gives-same course underruns last is channels within rest keeps k low = gives course is channels keeps underruns last within rest k low
