-- Whatever plays each client on its inputs gives what the cycle's recursion gives: the values of a cycle are the one solution of its equations.
--     Agree now other port      the two give the same at a port
--     Solves course at now      each port gives what its client plays, where the others give `now`
--     Rises rank state      each direct edge between clients goes from a lower to a higher rank
--     Agree-signals      what solves the equations agrees with the recursion, as deep as the rank of the port's client
use Rattle.std.proofs.Common.{◌≡◌, ℕ, ◌⊎◌, inl, inr, zero, suc, ◌<◌, Bool, true, false, cond, ◌&&◌, not, List, [], ◌∷◌, map, filter, find, Contains, Option, Some, None, refl, sym, ◌∙◌, ap, ap₂, subst, arith, true≢false}
use Rattle.std.specs.Str.{bytes_eq}
use Rattle.session_model.specs.jack_types.specs.Names.{client_part}
use Rattle.session_model.specs.jack_types.specs.declared.ports.Mark.{Mark}
use Rattle.session_model.specs.jack_types.specs.declared.ports.Mark.TheVariants.{Direct, Feedback}
use Rattle.session_model.specs.Commands.{ports_of, is_audio, is_input}
use Rattle.session_model.specs.Courses.{Course, players}
use Rattle.session_model.specs.Cycles.{Signals, Settled, ClientPlayed, carried, played_on, audio_into, midi_into, audio_inputs, midi_inputs, audio_outputs, midi_outputs, client_played, player_named, audio_of, midi_of, given, signals, at_port}
use Rattle.session_model.specs.Events.{merge}
use Rattle.session_model.specs.Samples.{mix, silence}
use Rattle.session_model.specs.State.{State, OpenClient, OpenPort, Connection, is_system}
use Rattle.session_laws.proofs.LoopLemmas.{and_parts, Contains-later, Contains-first, Contains-cases}
use lib.Pointwise.{bytes_decides}
pub use Rattle.session_laws.specs.Solutions.{Agree, Solves, Rises, IsOneSolution}

pub bytes_same : (a b : List ℕ) → bytes_eq a b ≡ true → a ≡ b
bytes_same a b h = (bytes_decides a b).0 h

-- where two functions agree on the elements that pass a test, they map them alike
pub map_filter-same : {X Y : Type 0} (test : X → Bool) (f g : X → Y) (xs : List X) → ((x : X) → Contains xs x → test x ≡ true → f x ≡ g x) → map f (filter test xs) ≡ map g (filter test xs)
map_filter-same test f g [] h = refl
map_filter-same {X} {Y} test f g (x ∷ xs) h =
    go (test x) refl (map_filter-same test f g xs (λ y m t. h y (Contains-later x y xs m) t))
  where
    go : (b : Bool) → test x ≡ b → map f (filter test xs) ≡ map g (filter test xs) → map f (cond b (x ∷ filter test xs) (filter test xs)) ≡ map g (cond b (x ∷ filter test xs) (filter test xs))
    go true e rest = ap₂ (λ y ys. y ∷ ys) (h x (Contains-first x xs) e) rest
    go false e rest = rest

pub find-passes : {X : Type 0} (test : X → Bool) (xs : List X) (x : X) → find test xs ≡ Some x → test x ≡ true
find-passes test [] x h = absurd (none h)
  where
    none : {X : Type 0} {x : X} → None ≡ Some x → ⊥
    none e = cc
find-passes {X} test (y ∷ ys) x h = go (test y) refl h (find-passes test ys x)
  where
    go : (b : Bool) → test y ≡ b → cond b (Some y) (find test ys) ≡ Some x → (find test ys ≡ Some x → test x ≡ true) → test x ≡ true
    go true e k later = subst (λ z. test z ≡ true) (same_some k) e
      where
        same_some : Some y ≡ Some x → y ≡ x
        same_some p = cc
    go false e k later = later k

pub find-contains : {X : Type 0} (test : X → Bool) (xs : List X) (x : X) → find test xs ≡ Some x → Contains xs x
find-contains test [] x h = absurd (none h)
  where
    none : {X : Type 0} {x : X} → None ≡ Some x → ⊥
    none e = cc
find-contains {X} test (y ∷ ys) x h = go (test y) h (find-contains test ys x)
  where
    same_some : Some y ≡ Some x → y ≡ x
    same_some p = cc

    go : (b : Bool) → cond b (Some y) (find test ys) ≡ Some x → (find test ys ≡ Some x → Contains ys x) → Contains (y ∷ ys) x
    go true k later = subst (λ z. Contains (y ∷ ys) z) (same_some k) (Contains-first y ys)
    go false k later = Contains-later y x ys (later k)

pub filter-passes : {X : Type 0} (test : X → Bool) (xs : List X) (x : X) → Contains (filter test xs) x → test x ≡ true
filter-passes test [] x h = absurd (none h.1)
  where
    none : {n : ℕ} → n < 0 → ⊥
    none p = omega arith
filter-passes {X} test (y ∷ ys) x h = go (test y) refl h (filter-passes test ys x)
  where
    first_or_later : test y ≡ true → (y ≡ x) ⊎ Contains (filter test ys) x → (Contains (filter test ys) x → test x ≡ true) → test x ≡ true
    first_or_later e (inl p) later = subst (λ z. test z ≡ true) p e
    first_or_later e (inr m) later = later m

    go : (b : Bool) → test y ≡ b → Contains (cond b (y ∷ filter test ys) (filter test ys)) x → (Contains (filter test ys) x → test x ≡ true) → test x ≡ true
    go true e m later = first_or_later e (Contains-cases y x (filter test ys) m) later
    go false e m later = later m

module _ (course : Course) (at : Settled) (now other : Signals) (client : List ℕ)
    (sources : (edge : Connection) → Contains at.graph.edges edge → edge.mark ≡ Direct → client_part edge.destination ≡ client → Agree now other edge.source) where
  carried_audio-same : (edge : Connection) → Contains at.graph.edges edge → client_part edge.destination ≡ client → (carried now at.before edge.mark).audio edge.source ≡ (carried other at.before edge.mark).audio edge.source
  carried_audio-same edge m into = go edge.mark refl
    where
      go : (mark : Mark) → edge.mark ≡ mark → (carried now at.before mark).audio edge.source ≡ (carried other at.before mark).audio edge.source
      go Direct e = (sources edge m e into).audio
      go Feedback e = refl

  carried_midi-same : (edge : Connection) → Contains at.graph.edges edge → client_part edge.destination ≡ client → (carried now at.before edge.mark).midi edge.source ≡ (carried other at.before edge.mark).midi edge.source
  carried_midi-same edge m into = go edge.mark refl
    where
      go : (mark : Mark) → edge.mark ≡ mark → (carried now at.before mark).midi edge.source ≡ (carried other at.before mark).midi edge.source
      go Direct e = (sources edge m e into).midi
      go Feedback e = refl

  -- the port's client, where an edge goes into a port of the client
  into_client : (port : List ℕ) → client_part port ≡ client → (edge : Connection) → bytes_eq edge.destination port ≡ true → client_part edge.destination ≡ client
  into_client port e edge t = ap client_part (bytes_same edge.destination port t) ∙ e

  pub audio_into-same : (port : List ℕ) → client_part port ≡ client → audio_into at.graph at.frames now at.before port ≡ audio_into at.graph at.frames other at.before port
  audio_into-same port e = ap (mix at.frames)
      (map_filter-same (λ (edge : Connection). bytes_eq edge.destination port) (λ (edge : Connection). (carried now at.before edge.mark).audio edge.source) (λ (edge : Connection). (carried other at.before edge.mark).audio edge.source)
      at.graph.edges (λ edge m t. carried_audio-same edge m (into_client port e edge t)))

  pub midi_into-same : (port : List ℕ) → client_part port ≡ client → midi_into at.graph now at.before port ≡ midi_into at.graph other at.before port
  midi_into-same port e = ap merge
      (map_filter-same (λ (edge : Connection). bytes_eq edge.destination port) (λ (edge : Connection). (carried now at.before edge.mark).midi edge.source) (λ (edge : Connection). (carried other at.before edge.mark).midi edge.source)
      at.graph.edges (λ edge m t. carried_midi-same edge m (into_client port e edge t)))

  -- the inputs of the client
  pub audio_inputs-same : map (λ (port : OpenPort). audio_into at.graph at.frames now at.before port.name) (audio_inputs at.graph client)
      ≡ map (λ (port : OpenPort). audio_into at.graph at.frames other at.before port.name) (audio_inputs at.graph client)
  audio_inputs-same = map_filter-same (λ port. is_audio port && is_input port) (λ (port : OpenPort). audio_into at.graph at.frames now at.before port.name)
      (λ (port : OpenPort). audio_into at.graph at.frames other at.before port.name) (ports_of at.graph client)
      (λ port m t. audio_into-same port.name (bytes_same (client_part port.name) client (filter-passes (λ p. bytes_eq (client_part p.name) client) at.graph.ports port m)))

  pub midi_inputs-same : map (λ (port : OpenPort). midi_into at.graph now at.before port.name) (midi_inputs at.graph client)
      ≡ map (λ (port : OpenPort). midi_into at.graph other at.before port.name) (midi_inputs at.graph client)
  midi_inputs-same = map_filter-same (λ port. not (is_audio port) && is_input port) (λ (port : OpenPort). midi_into at.graph now at.before port.name)
      (λ (port : OpenPort). midi_into at.graph other at.before port.name) (ports_of at.graph client)
      (λ port m t. midi_into-same port.name (bytes_same (client_part port.name) client (filter-passes (λ p. bytes_eq (client_part p.name) client) at.graph.ports port m)))

  pub client_played-same : (player : OpenClient) → player.name ≡ client → client_played course at now player ≡ client_played course at other player
  client_played-same player e = ap₂ (played_on course at player) (at_name audio_inputs-same) (at_midi midi_inputs-same)
    where
      at_name : map (λ (port : OpenPort). audio_into at.graph at.frames now at.before port.name) (audio_inputs at.graph client)
          ≡ map (λ (port : OpenPort). audio_into at.graph at.frames other at.before port.name) (audio_inputs at.graph client)
          → map (λ (port : OpenPort). audio_into at.graph at.frames now at.before port.name) (audio_inputs at.graph player.name)
          ≡ map (λ (port : OpenPort). audio_into at.graph at.frames other at.before port.name) (audio_inputs at.graph player.name)
      at_name h = subst (λ name. map (λ (port : OpenPort). audio_into at.graph at.frames now at.before port.name) (audio_inputs at.graph name)
          ≡ map (λ (port : OpenPort). audio_into at.graph at.frames other at.before port.name) (audio_inputs at.graph name)) (sym e) h

      at_midi : map (λ (port : OpenPort). midi_into at.graph now at.before port.name) (midi_inputs at.graph client)
          ≡ map (λ (port : OpenPort). midi_into at.graph other at.before port.name) (midi_inputs at.graph client)
          → map (λ (port : OpenPort). midi_into at.graph now at.before port.name) (midi_inputs at.graph player.name)
          ≡ map (λ (port : OpenPort). midi_into at.graph other at.before port.name) (midi_inputs at.graph player.name)
      at_midi h = subst (λ name. map (λ (port : OpenPort). midi_into at.graph now at.before port.name) (midi_inputs at.graph name)
          ≡ map (λ (port : OpenPort). midi_into at.graph other at.before port.name) (midi_inputs at.graph name)) (sym e) h

not-false : (b : Bool) → not b ≡ true → b ≡ false
not-false true h = absurd (true≢false (sym h))
not-false false h = refl

-- a client that plays is not `system`
pub player_not-system : (state : State) (name : List ℕ) (client : OpenClient) → player_named state name ≡ Some client → is_system client.name ≡ false
player_not-system state name client h =
    not-false (is_system client.name)
    (and_parts client.active (not (is_system client.name))
    (filter-passes (λ c. c.active && not (is_system c.name)) state.clients client
    (find-contains (λ c. bytes_eq c.name name) (players state) client h))).1

module _ (course : Course) (at : Settled) (now other : Signals) (port : List ℕ)
    (sources : is_system (client_part port) ≡ false → (edge : Connection) → Contains at.graph.edges edge → edge.mark ≡ Direct → client_part edge.destination ≡ client_part port → Agree now other edge.source) where
  pub played-same : (client : OpenClient) → player_named at.graph (client_part port) ≡ Some client → client_played course at now client ≡ client_played course at other client
  played-same client h =
      let named : client.name ≡ client_part port = bytes_same client.name (client_part port) (find-passes (λ c. bytes_eq c.name (client_part port)) (players at.graph) client h) in
      let apart : is_system (client_part port) ≡ false = subst (λ name. is_system name ≡ false) named (player_not-system at.graph (client_part port) client h) in
      client_played-same course at now other (client_part port) (sources apart) client named

  pub given-same : Agree (given course at now) (given course at other) port
  given-same = record { audio = audio_at (player_named at.graph (client_part port)) refl; midi = midi_at (player_named at.graph (client_part port)) refl }
    where
      audio_at : (player : Option OpenClient) → player_named at.graph (client_part port) ≡ player → audio_of course at now port player ≡ audio_of course at other port player
      audio_at None e = refl
      audio_at (Some client) e = ap (λ (played : ClientPlayed). at_port (silence at.frames) (audio_outputs at.graph client.name) played.audio port) (played-same client e)

      midi_at : (player : Option OpenClient) → player_named at.graph (client_part port) ≡ player → midi_of course at now port player ≡ midi_of course at other port player
      midi_at None e = refl
      midi_at (Some client) e = ap (λ (played : ClientPlayed). at_port [] (midi_outputs at.graph client.name) played.midi port) (played-same client e)

module _ (course : Course) (at : Settled) (now : Signals) (rank : List ℕ → ℕ) (solves : Solves course at now) (rises : Rises rank at.graph) where
  pub Agree-signals : (depth : ℕ) (port : List ℕ) → rank (client_part port) < depth → Agree now (signals course at depth) port
  Agree-signals zero port below = absurd (none below)
    where
      none : {n : ℕ} → n < 0 → ⊥
      none p = omega arith
  Agree-signals (suc depth) port below = joined (solves port) (given-same course at now (signals course at depth) port (sources (λ source lower. Agree-signals depth source lower)))
    where
      joined : Agree now (given course at now) port → Agree (given course at now) (given course at (signals course at depth)) port → Agree now (given course at (signals course at depth)) port
      joined a b = record { audio = a.audio ∙ b.audio; midi = a.midi ∙ b.midi }

      lower : (edge : Connection) → rank (client_part edge.source) < rank (client_part edge.destination) → client_part edge.destination ≡ client_part port → rank (client_part edge.source) < depth
      lower edge up into = let same : rank (client_part edge.destination) ≡ rank (client_part port) = ap rank into in omega (arith, up, same, below)

      sources : ((source : List ℕ) → rank (client_part source) < depth → Agree now (signals course at depth) source)
          → is_system (client_part port) ≡ false → (edge : Connection) → Contains at.graph.edges edge → edge.mark ≡ Direct → client_part edge.destination ≡ client_part port → Agree now (signals course at depth) edge.source
      sources step apart edge m direct into = step edge.source (lower edge (rises edge m direct (subst (λ name. is_system name ≡ false) (sym into) apart)) into)

module _ (course : Course) (at : Settled) (rank : List ℕ → ℕ) (rises : Rises rank at.graph) where
  -- depths above the rank give the same
  pub Agree-depths : (depth other : ℕ) (port : List ℕ) → rank (client_part port) < depth → rank (client_part port) < other → Agree (signals course at depth) (signals course at other) port
  Agree-depths zero other port below above = absurd (none below)
    where
      none : {n : ℕ} → n < 0 → ⊥
      none p = omega arith
  Agree-depths (suc depth) zero port below above = absurd (none above)
    where
      none : {n : ℕ} → n < 0 → ⊥
      none p = omega arith
  Agree-depths (suc depth) (suc other) port below above =
      given-same course at (signals course at depth) (signals course at other) port (sources (λ source under over. Agree-depths depth other source under over))
    where
      lower : (edge : Connection) (n : ℕ) → rank (client_part port) < suc n → rank (client_part edge.source) < rank (client_part edge.destination) → client_part edge.destination ≡ client_part port → rank (client_part edge.source) < n
      lower edge n under up into = let same : rank (client_part edge.destination) ≡ rank (client_part port) = ap rank into in omega (arith, up, same, under)

      sources : ((source : List ℕ) → rank (client_part source) < depth → rank (client_part source) < other → Agree (signals course at depth) (signals course at other) source)
          → is_system (client_part port) ≡ false → (edge : Connection) → Contains at.graph.edges edge → edge.mark ≡ Direct → client_part edge.destination ≡ client_part port → Agree (signals course at depth) (signals course at other) edge.source
      sources step apart edge m direct into =
          let up = rises edge m direct (subst (λ name. is_system name ≡ false) (sym into) apart) in
          step edge.source (lower edge depth below up into) (lower edge other above up into)

  -- where each rank is below the depth, that depth gives the one solution
  pub IsOneSolution-signals : (depth : ℕ) → ((port : List ℕ) → rank (client_part port) < depth) → IsOneSolution course at (signals course at depth)
  IsOneSolution-signals depth below = record {
    solves = λ port. Agree-depths depth (suc depth) port (below port) (omega (arith, below port));
    only = λ other solves port. Agree-signals course at other rank solves rises depth port (below port);
  }
