-- What a wiring sets is the audio of the cycle's tasks.
--     task-ready      a bench set by the wiring of a plan has its client's task, but for what that has of MIDI
--     routes-known      it knows what its outgoing links carry of audio
use Rattle.std.proofs.Common.{◌≡◌, ℕ, zero, suc, ◌+◌, ◌<◌, ◌≤◌, ◌⊎◌, inl, inr, Bool, true, false, cond, ◌&&◌, ◌==◌, List, [], ◌∷◌, ◌++◌, length, map, filter, get_or, take, position, Contains, ℤ, Option, Some, None, refl, sym, ◌∙◌, ap, ap₂, subst, arith, true≢false, eqb-true, length-append}
use Rattle.std.specs.Prelude.{slice_index_or}
use Rattle.std.proofs.lemmas.Bool.{cases_lt}
use Rattle.std.proofs.lemmas.List.{append-nil, append_assoc, get_or-map, get_or_append_left, get_or_default, length-map, map-append, take_more}
use Rattle.std.proofs.lemmas.List.Elements.{filter-append}
use Rattle.std.proofs.lemmas.List.Quantifiers.{position-Some}
use Rattle.jack_types.specs.declared.kinds.Kind.{Kind}
use Rattle.jack_types.specs.declared.moments.Moment.{Moment}
use Rattle.session_model.specs.Activation.{outgoing}
use Rattle.session_model.specs.Benches.{Part, Task, audio_part_of, node_at, task_of}
use Rattle.session_model.specs.Courses.{Course}
use Rattle.session_model.specs.Cycles.{Settled, audio_inputs, audio_outputs, edges_into}
use Rattle.session_model.specs.Samples.{below}
use Rattle.session_model.specs.State.{OpenClient, OpenPort}
use Rattle.session_laws.proofs.ActivationLemmas.{get_or-map_below}
use Rattle.session_laws.proofs.CycleLemmas.{filter-passes, map_filter-same}
use Rattle.session_laws.proofs.ListLemmas.{Contains-filtered, filter-twice}
use Rattle.session_laws.proofs.PlaceLemmas.{map-after, map-same}
use Rattle.session_laws.proofs.SequentialLemmas.{Contains-below}
use Rattle.port_registry.specs.Registered.{open_clients}
use Rattle.event_laws.specs.cycle_plan.specs.Plans.{IsPlanned, Planned, state_of_plan}
use Rattle.event_laws.specs.client_benches.specs.Routes.{route_of, routes_on}
use Rattle.event_laws.specs.client_benches.specs.Seen.{Seen, task_in}
use Rattle.event_laws.specs.client_benches.specs.Wires.{no_wire, part_in, parts_into, source_in, source_part, wire_at}
use Rattle.event_laws.specs.client_benches.specs.declared.benches.Stint.{Stint}
use Rattle.event_laws.specs.client_benches.specs.declared.values.Route.{Route}
use Rattle.event_laws.specs.client_benches.specs.declared.wires.Wire.{Wire}
use Rattle.client_tasks.specs.Tasks.{IsSet, first_like, is_same_channel, joint_at, route_to, routes_of, source_by, turn_of, widths_at, wire_by, wires_of}
use Rattle.event_laws.specs.client_wiring.proofs.TaskLemmas.{SetsTasks-wired}
use Rattle.event_laws.specs.client_wiring.specs.Wirings.{SetsTasks, Wired, carried_at, part_from, route_by, wired_of}
use Rattle.event_laws.specs.client_wiring.specs.declared.joints.Carried.{Carried}
use Rattle.event_laws.specs.client_wiring.specs.declared.joints.Joint.{Joint}
use Rattle.event_laws.specs.client_wiring.specs.declared.joints.Origin.{Origin}
use Rattle.event_laws.specs.client_wiring.specs.declared.joints.Origin.TheVariants.{Handed, Kept, Captured}
use Rattle.event_laws.specs.client_wiring.specs.declared.joints.Output.{Output}
use Rattle.event_laws.specs.client_wiring.specs.declared.joints.Output.TheVariants.{Audio, Midi}
use Rattle.event_laws.specs.Crews.{KnowsAudio, routes_along, with_midi_of}
use Rattle.event_laws.specs.Plain.{plain_route}
use Rattle.play_laws.specs.Sources.{HasSource, HasSources}

filter-mapped : {X Y : Type 0} (p : Y → Bool) (f : X → Y) (xs : List X) → filter p (map f xs) ≡ map f (filter (λ x. p (f x)) xs)
filter-mapped p f [] = refl
filter-mapped {X} {Y} p f (x ∷ xs) = go (p (f x)) (filter-mapped p f xs)
  where
    go : (b : Bool) → filter p (map f xs) ≡ map f (filter (λ x. p (f x)) xs) → cond b (f x ∷ filter p (map f xs)) (filter p (map f xs)) ≡ map f (cond b (x ∷ filter (λ x. p (f x)) xs) (filter (λ x. p (f x)) xs))
    go true rest = ap (λ ys. f x ∷ ys) rest
    go false rest = rest

-- a list by its places
first-places : {X : Type 0} (xs : List X) (d : X) (n : ℕ) → n ≤ length xs → map (λ k. get_or xs k d) (below n) ≡ take n xs
first-places xs d zero h = refl
first-places xs d (suc n) h =
    map-append (λ k. get_or xs k d) (below n) (n ∷ [])
    ∙ ap (λ ys. ys ++ get_or xs n d ∷ []) (first-places xs d n (omega (arith, h)))
    ∙ sym (take_more xs n d (omega (arith, h)))
    ∙ ap (λ k. take k xs) (let next : n + 1 ≡ suc n = omega arith in next)

all-places : {X : Type 0} (xs : List X) (d : X) → map (λ k. get_or xs k d) (below (length xs)) ≡ xs
all-places xs d = first-places xs d (length xs) (omega arith) ∙ whole xs
  where
    whole : {Y : Type 0} (ys : List Y) → take (length ys) ys ≡ ys
    whole [] = refl
    whole (y ∷ ys) = ap (λ zs. y ∷ zs) (whole ys)

-- ---- what wires bring

module _ (joints : List Joint) (n : ℕ) where
  abbrev is_its : ℕ → Bool
  is_its i = (joint_at joints i).node == n

  -- the joints of the node among the first ones, by their places
  abbrev its : ℕ → List ℕ
  its k = filter is_its (below k)

  its-joints : (k : ℕ) → k ≤ length joints → filter (λ (other : Joint). other.node == n) (take k joints) ≡ map (joint_at joints) (its k)
  its-joints k h = ap (filter (λ (other : Joint). other.node == n)) (sym (first-places joints (joint_at [] 0) k h)) ∙ filter-mapped (λ (other : Joint). other.node == n) (joint_at joints) (below k)

  its-within : (k place : ℕ) → place < length (its k) → (get_or (its k) place 0 < k) × ((joint_at joints (get_or (its k) place 0)).node ≡ n)
  its-within k place h = (Contains-below k j (Contains-filtered is_its (below k) j there), eqb-true (joint_at joints j).node n (filter-passes is_its (below k) j there))
    where
      j : ℕ
      j = get_or (its k) place 0

      there : Contains (its k) j
      there = (place, h, get_or_default (its k) place j 0 h)

  -- those of more joints begin with those of fewer
  its-begin : (a b : ℕ) → a ≤ b → (rest : List ℕ) × (its b ≡ its a ++ rest)
  its-begin a zero h = ([], ap its none ∙ sym (append-nil (its a)))
    where
      none : zero ≡ a
      none = omega (arith, h)
  its-begin a (suc b) h = go (cases_lt b a) (λ low. its-begin a b low)
    where
      go : (b < a) ⊎ (a ≤ b) → (a ≤ b → (rest : List ℕ) × (its b ≡ its a ++ rest)) → (rest : List ℕ) × (its (suc b) ≡ its a ++ rest)
      go (inl high) shorter =
          let same : suc b ≡ a = omega (arith, h, high) in
          ([], ap its same ∙ sym (append-nil (its a)))
      go (inr low) shorter =
          let before : (rest : List ℕ) × (its b ≡ its a ++ rest) = shorter low in
          (before.0 ++ filter is_its (b ∷ []), filter-append is_its (below b) (b ∷ []) ∙ ap (λ xs. xs ++ filter is_its (b ∷ [])) before.1 ∙ append_assoc (its a) before.0 (filter is_its (b ∷ [])))

  its-stay : (a b place : ℕ) → a ≤ b → place < length (its a) → (place < length (its b)) × (get_or (its b) place 0 ≡ get_or (its a) place 0)
  its-stay a b place low h = (omega (arith, ap length more.1, length-append (its a) more.0, h), ap (λ xs. get_or xs place 0) more.1 ∙ get_or_append_left (its a) more.0 0 place h)
    where
      more : (rest : List ℕ) × (its b ≡ its a ++ rest)
      more = its-begin a b low

  -- where an earlier joint of the node brings the same captured channel
  abbrev is_like : Origin → Joint → Bool
  is_like origin other = is_same_channel other.origin origin

  like-within : (k place : ℕ) (origin : Origin) → k ≤ length joints → position (is_like origin) (map (joint_at joints) (its k)) ≡ Some place
      → (place < length (its k)) × (is_same_channel (joint_at joints (get_or (its k) place 0)).origin origin ≡ true) × ((earlier : ℕ) → earlier < place → is_same_channel (joint_at joints (get_or (its k) earlier 0)).origin origin ≡ false)
  like-within k place origin h e = (within, at place within ∙ told.1, λ earlier low. at earlier (omega (arith, low, within)) ∙ told.2 earlier low)
    where
      told : (place < length (map (joint_at joints) (its k))) × (is_like origin (get_or (map (joint_at joints) (its k)) place (joint_at [] 0)) ≡ true) × ((earlier : ℕ) → earlier < place → is_like origin (get_or (map (joint_at joints) (its k)) earlier (joint_at [] 0)) ≡ false)
      told = position-Some (is_like origin) (map (joint_at joints) (its k)) place (joint_at [] 0) e

      within : place < length (its k)
      within = subst (λ m. place < m) (length-map (its k) (joint_at joints)) told.0

      at : (p : ℕ) → p < length (its k) → is_like origin (joint_at joints (get_or (its k) p 0)) ≡ is_like origin (get_or (map (joint_at joints) (its k)) p (joint_at [] 0))
      at p low = ap (is_like origin) (sym (get_or-map (joint_at joints) (its k) p 0 (joint_at [] 0) low))

same-channel : (a b : Origin) → is_same_channel a b ≡ true → a ≡ b
same-channel (Captured a) (Captured b) e = ap Captured (eqb-true a b e)
same-channel (Captured a) (Handed link connection) e = absurd (true≢false (sym e))
same-channel (Captured a) (Kept node output birth) e = absurd (true≢false (sym e))
same-channel (Handed link connection) b e = absurd (true≢false (sym e))
same-channel (Kept node output birth) b e = absurd (true≢false (sym e))

module _ (joints : List Joint) (n : ℕ) where
  first-is : (i : ℕ) → i ≤ length joints → (joint_at joints i).node ≡ n → first_like (take i joints) (joint_at joints i) ≡ position (is_like joints n (joint_at joints i).origin) (map (joint_at joints) (its joints n i))
  first-is i h e =
      ap (λ m. position (is_like joints n (joint_at joints i).origin) (filter (λ (other : Joint). other.node == m) (take i joints))) e
      ∙ ap (position (is_like joints n (joint_at joints i).origin)) (its-joints joints n i h)

  -- what is like another is so from the first of them on, which is its own
  module _ (i place : ℕ) (within : i < length joints) (of_node : (joint_at joints i).node ≡ n) (is_first : first_like (take i joints) (joint_at joints i) ≡ Some place) where
    told : (place < length (its joints n i)) × (is_same_channel (joint_at joints (get_or (its joints n i) place 0)).origin (joint_at joints i).origin ≡ true) × ((earlier : ℕ) → earlier < place → is_same_channel (joint_at joints (get_or (its joints n i) earlier 0)).origin (joint_at joints i).origin ≡ false)
    told = like-within joints n i place (joint_at joints i).origin (omega (arith, within)) (sym (first-is i (omega (arith, within)) of_node) ∙ is_first)

    abbrev j : ℕ
    j = get_or (its joints n i) place 0

    before : (j < i) × ((joint_at joints j).node ≡ n)
    before = its-within joints n i place told.0

    same-origin : (joint_at joints j).origin ≡ (joint_at joints i).origin
    same-origin = same-channel (joint_at joints j).origin (joint_at joints i).origin told.1

    first-none : first_like (take j joints) (joint_at joints j) ≡ None
    first-none = go (first_like (take j joints) (joint_at joints j)) refl
      where
        none_before : (k : ℕ) → first_like (take j joints) (joint_at joints j) ≡ Some k → ⊥
        none_before k e = by_order (cases_lt k place)
          where
            inside : j ≤ length joints
            inside = omega (arith, before.0, within)

            earlier : (k < length (its joints n j)) × (is_same_channel (joint_at joints (get_or (its joints n j) k 0)).origin (joint_at joints j).origin ≡ true) × ((l : ℕ) → l < k → is_same_channel (joint_at joints (get_or (its joints n j) l 0)).origin (joint_at joints j).origin ≡ false)
            earlier = like-within joints n j k (joint_at joints j).origin inside (sym (first-is j inside before.1) ∙ e)

            stays : (p : ℕ) → p < length (its joints n j) → get_or (its joints n i) p 0 ≡ get_or (its joints n j) p 0
            stays p h = (its-stay joints n j i p (omega (arith, before.0)) h).1

            too_early : is_same_channel (joint_at joints (get_or (its joints n i) k 0)).origin (joint_at joints i).origin ≡ true
            too_early = ap₂ (λ m origin. is_same_channel (joint_at joints m).origin origin) (stays k earlier.0) (sym same-origin) ∙ earlier.1

            by_order : (k < place) ⊎ (place ≤ k) → ⊥
            by_order (inl low) = true≢false (sym too_early ∙ told.2 k low)
            by_order (inr high) =
                let low : place < length (its joints n j) = omega (arith, high, earlier.0) in
                let below_itself : get_or (its joints n j) place 0 < j = (its-within joints n j place low).0 in
                let itself : j ≡ get_or (its joints n j) place 0 = stays place low in
                omega (arith, below_itself, itself)

        go : (found : Option ℕ) → first_like (take j joints) (joint_at joints j) ≡ found → found ≡ None
        go None e = refl
        go (Some k) e = absurd (none_before k e)

module _ (joints : List Joint) (sources : ℕ → List ℤ) (n : ℕ) where
  abbrev wires : List Wire
  wires = wires_of sources joints n

  wire-there : (i place : ℕ) → i ≤ length joints → place < length (its joints n i) → wire_at wires place ≡ wire_by sources joints (get_or (its joints n i) place 0)
  wire-there i place h low =
      let all : (place < length (its joints n (length joints))) × (get_or (its joints n (length joints)) place 0 ≡ get_or (its joints n i) place 0) = its-stay joints n i (length joints) place h low in
      get_or-map (wire_by sources joints) (its joints n (length joints)) place 0 no_wire all.0 ∙ ap (wire_by sources joints) all.1

  own-in : (samples : List ℤ) (origin : Origin) → source_in wires (source_by None samples origin) ≡ source_part (source_by None samples origin)
  own-in samples (Handed link connection) = refl
  own-in samples (Kept node output birth) = refl
  own-in samples (Captured channel) = refl

  -- what an origin's own source brings is what the origin does
  own-brings : (at : Settled) (nodes : List OpenClient) (origin : Origin) (samples : List ℤ) → HasSource at nodes origin samples → source_part (source_by None samples origin) ≡ part_from at nodes origin
  own-brings at nodes (Handed link connection) samples h = refl
  own-brings at nodes (Kept node output birth) samples h = sym h
  own-brings at nodes (Captured channel) samples h = sym h

  wire-brings : (at : Settled) (nodes : List OpenClient) → HasSources at nodes joints n sources → (i : ℕ) → i < length joints → (joint_at joints i).node ≡ n → part_in wires (wire_by sources joints i) ≡ part_from at nodes (joint_at joints i).origin
  wire-brings at nodes has i within of_node = go (first_like (take i joints) (joint_at joints i)) refl
    where
      go : (like : Option ℕ) → first_like (take i joints) (joint_at joints i) ≡ like → source_in wires (source_by like (sources i) (joint_at joints i).origin) ≡ part_from at nodes (joint_at joints i).origin
      go None e = own-in (sources i) (joint_at joints i).origin ∙ own-brings at nodes (joint_at joints i).origin (sources i) (has i within of_node)
      go (Some place) e =
          ap (λ (wire : Wire). source_part wire.source) (wire-there i place (omega (arith, within)) (told joints n i place within of_node e).0)
          ∙ ap (λ like. source_part (source_by like (sources other) (joint_at joints other).origin)) (first-none joints n i place within of_node e)
          ∙ own-brings at nodes (joint_at joints other).origin (sources other) (has other (omega (arith, within, earlier.0)) earlier.1)
          ∙ ap (part_from at nodes) (same-origin joints n i place within of_node e)
        where
          other : ℕ
          other = get_or (its joints n i) place 0

          earlier : (other < i) × ((joint_at joints other).node ≡ n)
          earlier = before joints n i place within of_node e

  parts-same : (brought : Joint → Part (List ℤ)) → ((i : ℕ) → i < length joints → (joint_at joints i).node ≡ n → part_in wires (wire_by sources joints i) ≡ brought (joint_at joints i))
      → (input : ℕ) → parts_into wires input ≡ map brought (filter (λ (joint : Joint). joint.node == n && joint.input == input) joints)
  parts-same brought same input =
      ap (map (part_in wires)) (filter-mapped (λ (wire : Wire). wire.input == input) (wire_by sources joints) (its joints n (length joints)))
      ∙ map-after (part_in wires) (wire_by sources joints) (filter (λ i. (joint_at joints i).input == input) (its joints n (length joints)))
      ∙ ap (map (λ i. part_in wires (wire_by sources joints i))) (filter-twice (λ i. (joint_at joints i).input == input) (is_its joints n) (below (length joints)))
      ∙ map_filter-same (λ i. is_its joints n i && (joint_at joints i).input == input) (λ i. part_in wires (wire_by sources joints i)) (λ i. brought (joint_at joints i)) (below (length joints))
      (λ i m t. same i (Contains-below (length joints) i m) (eqb-true (joint_at joints i).node n (first (is_its joints n i) ((joint_at joints i).input == input) t)))
      ∙ sym (map-after brought (joint_at joints) (filter (λ i. is_its joints n i && (joint_at joints i).input == input) (below (length joints))))
      ∙ ap (map brought) (sym (filter-mapped (λ (joint : Joint). joint.node == n && joint.input == input) (joint_at joints) (below (length joints))))
      ∙ ap (λ all. map brought (filter (λ (joint : Joint). joint.node == n && joint.input == input) all)) (all-places joints (joint_at [] 0))
    where
      first : (a b : Bool) → (a && b) ≡ true → a ≡ true
      first true b e = refl
      first false b e = absurd (true≢false (sym e))

-- ---- what routes carry

plain-route : (output : Output) (node place link : ℕ) → route_of (route_to (record { node = node; place = place; link = link; output = output })) ≡ plain_route (route_by output)
plain-route (Audio output) node place link = refl
plain-route (Midi output) node place link = refl

routes-same : (n place : ℕ) (carried : List Carried)
    → routes_on (routes_of carried n) place ≡ map (λ (one : Carried). plain_route (route_by one.output)) (filter (λ (one : Carried). one.node == n && one.place == place) carried)
routes-same n place carried =
    ap (map route_of) (filter-mapped (λ (route : Route). route.link == place) route_to (filter (λ (one : Carried). one.node == n) carried))
    ∙ map-after route_of route_to (filter (λ (one : Carried). one.place == place) (filter (λ (one : Carried). one.node == n) carried))
    ∙ ap (map (λ (one : Carried). route_of (route_to one))) (filter-twice (λ (one : Carried). one.place == place) (λ (one : Carried). one.node == n) carried)
    ∙ map-same (λ (one : Carried). route_of (route_to one)) (λ (one : Carried). plain_route (route_by one.output)) (filter (λ (one : Carried). one.node == n && one.place == place) carried)
    (λ one. plain-route one.output one.node one.place one.link)

pub routes-known : (plan : Planned) (moment : Moment) (period n : ℕ) (sources : ℕ → List ℤ) (bench : Seen) → IsPlanned plan → n < length plan.nodes
    → IsSet (wired_of plan) plan.links moment period sources n bench → KnowsAudio plan n bench.kept
routes-known plan moment period n sources bench is low set turn has = (ap (λ (t : Stint). t.links) (some_is (sym has ∙ set.turn)), carried)
  where
    some_is : {a b : Stint} → Some a ≡ Some b → a ≡ b
    some_is e = cc

    carried : (place : ℕ) → place < length (outgoing plan.links n)
        → routes_on bench.kept.routes place ≡ map plain_route (slice_index_or (map (routes_along (state_of_plan plan) (open_clients plan.nodes) plan.links n) (outgoing plan.links n)) place [])
    carried place h =
        ap (λ routes. routes_on routes place) set.routes
        ∙ routes-same n place (wired_of plan).carried
        ∙ sym (map-after plain_route (λ (one : Carried). route_by one.output) (carried_at (wired_of plan) n place))
        ∙ ap (map plain_route) (sym (get_or-map_below (λ k. map (λ (one : Carried). route_by one.output) (carried_at (wired_of plan) n k)) (length (outgoing plan.links n)) place [] h))
        ∙ ap (λ all. map plain_route (slice_index_or all place [])) (sym ((SetsTasks-wired plan is).routes n low))

-- ---- the task, but for what it has of MIDI

same-audio : (task : Task) (kind : Kind) (sounds : List (List (Part (List ℤ)))) (audio : ℕ) → kind ≡ task.kind → sounds ≡ task.audio_parts → audio ≡ task.audio_count
    → record task { kind = kind; audio_parts = sounds; audio_count = audio } ≡ task
same-audio task kind sounds audio e1 e2 e3 = ap (λ k. behind k sounds audio) e1 ∙ ap (λ s. behind task.kind s audio) e2 ∙ ap (behind task.kind task.audio_parts) e3
  where
    behind : Kind → List (List (Part (List ℤ))) → ℕ → Task
    behind k s a = record task { kind = k; audio_parts = s; audio_count = a }

pub task-ready : (plan : Planned) (at : Settled) (n : ℕ) (sources : ℕ → List ℤ) (bench : Seen) (course : Course) → IsPlanned plan → at.graph ≡ state_of_plan plan → n < length plan.nodes
    → IsSet (wired_of plan) plan.links at.moment at.frames sources n bench → HasSources at (open_clients plan.nodes) (wired_of plan).joints n sources
    → bench.kept.standing.kind ≡ (node_at (open_clients plan.nodes) n).kind
    → with_midi_of (task_of course at (open_clients plan.nodes) plan.links n) (task_in course.scores bench.kept (turn_of (wired_of plan) plan.links at.moment at.frames n)) ≡ task_of course at (open_clients plan.nodes) plan.links n
task-ready plan at n sources bench course is graph low set has kinds =
    same-audio (task_of course at nodes plan.links n) bench.kept.standing.kind (map (parts_into bench.kept.wires) (below (widths_at wiring n).inputs)) (widths_at wiring n).outputs
    kinds sounds (sets.outputs n low ∙ ap (λ state. length (audio_outputs state name)) (sym graph))
  where
    nodes : List OpenClient
    nodes = open_clients plan.nodes

    wiring : Wired
    wiring = wired_of plan

    name : List ℕ
    name = (node_at nodes n).name

    sets : SetsTasks plan wiring
    sets = SetsTasks-wired plan is

    inputs : (widths_at wiring n).inputs ≡ length (audio_inputs at.graph name)
    inputs = sets.inputs n low ∙ ap (λ state. length (audio_inputs state name)) (sym graph)

    sounds : map (parts_into bench.kept.wires) (below (widths_at wiring n).inputs) ≡ map (λ (port : OpenPort). map (audio_part_of at nodes plan.links n) (edges_into at.graph port.name)) (audio_inputs at.graph name)
    sounds =
        ap₂ (λ wires m. map (parts_into wires) (below m)) set.wires inputs
        ∙ map-same (parts_into (wires_of sources wiring.joints n)) (λ i. map (λ (joint : Joint). part_from at nodes joint.origin) (filter (λ (joint : Joint). joint.node == n && joint.input == i) wiring.joints)) (below (length (audio_inputs at.graph name)))
        (parts-same wiring.joints sources n (λ (joint : Joint). part_from at nodes joint.origin) (wire-brings wiring.joints sources n at nodes has))
        ∙ sym (sets.parts n at low graph)
