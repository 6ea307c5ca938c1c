-- Each edge goes from an output to an input of its type, both of active clients.
--     AreWired-replay      so it is in each state that changes led to
use Rattle.std.proofs.Common.{◌≡◌, ℕ, ◌<◌, ◌≤◌, Bool, true, false, cond, not, ◌&&◌, ◌||◌, List, [], ◌∷◌, ◌++◌, length, filter, find, Contains, Option, Some, None, is_some, is_none, nat_lt, inl, inr, ◌⊎◌, refl, sym, ◌∙◌, ap, subst, arith, true≢false, ltb-false, if◌then◌else◌}
use Rattle.std.specs.Option.{option_map_or}
use Rattle.std.specs.Str.{bytes_eq}
use Rattle.session_model.specs.jack_types.specs.Names.{client_part}
use Rattle.session_model.specs.jack_types.specs.declared.commands.Change.{Change}
use Rattle.session_model.specs.jack_types.specs.declared.commands.Command.{Command}
use Rattle.session_model.specs.jack_types.specs.declared.commands.Command.TheVariants.{Open, Close, Activate, Deactivate, Register, Unregister, Connect, Disconnect, Start, Stop, Locate, Timeout, Slow, Timebase, TimebaseIf, Release, Latency}
use Rattle.session_model.specs.jack_types.specs.declared.replies.Refusal.{Refusal}
use Rattle.session_model.specs.jack_types.specs.declared.replies.Refusal.TheVariants.{NoSource, NoDestination, NotOutput, NotInput, TypeDiffers, Inactive, Exists, Full}
use Rattle.session_model.specs.Commands.{effect, after, replay, refusal, refusals_of, applies, edges_left, touches, with_client, is_input, is_audio, same_bool, types_differ}
use Rattle.session_model.specs.Loops.{mark_of, tested_edge, remark_from, remark}
use Rattle.session_model.specs.Soundness.{IsEnd, IsWired}
use Rattle.session_model.specs.State.{State, OpenClient, OpenPort, Connection, port_named, is_active_in, is_direct, opening}
use Rattle.session_laws.proofs.CycleLemmas.{bytes_same, find-passes, find-contains, filter-passes}
use Rattle.session_laws.proofs.LoopLemmas.{and_parts, Contains-first, Contains-cases}
use Rattle.session_laws.proofs.LoopFreeLemmas.{Contains-append_cases, Contains-append_left, Contains-append_right, changed-among}
use Rattle.session_laws.proofs.PlaceLemmas.{filter-contains, filter-keeps}
use Rattle.session_laws.proofs.PlanLemmas.{filter-fewer}
use Rattle.session_laws.proofs.SoundLemmas.{map-contains, refused_not}

none_below : {n : ℕ} → n < 0 → ⊥
none_below p = omega arith

neither : (a b : Bool) → (a || b) ≡ false → (a ≡ false) × (b ≡ false)
neither true b h = absurd (true≢false h)
neither false b h = (refl, h)

untrue : (b : Bool) → not b ≡ true → b ≡ false
untrue true h = absurd (true≢false (sym h))
untrue false h = refl

-- an edge that was there with these ends
abbrev WasThere : List Connection → Connection → Type 0
WasThere edges edge = (old : Connection) × Contains edges old × (old.source ≡ edge.source) × (old.destination ≡ edge.destination)

remark_from-ends : (tested edges : List Connection) (edge : Connection) → Contains (remark_from tested edges) edge → WasThere (tested ++ edges) edge
remark_from-ends tested [] edge m = (edge, Contains-append_left tested [] edge m, refl, refl)
remark_from-ends tested (first ∷ edges) edge m =
    go (remark_from-ends (tested ++ tested_edge tested first edges ∷ []) edges edge m)
  where
    source_kept : (tested_edge tested first edges).source ≡ first.source
    source_kept = by (is_direct first.mark)
      where
        by : (b : Bool) → (cond b first (record first { mark = mark_of (tested ++ first ∷ edges) first.source first.destination })).source ≡ first.source
        by true = refl
        by false = refl

    destination_kept : (tested_edge tested first edges).destination ≡ first.destination
    destination_kept = by (is_direct first.mark)
      where
        by : (b : Bool) → (cond b first (record first { mark = mark_of (tested ++ first ∷ edges) first.source first.destination })).destination ≡ first.destination
        by true = refl
        by false = refl

    here : Contains (tested ++ first ∷ edges) first
    here = Contains-append_right tested (first ∷ edges) first (Contains-first first edges)

    go : WasThere ((tested ++ tested_edge tested first edges ∷ []) ++ edges) edge → WasThere (tested ++ first ∷ edges) edge
    go w = cases (Contains-cases (tested_edge tested first edges) w.0 (tested ++ first ∷ edges) (changed-among tested first (tested_edge tested first edges) edges w.0 w.1))
      where
        cases : (tested_edge tested first edges ≡ w.0) ⊎ Contains (tested ++ first ∷ edges) w.0 → WasThere (tested ++ first ∷ edges) edge
        cases (inl e) = (first, here, sym source_kept ∙ ap (λ (c : Connection). c.source) e ∙ w.2, sym destination_kept ∙ ap (λ (c : Connection). c.destination) e ∙ w.3)
        cases (inr k) = (w.0, k, w.2, w.3)

-- an edge that is left passed the test
edges_left-stays : (stays : Connection → Bool) (edges : List Connection) (edge : Connection) → Contains (edges_left stays edges) edge
    → (old : Connection) × Contains edges old × (stays old ≡ true) × (old.source ≡ edge.source) × (old.destination ≡ edge.destination)
edges_left-stays stays edges edge m = go (nat_lt (length (filter stays edges)) (length edges)) refl m
  where
    passes : (xs : List Connection) (x : Connection) → Contains (filter stays xs) x → stays x ≡ true
    passes xs x k = filter-passes stays xs x k

    all_stay : length edges ≤ length (filter stays edges) → (b : Bool) → stays edge ≡ b → Contains edges edge → stays edge ≡ true
    all_stay most true e k = e
    all_stay most false e k = absurd (apart (filter-fewer stays edges edge k e) most)
      where
        apart : {a b : ℕ} → a < b → b ≤ a → ⊥
        apart p q = omega (arith, p, q)

    go : (b : Bool) → nat_lt (length (filter stays edges)) (length edges) ≡ b → Contains (cond b (remark (filter stays edges)) edges) edge
        → (old : Connection) × Contains edges old × (stays old ≡ true) × (old.source ≡ edge.source) × (old.destination ≡ edge.destination)
    go true e k =
        let w = remark_from-ends [] (filter stays edges) edge k in
        (w.0, filter-contains stays edges w.0 w.1, passes edges w.0 w.1, w.2, w.3)
    go false e k = (edge, k, all_stay (ltb-false (length (filter stays edges)) (length edges) e) (stays edge) refl k, refl, refl)

IsEnd-kept : (state new : State) (is_in is_sound : Bool) (name other : List ℕ) → IsEnd state is_in is_sound name → name ≡ other
    → ((port : OpenPort) → Contains state.ports port → port.name ≡ name → Contains new.ports port)
    → ((client : OpenClient) → Contains state.clients client → client.name ≡ client_part name → client.active ≡ true → (c : OpenClient) × Contains new.clients c × (c.name ≡ client.name) × (c.active ≡ true))
    → IsEnd new is_in is_sound other
IsEnd-kept state new is_in is_sound name other end same ports clients =
    let w = clients end.client end.open_client end.client_is end.active in
    subst (IsEnd new is_in is_sound) same (record {
      port = end.port;
      client = w.0;
      listed = ports end.port end.listed end.named;
      named = end.named;
      direction = end.direction;
      type_is = end.type_is;
      open_client = w.1;
      client_is = w.2 ∙ end.client_is;
      active = w.3;
    })

abbrev pub AreWired : State → Type 0
AreWired state = (edge : Connection) → Contains state.edges edge → IsWired state edge

-- an edge's ends stay where each end stays
IsWired-kept : (state new : State) (old edge : Connection) → IsWired state old → old.source ≡ edge.source → old.destination ≡ edge.destination
    → ((port : OpenPort) → Contains state.ports port → (port.name ≡ old.source) ⊎ (port.name ≡ old.destination) → Contains new.ports port)
    → ((client : OpenClient) → Contains state.clients client → (client.name ≡ client_part old.source) ⊎ (client.name ≡ client_part old.destination) → client.active ≡ true
    → (c : OpenClient) × Contains new.clients c × (c.name ≡ client.name) × (c.active ≡ true))
    → IsWired new edge
IsWired-kept state new old edge wired source destination ports clients = (
  wired.0,
  IsEnd-kept state new false wired.0 old.source edge.source wired.1 source (λ port m e. ports port m (inl e)) (λ client m e a. clients client m (inl e) a),
  IsEnd-kept state new true wired.0 old.destination edge.destination wired.2 destination (λ port m e. ports port m (inr e)) (λ client m e a. clients client m (inr e) a),
)

same_client : (state : State) (client : OpenClient) → Contains state.clients client → client.active ≡ true → (c : OpenClient) × Contains state.clients c × (c.name ≡ client.name) × (c.active ≡ true)
same_client state client m a = (client, m, refl, a)

-- of two names of which none is this
apart_name : (name a b other : List ℕ) → (bytes_eq a name || bytes_eq b name) ≡ false → (other ≡ a) ⊎ (other ≡ b) → bytes_eq other name ≡ false
apart_name name a b other h (inl e) = ap (λ x. bytes_eq x name) e ∙ (neither (bytes_eq a name) (bytes_eq b name) h).0
apart_name name a b other h (inr e) = ap (λ x. bytes_eq x name) e ∙ (neither (bytes_eq a name) (bytes_eq b name) h).1

part_of_either : (port : OpenPort) (a b : List ℕ) → (port.name ≡ a) ⊎ (port.name ≡ b) → (client_part port.name ≡ client_part a) ⊎ (client_part port.name ≡ client_part b)
part_of_either port a b (inl e) = inl (ap client_part e)
part_of_either port a b (inr e) = inr (ap client_part e)

-- a client changed, active where it was
changed_client : (name : List ℕ) (change : OpenClient → OpenClient) (clients : List OpenClient) (client : OpenClient) → Contains clients client
    → ((c : OpenClient) → (change c).name ≡ c.name) → (bytes_eq client.name name ≡ true → (change client).active ≡ true) → client.active ≡ true
    → (c : OpenClient) × Contains (with_client name change clients) c × (c.name ≡ client.name) × (c.active ≡ true)
changed_client name change clients client m same_name stays active = (changed client, map-contains changed clients client m, named (bytes_eq client.name name), is_active (bytes_eq client.name name) refl)
  where
    changed : OpenClient → OpenClient
    changed c = if bytes_eq c.name name then change c else c

    named : (b : Bool) → (cond b (change client) client).name ≡ client.name
    named true = same_name client
    named false = refl

    is_active : (b : Bool) → bytes_eq client.name name ≡ b → (cond b (change client) client).active ≡ true
    is_active true e = stays e
    is_active false e = active

-- where edges stay, and ports and clients may only come
IsWired-all : (state new : State) → AreWired state → ((edge : Connection) → Contains new.edges edge → WasThere state.edges edge)
    → ((port : OpenPort) → Contains state.ports port → Contains new.ports port)
    → ((client : OpenClient) → Contains state.clients client → client.active ≡ true → (c : OpenClient) × Contains new.clients c × (c.name ≡ client.name) × (c.active ≡ true))
    → AreWired new
IsWired-all state new wired edges ports clients edge m =
    let w = edges edge m in
    IsWired-kept state new w.0 edge (wired w.0 w.1) w.2 w.3 (λ port k e. ports port k) (λ client k e a. clients client k a)

still_there : (edges : List Connection) (edge : Connection) → Contains edges edge → WasThere edges edge
still_there edges edge m = (edge, m, refl, refl)

was_left : (stays : Connection → Bool) (edges : List Connection) (edge : Connection) → Contains (edges_left stays edges) edge → WasThere edges edge
was_left stays edges edge m = let w = edges_left-stays stays edges edge m in (w.0, w.1, w.3, w.4)

some_port : (o : Option OpenPort) → is_none o ≡ false → (port : OpenPort) × (o ≡ Some port)
some_port None h = absurd (true≢false h)
some_port (Some port) h = (port, refl)

some_client : (o : Option OpenClient) → is_some o ≡ true → (client : OpenClient) × (o ≡ Some client)
some_client None h = absurd (true≢false (sym h))
some_client (Some client) h = (client, refl)

same_types : (a b : Bool) → not (same_bool a b) ≡ false → b ≡ a
same_types true true h = refl
same_types true false h = absurd (true≢false h)
same_types false true h = absurd (true≢false h)
same_types false false h = refl

told : (b : Bool) → not b ≡ false → b ≡ true
told true h = refl
told false h = absurd (true≢false h)

-- an active client of a port
active_client : (state : State) (name : List ℕ) → is_active_in state name ≡ true → (client : OpenClient) × Contains state.clients client × (client.name ≡ name) × (client.active ≡ true)
active_client state name h =
    let w = some_client (find (λ (c : OpenClient). bytes_eq c.name name && c.active) state.clients) h in
    let both = and_parts (bytes_eq w.0.name name) w.0.active (find-passes (λ (c : OpenClient). bytes_eq c.name name && c.active) state.clients w.0 w.1) in
    (w.0, find-contains (λ (c : OpenClient). bytes_eq c.name name && c.active) state.clients w.0 w.1, bytes_same w.0.name name both.0, both.1)

AreWired-effect : (state : State) (number : ℕ) (command : Command) → AreWired state → is_none (find (applies state command) (refusals_of command)) ≡ true → AreWired (effect state number command)
AreWired-effect state number (Open name kind) wired accepted edge m =
    IsWired-all state (effect state number (Open name kind)) wired (still_there state.edges) (λ port m. m)
    (λ client m a. (client, Contains-append_left state.clients (record { name = name; kind = kind; birth = number; active = false; slow = 0 } ∷ []) client m, refl, a)) edge m
AreWired-effect state number (Close name) wired accepted edge m =
    let w = edges_left-stays (λ edge. not (touches name edge)) state.edges edge m in
    let apart : (bytes_eq (client_part w.0.source) name || bytes_eq (client_part w.0.destination) name) ≡ false = untrue (touches name w.0) w.2 in
    IsWired-kept state (effect state number (Close name)) w.0 edge (wired w.0 w.1) w.3 w.4
    (λ port k e. filter-keeps (λ (p : OpenPort). not (bytes_eq (client_part p.name) name)) state.ports port k
    (ap not (apart_name name (client_part w.0.source) (client_part w.0.destination) (client_part port.name) apart (part_of_either port w.0.source w.0.destination e))))
    (λ client k e a. (
      client,
      filter-keeps (λ (c : OpenClient). not (bytes_eq c.name name)) state.clients client k
          (ap not (apart_name name (client_part w.0.source) (client_part w.0.destination) client.name apart e)),
      refl,
      a,
    ))
AreWired-effect state number (Activate name) wired accepted edge m =
    IsWired-all state (effect state number (Activate name)) wired (still_there state.edges) (λ port m. m)
    (λ client m a. changed_client name (λ c. record c { active = true }) state.clients client m (λ c. refl) (λ e. refl) a) edge m
AreWired-effect state number (Deactivate name) wired accepted edge m =
    let w = edges_left-stays (λ edge. not (touches name edge)) state.edges edge m in
    let apart : (bytes_eq (client_part w.0.source) name || bytes_eq (client_part w.0.destination) name) ≡ false = untrue (touches name w.0) w.2 in
    IsWired-kept state (effect state number (Deactivate name)) w.0 edge (wired w.0 w.1) w.3 w.4
    (λ port k e. k)
    (λ client k e a. changed_client name (λ c. record c { active = false }) state.clients client k (λ c. refl)
    (λ t. absurd (true≢false (sym t ∙ apart_name name (client_part w.0.source) (client_part w.0.destination) client.name apart e))) a)
AreWired-effect state number (Register port way kind) wired accepted edge m =
    IsWired-all state (effect state number (Register port way kind)) wired (still_there state.edges)
    (λ p m. Contains-append_left state.ports (record { name = port; way = way; kind = kind; birth = number } ∷ []) p m) (same_client state) edge m
AreWired-effect state number (Unregister port) wired accepted edge m =
    let w = edges_left-stays (λ edge. not (bytes_eq edge.source port || bytes_eq edge.destination port)) state.edges edge m in
    let apart : (bytes_eq w.0.source port || bytes_eq w.0.destination port) ≡ false = untrue (bytes_eq w.0.source port || bytes_eq w.0.destination port) w.2 in
    IsWired-kept state (effect state number (Unregister port)) w.0 edge (wired w.0 w.1) w.3 w.4
    (λ p k e. filter-keeps (λ (other : OpenPort). not (bytes_eq other.name port)) state.ports p k (ap not (apart_name port w.0.source w.0.destination p.name apart e)))
    (λ client k e a. (client, k, refl, a))
AreWired-effect state number (Connect source destination) wired accepted edge m = go (Contains-append_cases state.edges (new ∷ []) edge m)
  where
    new : Connection
    new = record { source = source; destination = destination; mark = mark_of state.edges source destination }

    next : State
    next = effect state number (Connect source destination)

    unrefused : (other : Refusal) → Contains (NoSource ∷ NoDestination ∷ NotOutput ∷ NotInput ∷ TypeDiffers ∷ Inactive ∷ Exists ∷ Full ∷ []) other → applies state (Connect source destination) other ≡ false
    unrefused other k = refused_not state (Connect source destination) (refusals_of (Connect source destination)) other accepted k

    from : (port : OpenPort) × (port_named state source ≡ Some port)
    from = some_port (port_named state source) (unrefused NoSource (0, omega arith, refl))

    to : (port : OpenPort) × (port_named state destination ≡ Some port)
    to = some_port (port_named state destination) (unrefused NoDestination (1, omega arith, refl))

    goes_out : is_input from.0 ≡ false
    goes_out = sym (ap (λ o. option_map_or is_input o false) from.1) ∙ unrefused NotOutput (2, omega arith, refl)

    goes_in : is_input to.0 ≡ true
    goes_in = told (is_input to.0) (sym (ap (λ o. option_map_or (λ port. not (is_input port)) o false) to.1) ∙ unrefused NotInput (3, omega arith, refl))

    one_type : is_audio to.0 ≡ is_audio from.0
    one_type = same_types (is_audio from.0) (is_audio to.0)
        (sym (ap (λ o. types_differ o (Some to.0)) from.1) ∙ sym (ap (λ o. types_differ (port_named state source) o) to.1) ∙ unrefused TypeDiffers (4, omega arith, refl))

    both : (is_active_in state (client_part source) ≡ true) × (is_active_in state (client_part destination) ≡ true)
    both = and_parts (is_active_in state (client_part source)) (is_active_in state (client_part destination))
        (told (is_active_in state (client_part source) && is_active_in state (client_part destination)) (unrefused Inactive (5, omega arith, refl)))

    port_end : (is_in : Bool) (name : List ℕ) (port : OpenPort) → port_named state name ≡ Some port → is_input port ≡ is_in → is_audio port ≡ is_audio from.0 → is_active_in state (client_part name) ≡ true → IsEnd next is_in (is_audio from.0) name
    port_end is_in name port there way type_is active =
        let client = active_client state (client_part name) active in record {
          port = port;
          client = client.0;
          listed = find-contains (λ (p : OpenPort). bytes_eq p.name name) state.ports port there;
          named = bytes_same port.name name (find-passes (λ (p : OpenPort). bytes_eq p.name name) state.ports port there);
          direction = way;
          type_is = type_is;
          open_client = client.1;
          client_is = client.2;
          active = client.3;
        }

    made : IsWired next new
    made = (is_audio from.0, port_end false source from.0 from.1 goes_out refl both.0, port_end true destination to.0 to.1 goes_in one_type both.1)

    last : (new ≡ edge) ⊎ Contains [] edge → IsWired next edge
    last (inl e) = subst (IsWired next) e made
    last (inr k) = absurd (none_below k.1)

    go : Contains state.edges edge ⊎ Contains (new ∷ []) edge → IsWired next edge
    go (inl k) = IsWired-kept state next edge edge (wired edge k) refl refl (λ port n e. n) (λ client n e a. (client, n, refl, a))
    go (inr k) = last (Contains-cases new edge [] k)
AreWired-effect state number (Disconnect source destination) wired accepted edge m =
    IsWired-all state (effect state number (Disconnect source destination)) wired (was_left (λ edge. not (bytes_eq edge.source source && bytes_eq edge.destination destination)) state.edges) (λ port m. m) (same_client state) edge m
AreWired-effect state number (Slow name cycles) wired accepted edge m =
    IsWired-all state (effect state number (Slow name cycles)) wired (still_there state.edges) (λ port m. m)
    (λ client m a. changed_client name (λ c. record c { slow = cycles }) state.clients client m (λ c. refl) (λ e. a) a) edge m
AreWired-effect state number Start wired accepted edge m = wired edge m
AreWired-effect state number Stop wired accepted edge m = wired edge m
AreWired-effect state number (Locate frame) wired accepted edge m = wired edge m
AreWired-effect state number (Latency mode port) wired accepted edge m = wired edge m
AreWired-effect state number (Timeout cycles) wired accepted edge m =
    IsWired-all state (effect state number (Timeout cycles)) wired (still_there state.edges) (λ port m. m) (same_client state) edge m
AreWired-effect state number (Timebase name mbpm beats ticks) wired accepted edge m =
    IsWired-all state (effect state number (Timebase name mbpm beats ticks)) wired (still_there state.edges) (λ port m. m) (same_client state) edge m
AreWired-effect state number (TimebaseIf name mbpm beats ticks) wired accepted edge m =
    IsWired-all state (effect state number (TimebaseIf name mbpm beats ticks)) wired (still_there state.edges) (λ port m. m) (same_client state) edge m
AreWired-effect state number (Release name) wired accepted edge m =
    IsWired-all state (effect state number (Release name)) wired (still_there state.edges) (λ port m. m) (same_client state) edge m

AreWired-after : (state : State) (number : ℕ) (command : Command) → AreWired state → AreWired (after state number command)
AreWired-after state number command wired = go (is_none (refusal state command)) refl
  where
    go : (b : Bool) → is_none (refusal state command) ≡ b → AreWired (cond b (effect state number command) state)
    go true e = AreWired-effect state number command wired e
    go false e = wired

pub AreWired-replay : (state : State) (changes : List Change) → AreWired state → AreWired (replay state changes)
AreWired-replay state [] wired = wired
AreWired-replay state (change ∷ changes) wired = AreWired-replay (after state change.number change.command) changes (AreWired-after state change.number change.command wired)

pub AreWired-opening : (capture playback : ℕ) → AreWired (opening capture playback)
AreWired-opening capture playback edge m = absurd (none_below m.1)
