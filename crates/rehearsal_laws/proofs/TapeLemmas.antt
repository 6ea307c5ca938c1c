-- The client that records, behind the calls of a rehearsal.
--     HasTape clients      an active client among them records on the first recorder
--     tape-kept      no later change takes it away
--     early-calls      behind calls that open other clients, so many of them are open
--     tape-made      behind the three calls that open the tape and activate it, it is there
use Rattle.std.proofs.Common.{◌≡◌, ℕ, ◌+◌, ◌<◌, ◌≤◌, ◌==◌, Bool, true, false, cond, not, ◌&&◌, nat_le, ◌⊎◌, inl, inr, List, [], ◌∷◌, ◌++◌, length, length-append, map, filter, find, count_by, Option, Some, None, is_none, refl, sym, ◌∙◌, ap, subst, arith}
use Rattle.std.specs.Prelude.{⊤, codes, is_some}
use Rattle.std.specs.List.{AllByRecursion}
use Rattle.std.specs.Str.{bytes_eq}
use Rattle.std.proofs.lemmas.Bool.Decides.{nat_tests}
use Rattle.std.proofs.lemmas.List.{length-map}
use Rattle.std.proofs.lemmas.List.Elements.{filter_map-append}
use Rattle.std.proofs.lemmas.List.Sums.{count_by-le-length, sum_by-cons}
use Rattle.jack_types.specs.declared.commands.Call.{Call}
use Rattle.jack_types.specs.declared.commands.Change.{Change}
use Rattle.jack_types.specs.declared.commands.Command.{Command}
use Rattle.jack_types.specs.declared.commands.Command.TheVariants.{Open, Close, Activate, Deactivate, Register, Connect, Start, Slow, Latency}
use Rattle.jack_types.specs.declared.kinds.Kind.TheVariants.{Tape}
use Rattle.jack_types.specs.declared.ports.PortKind.TheVariants.{Audio}
use Rattle.jack_types.specs.declared.ports.Way.TheVariants.{In}
use Rattle.jack_types.specs.declared.replies.Entry.{Entry}
use Rattle.jack_types.specs.declared.replies.Refusal.{Refusal}
use Rattle.jack_types.specs.declared.replies.Refusal.TheVariants.{NoClient, IsOpen, IsSystem, AlreadyActive, ClientsFull, InUse}
use Rattle.jack_types.specs.declared.scripts.Body.{Body}
use Rattle.jack_types.specs.declared.scripts.Body.TheVariants.{Do, Run, Freewheel, Lane, Period}
use Rattle.rehearsal_model.specs.Rehearsals.{output_name}
use Rattle.session_model.specs.Commands.{after, effect, refusal, replay, shares}
use Rattle.session_model.specs.Grammar.{is_open, opens}
use Rattle.session_model.specs.Histories.{accepted, change_of, stage_of, state_after}
use Rattle.session_model.specs.Recorders.{is_tape}
use Rattle.session_model.specs.Replies.{granted, reply, reply_by}
use Rattle.session_model.specs.Scripts.{Script, Planned, Uncounted, counted}
use Rattle.session_model.specs.Serial.{answered, history_with}
use Rattle.session_model.specs.State.{State, OpenClient, is_system, opening}
use Rattle.session_laws.proofs.ListLemmas.{Each, Each-append}

-- ---- a tape that is there stays

abbrev IsTape : OpenClient → Type 0
IsTape client = (is_tape 0 client.kind ≡ true) × (client.active ≡ true) × (is_system client.name ≡ false)

abbrev pub HasTape : List OpenClient → Type 0
HasTape [] = ⊥
HasTape (client ∷ clients) = IsTape client ⊎ HasTape clients

-- what takes no client away, and makes none inactive
abbrev pub Stays : Command → Type 0
Stays (Close _) = ⊥
Stays (Deactivate _) = ⊥
Stays _ = ⊤

tape-append : (clients more : List OpenClient) → HasTape clients → HasTape (clients ++ more)
tape-append [] more has = absurd has
tape-append (client ∷ clients) more (inl is) = inl is
tape-append (client ∷ clients) more (inr has) = inr (tape-append clients more has)

tape-map : (f : OpenClient → OpenClient) → ((client : OpenClient) → IsTape client → IsTape (f client)) → (clients : List OpenClient) → HasTape clients → HasTape (map f clients)
tape-map f keeps [] has = absurd has
tape-map f keeps (client ∷ clients) (inl is) = inl (keeps client is)
tape-map f keeps (client ∷ clients) (inr has) = inr (tape-map f keeps clients has)

tape-activated : (name : List ℕ) (client : OpenClient) → IsTape client → IsTape (cond (bytes_eq client.name name) (record client { active = true }) client)
tape-activated name client is = go (bytes_eq client.name name)
  where
    go : (b : Bool) → IsTape (cond b (record client { active = true }) client)
    go true = (is.0, refl, is.2)
    go false = is

tape-slowed : (name : List ℕ) (cycles : ℕ) (client : OpenClient) → IsTape client → IsTape (cond (bytes_eq client.name name) (record client { slow = cycles }) client)
tape-slowed name cycles client is = go (bytes_eq client.name name)
  where
    go : (b : Bool) → IsTape (cond b (record client { slow = cycles }) client)
    go true = is
    go false = is

tape-effect : (state : State) (number : ℕ) (command : Command) → Stays command → HasTape state.clients → HasTape (effect state number command).clients
tape-effect state number (Open name kind) stays has = tape-append state.clients (record { name = name; kind = kind; birth = number; active = false; slow = 0 } ∷ []) has
tape-effect state number (Close _) stays has = absurd stays
tape-effect state number (Activate name) stays has = tape-map (λ client. cond (bytes_eq client.name name) (record client { active = true }) client) (tape-activated name) state.clients has
tape-effect state number (Deactivate _) stays has = absurd stays
tape-effect state number (Slow name cycles) stays has = tape-map (λ client. cond (bytes_eq client.name name) (record client { slow = cycles }) client) (tape-slowed name cycles) state.clients has
tape-effect state number _ stays has = has

tape-after : (state : State) (number : ℕ) (command : Command) → Stays command → HasTape state.clients → HasTape (after state number command).clients
tape-after state number command stays has = go (is_none (refusal state command))
  where
    go : (b : Bool) → HasTape (cond b (effect state number command) state).clients
    go true = tape-effect state number command stays has
    go false = has

pub tape-kept : (state : State) (changes : List Change) → Each (λ (change : Change). Stays change.command) changes → HasTape state.clients → HasTape (replay state changes).clients
tape-kept state [] stay has = has
tape-kept state (change ∷ changes) stay has = tape-kept (after state change.number change.command) changes stay.1 (tape-after state change.number change.command stay.0 has)

-- it is found among those that play
pub tape-found : (clients : List OpenClient) → HasTape clients → is_some (find (λ (client : OpenClient). is_tape 0 client.kind) (filter (λ (client : OpenClient). client.active && not (is_system client.name)) clients)) ≡ true
tape-found [] has = absurd has
tape-found (client ∷ clients) (inl is) = rw (is.1, is.2, is.0) refl
tape-found (client ∷ clients) (inr has) = go (client.active && not (is_system client.name)) (tape-found clients has)
  where
    others : List OpenClient
    others = filter (λ (other : OpenClient). other.active && not (is_system other.name)) clients

    first : (b : Bool) → is_some (find (λ (other : OpenClient). is_tape 0 other.kind) others) ≡ true → is_some (cond b (Some client) (find (λ (other : OpenClient). is_tape 0 other.kind) others)) ≡ true
    first true found = refl
    first false found = found

    go : (b : Bool) → is_some (find (λ (other : OpenClient). is_tape 0 other.kind) others) ≡ true → is_some (find (λ (other : OpenClient). is_tape 0 other.kind) (cond b (client ∷ others) others)) ≡ true
    go true found = first (is_tape 0 client.kind) found
    go false found = found

-- ---- what a reply makes of the state

replay-append : (state : State) (a b : List Change) → replay state (a ++ b) ≡ replay (replay state a) b
replay-append state [] b = refl
replay-append state (change ∷ a) b = replay-append (after state change.number change.command) a b

pub accepted-append : (xs ys : List Entry) → accepted (xs ++ ys) ≡ accepted xs ++ accepted ys
accepted-append xs ys = filter_map-append change_of xs ys

pub state-behind : (script : Script) (history : List Entry) (changes more : List Change) → changes ≡ accepted history ++ more → replay (opening script.header.capture script.header.playback) changes ≡ replay (state_after script history) more
state-behind script history changes more same =
    ap (replay (opening script.header.capture script.header.playback)) same
    ∙ replay-append (opening script.header.capture script.header.playback) (accepted history) more

behind-reply : (state : State) (number : ℕ) (call : Call) → replay state (accepted (record { call = call; reply = reply state number call.command } ∷ [])) ≡ after state number call.command
behind-reply state number call = go (refusal state call.command) refl
  where
    grants : (c : Command) → replay state (accepted (record { call = record call { command = c }; reply = granted state number c } ∷ [])) ≡ after state number c
    grants (Latency mode port) = same (is_none (refusal state (Latency mode port)))
      where
        same : (b : Bool) → state ≡ cond b state state
        same true = refl
        same false = refl
    grants _ = refl

    go : (o : Option Refusal) → refusal state call.command ≡ o → replay state (accepted (record { call = call; reply = reply_by state number call.command o } ∷ [])) ≡ after state number call.command
    go (Some r) e = ap (λ q. cond (is_none q) (effect state number call.command) state) (sym e)
    go None e = grants call.command

state-answered : (script : Script) (history : List Entry) (call : Call) → state_after script (history ++ answered script history call ∷ []) ≡ after (state_after script history) (length (accepted history) + 1) call.command
state-answered script history call =
    state-behind script history (accepted (history ++ answered script history call ∷ [])) (accepted (answered script history call ∷ [])) (accepted-append history (answered script history call ∷ []))
    ∙ behind-reply (state_after script history) (length (accepted history) + 1) call

-- ---- clients before the tape is opened

abbrev tape_name : List ℕ
tape_name = codes "tape"

-- a client of another name, that takes no recorder
abbrev IsOther : OpenClient → Type 0
IsOther client = (bytes_eq client.name tape_name ≡ false) × (shares client.kind (Tape 0) ≡ false)

pub record AreOthers (most : ℕ) (clients : List OpenClient) : Type 0 where
  pub each : Each IsOther clients
  pub few : length clients ≤ most

-- what opens no tape, and takes no client away
abbrev IsEarly : Command → Type 0
IsEarly (Open name kind) = (bytes_eq name tape_name ≡ false) × (shares kind (Tape 0) ≡ false)
IsEarly (Register _ _ _) = ⊤
IsEarly (Activate _) = ⊤
IsEarly (Connect _ _) = ⊤
IsEarly _ = ⊥

abbrev pub IsEarlyLine : Body → Type 0
IsEarlyLine (Do command) = IsEarly command
IsEarlyLine (Run _) = ⊥
IsEarlyLine (Freewheel _) = ⊥
IsEarlyLine (Lane _ _ _) = ⊥
IsEarlyLine (Period _) = ⊥

others-activated : (name : List ℕ) (clients : List OpenClient) → Each IsOther clients → Each IsOther (map (λ client. cond (bytes_eq client.name name) (record client { active = true }) client) clients)
others-activated name [] each = tt
others-activated name (client ∷ clients) each = (go (bytes_eq client.name name), others-activated name clients each.1)
  where
    go : (b : Bool) → IsOther (cond b (record client { active = true }) client)
    go true = each.0
    go false = each.0

others-more : (m n : ℕ) (clients : List OpenClient) → m ≤ n → AreOthers m clients → AreOthers n clients
others-more m n clients more are = record { each = are.each; few = let few = are.few in omega (arith, more, few) }

others-effect : (m : ℕ) (state : State) (number : ℕ) (command : Command) → IsEarly command → AreOthers m state.clients → AreOthers (m + cond (is_open command) 1 0) (effect state number command).clients
others-effect m state number (Open name kind) early are =
    record {
      each = Each-append IsOther state.clients (record { name = name; kind = kind; birth = number; active = false; slow = 0 } ∷ []) are.each (early, tt);
      few = one (length (state.clients ++ record { name = name; kind = kind; birth = number; active = false; slow = 0 } ∷ [])) (length-append state.clients (record { name = name; kind = kind; birth = number; active = false; slow = 0 } ∷ []));
    }
  where
    one : (n : ℕ) → n ≡ length state.clients + 1 → n ≤ m + 1
    one n same = let few = are.few in omega (arith, same, few)
others-effect m state number (Register _ _ _) early are = others-more m (m + 0) state.clients (omega arith) are
others-effect m state number (Activate name) early are =
    record {
      each = others-activated name state.clients are.each;
      few = same (length (map (λ client. cond (bytes_eq client.name name) (record client { active = true }) client) state.clients)) (length-map state.clients (λ client. cond (bytes_eq client.name name) (record client { active = true }) client));
    }
  where
    same : (n : ℕ) → n ≡ length state.clients → n ≤ m + 0
    same n is = let few = are.few in omega (arith, is, few)
others-effect m state number (Connect _ _) early are = others-more m (m + 0) state.clients (omega arith) are
others-effect m state number _ early are = absurd early

others-after : (m : ℕ) (state : State) (number : ℕ) (command : Command) → IsEarly command → AreOthers m state.clients → AreOthers (m + cond (is_open command) 1 0) (after state number command).clients
others-after m state number command early are = go (is_none (refusal state command))
  where
    go : (b : Bool) → AreOthers (m + cond (is_open command) 1 0) (cond b (effect state number command) state).clients
    go true = others-effect m state number command early are
    go false = others-more m (m + cond (is_open command) 1 0) state.clients (omega arith) are

-- ---- the calls of lane 0

abbrev pub commands_in : List Body → List Command
commands_in [] = []
commands_in (Do command ∷ lines) = command ∷ commands_in lines
commands_in (Run _ ∷ lines) = commands_in lines
commands_in (Freewheel _ ∷ lines) = commands_in lines
commands_in (Lane _ _ _ ∷ lines) = commands_in lines
commands_in (Period _ ∷ lines) = commands_in lines

abbrev pub uncounted_do : Command → Uncounted
uncounted_do command = record { lane = 0; command = command; stage = 0; asked = 0 }

abbrev pub plans_of : List Uncounted → List Body → List Planned
plans_of earlier dos = counted earlier (map uncounted_do (commands_in dos))

-- a call of the first phase, made before its segment
abbrev pub IsFirst : Script → Call → Type 0
IsFirst script call = stage_of script call ≡ 0

-- the calls of some lines were made, and those of the others are still to be made
pub record Made (script : Script) (most : ℕ) (start : List Entry) (earlier : List Uncounted) (dos ends : List Body) : Type 0 where
  pub history : List Entry
  pub before : List Uncounted
  pub same : history_with script start (plans_of earlier (dos ++ ends)) ≡ history_with script history (plans_of before ends)
  pub clients : AreOthers most (state_after script history).clients
  pub made : Each (λ (entry : Entry). IsFirst script entry.call) history
  pub rest : Each (λ (plan : Planned). IsFirst script plan.call) (plans_of before ends)

pub early-calls : (script : Script) (most : ℕ) (ends dos : List Body) (m : ℕ) (start : List Entry) (earlier : List Uncounted) → AllByRecursion IsEarlyLine dos → m + count_by opens dos ≤ most
    → AreOthers m (state_after script start).clients → Each (λ (entry : Entry). IsFirst script entry.call) start → Each (λ (plan : Planned). IsFirst script plan.call) (plans_of earlier (dos ++ ends))
    → Made script most start earlier dos ends
early-calls script most ends [] m start earlier early few are made rest =
    record { history = start; before = earlier; same = refl; clients = others-more m most (state_after script start).clients (omega (arith, few)) are; made = made; rest = rest }
early-calls script most ends (Do command ∷ dos) m start earlier early few are made rest =
    let call : Call = record { lane = 0; index = count_by (λ (other : Uncounted). other.lane == 0) earlier + 1; command = command } in
    let one : count_by opens (Do command ∷ dos) ≡ cond (is_open command) 1 0 + count_by opens dos = sum_by-cons (λ (line : Body). cond (opens line) 1 0) (Do command) dos in
    let later : Made script most (start ++ answered script start call ∷ []) (earlier ++ uncounted_do command ∷ []) dos ends =
    early-calls script most ends dos (m + cond (is_open command) 1 0) (start ++ answered script start call ∷ []) (earlier ++ uncounted_do command ∷ []) early.1 (omega (arith, one, few))
    (subst (λ (state : State). AreOthers (m + cond (is_open command) 1 0) state.clients) (sym (state-answered script start call)) (others-after m (state_after script start) (length (accepted start) + 1) command early.0 are))
    (Each-append (λ (entry : Entry). IsFirst script entry.call) start (answered script start call ∷ []) made (rest.0, tt)) rest.1 in
    record { history = later.history; before = later.before; same = later.same; clients = later.clients; made = later.made; rest = later.rest }
early-calls script most ends (Run _ ∷ dos) m start earlier early few are made rest = absurd early.0
early-calls script most ends (Freewheel _ ∷ dos) m start earlier early few are made rest = absurd early.0
early-calls script most ends (Lane _ _ _ ∷ dos) m start earlier early few are made rest = absurd early.0
early-calls script most ends (Period _ ∷ dos) m start earlier early few are made rest = absurd early.0

-- ---- the tape is opened

abbrev tape_client : ℕ → OpenClient
tape_client birth = record { name = tape_name; kind = Tape 0; birth = birth; active = false; slow = 0 }

found-behind : (p : OpenClient → Bool) (clients more : List OpenClient) → Each (λ client. p client ≡ false) clients → find p (clients ++ more) ≡ find p more
found-behind p [] more none = refl
found-behind p (client ∷ clients) more none = ap (λ b. cond b (Some client) (find p (clients ++ more))) none.0 ∙ found-behind p clients more none.1

found-none : (p : OpenClient → Bool) (clients : List OpenClient) → Each (λ client. p client ≡ false) clients → find p clients ≡ None
found-none p [] none = refl
found-none p (client ∷ clients) none = ap (λ b. cond b (Some client) (find p clients)) none.0 ∙ found-none p clients none.1

each-named : (clients : List OpenClient) → Each IsOther clients → Each (λ (client : OpenClient). bytes_eq client.name tape_name ≡ false) clients
each-named [] each = tt
each-named (client ∷ clients) each = (each.0.0, each-named clients each.1)

each-shared : (clients : List OpenClient) → Each IsOther clients → Each (λ (client : OpenClient). shares client.kind (Tape 0) ≡ false) clients
each-shared [] each = tt
each-shared (client ∷ clients) each = (each.0.1, each-shared clients each.1)

each-active : (clients : List OpenClient) → Each IsOther clients → Each (λ (client : OpenClient). (bytes_eq client.name tape_name && client.active) ≡ false) clients
each-active [] each = tt
each-active (client ∷ clients) each = (ap (λ b. b && client.active) each.0.0, each-active clients each.1)

-- none of three refusals applies
none-of : (x y z : Refusal) (a b c : Bool) → a ≡ false → b ≡ false → c ≡ false → cond a (Some x) (cond b (Some y) (cond c (Some z) None)) ≡ None
none-of x y z a b c p q r = rw (p, q, r) refl

abbrev activated : OpenClient → OpenClient
activated client = cond (bytes_eq client.name tape_name) (record client { active = true }) client

module _ (state : State) (number : ℕ) where
  tape-opened : (most : ℕ) → most ≤ 63 → AreOthers most state.clients → (after state number (Open tape_name (Tape 0))).clients ≡ state.clients ++ tape_client number ∷ []
  tape-opened most low are = ap (λ (o : Option Refusal). (cond (is_none o) (effect state number (Open tape_name (Tape 0))) state).clients) none
    where
      full : nat_le 64 (count_by (λ (client : OpenClient). not (is_system client.name)) state.clients) ≡ false
      full =
          let few = are.few in
          let within = count_by-le-length (λ (client : OpenClient). not (is_system client.name)) state.clients in
          let less : count_by (λ (client : OpenClient). not (is_system client.name)) state.clients < 64 = omega (arith, few, low, within) in
          grind (arith, nat_tests, less)

      none : refusal state (Open tape_name (Tape 0)) ≡ None
      none =
          none-of IsOpen ClientsFull InUse
          (is_some (find (λ (client : OpenClient). bytes_eq client.name tape_name) state.clients))
          (nat_le 64 (count_by (λ (client : OpenClient). not (is_system client.name)) state.clients))
          (is_some (find (λ (client : OpenClient). shares client.kind (Tape 0)) state.clients))
          (ap is_some (found-none (λ (client : OpenClient). bytes_eq client.name tape_name) state.clients (each-named state.clients are.each)))
          full
          (ap is_some (found-none (λ (client : OpenClient). shares client.kind (Tape 0)) state.clients (each-shared state.clients are.each)))

  tape-registered : (name : List ℕ) → (after state number (Register name In Audio)).clients ≡ state.clients
  tape-registered name = same (is_none (refusal state (Register name In Audio)))
    where
      same : (b : Bool) → (cond b (effect state number (Register name In Audio)) state).clients ≡ state.clients
      same true = refl
      same false = refl

  tape-activated-last : (others : List OpenClient) (birth : ℕ) → Each IsOther others → state.clients ≡ others ++ tape_client birth ∷ [] → HasTape (after state number (Activate tape_name)).clients
  tape-activated-last others birth each same = subst HasTape (sym (ap (λ (o : Option Refusal). (cond (is_none o) (effect state number (Activate tape_name)) state).clients) none ∙ ap (map activated) same)) (last others)
    where
      none : refusal state (Activate tape_name) ≡ None
      none =
          none-of NoClient IsSystem AlreadyActive
          (is_none (find (λ (client : OpenClient). bytes_eq client.name tape_name) state.clients))
          (is_system tape_name)
          (is_some (find (λ (client : OpenClient). bytes_eq client.name tape_name && client.active) state.clients))
          (ap (λ (clients : List OpenClient). is_none (find (λ (client : OpenClient). bytes_eq client.name tape_name) clients)) same
          ∙ ap is_none (found-behind (λ (client : OpenClient). bytes_eq client.name tape_name) others (tape_client birth ∷ []) (each-named others each)))
          refl
          (ap (λ (clients : List OpenClient). is_some (find (λ (client : OpenClient). bytes_eq client.name tape_name && client.active) clients)) same
          ∙ ap is_some (found-behind (λ (client : OpenClient). bytes_eq client.name tape_name && client.active) others (tape_client birth ∷ []) (each-active others each)))

      last : (clients : List OpenClient) → HasTape (map activated (clients ++ tape_client birth ∷ []))
      last [] = inl (refl, refl, refl)
      last (client ∷ clients) = inr (last clients)

-- the lines that open it, and those behind them
abbrev pub tape_lines : List Body
tape_lines =
    Do (Open tape_name (Tape 0)) ∷ Do (Register (codes "tape:i") In Audio) ∷ Do (Activate tape_name) ∷ Do (Connect (output_name 15) (codes "tape:i"))
    ∷ Do Start ∷ []

-- behind the first entries the tape is there, and it stays
pub record IsTaped (script : Script) (start : List Entry) (plans : List Planned) : Type 0 where
  pub history : List Entry
  pub rest : List Planned
  pub same : history_with script start plans ≡ history_with script history rest
  pub tape : HasTape (state_after script history).clients
  pub made : Each (λ (entry : Entry). IsFirst script entry.call) history
  pub stay : Each (λ (plan : Planned). Stays plan.call.command) rest

call_behind : List Uncounted → Command → Call
call_behind earlier command = record { lane = 0; index = count_by (λ (other : Uncounted). other.lane == 0) earlier + 1; command = command }

pub tape-made : (script : Script) (most : ℕ) (start : List Entry) (earlier : List Uncounted) → most ≤ 63 → AreOthers most (state_after script start).clients
    → Each (λ (entry : Entry). IsFirst script entry.call) start → Each (λ (plan : Planned). IsFirst script plan.call) (plans_of earlier tape_lines)
    → IsTaped script start (plans_of earlier tape_lines)
unfolding call_behind
tape-made script most start earlier low are made rest =
    let more : List Entry → Command → List Uncounted → List Entry = λ history command before. history ++ answered script history (call_behind before command) ∷ [] in
    let one : List Entry = more start (Open tape_name (Tape 0)) earlier in
    let before_two : List Uncounted = earlier ++ uncounted_do (Open tape_name (Tape 0)) ∷ [] in
    let two : List Entry = more one (Register (codes "tape:i") In Audio) before_two in
    let before_three : List Uncounted = before_two ++ uncounted_do (Register (codes "tape:i") In Audio) ∷ [] in
    let three : List Entry = more two (Activate tape_name) before_three in
    let birth : ℕ = length (accepted start) + 1 in
    let opened : (state_after script one).clients ≡ (state_after script start).clients ++ tape_client birth ∷ [] =
    ap (λ (state : State). state.clients) (state-answered script start (call_behind earlier (Open tape_name (Tape 0)))) ∙ tape-opened (state_after script start) birth most low are in
    let registered : (state_after script two).clients ≡ (state_after script start).clients ++ tape_client birth ∷ [] =
    ap (λ (state : State). state.clients) (state-answered script one (call_behind before_two (Register (codes "tape:i") In Audio)))
    ∙ tape-registered (state_after script one) (length (accepted one) + 1) (codes "tape:i") ∙ opened in
    let has : HasTape (after (state_after script two) (length (accepted two) + 1) (Activate tape_name)).clients =
    tape-activated-last (state_after script two) (length (accepted two) + 1) (state_after script start).clients birth are.each registered in
    let IsMade : Entry → Type 0 = λ (entry : Entry). IsFirst script entry.call in
    let each_one : Each IsMade one = Each-append IsMade start (answered script start (call_behind earlier (Open tape_name (Tape 0))) ∷ []) made (rest.0, tt) in
    let each_two : Each IsMade two = Each-append IsMade one (answered script one (call_behind before_two (Register (codes "tape:i") In Audio)) ∷ []) each_one (rest.1.0, tt) in
    record {
      history = three;
      rest = plans_of (before_three ++ uncounted_do (Activate tape_name) ∷ []) (Do (Connect (output_name 15) (codes "tape:i")) ∷ Do Start ∷ []);
      same = refl;
      tape = subst (λ (state : State). HasTape state.clients) (sym (state-answered script two (call_behind before_three (Activate tape_name)))) has;
      made = Each-append IsMade two (answered script two (call_behind before_three (Activate tape_name)) ∷ []) each_two (rest.1.1.0, tt);
      stay = (tt, (tt, tt));
    }
