-- A client that is open behind more changes, and was born by the earlier ones, was open behind those, and is of the same kind.
--     WereOpen first since clients      so it is with these clients, where `first` were open behind the first `since` changes
--     WereOpen-replay      it goes on over changes of higher numbers
--     open-before      from the first of lawful changes to all of them
use Rattle.std.proofs.Common.{◌≡◌, ℕ, ◌+◌, ◌-◌, ◌<◌, ◌≤◌, Bool, true, false, cond, not, if◌then◌else◌, ◌⊎◌, inl, inr, List, [], ◌∷◌, ◌++◌, length, get_or, take, drop, Contains, Some, is_none, refl, sym, ◌∙◌, ap, subst, arith}
use Rattle.std.specs.Str.{bytes_eq}
use Rattle.std.proofs.lemmas.List.{get_or-drop, length-drop, take-append-drop}
use Rattle.std.proofs.lemmas.List.Sums.{fold-append}
use Rattle.std.proofs.lemmas.Option.{slice_get-get_or}
use Rattle.jack_types.specs.declared.commands.Change.{Change}
use Rattle.jack_types.specs.declared.commands.Command.{Command}
use Rattle.jack_types.specs.declared.commands.Command.TheVariants.{Open, Close, Activate, Deactivate, Register, Unregister, Connect, Disconnect, Start, Stop, Locate, Timeout, Slow, Timebase, TimebaseIf, Release, Latency}
use Rattle.session_model.specs.Commands.{after, effect, refusal, replay, with_client}
use Rattle.session_model.specs.Replies.{AreLawful, IsNext}
use Rattle.session_model.specs.State.{OpenClient, State}
use Rattle.session_laws.proofs.LoopFreeLemmas.{Contains-append_cases}
use Rattle.session_laws.proofs.LoopLemmas.{Contains-cases, Contains-first, Contains-later}
use Rattle.session_laws.proofs.PlaceLemmas.{filter-contains}
use Rattle.session_laws.proofs.SoundLemmas.{contains-map}

none_below : {n : ℕ} → n < 0 → ⊥
none_below p = omega arith

-- one of these clients has this birth and this kind
abbrev pub WasOpen : List OpenClient → OpenClient → Type 0
WasOpen first client = (old : OpenClient) × Contains first old × (old.birth ≡ client.birth) × (old.kind ≡ client.kind)

abbrev pub WereOpen : List OpenClient → ℕ → List OpenClient → Type 0
WereOpen first since clients = (client : OpenClient) → Contains clients client → client.birth ≤ since → WasOpen first client

module _ (first : List OpenClient) (since : ℕ) where
  -- some clients changed, births and kinds kept
  WereOpen-changed : (name : List ℕ) (change : OpenClient → OpenClient) → ((client : OpenClient) → (change client).birth ≡ client.birth) → ((client : OpenClient) → (change client).kind ≡ client.kind)
      → (clients : List OpenClient) → WereOpen first since clients → WereOpen first since (with_client name change clients)
  WereOpen-changed name change same_birth same_kind clients were client m low =
      let w = contains-map changed clients client m in
      let born : w.0.birth ≡ client.birth = sym (changed-birth w.0) ∙ ap (λ (c : OpenClient). c.birth) w.2 in
      let kinds : w.0.kind ≡ client.kind = sym (changed-kind w.0) ∙ ap (λ (c : OpenClient). c.kind) w.2 in
      let old : WasOpen first w.0 = were w.0 w.1 (omega (arith, born, low)) in
      (old.0, old.1, old.2 ∙ born, old.3 ∙ kinds)
    where
      changed : OpenClient → OpenClient
      changed client = if bytes_eq client.name name then change client else client

      changed-birth : (client : OpenClient) → (changed client).birth ≡ client.birth
      changed-birth client = go (bytes_eq client.name name)
        where
          go : (b : Bool) → (cond b (change client) client).birth ≡ client.birth
          go true = same_birth client
          go false = refl

      changed-kind : (client : OpenClient) → (changed client).kind ≡ client.kind
      changed-kind client = go (bytes_eq client.name name)
        where
          go : (b : Bool) → (cond b (change client) client).kind ≡ client.kind
          go true = same_kind client
          go false = refl

  -- a client that is new is of a later birth
  WereOpen-opened : (clients : List OpenClient) (new : OpenClient) → since < new.birth → WereOpen first since clients → WereOpen first since (clients ++ new ∷ [])
  WereOpen-opened clients new up were client m low = go (Contains-append_cases clients (new ∷ []) client m)
    where
      late : (new ≡ client) ⊎ Contains [] client → ⊥
      late (inl e) = let same : new.birth ≡ client.birth = ap (λ (c : OpenClient). c.birth) e in omega (arith, up, same, low)
      late (inr k) = none_below k.1

      go : Contains clients client ⊎ Contains (new ∷ []) client → WasOpen first client
      go (inl k) = were client k low
      go (inr k) = absurd (late (Contains-cases new client [] k))

  WereOpen-effect : (state : State) (number : ℕ) → since < number → WereOpen first since state.clients → (command : Command) → WereOpen first since (effect state number command).clients
  WereOpen-effect state number up were (Open name kind) = WereOpen-opened state.clients (record { name = name; kind = kind; birth = number; active = false; slow = 0 }) up were
  WereOpen-effect state number up were (Close name) = λ client m. were client (filter-contains (λ (c : OpenClient). not (bytes_eq c.name name)) state.clients client m)
  WereOpen-effect state number up were (Activate name) = WereOpen-changed name (λ c. record c { active = true }) (λ c. refl) (λ c. refl) state.clients were
  WereOpen-effect state number up were (Deactivate name) = WereOpen-changed name (λ c. record c { active = false }) (λ c. refl) (λ c. refl) state.clients were
  WereOpen-effect state number up were (Slow name cycles) = WereOpen-changed name (λ c. record c { slow = cycles }) (λ c. refl) (λ c. refl) state.clients were
  WereOpen-effect state number up were (Register name way kind) = were
  WereOpen-effect state number up were (Unregister name) = were
  WereOpen-effect state number up were (Connect source destination) = were
  WereOpen-effect state number up were (Disconnect source destination) = were
  WereOpen-effect state number up were Start = were
  WereOpen-effect state number up were Stop = were
  WereOpen-effect state number up were (Locate frame) = were
  WereOpen-effect state number up were (Timeout cycles) = were
  WereOpen-effect state number up were (Timebase name mbpm beats ticks) = were
  WereOpen-effect state number up were (TimebaseIf name mbpm beats ticks) = were
  WereOpen-effect state number up were (Release name) = were
  WereOpen-effect state number up were (Latency mode port) = were

  WereOpen-after : (state : State) (number : ℕ) (command : Command) → since < number → WereOpen first since state.clients → WereOpen first since (after state number command).clients
  WereOpen-after state number command up were = go (is_none (refusal state command))
    where
      go : (b : Bool) → WereOpen first since (cond b (effect state number command) state).clients
      go true = WereOpen-effect state number up were command
      go false = were

  pub WereOpen-replay : (state : State) (changes : List Change) → ((change : Change) → Contains changes change → since < change.number) → WereOpen first since state.clients → WereOpen first since (replay state changes).clients
  WereOpen-replay state [] later were = were
  WereOpen-replay state (change ∷ changes) later were =
      WereOpen-replay (after state change.number change.command) changes (λ next m. later next (Contains-later change next changes m))
      (WereOpen-after state change.number change.command (later change (Contains-first change changes)) were)

-- behind the first n of lawful changes come those of higher numbers
later-numbers : (start : State) (changes : List Change) → AreLawful start changes → (n : ℕ) (change : Change) → Contains (drop n changes) change → n < change.number
later-numbers start changes lawful n change m =
    let count : length (drop n changes) ≡ length changes - n = length-drop n changes in
    let below : m.0 < length (drop n changes) = m.1 in
    let within : n + m.0 < length changes = omega (arith, count, below) in
    let here : get_or changes (n + m.0) change ≡ change = sym (get_or-drop n changes m.0 change) ∙ m.2 in
    let next : IsNext (replay start (take (n + m.0) changes)) (n + m.0) change = lawful (n + m.0) change (slice_get-get_or changes (n + m.0) change within ∙ ap Some here) in
    let numbered : change.number ≡ n + m.0 + 1 = next.numbered in
    omega (arith, numbered)

pub open-before : (start : State) (changes : List Change) → AreLawful start changes → (n : ℕ) → WereOpen (replay start (take n changes)).clients n (replay start changes).clients
open-before start changes lawful n =
    subst (λ all. WereOpen earlier.clients n (replay start all).clients) (take-append-drop n changes)
    (subst (λ (state : State). WereOpen earlier.clients n state.clients) (sym (fold-append (λ (now : State) (change : Change). after now change.number change.command) start (take n changes) (drop n changes)))
    (WereOpen-replay earlier.clients n earlier (drop n changes) (later-numbers start changes lawful n) (λ client m low. (client, m, refl, refl))))
  where
    earlier : State
    earlier = replay start (take n changes)
