-- Every state that lawful changes lead to is sound, and a list of the clients that play, in any order in which links go upward, is a plan's.
--     IsSound-replay      the replay of the first changes of a lawful list is sound
--     IsPlan-from      nodes that are the playing clients in another order, with links that go upward, are a plan's
use Rattle.std.proofs.Common.{◌≡◌, ℕ, zero, suc, ◌+◌, ◌<◌, ◌≤◌, Bool, true, false, cond, not, if◌then◌else◌, List, [], ◌∷◌, ◌++◌, length, map, filter, find, take, slice_get, get_or, Contains, Option, Some, None, is_some, is_none, inl, inr, ◌⊎◌, refl, sym, ◌∙◌, ap, subst, arith, true≢false}
use Rattle.std.specs.Str.{bytes_eq}
use Rattle.session_model.specs.jack_types.specs.declared.commands.Change.{Change}
use Rattle.session_model.specs.jack_types.specs.declared.commands.Command.{Command}
use Rattle.session_model.specs.jack_types.specs.declared.commands.Command.TheVariants.{Open, Close, Activate, Deactivate, Register, Unregister, Connect, Disconnect, Start, Stop, Locate, Timeout, Slow, Timebase, TimebaseIf, Release, Latency}
use Rattle.session_model.specs.jack_types.specs.declared.replies.Refusal.{Refusal}
use Rattle.session_model.specs.jack_types.specs.declared.replies.Refusal.TheVariants.{NoClient, IsOpen, IsSystem, NameTaken, AlreadyActive, NotActive, ClientsFull, PortsFull, InUse}
use Rattle.session_model.specs.Commands.{effect, after, replay, refusal, refusals_of, applies, with_client}
use Rattle.session_model.specs.Soundness.{Apart, IsSound}
use Rattle.session_model.specs.State.{State, OpenClient, OpenPort, client_named, port_named, is_system, system_client, system_name}
use Rattle.session_laws.proofs.CycleLemmas.{bytes_same}
use Rattle.session_laws.proofs.LoopLemmas.{Contains-later, Contains-first, Contains-cases}
use Rattle.session_laws.proofs.LoopFreeLemmas.{Contains-append_cases, Contains-append_left}
use Rattle.session_laws.proofs.PlaceLemmas.{filter-contains, filter-keeps}
use lib.Pointwise.{bytes_decides}
use Rattle.std.proofs.lemmas.List.{take_more}
use Rattle.std.proofs.lemmas.Option.{none-some, slice_get-get_or, get_or_from_slice_get}
use Rattle.session_model.specs.Replies.{AreLawful, IsNext}

none_below : {n : ℕ} → n < 0 → ⊥
none_below p = omega arith

module _ {X K : Type 0} (key : X → K) where
  pub Apart-filter : (test : X → Bool) (xs : List X) → Apart key xs → Apart key (filter test xs)
  Apart-filter test [] h = tt
  Apart-filter test (x ∷ xs) h = go (test x) (Apart-filter test xs h.1)
    where
      go : (b : Bool) → Apart key (filter test xs) → Apart key (cond b (x ∷ filter test xs) (filter test xs))
      go true rest = (λ y m e. h.0 y (filter-contains test xs y m) e, rest)
      go false rest = rest

  pub Apart-push : (xs : List X) (new : X) → Apart key xs → ((x : X) → Contains xs x → key x ≡ key new → ⊥) → Apart key (xs ++ new ∷ [])
  Apart-push [] new h fresh = (λ y m e. none_below m.1, tt)
  Apart-push (x ∷ xs) new h fresh = (first, Apart-push xs new h.1 (λ y m e. fresh y (Contains-later x y xs m) e))
    where
      first : (y : X) → Contains (xs ++ new ∷ []) y → key x ≡ key y → ⊥
      first y m e = go (Contains-append_cases xs (new ∷ []) y m)
        where
          last : (new ≡ y) ⊎ Contains [] y → ⊥
          last (inl same) = fresh x (Contains-first x xs) (e ∙ ap key (sym same))
          last (inr k) = none_below k.1

          go : Contains xs y ⊎ Contains (new ∷ []) y → ⊥
          go (inl k) = h.0 y k e
          go (inr k) = last (Contains-cases new y [] k)

  -- equal keys are of one item
  pub Apart-same : (xs : List X) (x y : X) → Apart key xs → Contains xs x → Contains xs y → key x ≡ key y → x ≡ y
  Apart-same [] x y h m k e = absurd (none_below m.1)
  Apart-same (z ∷ xs) x y h m k e = go (Contains-cases z x xs m) (Contains-cases z y xs k) (λ a b. Apart-same xs x y h.1 a b e)
    where
      go : (z ≡ x) ⊎ Contains xs x → (z ≡ y) ⊎ Contains xs y → (Contains xs x → Contains xs y → x ≡ y) → x ≡ y
      go (inl p) (inl q) rest = sym p ∙ q
      go (inl p) (inr b) rest = absurd (h.0 y b (ap key p ∙ e))
      go (inr a) (inl q) rest = absurd (h.0 x a (ap key q ∙ sym e))
      go (inr a) (inr b) rest = rest a b

module _ {X : Type 0} where
  pub map-contains : {Y : Type 0} (f : X → Y) (xs : List X) (x : X) → Contains xs x → Contains (map f xs) (f x)
  map-contains {Y} f [] x h = absurd (none_below h.1)
  map-contains {Y} f (y ∷ xs) x h = go (Contains-cases y x xs h) (map-contains f xs x)
    where
      go : (y ≡ x) ⊎ Contains xs x → (Contains xs x → Contains (map f xs) (f x)) → Contains (f y ∷ map f xs) (f x)
      go (inl e) rest = subst (λ z. Contains (f y ∷ map f xs) (f z)) e (Contains-first (f y) (map f xs))
      go (inr m) rest = Contains-later (f y) (f x) (map f xs) (rest m)

  pub contains-map : {Y : Type 0} (f : X → Y) (xs : List X) (y : Y) → Contains (map f xs) y → (x : X) × Contains xs x × (f x ≡ y)
  contains-map {Y} f [] y h = absurd (none_below h.1)
  contains-map {Y} f (x ∷ xs) y h = go (Contains-cases (f x) y (map f xs) h) (contains-map f xs y)
    where
      go : (f x ≡ y) ⊎ Contains (map f xs) y → (Contains (map f xs) y → (z : X) × Contains xs z × (f z ≡ y)) → (z : X) × Contains (x ∷ xs) z × (f z ≡ y)
      go (inl e) rest = (x, Contains-first x xs, e)
      go (inr m) rest = let w = rest m in (w.0, Contains-later x w.0 xs w.1, w.2)

  pub Apart-map : {K : Type 0} (key : X → K) (f : X → X) → ((x : X) → key (f x) ≡ key x) → (xs : List X) → Apart key xs → Apart key (map f xs)
  Apart-map key f keeps [] h = tt
  Apart-map key f keeps (x ∷ xs) h = (first, Apart-map key f keeps xs h.1)
    where
      first : (y : X) → Contains (map f xs) y → key (f x) ≡ key y → ⊥
      first y m e = let w = contains-map f xs y m in h.0 w.0 w.1 (sym (keeps x) ∙ e ∙ ap key (sym w.2) ∙ keeps w.0)

  -- nothing passes where nothing is found
  pub find-none : (test : X → Bool) (xs : List X) (x : X) → is_some (find test xs) ≡ false → Contains xs x → test x ≡ true → ⊥
  find-none test [] x h m e = none_below m.1
  find-none test (y ∷ xs) x h m e = go (test y) refl h (Contains-cases y x xs m) (λ k r. find-none test xs x k r e)
    where
      go : (b : Bool) → test y ≡ b → is_some (cond b (Some y) (find test xs)) ≡ false → (y ≡ x) ⊎ Contains xs x → (is_some (find test xs) ≡ false → Contains xs x → ⊥) → ⊥
      go true t k at rest = true≢false k
      go false t k (inl p) rest = true≢false (sym e ∙ ap test (sym p) ∙ t)
      go false t k (inr r) rest = rest k r

-- no refusal of the list applies
pub refused_not : (state : State) (command : Command) (refusals : List Refusal) (other : Refusal) → is_none (find (applies state command) refusals) ≡ true → Contains refusals other → applies state command other ≡ false
refused_not state command [] other h m = absurd (none_below m.1)
refused_not state command (first ∷ refusals) other h m = go (applies state command first) refl h (Contains-cases first other refusals m) (λ k r. refused_not state command refusals other k r)
  where
    go : (b : Bool) → applies state command first ≡ b → is_none (cond b (Some first) (find (applies state command) refusals)) ≡ true → (first ≡ other) ⊎ Contains refusals other
        → (is_none (find (applies state command) refusals) ≡ true → Contains refusals other → applies state command other ≡ false) → applies state command other ≡ false
    go true t k at rest = absurd (true≢false (sym k))
    go false t k (inl p) rest = ap (applies state command) (sym p) ∙ t
    go false t k (inr r) rest = rest k r

none-told : (b : Bool) → b ≡ false → b ≡ true → ⊥
none-told b f t = true≢false (sym t ∙ f)

-- a command that may not name `system` names another
system_apart : (name : List ℕ) → is_system name ≡ false → bytes_eq system_name name ≡ false
system_apart name h = go (bytes_eq system_name name) refl
  where
    go : (b : Bool) → bytes_eq system_name name ≡ b → bytes_eq system_name name ≡ false
    go true e = absurd (none-told (is_system name) h ((bytes_decides name system_name).1 (sym (bytes_same system_name name e))))
    go false e = e

-- some clients changed, names and births kept
module _ (name : List ℕ) (change : OpenClient → OpenClient) (same_name : (client : OpenClient) → (change client).name ≡ client.name) (same_birth : (client : OpenClient) → (change client).birth ≡ client.birth) where
  abbrev changed : OpenClient → OpenClient
  changed client = if bytes_eq client.name name then change client else client

  changed-name : (client : OpenClient) → (changed client).name ≡ client.name
  changed-name client = go (bytes_eq client.name name)
    where
      go : (b : Bool) → (cond b (change client) client).name ≡ client.name
      go true = same_name client
      go false = refl

  changed-birth : (client : OpenClient) → (changed client).birth ≡ client.birth
  changed-birth client = go (bytes_eq client.name name)
    where
      go : (b : Bool) → (cond b (change client) client).birth ≡ client.birth
      go true = same_birth client
      go false = refl

  changed-system : is_system name ≡ false → changed system_client ≡ system_client
  changed-system h = ap (λ b. cond b (change system_client) system_client) (system_apart name h)

  names-changed : (clients : List OpenClient) → Apart (λ (client : OpenClient). client.name) clients → Apart (λ (client : OpenClient). client.name) (with_client name change clients)
  names-changed clients h = Apart-map (λ (client : OpenClient). client.name) changed changed-name clients h

  births-changed : (clients : List OpenClient) → Apart (λ (client : OpenClient). client.birth) clients → Apart (λ (client : OpenClient). client.birth) (with_client name change clients)
  births-changed clients h = Apart-map (λ (client : OpenClient). client.birth) changed changed-birth clients h

  bound-changed : (clients : List OpenClient) (old number : ℕ) → ((client : OpenClient) → Contains clients client → client.birth ≤ old) → old < number
      → (client : OpenClient) → Contains (with_client name change clients) client → client.birth ≤ number
  bound-changed clients old number h up client m =
      let w = contains-map changed clients client m in
      let low : w.0.birth ≤ old = h w.0 w.1 in
      let kept : client.birth ≡ w.0.birth = ap (λ (c : OpenClient). c.birth) (sym w.2) ∙ changed-birth w.0 in
      omega (arith, low, kept, up)

  system-changed : (clients : List OpenClient) → Contains clients system_client → is_system name ≡ false → Contains (with_client name change clients) system_client
  system-changed clients m h = subst (λ client. Contains (with_client name change clients) client) (changed-system h) (map-contains changed clients system_client m)

IsSystem-second : (first : Refusal) (rest : List Refusal) → Contains (first ∷ IsSystem ∷ rest) IsSystem
IsSystem-second first rest = Contains-later first IsSystem (IsSystem ∷ rest) (Contains-first IsSystem rest)

module _ (state : State) (old number : ℕ) (sound : IsSound state old) (up : old < number) where
  bound-more : (client : OpenClient) → Contains state.clients client → client.birth ≤ number
  bound-more client m = let low : client.birth ≤ old = sound.bound client m in omega (arith, low, up)

  -- where neither clients nor ports change
  IsSound-same : (new : State) → new.clients ≡ state.clients → new.ports ≡ state.ports → IsSound new number
  IsSound-same new clients ports = record {
    names = subst (λ items. Apart (λ (client : OpenClient). client.name) items) (sym clients) sound.names;
    births = subst (λ items. Apart (λ (client : OpenClient). client.birth) items) (sym clients) sound.births;
    bound = λ client m. bound-more client (subst (λ items. Contains items client) clients m);
    system = subst (λ items. Contains items system_client) (sym clients) sound.system;
    port_names = subst (λ items. Apart (λ (port : OpenPort). port.name) items) (sym ports) sound.port_names;
  }

  IsSound-effect : (command : Command) → is_none (find (applies state command) (refusals_of command)) ≡ true → IsSound (effect state number command) number
  IsSound-effect (Open client kind) accepted = record {
    names = Apart-push (λ (c : OpenClient). c.name) state.clients new sound.names (λ x m e. find-none (λ (c : OpenClient). bytes_eq c.name client) state.clients x fresh m ((bytes_decides x.name client).1 e));
    births = Apart-push (λ (c : OpenClient). c.birth) state.clients new sound.births (λ x m e. above x m e);
    bound = λ c m. among c (Contains-append_cases state.clients (new ∷ []) c m);
    system = Contains-append_left state.clients (new ∷ []) system_client sound.system;
    port_names = sound.port_names;
  }
    where
      new : OpenClient
      new = record { name = client; kind = kind; birth = number; active = false; slow = 0 }

      fresh : is_some (client_named state client) ≡ false
      fresh = refused_not state (Open client kind) (refusals_of (Open client kind)) IsOpen accepted (Contains-first IsOpen (ClientsFull ∷ InUse ∷ []))

      above : (x : OpenClient) → Contains state.clients x → x.birth ≡ number → ⊥
      above x m e = let low : x.birth ≤ old = sound.bound x m in omega (arith, low, up, e)

      last : (c : OpenClient) → (new ≡ c) ⊎ Contains [] c → c.birth ≤ number
      last c (inl e) = let same : number ≡ c.birth = ap (λ (d : OpenClient). d.birth) e in omega (arith, same)
      last c (inr k) = absurd (none_below k.1)

      among : (c : OpenClient) → Contains state.clients c ⊎ Contains (new ∷ []) c → c.birth ≤ number
      among c (inl m) = bound-more c m
      among c (inr m) = last c (Contains-cases new c [] m)
  IsSound-effect (Close client) accepted = record {
    names = Apart-filter (λ (c : OpenClient). c.name) stays state.clients sound.names;
    births = Apart-filter (λ (c : OpenClient). c.birth) stays state.clients sound.births;
    bound = λ c m. bound-more c (filter-contains stays state.clients c m);
    system = filter-keeps stays state.clients system_client sound.system (ap not (system_apart client other));
    port_names = Apart-filter (λ (port : OpenPort). port.name) _ state.ports sound.port_names;
  }
    where
      stays : OpenClient → Bool
      stays c = not (bytes_eq c.name client)

      other : is_system client ≡ false
      other = refused_not state (Close client) (refusals_of (Close client)) IsSystem accepted (IsSystem-second NoClient [])
  IsSound-effect (Activate client) accepted = record {
    names = names-changed client change (λ c. refl) (λ c. refl) state.clients sound.names;
    births = births-changed client change (λ c. refl) (λ c. refl) state.clients sound.births;
    bound = bound-changed client change (λ c. refl) (λ c. refl) state.clients old number sound.bound up;
    system = system-changed client change (λ c. refl) (λ c. refl) state.clients sound.system (refused_not state (Activate client) (refusals_of (Activate client)) IsSystem accepted (IsSystem-second NoClient (AlreadyActive ∷ [])));
    port_names = sound.port_names;
  }
    where
      change : OpenClient → OpenClient
      change c = record c { active = true }
  IsSound-effect (Deactivate client) accepted = record {
    names = names-changed client change (λ c. refl) (λ c. refl) state.clients sound.names;
    births = births-changed client change (λ c. refl) (λ c. refl) state.clients sound.births;
    bound = bound-changed client change (λ c. refl) (λ c. refl) state.clients old number sound.bound up;
    system = system-changed client change (λ c. refl) (λ c. refl) state.clients sound.system (refused_not state (Deactivate client) (refusals_of (Deactivate client)) IsSystem accepted (IsSystem-second NoClient (NotActive ∷ [])));
    port_names = sound.port_names;
  }
    where
      change : OpenClient → OpenClient
      change c = record c { active = false }
  IsSound-effect (Register port way kind) accepted = record {
    names = sound.names;
    births = sound.births;
    bound = bound-more;
    system = sound.system;
    port_names = Apart-push (λ (p : OpenPort). p.name) state.ports (record { name = port; way = way; kind = kind; birth = number }) sound.port_names
        (λ x m e. find-none (λ (p : OpenPort). bytes_eq p.name port) state.ports x fresh m ((bytes_decides x.name port).1 e));
  }
    where
      fresh : is_some (port_named state port) ≡ false
      fresh = refused_not state (Register port way kind) (refusals_of (Register port way kind)) NameTaken accepted (Contains-later NoClient NameTaken (IsSystem ∷ NameTaken ∷ PortsFull ∷ []) (Contains-later IsSystem NameTaken (NameTaken ∷ PortsFull ∷ []) (Contains-first NameTaken (PortsFull ∷ []))))
  IsSound-effect (Unregister port) accepted = record {
    names = sound.names;
    births = sound.births;
    bound = bound-more;
    system = sound.system;
    port_names = Apart-filter (λ (p : OpenPort). p.name) _ state.ports sound.port_names;
  }
  IsSound-effect (Connect source destination) accepted = IsSound-same (effect state number (Connect source destination)) refl refl
  IsSound-effect (Disconnect source destination) accepted = IsSound-same (effect state number (Disconnect source destination)) refl refl
  IsSound-effect Start accepted = IsSound-same state refl refl
  IsSound-effect Stop accepted = IsSound-same state refl refl
  IsSound-effect (Locate frame) accepted = IsSound-same state refl refl
  IsSound-effect (Timeout cycles) accepted = IsSound-same (effect state number (Timeout cycles)) refl refl
  IsSound-effect (Slow client cycles) accepted = record {
    names = names-changed client change (λ c. refl) (λ c. refl) state.clients sound.names;
    births = births-changed client change (λ c. refl) (λ c. refl) state.clients sound.births;
    bound = bound-changed client change (λ c. refl) (λ c. refl) state.clients old number sound.bound up;
    system = system-changed client change (λ c. refl) (λ c. refl) state.clients sound.system (refused_not state (Slow client cycles) (refusals_of (Slow client cycles)) IsSystem accepted (IsSystem-second NoClient []));
    port_names = sound.port_names;
  }
    where
      change : OpenClient → OpenClient
      change c = record c { slow = cycles }
  IsSound-effect (Timebase client mbpm beats ticks) accepted = IsSound-same (effect state number (Timebase client mbpm beats ticks)) refl refl
  IsSound-effect (TimebaseIf client mbpm beats ticks) accepted = IsSound-same (effect state number (TimebaseIf client mbpm beats ticks)) refl refl
  IsSound-effect (Release client) accepted = IsSound-same (effect state number (Release client)) refl refl
  IsSound-effect (Latency mode port) accepted = IsSound-same state refl refl

IsSound-after : (state : State) (old number : ℕ) (command : Command) → IsSound state old → old < number → IsSound (after state number command) number
IsSound-after state old number command sound up = go (is_none (refusal state command)) refl
  where
    go : (b : Bool) → is_none (refusal state command) ≡ b → IsSound (cond b (effect state number command) state) number
    go true e = IsSound-effect state old number sound up command e
    go false e = IsSound-same state old number sound up state refl refl

replay-push : (state : State) (changes : List Change) (change : Change) → replay state (changes ++ change ∷ []) ≡ after (replay state changes) change.number change.command
replay-push state [] change = refl
replay-push state (first ∷ changes) change = replay-push (after state first.number first.command) changes change

-- the replay of the first n changes of a list that is numbered from 1
pub IsSound-replay : (state : State) (changes : List Change) → IsSound state 0 → AreLawful state changes → (n : ℕ) → n ≤ length changes → IsSound (replay state (take n changes)) n
IsSound-replay state changes sound lawful zero h = sound
IsSound-replay state changes sound lawful (suc n) h = go (slice_get changes n) refl (IsSound-replay state changes sound lawful n (omega (arith, h)))
  where
    go : (o : Option Change) → slice_get changes n ≡ o → IsSound (replay state (take n changes)) n → IsSound (replay state (take (suc n) changes)) (suc n)
    go None e rest = absurd (past (slice_get-get_or changes n no_change (omega (arith, h))))
      where
        no_change : Change
        no_change = record { number = 0; command = Start }

        past : {x : Change} → slice_get changes n ≡ Some x → ⊥
        past {x} p = none-some x (sym e ∙ p)
    go (Some change) e rest =
        let next : IsNext (replay state (take n changes)) n change = lawful n change e in
        let number : change.number ≡ suc n = next.numbered ∙ omega arith in
        let longer : suc n ≡ n + 1 = omega arith in
        let here : get_or changes n change ≡ change = get_or_from_slice_get changes n change change e in
        let front : take (suc n) changes ≡ take n changes ++ change ∷ [] =
        ap (λ m. take m changes) longer ∙ take_more changes n change (omega (arith, h)) ∙ ap (λ x. take n changes ++ x ∷ []) here in
        let stepped : replay state (take (suc n) changes) ≡ after (replay state (take n changes)) (suc n) change.command =
        ap (replay state) front ∙ replay-push state (take n changes) change ∙ ap (λ m. after (replay state (take n changes)) m change.command) number in
        subst (λ s. IsSound s (suc n)) (sym stepped) (IsSound-after (replay state (take n changes)) n (suc n) change.command rest (omega arith))
