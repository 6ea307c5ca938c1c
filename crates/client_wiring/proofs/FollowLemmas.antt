-- What a state has of the ports and clients of an earlier one: a port that was born then was there, with the same client.
--     Follows first since state number      so it is behind `number` changes, where `first` was behind the first `since`
--     Follows-opening, Follows-self, Follows-replay      it begins anywhere, and goes on over lawful changes
use Rattle.std.proofs.Common.{◌≡◌, ℕ, zero, suc, ◌+◌, ◌<◌, ◌≤◌, Bool, true, false, cond, not, if◌then◌else◌, ◌⊎◌, inl, inr, List, [], ◌∷◌, ◌++◌, length, map, find, take, get_or, slice_get, Contains, Option, Some, None, is_none, is_some, refl, sym, ◌∙◌, ap, subst, arith, true≢false}
use Rattle.std.specs.Str.{bytes_eq}
use Rattle.std.proofs.lemmas.List.{take_more}
use Rattle.std.proofs.lemmas.Option.{get_or_from_slice_get, none-some, slice_get-get_or}
use Rattle.jack_types.specs.Names.{client_part}
use Rattle.jack_types.specs.declared.commands.Change.{Change}
use Rattle.jack_types.specs.declared.commands.Command.{Command}
use Rattle.jack_types.specs.declared.commands.Command.TheVariants.{Open, Close, Activate, Deactivate, Register, Unregister, Connect, Disconnect, Start, Stop, Locate, Timeout, Slow, Timebase, TimebaseIf, Release, Latency}
use Rattle.jack_types.specs.declared.kinds.Kind.{Kind}
use Rattle.jack_types.specs.declared.ports.PortKind.{PortKind}
use Rattle.jack_types.specs.declared.ports.Way.{Way}
use Rattle.jack_types.specs.declared.replies.Refusal.TheVariants.{ClientsFull, InUse, IsOpen, IsSystem, NameTaken, NoClient, PortsFull}
use Rattle.session_model.specs.Commands.{after, applies, effect, refusal, refusals_of, replay, with_client}
use Rattle.session_model.specs.Replies.{AreLawful, IsNext}
use Rattle.session_model.specs.Samples.{below}
use Rattle.session_model.specs.State.{OpenClient, OpenPort, State, capture_port, client_named, is_system, opening, playback_port, system_client, system_name}
use Rattle.cycle_plan.specs.session_laws.proofs.CycleLemmas.{bytes_same, filter-passes, find-contains, find-passes}
use Rattle.cycle_plan.specs.session_laws.proofs.LoopFreeLemmas.{Contains-append_cases, Contains-append_left}
use Rattle.cycle_plan.specs.session_laws.proofs.LoopLemmas.{Contains-cases, Contains-first}
use Rattle.cycle_plan.specs.session_laws.proofs.PlaceLemmas.{filter-contains, filter-keeps}
use Rattle.cycle_plan.specs.session_laws.proofs.SoundLemmas.{contains-map, find-none, map-contains, refused_not}
use lib.Pointwise.{bytes_decides}

none_below : {n : ℕ} → n < 0 → ⊥
none_below p = omega arith

pub record Follows (first : State) (since : ℕ) (state : State) (number : ℕ) : Type 0 where
  pub later : since ≤ number
  pub born : (port : OpenPort) → Contains state.ports port → port.birth ≤ number
  pub owned : (port : OpenPort) → Contains state.ports port → (client : OpenClient) × Contains state.clients client × (client.name ≡ client_part port.name)
  pub apart : (a b : OpenPort) → Contains state.ports a → Contains state.ports b → is_system (client_part a.name) ≡ false → is_system (client_part b.name) ≡ false → a.birth ≡ b.birth → a ≡ b
  pub kept : (port : OpenPort) → Contains state.ports port → port.birth ≤ since → Contains first.ports port
  pub same : (port : OpenPort) (client : OpenClient) → Contains state.ports port → port.birth ≤ since → Contains state.clients client → client.name ≡ client_part port.name
      → (c : OpenClient) × Contains first.clients c × (c.name ≡ client.name) × (c.birth ≡ client.birth)

-- before any change
pub Follows-opening : (capture playback : ℕ) → Follows (opening capture playback) 0 (opening capture playback) 0
Follows-opening capture playback = record {
  later = omega arith;
  born = λ port m. let told = (device port m).0 in omega (arith, told);
  owned = λ port m. (system_client, Contains-first system_client [], sym (bytes_same (client_part port.name) system_name (device port m).1));
  apart = λ a b m n f g e. absurd (true≢false (sym (device a m).1 ∙ f));
  kept = λ port m low. m;
  same = λ port client m low n e. (client, n, refl, refl);
}
  where
    device : (port : OpenPort) → Contains (opening capture playback).ports port → (port.birth ≡ 0) × (is_system (client_part port.name) ≡ true)
    device port m = go (Contains-append_cases (map capture_port (below capture)) (map playback_port (below playback)) port m)
      where
        go : Contains (map capture_port (below capture)) port ⊎ Contains (map playback_port (below playback)) port → (port.birth ≡ 0) × (is_system (client_part port.name) ≡ true)
        go (inl k) = let w = contains-map capture_port (below capture) port k in (ap (λ (p : OpenPort). p.birth) (sym w.2), ap (λ (p : OpenPort). is_system (client_part p.name)) (sym w.2))
        go (inr k) = let w = contains-map playback_port (below playback) port k in (ap (λ (p : OpenPort). p.birth) (sym w.2), ap (λ (p : OpenPort). is_system (client_part p.name)) (sym w.2))

-- a state, seen from itself
pub Follows-self : (first : State) (since : ℕ) (state : State) (number : ℕ) → Follows first since state number → Follows state number state number
Follows-self first since state number h = record {
  later = omega arith;
  born = h.born;
  owned = h.owned;
  apart = h.apart;
  kept = λ port m low. m;
  same = λ port client m low n e. (client, n, refl, refl);
}

module _ (first : State) (since : ℕ) (state : State) (old number : ℕ) (h : Follows first since state old) (up : old < number) where
  -- where ports only go, and each that stays keeps its client
  Follows-fewer : (new : State) → ((port : OpenPort) → Contains new.ports port → Contains state.ports port)
      → ((port : OpenPort) (client : OpenClient) → Contains new.ports port → Contains state.clients client → client.name ≡ client_part port.name → (c : OpenClient) × Contains new.clients c × (c.name ≡ client.name))
      → ((port : OpenPort) (client : OpenClient) → Contains new.ports port → Contains new.clients client → client.name ≡ client_part port.name → (c : OpenClient) × Contains state.clients c × (c.name ≡ client.name) × (c.birth ≡ client.birth))
      → Follows first since new number
  Follows-fewer new ports clients back = record {
    later = (let low : since ≤ old = h.later in omega (arith, low, up));
    born = λ port m. let low : port.birth ≤ old = h.born port (ports port m) in omega (arith, low, up);
    owned = λ port m. let w = h.owned port (ports port m) in let c = clients port w.0 m w.1 w.2 in (c.0, c.1, c.2 ∙ w.2);
    apart = λ a b m n. h.apart a b (ports a m) (ports b n);
    kept = λ port m. h.kept port (ports port m);
    same = λ port client m low n e. let c = back port client m n e in let d = h.same port c.0 (ports port m) low c.1 (c.2 ∙ e) in (d.0, d.1, d.2 ∙ c.2, d.3 ∙ c.3);
  }

  Follows-same : (new : State) → new.clients ≡ state.clients → new.ports ≡ state.ports → Follows first since new number
  Follows-same new clients ports =
      Follows-fewer new (λ port m. subst (λ items. Contains items port) ports m)
      (λ port client m n e. (client, subst (λ items. Contains items client) (sym clients) n, refl))
      (λ port client m n e. (client, subst (λ items. Contains items client) clients n, refl, refl))

  -- some clients changed, names and births kept
  Follows-changed : (new : State) (name : List ℕ) (change : OpenClient → OpenClient) → new.ports ≡ state.ports → new.clients ≡ with_client name change state.clients
      → ((client : OpenClient) → (change client).name ≡ client.name) → ((client : OpenClient) → (change client).birth ≡ client.birth) → Follows first since new number
  Follows-changed new name change ports clients same_name same_birth =
      Follows-fewer new (λ port m. subst (λ items. Contains items port) ports m)
      (λ port client m n e. (changed client, subst (λ items. Contains items (changed client)) (sym clients) (map-contains changed state.clients client n), named client))
      (λ port client m n e. let w = contains-map changed state.clients client (subst (λ items. Contains items client) clients n) in
      (w.0, w.1, sym (named w.0) ∙ ap (λ (c : OpenClient). c.name) w.2, sym (birth w.0) ∙ ap (λ (c : OpenClient). c.birth) w.2))
    where
      changed : OpenClient → OpenClient
      changed client = if bytes_eq client.name name then change client else client

      named : (client : OpenClient) → (changed client).name ≡ client.name
      named client = go (bytes_eq client.name name)
        where
          go : (b : Bool) → (cond b (change client) client).name ≡ client.name
          go true = same_name client
          go false = refl

      birth : (client : OpenClient) → (changed client).birth ≡ client.birth
      birth client = go (bytes_eq client.name name)
        where
          go : (b : Bool) → (cond b (change client) client).birth ≡ client.birth
          go true = same_birth client
          go false = refl

  Follows-open : (name : List ℕ) (kind : Kind) → is_none (find (applies state (Open name kind)) (refusals_of (Open name kind))) ≡ true → Follows first since (effect state number (Open name kind)) number
  Follows-open name kind accepted =
      Follows-fewer (effect state number (Open name kind)) (λ port m. m)
      (λ port client m n e. (client, Contains-append_left state.clients (new ∷ []) client n, refl))
      (λ port client m n e. go port client m e (Contains-append_cases state.clients (new ∷ []) client n))
    where
      new : OpenClient
      new = record { name = name; kind = kind; birth = number; active = false; slow = 0 }

      fresh : is_some (client_named state name) ≡ false
      fresh = refused_not state (Open name kind) (refusals_of (Open name kind)) IsOpen accepted (Contains-first IsOpen (ClientsFull ∷ InUse ∷ []))

      last : (port : OpenPort) (client : OpenClient) → Contains state.ports port → client.name ≡ client_part port.name → (new ≡ client) ⊎ Contains [] client → ⊥
      last port client m e (inr k) = none_below k.1
      last port client m e (inl f) =
          let w = h.owned port m in
          find-none (λ (c : OpenClient). bytes_eq c.name name) state.clients w.0 fresh w.1
          ((bytes_decides w.0.name name).1 (w.2 ∙ sym e ∙ ap (λ (c : OpenClient). c.name) (sym f)))

      go : (port : OpenPort) (client : OpenClient) → Contains state.ports port → client.name ≡ client_part port.name → Contains state.clients client ⊎ Contains (new ∷ []) client
          → (c : OpenClient) × Contains state.clients c × (c.name ≡ client.name) × (c.birth ≡ client.birth)
      go port client m e (inl k) = (client, k, refl, refl)
      go port client m e (inr k) = absurd (last port client m e (Contains-cases new client [] k))

  Follows-close : (name : List ℕ) → Follows first since (effect state number (Close name)) number
  Follows-close name =
      Follows-fewer (effect state number (Close name)) (λ port m. filter-contains stays state.ports port m)
      (λ port client m n e. (client, filter-keeps remains state.clients client n (ap (λ other. not (bytes_eq other name)) e ∙ filter-passes stays state.ports port m), refl))
      (λ port client m n e. (client, filter-contains remains state.clients client n, refl, refl))
    where
      stays : OpenPort → Bool
      stays port = not (bytes_eq (client_part port.name) name)

      remains : OpenClient → Bool
      remains client = not (bytes_eq client.name name)

  Follows-unregister : (name : List ℕ) → Follows first since (effect state number (Unregister name)) number
  Follows-unregister name =
      Follows-fewer (effect state number (Unregister name)) (λ port m. filter-contains (λ (other : OpenPort). not (bytes_eq other.name name)) state.ports port m)
      (λ port client m n e. (client, n, refl)) (λ port client m n e. (client, n, refl, refl))

  Follows-register : (name : List ℕ) (way : Way) (kind : PortKind) → is_none (find (applies state (Register name way kind)) (refusals_of (Register name way kind))) ≡ true
      → Follows first since (effect state number (Register name way kind)) number
  Follows-register name way kind accepted = record {
    later = (let low : since ≤ old = h.later in omega (arith, low, up));
    born = λ port m. born-at port (here port m);
    owned = λ port m. owned-at port (here port m);
    apart = λ a b m n f g e. apart-at a b (here a m) (here b n) f g e;
    kept = λ port m low. kept-at port (here port m) low;
    same = λ port client m low n e. same-at port client (here port m) low n e;
  }
    where
      new : OpenPort
      new = record { name = name; way = way; kind = kind; birth = number }

      here : (port : OpenPort) → Contains (state.ports ++ new ∷ []) port → Contains state.ports port ⊎ (new ≡ port)
      here port m = go (Contains-append_cases state.ports (new ∷ []) port m)
        where
          last : (new ≡ port) ⊎ Contains [] port → new ≡ port
          last (inl e) = e
          last (inr k) = absurd (none_below k.1)

          go : Contains state.ports port ⊎ Contains (new ∷ []) port → Contains state.ports port ⊎ (new ≡ port)
          go (inl k) = inl k
          go (inr k) = inr (last (Contains-cases new port [] k))

      born_new : (port : OpenPort) → new ≡ port → number ≡ port.birth
      born_new port e = ap (λ (p : OpenPort). p.birth) e

      born-at : (port : OpenPort) → Contains state.ports port ⊎ (new ≡ port) → port.birth ≤ number
      born-at port (inl k) = let low : port.birth ≤ old = h.born port k in omega (arith, low, up)
      born-at port (inr e) = let same : number ≡ port.birth = born_new port e in omega (arith, same)

      known : is_none (client_named state (client_part name)) ≡ false
      known = refused_not state (Register name way kind) (refusals_of (Register name way kind)) NoClient accepted (Contains-first NoClient (IsSystem ∷ NameTaken ∷ PortsFull ∷ []))

      owner : (client : OpenClient) × Contains state.clients client × (client.name ≡ client_part name)
      owner = go (client_named state (client_part name)) refl known
        where
          go : (o : Option OpenClient) → client_named state (client_part name) ≡ o → is_none o ≡ false → (client : OpenClient) × Contains state.clients client × (client.name ≡ client_part name)
          go None e f = absurd (true≢false f)
          go (Some client) e f = (
            client,
            find-contains (λ (c : OpenClient). bytes_eq c.name (client_part name)) state.clients client e,
            bytes_same client.name (client_part name) (find-passes (λ (c : OpenClient). bytes_eq c.name (client_part name)) state.clients client e),
          )

      owned-at : (port : OpenPort) → Contains state.ports port ⊎ (new ≡ port) → (client : OpenClient) × Contains state.clients client × (client.name ≡ client_part port.name)
      owned-at port (inl k) = h.owned port k
      owned-at port (inr e) = (owner.0, owner.1, owner.2 ∙ ap (λ (p : OpenPort). client_part p.name) e)

      older : (port other : OpenPort) → Contains state.ports port → new ≡ other → port.birth ≡ other.birth → ⊥
      older port other k e same =
          let low : port.birth ≤ old = h.born port k in
          let now : number ≡ other.birth = born_new other e in
          omega (arith, low, up, same, now)

      apart-at : (a b : OpenPort) → Contains state.ports a ⊎ (new ≡ a) → Contains state.ports b ⊎ (new ≡ b) → is_system (client_part a.name) ≡ false → is_system (client_part b.name) ≡ false → a.birth ≡ b.birth → a ≡ b
      apart-at a b (inl k) (inl l) f g e = h.apart a b k l f g e
      apart-at a b (inl k) (inr l) f g e = absurd (older a b k l e)
      apart-at a b (inr k) (inl l) f g e = absurd (older b a l k (sym e))
      apart-at a b (inr k) (inr l) f g e = sym k ∙ l

      late : (port : OpenPort) → new ≡ port → port.birth ≤ since → ⊥
      late port e low =
          let now : number ≡ port.birth = born_new port e in
          let before : since ≤ old = h.later in
          omega (arith, now, before, up, low)

      kept-at : (port : OpenPort) → Contains state.ports port ⊎ (new ≡ port) → port.birth ≤ since → Contains first.ports port
      kept-at port (inl k) low = h.kept port k low
      kept-at port (inr e) low = absurd (late port e low)

      same-at : (port : OpenPort) (client : OpenClient) → Contains state.ports port ⊎ (new ≡ port) → port.birth ≤ since → Contains state.clients client → client.name ≡ client_part port.name
          → (c : OpenClient) × Contains first.clients c × (c.name ≡ client.name) × (c.birth ≡ client.birth)
      same-at port client (inl k) low n e = h.same port client k low n e
      same-at port client (inr f) low n e = absurd (late port f low)

  Follows-effect : (command : Command) → is_none (find (applies state command) (refusals_of command)) ≡ true → Follows first since (effect state number command) number
  Follows-effect (Open name kind) accepted = Follows-open name kind accepted
  Follows-effect (Close name) accepted = Follows-close name
  Follows-effect (Activate name) accepted = Follows-changed (effect state number (Activate name)) name (λ c. record c { active = true }) refl refl (λ c. refl) (λ c. refl)
  Follows-effect (Deactivate name) accepted = Follows-changed (effect state number (Deactivate name)) name (λ c. record c { active = false }) refl refl (λ c. refl) (λ c. refl)
  Follows-effect (Slow name cycles) accepted = Follows-changed (effect state number (Slow name cycles)) name (λ c. record c { slow = cycles }) refl refl (λ c. refl) (λ c. refl)
  Follows-effect (Register name way kind) accepted = Follows-register name way kind accepted
  Follows-effect (Unregister name) accepted = Follows-unregister name
  Follows-effect (Connect source destination) accepted = Follows-same (effect state number (Connect source destination)) refl refl
  Follows-effect (Disconnect source destination) accepted = Follows-same (effect state number (Disconnect source destination)) refl refl
  Follows-effect Start accepted = Follows-same state refl refl
  Follows-effect Stop accepted = Follows-same state refl refl
  Follows-effect (Locate frame) accepted = Follows-same state refl refl
  Follows-effect (Timeout cycles) accepted = Follows-same (effect state number (Timeout cycles)) refl refl
  Follows-effect (Timebase name mbpm beats ticks) accepted = Follows-same (effect state number (Timebase name mbpm beats ticks)) refl refl
  Follows-effect (TimebaseIf name mbpm beats ticks) accepted = Follows-same (effect state number (TimebaseIf name mbpm beats ticks)) refl refl
  Follows-effect (Release name) accepted = Follows-same (effect state number (Release name)) refl refl
  Follows-effect (Latency mode port) accepted = Follows-same state refl refl

  Follows-after : (command : Command) → Follows first since (after state number command) number
  Follows-after command = go (is_none (refusal state command)) refl
    where
      go : (b : Bool) → is_none (refusal state command) ≡ b → Follows first since (cond b (effect state number command) state) number
      go true e = Follows-effect command e
      go false e = Follows-same state refl refl

replay-push : (state : State) (changes : List Change) (change : Change) → replay state (changes ++ change ∷ []) ≡ after (replay state changes) change.number change.command
replay-push state [] change = refl
replay-push state (next ∷ changes) change = replay-push (after state next.number next.command) changes change

-- it goes on from the first k changes to more of them
pub Follows-replay : (first : State) (since : ℕ) (start : State) (changes : List Change) → AreLawful start changes → (k : ℕ) → Follows first since (replay start (take k changes)) k
    → (n m : ℕ) → m ≡ n + k → m ≤ length changes → Follows first since (replay start (take m changes)) m
Follows-replay first since start changes lawful k base zero m e h = let same : k ≡ m = omega (arith, e) in subst (λ j. Follows first since (replay start (take j changes)) j) same base
Follows-replay first since start changes lawful k base (suc n) m e h =
    let within : n + k < length changes = omega (arith, e, h) in
    go (slice_get changes (n + k)) refl within (Follows-replay first since start changes lawful k base n (n + k) refl (omega (arith, within)))
  where
    go : (o : Option Change) → slice_get changes (n + k) ≡ o → n + k < length changes → Follows first since (replay start (take (n + k) changes)) (n + k) → Follows first since (replay start (take m changes)) m
    go None f within rest = absurd (past (slice_get-get_or changes (n + k) no_change within))
      where
        no_change : Change
        no_change = record { number = 0; command = Start }

        past : {x : Change} → slice_get changes (n + k) ≡ Some x → ⊥
        past {x} p = none-some x (sym f ∙ p)
    go (Some change) f within rest =
        let next : IsNext (replay start (take (n + k) changes)) (n + k) change = lawful (n + k) change f in
        let longer : m ≡ (n + k) + 1 = omega (arith, e) in
        let number : change.number ≡ m = next.numbered ∙ sym longer in
        let here : get_or changes (n + k) change ≡ change = get_or_from_slice_get changes (n + k) change change f in
        let front : take m changes ≡ take (n + k) changes ++ change ∷ [] = ap (λ j. take j changes) longer ∙ take_more changes (n + k) change within ∙ ap (λ x. take (n + k) changes ++ x ∷ []) here in
        let stepped : replay start (take m changes) ≡ after (replay start (take (n + k) changes)) m change.command =
        ap (replay start) front ∙ replay-push start (take (n + k) changes) change ∙ ap (λ j. after (replay start (take (n + k) changes)) j change.command) number in
        subst (λ s. Follows first since s m) (sym stepped) (Follows-after first since (replay start (take (n + k) changes)) (n + k) m rest (omega (arith, longer)) change.command)
