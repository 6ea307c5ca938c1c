-- A client of a state was opened by the change of its birth's number: a birth has one name and one kind.
--     AreOpened-replay      so it is in each state that changes led to
--     one_opening      clients of one birth, in any two states of a lawful list, have one name and one kind
use Rattle.std.proofs.Common.{◌≡◌, ℕ, ◌+◌, ◌<◌, Bool, true, false, cond, not, if◌then◌else◌, List, [], ◌∷◌, ◌++◌, slice_get, Contains, Some, is_none, inl, inr, ◌⊎◌, refl, sym, ◌∙◌, ap, subst, arith, true≢false, append_assoc, append-nil, ap₂}
use Rattle.std.specs.Str.{bytes_eq}
use Rattle.std.proofs.lemmas.Option.{slice_get-get_or}
use Rattle.session_model.specs.jack_types.specs.declared.commands.Change.{Change}
use Rattle.session_model.specs.jack_types.specs.declared.commands.Command.{Command}
use Rattle.session_model.specs.jack_types.specs.declared.commands.Command.TheVariants.{Open, Close, Activate, Deactivate, Register, Unregister, Connect, Disconnect, Start, Stop, Locate, Timeout, Slow, Timebase, TimebaseIf, Release, Latency}
use Rattle.session_model.specs.jack_types.specs.declared.kinds.Kind.{Kind}
use Rattle.session_model.specs.Commands.{effect, after, replay, refusal, with_client}
use Rattle.session_model.specs.Replies.{AreLawful}
use Rattle.session_model.specs.Soundness.{IsOpenedBy}
use Rattle.session_model.specs.State.{State, OpenClient, is_system, system_client, opening}
use Rattle.session_laws.proofs.LoopLemmas.{Contains-first, Contains-cases}
use Rattle.session_laws.proofs.LoopFreeLemmas.{Contains-append_cases, Contains-append_left, Contains-append_right}
use Rattle.session_laws.proofs.PlaceLemmas.{filter-contains}
use Rattle.session_laws.proofs.SoundLemmas.{contains-map}

none_below : {n : ℕ} → n < 0 → ⊥
none_below p = omega arith

-- each client but `system` was opened by one of these changes
abbrev pub AreOpened : List Change → List OpenClient → Type 0
AreOpened changes clients = (client : OpenClient) → Contains clients client → is_system client.name ≡ false → IsOpenedBy changes client

IsOpenedBy-more : (changes : List Change) (change : Change) (client : OpenClient) → IsOpenedBy changes client → IsOpenedBy (changes ++ change ∷ []) client
IsOpenedBy-more changes change client h = (h.0, Contains-append_left changes (change ∷ []) h.0 h.1, h.2, h.3)

-- some clients changed, but for name, birth and kind
AreOpened-changed : (changes : List Change) (name : List ℕ) (change : OpenClient → OpenClient) → ((client : OpenClient) → (change client).name ≡ client.name) → ((client : OpenClient) → (change client).birth ≡ client.birth)
    → ((client : OpenClient) → (change client).kind ≡ client.kind) → (clients : List OpenClient) → AreOpened changes clients → AreOpened changes (with_client name change clients)
AreOpened-changed changes name change same_name same_birth same_kind clients h client m apart =
    let w = contains-map changed clients client m in
    let named : client.name ≡ w.0.name = ap (λ (c : OpenClient). c.name) (sym w.2) ∙ changed-name w.0 in
    let born : client.birth ≡ w.0.birth = ap (λ (c : OpenClient). c.birth) (sym w.2) ∙ changed-birth w.0 in
    let kinds : client.kind ≡ w.0.kind = ap (λ (c : OpenClient). c.kind) (sym w.2) ∙ changed-kind w.0 in
    let opened : IsOpenedBy changes w.0 = h w.0 w.1 (sym (ap is_system named) ∙ apart) in
    (opened.0, opened.1, opened.2 ∙ sym born, opened.3 ∙ sym (ap₂ Open named kinds))
  where
    changed : OpenClient → OpenClient
    changed c = if bytes_eq c.name name then change c else c

    changed-name : (c : OpenClient) → (changed c).name ≡ c.name
    changed-name c = go (bytes_eq c.name name)
      where
        go : (b : Bool) → (cond b (change c) c).name ≡ c.name
        go true = same_name c
        go false = refl

    changed-birth : (c : OpenClient) → (changed c).birth ≡ c.birth
    changed-birth c = go (bytes_eq c.name name)
      where
        go : (b : Bool) → (cond b (change c) c).birth ≡ c.birth
        go true = same_birth c
        go false = refl

    changed-kind : (c : OpenClient) → (changed c).kind ≡ c.kind
    changed-kind c = go (bytes_eq c.name name)
      where
        go : (b : Bool) → (cond b (change c) c).kind ≡ c.kind
        go true = same_kind c
        go false = refl

AreOpened-effect : (changes : List Change) (state : State) (change : Change) (command : Command) → change.command ≡ command → AreOpened changes state.clients
    → AreOpened (changes ++ change ∷ []) (effect state change.number command).clients
AreOpened-effect changes state change (Open name kind) is_command h client m apart = go (Contains-append_cases state.clients (new ∷ []) client m)
  where
    new : OpenClient
    new = record { name = name; kind = kind; birth = change.number; active = false; slow = 0 }

    last : (new ≡ client) ⊎ Contains [] client → IsOpenedBy (changes ++ change ∷ []) client
    last (inl e) = subst (IsOpenedBy (changes ++ change ∷ [])) e (change, Contains-append_right changes (change ∷ []) change (Contains-first change []), refl, is_command)
    last (inr k) = absurd (none_below k.1)

    go : Contains state.clients client ⊎ Contains (new ∷ []) client → IsOpenedBy (changes ++ change ∷ []) client
    go (inl k) = IsOpenedBy-more changes change client (h client k apart)
    go (inr k) = last (Contains-cases new client [] k)
AreOpened-effect changes state change (Close name) is_command h client m apart =
    IsOpenedBy-more changes change client (h client (filter-contains (λ (c : OpenClient). not (bytes_eq c.name name)) state.clients client m) apart)
AreOpened-effect changes state change (Activate name) is_command h client m apart =
    IsOpenedBy-more changes change client (AreOpened-changed changes name (λ c. record c { active = true }) (λ c. refl) (λ c. refl) (λ c. refl) state.clients h client m apart)
AreOpened-effect changes state change (Deactivate name) is_command h client m apart =
    IsOpenedBy-more changes change client (AreOpened-changed changes name (λ c. record c { active = false }) (λ c. refl) (λ c. refl) (λ c. refl) state.clients h client m apart)
AreOpened-effect changes state change (Slow name cycles) is_command h client m apart =
    IsOpenedBy-more changes change client (AreOpened-changed changes name (λ c. record c { slow = cycles }) (λ c. refl) (λ c. refl) (λ c. refl) state.clients h client m apart)
AreOpened-effect changes state change (Register port way kind) is_command h client m apart = IsOpenedBy-more changes change client (h client m apart)
AreOpened-effect changes state change (Unregister port) is_command h client m apart = IsOpenedBy-more changes change client (h client m apart)
AreOpened-effect changes state change (Connect source destination) is_command h client m apart = IsOpenedBy-more changes change client (h client m apart)
AreOpened-effect changes state change (Disconnect source destination) is_command h client m apart = IsOpenedBy-more changes change client (h client m apart)
AreOpened-effect changes state change Start is_command h client m apart = IsOpenedBy-more changes change client (h client m apart)
AreOpened-effect changes state change Stop is_command h client m apart = IsOpenedBy-more changes change client (h client m apart)
AreOpened-effect changes state change (Locate frame) is_command h client m apart = IsOpenedBy-more changes change client (h client m apart)
AreOpened-effect changes state change (Timeout cycles) is_command h client m apart = IsOpenedBy-more changes change client (h client m apart)
AreOpened-effect changes state change (Timebase name mbpm beats ticks) is_command h client m apart = IsOpenedBy-more changes change client (h client m apart)
AreOpened-effect changes state change (TimebaseIf name mbpm beats ticks) is_command h client m apart = IsOpenedBy-more changes change client (h client m apart)
AreOpened-effect changes state change (Release name) is_command h client m apart = IsOpenedBy-more changes change client (h client m apart)
AreOpened-effect changes state change (Latency mode port) is_command h client m apart = IsOpenedBy-more changes change client (h client m apart)

AreOpened-after : (changes : List Change) (state : State) (change : Change) → AreOpened changes state.clients → AreOpened (changes ++ change ∷ []) (after state change.number change.command).clients
AreOpened-after changes state change h = go (is_none (refusal state change.command))
  where
    go : (b : Bool) → AreOpened (changes ++ change ∷ []) (cond b (effect state change.number change.command) state).clients
    go true = AreOpened-effect changes state change change.command refl h
    go false = λ client m apart. IsOpenedBy-more changes change client (h client m apart)

AreOpened-from : (done changes : List Change) (state : State) → AreOpened done state.clients → AreOpened (done ++ changes) (replay state changes).clients
AreOpened-from done [] state h = subst (λ all. AreOpened all state.clients) (sym (append-nil done)) h
AreOpened-from done (change ∷ changes) state h =
    subst (λ all. AreOpened all (replay state (change ∷ changes)).clients) (append_assoc done (change ∷ []) changes)
    (AreOpened-from (done ++ change ∷ []) changes (after state change.number change.command) (AreOpened-after done state change h))

-- in each state that changes led to
pub AreOpened-replay : (capture playback : ℕ) (changes : List Change) → AreOpened changes (replay (opening capture playback) changes).clients
AreOpened-replay capture playback changes = AreOpened-from [] changes (opening capture playback) (λ client m apart. absurd (only client (Contains-cases system_client client [] m) apart))
  where
    only : (client : OpenClient) → (system_client ≡ client) ⊎ Contains [] client → is_system client.name ≡ false → ⊥
    only client (inl e) apart = true≢false (ap (λ (c : OpenClient). is_system c.name) e ∙ apart)
    only client (inr k) apart = none_below k.1

-- a number stands once in a lawful list
one_number : (state : State) (changes : List Change) (a b : Change) → AreLawful state changes → Contains changes a → Contains changes b → a.number ≡ b.number → a ≡ b
one_number state changes a b lawful m n e =
    let at_a : slice_get changes m.0 ≡ Some a = slice_get-get_or changes m.0 a m.1 ∙ ap Some m.2 in
    let at_b : slice_get changes n.0 ≡ Some b = slice_get-get_or changes n.0 b n.1 ∙ ap Some n.2 in
    let number_a : a.number ≡ m.0 + 1 = (lawful m.0 a at_a).numbered in
    let number_b : b.number ≡ n.0 + 1 = (lawful n.0 b at_b).numbered in
    let same : m.0 ≡ n.0 = omega (arith, number_a, number_b, e) in
    same_some a b (sym at_a ∙ ap (slice_get changes) same ∙ at_b)
  where
    same_some : (x y : Change) → Some x ≡ Some y → x ≡ y
    same_some x y p = cc

-- clients that were opened by changes of one lawful list, of one birth, have one name and one kind
pub one_opening : (state : State) (changes : List Change) → AreLawful state changes → (a b : OpenClient) → IsOpenedBy changes a → IsOpenedBy changes b → a.birth ≡ b.birth → (a.name ≡ b.name) × (a.kind ≡ b.kind)
one_opening state changes lawful a b p q e =
    let same : p.0 ≡ q.0 = one_number state changes p.0 q.0 lawful p.1 q.1 (p.2 ∙ e ∙ sym q.2) in
    let commands : Open a.name a.kind ≡ Open b.name b.kind = sym p.3 ∙ ap (λ (change : Change). change.command) same ∙ q.3 in
    (names a.name b.name a.kind b.kind commands, kinds a.name b.name a.kind b.kind commands)
  where
    names : (x y : List ℕ) (j k : Kind) → Open x j ≡ Open y k → x ≡ y
    names x y j k h = cc

    kinds : (x y : List ℕ) (j k : Kind) → Open x j ≡ Open y k → j ≡ k
    kinds x y j k h = cc
