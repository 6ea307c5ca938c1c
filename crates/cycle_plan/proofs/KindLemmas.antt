-- At most one open client has a given recorder, guest or disk file.
--     one_client-replay      two open clients that share one are one
use Rattle.std.proofs.Common.{◌≡◌, ℕ, ◌<◌, Bool, true, false, cond, not, ◌⊎◌, inl, inr, List, [], ◌∷◌, ◌++◌, length, map, filter, find, fold, Contains, Option, Some, None, is_none, is_some, refl, sym, ◌∙◌, ap, ap₂, subst, arith, true≢false, eqb-true}
use Rattle.std.specs.Str.{bytes_eq}
use Rattle.graph_word.specs.jack_types.specs.declared.commands.Change.{Change}
use Rattle.graph_word.specs.jack_types.specs.declared.commands.Command.{Command}
use Rattle.graph_word.specs.jack_types.specs.declared.commands.Command.TheVariants.{Open, Close, Activate, Deactivate, Register, Unregister, Connect, Disconnect, Start, Stop, Locate, Timeout, Slow, Timebase, TimebaseIf, Release, Latency}
use Rattle.graph_word.specs.jack_types.specs.declared.kinds.Kind.{Kind}
use Rattle.graph_word.specs.jack_types.specs.declared.kinds.Kind.TheVariants.{Pass, Gain, Mix, Delay, Tone, Click, Meter, Tape, Guest, Midiplay, Midithru, Midilog, Disk}
use Rattle.graph_word.specs.jack_types.specs.declared.replies.Refusal.{Refusal}
use Rattle.graph_word.specs.jack_types.specs.declared.replies.Refusal.TheVariants.{ClientsFull, InUse, IsOpen}
use Rattle.graph_word.specs.session_model.specs.Commands.{after, applies, effect, refusal, refusals_of, replay, shares, with_client}
use Rattle.graph_word.specs.session_model.specs.State.{OpenClient, State, opening, system_client}
use Rattle.port_registry.specs.session_laws.proofs.ListLemmas.{Each, Each-contains, Each-from_contains, Ordered, Ordered-append, Ordered-filter, Ordered-map, Ordered-weaker}
use Rattle.port_registry.specs.session_laws.proofs.LoopLemmas.{Contains-cases, Contains-first, Contains-later}
use Rattle.port_registry.specs.session_laws.proofs.SoundLemmas.{find-none, refused_not}
use Rattle.cycle_plan.proofs.NetworkLemmas.{fails}

none_below : {n : ℕ} → n < 0 → ⊥
none_below p = omega arith

-- kinds that share a recorder, a guest or a disk file are one
shares-same : (one other : Kind) → shares one other ≡ true → one ≡ other
shares-same Pass kind h = absurd (true≢false (sym h))
shares-same (Gain a0 a1) kind h = absurd (true≢false (sym h))
shares-same Mix kind h = absurd (true≢false (sym h))
shares-same (Delay a0) kind h = absurd (true≢false (sym h))
shares-same (Tone a0 a1) kind h = absurd (true≢false (sym h))
shares-same (Click a0) kind h = absurd (true≢false (sym h))
shares-same Meter kind h = absurd (true≢false (sym h))
shares-same (Tape a0) Pass h = absurd (true≢false (sym h))
shares-same (Tape a0) (Gain b0 b1) h = absurd (true≢false (sym h))
shares-same (Tape a0) Mix h = absurd (true≢false (sym h))
shares-same (Tape a0) (Delay b0) h = absurd (true≢false (sym h))
shares-same (Tape a0) (Tone b0 b1) h = absurd (true≢false (sym h))
shares-same (Tape a0) (Click b0) h = absurd (true≢false (sym h))
shares-same (Tape a0) Meter h = absurd (true≢false (sym h))
shares-same (Tape a) (Tape b) h = ap Tape (eqb-true a b h)
shares-same (Tape a0) (Guest b0) h = absurd (true≢false (sym h))
shares-same (Tape a0) (Midiplay b0) h = absurd (true≢false (sym h))
shares-same (Tape a0) Midithru h = absurd (true≢false (sym h))
shares-same (Tape a0) Midilog h = absurd (true≢false (sym h))
shares-same (Tape a0) (Disk b0) h = absurd (true≢false (sym h))
shares-same (Guest a0) Pass h = absurd (true≢false (sym h))
shares-same (Guest a0) (Gain b0 b1) h = absurd (true≢false (sym h))
shares-same (Guest a0) Mix h = absurd (true≢false (sym h))
shares-same (Guest a0) (Delay b0) h = absurd (true≢false (sym h))
shares-same (Guest a0) (Tone b0 b1) h = absurd (true≢false (sym h))
shares-same (Guest a0) (Click b0) h = absurd (true≢false (sym h))
shares-same (Guest a0) Meter h = absurd (true≢false (sym h))
shares-same (Guest a0) (Tape b0) h = absurd (true≢false (sym h))
shares-same (Guest a) (Guest b) h = ap Guest (eqb-true a b h)
shares-same (Guest a0) (Midiplay b0) h = absurd (true≢false (sym h))
shares-same (Guest a0) Midithru h = absurd (true≢false (sym h))
shares-same (Guest a0) Midilog h = absurd (true≢false (sym h))
shares-same (Guest a0) (Disk b0) h = absurd (true≢false (sym h))
shares-same (Midiplay a0) kind h = absurd (true≢false (sym h))
shares-same Midithru kind h = absurd (true≢false (sym h))
shares-same Midilog kind h = absurd (true≢false (sym h))
shares-same (Disk a0) Pass h = absurd (true≢false (sym h))
shares-same (Disk a0) (Gain b0 b1) h = absurd (true≢false (sym h))
shares-same (Disk a0) Mix h = absurd (true≢false (sym h))
shares-same (Disk a0) (Delay b0) h = absurd (true≢false (sym h))
shares-same (Disk a0) (Tone b0 b1) h = absurd (true≢false (sym h))
shares-same (Disk a0) (Click b0) h = absurd (true≢false (sym h))
shares-same (Disk a0) Meter h = absurd (true≢false (sym h))
shares-same (Disk a0) (Tape b0) h = absurd (true≢false (sym h))
shares-same (Disk a0) (Guest b0) h = absurd (true≢false (sym h))
shares-same (Disk a0) (Midiplay b0) h = absurd (true≢false (sym h))
shares-same (Disk a0) Midithru h = absurd (true≢false (sym h))
shares-same (Disk a0) Midilog h = absurd (true≢false (sym h))
shares-same (Disk a) (Disk b) h = ap Disk (eqb-true a b h)

-- no two of the clients share one
abbrev Alone : List OpenClient → Type 0
Alone clients = Ordered (λ (a b : OpenClient). shares a.kind b.kind ≡ false) clients

module _ (name : List ℕ) (change : OpenClient → OpenClient) (same_kind : (client : OpenClient) → (change client).kind ≡ client.kind) where
  abbrev changed : OpenClient → OpenClient
  changed client = cond (bytes_eq client.name name) (change client) client

  changed-kind : (client : OpenClient) → (changed client).kind ≡ client.kind
  changed-kind client = go (bytes_eq client.name name)
    where
      go : (b : Bool) → (cond b (change client) client).kind ≡ client.kind
      go true = same_kind client
      go false = refl

  Alone-changed : (clients : List OpenClient) → Alone clients → Alone (with_client name change clients)
  Alone-changed clients alone =
      Ordered-map (λ (a b : OpenClient). shares a.kind b.kind ≡ false) changed clients
      (Ordered-weaker (λ (a b : OpenClient). shares a.kind b.kind ≡ false) (λ (a b : OpenClient). shares (changed a).kind (changed b).kind ≡ false)
      (λ a b h. ap₂ shares (changed-kind a) (changed-kind b) ∙ h) clients alone)

Alone-effect : (state : State) (number : ℕ) (command : Command) → is_none (refusal state command) ≡ true → Alone state.clients → Alone (effect state number command).clients
Alone-effect state number (Open client kind) accepted alone =
    Ordered-append (λ (a b : OpenClient). shares a.kind b.kind ≡ false) (λ (a : OpenClient). shares a.kind kind ≡ false) (λ (b : OpenClient). b.kind ≡ kind)
    (λ a b h e. ap (shares a.kind) e ∙ h) state.clients (new ∷ []) alone
    (Each-from_contains (λ (a : OpenClient). shares a.kind kind ≡ false) state.clients (λ a m. fails (shares a.kind kind) (find-none (λ (c : OpenClient). shares c.kind kind) state.clients a unused m)))
    (tt, tt) (refl, tt)
  where
    new : OpenClient
    new = record { name = client; kind = kind; birth = number; active = false; slow = 0 }

    unused : is_some (find (λ (c : OpenClient). shares c.kind kind) state.clients) ≡ false
    unused = refused_not state (Open client kind) (refusals_of (Open client kind)) InUse accepted (Contains-later IsOpen InUse (ClientsFull ∷ InUse ∷ []) (Contains-later ClientsFull InUse (InUse ∷ []) (Contains-first InUse [])))
Alone-effect state number (Close client) accepted alone = Ordered-filter (λ (a b : OpenClient). shares a.kind b.kind ≡ false) (λ (old : OpenClient). not (bytes_eq old.name client)) state.clients alone
Alone-effect state number (Activate client) accepted alone = Alone-changed client (λ (old : OpenClient). record old { active = true }) (λ c. refl) state.clients alone
Alone-effect state number (Deactivate client) accepted alone = Alone-changed client (λ (old : OpenClient). record old { active = false }) (λ c. refl) state.clients alone
Alone-effect state number (Register port way kind) accepted alone = alone
Alone-effect state number (Unregister port) accepted alone = alone
Alone-effect state number (Connect source destination) accepted alone = alone
Alone-effect state number (Disconnect source destination) accepted alone = alone
Alone-effect state number Start accepted alone = alone
Alone-effect state number Stop accepted alone = alone
Alone-effect state number (Locate frame) accepted alone = alone
Alone-effect state number (Timeout cycles) accepted alone = alone
Alone-effect state number (Slow client cycles) accepted alone = Alone-changed client (λ (old : OpenClient). record old { slow = cycles }) (λ c. refl) state.clients alone
Alone-effect state number (Timebase client mbpm beats ticks) accepted alone = alone
Alone-effect state number (TimebaseIf client mbpm beats ticks) accepted alone = alone
Alone-effect state number (Release client) accepted alone = alone
Alone-effect state number (Latency mode port) accepted alone = alone

Alone-after : (state : State) (number : ℕ) (command : Command) → Alone state.clients → Alone (after state number command).clients
Alone-after state number command alone = go (is_none (refusal state command)) refl
  where
    go : (b : Bool) → is_none (refusal state command) ≡ b → Alone (cond b (effect state number command) state).clients
    go true e = Alone-effect state number command e alone
    go false e = alone

Alone-replay : (state : State) (changes : List Change) → Alone state.clients → Alone (replay state changes).clients
Alone-replay state [] alone = alone
Alone-replay state (change ∷ changes) alone = Alone-replay (after state change.number change.command) changes (Alone-after state change.number change.command alone)

one-alone : (clients : List OpenClient) → Alone clients → (a b : OpenClient) → Contains clients a → Contains clients b → shares a.kind b.kind ≡ true → a ≡ b
one-alone [] alone a b p q h = absurd (none_below p.1)
one-alone (client ∷ clients) alone a b p q h = go (Contains-cases client a clients p) (Contains-cases client b clients q) (λ m n. one-alone clients alone.1 a b m n h)
  where
    go : (client ≡ a) ⊎ Contains clients a → (client ≡ b) ⊎ Contains clients b → (Contains clients a → Contains clients b → a ≡ b) → a ≡ b
    go (inl e) (inl f) rest = sym e ∙ f
    go (inl e) (inr n) rest =
        absurd (true≢false (sym h ∙ ap (λ (c : OpenClient). shares c.kind b.kind) (sym e) ∙ Each-contains (λ (c : OpenClient). shares client.kind c.kind ≡ false) clients b alone.0 n))
    go (inr m) (inl f) rest =
        absurd (true≢false (sym h ∙ ap₂ shares (shares-same a.kind b.kind h) (sym (shares-same a.kind b.kind h)) ∙ ap (λ (c : OpenClient). shares c.kind a.kind) (sym f) ∙ Each-contains (λ (c : OpenClient). shares client.kind c.kind ≡ false) clients a alone.0 m))
    go (inr m) (inr n) rest = rest m n

pub one_client-replay : (capture playback : ℕ) (changes : List Change) (a b : OpenClient) → Contains (replay (opening capture playback) changes).clients a → Contains (replay (opening capture playback) changes).clients b
    → shares a.kind b.kind ≡ true → a ≡ b
one_client-replay capture playback changes a b p q h = one-alone (replay (opening capture playback) changes).clients (Alone-replay (opening capture playback) changes (tt, tt)) a b p q h
