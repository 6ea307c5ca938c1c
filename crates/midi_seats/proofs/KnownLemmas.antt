-- What is known of the owners, from step to step.
--     code-one      two kinds with one number are one kind
--     node-is      a node's client among the open ones
--     node-opened, opened-once      the change of its birth opened it, and no client of another kind
--     seats-have, seats-short      the seats of a plan's clients
--     known-first, known-later, known-all, known-some      the laws
use Rattle.std.proofs.Common.{◌≡◌, ℕ, zero, suc, ◌+◌, ◌<◌, ◌≤◌, Bool, true, false, not, ◌&&◌, ◌⊎◌, inl, inr, List, [], ◌∷◌, length, take, get_or, nat_lt, slice_get, Contains, Option, Some, None, refl, sym, ◌∙◌, ap, subst, arith, ltb-false, ltb-true}
use Rattle.std.specs.Str.{bytes_eq}
use Rattle.std.proofs.lemmas.List.{get_or-map, get_or_past, length-map}
use Rattle.std.proofs.lemmas.Option.{slice_get-get_or}
use Rattle.jack_types.specs.declared.commands.Change.{Change}
use Rattle.jack_types.specs.declared.kinds.Kind.{Kind}
use Rattle.jack_types.specs.declared.kinds.Kind.TheVariants.{Pass, Gain, Mix, Delay, Tone, Click, Meter, Tape, Guest, Midiplay, Midithru, Midilog, Disk}
use Rattle.jack_types.specs.declared.ports.Client.{Client}
use Rattle.graph_word.specs.Publications.{IsFront}
use Rattle.session_model.specs.Benches.{node_at}
use Rattle.session_model.specs.Courses.{players}
use Rattle.session_model.specs.Replies.{AreLawful}
use Rattle.session_model.specs.State.{OpenClient, State, is_system, system_client}
use Rattle.session_laws.proofs.CycleLemmas.{find-contains, player_not-system}
use Rattle.session_laws.proofs.LoopLemmas.{Contains-cases, Contains-first, Contains-later}
use Rattle.session_laws.proofs.PlaceLemmas.{filter-contains}
use Rattle.port_registry.specs.Registered.{open_client, open_clients, system_entry}
use Rattle.task_laws.specs.cycle_plan.specs.Plans.{IsPlanned, Planned, opening_of, state_of_plan}
use Rattle.task_laws.specs.Calls.{HasOpened, kind_opened}
use Rattle.task_laws.proofs.OpenedLemmas.{client-opened}
use Rattle.midi_seats.specs.declared.seating.Owned.{Owned}
use Rattle.midi_seats.specs.Owning.{AreKnown, HaveSeats, IsFor, IsShort, code_at, kind_at}
use Rattle.midi_seats.specs.Seating.{HasNoSeat, SeatsAll, SeatsSome, client_at, midi_code, no_owned, owner_of, seat_for}

one : {X : Type 0} (x y : X) → Some x ≡ Some y → x ≡ y
one x y e = cc

nothing-some : {X : Type 0} (x : X) → None ≡ Some x → ⊥
nothing-some x e = cc

-- ---- kinds by their numbers

data IsCoded (kind : Kind) (code : ℕ) : Type 0 where
  Thru : kind ≡ Midithru → code ≡ 0 → IsCoded kind code
  Log : kind ≡ Midilog → code ≡ 1 → IsCoded kind code
  Play : (list : ℕ) → kind ≡ Midiplay list → code ≡ list + 2 → IsCoded kind code

coded : (kind : Kind) (code : ℕ) → midi_code kind ≡ Some code → IsCoded kind code
coded Midithru code e = Thru refl (sym (one 0 code e))
coded Midilog code e = Log refl (sym (one 1 code e))
coded (Midiplay list) code e = Play list refl (sym (one (list + 2) code e))
coded Pass code e = absurd (nothing-some code e)
coded (Gain _ _) code e = absurd (nothing-some code e)
coded Mix code e = absurd (nothing-some code e)
coded (Delay _) code e = absurd (nothing-some code e)
coded (Tone _ _) code e = absurd (nothing-some code e)
coded (Click _) code e = absurd (nothing-some code e)
coded Meter code e = absurd (nothing-some code e)
coded (Tape _) code e = absurd (nothing-some code e)
coded (Guest _) code e = absurd (nothing-some code e)
coded (Disk _) code e = absurd (nothing-some code e)

pub code-one : (a b : Kind) (code : ℕ) → midi_code a ≡ Some code → midi_code b ≡ Some code → a ≡ b
code-one a b code e f = go (coded a code e) (coded b code f)
  where
    go : IsCoded a code → IsCoded b code → a ≡ b
    go (Thru is _) (Thru also _) = is ∙ sym also
    go (Log is _) (Log also _) = is ∙ sym also
    go (Play list is m) (Play other also n) = is ∙ ap Midiplay (let same : list + 2 ≡ other + 2 = sym m ∙ n in omega (arith, same)) ∙ sym also
    go (Thru is m) (Log also n) = absurd (omega (arith, m, n))
    go (Thru is m) (Play list also n) = absurd (omega (arith, m, n))
    go (Log is m) (Thru also n) = absurd (omega (arith, m, n))
    go (Log is m) (Play list also n) = absurd (omega (arith, m, n))
    go (Play list is m) (Thru also n) = absurd (omega (arith, m, n))
    go (Play list is m) (Log also n) = absurd (omega (arith, m, n))

-- ---- clients and the changes that opened them

module _ (start : State) (changes : List Change) (lawful : AreLawful start changes) where
  listed : (change : Change) (m : Contains changes change) → slice_get changes m.0 ≡ Some change
  listed change m = slice_get-get_or changes m.0 change m.1 ∙ ap Some m.2

  numbered : (change : Change) (m : Contains changes change) → change.number ≡ m.0 + 1
  numbered change m = (lawful m.0 change (listed change m)).numbered

  one-number : (a b : Change) → Contains changes a → Contains changes b → a.number ≡ b.number → a ≡ b
  one-number a b m n e =
      let first : a.number ≡ m.0 + 1 = numbered a m in
      let second : b.number ≡ n.0 + 1 = numbered b n in
      let same : m.0 ≡ n.0 = omega (arith, first, second, e) in
      one a b (sym (listed a m) ∙ ap (slice_get changes) same ∙ listed b n)

  pub opened-once : (birth : ℕ) (kind other : Kind) → HasOpened changes birth kind → HasOpened changes birth other → kind ≡ other
  opened-once birth kind other p q =
      one kind other (sym p.3 ∙ ap (λ (change : Change). kind_opened change.command) (one-number p.0 q.0 p.1 q.1 (p.2 ∙ sym q.2)) ∙ q.3)

pub length-nodes : (nodes : List Client) → length (open_clients nodes) ≡ length nodes
length-nodes nodes = length-map nodes open_client

pub node-is : (nodes : List Client) (n : ℕ) → n < length nodes → node_at (open_clients nodes) n ≡ open_client (client_at nodes n)
node-is nodes n low = get_or-map open_client nodes n system_entry system_client low

pub birth-is : (nodes : List Client) (n : ℕ) → n < length nodes → (node_at (open_clients nodes) n).birth ≡ (client_at nodes n).birth
birth-is nodes n low = ap (λ (c : OpenClient). c.birth) (node-is nodes n low)

pub kind-is : (nodes : List Client) (n : ℕ) → n < length nodes → (node_at (open_clients nodes) n).kind ≡ (client_at nodes n).kind
kind-is nodes n low = ap (λ (c : OpenClient). c.kind) (node-is nodes n low)

module _ (plan : Planned) (planned : IsPlanned plan) where
  abbrev nodes : List OpenClient
  nodes = open_clients plan.nodes

  player : (n : ℕ) → n < length nodes → Contains (players (state_of_plan plan)) (node_at nodes n)
  player n h = find-contains (λ (c : OpenClient). bytes_eq c.name (node_at nodes n).name) (players (state_of_plan plan)) (node_at nodes n) (planned.is_plan.named n h)

  pub node-opened : (n : ℕ) → n < length (open_clients plan.nodes) → HasOpened plan.changes (node_at (open_clients plan.nodes) n).birth (node_at (open_clients plan.nodes) n).kind
  node-opened n h =
      client-opened plan.changes plan.base.capture plan.base.playback (node_at nodes n)
      (filter-contains (λ (c : OpenClient). c.active && not (is_system c.name)) (state_of_plan plan).clients (node_at nodes n) (player n h))
      (player_not-system (state_of_plan plan) (node_at nodes n).name (node_at nodes n) (planned.is_plan.named n h))

-- ---- the seats of a plan's clients

past-none : (seats : List (Option ℕ)) (n b : ℕ) → get_or seats n None ≡ Some b → n < length seats
past-none seats n b e = go (nat_lt n (length seats)) refl
  where
    go : (t : Bool) → nat_lt n (length seats) ≡ t → n < length seats
    go true f = ltb-true n (length seats) f
    go false f = absurd (nothing-some b (sym (get_or_past seats n None (ltb-false n (length seats) f)) ∙ e))

module _ (nodes : List Client) (count : ℕ) (seats : List (Option ℕ)) (before after : List Owned) (h : SeatsAll nodes count seats before after) where
  pub seat-low : (n b : ℕ) → get_or seats n None ≡ Some b → n < count
  seat-low n b e = let low : n < length seats = past-none seats n b e in let many : length seats ≡ count = h.as_many in omega (arith, low, many)

pub seats-have : (nodes : List Client) (seats : List (Option ℕ)) (before after : List Owned) → SeatsAll nodes (length nodes) seats before after → HaveSeats (open_clients nodes) seats after
seats-have nodes seats before after h = record {
  as_many = h.as_many ∙ sym (length-nodes nodes);
  owns = λ n b e. let low : n < length nodes = seat-low nodes (length nodes) seats before after h n b e in h.owns n b low e ∙ ap Some (sym (birth-is nodes n low));
  kinds = λ n b e. let low : n < length nodes = seat-low nodes (length nodes) seats before after h n b e in ap midi_code (kind-is nodes n low) ∙ h.kinds n b low e;
  none = λ n low e. let less : n < length nodes = (let many : length (open_clients nodes) ≡ length nodes = length-nodes nodes in omega (arith, low, many)) in ap midi_code (kind-is nodes n less) ∙ h.none n less e;
}

pub seats-short : (nodes : List Client) (seats : List (Option ℕ)) (before after : List Owned) → SeatsSome nodes seats before after → IsShort (open_clients nodes) after
seats-short nodes seats before after s = record {
  n = s.count;
  within = (let low : s.count < length nodes = s.within in let many : length (open_clients nodes) ≡ length nodes = length-nodes nodes in omega (arith, low, many));
  code = s.refused.0;
  kind = ap midi_code (kind-is nodes s.count s.within) ∙ s.refused.1;
  none = ap (λ birth. seat_for birth s.refused.0 after) (birth-is nodes s.count s.within) ∙ s.refused.2;
}

-- ---- what is known

front-contains : {X : Type 0} (n : ℕ) (xs : List X) (x : X) → Contains (take n xs) x → Contains xs x
front-contains zero xs x m = absurd (omega (arith, m.1))
front-contains (suc n) [] x m = absurd (omega (arith, m.1))
front-contains {X} (suc n) (y ∷ xs) x m = go (Contains-cases y x (take n xs) m) (front-contains n xs x)
  where
    go : (y ≡ x) ⊎ Contains (take n xs) x → (Contains (take n xs) x → Contains xs x) → Contains (y ∷ xs) x
    go (inl e) rest = subst (Contains (y ∷ xs)) e (Contains-first y xs)
    go (inr k) rest = Contains-later y x xs (rest k)

pub known-first : (changes : List Change) (kinds : List Kind) (benches : List Owned) → IsFor kinds benches → ((b : ℕ) → owner_of benches b ≡ None) → AreKnown changes kinds benches
known-first changes kinds benches made none = record {
  made = made;
  apart = λ b c birth e. absurd (nothing-some birth (sym (none b) ∙ e));
  opened = λ b birth e. absurd (nothing-some birth (sym (none b) ∙ e));
}

pub known-later : (front changes : List Change) (kinds : List Kind) (benches : List Owned) → IsFront front changes → AreKnown front kinds benches → AreKnown changes kinds benches
known-later front changes kinds benches is known = record {
  made = known.made;
  apart = known.apart;
  opened = λ b birth e. let w = known.opened b birth e in (w.0, front-contains (length front) changes w.0 (subst (λ all. Contains all w.0) is w.1), w.2, w.3);
}

module _ (plan : Planned) (planned : IsPlanned plan) (kinds : List Kind) (count : ℕ) (few : count ≤ length plan.nodes) (seats : List (Option ℕ)) (before after : List Owned)
    (known : AreKnown plan.changes kinds before) (h : SeatsAll plan.nodes count seats before after) where
  opened-seat : (b birth n : ℕ) → n < count → owner_of after b ≡ Some birth → get_or seats n None ≡ Some b → HasOpened plan.changes birth (kind_at kinds b)
  opened-seat b birth n low e f =
      let less : n < length plan.nodes = omega (arith, low, few) in
      let there : n < length (open_clients plan.nodes) = (let many : length (open_clients plan.nodes) ≡ length plan.nodes = length-nodes plan.nodes in omega (arith, less, many)) in
      let born : (node_at (open_clients plan.nodes) n).birth ≡ birth = birth-is plan.nodes n less ∙ one (client_at plan.nodes n).birth birth (sym (h.owns n b low f) ∙ e) in
      let code : midi_code (kind_at kinds b) ≡ Some (code_at after b) = known.made.codes b ∙ ap Some (sym (h.codes b)) in
      let same : (node_at (open_clients plan.nodes) n).kind ≡ kind_at kinds b =
      kind-is plan.nodes n less ∙ code-one (client_at plan.nodes n).kind (kind_at kinds b) (code_at after b) (h.kinds n b low f) code in
      subst (HasOpened plan.changes birth) same (subst (λ born_as. HasOpened plan.changes born_as (node_at (open_clients plan.nodes) n).kind) born (node-opened plan planned n there))

  pub known-seated : AreKnown plan.changes kinds after
  known-seated = record {
    made = record { as_many = h.benches ∙ known.made.as_many; codes = λ b. known.made.codes b ∙ ap Some (sym (h.codes b)) };
    apart = h.apart known.apart;
    opened = λ b birth e. opened b birth e (h.seated b birth e);
  }
    where
      opened : (b birth : ℕ) → owner_of after b ≡ Some birth → (owner_of before b ≡ Some birth) ⊎ ((owner_of before b ≡ None) × (n : ℕ) × (get_or seats n None ≡ Some b)) → HasOpened plan.changes birth (kind_at kinds b)
      opened b birth e (inl f) = known.opened b birth f
      opened b birth e (inr w) = opened-seat b birth w.1 (seat-low plan.nodes count seats before after h w.1 b w.2) e w.2

pub known-all : (plan : Planned) (kinds : List Kind) (seats : List (Option ℕ)) (before after : List Owned) → IsPlanned plan → AreKnown plan.changes kinds before → SeatsAll plan.nodes (length plan.nodes) seats before after → AreKnown plan.changes kinds after
known-all plan kinds seats before after planned known h = known-seated plan planned kinds (length plan.nodes) (omega arith) seats before after known h

pub known-some : (plan : Planned) (kinds : List Kind) (seats : List (Option ℕ)) (before after : List Owned) → IsPlanned plan → AreKnown plan.changes kinds before → SeatsSome plan.nodes seats before after → AreKnown plan.changes kinds after
known-some plan kinds seats before after planned known s = known-seated plan planned kinds s.count (let low : s.count < length plan.nodes = s.within in omega (arith, low)) seats before after known s.seated
