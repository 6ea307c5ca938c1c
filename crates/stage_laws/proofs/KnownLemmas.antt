-- What is known of the owners, from step to step.
--     kind-there, there-kind      the kinds of a rack by places
--     owner-opened      an owner was opened with its bench's kind
--     nobody-known, known-later, no-past, known-seated, known-kinds      the laws
use Rattle.std.proofs.Common.{◌≡◌, ℕ, ◌<◌, ◌≤◌, true, ◌⊎◌, inl, inr, List, [], length, take, slice_get, Contains, Some, None, refl, sym, ◌∙◌, ap, ap₂, subst, arith, eq-eqb}
use Rattle.std.specs.Option.{option_map}
use Rattle.std.proofs.lemmas.List.{length-map, length-take}
use Rattle.std.proofs.lemmas.Option.{slice_get-get_or, slice_get-map, slice_get_within}
use Rattle.jack_types.specs.declared.kinds.Kind.{Kind}
use Rattle.jack_types.specs.declared.kinds.Kind.TheVariants.{Guest, Pass}
use Rattle.session_model.specs.Benches.{node_at}
use Rattle.session_model.specs.Commands.{replay, shares}
use Rattle.session_model.specs.State.{OpenClient, State}
use Rattle.port_registry.specs.Registered.{open_clients}
use Rattle.cycle_plan.specs.Plans.{IsPlanned, Planned, opening_of, state_of_plan}
use Rattle.driver_laws.specs.Drivers.{Remembered}
use Rattle.task_laws.specs.Calls.{AreOwners, HasOpened}
use Rattle.task_laws.proofs.OpenedLemmas.{owners-later}
use Rattle.client_benches.specs.Seen.{Seen, new_bench}
use Rattle.client_wiring.specs.Keeping.{GoesOn}
use Rattle.bench_rack.specs.Racks.{Racked}
use Rattle.client_seats.specs.Owners.{Owned, owner_at}
use Rattle.client_seats.specs.Seatings.{HasNoPast, IsSeating, kind_at}
use Rattle.client_seats.specs.Moves.{LostGuest, kinds_of}
use Rattle.client_seats.proofs.PlaceLemmas.{owner_within}
use Rattle.stage_laws.specs.Known.{AreKnown, SeatsPlan}
use Rattle.stage_laws.proofs.BirthLemmas.{client-kind, node-open, node-opened, opened-bound}
use Rattle.stage_laws.proofs.OpenLemmas.{WasOpen, open-before}

-- ---- kinds by places

abbrev kind_of : Seen → Kind
kind_of bench = bench.kept.standing.kind

pub kind-there : (rack : Racked) (p : ℕ) → p < length rack.benches → slice_get (kinds_of rack) p ≡ Some (kind_at rack p)
kind-there rack p h = slice_get-map kind_of rack.benches p ∙ ap (option_map kind_of) (slice_get-get_or rack.benches p (new_bench Pass 0) h)

pub there-kind : (rack : Racked) (p : ℕ) (kind : Kind) → slice_get (kinds_of rack) p ≡ Some kind → (p < length rack.benches) × (kind_at rack p ≡ kind)
there-kind rack p kind e =
    let within : p < length rack.benches = subst (λ k. p < k) (length-map rack.benches kind_of) (slice_get_within (kinds_of rack) p kind e) in
    (within, one (kind_at rack p) kind (sym (kind-there rack p within) ∙ e))
  where
    one : (a b : Kind) → Some a ≡ Some b → a ≡ b
    one a b f = cc

-- each owner was opened with its bench's kind
pub owner-opened : (plan : Planned) (rack : Racked) (owned : Owned) → IsSeating rack owned → AreKnown plan rack owned → (p birth : ℕ) → owner_at owned p ≡ Some birth → HasOpened plan.changes birth (kind_at rack p)
owner-opened plan rack owned seating known p birth e =
    let within : p < length owned.births = owner_within owned.births p birth e in
    let many : length owned.births ≡ length rack.benches = seating.as_many in
    known.owners.opened p birth (kind_at rack p) e (kind-there rack p (omega (arith, within, many)))

-- ---- at first

none-in : {X : Type 0} (xs : List X) (x : X) → xs ≡ [] → Contains xs x → ⊥
none-in {X} xs x e m = past (subst (λ ys. Contains ys x) e m)
  where
    past : Contains [] x → ⊥
    past k = let low : k.0 < 0 = k.1 in omega (arith, low)

pub nobody-known : (plan : Planned) (rack : Racked) (owned : Owned) → ((p : ℕ) → owner_at owned p ≡ None) → owned.past ≡ [] → AreKnown plan rack owned
nobody-known plan rack owned nobody empty = record {
  owners = record {
    apart = λ p q birth e f. absurd (none-some birth (sym (nobody p) ∙ e));
    opened = λ p birth kind e f. absurd (none-some birth (sym (nobody p) ∙ e));
  };
  born = λ kept m. absurd (none-in owned.past kept empty m);
  closed = λ kept client m n e. none-in owned.past kept empty m;
}
  where
    none-some : (birth : ℕ) → None ≡ Some birth → ⊥
    none-some birth e = cc

-- ---- as the changes go on

pub known-later : (last plan : Planned) (rack : Racked) (owned : Owned) → GoesOn last plan → AreKnown last rack owned → AreKnown plan rack owned
known-later last plan rack owned goes known = record {
  owners = owners-later last.changes plan.changes (kinds_of rack) owned.births goes.front known.owners;
  born = λ kept m. (let low : kept.birth ≤ length last.changes = known.born kept m in omega (arith, low, fewer));
  closed = λ kept client m n e. was-closed kept client m n e;
}
  where
    fewer : length last.changes ≤ length plan.changes
    fewer = let front : length last.changes ≡ length (take (length last.changes) plan.changes) = ap length goes.front in let count = length-take (length last.changes) plan.changes in omega (arith, front, count)

    same-state : replay (opening_of plan.base) (take (length last.changes) plan.changes) ≡ state_of_plan last
    same-state = ap₂ (λ b changes. replay (opening_of b) changes) goes.base (sym goes.front)

    was : (client : OpenClient) → Contains (state_of_plan plan).clients client → client.birth ≤ length last.changes → WasOpen (state_of_plan last).clients client
    was client m low = subst (λ (state : State). WasOpen state.clients client) same-state (open-before (opening_of plan.base) plan.changes goes.planned.lawful (length last.changes) client m low)

    -- who was born by then and is open now was open then
    was-closed : (kept : Remembered) (client : OpenClient) → Contains owned.past kept → Contains (state_of_plan plan).clients client → client.birth ≡ kept.birth → ⊥
    was-closed kept client m n e =
        let low : kept.birth ≤ length last.changes = known.born kept m in
        let old : WasOpen (state_of_plan last).clients client = was client n (omega (arith, low, e)) in
        known.closed kept old.0 m old.1 (old.2 ∙ e)

pub no-past : (plan : Planned) (rack : Racked) (owned : Owned) → IsPlanned plan → AreKnown plan rack owned → HasNoPast (open_clients plan.nodes) owned
no-past plan rack owned planned known n kept h m e = known.closed kept (node_at (open_clients plan.nodes) n) m (node-open plan planned n h) e

-- ---- behind a seating

module _ (plan : Planned) (planned : IsPlanned plan) (one_client : (a b : OpenClient) → Contains (state_of_plan plan).clients a → Contains (state_of_plan plan).clients b → shares a.kind b.kind ≡ true → a ≡ b) where
  abbrev nodes : List OpenClient
  nodes = open_clients plan.nodes

  -- two open clients of one guest are one
  pub one-guest : (a b : OpenClient) (guest : ℕ) → Contains (state_of_plan plan).clients a → Contains (state_of_plan plan).clients b → a.kind ≡ Guest guest → b.kind ≡ Guest guest → a ≡ b
  one-guest a b guest m n e f = one_client a b m n (ap₂ shares e f ∙ eq-eqb guest guest refl)

  module _ (rack : Racked) (owned : Owned) (after : Racked) (owned_after : Owned) (seating : IsSeating rack owned) (known : AreKnown plan rack owned) (seating_after : IsSeating after owned_after) (seats : SeatsPlan plan rack owned after owned_after) where
    opened-after : (p birth : ℕ) → owner_at owned_after p ≡ Some birth → HasOpened plan.changes birth (kind_at after p)
    opened-after p birth e = go (seats.owners p birth e)
      where
        go : ((q : ℕ) × (owner_at owned q ≡ Some birth) × (kind_at after p ≡ kind_at rack q)) ⊎ ((n : ℕ) × (n < length nodes) × ((node_at nodes n).birth ≡ birth) × (kind_at after p ≡ (node_at nodes n).kind)) → HasOpened plan.changes birth (kind_at after p)
        go (inl w) = subst (HasOpened plan.changes birth) (sym w.2) (owner-opened plan rack owned seating known w.0 birth w.1)
        go (inr w) = subst (HasOpened plan.changes birth) (sym w.3) (subst (λ b. HasOpened plan.changes b (node_at nodes w.0).kind) w.2 (node-opened plan planned w.0 w.1))

    -- who lost its guest was opened with it, and is not open: it would be the client that has the guest now
    lost-opened : (birth : ℕ) (l : LostGuest nodes rack owned birth) → HasOpened plan.changes birth (Guest l.guest)
    lost-opened birth l = subst (HasOpened plan.changes birth) l.kind (owner-opened plan rack owned seating known l.place birth l.owner)

    lost-closed : (birth : ℕ) (l : LostGuest nodes rack owned birth) (client : OpenClient) → Contains (state_of_plan plan).clients client → client.birth ≡ birth → ⊥
    lost-closed birth l client m e =
        let kind : client.kind ≡ Guest l.guest = client-kind plan planned client (Guest l.guest) m (subst (λ b. HasOpened plan.changes b (Guest l.guest)) (sym e) (lost-opened birth l)) in
        let same : node_at nodes l.n ≡ client = one-guest (node_at nodes l.n) client l.guest (node-open plan planned l.n l.node) m l.node_kind kind in
        l.none l.n l.node (ap (λ (c : OpenClient). c.birth) same ∙ e)

    pub known-seated : AreKnown plan after owned_after
    known-seated = record {
      owners = record {
        apart = seating_after.apart;
        opened = λ p birth kind e f. subst (HasOpened plan.changes birth) (there-kind after p kind f).1 (opened-after p birth e);
      };
      born = λ kept m. born-at kept (seats.lost kept m);
      closed = λ kept client m n e. closed-at kept (seats.lost kept m) client n e;
    }
      where
        born-at : (kept : Remembered) → Contains owned.past kept ⊎ LostGuest nodes rack owned kept.birth → kept.birth ≤ length plan.changes
        born-at kept (inl m) = known.born kept m
        born-at kept (inr l) = (opened-bound (opening_of plan.base) plan.changes planned.lawful kept.birth (Guest l.guest) (lost-opened kept.birth l)).1

        closed-at : (kept : Remembered) → Contains owned.past kept ⊎ LostGuest nodes rack owned kept.birth → (client : OpenClient) → Contains (state_of_plan plan).clients client → client.birth ≡ kept.birth → ⊥
        closed-at kept (inl m) client n e = known.closed kept client m n e
        closed-at kept (inr l) client n e = lost-closed kept.birth l client n e

pub known-kinds : (plan : Planned) (rack : Racked) (owned : Owned) (after : Racked) → AreKnown plan rack owned → kinds_of after ≡ kinds_of rack → AreKnown plan after owned
known-kinds plan rack owned after known same = record {
  owners = subst (λ kinds. AreOwners plan.changes kinds owned.births) (sym same) known.owners;
  born = known.born;
  closed = known.closed;
}
