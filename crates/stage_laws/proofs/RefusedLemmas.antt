-- No client of a plan of a script's own calls is without a bench.
--     not-refused      each cause of a refusal is none
use Rattle.std.proofs.Common.{◌≡◌, ℕ, ◌<◌, ◌≤◌, true, true≢false, List, length, Contains, Option, Some, None, IsSome, is_some, sym, ◌∙◌, ap, subst, arith}
use Rattle.std.specs.List.Sorted.{IsPermutation}
use Rattle.jack_types.specs.declared.kinds.Kind.TheVariants.{Guest}
use Rattle.session_model.specs.Benches.{node_at}
use Rattle.session_model.specs.Commands.{shares}
use Rattle.session_model.specs.Scripts.{Script}
use Rattle.session_model.specs.State.{OpenClient}
use Rattle.port_registry.specs.Registered.{open_clients}
use Rattle.cycle_plan.specs.Plans.{IsPlanned, Planned, opening_of, state_of_plan}
use Rattle.driver_laws.specs.Keeping.{AreOfCalls}
use Rattle.task_laws.specs.Calls.{HasOpened, guests_needed, open_kinds}
use Rattle.task_laws.proofs.EnoughLemmas.{free-bench}
use Rattle.task_laws.proofs.KindLemmas.{guests-among}
use Rattle.task_laws.proofs.OpenedLemmas.{kind-of_script}
use Rattle.bench_rack.specs.Racks.{Racked}
use Rattle.client_seats.specs.Owners.{Owned, owner_at}
use Rattle.client_seats.specs.Seatings.{GuestPlays, IsNobodys, IsRefused, IsSeating, NoBench, NoGuest, OtherKind, kind_at}
use Rattle.client_seats.specs.Moves.{kinds_of}
use Rattle.stage_laws.specs.Known.{AreKnown}
use Rattle.stage_laws.proofs.BirthLemmas.{node-open, node-opened, opened-once}
use Rattle.stage_laws.proofs.KnownLemmas.{one-guest, owner-opened, there-kind}

module _ (script : Script) (plan : Planned) (rack : Racked) (owned : Owned) (of : AreOfCalls script plan.changes) (planned : IsPlanned plan) (seating : IsSeating rack owned) (known : AreKnown plan rack owned) where
  abbrev nodes : List OpenClient
  nodes = open_clients plan.nodes

  -- who owns a bench owns one of its kind
  own-kind : (n p : ℕ) → n < length nodes → owner_at owned p ≡ Some (node_at nodes n).birth → kind_at rack p ≡ (node_at nodes n).kind
  own-kind n p h e =
      opened-once (opening_of plan.base) plan.changes planned.lawful (node_at nodes n).birth (kind_at rack p) (node_at nodes n).kind
      (owner-opened plan rack owned seating known p (node_at nodes n).birth e) (node-opened plan planned n h)

  -- of the benches of its kind one is nobody's
  bench-enough : IsPermutation (open_kinds script) (kinds_of rack) → (n : ℕ) → n < length nodes → IsNobodys owned (node_at nodes n).birth
      → ((p : ℕ) → p < length rack.benches → kind_at rack p ≡ (node_at nodes n).kind → IsSome (owner_at owned p)) → ⊥
  bench-enough made n h none taken =
      let w = free-bench script plan.changes (kinds_of rack) owned.births (node_at nodes n).kind (node_at nodes n).birth of made known.owners (node-opened plan planned n h) none in
      let there = there-kind rack w.0 (node_at nodes n).kind w.1 in
      no-owner (owner_at owned w.0) w.2 (taken w.0 there.0 there.1)
    where
      no-owner : (owner : Option ℕ) → owner ≡ None → IsSome owner → ⊥
      no-owner owner none some = true≢false (sym some ∙ ap is_some none)

  -- its guest is one of those that the script needs
  guest-enough : guests_needed script ≤ length owned.scores → (n guest : ℕ) → n < length nodes → (node_at nodes n).kind ≡ Guest guest → length owned.scores ≤ guest → ⊥
  guest-enough enough n guest h e past =
      let low : guest < guests_needed script =
      guests-among script guest (kind-of_script script plan.changes (node_at nodes n).birth (Guest guest) of (subst (HasOpened plan.changes (node_at nodes n).birth) e (node-opened plan planned n h))) in
      omega (arith, low, enough, past)

  module _ (one_client : (a b : OpenClient) → Contains (state_of_plan plan).clients a → Contains (state_of_plan plan).clients b → shares a.kind b.kind ≡ true → a ≡ b) where
    -- no other client has it
    guest-own : (n guest m p : ℕ) → n < length nodes → IsNobodys owned (node_at nodes n).birth → (node_at nodes n).kind ≡ Guest guest → m < length nodes → owner_at owned p ≡ Some (node_at nodes m).birth → kind_at rack p ≡ Guest guest → ⊥
    guest-own n guest m p h none e k owner kind =
        let same : node_at nodes m ≡ node_at nodes n =
        one-guest plan planned one_client (node_at nodes m) (node_at nodes n) guest (node-open plan planned m k) (node-open plan planned n h) (sym (own-kind m p k owner) ∙ kind) e in
        none p (owner ∙ ap (λ (c : OpenClient). Some c.birth) same)

    pub not-refused : IsPermutation (open_kinds script) (kinds_of rack) → guests_needed script ≤ length owned.scores → IsRefused nodes rack owned → ⊥
    not-refused made enough (OtherKind n p h owner other) = other (own-kind n p h owner)
    not-refused made enough (NoBench n h none taken) = bench-enough made n h none taken
    not-refused made enough (NoGuest n guest h none e past) = guest-enough enough n guest h e past
    not-refused made enough (GuestPlays n guest m p h none e k owner kind) = guest-own n guest m p h none e k owner kind
