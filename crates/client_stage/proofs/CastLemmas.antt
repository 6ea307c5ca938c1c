-- How benches get from one plan's clients to the next one's.
--     AreApart-plan      the clients of a plan are told apart by their births
--     nodes-within      who has a bench each are no more than benches
--     cleared-same      a bench that is cleared keeps what it remembers and gave
--     fed-seated      nothing is fed behind the clients' seating
--     fresh-seated, others-seated      who had no bench begins anew; who has none now keeps its memory
--     kinds-same, seats-cast, kinds-cast, periods-cast, memories-cast, unfed-cast      what a cast leaves, whether all have a bench or not
use Rattle.std.proofs.Common.{◌≡◌, ℕ, zero, suc, ◌<◌, ◌≤◌, ◌==◌, ◌⊎◌, inl, inr, List, [], length, Option, Some, None, option_map, refl, sym, ◌∙◌, ap, subst, arith, map}
use Rattle.std.specs.List.{Contains}
use Rattle.std.specs.List.Sorted.{IsPermutation}
use Rattle.std.proofs.lemmas.Bool.{cases_lt, eqb-true}
use Rattle.std.proofs.lemmas.List.{ext_get_or, length-map}
use Rattle.std.proofs.Math.ListN.{get_or-map}
use Rattle.jack_types.specs.declared.kinds.Kind.{Kind}
use Rattle.jack_types.specs.declared.kinds.Kind.TheVariants.{Pass, Gain, Mix, Delay, Tone, Click, Meter, Tape, Guest, Midiplay, Midithru, Midilog, Disk}
use Rattle.jack_types.specs.declared.ports.Client.{Client}
use Rattle.session_model.specs.Benches.{node_at, place_in}
use Rattle.session_model.specs.Cycles.{player_born}
use Rattle.session_model.specs.Kinds.{Memory, Sound, first}
use Rattle.session_model.specs.State.{OpenClient}
use Rattle.client_kinds.specs.Scores.{Score}
use Rattle.port_registry.specs.Registered.{open_clients}
use Rattle.port_registry.proofs.PlaceLemmas.{find-none}
use Rattle.cycle_plan.specs.Plans.{IsPlanned, Planned, state_of_plan}
use Rattle.client_kinds.specs.Standings.{Standing}
use Rattle.client_benches.specs.Seen.{Remembered as Kept, Seen, cleared, new_bench}
use Rattle.bench_rack.specs.Racks.{Racked, bench_at}
use Rattle.driver_laws.specs.Drivers.{Remembered}
use Rattle.client_seats.specs.Owners.{Owned, owner_at}
use Rattle.client_seats.specs.Moves.{LostGuest, kinds_of}
use Rattle.stage_laws.specs.Known.{SeatsPlan}
use Rattle.client_seats.specs.Seatings.{AreApart, HasBench, HasNoPast, HavePeriod, IsNobodys, IsSeating, kind_at, memory_of, standing_at}
use Rattle.client_seats.proofs.MemoryLemmas.{found_past, memory-owned, owned_or_not}
use Rattle.client_seats.proofs.PlayLemmas.{IsSeating-played}
use Rattle.client_seats.proofs.SeatLemmas.{bench-within}
use Rattle.stage_laws.proofs.GoingLemmas.{memory-same}
use Rattle.stage_laws.proofs.WholeLemmas.{same-bench-of}

some_is : {X : Type 0} {a b : X} → Some a ≡ Some b → a ≡ b
some_is e = cc

pub AreApart-plan : (plan : Planned) → IsPlanned plan → AreApart (open_clients plan.nodes)
AreApart-plan plan planned n m low_n low_m births =
    let one : node_at (open_clients plan.nodes) n ≡ node_at (open_clients plan.nodes) m =
    some_is (sym (planned.is_plan.born n low_n) ∙ ap (player_born (state_of_plan plan)) births ∙ planned.is_plan.born m low_m) in
    some_is (sym (planned.is_plan.placed n low_n) ∙ ap (λ (c : OpenClient). place_in (open_clients plan.nodes) c.name) one ∙ planned.is_plan.placed m low_m)

no_more : (m k : ℕ) → ((n : ℕ) → n < m → n < k) → m ≤ k
no_more zero k h = omega arith
no_more (suc m) k h = let low = h m (omega arith) in omega (arith, low)

pub nodes-within : (plan : Planned) (rack : Racked) (owned : Owned) → IsSeating rack owned → ((n : ℕ) → n < length plan.nodes → HasBench (open_clients plan.nodes) rack owned n n) → length plan.nodes ≤ length rack.benches
nodes-within plan rack owned s has = no_more (length plan.nodes) (length rack.benches) (λ n h. bench-within (open_clients plan.nodes) rack owned n n s (has n h))

pub seating-same : (rack after : Racked) (owned : Owned) → IsSeating rack owned → length after.benches ≡ length rack.benches → ((p : ℕ) → standing_at after p ≡ standing_at rack p) → IsSeating after owned
seating-same rack after owned s lengths same = IsSeating-played rack after owned s lengths (λ p. same-bench-of (standing_at rack p) (standing_at after p) (same p)) (λ p none. same p)

pub cleared-same : (rack clear : Racked) (count : ℕ) → ((p : ℕ) → p < count → bench_at clear p ≡ cleared (bench_at rack p)) → ((p : ℕ) → count ≤ p → bench_at clear p ≡ bench_at rack p)
    → (p : ℕ) → (standing_at clear p ≡ standing_at rack p) × ((bench_at clear p).kept.audio ≡ (bench_at rack p).kept.audio)
cleared-same rack clear count is_cleared others p = go (cases_lt p count)
  where
    go : (p < count) ⊎ (count ≤ p) → (standing_at clear p ≡ standing_at rack p) × ((bench_at clear p).kept.audio ≡ (bench_at rack p).kept.audio)
    go (inl h) = (ap (λ (b : Seen). b.kept.standing) (is_cleared p h), ap (λ (b : Seen). b.kept.audio) (is_cleared p h))
    go (inr h) = (ap (λ (b : Seen). b.kept.standing) (others p h), ap (λ (b : Seen). b.kept.audio) (others p h))

pub first-unfed : (scores : List Sound) (kind : Kind) → (first scores kind).fed ≡ []
first-unfed scores Pass = refl
first-unfed scores (Gain factor shift) = refl
first-unfed scores Mix = refl
first-unfed scores (Delay frames) = refl
first-unfed scores (Tone half level) = refl
first-unfed scores (Click level) = refl
first-unfed scores Meter = refl
first-unfed scores (Tape recorder) = refl
first-unfed scores (Guest guest) = refl
first-unfed scores (Midiplay list) = refl
first-unfed scores Midithru = refl
first-unfed scores Midilog = refl
first-unfed scores (Disk disk) = refl

-- the memory of a client that owned none and lost none
pub nothing-of : (nodes : List OpenClient) (rack : Racked) (owned : Owned) (n : ℕ) → n < length nodes → HasNoPast nodes owned → IsNobodys owned (node_at nodes n).birth → memory_of rack owned (node_at nodes n).birth ≡ None
nothing-of nodes rack owned n low no_past none =
    ap (option_map (λ (k : Remembered). k.memory)) (found_past owned.births rack.benches owned.past (node_at nodes n).birth none
    ∙ find-none (λ (kept : Remembered). kept.birth == (node_at nodes n).birth) owned.past (λ kept c t. no_past n kept low c (sym (eqb-true kept.birth (node_at nodes n).birth t))))

-- what `seat` says, over the benches before and behind it
module _ (sounding : Score → Sound) (nodes : List OpenClient) (rack after : Racked) (owned owned_after : Owned) (before_seating : IsSeating rack owned) (after_seating : IsSeating after owned_after) (no_past : HasNoPast nodes owned)
    (kept : (birth : ℕ) (memory : Memory) → memory_of rack owned birth ≡ Some memory → memory_of after owned_after birth ≡ Some memory)
    (fresh : (birth : ℕ) (memory : Memory) → memory_of rack owned birth ≡ None → memory_of after owned_after birth ≡ Some memory
    → (n : ℕ) × (n < length nodes) × ((node_at nodes n).birth ≡ birth) × (memory ≡ first (map sounding owned.scores) (node_at nodes n).kind))
    (same_bench : (p q birth : ℕ) → owner_at owned p ≡ Some birth → owner_at owned_after q ≡ Some birth → (bench_at after q).kept ≡ (bench_at rack p).kept)
    (owners : (p birth : ℕ) → owner_at owned_after p ≡ Some birth
    → ((q : ℕ) × (owner_at owned q ≡ Some birth) × (kind_at after p ≡ kind_at rack q)) ⊎ ((n : ℕ) × (n < length nodes) × ((node_at nodes n).birth ≡ birth) × (kind_at after p ≡ (node_at nodes n).kind))) where
  pub fresh-seated : AreApart nodes → (n q : ℕ) → n < length nodes → owner_at owned_after q ≡ Some (node_at nodes n).birth → IsNobodys owned (node_at nodes n).birth → (standing_at after q).memory ≡ first (map sounding owned.scores) (node_at nodes n).kind
  fresh-seated apart n q low owner none =
      let new = fresh (node_at nodes n).birth (standing_at after q).memory (nothing-of nodes rack owned n low no_past none) (memory-owned after owned_after after_seating q (node_at nodes n).birth owner) in
      new.3 ∙ ap (λ k. first (map sounding owned.scores) (node_at nodes k).kind) (apart new.0 n new.1 low new.2)

  fed-new : (q n : ℕ) → n < length nodes → owner_at owned_after q ≡ Some (node_at nodes n).birth → IsNobodys owned (node_at nodes n).birth → (standing_at after q).memory.fed ≡ []
  fed-new q n low owner none =
      let new = fresh (node_at nodes n).birth (standing_at after q).memory (nothing-of nodes rack owned n low no_past none) (memory-owned after owned_after after_seating q (node_at nodes n).birth owner) in
      ap (λ (m : Memory). m.fed) new.3 ∙ first-unfed (map sounding owned.scores) (node_at nodes new.0).kind

  pub fed-seated : ((p : ℕ) → (standing_at rack p).memory.fed ≡ []) → (p : ℕ) → (standing_at after p).memory.fed ≡ []
  fed-seated unfed p = by_owner (owner_at owned_after p) refl
    where
      old : (q birth : ℕ) → owner_at owned q ≡ Some birth → owner_at owned_after p ≡ Some birth → (standing_at after p).memory.fed ≡ []
      old q birth o e = ap (λ (k : Kept). k.standing.memory.fed) (same_bench q p birth o e) ∙ unfed q

      of_node : (birth n : ℕ) → n < length nodes → (node_at nodes n).birth ≡ birth → owner_at owned_after p ≡ Some birth → ((q : ℕ) × (owner_at owned q ≡ Some (node_at nodes n).birth)) ⊎ IsNobodys owned (node_at nodes n).birth → (standing_at after p).memory.fed ≡ []
      of_node birth n low b e (inl o) = old o.0 birth (o.1 ∙ ap (λ k. Some k) b) e
      of_node birth n low b e (inr none) = fed-new p n low (e ∙ ap (λ k. Some k) (sym b)) none

      by_case : (birth : ℕ) → owner_at owned_after p ≡ Some birth
          → ((q : ℕ) × (owner_at owned q ≡ Some birth) × (kind_at after p ≡ kind_at rack q)) ⊎ ((n : ℕ) × (n < length nodes) × ((node_at nodes n).birth ≡ birth) × (kind_at after p ≡ (node_at nodes n).kind)) → (standing_at after p).memory.fed ≡ []
      by_case birth e (inl o) = old o.0 birth o.1 e
      by_case birth e (inr o) = of_node birth o.0 o.1 o.2 e (owned_or_not owned.births (node_at nodes o.0).birth)

      by_owner : (owner : Option ℕ) → owner_at owned_after p ≡ owner → (standing_at after p).memory.fed ≡ []
      by_owner None e = ap (λ (s : Standing). s.memory.fed) (after_seating.free p e) ∙ first-unfed [] (kind_at after p)
      by_owner (Some birth) e = by_case birth e (owners p birth e)

  pub others-seated : (birth : ℕ) → ((n : ℕ) → n < length nodes → (node_at nodes n).birth ≡ birth → ⊥) → memory_of after owned_after birth ≡ memory_of rack owned birth
  others-seated birth not_node = go (memory_of rack owned birth) refl
    where
      now : memory_of rack owned birth ≡ None → (memory : Option Memory) → memory_of after owned_after birth ≡ memory → memory_of after owned_after birth ≡ None
      now none None e = e
      now none (Some memory) e = let new = fresh birth memory none e in absurd (not_node new.0 new.1 new.2)

      go : (memory : Option Memory) → memory_of rack owned birth ≡ memory → memory_of after owned_after birth ≡ memory_of rack owned birth
      go None e = now e (memory_of after owned_after birth) refl ∙ sym e
      go (Some memory) e = kept birth memory e ∙ sym e

-- ---- benches of the same standings

pub standings-cleared : (rack clear : Racked) (count : ℕ) → ((p : ℕ) → p < count → bench_at clear p ≡ cleared (bench_at rack p)) → ((p : ℕ) → count ≤ p → bench_at clear p ≡ bench_at rack p) → (p : ℕ) → standing_at clear p ≡ standing_at rack p
standings-cleared rack clear count is_cleared others p = (cleared-same rack clear count is_cleared others p).0

pub kinds-same : (rack after : Racked) → length after.benches ≡ length rack.benches → ((p : ℕ) → standing_at after p ≡ standing_at rack p) → kinds_of after ≡ kinds_of rack
kinds-same rack after lengths same = ext_get_or Pass (kinds_of after) (kinds_of rack)
    (length-map after.benches kind_of ∙ lengths ∙ sym (length-map rack.benches kind_of))
    (λ i h. get_or-map kind_of after.benches i (new_bench Pass 0) ∙ ap (λ (s : Standing). s.kind) (same i) ∙ sym (get_or-map kind_of rack.benches i (new_bench Pass 0)))
  where
    kind_of : Seen → Kind
    kind_of bench = bench.kept.standing.kind

-- where the owners behind a seating come from, and those who lost their guests
abbrev OwnersFrom : List OpenClient → Racked → Owned → Racked → Owned → Type 0
OwnersFrom nodes rack owned after owned_after = (p birth : ℕ) → owner_at owned_after p ≡ Some birth
    → ((q : ℕ) × (owner_at owned q ≡ Some birth) × (kind_at after p ≡ kind_at rack q)) ⊎ ((n : ℕ) × (n < length nodes) × ((node_at nodes n).birth ≡ birth) × (kind_at after p ≡ (node_at nodes n).kind))

abbrev LostFrom : List OpenClient → Racked → Owned → Owned → Type 0
LostFrom nodes rack owned owned_after = (kept : Remembered) → Contains owned_after.past kept → Contains owned.past kept ⊎ LostGuest nodes rack owned kept.birth

-- benches are cleared, seated, and set, which changes no standing but that of the seated
module _ (rack clear seated after : Racked) (owned owned_after : Owned) (nodes : List OpenClient)
    (clear_lengths : length clear.benches ≡ length rack.benches) (after_lengths : length after.benches ≡ length seated.benches)
    (clear_same : (p : ℕ) → standing_at clear p ≡ standing_at rack p) (after_same : (p : ℕ) → standing_at after p ≡ standing_at seated p) where
  kind-clear : (p : ℕ) → kind_at clear p ≡ kind_at rack p
  kind-clear p = ap (λ (s : Standing). s.kind) (clear_same p)

  kind-after : (p : ℕ) → kind_at after p ≡ kind_at seated p
  kind-after p = ap (λ (s : Standing). s.kind) (after_same p)

  owners-cast : OwnersFrom nodes clear owned seated owned_after → OwnersFrom nodes rack owned after owned_after
  owners-cast owners p birth e = go (owners p birth e)
    where
      go : ((q : ℕ) × (owner_at owned q ≡ Some birth) × (kind_at seated p ≡ kind_at clear q)) ⊎ ((n : ℕ) × (n < length nodes) × ((node_at nodes n).birth ≡ birth) × (kind_at seated p ≡ (node_at nodes n).kind))
          → ((q : ℕ) × (owner_at owned q ≡ Some birth) × (kind_at after p ≡ kind_at rack q)) ⊎ ((n : ℕ) × (n < length nodes) × ((node_at nodes n).birth ≡ birth) × (kind_at after p ≡ (node_at nodes n).kind))
      go (inl o) = inl (o.0, o.1, kind-after p ∙ o.2 ∙ kind-clear o.0)
      go (inr o) = inr (o.0, o.1, o.2, kind-after p ∙ o.3)

  lost-cast : LostFrom nodes clear owned owned_after → LostFrom nodes rack owned owned_after
  lost-cast lost kept m = go (lost kept m)
    where
      go : Contains owned.past kept ⊎ LostGuest nodes clear owned kept.birth → Contains owned.past kept ⊎ LostGuest nodes rack owned kept.birth
      go (inl o) = inl o
      go (inr o) = inr (record {
        place = o.place;
        guest = o.guest;
        n = o.n;
        owner = o.owner;
        kind = sym (kind-clear o.place) ∙ o.kind;
        node = o.node;
        node_kind = o.node_kind;
        none = o.none;
      })

  pub seats-cast : (plan : Planned) → nodes ≡ open_clients plan.nodes → OwnersFrom nodes clear owned seated owned_after → LostFrom nodes clear owned owned_after → SeatsPlan plan rack owned after owned_after
  seats-cast plan are owners lost = record {
    owners = subst (λ ns. OwnersFrom ns rack owned after owned_after) are (owners-cast owners);
    lost = subst (λ ns. LostFrom ns rack owned owned_after) are (lost-cast lost);
  }

  pub kinds-cast : IsPermutation (kinds_of clear) (kinds_of seated) → IsPermutation (kinds_of rack) (kinds_of after)
  kinds-cast moved = subst (λ ks. IsPermutation ks (kinds_of after)) (kinds-same rack clear clear_lengths clear_same) (subst (IsPermutation (kinds_of clear)) (sym (kinds-same seated after after_lengths after_same)) moved)

  pub periods-cast : ((period : ℕ) → HavePeriod clear period → HavePeriod seated period) → (period : ℕ) → HavePeriod rack period → HavePeriod after period
  periods-cast kept period have p h =
      ap (λ (s : Standing). s.period) (after_same p)
      ∙ kept period (λ q k. ap (λ (s : Standing). s.period) (clear_same q) ∙ have q (omega (arith, k, clear_lengths))) p (omega (arith, h, after_lengths))

  pub memories-cast : IsSeating rack owned → IsSeating seated owned_after → ((birth : ℕ) (memory : Memory) → memory_of clear owned birth ≡ Some memory → memory_of seated owned_after birth ≡ Some memory)
      → (birth : ℕ) (memory : Memory) → memory_of rack owned birth ≡ Some memory → memory_of after owned_after birth ≡ Some memory
  memories-cast seating seated_seating kept birth memory e =
      memory-same seated after owned_after seated_seating (seating-same seated after owned_after seated_seating after_lengths after_same) after_same birth
      ∙ kept birth memory (memory-same rack clear owned seating (seating-same rack clear owned seating clear_lengths clear_same) clear_same birth ∙ e)

pub unfed-cast : (sounding : Score → Sound) (plan : Planned) (ns : List Client) → ns ≡ plan.nodes → (rack clear seated : Racked) (owned owned_after : Owned) → IsSeating rack owned → IsSeating seated owned_after → length clear.benches ≡ length rack.benches
    → ((p : ℕ) → standing_at clear p ≡ standing_at rack p) → HasNoPast (open_clients plan.nodes) owned
    → ((birth : ℕ) (memory : Memory) → memory_of clear owned birth ≡ Some memory → memory_of seated owned_after birth ≡ Some memory)
    → ((birth : ℕ) (memory : Memory) → memory_of clear owned birth ≡ None → memory_of seated owned_after birth ≡ Some memory
    → (n : ℕ) × (n < length (open_clients ns)) × ((node_at (open_clients ns) n).birth ≡ birth) × (memory ≡ first (map sounding owned.scores) (node_at (open_clients ns) n).kind))
    → ((p q birth : ℕ) → owner_at owned p ≡ Some birth → owner_at owned_after q ≡ Some birth → (bench_at seated q).kept ≡ (bench_at clear p).kept)
    → OwnersFrom (open_clients ns) clear owned seated owned_after → ((p : ℕ) → (standing_at rack p).memory.fed ≡ []) → (p : ℕ) → (standing_at seated p).memory.fed ≡ []
unfed-cast sounding plan ns are rack clear seated owned owned_after seating seated_seating lengths same no_past kept fresh same_bench owners unfed p =
    fed-seated sounding (open_clients ns) clear seated owned owned_after (seating-same rack clear owned seating lengths same) seated_seating (subst (λ (xs : List Client). HasNoPast (open_clients xs) owned) (sym are) no_past)
    kept fresh same_bench owners (λ q. ap (λ (s : Standing). s.memory.fed) (same q) ∙ unfed q) p
