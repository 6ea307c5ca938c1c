-- A bench of nobody given to a client that had none.
--     IsSeating-given, Moves-given      what this keeps, and what it changes
--     HasBench-given, HasBench-new      the other clients' benches, and the new one
--     equipped-given      all of it, of a bench that got its guest
use Rattle.std.proofs.Common.{◌≡◌, ◌≢◌, ℕ, ◌<◌, ◌⊎◌, inl, inr, List, length, get_or, set, slice_get, Option, Some, None, IsSome, refl, sym, ◌∙◌, ap, subst, get_or-set_same, get_or-set_other, map}
use Rattle.std.specs.List.{Contains}
use Rattle.std.proofs.lemmas.Bool.{cases_eq}
use Rattle.std.proofs.lemmas.List.{length-set}
use Rattle.jack_types.specs.declared.kinds.Kind.TheVariants.{Guest}
use Rattle.session_model.specs.Benches.{node_at}
use Rattle.session_model.specs.Kinds.{first}
use Rattle.session_model.specs.State.{OpenClient}
use Rattle.session_model.specs.Kinds.{Sound}
use Rattle.bench_rack.specs.client_kinds.specs.Scores.{Score}
use Rattle.bench_rack.specs.client_kinds.specs.Standings.{HasGuest, Standing}
use Rattle.bench_rack.specs.client_benches.specs.Seen.{Seen, new_standing}
use Rattle.bench_rack.specs.Racks.{Racked, bench_at}
use Rattle.driver_laws.specs.Drivers.{Remembered}
use Rattle.client_seats.specs.Owners.{Owned, owner_at, pooled}
use Rattle.client_seats.specs.Seatings.{HasBench, HasNoPast, IsBare, IsLent, IsNobodys, IsScored, IsSeating, kind_at, standing_at}
use Rattle.client_seats.specs.Moves.{Gives, HadBench, HasBenchYet, HasNewBench, IsEquipped, Moves, with_standing}
use Rattle.client_seats.proofs.StandingLemmas.{bench-other, idle-kept, kinds-same, periods-kept, standing-same}

module _ (sound : Score → Sound) (rack : Racked) (owned : Owned) (p birth : ℕ) (standing : Standing) (left : List (Option Score))
    (s : IsSeating rack owned) (within : p < length rack.benches) (nobody : owner_at owned p ≡ None) (none : IsNobodys owned birth)
    (kind : standing.kind ≡ kind_at rack p) where
  abbrev after : Racked
  after = with_standing rack p standing

  abbrev given : Owned
  given = record owned { births = set owned.births p (Some birth); pool = left }

  owner-here : owner_at given p ≡ Some birth
  owner-here = get_or-set_same owned.births p (Some birth) None (subst (λ n. p < n) (sym s.as_many) within)

  owner-other : (q : ℕ) → q ≢ p → owner_at given q ≡ owner_at owned q
  owner-other q n = get_or-set_other owned.births p q (Some birth) None n

  -- what holds of the new standing and of all old ones holds of all
  all-standings : (P : Standing → Type 0) → P standing → ((q : ℕ) → P (standing_at rack q)) → (q : ℕ) → P (standing_at after q)
  all-standings P new old q = go (cases_eq q p)
    where
      go : (q ≡ p) ⊎ (q ≢ p) → P (standing_at after q)
      go (inl e) = subst (λ r. P (standing_at after r)) (sym e) (subst P (sym (standing-same rack p standing within)) new)
      go (inr n) = subst (λ (x : Seen). P x.kept.standing) (sym (bench-other rack p q standing n)) (old q)

  pub IsSeating-given : HasGuest standing.kind standing.score → IsScored standing owned.scores → IsBare standing.kind standing.memory
      → length left ≡ length owned.pool
      → ((guest : ℕ) (score : Score) → get_or left guest None ≡ Some score → slice_get owned.scores guest ≡ Some score)
      → ((guest : ℕ) → IsSome (pooled owned guest) → IsSome (get_or left guest None) ⊎ (kind_at rack p ≡ Guest guest))
      → ((kept : Remembered) → Contains owned.past kept → birth ≡ kept.birth → ⊥)
      → IsSeating after given
  IsSeating-given has scored bare as_many pool still past = record {
    as_many = length-set owned.births p (Some birth) ∙ s.as_many ∙ sym (length-set rack.benches p (record (bench_at rack p) { kept = record (bench_at rack p).kept { standing = standing } }));
    as_many_guests = as_many ∙ s.as_many_guests;
    apart = λ q r b h k. apart_of q r b h k (cases_eq q p) (cases_eq r p);
    free = λ q h. free_of q h (cases_eq q p);
    lent = λ q b h. lent_of q b h (cases_eq q p);
    scored = all-standings (λ z. IsScored z owned.scores) scored s.scored;
    bare = all-standings (λ (z : Standing). IsBare z.kind z.memory) bare s.bare;
    pool = pool;
    guests = λ guest here. guests_of guest (s.guests guest here);
    past = λ kept q c h. past_of kept q c h (cases_eq q p);
    past_apart = s.past_apart;
    past_peaks = s.past_peaks;
  }
    where
      births_same : (b : ℕ) → owner_at given p ≡ Some b → birth ≡ b
      births_same b h = let e : Some birth ≡ Some b = sym owner-here ∙ h in cc

      apart_of : (q r b : ℕ) → owner_at given q ≡ Some b → owner_at given r ≡ Some b → (q ≡ p) ⊎ (q ≢ p) → (r ≡ p) ⊎ (r ≢ p) → q ≡ r
      apart_of q r b h k (inl e) (inl f) = e ∙ sym f
      apart_of q r b h k (inl e) (inr n) =
          absurd (none r (sym (owner-other r n) ∙ k ∙ ap (λ x. Some x) (sym (births_same b (subst (λ x. owner_at given x ≡ Some b) e h)))))
      apart_of q r b h k (inr n) (inl e) =
          absurd (none q (sym (owner-other q n) ∙ h ∙ ap (λ x. Some x) (sym (births_same b (subst (λ x. owner_at given x ≡ Some b) e k)))))
      apart_of q r b h k (inr n) (inr m) = s.apart q r b (sym (owner-other q n) ∙ h) (sym (owner-other r m) ∙ k)

      free_of : (q : ℕ) → owner_at given q ≡ None → (q ≡ p) ⊎ (q ≢ p) → standing_at after q ≡ new_standing (kind_at after q) (standing_at after q).period
      free_of q h (inl e) = let k : Some birth ≡ None = sym owner-here ∙ subst (λ x. owner_at given x ≡ None) e h in cc
      free_of q h (inr n) = subst (λ (x : Seen). x.kept.standing ≡ new_standing x.kept.standing.kind x.kept.standing.period) (sym (bench-other rack p q standing n))
          (s.free q (sym (owner-other q n) ∙ h))

      lent_of : (q b : ℕ) → owner_at given q ≡ Some b → (q ≡ p) ⊎ (q ≢ p) → HasGuest (kind_at after q) (standing_at after q).score
      lent_of q b h (inl e) = subst (λ r. HasGuest (kind_at after r) (standing_at after r).score) (sym e)
          (subst (λ (z : Standing). HasGuest z.kind z.score) (sym (standing-same rack p standing within)) has)
      lent_of q b h (inr n) = subst (λ (x : Seen). HasGuest x.kept.standing.kind x.kept.standing.score) (sym (bench-other rack p q standing n)) (s.lent q b (sym (owner-other q n) ∙ h))

      lent_yet : (guest : ℕ) → IsLent rack owned guest → IsLent after given guest
      lent_yet guest l = record {
        place = l.place;
        birth = l.birth;
        owner = owner-other l.place apart ∙ l.owner;
        kind = ap (λ (x : Seen). x.kept.standing.kind) (bench-other rack p l.place standing apart) ∙ l.kind;
      }
        where
          apart : l.place ≢ p
          apart e = let k : None ≡ Some l.birth = sym nobody ∙ subst (λ r. owner_at owned r ≡ Some l.birth) e l.owner in cc

      pooled_of : (guest : ℕ) → IsSome (get_or left guest None) ⊎ (kind_at rack p ≡ Guest guest) → IsSome (get_or left guest None) ⊎ IsLent after given guest
      pooled_of guest (inl h) = inl h
      pooled_of guest (inr e) = inr (record {
        place = p;
        birth = birth;
        owner = owner-here;
        kind = ap (λ (z : Standing). z.kind) (standing-same rack p standing within) ∙ kind ∙ e;
      })

      guests_of : (guest : ℕ) → IsSome (pooled owned guest) ⊎ IsLent rack owned guest → IsSome (get_or left guest None) ⊎ IsLent after given guest
      guests_of guest (inl h) = pooled_of guest (still guest h)
      guests_of guest (inr l) = inr (lent_yet guest l)

      past_of : (kept : Remembered) (q : ℕ) → Contains owned.past kept → owner_at given q ≡ Some kept.birth → (q ≡ p) ⊎ (q ≢ p) → ⊥
      past_of kept q c h (inl e) = past kept c (births_same kept.birth (subst (λ x. owner_at given x ≡ Some kept.birth) e h))
      past_of kept q c h (inr n) = s.past kept q c (sym (owner-other q n) ∙ h)

  pub Moves-given : (nodes : List OpenClient) (n : ℕ) → n < length nodes → (node_at nodes n).birth ≡ birth → kind_at rack p ≡ (node_at nodes n).kind
      → standing.period ≡ (standing_at rack p).period → standing.memory ≡ first (map sound owned.scores) (node_at nodes n).kind → (Moves sound) nodes rack owned after given
  Moves-given nodes n node client same period memory = record {
    from = λ q b h. from_of q b h (cases_eq q p);
    onward = λ q b h. onward_of q b h (cases_eq q p);
    past = λ kept c. inl c;
    past_stays = λ kept c. c;
    kinds = kinds-same rack p standing kind;
    periods = periods-kept rack p standing period;
    idle = idle-kept rack p standing within;
    scores = refl;
    links = refl;
  }
    where
      from_of : (q b : ℕ) → owner_at given q ≡ Some b → (q ≡ p) ⊎ (q ≢ p) → HadBench rack owned after b q ⊎ (HasNewBench sound) nodes owned after b q
      from_of q b h (inl e) =
          let f : Some birth ≡ Some b = sym owner-here ∙ subst (λ x. owner_at given x ≡ Some b) e h in
          let g : birth ≡ b = cc in
          inr (record {
            n = n;
            node = node;
            client = client ∙ g;
            kind = ap (λ r. kind_at after r) e ∙ ap (λ (z : Standing). z.kind) (standing-same rack p standing within) ∙ kind ∙ same;
            memory = ap (λ r. (standing_at after r).memory) e ∙ ap (λ (z : Standing). z.memory) (standing-same rack p standing within) ∙ memory;
            none = subst (λ x. IsNobodys owned x) g none;
          })
      from_of q b h (inr d) = inl (record { before = q; owner = sym (owner-other q d) ∙ h; same = ap (λ (x : Seen). x.kept) (bench-other rack p q standing d) })

      onward_of : (q b : ℕ) → owner_at owned q ≡ Some b → (q ≡ p) ⊎ (q ≢ p)
          → HasBenchYet rack after given b q ⊎ Contains owned.past (record { birth = b; memory = (standing_at rack q).memory })
      onward_of q b h (inl e) = let k : None ≡ Some b = sym nobody ∙ subst (λ x. owner_at owned x ≡ Some b) e h in cc
      onward_of q b h (inr d) = inl (record { place = q; owner = owner-other q d ∙ h; same = ap (λ (x : Seen). x.kept) (bench-other rack p q standing d) })

  pub HasBench-given : (nodes : List OpenClient) (m q : ℕ) → HasBench nodes rack owned m q → HasBench nodes after given m q
  HasBench-given nodes m q h = record {
    owner = owner-other q other ∙ h.owner;
    kind = ap (λ (x : Seen). x.kept.standing.kind) (bench-other rack p q standing other) ∙ h.kind;
    guest = subst (λ (x : Seen). HasGuest x.kept.standing.kind x.kept.standing.score) (sym (bench-other rack p q standing other)) h.guest;
  }
    where
      other : q ≢ p
      other e = let k : None ≡ Some (node_at nodes m).birth = sym nobody ∙ subst (λ x. owner_at owned x ≡ Some (node_at nodes m).birth) e h.owner in cc

  pub HasBench-new : (nodes : List OpenClient) (n : ℕ) → birth ≡ (node_at nodes n).birth → kind_at rack p ≡ (node_at nodes n).kind → HasGuest standing.kind standing.score
      → HasBench nodes after given n p
  HasBench-new nodes n client same has = record {
    owner = owner-here ∙ ap (λ b. Some b) client;
    kind = ap (λ (z : Standing). z.kind) (standing-same rack p standing within) ∙ kind ∙ same;
    guest = subst (λ (z : Standing). HasGuest z.kind z.score) (sym (standing-same rack p standing within)) has;
  }

pub equipped-given : (sound : Score → Sound) → (nodes : List OpenClient) (n : ℕ) (rack : Racked) (owned : Owned) (middle : Racked) (owned_middle owned_after : Owned) (p : ℕ)
    → IsSeating rack owned → n < length nodes → p < length rack.benches → owner_at owned p ≡ None → kind_at rack p ≡ (node_at nodes n).kind
    → IsNobodys owned (node_at nodes n).birth → HasNoPast nodes owned → (IsEquipped sound) rack owned middle owned_middle p
    → owned_after ≡ record owned_middle { births = set owned_middle.births p (Some (node_at nodes n).birth) }
    → (Gives sound) nodes rack owned middle owned_after n p
equipped-given sound nodes n rack owned middle owned_middle owned_after p s node within nobody same none past e after_is =
    subst (λ (o : Owned). (Gives sound) nodes rack owned middle o n p) (sym (after_is ∙ ap (λ (o : Owned). record o { births = set o.births p (Some (node_at nodes n).birth) }) e.owned_is))
    (subst (λ (r : Racked). (Gives sound) nodes rack owned r (record owned { births = set owned.births p (Some (node_at nodes n).birth); pool = owned_middle.pool }) n p) (sym e.rack_is) built)
  where
    built : (Gives sound) nodes rack owned (with_standing rack p (standing_at middle p)) (record owned { births = set owned.births p (Some (node_at nodes n).birth); pool = owned_middle.pool }) n p
    built = record {
      seating = (IsSeating-given sound) rack owned p (node_at nodes n).birth (standing_at middle p) owned_middle.pool s within nobody none e.kind e.guest e.scored e.bare e.as_many
          (λ guest score h. s.pool guest score (e.pool guest score h)) e.still (λ kept c h. past n kept node c h);
      moves = (Moves-given sound) rack owned p (node_at nodes n).birth (standing_at middle p) owned_middle.pool s within nobody none e.kind nodes n node refl same e.period
          (e.memory ∙ ap (first (map sound owned.scores)) (e.kind ∙ same));
      has = (HasBench-new sound) rack owned p (node_at nodes n).birth (standing_at middle p) owned_middle.pool s within nobody none e.kind nodes n refl same e.guest;
      seated = λ m q h. (HasBench-given sound) rack owned p (node_at nodes n).birth (standing_at middle p) owned_middle.pool s within nobody none e.kind nodes m q h;
    }
