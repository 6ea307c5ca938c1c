-- A guest taken from a client's bench.
--     IsSeating-taken, Moves-taken      what this keeps, and what it changes
use Rattle.std.proofs.Common.{◌≡◌, ◌≢◌, ℕ, ◌<◌, ◌⊎◌, inl, inr, List, [], ◌∷◌, length, slice_get, Option, Some, None, IsSome, IfSome, true≢false, refl, sym, ◌∙◌, ap, subst, arith, get_or-set_same, get_or-set_other}
use Rattle.std.specs.List.{Contains}
use Rattle.std.proofs.lemmas.Bool.{cases_eq}
use Rattle.std.proofs.lemmas.List.{length-set}
use Rattle.std.proofs.lemmas.List.Elements.{Contains-append_cases, Contains-append_left, Contains-append_right}
use Rattle.jack_types.specs.declared.kinds.Kind.{Kind}
use Rattle.jack_types.specs.declared.kinds.Kind.TheVariants.{Guest}
use Rattle.session_model.specs.Benches.{node_at}
use Rattle.session_model.specs.State.{OpenClient}
use Rattle.session_model.specs.Kinds.{Sound}
use Rattle.session_laws.proofs.LoopLemmas.{Contains-cases, Contains-first}
use Rattle.bench_rack.specs.client_kinds.specs.Scores.{Score}
use Rattle.bench_rack.specs.client_kinds.specs.Standings.{HasGuest, HasScore, Standing}
use Rattle.bench_rack.specs.client_benches.specs.Seen.{Seen, new_standing}
use Rattle.bench_rack.specs.Racks.{Racked, bench_at}
use Rattle.driver_laws.specs.Drivers.{Remembered}
use Rattle.client_seats.specs.Owners.{Owned, owner_at, pooled}
use Rattle.client_seats.specs.Seatings.{HasBench, IsBare, IsLent, IsNobodys, IsScored, IsSeating, kind_at, standing_at}
use Rattle.client_seats.specs.Moves.{HasBenchYet, LostGuest, Moves, TakesBack, emptied, lost, with_standing}
use Rattle.client_seats.proofs.PlaceLemmas.{owner_within}
use Rattle.client_seats.proofs.StandingLemmas.{bare-peak, bench-other, emptied-bare, emptied-new, idle-kept, kinds-same, periods-kept, standing-same}

-- of a guest's bench, its score is the guest's
score-of : (kind : Kind) (standing : Standing) (scores : List Score) (guest : ℕ) → standing.kind ≡ kind → kind ≡ Guest guest → HasScore standing scores → slice_get scores guest ≡ standing.score
score-of kind standing scores guest is same has =
    subst (λ (k : Kind). HasScore (record standing { kind = k }) scores → slice_get scores guest ≡ standing.score) (sym (is ∙ same)) (λ h. h) has

module _ (sound : Score → Sound) (rack : Racked) (owned : Owned) (p birth guest : ℕ) (score : Score)
    (s : IsSeating rack owned) (owner : owner_at owned p ≡ Some birth) (kind : kind_at rack p ≡ Guest guest)
    (number : guest < length owned.pool) (lent : (standing_at rack p).score ≡ Some score) where
  abbrev standing : Standing
  standing = emptied (standing_at rack p)

  abbrev after : Racked
  after = with_standing rack p standing

  abbrev gone : Remembered
  gone = record { birth = birth; memory = (standing_at rack p).memory }

  abbrev taken : Owned
  taken = lost owned p birth (standing_at rack p).memory guest score

  within : p < length rack.benches
  within = subst (λ n. p < n) s.as_many (owner_within owned.births p birth owner)

  owner-here : owner_at taken p ≡ None
  owner-here = get_or-set_same owned.births p None None (owner_within owned.births p birth owner)

  owner-other : (q : ℕ) → q ≢ p → owner_at taken q ≡ owner_at owned q
  owner-other q n = get_or-set_other owned.births p q None None n

  -- whoever owns a bench owned it, and it is another one
  owned_before : (q b : ℕ) → owner_at taken q ≡ Some b → (q ≢ p) × (owner_at owned q ≡ Some b)
  owned_before q b h = go (cases_eq q p)
    where
      go : (q ≡ p) ⊎ (q ≢ p) → (q ≢ p) × (owner_at owned q ≡ Some b)
      go (inl e) = let k : None ≡ Some b = sym owner-here ∙ subst (λ x. owner_at taken x ≡ Some b) e h in cc
      go (inr n) = (n, sym (owner-other q n) ∙ h)

  past_before : (kept : Remembered) → Contains taken.past kept → Contains owned.past kept ⊎ (gone ≡ kept)
  past_before kept c = go (Contains-append_cases owned.past (gone ∷ []) kept c)
    where
      one : (gone ≡ kept) ⊎ Contains [] kept → Contains owned.past kept ⊎ (gone ≡ kept)
      one (inl e) = inr e
      one (inr d) = absurd (omega (arith, d.1))

      go : Contains owned.past kept ⊎ Contains (gone ∷ []) kept → Contains owned.past kept ⊎ (gone ≡ kept)
      go (inl d) = inl d
      go (inr d) = one (Contains-cases gone kept [] d)

  all-standings : (P : Standing → Type 0) → P standing → ((q : ℕ) → P (standing_at rack q)) → (q : ℕ) → P (standing_at after q)
  all-standings P new old q = go (cases_eq q p)
    where
      go : (q ≡ p) ⊎ (q ≢ p) → P (standing_at after q)
      go (inl e) = subst (λ r. P (standing_at after r)) (sym e) (subst P (sym (standing-same rack p standing within)) new)
      go (inr n) = subst (λ (x : Seen). P x.kept.standing) (sym (bench-other rack p q standing n)) (old q)

  score_is : slice_get owned.scores guest ≡ Some score
  score_is = score-of (kind_at rack p) (standing_at rack p) owned.scores guest refl kind (s.scored p (subst IsSome (sym lent) refl)) ∙ lent

  pub pooled-taken : pooled taken guest ≡ Some score
  pooled-taken = get_or-set_same owned.pool guest (Some score) None number

  pub IsSeating-taken : IsSeating after taken
  IsSeating-taken = record {
    as_many = length-set owned.births p None ∙ s.as_many ∙ sym (length-set rack.benches p (record (bench_at rack p) { kept = record (bench_at rack p).kept { standing = standing } }));
    as_many_guests = length-set owned.pool guest (Some score) ∙ s.as_many_guests;
    apart = λ q r b h k. s.apart q r b (owned_before q b h).1 (owned_before r b k).1;
    free = λ q h. free_of q h (cases_eq q p);
    lent = λ q b h. subst (λ (x : Seen). HasGuest x.kept.standing.kind x.kept.standing.score) (sym (bench-other rack p q standing (owned_before q b h).0)) (s.lent q b (owned_before q b h).1);
    scored = all-standings (λ z. IsScored z owned.scores) (λ some. absurd (true≢false (sym some))) s.scored;
    bare = all-standings (λ (z : Standing). IsBare z.kind z.memory) (emptied-bare (standing_at rack p) guest kind (s.bare p)) s.bare;
    pool = λ g x h. pool_of g x h (cases_eq g guest);
    guests = λ g here. guests_of g (cases_eq g guest) (s.guests g here);
    past = λ kept q c h. past_of kept q (past_before kept c) (owned_before q kept.birth h);
    past_apart = λ one other c d e. past_apart_of one other e (past_before one c) (past_before other d);
    past_peaks = λ kept c. past_peaks_of kept (past_before kept c);
  }
    where
      free_of : (q : ℕ) → owner_at taken q ≡ None → (q ≡ p) ⊎ (q ≢ p) → standing_at after q ≡ new_standing (kind_at after q) (standing_at after q).period
      free_of q h (inl e) = subst (λ r. standing_at after r ≡ new_standing (kind_at after r) (standing_at after r).period) (sym e)
          (subst (λ (z : Standing). z ≡ new_standing z.kind z.period) (sym (standing-same rack p standing within)) (emptied-new (standing_at rack p) guest kind (s.bare p)))
      free_of q h (inr n) = subst (λ (x : Seen). x.kept.standing ≡ new_standing x.kept.standing.kind x.kept.standing.period) (sym (bench-other rack p q standing n))
          (s.free q (sym (owner-other q n) ∙ h))

      pool_of : (g : ℕ) (x : Score) → pooled taken g ≡ Some x → (g ≡ guest) ⊎ (g ≢ guest) → slice_get owned.scores g ≡ Some x
      pool_of g x h (inl e) =
          let k : Some score ≡ Some x = sym pooled-taken ∙ subst (λ r. pooled taken r ≡ Some x) e h in
          ap (slice_get owned.scores) e ∙ score_is ∙ k
      pool_of g x h (inr n) = s.pool g x (sym (get_or-set_other owned.pool guest g (Some score) None n) ∙ h)

      lent_yet : (g : ℕ) → g ≢ guest → IsLent rack owned g → IsLent after taken g
      lent_yet g n l = record {
        place = l.place;
        birth = l.birth;
        owner = owner-other l.place apart ∙ l.owner;
        kind = ap (λ (x : Seen). x.kept.standing.kind) (bench-other rack p l.place standing apart) ∙ l.kind;
      }
        where
          apart : l.place ≢ p
          apart e =
              let k : Guest g ≡ Guest guest = sym l.kind ∙ ap (kind_at rack) e ∙ kind in
              let same : g ≡ guest = cc in
              n same

      guests_of : (g : ℕ) → (g ≡ guest) ⊎ (g ≢ guest) → IsSome (pooled owned g) ⊎ IsLent rack owned g → IsSome (pooled taken g) ⊎ IsLent after taken g
      guests_of g (inl e) h = inl (subst (λ r. IsSome (pooled taken r)) (sym e) (subst IsSome (sym pooled-taken) refl))
      guests_of g (inr n) (inl h) = inl (subst IsSome (sym (get_or-set_other owned.pool guest g (Some score) None n)) h)
      guests_of g (inr n) (inr l) = inr (lent_yet g n l)

      past_of : (kept : Remembered) (q : ℕ) → Contains owned.past kept ⊎ (gone ≡ kept) → (q ≢ p) × (owner_at owned q ≡ Some kept.birth) → ⊥
      past_of kept q (inl c) o = s.past kept q c o.1
      past_of kept q (inr e) o = o.0 (s.apart q p birth (o.1 ∙ ap (λ (x : Remembered). Some x.birth) (sym e)) owner)

      past_apart_of : (one other : Remembered) → one.birth ≡ other.birth → Contains owned.past one ⊎ (gone ≡ one) → Contains owned.past other ⊎ (gone ≡ other) → one ≡ other
      past_apart_of one other e (inl c) (inl d) = s.past_apart one other c d e
      past_apart_of one other e (inl c) (inr d) = absurd (s.past one p c (owner ∙ ap (λ (x : Remembered). Some x.birth) d ∙ ap (λ b. Some b) (sym e)))
      past_apart_of one other e (inr c) (inl d) = absurd (s.past other p d (owner ∙ ap (λ (x : Remembered). Some x.birth) c ∙ ap (λ b. Some b) e))
      past_apart_of one other e (inr c) (inr d) = sym c ∙ d

      past_peaks_of : (kept : Remembered) → Contains owned.past kept ⊎ (gone ≡ kept) → kept.memory.peak ≡ 0
      past_peaks_of kept (inl c) = s.past_peaks kept c
      past_peaks_of kept (inr e) = ap (λ (x : Remembered). x.memory.peak) (sym e) ∙ bare-peak (kind_at rack p) (standing_at rack p).memory guest kind (s.bare p)

  pub Moves-taken : (nodes : List OpenClient) (n : ℕ) → n < length nodes → (node_at nodes n).kind ≡ Guest guest
      → ((m : ℕ) → m < length nodes → (node_at nodes m).birth ≡ birth → ⊥) → (Moves sound) nodes rack owned after taken
  Moves-taken nodes n node same none = record {
    from = λ q b h. inl (record { before = q; owner = (owned_before q b h).1; same = ap (λ (x : Seen). x.kept) (bench-other rack p q standing (owned_before q b h).0) });
    onward = λ q b h. onward_of q b h (cases_eq q p);
    past = λ kept c. past_of kept (past_before kept c);
    past_stays = λ kept c. Contains-append_left owned.past (gone ∷ []) kept c;
    kinds = kinds-same rack p standing refl;
    periods = periods-kept rack p standing refl;
    idle = idle-kept rack p standing within;
    scores = refl;
    links = refl;
  }
    where
      onward_of : (q b : ℕ) → owner_at owned q ≡ Some b → (q ≡ p) ⊎ (q ≢ p)
          → HasBenchYet rack after taken b q ⊎ Contains taken.past (record { birth = b; memory = (standing_at rack q).memory })
      onward_of q b h (inl e) =
          let f : Some birth ≡ Some b = sym owner ∙ subst (λ x. owner_at owned x ≡ Some b) e h in
          let g : birth ≡ b = cc in
          inr (subst (λ x. Contains taken.past (record { birth = b; memory = (standing_at rack x).memory })) (sym e)
          (subst (λ x. Contains taken.past (record { birth = x; memory = (standing_at rack p).memory })) g (Contains-append_right owned.past (gone ∷ []) gone (Contains-first gone []))))
      onward_of q b h (inr d) = inl (record { place = q; owner = owner-other q d ∙ h; same = ap (λ (x : Seen). x.kept) (bench-other rack p q standing d) })

      past_of : (kept : Remembered) → Contains owned.past kept ⊎ (gone ≡ kept) → Contains owned.past kept ⊎ LostGuest nodes rack owned kept.birth
      past_of kept (inl c) = inl c
      past_of kept (inr e) = inr (subst (λ (x : Remembered). LostGuest nodes rack owned x.birth) e
          (record { place = p; guest = guest; n = n; owner = owner; kind = kind; node = node; node_kind = same; none = none }))

  pub IsNobodys-taken : (other : ℕ) → IsNobodys owned other → IsNobodys taken other
  IsNobodys-taken other none q h = none q (owned_before q other h).1

  pub HasBench-taken : (nodes : List OpenClient) → ((m : ℕ) → m < length nodes → (node_at nodes m).birth ≡ birth → ⊥) → (m q : ℕ) → m < length nodes
      → HasBench nodes rack owned m q → HasBench nodes after taken m q
  HasBench-taken nodes none m q node h = record {
    owner = owner-other q other ∙ h.owner;
    kind = ap (λ (x : Seen). x.kept.standing.kind) (bench-other rack p q standing other) ∙ h.kind;
    guest = subst (λ (x : Seen). HasGuest x.kept.standing.kind x.kept.standing.score) (sym (bench-other rack p q standing other)) h.guest;
  }
    where
      other : q ≢ p
      other e =
          let k : Some (node_at nodes m).birth ≡ Some birth = sym h.owner ∙ ap (owner_at owned) e ∙ owner in
          let same : (node_at nodes m).birth ≡ birth = cc in
          none m node same

has-some : (kind : Kind) (score : Option Score) (guest : ℕ) → kind ≡ Guest guest → HasGuest kind score → IsSome score
has-some kind score guest same has = subst (λ (k : Kind). HasGuest k score → IsSome score) (sym same) (λ h. h) has

pub taken-back : (sound : Score → Sound) → (nodes : List OpenClient) (n : ℕ) (rack : Racked) (owned : Owned) (after : Racked) (owned_after : Owned) (p birth guest : ℕ)
    → IsSeating rack owned → owner_at owned p ≡ Some birth → kind_at rack p ≡ Guest guest → guest < length owned.scores → n < length nodes → (node_at nodes n).kind ≡ Guest guest
    → ((m : ℕ) → m < length nodes → (node_at nodes m).birth ≡ birth → ⊥)
    → after ≡ with_standing rack p (emptied (standing_at rack p))
    → IfSome (standing_at rack p).score (λ score. owned_after ≡ lost owned p birth (standing_at rack p).memory guest score)
    → (TakesBack sound) nodes rack owned after owned_after guest
taken-back sound nodes n rack owned after owned_after p birth guest s owner kind here node asks none rack_is owned_is =
    go (standing_at rack p).score refl (has-some (kind_at rack p) (standing_at rack p).score guest kind (s.lent p birth owner)) owned_is
  where
    number : guest < length owned.pool
    number = subst (λ k. guest < k) (sym s.as_many_guests) here

    go : (o : Option Score) → (standing_at rack p).score ≡ o → IsSome o → IfSome o (λ score. owned_after ≡ lost owned p birth (standing_at rack p).memory guest score)
        → (TakesBack sound) nodes rack owned after owned_after guest
    go None e h is = absurd (true≢false (sym h))
    go (Some score) e h is =
        subst (λ (o : Owned). (TakesBack sound) nodes rack owned after o guest) (sym is)
        (subst (λ (r : Racked). (TakesBack sound) nodes rack owned r (lost owned p birth (standing_at rack p).memory guest score) guest) (sym rack_is)
        (record {
          seating = (IsSeating-taken sound) rack owned p birth guest score s owner kind number e;
          moves = (Moves-taken sound) rack owned p birth guest score s owner kind number e nodes n node asks none;
          pool = subst IsSome (sym ((pooled-taken sound) rack owned p birth guest score s owner kind number e)) refl;
          nobody = (IsNobodys-taken sound) rack owned p birth guest score s owner kind number e;
          seated = (HasBench-taken sound) rack owned p birth guest score s owner kind number e nodes none;
        }))
