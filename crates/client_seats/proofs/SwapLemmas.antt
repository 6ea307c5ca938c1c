-- Two benches exchanged, with their owners.
--     IsSeating-mirrored, Moves-mirrored      what an exchange of places keeps
--     HasBench-mirrored      a client's bench goes to the other place
--     brought      all of it, of an exchange of two places
use Rattle.std.proofs.Common.{◌≡◌, ℕ, ◌<◌, ◌⊎◌, inl, inr, List, length, get_or, set, Option, None, refl, sym, ◌∙◌, ap, subst, IsSome}
use Rattle.std.specs.List.Sorted.{IsPermutation}
use Rattle.std.proofs.lemmas.List.{length-set}
use Rattle.jack_types.specs.declared.kinds.Kind.TheVariants.{Pass}
use Rattle.session_model.specs.State.{OpenClient}
use Rattle.session_model.specs.Kinds.{Sound}
use Rattle.bench_rack.specs.client_kinds.specs.Scores.{Score}
use Rattle.bench_rack.specs.client_kinds.specs.Standings.{HasGuest}
use Rattle.bench_rack.specs.client_benches.specs.Seen.{Seen, cleared, new_bench, new_standing}
use Rattle.bench_rack.specs.Racks.{Racked, bench_at}
use Rattle.client_seats.specs.Owners.{Owned, owner_at, pooled}
use Rattle.client_seats.specs.Seatings.{HasBench, IsBare, IsLent, IsScored, IsSeating, kind_at}
use Rattle.client_seats.specs.Moves.{Brings, Moves, kinds_of}
use Rattle.client_seats.proofs.TurnLemmas.{IsPermutation-turned, turned, turned_at, turned_back, turned_other, turned_second, turned_within}

module _ (sound : Score → Sound) (rack : Racked) (owned : Owned) (births : List (Option ℕ)) (benches : List Seen) (turn : ℕ → ℕ)
    (back : (q : ℕ) → turn (turn q) ≡ q)
    (owner : (q : ℕ) → get_or births q None ≡ owner_at owned (turn q))
    (bench : (q : ℕ) → get_or benches q (new_bench Pass 0) ≡ bench_at rack (turn q)) where
  pub IsSeating-mirrored : length births ≡ length owned.births → length benches ≡ length rack.benches → IsSeating rack owned
      → IsSeating (record rack { benches = benches }) (record owned { births = births })
  IsSeating-mirrored as_many as_many_benches s = record {
    as_many = as_many ∙ s.as_many ∙ sym as_many_benches;
    as_many_guests = s.as_many_guests;
    apart = λ p q birth h k. sym (back p) ∙ ap turn (s.apart (turn p) (turn q) birth (sym (owner p) ∙ h) (sym (owner q) ∙ k)) ∙ back q;
    free = λ p h. subst (λ (x : Seen). x.kept.standing ≡ new_standing x.kept.standing.kind x.kept.standing.period) (sym (bench p)) (s.free (turn p) (sym (owner p) ∙ h));
    lent = λ p birth h. subst (λ (x : Seen). HasGuest x.kept.standing.kind x.kept.standing.score) (sym (bench p)) (s.lent (turn p) birth (sym (owner p) ∙ h));
    scored = λ p. subst (λ (x : Seen). IsScored x.kept.standing owned.scores) (sym (bench p)) (s.scored (turn p));
    bare = λ p. subst (λ (x : Seen). IsBare x.kept.standing.kind x.kept.standing.memory) (sym (bench p)) (s.bare (turn p));
    pool = s.pool;
    guests = λ guest within. guests_of guest (s.guests guest within);
    past = λ kept p c h. s.past kept (turn p) c (sym (owner p) ∙ h);
    past_apart = s.past_apart;
    past_peaks = s.past_peaks;
  }
    where
      guests_of : (guest : ℕ) → IsSome (pooled owned guest) ⊎ IsLent rack owned guest
          → IsSome (pooled owned guest) ⊎ IsLent (record rack { benches = benches }) (record owned { births = births }) guest
      guests_of guest (inl h) = inl h
      guests_of guest (inr l) = inr (record {
        place = turn l.place;
        birth = l.birth;
        owner = owner (turn l.place) ∙ ap (owner_at owned) (back l.place) ∙ l.owner;
        kind = ap (λ (x : Seen). x.kept.standing.kind) (bench (turn l.place)) ∙ ap (kind_at rack) (back l.place) ∙ l.kind;
      })

  pub Moves-mirrored : (nodes : List OpenClient) → length benches ≡ length rack.benches → ((q : ℕ) → q < length rack.benches → turn q < length rack.benches)
      → IsPermutation (kinds_of rack) (kinds_of (record rack { benches = benches }))
      → (Moves sound) nodes rack owned (record rack { benches = benches }) (record owned { births = births })
  Moves-mirrored nodes as_many within kinds = record {
    from = λ place birth h. inl (record { before = turn place; owner = sym (owner place) ∙ h; same = ap (λ (x : Seen). x.kept) (bench place) });
    onward = λ place birth h. inl (record {
      place = turn place;
      owner = owner (turn place) ∙ ap (owner_at owned) (back place) ∙ h;
      same = ap (λ (x : Seen). x.kept) (bench (turn place) ∙ ap (bench_at rack) (back place));
    });
    past = λ kept c. inl c;
    past_stays = λ kept c. c;
    kinds = kinds;
    periods = λ period all p w. ap (λ (x : Seen). x.kept.standing.period) (bench p) ∙ all (turn p) (within p (subst (λ n. p < n) as_many w));
    idle = λ i p. subst (λ (x : Seen). cleared x ≡ x) (sym (bench p)) (i (turn p));
    scores = refl;
    links = refl;
  }

  pub HasBench-mirrored : (nodes : List OpenClient) (m q r : ℕ) → turn q ≡ r → HasBench nodes rack owned m r → HasBench nodes (record rack { benches = benches }) (record owned { births = births }) m q
  HasBench-mirrored nodes m q r e h = record {
    owner = owner q ∙ ap (owner_at owned) e ∙ h.owner;
    kind = ap (λ (x : Seen). x.kept.standing.kind) (bench q ∙ ap (bench_at rack) e) ∙ h.kind;
    guest = subst (λ (x : Seen). HasGuest x.kept.standing.kind x.kept.standing.score) (sym (bench q ∙ ap (bench_at rack) e)) h.guest;
  }

pub brought : (sound : Score → Sound) → (rack : Racked) (owned : Owned) (after : Racked) (owned_after : Owned) (p n : ℕ) → IsSeating rack owned → p < length rack.benches → n < length rack.benches
    → after ≡ record rack { benches = set (set rack.benches p (bench_at rack n)) n (bench_at rack p) }
    → owned_after ≡ record owned { births = set (set owned.births p (owner_at owned n)) n (owner_at owned p) }
    → (Brings sound) rack owned after owned_after p n
brought sound rack owned after owned_after p n s wp wn rack_is owned_is =
    subst (λ (o : Owned). (Brings sound) rack owned after o p n) (sym owned_is)
    (subst (λ (r : Racked). (Brings sound) rack owned r (record owned { births = births }) p n) (sym rack_is) built)
  where
    births : List (Option ℕ)
    births = set (set owned.births p (owner_at owned n)) n (owner_at owned p)

    benches : List Seen
    benches = set (set rack.benches p (bench_at rack n)) n (bench_at rack p)

    vp : p < length owned.births
    vp = subst (λ k. p < k) (sym s.as_many) wp

    vn : n < length owned.births
    vn = subst (λ k. n < k) (sym s.as_many) wn

    owner : (q : ℕ) → get_or births q None ≡ owner_at owned (turned p n q)
    owner q = turned_at owned.births None p n q vp vn

    bench : (q : ℕ) → get_or benches q (new_bench Pass 0) ≡ bench_at rack (turned p n q)
    bench q = turned_at rack.benches (new_bench Pass 0) p n q wp wn

    births_many : length births ≡ length owned.births
    births_many = length-set (set owned.births p (owner_at owned n)) n (owner_at owned p) ∙ length-set owned.births p (owner_at owned n)

    benches_many : length benches ≡ length rack.benches
    benches_many = length-set (set rack.benches p (bench_at rack n)) n (bench_at rack p) ∙ length-set rack.benches p (bench_at rack n)

    built : (Brings sound) rack owned (record rack { benches = benches }) (record owned { births = births }) p n
    built = record {
      seating = (IsSeating-mirrored sound) rack owned births benches (turned p n) (turned_back p n) owner bench births_many benches_many s;
      moves = λ nodes. (Moves-mirrored sound) rack owned births benches (turned p n) (turned_back p n) owner bench nodes benches_many (λ q h. turned_within p n q (length rack.benches) wp wn h)
          (IsPermutation-turned (λ (x : Seen). x.kept.standing.kind) rack.benches (new_bench Pass 0) p n wp wn);
      there = λ nodes m h. (HasBench-mirrored sound) rack owned births benches (turned p n) (turned_back p n) owner bench nodes m n p (turned_second p n) h;
      others = λ nodes m q d e h. (HasBench-mirrored sound) rack owned births benches (turned p n) (turned_back p n) owner bench nodes m q q (turned_other p n q d e) h;
    }
