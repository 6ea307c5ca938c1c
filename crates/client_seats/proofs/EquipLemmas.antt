-- A bench of nobody that gets its guest.
--     equipped-lent      a guest's bench
--     equipped-plain      a bench that asks no guest
use Rattle.std.proofs.Common.{◌≡◌, ◌≢◌, ℕ, ◌<◌, ◌⊎◌, inl, inr, [], List, length, get_or, set, Option, Some, None, IsSome, true≢false, refl, sym, ◌∙◌, ap, subst, get_or-set_same, get_or-set_other, map}
use Rattle.std.proofs.lemmas.Bool.{cases_eq}
use Rattle.std.proofs.lemmas.List.{length-set, set-get_or}
use Rattle.jack_types.specs.declared.kinds.Kind.{Kind}
use Rattle.jack_types.specs.declared.kinds.Kind.TheVariants.{Pass, Gain, Mix, Delay, Tone, Click, Meter, Tape, Guest, Midiplay, Midithru, Midilog, Disk}
use Rattle.session_model.specs.Kinds.{Memory, Sound, first, no_memory}
use Rattle.bench_rack.specs.client_kinds.specs.Scores.{Score}
use Rattle.bench_rack.specs.client_kinds.specs.Standings.{HasGuest, HasScore, Standing}
use Rattle.bench_rack.specs.client_benches.specs.Seen.{Seen, new_bench}
use Rattle.bench_rack.specs.Racks.{Racked}
use Rattle.client_seats.specs.Owners.{Owned, owner_at, pooled}
use Rattle.client_seats.specs.Seatings.{IsBare, IsSeating, kind_at, standing_at}
use Rattle.client_seats.specs.Moves.{IsEquipped, with_standing}

some-is : (o : Option Score) → IsSome o → (score : Score) × (o ≡ Some score)
some-is None h = absurd (true≢false (sym h))
some-is (Some score) h = (score, refl)

first-bare : (scores : List Sound) (kind : Kind) (guest : ℕ) (memory : Memory) → kind ≡ Guest guest → memory ≡ first scores kind → IsBare kind memory
first-bare scores kind guest memory same is =
    subst (λ (k : Kind). memory ≡ first scores k → IsBare k memory) (sym same)
    (λ h. subst (λ (m : Memory). m ≡ record no_memory { numbers = m.numbers; is_dead = m.is_dead }) (sym h) refl) is

pub equipped-lent : (sound : Score → Sound) → (rack : Racked) (owned : Owned) (after : Racked) (owned_after : Owned) (place guest : ℕ) → IsSeating rack owned
    → kind_at rack place ≡ Guest guest → guest < length owned.pool → IsSome (pooled owned guest)
    → after ≡ with_standing rack place (standing_at after place) → kind_at after place ≡ kind_at rack place
    → (standing_at after place).period ≡ (standing_at rack place).period → (standing_at after place).score ≡ pooled owned guest
    → ((scores : List Score) → HasScore (standing_at after place) scores → (standing_at after place).memory ≡ first (map sound scores) (kind_at after place))
    → owned_after ≡ record owned { pool = set owned.pool guest None }
    → (IsEquipped sound) rack owned after owned_after place
equipped-lent sound rack owned after owned_after place guest s kind number there rack_is same period score memory owned_is =
    subst (λ (x : Owned). (IsEquipped sound) rack owned after x place) (sym owned_is) (record {
      rack_is = rack_is;
      owned_is = refl;
      kind = same;
      period = period;
      guest = subst (λ (k : Kind). HasGuest k (standing_at after place).score) (sym asked) (subst IsSome (sym score) there);
      scored = λ _. has;
      memory = memory owned.scores has;
      bare = first-bare (map sound owned.scores) (kind_at after place) guest (standing_at after place).memory asked (memory owned.scores has);
      as_many = length-set owned.pool guest None;
      pool = λ g x h. pool_of g x h (cases_eq g guest);
      still = λ g h. still_of g h (cases_eq g guest);
    })
  where
    asked : kind_at after place ≡ Guest guest
    asked = same ∙ kind

    has : HasScore (standing_at after place) owned.scores
    has = subst (λ (k : Kind). HasScore (record (standing_at after place) { kind = k }) owned.scores) (sym asked)
        (let o = some-is (pooled owned guest) there in s.pool guest o.0 o.1 ∙ sym o.1 ∙ sym score)

    pool_of : (g : ℕ) (x : Score) → get_or (set owned.pool guest None) g None ≡ Some x → (g ≡ guest) ⊎ (g ≢ guest) → pooled owned g ≡ Some x
    pool_of g x h (inl e) =
        let k : None ≡ Some x = sym (get_or-set_same owned.pool guest None None number) ∙ subst (λ r. get_or (set owned.pool guest None) r None ≡ Some x) e h in cc
    pool_of g x h (inr n) = sym (get_or-set_other owned.pool guest g None None n) ∙ h

    still_of : (g : ℕ) → IsSome (pooled owned g) → (g ≡ guest) ⊎ (g ≢ guest) → IsSome (get_or (set owned.pool guest None) g None) ⊎ (kind_at rack place ≡ Guest g)
    still_of g h (inl e) = inr (kind ∙ ap (λ r. Guest r) (sym e))
    still_of g h (inr n) = inl (subst IsSome (sym (get_or-set_other owned.pool guest g None None n)) h)

plain-guest : (kind : Kind) (score : Option Score) → ((guest : ℕ) → kind ≡ Guest guest → ⊥) → HasGuest kind score
plain-guest (Guest guest) score n = absurd (n guest refl)
plain-guest Pass score n = tt
plain-guest (Gain factor shift) score n = tt
plain-guest Mix score n = tt
plain-guest (Delay frames) score n = tt
plain-guest (Tone half level) score n = tt
plain-guest (Click level) score n = tt
plain-guest Meter score n = tt
plain-guest (Tape recorder) score n = tt
plain-guest (Midiplay list) score n = tt
plain-guest Midithru score n = tt
plain-guest Midilog score n = tt
plain-guest (Disk disk) score n = tt

plain-first : (kind : Kind) (scores : List Sound) → ((guest : ℕ) → kind ≡ Guest guest → ⊥) → first [] kind ≡ first scores kind
plain-first (Guest guest) scores n = absurd (n guest refl)
plain-first Pass scores n = refl
plain-first (Gain factor shift) scores n = refl
plain-first Mix scores n = refl
plain-first (Delay frames) scores n = refl
plain-first (Tone half level) scores n = refl
plain-first (Click level) scores n = refl
plain-first Meter scores n = refl
plain-first (Tape recorder) scores n = refl
plain-first (Midiplay list) scores n = refl
plain-first Midithru scores n = refl
plain-first Midilog scores n = refl
plain-first (Disk disk) scores n = refl

pub equipped-plain : (sound : Score → Sound) → (rack : Racked) (owned : Owned) (place : ℕ) → IsSeating rack owned → owner_at owned place ≡ None
    → ((guest : ℕ) → kind_at rack place ≡ Guest guest → ⊥) → (IsEquipped sound) rack owned rack owned place
equipped-plain sound rack owned place s nobody plain = record {
  rack_is = ap (λ (benches : List Seen). record rack { benches = benches }) (sym (set-get_or rack.benches place (new_bench Pass 0)));
  owned_is = refl;
  kind = refl;
  period = refl;
  guest = plain-guest (kind_at rack place) (standing_at rack place).score plain;
  scored = s.scored place;
  memory = ap (λ (z : Standing). z.memory) (s.free place nobody) ∙ plain-first (kind_at rack place) (map sound owned.scores) plain;
  bare = s.bare place;
  as_many = refl;
  pool = λ guest score h. h;
  still = λ guest h. inl h;
}
