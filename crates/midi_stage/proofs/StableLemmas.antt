-- What a node hears does not change when a higher one plays.
--     heard-stable      of each input
--     all-stable      of all
--     played-more, rest-more, played-same      one node more, with a seat or without
--     kind-played      a bench that plays is for the same kind
use Rattle.std.proofs.Common.{◌≡◌, ◌≢◌, ℕ, ◌+◌, ◌<◌, ◌≤◌, ◌⊎◌, inl, inr, Bool, ◌&&◌, ◌==◌, List, [], ◌∷◌, map, filter, get_or, Contains, Option, Some, None, refl, sym, ◌∙◌, ap, ap₂, subst, arith, eqb-true}
use Rattle.std.proofs.lemmas.Bool.{cases_eq}
use Rattle.jack_types.specs.declared.events.Event.{Event}
use Rattle.jack_types.specs.declared.moments.Moment.{Moment}
use Rattle.jack_types.specs.declared.ports.Client.{Client}
use Rattle.session_model.specs.Events.{merge}
use Rattle.session_model.specs.Samples.{below}
use Rattle.session_laws.proofs.CycleLemmas.{filter-passes}
use Rattle.session_laws.proofs.LoopLemmas.{Contains-first, Contains-later, and_parts}
use Rattle.session_laws.proofs.PlaceLemmas.{filter-contains}
use Rattle.midi_player.specs.Standings.{Standing}
use Rattle.port_registry.specs.Registered.{system_entry}
use Rattle.midi_wiring.specs.declared.joints.MidiFrom.{MidiFrom}
use Rattle.midi_wiring.specs.declared.joints.MidiFrom.TheVariants.{Played, Kept, Nothing}
use Rattle.midi_wiring.specs.declared.joints.MidiJoint.{MidiJoint}
use Rattle.midi_wiring.specs.Hearings.{inputs_at}
use Rattle.driver_words.specs.Hearings.{listed_for}
use Rattle.midi_wiring.specs.Wirings.{MidiWired}
use Rattle.midi_stage.specs.Sounding.{AreLower, AreSeated, HavePlayed, PlaysOn, Sounded, all_heard, bench_born, brings, events_at, heard_on, no_standing, seat_at}

same-map : {X Z : Type 0} (f g : X → Z) (xs : List X) → ((x : X) → Contains xs x → f x ≡ g x) → map f xs ≡ map g xs
same-map f g [] agree = refl
same-map f g (x ∷ xs) agree = ap₂ (λ z zs. z ∷ zs) (agree x (Contains-first x xs)) (same-map f g xs (λ y m. agree y (Contains-later x y xs m)))

-- no node up to this one but the one that played has the bench whose events changed
module _ (joints : List MidiJoint) (lower : AreLower joints) (old new : Sounded) (bench top : ℕ)
    (seats : new.seats ≡ old.seats) (gave : new.gave ≡ old.gave) (earlier : new.earlier ≡ old.earlier)
    (others : (b : ℕ) (d : List Event) → b ≢ bench → get_or new.gives b d ≡ get_or old.gives b d)
    (apart : (m : ℕ) → m < top → seat_at old m ≡ Some bench → ⊥) where
  events-same : (m : ℕ) → m < top → (seat : Option ℕ) → seat_at old m ≡ seat → events_at new.gives seat ≡ events_at old.gives seat
  events-same m low None e = refl
  events-same m low (Some b) e = others b [] (λ same. apart m low (e ∙ ap Some same))

  brings-same : (n : ℕ) → n ≤ top → (joint : MidiJoint) → Contains joints joint → joint.node ≡ n → brings new joint.from ≡ brings old joint.from
  brings-same n low joint k at = go joint.from refl
    where
      go : (from : MidiFrom) → joint.from ≡ from → brings new from ≡ brings old from
      go (Played m) f =
          let less : m < joint.node = lower joint m k f in
          ap (λ s. events_at new.gives (get_or s m None)) seats ∙ events-same m (omega (arith, less, low, at)) (seat_at old m) refl
      go (Kept birth) f = ap₂ (λ g o. events_at g (bench_born o birth)) gave earlier
      go Nothing f = refl

  pub heard-stable : (n : ℕ) → n ≤ top → (input : ℕ) → heard_on new joints n input ≡ heard_on old joints n input
  heard-stable n low input =
      ap merge (same-map (λ (joint : MidiJoint). brings new joint.from) (λ (joint : MidiJoint). brings old joint.from) (filter here joints)
      (λ joint m. brings-same n low joint (filter-contains here joints joint m) (eqb-true joint.node n (and_parts (joint.node == n) (joint.input == input) (filter-passes here joints joint m)).0)))
    where
      here : MidiJoint → Bool
      here joint = joint.node == n && joint.input == input

pub all-stable : (wiring : MidiWired) (lower : AreLower wiring.joints) (old new : Sounded) (bench top : ℕ)
    → new.seats ≡ old.seats → new.gave ≡ old.gave → new.earlier ≡ old.earlier
    → ((b : ℕ) (d : List Event) → b ≢ bench → get_or new.gives b d ≡ get_or old.gives b d)
    → ((m : ℕ) → m < top → seat_at old m ≡ Some bench → ⊥) → (n : ℕ) → n ≤ top → all_heard new wiring n ≡ all_heard old wiring n
all-stable wiring lower old new bench top seats gave earlier others apart n low =
    same-map (heard_on new wiring.joints n) (heard_on old wiring.joints n) (below (inputs_at wiring n))
    (λ input m. heard-stable wiring.joints lower old new bench top seats gave earlier others apart n low input)

-- ---- one node more

module _ (lists : List (List (ℕ × Event))) (nodes : List Client) (wiring : MidiWired) (lower : AreLower wiring.joints) (moment : Moment) (period count : ℕ) (first : Sounded) (seated : AreSeated first count)
    (start before : List Standing) (old : Sounded) (k : ℕ) (held : old.seats ≡ first.seats) (played : HavePlayed lists nodes wiring moment period k start before old) where
  one : (a b : ℕ) → Some a ≡ Some b → a ≡ b
  one a b e = cc

  nothing-some : (a : ℕ) → None ≡ Some a → ⊥
  nothing-some a e = cc

  seat-first : (n b : ℕ) → seat_at old n ≡ Some b → seat_at first n ≡ Some b
  seat-first n b e = ap (λ (seats : List (Option ℕ)). get_or seats n None) (sym held) ∙ e

  -- without a seat
  pub played-same : seat_at old k ≡ None → HavePlayed lists nodes wiring moment period (k + 1) start before old
  played-same none n b low e = go (cases_eq n k)
    where
      go : (n ≡ k) ⊎ (n ≢ k) → PlaysOn (listed_for lists (get_or nodes n system_entry).kind) moment period (merge (all_heard old wiring n)) (get_or start b no_standing) (get_or before b no_standing) (get_or old.gives b [])
      go (inl same) = absurd (nothing-some b (sym none ∙ ap (seat_at old) (sym same) ∙ e))
      go (inr other) = played n b (omega (arith, low, other)) e

  module _ (bench : ℕ) (seat : seat_at old k ≡ Some bench) (rest : (b : ℕ) → ((n : ℕ) → n < k → seat_at first n ≡ Some b → ⊥) → get_or before b no_standing ≡ get_or start b no_standing)
      (after : List Standing) (new : Sounded) (seats : new.seats ≡ old.seats) (gave : new.gave ≡ old.gave) (earlier : new.earlier ≡ old.earlier)
      (other_benches : (b : ℕ) (d : Standing) → b ≢ bench → get_or after b d ≡ get_or before b d) (other_events : (b : ℕ) (d : List Event) → b ≢ bench → get_or new.gives b d ≡ get_or old.gives b d)
      (plays : PlaysOn (listed_for lists (get_or nodes k system_entry).kind) moment period (merge (all_heard old wiring k)) (get_or before bench no_standing) (get_or after bench no_standing) (get_or new.gives bench [])) where
    lower-seat : (m : ℕ) → m < k → seat_at old m ≡ Some bench → ⊥
    lower-seat m low e = let same : m ≡ k = seated.apart m k bench (seat-first m bench e) (seat-first k bench seat) in omega (arith, low, same)

    stable : (n : ℕ) → n ≤ k → all_heard new wiring n ≡ all_heard old wiring n
    stable = all-stable wiring lower old new bench k seats gave earlier other_events lower-seat

    at-start : get_or before bench no_standing ≡ get_or start bench no_standing
    at-start = rest bench (λ n low e. let same : n ≡ k = seated.apart n k bench e (seat-first k bench seat) in omega (arith, low, same))

    here : PlaysOn (listed_for lists (get_or nodes k system_entry).kind) moment period (merge (all_heard new wiring k)) (get_or start bench no_standing) (get_or after bench no_standing) (get_or new.gives bench [])
    here =
        subst (λ heard. PlaysOn (listed_for lists (get_or nodes k system_entry).kind) moment period (merge heard) (get_or start bench no_standing) (get_or after bench no_standing) (get_or new.gives bench [])) (sym (stable k (omega arith)))
        (subst (λ (had : Standing). PlaysOn (listed_for lists (get_or nodes k system_entry).kind) moment period (merge (all_heard old wiring k)) had (get_or after bench no_standing) (get_or new.gives bench [])) at-start plays)

    abbrev Goal : ℕ → ℕ → Type 0
    Goal n b = PlaysOn (listed_for lists (get_or nodes n system_entry).kind) moment period (merge (all_heard new wiring n)) (get_or start b no_standing) (get_or after b no_standing) (get_or new.gives b [])

    pub played-more : HavePlayed lists nodes wiring moment period (k + 1) start after new
    played-more n b low e = go (cases_eq n k)
      where
        was : seat_at old n ≡ Some b
        was = ap (λ (items : List (Option ℕ)). get_or items n None) (sym seats) ∙ e

        go : (n ≡ k) ⊎ (n ≢ k) → PlaysOn (listed_for lists (get_or nodes n system_entry).kind) moment period (merge (all_heard new wiring n)) (get_or start b no_standing) (get_or after b no_standing) (get_or new.gives b [])
        go (inl same) = subst (λ j. Goal j b) (sym same) (subst (Goal k) (one bench b (sym seat ∙ ap (seat_at old) (sym same) ∙ was)) here)
        go (inr other) =
            let less : n < k = omega (arith, low, other) in
            let apart : b ≢ bench = λ same. lower-seat n less (was ∙ ap Some same) in
            subst (λ (had : Standing). PlaysOn (listed_for lists (get_or nodes n system_entry).kind) moment period (merge (all_heard new wiring n)) (get_or start b no_standing) had (get_or new.gives b [])) (sym (other_benches b no_standing apart))
            (subst (λ events. PlaysOn (listed_for lists (get_or nodes n system_entry).kind) moment period (merge (all_heard new wiring n)) (get_or start b no_standing) (get_or before b no_standing) events) (sym (other_events b [] apart))
            (subst (λ heard. PlaysOn (listed_for lists (get_or nodes n system_entry).kind) moment period (merge heard) (get_or start b no_standing) (get_or before b no_standing) (get_or old.gives b [])) (sym (stable n (omega (arith, less))))
            (played n b less was)))

    pub rest-more : (b : ℕ) → ((n : ℕ) → n < k + 1 → seat_at first n ≡ Some b → ⊥) → get_or after b no_standing ≡ get_or start b no_standing
    rest-more b none =
        other_benches b no_standing (λ same. none k (omega arith) (seat-first k b (seat ∙ ap Some (sym same))))
        ∙ rest b (λ n low e. none n (omega (arith, low)) e)

-- a bench that plays is for the same kind
pub kind-played : (before after : List Standing) (bench : ℕ) → (get_or after bench no_standing).kind ≡ (get_or before bench no_standing).kind
    → ((b : ℕ) (d : Standing) → b ≢ bench → get_or after b d ≡ get_or before b d) → (b : ℕ) → (get_or after b no_standing).kind ≡ (get_or before b no_standing).kind
kind-played before after bench kind others b = go (cases_eq b bench)
  where
    go : (b ≡ bench) ⊎ (b ≢ bench) → (get_or after b no_standing).kind ≡ (get_or before b no_standing).kind
    go (inl at) = ap (λ c. (get_or after c no_standing).kind) at ∙ kind ∙ ap (λ c. (get_or before c no_standing).kind) (sym at)
    go (inr other) = ap (λ (standing : Standing). standing.kind) (others b no_standing other)
