-- What benches play is what their kinds play.
--     voice_played, voice_kept      of the kinds that ask no guest
--     guest_played      of a guest
--     first_bare      the first memory of a bench with no guest
--     IsPlain-voice      a kind that asks no guest has nothing to keep for one
--     sums_fit      room for a longer period is enough
use Rattle.std.proofs.Common.{◌≡◌, ℕ, zero, suc, ◌≤◌, Bool, true, false, List, [], ◌∷◌, map, replicate, IsSome, Option, Some, None, option_map, true≢false, refl, sym, ◌∙◌, ap, subst, arith, ℤ}
use Rattle.std.specs.Prelude.{◌==◌, if◌then◌else◌, slice_get, slice_index_or}
use Rattle.std.specs.Option.{option_map_or}
use Rattle.port_mixer.specs.jack_types.specs.declared.kinds.Kind.{Kind}
use Rattle.port_mixer.specs.jack_types.specs.declared.kinds.Kind.TheVariants.{Pass, Gain, Mix, Delay, Tone, Click, Meter, Guest, Disk}
use Rattle.port_mixer.specs.jack_types.specs.declared.moments.Moment.{Moment}
use Rattle.port_mixer.specs.session_model.specs.Kinds.{Memory, Sound, filled, first, fitted, guest_played, guest_turn, outputs_by, play}
use Rattle.port_mixer.specs.session_model.specs.Samples.{silence}
use Rattle.client_kinds.specs.Benches.{standing}
use Rattle.client_kinds.specs.Rooms.{HasSums, IsPlain}
use Rattle.client_kinds.specs.Scores.{Score}
use Rattle.client_kinds.specs.Seats.{Playing, Seated, seat_outputs, seated_after, turn_of}
use Rattle.client_kinds.specs.Sounds.{asks_guest, sound, stepped}
use Rattle.client_kinds.specs.Standings.{Standing, HasGuest, HasScore}
use Rattle.client_kinds.specs.Voices.{Voiced}
use Rattle.client_kinds.proofs.BufferLemmas.{outputs_by-same}

pub sums_fit : (kind : Kind) (period most room : ℕ) → period ≤ most → HasSums kind most room → HasSums kind period room
sums_fit Mix period most room h fits = omega (arith, h, fits)
sums_fit _ period most room h fits = tt

pub first_bare : (kind : Kind) → record (first [] kind) { numbers = []; is_dead = false } ≡ first [] kind
first_bare (Guest guest) = refl
first_bare (Delay frames) = refl
first_bare _ = refl

pub voice_outputs : (scores : List Sound) (kind : Kind) (memory : Memory) (numbers : List ℤ) (d : Bool) (outputs : ℕ) (moment : Moment) (period : ℕ) (inputs : List (List ℤ)) → asks_guest kind ≡ false
    → outputs_by outputs (sound kind memory moment period inputs) ≡ (play scores kind (record memory { numbers = numbers; is_dead = d }) outputs moment period inputs).outputs
voice_outputs scores (Guest guest) memory numbers d outputs moment period inputs h = absurd (true≢false h)
voice_outputs scores Pass memory numbers d outputs moment period inputs h = refl
voice_outputs scores (Gain factor shift) memory numbers d outputs moment period inputs h = refl
voice_outputs scores Mix memory numbers d outputs moment period inputs h = refl
voice_outputs scores (Delay frames) memory numbers d outputs moment period inputs h = refl
voice_outputs scores (Tone half level) memory numbers d outputs moment period inputs h = refl
voice_outputs scores (Click level) memory numbers d outputs moment period inputs h = refl
voice_outputs scores (Disk disk) memory numbers d outputs moment period inputs h = refl
voice_outputs scores _ memory numbers d outputs moment period inputs h = refl

pub voice_memory : (scores : List Sound) (kind : Kind) (memory : Memory) (numbers : List ℤ) (d : Bool) (outputs : ℕ) (moment : Moment) (period : ℕ) (inputs : List (List ℤ)) → asks_guest kind ≡ false
    → record (stepped kind memory period inputs) { numbers = numbers; is_dead = d } ≡ (play scores kind (record memory { numbers = numbers; is_dead = d }) outputs moment period inputs).memory
voice_memory scores (Guest guest) memory numbers d outputs moment period inputs h = absurd (true≢false h)
voice_memory scores (Delay frames) memory numbers d outputs moment period inputs h = refl
voice_memory scores (Tone half level) memory numbers d outputs moment period inputs h = refl
voice_memory scores Meter memory numbers d outputs moment period inputs h = refl
voice_memory scores (Disk disk) memory numbers d outputs moment period inputs h = refl
voice_memory scores _ memory numbers d outputs moment period inputs h = refl

-- a guest on a seat
guest_outputs : (sound : Score → Sound) (sounds : List Sound) (guest : ℕ) (memory : Memory) (playing : Playing) (d : Bool) (outputs : ℕ) (moment : Moment) (period : ℕ) (inputs : List (List ℤ)) → slice_get sounds guest ≡ Some (sound playing.score)
    → seat_outputs d period outputs (turn_of sound playing moment outputs period inputs) ≡ (play sounds (Guest guest) (record memory { numbers = playing.numbers; is_dead = d }) outputs moment period inputs).outputs
guest_outputs sound sounds guest memory playing true outputs moment period inputs h = sym (outputs_by-same outputs (silence period))
guest_outputs sound sounds guest memory playing false outputs moment period inputs h =
    settled ((turn_of sound playing moment outputs period inputs).answer == 0)
    ∙ ap (λ (s : Option Sound). (guest_played period outputs (record memory { numbers = playing.numbers; is_dead = false }) (guest_turn s moment outputs period playing.numbers inputs)).outputs) (sym h)
  where
    settled : (b : Bool) → (if b then fitted period outputs (turn_of sound playing moment outputs period inputs).outputs else replicate outputs (silence period))
        ≡ outputs_by outputs (λ j. if b then filled period (slice_index_or (turn_of sound playing moment outputs period inputs).outputs j []) else silence period)
    settled true = refl
    settled false = sym (outputs_by-same outputs (silence period))

guest_memory : (sound : Score → Sound) (sounds : List Sound) (guest : ℕ) (memory : Memory) (playing : Playing) (d : Bool) (outputs : ℕ) (moment : Moment) (period : ℕ) (inputs : List (List ℤ)) → slice_get sounds guest ≡ Some (sound playing.score)
    → (let after = seated_after (record { playing = Some playing; is_dead = d }) playing (turn_of sound playing moment outputs period inputs) in record memory { numbers = option_map_or (λ (playing : Playing). playing.numbers) after.playing []; is_dead = after.is_dead })
    ≡ (play sounds (Guest guest) (record memory { numbers = playing.numbers; is_dead = d }) outputs moment period inputs).memory
guest_memory sound sounds guest memory playing true outputs moment period inputs h = refl
guest_memory sound sounds guest memory playing false outputs moment period inputs h =
    ap (λ (s : Option Sound). (guest_played period outputs (record memory { numbers = playing.numbers; is_dead = false }) (guest_turn s moment outputs period playing.numbers inputs)).memory) (sym h)

module _ (sound : Score → Sound) (sounds : List Sound) (guest : ℕ) (voice : Voiced) (old new : Seated) (outputs : ℕ) (moment : Moment) (period : ℕ) (inputs : List (List ℤ)) (there : IsSome old.playing)
    (scored : slice_get sounds guest ≡ option_map (λ (playing : Playing). sound playing.score) old.playing) where
  pub seat_plays : (buffers : List (List ℤ)) → ((playing : Playing) → old.playing ≡ Some playing → buffers ≡ seat_outputs old.is_dead period outputs (turn_of sound playing moment outputs period inputs))
      → buffers ≡ (play sounds (Guest guest) (standing voice old).memory outputs moment period inputs).outputs
  seat_plays buffers plays = go old.playing refl
    where
      go : (p : Option Playing) → old.playing ≡ p → buffers ≡ (play sounds (Guest guest) (standing voice old).memory outputs moment period inputs).outputs
      go None e = absurd (true≢false (sym (subst (λ (p : Option Playing). IsSome p) e there)))
      go (Some playing) e =
          plays playing e ∙ guest_outputs sound sounds guest voice.memory playing old.is_dead outputs moment period inputs (scored ∙ ap (λ (p : Option Playing). option_map (λ (playing : Playing). sound playing.score) p) e)
          ∙ ap (λ (p : Option Playing). (play sounds (Guest guest) (standing voice (record old { playing = p })).memory outputs moment period inputs).outputs) (sym e)

  pub seat_memory : ((playing : Playing) → old.playing ≡ Some playing → new ≡ seated_after old playing (turn_of sound playing moment outputs period inputs))
      → (standing voice new).memory ≡ (play sounds (Guest guest) (standing voice old).memory outputs moment period inputs).memory
  seat_memory after = go old.playing refl
    where
      go : (p : Option Playing) → old.playing ≡ p → (standing voice new).memory ≡ (play sounds (Guest guest) (standing voice old).memory outputs moment period inputs).memory
      go None e = absurd (true≢false (sym (subst (λ (p : Option Playing). IsSome p) e there)))
      go (Some playing) e =
          ap (λ (seat : Seated). (standing voice seat).memory) (after playing e)
          ∙ ap (λ (p : Option Playing). (standing voice (seated_after (record old { playing = p }) playing (turn_of sound playing moment outputs period inputs))).memory) e
          ∙ guest_memory sound sounds guest voice.memory playing old.is_dead outputs moment period inputs (scored ∙ ap (λ (p : Option Playing). option_map (λ (playing : Playing). sound playing.score) p) e)
          ∙ ap (λ (p : Option Playing). (play sounds (Guest guest) (standing voice (record old { playing = p })).memory outputs moment period inputs).memory) (sym e)

-- a guest's kind remembers nothing at first
pub first_plain : (kind : Kind) → IsPlain kind (first [] kind)
first_plain (Guest guest) = refl
first_plain _ = tt

pub IsPlain-voice : (kind : Kind) (memory : Memory) → asks_guest kind ≡ false → IsPlain kind memory
IsPlain-voice (Guest guest) memory h = absurd (true≢false h)
IsPlain-voice _ memory h = tt

pub not_guest : (kind : Kind) → ((guest : ℕ) → kind ≡ Guest guest → ⊥) → asks_guest kind ≡ false
not_guest (Guest guest) h = absurd (h guest refl)
not_guest _ h = refl

some_mapped : {X Y : Type 0} (f : X → Y) (o : Option X) → IsSome (option_map f o) → IsSome o
some_mapped f None h = h
some_mapped f (Some x) h = refl

-- a sound at a place is that of the score at the place
pub slice_get-map : {X Y : Type 0} (f : X → Y) (xs : List X) (i : ℕ) → slice_get (map f xs) i ≡ option_map f (slice_get xs i)
slice_get-map f [] i = refl
slice_get-map f (x ∷ xs) zero = refl
slice_get-map f (x ∷ xs) (suc i) = slice_get-map f xs i

option_map-map : {X Y Z : Type 0} (f : X → Y) (g : Y → Z) (o : Option X) → option_map g (option_map f o) ≡ option_map (λ x. g (f x)) o
option_map-map f g None = refl
option_map-map f g (Some x) = refl

sounded : (sound : Score → Sound) (scores : List Score) (guest : ℕ) (old : Seated) → slice_get scores guest ≡ option_map (λ (playing : Playing). playing.score) old.playing
    → slice_get (map sound scores) guest ≡ option_map (λ (playing : Playing). sound playing.score) old.playing
sounded sound scores guest old scored = slice_get-map sound scores guest ∙ ap (option_map sound) scored ∙ option_map-map (λ (playing : Playing). playing.score) sound old.playing

-- what all outputs play where a guest is asked
pub guest_path : (sound : Score → Sound) (scores : List Score) (guest : ℕ) (voice : Voiced) (old : Seated) (now : Standing) (outputs : ℕ) (moment : Moment) (period : ℕ) (inputs buffers : List (List ℤ))
    → standing voice old ≡ now → voice.kind ≡ Guest guest → HasGuest now.kind now.score → HasScore now scores
    → ((playing : Playing) → old.playing ≡ Some playing → buffers ≡ seat_outputs old.is_dead period outputs (turn_of sound playing moment outputs period inputs))
    → buffers ≡ (play (map sound scores) now.kind now.memory outputs moment period inputs).outputs
guest_path sound scores guest voice old now outputs moment period inputs buffers view kind has scored plays =
    subst (λ (s : Standing). HasGuest s.kind s.score → HasScore s scores → buffers ≡ (play (map sound scores) s.kind s.memory outputs moment period inputs).outputs) view
    (subst (λ (k : Kind). HasGuest k (standing voice old).score → HasScore (record (standing voice old) { kind = k }) scores → buffers ≡ (play (map sound scores) k (standing voice old).memory outputs moment period inputs).outputs) (sym kind)
    (λ there score. seat_plays sound (map sound scores) guest voice old old outputs moment period inputs (some_mapped (λ (playing : Playing). playing.score) old.playing there) (sounded sound scores guest old score) buffers plays))
    has scored
