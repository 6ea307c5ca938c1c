-- What plays keep of a seating.
--     IsSameBench-played      a bench that is played
--     IsSeating-played      all benches of a rack
use Rattle.std.proofs.Common.{◌≡◌, ℕ, ◌⊎◌, inl, inr, Bool, true, false, List, length, Option, Some, None, IsSome, refl, sym, ◌∙◌, ap, subst}
use Rattle.std.specs.Prelude.{if◌then◌else◌, slice_get}
use Rattle.jack_types.specs.declared.kinds.Kind.{Kind}
use Rattle.jack_types.specs.declared.kinds.Kind.TheVariants.{Pass, Gain, Mix, Delay, Tone, Click, Meter, Tape, Guest, Midiplay, Midithru, Midilog, Disk}
use Rattle.session_model.specs.Benches.{Signal, mixed}
use Rattle.session_model.specs.Kinds.{GuestTurn, Memory, guest_played, guest_turn, silent}
use Rattle.session_model.specs.Kinds.{Sound}
use Rattle.bench_rack.specs.client_kinds.specs.Scores.{Score}
use Rattle.bench_rack.specs.client_kinds.specs.Standings.{HasGuest, HasScore, Standing}
use Rattle.bench_rack.specs.client_benches.specs.declared.benches.Stint.{Stint}
use Rattle.bench_rack.specs.client_benches.specs.Seen.{Remembered, kept_after, new_standing, own_sounds, task_in}
use Rattle.bench_rack.specs.Racks.{Racked}
use Rattle.client_seats.specs.Owners.{Owned, owner_at, pooled}
use Rattle.client_seats.specs.Seatings.{IsBare, IsLent, IsSameBench, IsScored, IsSeating, standing_at}

guest-bare : (dead : Bool) (guest period outputs : ℕ) (memory : Memory) (turn : GuestTurn) → IsBare (Guest guest) memory
    → IsBare (Guest guest) (if dead then silent period outputs memory else guest_played period outputs memory turn).memory
guest-bare true guest period outputs memory turn bare = bare
guest-bare false guest period outputs memory turn bare = ap (λ (m : Memory). record m { numbers = turn.numbers; is_dead = (guest_played period outputs memory turn).memory.is_dead }) bare

played-bare : (sound : Score → Sound) → (kept : Remembered) (given : List (List Signal)) (kind : Kind) (turn : Option Stint) → IsBare kind kept.standing.memory
    → IsBare kind ((kept_after sound) (record kept { standing = record kept.standing { kind = kind }; turn = turn }) given).standing.memory
played-bare sound kept given (Guest guest) None bare = bare
played-bare sound kept given (Guest guest) (Some turn) bare = guest-bare kept.standing.memory.is_dead guest turn.ports.period turn.ports.outputs kept.standing.memory
    (guest_turn (slice_get ((own_sounds sound) (record kept.standing { kind = Guest guest })) guest) turn.moment turn.ports.outputs turn.ports.period kept.standing.memory.numbers
    (mixed (task_in ((own_sounds sound) (record kept.standing { kind = Guest guest })) (record kept { standing = record kept.standing { kind = Guest guest }; turn = Some turn }) turn) given)) bare
played-bare sound kept given Pass turn bare = tt
played-bare sound kept given (Gain factor shift) turn bare = tt
played-bare sound kept given Mix turn bare = tt
played-bare sound kept given (Delay frames) turn bare = tt
played-bare sound kept given (Tone half level) turn bare = tt
played-bare sound kept given (Click level) turn bare = tt
played-bare sound kept given Meter turn bare = tt
played-bare sound kept given (Tape recorder) turn bare = tt
played-bare sound kept given (Midiplay list) turn bare = tt
played-bare sound kept given Midithru turn bare = tt
played-bare sound kept given Midilog turn bare = tt
played-bare sound kept given (Disk disk) turn bare = tt

pub IsSameBench-played : (sound : Score → Sound) → (kept : Remembered) (given : List (List Signal)) → IsSameBench kept.standing ((kept_after sound) kept given).standing
IsSameBench-played sound kept given = record {
  kind = refl;
  period = refl;
  score = refl;
  bare = λ bare. (played-bare sound) kept given kept.standing.kind kept.turn bare;
}

score-kept : (before after : Standing) (scores : List Score) (kind : Kind) → after.score ≡ before.score → HasScore (record before { kind = kind }) scores → HasScore (record after { kind = kind }) scores
score-kept before after scores (Guest guest) same has = has ∙ sym same
score-kept before after scores Pass same has = tt
score-kept before after scores (Gain factor shift) same has = tt
score-kept before after scores Mix same has = tt
score-kept before after scores (Delay frames) same has = tt
score-kept before after scores (Tone half level) same has = tt
score-kept before after scores (Click level) same has = tt
score-kept before after scores Meter same has = tt
score-kept before after scores (Tape recorder) same has = tt
score-kept before after scores (Midiplay list) same has = tt
score-kept before after scores Midithru same has = tt
score-kept before after scores Midilog same has = tt
score-kept before after scores (Disk disk) same has = tt

scored-kept : (before after : Standing) (scores : List Score) → IsSameBench before after → IsScored before scores → IsScored after scores
scored-kept before after scores b scored some = subst (λ (k : Kind). HasScore (record after { kind = k }) scores) (sym b.kind)
    (score-kept before after scores before.kind b.score (scored (subst IsSome b.score some)))

has-kept : (before after : Standing) → IsSameBench before after → HasGuest before.kind before.score → HasGuest after.kind after.score
has-kept before after b has = subst (λ (k : Kind). HasGuest k after.score) (sym b.kind) (subst (λ (x : Option Score). HasGuest before.kind x) (sym b.score) has)

pub IsSeating-played : (rack after : Racked) (owned : Owned) → IsSeating rack owned → length after.benches ≡ length rack.benches
    → ((p : ℕ) → IsSameBench (standing_at rack p) (standing_at after p)) → ((p : ℕ) → owner_at owned p ≡ None → standing_at after p ≡ standing_at rack p) → IsSeating after owned
IsSeating-played rack after owned s count same stay = record {
  as_many = s.as_many ∙ sym count;
  as_many_guests = s.as_many_guests;
  apart = s.apart;
  free = λ p h. subst (λ (z : Standing). z ≡ new_standing z.kind z.period) (sym (stay p h)) (s.free p h);
  lent = λ p birth h. has-kept (standing_at rack p) (standing_at after p) (same p) (s.lent p birth h);
  scored = λ p. scored-kept (standing_at rack p) (standing_at after p) owned.scores (same p) (s.scored p);
  bare = λ p. (same p).bare (s.bare p);
  pool = s.pool;
  guests = λ guest within. guests_of guest (s.guests guest within);
  past = s.past;
  past_apart = s.past_apart;
  past_peaks = s.past_peaks;
}
  where
    guests_of : (guest : ℕ) → IsSome (pooled owned guest) ⊎ IsLent rack owned guest → IsSome (pooled owned guest) ⊎ IsLent after owned guest
    guests_of guest (inl h) = inl h
    guests_of guest (inr l) = inr (record { place = l.place; birth = l.birth; owner = l.owner; kind = (same l.place).kind ∙ l.kind })
