-- Blocks after blocks.
use Rattle.std.proofs.Common.{◌≡◌, ℕ, ◌+◌, ◌≤◌, true, List, [], ◌∷◌, ◌++◌, length, ap, sym, refl, ◌∙◌, subst, le_trans, le_refl, arith}
use Rattle.std.specs.Prelude.{Bool, ℤ, Option}
use Rattle.jack_types.specs.declared.files.Format.{Format}
use Rattle.record_ring.specs.Rings.{Gets}
use Rattle.record_ring.specs.driver_words.specs.Rings.{Getting}
use Rattle.record_ring.specs.declared.consumer.Got.TheVariants.{Empty, Ended}
use Rattle.session_model.specs.Rings.{RingBlock, samples_of_blocks}
use Rattle.record_ring.specs.driver_words.specs.Tapes.{Tape, HasFront, HasUnfinished}
use Rattle.wave_write.proofs.TapeLemmas.{unfinished-front}
use Rattle.disk_recorder.specs.Recordings.{MayWrite, SameEnds, FindsNone, Writes, Fails, Breaks}
use Rattle.disk_recorder.specs.Passing.{Passes}
use Rattle.disk_recorder.proofs.Fronts.{front_on, front_itself, front_append}

pub starts : (g : Getting) (t : Tape) → MayWrite g t → Writes 0 g t g t
starts g t may = record {
  same = record { table = refl; room = refl; most = refl; format = refl; name = refl; tells = refl; later = le_refl t.faults; least = le_refl g.least };
  longer = front_itself g.got;
  finds = front_itself g.finds;
  count_is = omega arith;
  samples = λ before has. has;
  may = may;
}

-- no block was there
idle : (g : Getting) (t : Tape) (found : ℕ) (done : Bool) → MayWrite g t → g.least ≤ found → Writes 0 g t (record g { finds = g.finds ++ found ∷ []; least = found; done = done }) t
idle g t found done may least = record {
  same = record { table = refl; room = refl; most = refl; format = refl; name = refl; tells = refl; later = le_refl t.faults; least = least };
  longer = front_itself g.got;
  finds = front_append g.finds (found ∷ []);
  count_is = omega arith;
  samples = λ before has. has;
  may = record { going = may.going; lawful = may.lawful; few = may.few; got = may.got; written = may.written };
}

-- a get that found as many as were got
none_more : (g : Getting) (found : ℕ) (done : Bool) → found ≡ length g.got → FindsNone g (record g { finds = g.finds ++ found ∷ []; least = found; done = done })
none_more g found done is = record {
  before = g.finds;
  this_call = front_itself g.finds;
  last = ap (λ (n : ℕ). g.finds ++ n ∷ []) is;
}

pub found_empty : (g g' : Getting) (t : Tape) (block : RingBlock) (found sent taken : ℕ) → MayWrite g t → Gets g g' block found (Empty sent taken) → Passes g t g' t (Empty sent taken)
found_empty g g' t block found sent taken may gets = subst (λ (u : Getting). Writes 0 g t u t × (u.least ≡ length u.got) × FindsNone g u) (sym gets.6) (idle g t found g.done may gets.1, gets.2, none_more g found g.done gets.2)

pub found_end : (g g' : Getting) (t : Tape) (block : RingBlock) (found : ℕ) → MayWrite g t → Gets g g' block found Ended → Passes g t g' t Ended
found_end g g' t block found may gets = subst (λ (u : Getting). Writes 0 g t u t × (u.least ≡ length u.got) × (u.done ≡ true) × FindsNone g u) (sym gets.2) (idle g t found true may gets.0, gets.1, refl, none_more g found true gets.1)

pub ends_on : (g g₁ g₂ : Getting) (t t₁ t₂ : Tape) → SameEnds g t g₁ t₁ → SameEnds g₁ t₁ g₂ t₂ → SameEnds g t g₂ t₂
ends_on g g₁ g₂ t t₁ t₂ a b = record {
  table = b.table ∙ a.table;
  room = b.room ∙ a.room;
  most = b.most ∙ a.most;
  format = b.format ∙ a.format;
  name = b.name ∙ a.name;
  tells = b.tells ∙ a.tells;
  later = le_trans a.later b.later;
  least = le_trans a.least b.least;
}

pub writes_on : (m n : ℕ) (g g₁ g₂ : Getting) (t t₁ t₂ : Tape) → Writes m g t g₁ t₁ → Writes n g₁ t₁ g₂ t₂ → Writes (m + n) g t g₂ t₂
writes_on m n g g₁ g₂ t t₁ t₂ a b = let first = a.count_is in let second = b.count_is in record {
  same = ends_on g g₁ g₂ t t₁ t₂ a.same b.same;
  longer = front_on g.got g₁.got g₂.got a.longer b.longer;
  finds = front_on g.finds g₁.finds g₂.finds a.finds b.finds;
  count_is = omega arith;
  samples = λ before has. b.samples before (a.samples before has);
  may = b.may;
}

pub fails_on : (m : ℕ) (g g₁ g₂ : Getting) (t t₁ t₂ : Tape) → Writes m g t g₁ t₁ → Fails g₁ t₁ g₂ t₂ → Fails g t g₂ t₂
fails_on m g g₁ g₂ t t₁ t₂ a b = let first = a.count_is in let second = b.count_is in record {
  same = ends_on g g₁ g₂ t t₁ t₂ a.same b.same;
  longer = front_on g.got g₁.got g₂.got a.longer b.longer;
  stopped = b.stopped;
  front = λ before has. b.front before (a.samples before has);
  count = m + b.count;
  whole = b.whole;
  last = b.last;
  got_are = b.got_are;
  count_is = omega (arith, first, second);
  cut = λ before has. b.cut before (a.samples before has);
}

-- none more
pub writes_none : (m : ℕ) (g g₁ g₂ : Getting) (t t₁ t₂ : Tape) → Writes m g t g₁ t₁ → Writes 0 g₁ t₁ g₂ t₂ → Writes m g t g₂ t₂
writes_none m g g₁ g₂ t t₁ t₂ a b = let same : m + 0 ≡ m = omega arith in subst (λ (q : ℕ). Writes q g t g₂ t₂) same (writes_on m 0 g g₁ g₂ t t₁ t₂ a b)

none_more_on : (m : ℕ) (g g₁ g₂ : Getting) (t t₁ : Tape) → Writes m g t g₁ t₁ → FindsNone g₁ g₂ → FindsNone g g₂
none_more_on m g g₁ g₂ t t₁ a b = record { before = b.before; this_call = front_on g.finds g₁.finds b.before a.finds b.this_call; last = b.last }

-- each answer of a pass behind others
pub passes_empty : (m : ℕ) (g g₁ g₂ : Getting) (t t₁ t₂ : Tape) (sent taken : ℕ) → Writes m g t g₁ t₁ → Passes g₁ t₁ g₂ t₂ (Empty sent taken) → Writes m g t g₂ t₂ × (g₂.least ≡ length g₂.got) × FindsNone g g₂
passes_empty m g g₁ g₂ t t₁ t₂ sent taken a b = (writes_none m g g₁ g₂ t t₁ t₂ a b.0, b.1, none_more_on m g g₁ g₂ t t₁ a b.2)

pub passes_end : (m : ℕ) (g g₁ g₂ : Getting) (t t₁ t₂ : Tape) → Writes m g t g₁ t₁ → Passes g₁ t₁ g₂ t₂ Ended → Writes m g t g₂ t₂ × (g₂.least ≡ length g₂.got) × (g₂.done ≡ true) × FindsNone g g₂
passes_end m g g₁ g₂ t t₁ t₂ a b = (writes_none m g g₁ g₂ t t₁ t₂ a b.0, b.1, b.2, none_more_on m g g₁ g₂ t t₁ a b.3)

-- a file that is stopped behind a failure hands its bytes back
pub fails_break : (g g' : Getting) (t t' : Tape) (bytes : Option (List ℕ)) → bytes ≡ t'.bytes → Fails g t g' t' → Breaks g t g' bytes
fails_break g g' t t' bytes same fails = record {
  longer = fails.longer;
  least = fails.same.least;
  front = λ before has.
      let all : List ℤ = before ++ samples_of_blocks g'.got in
      subst (λ (told : Option (List ℕ)). HasFront t.format all told) (sym same)
      (unfinished-front t.format all t'.bytes (subst (λ (f : Format). HasUnfinished f all t'.bytes) fails.same.format (fails.front before has)));
}
