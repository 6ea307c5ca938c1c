-- What was taken from a source by several reads.
use Rattle.std.proofs.Common.{◌≡◌, ◌≤◌, ◌<◌, ◌+◌, ◌-◌, ℕ, List, Some, None, length, take, drop, arith, ap, sym, ◌∙◌, refl, length-append, length-drop}
use Rattle.std.proofs.Math.Seq.{take-add}
use Rattle.std.specs.Prelude.{IfSome, Option}
use Rattle.std.proofs.KnownBytes.{Consumes-trans}
use Rattle.std.proofs.lemmas.List.{drop-drop, drop_at, length-take-le}
use Rattle.std.specs.Io.KnownBytes.{Consumes, IsAtEnd}
use Rattle.wave_pcm.specs.Steps.{Drops}

-- a read behind what is there
pub filled : (a b c : Option (List ℕ)) (xs ys : List ℕ) (at n : ℕ) → take at ys ≡ take at xs
    → Consumes a b (take at xs) → Consumes b c (take n (drop at ys)) → Consumes a c (take (at + n) ys)
filled a b c xs ys at n front before read =
    rw (take-add at n ys, front) (Consumes-trans a b c (take at xs) (take n (drop at ys)) before read)

pub drops_none : (a : Option (List ℕ)) → Drops a a 0
drops_none None = tt
drops_none (Some xs) = (omega arith, refl)

pub drops-consumes : (a b : Option (List ℕ)) (bytes : List ℕ) (n : ℕ) → length bytes ≡ n → Consumes a b bytes → Drops a b n
drops-consumes None b bytes n e h = tt
drops-consumes (Some xs) None bytes n e h = h
drops-consumes (Some xs) (Some ys) bytes n e h = (omega (arith, ap length h, length-append bytes ys, e), sym (ap (drop n) h ∙ drop_at bytes ys n e))

pub drops-trans : (a b c : Option (List ℕ)) (m n : ℕ) → Drops a b m → Drops b c n → Drops a c (m + n)
drops-trans None b c m n f g = tt
drops-trans (Some xs) None c m n f g = absurd f
drops-trans (Some xs) (Some ys) None m n f g = absurd g
drops-trans (Some xs) (Some ys) (Some zs) m n f g = (omega (arith, f.0, g.0, ap length f.1, length-drop m xs), g.1 ∙ ap (drop n) f.1 ∙ drop-drop n m xs)

-- one more read of so many bytes
pub skipped : (a b c : Option (List ℕ)) (count left n : ℕ) → n ≤ left → left ≤ count → Drops a b (count - left) → Drops b c n → Drops a c (count - (left - n))
skipped a b c count left n le within f g =
    let e : count - left + n ≡ count - (left - n) = omega (arith, le, within) in
    rw (← e) (drops-trans a b c (count - left) n f g)

-- the input ended before all were read
ended_in : (a b : Option (List ℕ)) (count left : ℕ) → 0 < left → left ≤ count → Drops a b (count - left) → IsAtEnd b → IfSome a (λ bytes. length bytes < count)
ended_in None b count left some within f end = tt
ended_in (Some xs) None count left some within f end = absurd f
ended_in (Some xs) (Some ys) count left some within f end = omega (arith, ap length f.1, ap length end, length-drop (count - left) xs, f.0, some, within)

pub ended_after : (a b c : Option (List ℕ)) (count left n : ℕ) → n ≡ 0 → 0 < left → left ≤ count → Drops a b (count - left) → Drops b c n → IsAtEnd c → IfSome a (λ bytes. length bytes < count)
ended_after a b c count left n none some within f g end =
    let e : count - left + n ≡ count - left = omega (arith, none) in
    ended_in a c count left some within (rw e at (drops-trans a b c (count - left) n f g)) end

pub read_over : (a b : Option (List ℕ)) (buffer : List ℕ) (n : ℕ) → n ≤ length buffer → Consumes a b (take n buffer) → Drops a b n
read_over a b buffer n bound h = drops-consumes a b (take n buffer) n (length-take-le n buffer bound) h
