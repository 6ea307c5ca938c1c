-- Different items of a list are no more than the list has.
--     pigeon      so many
--     same_kind      whether two kinds are one, as a test
use Rattle.std.proofs.Common.{◌≡◌, ◌≢◌, ℕ, zero, suc, ◌<◌, ◌≤◌, Bool, true, false, ◌&&◌, ◌==◌, ◌||◌, List, [], ◌∷◌, length, get_or, Contains, ℤ, pos, refl, sym, ◌∙◌, ap, subst, arith, true≢false, eqb-true, eq-eqb, ne_eqb}
use Rattle.std.specs.List.{AllByRecursion, IsDistinct, list_any}
use Rattle.std.specs.Ordering.{int_eq}
use Rattle.std.proofs.lemmas.Bool.Decides.{Decides-int_eq}
use Rattle.std.proofs.lemmas.List.{get_or_default}
use Rattle.std.proofs.lemmas.Map.Steps.{length-le_from_distinct_below}
use Rattle.jack_types.specs.declared.kinds.Kind.{Kind}
use Rattle.jack_types.specs.declared.kinds.Kind.TheVariants.{Pass, Gain, Mix, Delay, Tone, Click, Meter, Tape, Guest, Midiplay, Midithru, Midilog, Disk}
use Rattle.driver_laws.specs.session_laws.proofs.ListLemmas.{Each, Ordered}
use Rattle.driver_laws.specs.session_laws.proofs.LoopLemmas.{and_parts, and_true}

module _ {X : Type 0} (ys : List X) where
  abbrev places : (xs : List X) → Each (Contains ys) xs → List ℕ
  places [] h = []
  places (x ∷ xs) h = h.0.0 ∷ places xs h.1

  length-places : (xs : List X) (h : Each (Contains ys) xs) → length (places xs h) ≡ length xs
  length-places [] h = refl
  length-places (x ∷ xs) h = ap suc (length-places xs h.1)

  places-distinct : (xs : List X) (h : Each (Contains ys) xs) → Ordered (λ a b. a ≢ b) xs → IsDistinct ◌==◌ (places xs h)
  unfolding IsDistinct
  places-distinct [] h k = tt
  places-distinct (x ∷ xs) h k = (each xs h.1 k.0, places-distinct xs h.1 k.1)
    where
      one : (y : X) (m : Contains ys y) → x ≢ y → h.0.0 ≢ m.0
      one y m differ e = differ (sym h.0.2 ∙ ap (λ i. get_or ys i x) e ∙ get_or_default ys m.0 x y m.1 ∙ m.2)

      each : (zs : List X) (m : Each (Contains ys) zs) → Each (λ y. x ≢ y) zs → AllByRecursion (λ n. (h.0.0 == n) ≡ false) (places zs m)
      each [] m d = tt
      each (z ∷ zs) m d = (ne_eqb h.0.0 m.0.0 (one z m.0 d.0), each zs m.1 d.1)

  places-below : (xs : List X) (h : Each (Contains ys) xs) (q : ℕ) → list_any (λ n. q == n) (places xs h) ≡ true → q < length ys
  places-below [] h q e = absurd (true≢false (sym e))
  places-below (x ∷ xs) h q e = go (q == h.0.0) refl e (places-below xs h.1 q)
    where
      go : (b : Bool) → (q == h.0.0) ≡ b → (b || list_any (λ n. q == n) (places xs h.1)) ≡ true → (list_any (λ n. q == n) (places xs h.1) ≡ true → q < length ys) → q < length ys
      go true t k rest = subst (λ n. n < length ys) (sym (eqb-true q h.0.0 t)) h.0.1
      go false t k rest = rest k

  pub pigeon : (xs : List X) → Each (Contains ys) xs → Ordered (λ a b. a ≢ b) xs → length xs ≤ length ys
  pigeon xs h k =
      let few : length (places xs h) ≤ length ys = length-le_from_distinct_below (places xs h) (length ys) (places-distinct xs h k) (places-below xs h) in
      omega (arith, few, length-places xs h)

-- a kind as numbers
record Code : Type 0 where
  tag : ℕ
  number : ℕ
  signed : ℤ

abbrev code : Kind → Code
code Pass = record { tag = 0; number = 0; signed = pos 0 }
code (Gain factor shift) = record { tag = 1; number = shift; signed = factor }
code Mix = record { tag = 2; number = 0; signed = pos 0 }
code (Delay frames) = record { tag = 3; number = frames; signed = pos 0 }
code (Tone half level) = record { tag = 4; number = half; signed = level }
code (Click level) = record { tag = 5; number = 0; signed = level }
code Meter = record { tag = 6; number = 0; signed = pos 0 }
code (Tape recorder) = record { tag = 7; number = recorder; signed = pos 0 }
code (Guest guest) = record { tag = 8; number = guest; signed = pos 0 }
code (Midiplay list) = record { tag = 9; number = list; signed = pos 0 }
code Midithru = record { tag = 10; number = 0; signed = pos 0 }
code Midilog = record { tag = 11; number = 0; signed = pos 0 }
code (Disk disk) = record { tag = 12; number = disk; signed = pos 0 }

abbrev decode : ℕ → ℕ → ℤ → Kind
decode zero n z = Pass
decode (suc zero) n z = Gain z n
decode (suc (suc zero)) n z = Mix
decode (suc (suc (suc zero))) n z = Delay n
decode (suc (suc (suc (suc zero)))) n z = Tone n z
decode (suc (suc (suc (suc (suc zero))))) n z = Click z
decode (suc (suc (suc (suc (suc (suc zero)))))) n z = Meter
decode (suc (suc (suc (suc (suc (suc (suc zero))))))) n z = Tape n
decode (suc (suc (suc (suc (suc (suc (suc (suc zero)))))))) n z = Guest n
decode (suc (suc (suc (suc (suc (suc (suc (suc (suc zero))))))))) n z = Midiplay n
decode (suc (suc (suc (suc (suc (suc (suc (suc (suc (suc zero)))))))))) n z = Midithru
decode (suc (suc (suc (suc (suc (suc (suc (suc (suc (suc (suc zero))))))))))) n z = Midilog
decode _ n z = Disk n

decode-code : (kind : Kind) → decode (code kind).tag (code kind).number (code kind).signed ≡ kind
decode-code Pass = refl
decode-code (Gain factor shift) = refl
decode-code Mix = refl
decode-code (Delay frames) = refl
decode-code (Tone half level) = refl
decode-code (Click level) = refl
decode-code Meter = refl
decode-code (Tape recorder) = refl
decode-code (Guest guest) = refl
decode-code (Midiplay list) = refl
decode-code Midithru = refl
decode-code Midilog = refl
decode-code (Disk disk) = refl

abbrev pub same_kind : Kind → Kind → Bool
same_kind a b = (code a).tag == (code b).tag && ((code a).number == (code b).number && int_eq (code a).signed (code b).signed)

pub same_kind-is : (a b : Kind) → same_kind a b ≡ true → a ≡ b
same_kind-is a b h =
    let first = and_parts ((code a).tag == (code b).tag) ((code a).number == (code b).number && int_eq (code a).signed (code b).signed) h in
    let second = and_parts ((code a).number == (code b).number) (int_eq (code a).signed (code b).signed) first.1 in
    sym (decode-code a)
    ∙ rw (eqb-true (code a).tag (code b).tag first.0, eqb-true (code a).number (code b).number second.0, (Decides-int_eq (code a).signed (code b).signed).0 second.1) refl
    ∙ decode-code b

pub same_kind-itself : (a : Kind) → same_kind a a ≡ true
same_kind-itself a = and_true ((code a).tag == (code a).tag) ((code a).number == (code a).number && int_eq (code a).signed (code a).signed) (eq-eqb (code a).tag (code a).tag refl)
    (and_true ((code a).number == (code a).number) (int_eq (code a).signed (code a).signed) (eq-eqb (code a).number (code a).number refl) ((Decides-int_eq (code a).signed (code a).signed).1 refl))
