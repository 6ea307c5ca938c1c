-- Readers of words: what is read fills its slots, and what fills its slots is read.
use Rattle.std.proofs.Common.{◌≡◌, ℕ, ◌<◌, Bool, true, false, ◌&&◌, cond, inl, inr, List, [], ◌∷◌, ◌++◌, Option, Some, None, Result, Ok, Err, refl, sym, ap, subst, ◌∙◌, arith}
use Rattle.std.specs.Prelude.{if◌then◌else◌, find, ◌==◌, ℤ, pos, ◌-ℤ◌, neg_ℤ, nat_abs, int_le}
use Rattle.std.specs.Str.{bytes_eq}
use Rattle.std.proofs.lemmas.Slice.Eq.{bytes_eq-Decides}
use Rattle.std.proofs.lemmas.Int.{ints}
use Rattle.session_laws.specs.jack_types.specs.Names.{IsClientName, IsPortName, client_name_fault, port_name_fault}
use Rattle.session_laws.specs.jack_types.specs.declared.names.NameFault.{NameFault}
use Rattle.session_laws.specs.jack_types.specs.declared.scripts.Cause.{Cause}
use Rattle.session_laws.specs.jack_types.specs.declared.scripts.Cause.TheVariants.{Number, Range}
use Rattle.session_laws.specs.session_model.specs.Grammar.{Slot, Word, Fixed, Numeral, SignedNumeral, Fills, FillAll, IsIn, IsIntIn, IsNumeral, IsSignedNumeral, is_number, number_value}
use Rattle.session_laws.specs.session_model.specs.Reading.{◌>>=◌, Reader, word, just, by_word, chosen, made, made_of_two, any_number, number, number_up_to, ranged, signed_value, signed_number, or_no_number, name_cause, unless, client, port}

pub bind_ok : {A B E : Type 0} (r : Result A E) (f : A → Result B E) (y : B) → (r >>= f) ≡ Ok y → (x : A) × (r ≡ Ok x) × (f x ≡ Ok y)
bind_ok (Ok x) f y e = (x, refl, e)
bind_ok (Err d) f y e = absurd cc

pub if_ok : {A E : Type 0} (b : Bool) (x y : A) (d : E) → (if b then Ok x else Err d) ≡ Ok y → (b ≡ true) × (x ≡ y)
if_ok true x y d e = (refl, cc)
if_ok false x y d e = absurd cc

abbrev pub done : {A E : Type 0} → A → Result A E
done x = Ok x

pub ok_is : {A E : Type 0} (x y : A) → done {E = E} x ≡ done y → x ≡ y
ok_is x y e = cc

-- the words fill the slots, and then there is the rest
abbrev pub Takes : List Slot → List (List ℕ) → List (List ℕ) → Type 0
Takes [] words rest = words ≡ rest
Takes (slot ∷ slots) [] rest = ⊥
Takes (slot ∷ slots) (word ∷ words) rest = Fills word slot × Takes slots words rest

pub Takes-join : (a b : List Slot) (x y z : List (List ℕ)) → Takes a x y → Takes b y z → Takes (a ++ b) x z
Takes-join [] b x y z p q = subst (λ (w : List (List ℕ)). Takes b w z) (sym p) q
Takes-join (slot ∷ a) b [] y z p q = absurd p
Takes-join (slot ∷ a) b (w ∷ x) y z p q = (p.0, Takes-join a b x y z p.1 q)

pub Takes-split : (a b : List Slot) (x z : List (List ℕ)) → Takes (a ++ b) x z → (y : List (List ℕ)) × Takes a x y × Takes b y z
Takes-split [] b x z p = (x, refl, p)
Takes-split (slot ∷ a) b [] z p = absurd p
Takes-split (slot ∷ a) b (w ∷ x) z p = let q = Takes-split a b x z p.1 in (q.0, (p.0, q.1), q.2)

pub Takes-all : (a : List Slot) (x : List (List ℕ)) → Takes a x [] → FillAll x a
Takes-all [] [] p = tt
Takes-all [] (w ∷ x) p = absurd cc
Takes-all (slot ∷ a) [] p = absurd p
Takes-all (slot ∷ a) (w ∷ x) p = (p.0, Takes-all a x p.1)

pub Takes-from_all : (a : List Slot) (x : List (List ℕ)) → FillAll x a → Takes a x []
Takes-from_all [] [] p = refl
Takes-from_all [] (w ∷ x) p = absurd p
Takes-from_all (slot ∷ a) [] p = absurd p
Takes-from_all (slot ∷ a) (w ∷ x) p = (p.0, Takes-from_all a x p.1)

-- a reader reads just what fills the slots of a good value
pub record Reads {X : Type 0} (reader : Reader X) (slots : X → List Slot) (IsGood : X → Type 0) : Type 0 where
  pub takes : (words : List (List ℕ)) (y : X × List (List ℕ)) → reader words ≡ Ok y → Takes (slots y.0) words y.1 × IsGood y.0
  pub again : (words : List (List ℕ)) (x : X) (rest : List (List ℕ)) → Takes (slots x) words rest → IsGood x → reader words ≡ Ok (x, rest)

pub bytes-same : (a b : List ℕ) → bytes_eq a b ≡ true → a ≡ b
bytes-same a b h = (bytes_eq-Decides a b).0 h

pub bytes-self : (a : List ℕ) → bytes_eq a a ≡ true
bytes-self a = (bytes_eq-Decides a a).1 refl

-- what each choice of a list has
abbrev pub EachChoice : {X : Type 0} → (List ℕ × Reader X → Type 0) → List (List ℕ × Reader X) → Type 0
EachChoice P [] = Unit {0}
EachChoice P (choice ∷ choices) = P choice × EachChoice P choices

pub EachChoice-append : {X : Type 0} (P : List ℕ × Reader X → Type 0) (a b : List (List ℕ × Reader X)) → EachChoice P a → EachChoice P b → EachChoice P (a ++ b)
EachChoice-append P [] b p q = q
EachChoice-append P (choice ∷ a) b p q = (p.0, EachChoice-append P a b p.1 q)

-- what a choice reads behind its word fills the slots with the word
pub record ChoiceTakes {X : Type 0} (slots : X → List Slot) (IsGood : X → Type 0) (choice : List ℕ × Reader X) : Type 0 where
  pub takes : (words : List (List ℕ)) (y : X × List (List ℕ)) → choice.1 words ≡ Ok y → Takes (slots y.0) (choice.0 ∷ words) y.1 × IsGood y.0

pub by_word-takes : {X : Type 0} (slots : X → List Slot) (IsGood : X → Type 0) (choices : List (List ℕ × Reader X)) → EachChoice (ChoiceTakes slots IsGood) choices
    → (words : List (List ℕ)) (y : X × List (List ℕ)) → by_word choices words ≡ Ok y → Takes (slots y.0) words y.1 × IsGood y.0
by_word-takes slots IsGood choices each [] y e = absurd cc
by_word-takes {X} slots IsGood choices each (first ∷ others) y e = find_in choices each e
  where
    at : (c : List ℕ × Reader X) (cs : List (List ℕ × Reader X)) (b : Bool) → bytes_eq first c.0 ≡ b → ChoiceTakes slots IsGood c → (chosen (find (λ choice. bytes_eq first choice.0) cs) others ≡ Ok y → Takes (slots y.0) (first ∷ others) y.1 × IsGood y.0)
        → chosen (cond b (Some c) (find (λ choice. bytes_eq first choice.0) cs)) others ≡ Ok y → Takes (slots y.0) (first ∷ others) y.1 × IsGood y.0
    at c cs true same one later h = subst (λ (name : List ℕ). Takes (slots y.0) (name ∷ others) y.1 × IsGood y.0) (sym (bytes-same first c.0 same)) (one.takes others y h)
    at c cs false same one later h = later h

    find_in : (cs : List (List ℕ × Reader X)) → EachChoice (ChoiceTakes slots IsGood) cs → chosen (find (λ choice. bytes_eq first choice.0) cs) others ≡ Ok y → Takes (slots y.0) (first ∷ others) y.1 × IsGood y.0
    find_in [] p h = absurd cc
    find_in (c ∷ cs) p h = at c cs (bytes_eq first c.0) refl p.0 (λ k. find_in cs p.1 k) h

-- ---- numbers

is_inside : (least most n : ℕ) → (int_le (pos least) (pos n) && int_le (pos n) (pos most)) ≡ true → IsIn least most n
is_inside least most n h = grind arith

inside_is : (least most n : ℕ) → IsIn least most n → (int_le (pos least) (pos n) && int_le (pos n) (pos most)) ≡ true
inside_is least most n h = grind arith

pub any_number-reads : Reads any_number (λ n. Numeral n ∷ []) (λ n. Unit {0})
any_number-reads = record {
  takes = λ words y e. takes words y e;
  again = λ words x rest p g. again words x rest p;
}
  where
    go : (w : List ℕ) (others : List (List ℕ)) (y : ℕ × List (List ℕ)) (b : Bool) → is_number w ≡ b → (if b then Ok (number_value w, others) else Err Number) ≡ Ok y → (IsNumeral w y.0 × (others ≡ y.1)) × Unit {0}
    go w others y true h e = let same : (number_value w, others) ≡ y = ok_is (number_value w, others) y e in ((record { digits = h; value = ap (λ (p : ℕ × List (List ℕ)). p.0) same }, ap (λ (p : ℕ × List (List ℕ)). p.1) same), tt)
    go w others y false h e = absurd cc

    takes : (words : List (List ℕ)) (y : ℕ × List (List ℕ)) → any_number words ≡ Ok y → Takes (Numeral y.0 ∷ []) words y.1 × Unit {0}
    takes [] y e = absurd cc
    takes (w ∷ others) y e = go w others y (is_number w) refl e

    again : (words : List (List ℕ)) (n : ℕ) (rest : List (List ℕ)) → Takes (Numeral n ∷ []) words rest → any_number words ≡ Ok (n, rest)
    again [] n rest p = absurd p
    again (w ∷ others) n rest p = rw (p.0.digits, p.0.value, p.1) refl

pub Reads-good : {X : Type 0} (reader : Reader X) (slots : X → List Slot) (A B : X → Type 0) → ((x : X) → A x → B x) → ((x : X) → B x → A x) → Reads reader slots A → Reads reader slots B
Reads-good reader slots A B f g r = record {
  takes = λ words y e. let t = r.takes words y e in (t.0, f y.0 t.1);
  again = λ words x rest p h. r.again words x rest p (g x h);
}

int_inside : (least most z : ℤ) → (int_le least z && int_le z most) ≡ true → IsIntIn least most z
int_inside least most z h = grind (arith, ints)

int_inside_is : (least most z : ℤ) → IsIntIn least most z → (int_le least z && int_le z most) ≡ true
int_inside_is least most z h = grind (arith, ints)

pub ranged-ok : (least most z y : ℤ) → ranged least most z ≡ Ok y → IsIntIn least most z × (z ≡ y)
ranged-ok least most z y e = let p = if_ok (int_le least z && int_le z most) z y (Range z least most) e in (int_inside least most z p.0, p.1)

pub ranged-again : (least most z : ℤ) → IsIntIn least most z → ranged least most z ≡ Ok z
ranged-again least most z h = rw (int_inside_is least most z h) refl

pub number_up_to-reads : (least most : ℤ) → Reads (number_up_to least most) (λ n. Numeral n ∷ []) (λ n. IsIntIn least most (pos n))
number_up_to-reads least most = record {
  takes = λ words y e.
      let n = bind_ok (any_number words) _ y e in
      let z = bind_ok (ranged least most (pos n.0.0)) _ y n.2 in
      let r = ranged-ok least most (pos n.0.0) z.0 z.1 in
      let t = any_number-reads.takes words n.0 n.1 in
      let same : (n.0.0, n.0.1) ≡ y = ap (λ (z : ℤ). (nat_abs z, n.0.1)) r.1 ∙ ok_is (nat_abs z.0, n.0.1) y z.2 in
      subst (λ (y : ℕ × List (List ℕ)). Takes (Numeral y.0 ∷ []) words y.1 × IsIntIn least most (pos y.0)) same (t.0, r.0);
  again = λ words x rest p g. rw (any_number-reads.again words x rest p tt, ranged-again least most (pos x) g) refl;
}

pub number-reads : (least most : ℕ) → Reads (number least most) (λ n. Numeral n ∷ []) (IsIn least most)
number-reads least most = Reads-good (number least most) (λ n. Numeral n ∷ []) (λ n. IsIntIn (pos least) (pos most) (pos n)) (IsIn least most) (λ n h. (omega (arith, ints, h.0), omega (arith, ints, h.1))) (λ n h. (omega (arith, ints, h.0), omega (arith, ints, h.1))) (number_up_to-reads (pos least) (pos most))

pub place-reads : (count : ℕ) → Reads (number_up_to (pos 0) (pos count -ℤ pos 1)) (λ n. Numeral n ∷ []) (λ n. n < count)
place-reads count = Reads-good (number_up_to (pos 0) (pos count -ℤ pos 1)) (λ n. Numeral n ∷ []) (λ n. IsIntIn (pos 0) (pos count -ℤ pos 1) (pos n)) (λ n. n < count) (λ n h. omega (arith, ints, h.1)) (λ n h. (omega (arith, ints, h), omega (arith, ints, h))) (number_up_to-reads (pos 0) (pos count -ℤ pos 1))

-- ---- names

unless_ok : {X : Type 0} (fault : Option NameFault) (x y : X) → unless (name_cause fault) x ≡ Ok y → (fault ≡ None) × (x ≡ y)
unless_ok None x y e = (refl, cc)
unless_ok (Some fault) x y e = absurd cc

pub client-reads : Reads client (λ name. Fixed name ∷ []) IsClientName
client-reads = record { takes = λ words y e. takes words y e; again = λ words x rest p g. again words x rest p g }
  where
    takes : (words : List (List ℕ)) (y : List ℕ × List (List ℕ)) → client words ≡ Ok y → Takes (Fixed y.0 ∷ []) words y.1 × IsClientName y.0
    takes [] y e = absurd cc
    takes (w ∷ others) y e =
        let name = bind_ok (unless (name_cause (client_name_fault w)) w) _ y e in
        let u = unless_ok (client_name_fault w) w name.0 name.1 in
        let same : (w, others) ≡ y = ap (λ (n : List ℕ). (n, others)) u.1 ∙ ok_is (name.0, others) y name.2 in
        subst (λ (y : List ℕ × List (List ℕ)). Takes (Fixed y.0 ∷ []) (w ∷ others) y.1 × IsClientName y.0) same ((refl, refl), u.0)

    again : (words : List (List ℕ)) (x : List ℕ) (rest : List (List ℕ)) → Takes (Fixed x ∷ []) words rest → IsClientName x → client words ≡ Ok (x, rest)
    again [] x rest p g = absurd p
    again (w ∷ others) x rest p g = rw (p.0, p.1, g) refl

pub port-reads : Reads port (λ name. Fixed name ∷ []) IsPortName
port-reads = record { takes = λ words y e. takes words y e; again = λ words x rest p g. again words x rest p g }
  where
    takes : (words : List (List ℕ)) (y : List ℕ × List (List ℕ)) → port words ≡ Ok y → Takes (Fixed y.0 ∷ []) words y.1 × IsPortName y.0
    takes [] y e = absurd cc
    takes (w ∷ others) y e =
        let name = bind_ok (unless (name_cause (port_name_fault w)) w) _ y e in
        let u = unless_ok (port_name_fault w) w name.0 name.1 in
        let same : (w, others) ≡ y = ap (λ (n : List ℕ). (n, others)) u.1 ∙ ok_is (name.0, others) y name.2 in
        subst (λ (y : List ℕ × List (List ℕ)). Takes (Fixed y.0 ∷ []) (w ∷ others) y.1 × IsPortName y.0) same ((refl, refl), u.0)

    again : (words : List (List ℕ)) (x : List ℕ) (rest : List (List ℕ)) → Takes (Fixed x ∷ []) words rest → IsPortName x → port words ≡ Ok (x, rest)
    again [] x rest p g = absurd p
    again (w ∷ others) x rest p g = rw (p.0, p.1, g) refl

-- ---- numbers with a sign

signed_value-is : (w : List ℕ) (z : ℤ) → signed_value w ≡ Some z → IsSignedNumeral w z
signed_value-is [] z e = absurd cc
signed_value-is (b ∷ digits) z e = go (b == 45) refl e
  where
    minus : (c : Bool) → is_number digits ≡ c → b ≡ 45 → (if c then Some (neg_ℤ (pos (number_value digits))) else None) ≡ Some z → IsSignedNumeral (b ∷ digits) z
    minus true h same k = inr (digits, number_value digits, ap (λ (x : ℕ). x ∷ digits) same, record { digits = h; value = refl }, cc)
    minus false h same k = absurd cc

    plain : (c : Bool) → is_number (b ∷ digits) ≡ c → (if c then Some (pos (number_value (b ∷ digits))) else None) ≡ Some z → IsSignedNumeral (b ∷ digits) z
    plain true h k = inl (number_value (b ∷ digits), record { digits = h; value = refl }, cc)
    plain false h k = absurd cc

    go : (c : Bool) → (b == 45) ≡ c → (if c then (if is_number digits then Some (neg_ℤ (pos (number_value digits))) else None) else if is_number (b ∷ digits) then Some (pos (number_value (b ∷ digits))) else None) ≡ Some z → IsSignedNumeral (b ∷ digits) z
    go true h k = minus (is_number digits) refl (grind arith) k
    go false h k = plain (is_number (b ∷ digits)) refl k

-- a number begins with a digit, and so with no sign
is_number-no_sign : (b : ℕ) (digits : List ℕ) → is_number (b ∷ digits) ≡ true → (b == 45) ≡ false
is_number-no_sign b digits h = grind arith

signed_value-again : (w : List ℕ) (z : ℤ) → IsSignedNumeral w z → signed_value w ≡ Some z
signed_value-again [] z (inl p) = absurd cc
signed_value-again (b ∷ digits) z (inl p) = rw (is_number-no_sign b digits p.1.digits, p.1.digits, p.1.value) (ap (λ (x : ℤ). Some x) (sym p.2))
signed_value-again w z (inr p) = rw (p.2, p.3.digits, p.3.value) (ap (λ (x : ℤ). Some x) (sym p.4))

or_no_number-ok : (o : Option ℤ) (z : ℤ) → or_no_number o ≡ Ok z → o ≡ Some z
or_no_number-ok None z e = absurd cc
or_no_number-ok (Some x) z e = cc

pub signed_number-reads : (least most : ℤ) → Reads (signed_number least most) (λ z. SignedNumeral z ∷ []) (IsIntIn least most)
signed_number-reads least most = record { takes = λ words y e. takes words y e; again = λ words x rest p g. again words x rest p g }
  where
    takes : (words : List (List ℕ)) (y : ℤ × List (List ℕ)) → signed_number least most words ≡ Ok y → Takes (SignedNumeral y.0 ∷ []) words y.1 × IsIntIn least most y.0
    takes [] y e = absurd cc
    takes (w ∷ others) y e =
        let z = bind_ok (or_no_number (signed_value w)) _ y e in
        let inside = bind_ok (ranged least most z.0) _ y z.2 in
        let r = ranged-ok least most z.0 inside.0 inside.1 in
        let same : (z.0, others) ≡ y = ap (λ (n : ℤ). (n, others)) r.1 ∙ ok_is (inside.0, others) y inside.2 in
        let spelled : IsSignedNumeral w z.0 = signed_value-is w z.0 (or_no_number-ok (signed_value w) z.0 z.1) in
        subst (λ (y : ℤ × List (List ℕ)). Takes (SignedNumeral y.0 ∷ []) (w ∷ others) y.1 × IsIntIn least most y.0) same ((spelled, refl), r.0)

    again : (words : List (List ℕ)) (x : ℤ) (rest : List (List ℕ)) → Takes (SignedNumeral x ∷ []) words rest → IsIntIn least most x → signed_number least most words ≡ Ok (x, rest)
    again [] x rest p g = absurd p
    again (w ∷ others) x rest p g = rw (signed_value-again w x p.0, ranged-again least most x g, p.1) refl

-- ---- choices by a word

-- a choice of a list is found, and goes on
pub by_word-again : {X : Type 0} (choices : List (List ℕ × Reader X)) (name : List ℕ) (reader : Reader X) → find (λ choice. bytes_eq name choice.0) choices ≡ Some (name, reader)
    → (slots : List Slot) (words rest : List (List ℕ)) (y : Result (X × List (List ℕ)) Cause) → Takes (Word name ∷ slots) words rest → ((others : List (List ℕ)) → Takes slots others rest → reader others ≡ y) → by_word choices words ≡ y
by_word-again choices name reader found slots [] rest y p e = absurd p
by_word-again choices name reader found slots (w ∷ others) rest y p e = rw (p.0, found) (e others p.1)

find-append : {X : Type 0} (test : X → Bool) (xs ys : List X) (x : X) → find test xs ≡ Some x → find test (xs ++ ys) ≡ Some x
find-append test [] ys x h = absurd cc
find-append {X} test (first ∷ xs) ys x h = go (test first) (λ k. find-append test xs ys x k) h
  where
    go : (b : Bool) → (find test xs ≡ Some x → find test (xs ++ ys) ≡ Some x) → cond b (Some first) (find test xs) ≡ Some x → cond b (Some first) (find test (xs ++ ys)) ≡ Some x
    go true later k = k
    go false later k = later k

-- the choices that a test adds
pub find-old : {X : Type 0} (b : Bool) (test : X → Bool) (xs ys : List X) (x : X) → find test xs ≡ Some x → find test (if b then xs ++ ys else xs) ≡ Some x
find-old true test xs ys x h = find-append test xs ys x h
find-old false test xs ys x h = h

pub EachChoice-if : {X : Type 0} (P : List ℕ × Reader X → Type 0) (b : Bool) (xs ys : List (List ℕ × Reader X)) → EachChoice P xs → (b ≡ true → EachChoice P ys) → EachChoice P (if b then xs ++ ys else xs)
EachChoice-if P true xs ys p q = EachChoice-append P xs ys p (q refl)
EachChoice-if P false xs ys p q = p

module _ {X : Type 0} (slots : X → List Slot) (IsGood : X → Type 0) (name : List ℕ) where
  pub just-takes : (x : X) → slots x ≡ Word name ∷ [] → IsGood x → ChoiceTakes slots IsGood (name, just x)
  just-takes x same good = record { takes = λ words y e. subst (λ (y : X × List (List ℕ)). Takes (slots y.0) (name ∷ words) y.1 × IsGood y.0) (ok_is (x, words) y e) (subst (λ (s : List Slot). Takes s (name ∷ words) words) (sym same) (refl, refl), good) }

  pub made-takes : {A : Type 0} {reader : Reader A} {a_slots : A → List Slot} {a_good : A → Type 0} (r : Reads reader a_slots a_good) (make : A → X) → ((a : A) → slots (make a) ≡ Word name ∷ a_slots a) → ((a : A) → a_good a → IsGood (make a)) → ChoiceTakes slots IsGood (name, made reader make)
  made-takes {A} {reader} {a_slots} {a_good} r make same good = record {
    takes = λ words y e.
        let a = bind_ok (reader words) _ y e in
        let t = r.takes words a.0 a.1 in
        subst (λ (y : X × List (List ℕ)). Takes (slots y.0) (name ∷ words) y.1 × IsGood y.0) (ok_is (make a.0.0, a.0.1) y a.2) (subst (λ (s : List Slot). Takes s (name ∷ words) a.0.1) (sym (same a.0.0)) (refl, t.0), good a.0.0 t.1);
  }

  pub made_of_two-takes : {A B : Type 0} {first : Reader A} {a_slots : A → List Slot} {a_good : A → Type 0} (r : Reads first a_slots a_good) {second : Reader B} {b_slots : B → List Slot} {b_good : B → Type 0} (q : Reads second b_slots b_good)
      → (make : A → B → X) → ((a : A) (b : B) → slots (make a b) ≡ Word name ∷ (a_slots a ++ b_slots b)) → ((a : A) (b : B) → a_good a → b_good b → IsGood (make a b)) → ChoiceTakes slots IsGood (name, made_of_two first second make)
  made_of_two-takes {A} {B} {first} {a_slots} {a_good} r {second} {b_slots} {b_good} q make same good = record {
    takes = λ words y e.
        let a = bind_ok (first words) _ y e in
        let b = bind_ok (second a.0.1) _ y a.2 in
        let t = r.takes words a.0 a.1 in
        let u = q.takes a.0.1 b.0 b.1 in
        subst (λ (y : X × List (List ℕ)). Takes (slots y.0) (name ∷ words) y.1 × IsGood y.0) (ok_is (make a.0.0 b.0.0, b.0.1) y b.2)
        (subst (λ (s : List Slot). Takes s (name ∷ words) b.0.1) (sym (same a.0.0 b.0.0)) (refl, Takes-join (a_slots a.0.0) (b_slots b.0.0) words a.0.1 b.0.1 t.0 u.0), good a.0.0 b.0.0 t.1 u.1);
  }

pub made-again : {A X : Type 0} {reader : Reader A} {a_slots : A → List Slot} {a_good : A → Type 0} (r : Reads reader a_slots a_good) (make : A → X) (words rest : List (List ℕ)) (a : A) → Takes (a_slots a) words rest → a_good a → made reader make words ≡ Ok (make a, rest)
made-again {A} {X} {reader} {a_slots} {a_good} r make words rest a p g = rw (r.again words a rest p g) refl

pub made_of_two-again : {A B X : Type 0} {first : Reader A} {a_slots : A → List Slot} {a_good : A → Type 0} (r : Reads first a_slots a_good) {second : Reader B} {b_slots : B → List Slot} {b_good : B → Type 0} (q : Reads second b_slots b_good)
    → (make : A → B → X) (words rest : List (List ℕ)) (a : A) (b : B) → Takes (a_slots a ++ b_slots b) words rest → a_good a → b_good b → made_of_two first second make words ≡ Ok (make a b, rest)
made_of_two-again {A} {B} {X} {first} {a_slots} {a_good} r {second} {b_slots} {b_good} q make words rest a b p g h =
    let s = Takes-split (a_slots a) (b_slots b) words rest p in
    rw (r.again words a s.0 s.1 g, q.again s.0 b rest s.2 h) refl
