-- Lines are read just where they are spelled: those of the header, and those of the body one behind the other.
use Rattle.std.proofs.Common.{◌≡◌, ℕ, suc, ◌+◌, ◌<◌, ◌≤◌, Bool, true, false, ◌&&◌, inl, inr, List, [], ◌∷◌, ◌++◌, length, map, Result, Ok, Err, refl, sym, ap, subst, ◌∙◌, arith, append_assoc, true≢false}
use Rattle.std.specs.Prelude.{if◌then◌else◌, nat_le, slice_index_or, drop}
use Rattle.std.specs.Str.{bytes_eq}
use Rattle.std.proofs.lemmas.List.{append-nil, length-append}
use Rattle.session_laws.specs.jack_types.specs.declared.scripts.Cause.{Cause}
use Rattle.session_laws.specs.jack_types.specs.declared.scripts.Cause.TheVariants.{Header as NotHeader, TooMany}
use Rattle.session_laws.specs.jack_types.specs.declared.scripts.Many.{Many}
use Rattle.session_laws.specs.session_model.specs.Grammar.{Slot, Word, Fixed, Numeral, SignedNumeral, Hexed, FillAll, LinesFill, number_slots, IsOptional}
use Rattle.session_laws.specs.session_model.specs.Reading.{◌>>=◌, Reader, whole, at_line, begins, rest_of, required, optional, several}
use Rattle.session_laws.specs.session_model.specs.Texts.{Line}
use Rattle.grammar_laws.proofs.GrammarReaders.{bind_ok, ok_is, Reads, bytes-same, bytes-self}
use Rattle.grammar_laws.proofs.GrammarBodies.{whole-takes, whole-again}

at_line-ok : {X : Type 0} (n : ℕ) (r : Result X Cause) (x : X) → at_line n r ≡ Ok x → r ≡ Ok x
at_line-ok n (Ok y) x e = ap (λ (z : _). Ok z) (ok_is y x e)
at_line-ok n (Err c) x e = absurd cc

-- the lines fill the slots, and then there is the rest
abbrev pub LinesTake : List (List Slot) → List Line → List Line → Type 0
LinesTake [] lines rest = lines ≡ rest
LinesTake (slots ∷ others) [] rest = ⊥
LinesTake (slots ∷ others) (line ∷ lines) rest = FillAll line.words slots × LinesTake others lines rest

pub LinesTake-join : (a b : List (List Slot)) (x y z : List Line) → LinesTake a x y → LinesTake b y z → LinesTake (a ++ b) x z
LinesTake-join [] b x y z p q = subst (λ (w : List Line). LinesTake b w z) (sym p) q
LinesTake-join (slots ∷ a) b [] y z p q = absurd p
LinesTake-join (slots ∷ a) b (w ∷ x) y z p q = (p.0, LinesTake-join a b x y z p.1 q)

pub LinesTake-split : (a b : List (List Slot)) (x z : List Line) → LinesTake (a ++ b) x z → (y : List Line) × LinesTake a x y × LinesTake b y z
LinesTake-split [] b x z p = (x, refl, p)
LinesTake-split (slots ∷ a) b [] z p = absurd p
LinesTake-split (slots ∷ a) b (w ∷ x) z p = let q = LinesTake-split a b x z p.1 in (q.0, (p.0, q.1), q.2)

pub LinesTake-all : (a : List (List Slot)) (x : List Line) → LinesTake a x [] → LinesFill x a
LinesTake-all [] [] p = tt
LinesTake-all [] (w ∷ x) p = absurd cc
LinesTake-all (slots ∷ a) [] p = absurd p
LinesTake-all (slots ∷ a) (w ∷ x) p = (p.0, LinesTake-all a x p.1)

pub LinesTake-from_all : (a : List (List Slot)) (x : List Line) → LinesFill x a → LinesTake a x []
LinesTake-from_all [] [] p = refl
LinesTake-from_all [] (w ∷ x) p = absurd p
LinesTake-from_all (slots ∷ a) [] p = absurd p
LinesTake-from_all (slots ∷ a) (w ∷ x) p = (p.0, LinesTake-from_all a x p.1)

-- ---- first words

-- no line of these begins with the word
abbrev pub HeadApart : List ℕ → List Slot → Type 0
HeadApart name [] = ⊥
HeadApart name (Word text ∷ slots) = bytes_eq text name ≡ false
HeadApart name (Fixed text ∷ slots) = ⊥
HeadApart name (Numeral n ∷ slots) = ⊥
HeadApart name (SignedNumeral z ∷ slots) = ⊥
HeadApart name (Hexed bytes ∷ slots) = ⊥

abbrev pub AllApart : List ℕ → List (List Slot) → Type 0
AllApart name [] = Unit {0}
AllApart name (slots ∷ others) = HeadApart name slots × AllApart name others

pub AllApart-append : (name : List ℕ) (a b : List (List Slot)) → AllApart name a → AllApart name b → AllApart name (a ++ b)
AllApart-append name [] b p q = q
AllApart-append name (slots ∷ a) b p q = (p.0, AllApart-append name a b p.1 q)

pub AllApart-map : {X : Type 0} (name : List ℕ) (slots : X → List Slot) → ((x : X) → HeadApart name (slots x)) → (xs : List X) → AllApart name (map slots xs)
AllApart-map name slots h [] = tt
AllApart-map name slots h (x ∷ xs) = (h x, AllApart-map name slots h xs)

-- the first line of these, if any, does not begin with the word
abbrev pub NotBegun : List ℕ → List Line → Type 0
NotBegun name [] = Unit {0}
NotBegun name (line ∷ lines) = begins name line ≡ false

pub head-apart : (name : List ℕ) (slots : List Slot) (line : Line) → HeadApart name slots → FillAll line.words slots → begins name line ≡ false
head-apart name [] line h p = absurd h
head-apart name (Word text ∷ slots) line h p = go line.words p
  where
    go : (words : List (List ℕ)) → FillAll words (Word text ∷ slots) → bytes_eq (slice_index_or words 0 []) name ≡ false
    go [] q = absurd q
    go (w ∷ words) q = rw q.0 h
head-apart name (Fixed text ∷ slots) line h p = absurd h
head-apart name (Numeral n ∷ slots) line h p = absurd h
head-apart name (SignedNumeral z ∷ slots) line h p = absurd h
head-apart name (Hexed bytes ∷ slots) line h p = absurd h

pub NotBegun-apart : (name : List ℕ) (a : List (List Slot)) (lines : List Line) → AllApart name a → LinesTake a lines [] → NotBegun name lines
NotBegun-apart name [] [] h p = tt
NotBegun-apart name [] (line ∷ lines) h p = absurd cc
NotBegun-apart name (slots ∷ a) [] h p = absurd p
NotBegun-apart name (slots ∷ a) (line ∷ lines) h p = head-apart name slots line h.0 p.0

-- ---- one line with its first word

module _ {X : Type 0} {reader : Reader X} {slots : X → List Slot} {IsGood : X → Type 0} (r : Reads reader slots IsGood) (name : List ℕ) (some : bytes_eq [] name ≡ false) where
  pub line-takes : (line : Line) (x : X) → begins name line ≡ true → rest_of reader line ≡ Ok x → FillAll line.words (Word name ∷ slots x) × IsGood x
  line-takes line x b e = go line.words b (at_line-ok line.number (reader (drop 1 line.words) >>= whole) x e)
    where
      go : (words : List (List ℕ)) → bytes_eq (slice_index_or words 0 []) name ≡ true → (reader (drop 1 words) >>= whole) ≡ Ok x → FillAll words (Word name ∷ slots x) × IsGood x
      go [] c f = absurd (true≢false (sym c ∙ some))
      go (w ∷ words) c f = let t = whole-takes r words x f in ((bytes-same w name c, t.0), t.1)

  pub line-again : (line : Line) (x : X) → FillAll line.words (Word name ∷ slots x) → IsGood x → (begins name line ≡ true) × (rest_of reader line ≡ Ok x)
  line-again line x p g = go line.words p
    where
      go : (words : List (List ℕ)) → FillAll words (Word name ∷ slots x) → (bytes_eq (slice_index_or words 0 []) name ≡ true) × (at_line line.number (reader (drop 1 words) >>= whole) ≡ Ok x)
      go [] q = absurd q
      go (w ∷ words) q = (rw q.0 (bytes-self name), rw (whole-again r words x q.1 g) refl)

  pub required-takes : (end : ℕ) (lines : List Line) (y : X × List Line) → required end name reader lines ≡ Ok y → LinesTake ((Word name ∷ slots y.0) ∷ []) lines y.1 × IsGood y.0
  required-takes end [] y e = absurd cc
  required-takes end (line ∷ lines) y e = go (begins name line) refl e
    where
      go : (b : Bool) → begins name line ≡ b → (if b then (rest_of reader line >>= λ x. Ok (x, lines)) else Err (record { line = line.number; cause = NotHeader })) ≡ Ok y → LinesTake ((Word name ∷ slots y.0) ∷ []) (line ∷ lines) y.1 × IsGood y.0
      go true h k =
          let x = bind_ok (rest_of reader line) _ y k in
          let t = line-takes line x.0 h x.1 in
          subst (λ (y : X × List Line). LinesTake ((Word name ∷ slots y.0) ∷ []) (line ∷ lines) y.1 × IsGood y.0) (ok_is (x.0, lines) y x.2) ((t.0, refl), t.1)
      go false h k = absurd cc

  pub required-again : (end : ℕ) (lines : List Line) (x : X) (rest : List Line) → LinesTake ((Word name ∷ slots x) ∷ []) lines rest → IsGood x → required end name reader lines ≡ Ok (x, rest)
  required-again end [] x rest p g = absurd p
  required-again end (line ∷ lines) x rest p g = let a = line-again line x p.0 g in rw (a.0, a.1, p.1) refl

module _ {reader : Reader ℕ} {IsGood : ℕ → Type 0} (r : Reads reader (λ n. Numeral n ∷ []) IsGood) (name : List ℕ) (some : bytes_eq [] name ≡ false) (usual : ℕ) where
  pub optional-takes : IsGood usual → (lines : List Line) (y : ℕ × List Line) → optional usual name reader lines ≡ Ok y → (read : List (List Slot)) × IsOptional name y.0 usual read × LinesTake read lines y.1 × IsGood y.0
  optional-takes good [] y e = subst (λ (y : ℕ × List Line). (read : List (List Slot)) × IsOptional name y.0 usual read × LinesTake read [] y.1 × IsGood y.0) (ok_is (usual, []) y e) ([], inr (refl, refl), refl, good)
  optional-takes good (line ∷ lines) y e = go (begins name line) refl e
    where
      go : (b : Bool) → begins name line ≡ b → (if b then (rest_of reader line >>= λ n. Ok (n, lines)) else Ok (usual, line ∷ lines)) ≡ Ok y → (read : List (List Slot)) × IsOptional name y.0 usual read × LinesTake read (line ∷ lines) y.1 × IsGood y.0
      go true h k =
          let x = bind_ok (rest_of reader line) _ y k in
          let t = line-takes r name some line x.0 h x.1 in
          subst (λ (y : ℕ × List Line). (read : List (List Slot)) × IsOptional name y.0 usual read × LinesTake read (line ∷ lines) y.1 × IsGood y.0) (ok_is (x.0, lines) y x.2) (number_slots name x.0 ∷ [], inl refl, (t.0, refl), t.1)
      go false h k = subst (λ (y : ℕ × List Line). (read : List (List Slot)) × IsOptional name y.0 usual read × LinesTake read (line ∷ lines) y.1 × IsGood y.0) (ok_is (usual, line ∷ lines) y k) ([], inr (refl, refl), refl, good)

  pub optional-again : (lines : List Line) (n : ℕ) (rest : List Line) (read : List (List Slot)) → IsOptional name n usual read → LinesTake read lines rest → IsGood n → NotBegun name rest → optional usual name reader lines ≡ Ok (n, rest)
  optional-again lines n rest read (inl same) p g none = there lines (subst (λ (s : List (List Slot)). LinesTake s lines rest) same p)
    where
      there : (lines : List Line) → LinesTake (number_slots name n ∷ []) lines rest → optional usual name reader lines ≡ Ok (n, rest)
      there [] q = absurd q
      there (line ∷ lines) q = let a = line-again r name some line n q.0 g in rw (a.0, a.1, q.1) refl
  optional-again lines n rest read (inr same) p g none = let q : lines ≡ rest = subst (λ (s : List (List Slot)). LinesTake s lines rest) same.0 p in rw (q, same.1) (absent rest none)
    where
      absent : (rest : List Line) → NotBegun name rest → optional usual name reader rest ≡ Ok (usual, rest)
      absent [] h = refl
      absent (line ∷ lines) h = rw h refl

-- ---- several lines of one kind

-- each is good behind those before it
abbrev pub Goods : {X : Type 0} → (List X → X → Type 0) → List X → List X → Type 0
Goods IsGood found [] = Unit {0}
Goods IsGood found (x ∷ xs) = IsGood found x × Goods IsGood (found ++ x ∷ []) xs

module _ {X : Type 0} {reader : List X → Reader X} {slots : X → List Slot} {IsGood : List X → X → Type 0} (r : (found : List X) → Reads (reader found) slots (IsGood found)) (name : List ℕ) (some : bytes_eq [] name ≡ false) (what : Many) (most : ℕ) where
  pub several-takes : (found : List X) (lines : List Line) (y : List X × List Line) → length found ≤ most → several what most name reader found lines ≡ Ok y
      → (new : List X) × (y.0 ≡ found ++ new) × LinesTake (map (λ x. Word name ∷ slots x) new) lines y.1 × Goods IsGood found new × (length y.0 ≤ most)
  several-takes found [] y le e = subst (λ (y : List X × List Line). (new : List X) × (y.0 ≡ found ++ new) × LinesTake (map (λ x. Word name ∷ slots x) new) [] y.1 × Goods IsGood found new × (length y.0 ≤ most)) (ok_is (found, []) y e) ([], sym (append-nil found), refl, tt, le)
  several-takes found (line ∷ lines) y le e = go (begins name line) refl (λ x lt k. several-takes (found ++ x ∷ []) lines y (omega (arith, lt, length-append found (x ∷ []))) k) e
    where
      Result_of : List X → Line → Type 0
      Result_of found line = (new : List X) × (y.0 ≡ found ++ new) × LinesTake (map (λ x. Word name ∷ slots x) new) (line ∷ lines) y.1 × Goods IsGood found new × (length y.0 ≤ most)

      room : (x : X) (b : Bool) → nat_le most (length found) ≡ b → (length found < most → several what most name reader (found ++ x ∷ []) lines ≡ Ok y → (new : List X) × (y.0 ≡ (found ++ x ∷ []) ++ new) × LinesTake (map (λ x. Word name ∷ slots x) new) lines y.1 × Goods IsGood (found ++ x ∷ []) new × (length y.0 ≤ most))
          → (if b then Err (record { line = line.number; cause = TooMany what most }) else several what most name reader (found ++ x ∷ []) lines) ≡ Ok y → (new : List X) × (y.0 ≡ (found ++ x ∷ []) ++ new) × LinesTake (map (λ x. Word name ∷ slots x) new) lines y.1 × Goods IsGood (found ++ x ∷ []) new × (length y.0 ≤ most)
      room x true h later k = absurd cc
      room x false h later k = later (grind arith) k

      go : (b : Bool) → begins name line ≡ b
          → ((x : X) → length found < most → several what most name reader (found ++ x ∷ []) lines ≡ Ok y → (new : List X) × (y.0 ≡ (found ++ x ∷ []) ++ new) × LinesTake (map (λ x. Word name ∷ slots x) new) lines y.1 × Goods IsGood (found ++ x ∷ []) new × (length y.0 ≤ most))
          → (if b then (rest_of (reader found) line >>= λ x. if nat_le most (length found) then Err (record { line = line.number; cause = TooMany what most }) else several what most name reader (found ++ x ∷ []) lines) else Ok (found, line ∷ lines)) ≡ Ok y
          → (new : List X) × (y.0 ≡ found ++ new) × LinesTake (map (λ x. Word name ∷ slots x) new) (line ∷ lines) y.1 × Goods IsGood found new × (length y.0 ≤ most)
      go true h later k =
          let x = bind_ok (rest_of (reader found) line) _ y k in
          let t = line-takes (r found) name some line x.0 h x.1 in
          let l = room x.0 (nat_le most (length found)) refl (λ lt k. later x.0 lt k) x.2 in
          (x.0 ∷ l.0, l.1 ∙ append_assoc found (x.0 ∷ []) l.0, (t.0, l.2), (t.1, l.3), l.4)
      go false h later k = subst (λ (y : List X × List Line). (new : List X) × (y.0 ≡ found ++ new) × LinesTake (map (λ x. Word name ∷ slots x) new) (line ∷ lines) y.1 × Goods IsGood found new × (length y.0 ≤ most)) (ok_is (found, line ∷ lines) y k) ([], sym (append-nil found), refl, tt, le)

  pub several-again : (found : List X) (lines : List Line) (new : List X) (rest : List Line) → LinesTake (map (λ x. Word name ∷ slots x) new) lines rest → Goods IsGood found new → length (found ++ new) ≤ most → NotBegun name rest → several what most name reader found lines ≡ Ok (found ++ new, rest)
  several-again found lines [] rest p g le none = rw (p, append-nil found) (absent rest none)
    where
      absent : (rest : List Line) → NotBegun name rest → several what most name reader found rest ≡ Ok (found, rest)
      absent [] h = refl
      absent (line ∷ lines) h = rw h refl
  several-again found [] (x ∷ new) rest p g le none = absurd p
  several-again found (line ∷ lines) (x ∷ new) rest p g le none =
      let a = line-again (r found) name some line x p.0 g.0 in
      let regrouped : (found ++ x ∷ []) ++ new ≡ found ++ x ∷ new = append_assoc found (x ∷ []) new in
      let le2 : length ((found ++ x ∷ []) ++ new) ≤ most = rw regrouped le in
      let room : nat_le most (length found) ≡ false = below (length found) (length new) (omega (arith, le, length-append found (x ∷ new))) in
      let later = several-again (found ++ x ∷ []) lines new rest p.1 g.1 le2 none in
      rw (a.0, a.1, room, later, regrouped) refl
    where
      below : (a b : ℕ) → a + suc b ≤ most → nat_le most a ≡ false
      below a b h = grind arith
