-- Body lines are read just where they are spelled.
use Rattle.std.proofs.Common.{◌≡◌, ℕ, suc, ◌≤◌, Bool, true, false, ◌&&◌, ◌||◌, ◌⊎◌, inl, inr, List, [], ◌∷◌, ◌++◌, length, Contains, Option, Some, None, Ok, Err, refl, sym, ap, subst, ◌∙◌, arith, true≢false}
use Rattle.std.specs.Prelude.{if◌then◌else◌, ◌==◌, nat_le, nat_lt, pos, codes}
use Rattle.std.specs.List.{list_any, list_all}
use Rattle.std.proofs.lemmas.Int.{ints}
use Rattle.session_laws.specs.jack_types.specs.declared.commands.Command.{Command}
use Rattle.session_laws.specs.jack_types.specs.declared.scripts.Body.{Body}
use Rattle.session_laws.specs.jack_types.specs.declared.scripts.Body.TheVariants.{Do, Run, Freewheel, Lane, Period}
use Rattle.session_laws.specs.jack_types.specs.declared.scripts.Cause.TheVariants.{Words, Choice, Lane as LaneFault}
use Rattle.session_laws.specs.jack_types.specs.declared.scripts.Header.{Header}
use Rattle.session_laws.specs.session_model.specs.Grammar.{Slot, Word, Numeral, FillAll, IsIn, IsPeriod, IsBits, widths, periods, command_slots, body_slots, IsBody, open_segment, last_begun}
use Rattle.session_laws.specs.session_model.specs.Reading.{◌>>=◌, Reader, just, made, whole, number, any_number, ranged, command, period, bits, begun_in, fixed, lane_line, old_lines, has_periods, body_line}
use Rattle.session_laws.proofs.LoopLemmas.{Contains-later, Contains-first, Contains-cases, or_cases, or_left, or_right}
use Rattle.grammar_laws.proofs.GrammarReaders.{bind_ok, if_ok, ok_is, Takes, Takes-join, Takes-split, Takes-all, Takes-from_all, Reads, EachChoice, EachChoice-if, ChoiceTakes, by_word-takes, by_word-again, find-old, bytes-self, just-takes, made-takes, made-again, number-reads, any_number-reads, ranged-ok, ranged-again}
use Rattle.grammar_laws.proofs.GrammarCommands.{command-reads}

-- ---- a number of a list

pub any-contains : (xs : List ℕ) (n : ℕ) → list_any (λ x. x == n) xs ≡ true → Contains xs n
any-contains [] n h = absurd (true≢false (sym h))
any-contains (x ∷ xs) n h = go (or_cases (x == n) (list_any (λ x. x == n) xs) h) (λ k. any-contains xs n k)
  where
    go : ((x == n) ≡ true) ⊎ (list_any (λ x. x == n) xs ≡ true) → (list_any (λ x. x == n) xs ≡ true → Contains xs n) → Contains (x ∷ xs) n
    go (inl same) later = let e : x ≡ n = grind arith in subst (λ (m : ℕ). Contains (x ∷ xs) m) e (Contains-first x xs)
    go (inr k) later = Contains-later x n xs (later k)

pub contains-any : (xs : List ℕ) (n : ℕ) → Contains xs n → list_any (λ x. x == n) xs ≡ true
contains-any [] n h = absurd (omega (arith, h.1))
contains-any (x ∷ xs) n h = go (Contains-cases x n xs h) (λ k. contains-any xs n k)
  where
    go : (x ≡ n) ⊎ Contains xs n → (Contains xs n → list_any (λ x. x == n) xs ≡ true) → ((x == n) || list_any (λ x. x == n) xs) ≡ true
    go (inl same) later = or_left (x == n) (list_any (λ x. x == n) xs) (grind arith)
    go (inr k) later = or_right (x == n) (list_any (λ x. x == n) xs) (later k)

-- what a test says of each number of a list
pub contained : (test : ℕ → Bool) (xs : List ℕ) (n : ℕ) → list_all test xs ≡ true → Contains xs n → test n ≡ true
contained test [] n p h = absurd (omega (arith, h.1))
contained test (x ∷ xs) n p h = go (test x) refl p (Contains-cases x n xs h) (λ q k. contained test xs n q k)
  where
    go : (b : Bool) → test x ≡ b → (b && list_all test xs) ≡ true → (x ≡ n) ⊎ Contains xs n → (list_all test xs ≡ true → Contains xs n → test n ≡ true) → test n ≡ true
    go true e q (inl same) later = ap test (sym same) ∙ e
    go true e q (inr k) later = later q k
    go false e q k later = absurd (true≢false (sym q))

pub period_in : (n : ℕ) → IsPeriod n → IsIn 4 4096 n
period_in n h = let b : (nat_le 4 n && nat_le n 4096) ≡ true = contained (λ x. nat_le 4 x && nat_le x 4096) periods n refl h in grind (arith, b)

period_test : (n : ℕ × List (List ℕ)) → list_any (λ p. p == n.0) periods ≡ true → IsPeriod n.0
period_test n h = any-contains periods n.0 h

pub period-reads : Reads period (λ n. Numeral n ∷ []) IsPeriod
period-reads = record {
  takes = λ words y e.
      let n = bind_ok (number 4 4096 words) _ y e in
      let t = (number-reads 4 4096).takes words n.0 n.1 in
      let i = if_ok (list_any (λ p. p == n.0.0) periods) n.0 y (Choice n.0.0) n.2 in
      subst (λ (y : ℕ × List (List ℕ)). Takes (Numeral y.0 ∷ []) words y.1 × IsPeriod y.0) i.1 (t.0, any-contains periods n.0.0 i.0);
  again = λ words x rest p g. rw ((number-reads 4 4096).again words x rest p (period_in x g), contains-any periods x g) refl;
}

pub bits-reads : Reads bits (λ n. Numeral n ∷ []) IsBits
bits-reads = record {
  takes = λ words y e.
      let n = bind_ok (any_number words) _ y e in
      let t = any_number-reads.takes words n.0 n.1 in
      let i = if_ok (list_any (λ p. p == n.0.0) widths) n.0 y (Choice n.0.0) n.2 in
      subst (λ (y : ℕ × List (List ℕ)). Takes (Numeral y.0 ∷ []) words y.1 × IsBits y.0) i.1 (t.0, any-contains widths n.0.0 i.0);
  again = λ words x rest p g. rw (any_number-reads.again words x rest p tt, contains-any widths x g) refl;
}

-- ---- whole lines

pub whole-ok : {X : Type 0} (y : X × List (List ℕ)) (x : X) → whole y ≡ Ok x → (y.1 ≡ []) × (y.0 ≡ x)
whole-ok {X} y x e = go y.1 refl e
  where
    go : (words : List (List ℕ)) → y.1 ≡ words → (if length words == 0 then Ok y.0 else Err Words) ≡ Ok x → (y.1 ≡ []) × (y.0 ≡ x)
    go [] same h = (same, ok_is y.0 x h)
    go (w ∷ words) same h = let p = if_ok (length (w ∷ words) == 0) y.0 x Words h in absurd (not_none (length words) p.0)
      where
        not_none : (n : ℕ) → (suc n == 0) ≡ true → ⊥
        not_none n k = grind arith

module _ {X : Type 0} {reader : Reader X} {slots : X → List Slot} {IsGood : X → Type 0} (r : Reads reader slots IsGood) where
  pub whole-takes : (words : List (List ℕ)) (x : X) → (reader words >>= whole) ≡ Ok x → FillAll words (slots x) × IsGood x
  whole-takes words x e =
      let y = bind_ok (reader words) _ x e in
      let t = r.takes words y.0 y.1 in
      let w = whole-ok y.0 x y.2 in
      subst (λ (x : X). FillAll words (slots x) × IsGood x) w.1 (Takes-all (slots y.0.0) words (subst (λ (rest : List (List ℕ)). Takes (slots y.0.0) words rest) w.0 t.0), t.1)

  pub whole-again : (words : List (List ℕ)) (x : X) → FillAll words (slots x) → IsGood x → (reader words >>= whole) ≡ Ok x
  whole-again words x p g = rw (r.again words x [] (Takes-from_all (slots x) words p) g) refl

-- ---- lane lines

fixed-reads : (text : List ℕ) → Reads (fixed text) (λ t. Word t ∷ []) (λ t. t ≡ text)
fixed-reads text = record {
  takes = λ words y e. by_word-takes (λ t. Word t ∷ []) (λ t. t ≡ text) ((text, just text) ∷ []) (just-takes (λ t. Word t ∷ []) (λ t. t ≡ text) text text refl refl, tt) words y e;
  again = λ words x rest p g. again words x rest p g;
}
  where
    again : (words : List (List ℕ)) (x : List ℕ) (rest : List (List ℕ)) → Takes (Word x ∷ []) words rest → x ≡ text → fixed text words ≡ Ok (x, rest)
    again words x rest p g =
        by_word-again ((text, just text) ∷ []) text (just text) (rw (bytes-self text) refl) [] words rest _ (subst (λ (t : List ℕ). Takes (Word t ∷ []) words rest) g p) (λ others q. rw (g, q) refl)

-- where a lane's call may stand
abbrev IsBegun : Option ℕ → ℕ → ℕ → Type 0
IsBegun segment before begun = ((cycles : ℕ) × (segment ≡ Some cycles) × (begun ≤ cycles)) × (before ≤ begun)

begun_in-ok : (segment : Option ℕ) (before n y : ℕ) → begun_in segment before n ≡ Ok y → IsBegun segment before n × (n ≡ y)
begun_in-ok None before n y e = absurd cc
begun_in-ok (Some cycles) before n y e =
    let z = bind_ok (ranged (pos 0) (pos cycles) (pos n)) _ y e in
    let r = ranged-ok (pos 0) (pos cycles) (pos n) z.0 z.1 in
    go (nat_lt n before) refl z.2 (omega (arith, ints, r.0.1))
  where
    go : (b : Bool) → nat_lt n before ≡ b → (if b then Err (LaneFault before n) else Ok n) ≡ Ok y → n ≤ cycles → IsBegun (Some cycles) before n × (n ≡ y)
    go true h k le = absurd cc
    go false h k le = (((cycles, refl, le), grind arith), cc)

begun_in-again : (segment : Option ℕ) (before n : ℕ) → IsBegun segment before n → begun_in segment before n ≡ Ok n
begun_in-again None before n h = absurd cc
begun_in-again (Some cycles) before n h =
    let same : cycles ≡ h.0.0 = cc in
    let inside : n ≤ cycles = omega (arith, h.0.2) in
    let late : nat_lt n before ≡ false = grind (arith, h.1) in
    rw (ranged-again (pos 0) (pos cycles) (pos n) (omega (arith, ints), omega (arith, ints, inside)), late) refl

lane_line-takes : (header : Header) (earlier : List Body) → ChoiceTakes body_slots (IsBody header earlier) (codes "lane", lane_line header earlier)
lane_line-takes header earlier = record {
  takes = λ words y e.
      let lane = bind_ok (number 1 4 words) _ y e in
      let at = bind_ok (fixed (codes "at") lane.0.1) _ y lane.2 in
      let n = bind_ok (any_number at.0.1) _ y at.2 in
      let begun = bind_ok (begun_in (open_segment earlier) (last_begun earlier lane.0.0) n.0.0) _ y n.2 in
      let c = bind_ok (command header n.0.1) _ y begun.2 in
      let i = (number-reads 1 4).takes words lane.0 lane.1 in
      let j = (fixed-reads (codes "at")).takes lane.0.1 at.0 at.1 in
      let k = any_number-reads.takes at.0.1 n.0 n.1 in
      let l = (command-reads header).takes n.0.1 c.0 c.1 in
      let b = begun_in-ok (open_segment earlier) (last_begun earlier lane.0.0) n.0.0 begun.0 begun.1 in
      let j2 : Takes (Word (codes "at") ∷ []) lane.0.1 at.0.1 = subst (λ (t : List ℕ). Takes (Word t ∷ []) lane.0.1 at.0.1) j.1 j.0 in
      let two = Takes-join (Numeral n.0.0 ∷ []) (command_slots c.0.0) at.0.1 n.0.1 c.0.1 k.0 l.0 in
      let three = Takes-join (Word (codes "at") ∷ []) (Numeral n.0.0 ∷ command_slots c.0.0) lane.0.1 at.0.1 c.0.1 j2 two in
      let four = Takes-join (Numeral lane.0.0 ∷ []) (Word (codes "at") ∷ Numeral n.0.0 ∷ command_slots c.0.0) words lane.0.1 c.0.1 i.0 three in
      let made : (Lane lane.0.0 n.0.0 c.0.0, c.0.1) ≡ y = ap (λ (m : ℕ). (Lane lane.0.0 m c.0.0, c.0.1)) b.1 ∙ ok_is (Lane lane.0.0 begun.0 c.0.0, c.0.1) y c.2 in
      subst (λ (y : Body × List (List ℕ)). Takes (body_slots y.0) (codes "lane" ∷ words) y.1 × IsBody header earlier y.0) made ((refl, four), (i.1, b.0.0, b.0.1, l.1));
}

lane_line-again : (header : Header) (earlier : List Body) (words rest : List (List ℕ)) (lane begun : ℕ) (c : Command) → Takes (Numeral lane ∷ Word (codes "at") ∷ Numeral begun ∷ command_slots c) words rest → IsBody header earlier (Lane lane begun c) → lane_line header earlier words ≡ Ok (Lane lane begun c, rest)
lane_line-again header earlier words rest lane begun c p g =
    let i = Takes-split (Numeral lane ∷ []) (Word (codes "at") ∷ Numeral begun ∷ command_slots c) words rest p in
    let j = Takes-split (Word (codes "at") ∷ []) (Numeral begun ∷ command_slots c) i.0 rest i.2 in
    let k = Takes-split (Numeral begun ∷ []) (command_slots c) j.0 rest j.2 in
    rw (
      (number-reads 1 4).again words lane i.0 i.1 g.0,
      (fixed-reads (codes "at")).again i.0 (codes "at") j.0 j.1 refl,
      any_number-reads.again j.0 begun k.0 k.1 tt,
      begun_in-again (open_segment earlier) (last_begun earlier lane) begun (g.1, g.2),
      (command-reads header).again k.0 c rest k.2 g.3,
    ) refl

-- ---- body lines

old_lines-take : (header : Header) (earlier : List Body) → EachChoice (ChoiceTakes body_slots (IsBody header earlier)) (old_lines header earlier)
old_lines-take header earlier = (
  made-takes body_slots (IsBody header earlier) (codes "do") (command-reads header) Do (λ a. refl) (λ a g. g),
  (
    made-takes body_slots (IsBody header earlier) (codes "run") (number-reads 1 1000000) Run (λ a. refl) (λ a g. g),
    (
      made-takes body_slots (IsBody header earlier) (codes "freewheel") (number-reads 1 1000000) Freewheel (λ a. refl) (λ a g. g),
      (
        lane_line-takes header earlier,
        tt,
      ),
    ),
  ),
)

no_disks : (header : Header) → has_periods header ≡ true → (2 ≤ header.version) × (header.disks ≡ [])
no_disks header h = go header.disks refl h
  where
    go : (disks : List ℕ) → header.disks ≡ disks → (nat_le 2 header.version && (length disks == 0)) ≡ true → (2 ≤ header.version) × (header.disks ≡ [])
    go [] same k = (grind arith, same)
    go (d ∷ disks) same k = absurd (grind arith)

has_periods-is : (header : Header) → 2 ≤ header.version → header.disks ≡ [] → has_periods header ≡ true
has_periods-is header new none = rw none (grind arith)

abbrev period_line : List (List ℕ × Reader Body)
period_line = (codes "period", made period Period) ∷ []

body_line-takes : (header : Header) (earlier : List Body) (words : List (List ℕ)) (y : Body × List (List ℕ)) → body_line header earlier words ≡ Ok y → Takes (body_slots y.0) words y.1 × IsBody header earlier y.0
body_line-takes header earlier words y e =
    by_word-takes body_slots (IsBody header earlier) (if has_periods header then old_lines header earlier ++ period_line else old_lines header earlier)
    (EachChoice-if (ChoiceTakes body_slots (IsBody header earlier)) (has_periods header) (old_lines header earlier) period_line (old_lines-take header earlier)
    (λ h. (made-takes body_slots (IsBody header earlier) (codes "period") period-reads Period (λ a. refl) (λ a g. let d = no_disks header h in (d.0, d.1, g)), tt))) words y e

body_line-again : (header : Header) (earlier : List Body) (words : List (List ℕ)) (x : Body) (rest : List (List ℕ)) → Takes (body_slots x) words rest → IsBody header earlier x → body_line header earlier words ≡ Ok (x, rest)
body_line-again header earlier words (Do command) rest p g = by_word-again (if has_periods header then old_lines header earlier ++ period_line else old_lines header earlier) (codes "do") _ (find-old (has_periods header) _ (old_lines header earlier) period_line _ refl) (command_slots command) words rest _ p (λ others q. made-again (command-reads header) Do others rest command q g)
body_line-again header earlier words (Run cycles) rest p g = by_word-again (if has_periods header then old_lines header earlier ++ period_line else old_lines header earlier) (codes "run") _ (find-old (has_periods header) _ (old_lines header earlier) period_line _ refl) (Numeral cycles ∷ []) words rest _ p (λ others q. made-again (number-reads 1 1000000) Run others rest cycles q g)
body_line-again header earlier words (Freewheel cycles) rest p g = by_word-again (if has_periods header then old_lines header earlier ++ period_line else old_lines header earlier) (codes "freewheel") _ (find-old (has_periods header) _ (old_lines header earlier) period_line _ refl) (Numeral cycles ∷ []) words rest _ p (λ others q. made-again (number-reads 1 1000000) Freewheel others rest cycles q g)
body_line-again header earlier words (Lane lane begun command) rest p g = by_word-again (if has_periods header then old_lines header earlier ++ period_line else old_lines header earlier) (codes "lane") _ (find-old (has_periods header) _ (old_lines header earlier) period_line _ refl) (Numeral lane ∷ Word (codes "at") ∷ Numeral begun ∷ command_slots command) words rest _ p (λ others q. lane_line-again header earlier others rest lane begun command q g)
body_line-again header earlier words (Period n) rest p g = by_word-again (if has_periods header then old_lines header earlier ++ period_line else old_lines header earlier) (codes "period") _ (rw (has_periods-is header g.0 g.1) refl) (Numeral n ∷ []) words rest _ p (λ others q. made-again period-reads Period others rest n q g.2)

pub body_line-reads : (header : Header) (earlier : List Body) → Reads (body_line header earlier) body_slots (IsBody header earlier)
body_line-reads header earlier = record { takes = λ words y e. body_line-takes header earlier words y e; again = λ words x rest p g. body_line-again header earlier words x rest p g }
