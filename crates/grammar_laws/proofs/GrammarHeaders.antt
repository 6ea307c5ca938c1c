-- The header's lines are read just where they are spelled.
use Rattle.std.proofs.Common.{◌≡◌, ℕ, ◌≤◌, Bool, true, false, ◌&&◌, inl, inr, List, [], ◌∷◌, ◌++◌, length, map, All, Option, Some, None, Ok, refl, sym, ap, subst, arith, true≢false}
use Rattle.std.specs.Prelude.{IsTrue, if◌then◌else◌, ◌==◌, ◌≢◌, nat_le, codes}
use Rattle.std.specs.List.{AllByRecursion}
use Rattle.std.specs.Str.{bytes_eq}
use Rattle.std.proofs.lemmas.List.Elements.{All-from_recursion, recursion_from_All}
use Rattle.session_laws.specs.jack_types.specs.declared.files.Format.{Format}
use Rattle.session_laws.specs.jack_types.specs.declared.scripts.Body.{Body}
use Rattle.session_laws.specs.jack_types.specs.declared.scripts.Body.TheVariants.{Do, Run, Freewheel, Lane, Period}
use Rattle.session_laws.specs.jack_types.specs.declared.scripts.Cause.TheVariants.{Choice}
use Rattle.session_laws.specs.jack_types.specs.declared.scripts.Many.TheVariants.{Recorders, Events, Disks}
use Rattle.session_laws.specs.session_model.specs.Grammar.{Slot, Word, Numeral, number_slots, mode_slots, recorder_slots, event_slots, body_slots, IsIn, IsBits, IsFormat, IsOptional}
use Rattle.session_laws.specs.session_model.specs.Reading.{Reader, made, number, any_number, bits, version, old_modes, workers, recorder, channels_and_bits, event, optional, several}
use Rattle.session_laws.specs.session_model.specs.Texts.{Line}
use Rattle.grammar_laws.proofs.GrammarReaders.{bind_ok, if_ok, ok_is, Takes, Takes-join, Takes-split, Reads, Reads-good, EachChoice-if, ChoiceTakes, by_word-takes, by_word-again, find-old, just-takes, made-takes, made-again, number-reads, any_number-reads}
use Rattle.grammar_laws.proofs.GrammarBodies.{bits-reads}
use Rattle.grammar_laws.proofs.GrammarEvents.{IsItem, event-reads}
use Rattle.grammar_laws.proofs.GrammarLines.{LinesTake, HeadApart, AllApart, NotBegun, Goods, optional-takes, optional-again, several-takes, several-again}
use Rattle.grammar_laws.proofs.GrammarLists.{Item}

-- ---- the lines' words

pub version-reads : Reads version (λ n. Numeral n ∷ []) (IsIn 1 3)
version-reads = record {
  takes = λ words y e.
      let n = bind_ok (any_number words) _ y e in
      let t = any_number-reads.takes words n.0 n.1 in
      let i = if_ok (nat_le 1 n.0.0 && nat_le n.0.0 3) n.0 y (Choice n.0.0) n.2 in
      subst (λ (y : ℕ × List (List ℕ)). Takes (Numeral y.0 ∷ []) words y.1 × IsIn 1 3 y.0) i.1 (t.0, tested n.0.0 i.0);
  again = λ words x rest p g. rw (any_number-reads.again words x rest p tt, passes x g) refl;
}
  where
    tested : (n : ℕ) → (nat_le 1 n && nat_le n 3) ≡ true → IsIn 1 3 n
    tested n h = (grind arith, grind arith)

    passes : (n : ℕ) → IsIn 1 3 n → (nat_le 1 n && nat_le n 3) ≡ true
    passes n g = let low = g.0 in let high = g.1 in grind arith

pub channels_and_bits-reads : Reads channels_and_bits (λ x. Numeral x.0 ∷ Numeral x.1 ∷ []) (λ x. IsIn 1 8 x.0 × IsBits x.1)
channels_and_bits-reads = record {
  takes = λ words y e.
      let c = bind_ok (number 1 8 words) _ y e in
      let b = bind_ok (bits c.0.1) _ y c.2 in
      let i = (number-reads 1 8).takes words c.0 c.1 in
      let j = bits-reads.takes c.0.1 b.0 b.1 in
      subst (λ (y : (ℕ × ℕ) × List (List ℕ)). Takes (Numeral y.0.0 ∷ Numeral y.0.1 ∷ []) words y.1 × (IsIn 1 8 y.0.0 × IsBits y.0.1)) (ok_is ((c.0.0, b.0.0), b.0.1) y b.2) (Takes-join (Numeral c.0.0 ∷ []) (Numeral b.0.0 ∷ []) words c.0.1 b.0.1 i.0 j.0, (i.1, j.1));
  again = λ words x rest p g.
      let s = Takes-split (Numeral x.0 ∷ []) (Numeral x.1 ∷ []) words rest p in
      rw ((number-reads 1 8).again words x.0 s.0 s.1 g.0, bits-reads.again s.0 x.1 rest s.2 g.1) refl;
}

abbrev pub format_slots : Format → List Slot
format_slots format = Numeral format.channels ∷ Numeral format.bits ∷ []

pub recorder-reads : (rate : ℕ) (found : List Format) → Reads (recorder rate found) format_slots (IsFormat rate)
recorder-reads rate found = record {
  takes = λ words y e.
      let c = bind_ok (number 1 8 words) _ y e in
      let b = bind_ok (bits c.0.1) _ y c.2 in
      let i = (number-reads 1 8).takes words c.0 c.1 in
      let j = bits-reads.takes c.0.1 b.0 b.1 in
      let format : Format = record { rate = rate; channels = c.0.0; bits = b.0.0 } in
      subst (λ (y : Format × List (List ℕ)). Takes (format_slots y.0) words y.1 × IsFormat rate y.0) (ok_is (format, b.0.1) y b.2) (Takes-join (Numeral c.0.0 ∷ []) (Numeral b.0.0 ∷ []) words c.0.1 b.0.1 i.0 j.0, record { rate_is = refl; channels = i.1; bits = j.1 });
  again = λ words x rest p g.
      let s = Takes-split (Numeral x.channels ∷ []) (Numeral x.bits ∷ []) words rest p in
      let same : record { rate = rate; channels = x.channels; bits = x.bits } ≡ x = ap (λ (r : ℕ). with_rate r x) (sym g.rate_is) in
      rw ((number-reads 1 8).again words x.channels s.0 s.1 g.channels, bits-reads.again s.0 x.bits rest s.2 g.bits) (ap (λ (f : Format). Ok (f, rest)) same);
}
  where
    with_rate : ℕ → Format → Format
    with_rate r x = record { rate = r; channels = x.channels; bits = x.bits }

-- the mode's words
abbrev pub workers_slots : Option ℕ × Bool → List Slot
workers_slots m = slots_by m.0 m.1
  where
    slots_by : Option ℕ → Bool → List Slot
    slots_by None steals = Word (codes "serial") ∷ []
    slots_by (Some workers) steals = Word (if steals then codes "steal" else codes "threads") ∷ Numeral workers ∷ []

pub workers_slots-mode : (threads : Option ℕ) (steal : Bool) → Word (codes "mode") ∷ workers_slots (threads, steal) ≡ mode_slots threads steal
workers_slots-mode None steal = refl
workers_slots-mode (Some workers) steal = refl

pub record IsMode (version : ℕ) (m : Option ℕ × Bool) : Type 0 where
  pub workers : (workers : ℕ) → m.0 ≡ Some workers → IsIn 1 16 workers
  pub stealing : IsTrue m.1 → (version ≡ 3) × (m.0 ≢ None)

none_some : (w : ℕ) → None ≡ Some w → ⊥
none_some w e = absurd cc

some_none : (w : ℕ) → Some w ≡ None → ⊥
some_none w e = absurd cc

some_in : (a w : ℕ) → IsIn 1 16 a → Some a ≡ Some w → IsIn 1 16 w
some_in a w h e = let same : a ≡ w = cc in subst (λ (n : ℕ). IsIn 1 16 n) same h

abbrev steal_mode : List (List ℕ × Reader (Option ℕ × Bool))
steal_mode = (codes "steal", made (number 1 16) (λ workers. (Some workers, true))) ∷ []

workers-again : (version : ℕ) (words : List (List ℕ)) (threads : Option ℕ) (steal : Bool) (rest : List (List ℕ)) → Takes (workers_slots (threads, steal)) words rest → IsMode version (threads, steal) → workers version words ≡ Ok ((threads, steal), rest)
workers-again version words None false rest p g = by_word-again (if version == 3 then old_modes ++ steal_mode else old_modes) (codes "serial") _ (find-old (version == 3) _ old_modes steal_mode _ refl) [] words rest _ p (λ others q. ap (λ (w : List (List ℕ)). Ok ((None, false), w)) q)
workers-again version words None true rest p g = absurd ((g.stealing refl).1 refl)
workers-again version words (Some n) false rest p g = by_word-again (if version == 3 then old_modes ++ steal_mode else old_modes) (codes "threads") _ (find-old (version == 3) _ old_modes steal_mode _ refl) (Numeral n ∷ []) words rest _ p (λ others q. made-again (number-reads 1 16) (λ (w : ℕ). (Some w, false)) others rest n q (g.workers n refl))
workers-again version words (Some n) true rest p g =
    let three = (g.stealing refl).0 in
    let test : (version == 3) ≡ true = grind arith in
    by_word-again (if version == 3 then old_modes ++ steal_mode else old_modes) (codes "steal") _ (rw test refl) (Numeral n ∷ []) words rest _ p (λ others q. made-again (number-reads 1 16) (λ (w : ℕ). (Some w, true)) others rest n q (g.workers n refl))

pub workers-reads : (version : ℕ) → Reads (workers version) workers_slots (IsMode version)
workers-reads version = record {
  takes = λ words y e. by_word-takes workers_slots (IsMode version) (if version == 3 then old_modes ++ steal_mode else old_modes)
      (EachChoice-if (ChoiceTakes workers_slots (IsMode version)) (version == 3) old_modes steal_mode (
        just-takes workers_slots (IsMode version) (codes "serial") (None, false) refl (record { workers = λ w e. absurd (none_some w e); stealing = λ h. absurd (true≢false (sym h)) }),
        (
          made-takes workers_slots (IsMode version) (codes "threads") (number-reads 1 16) (λ (w : ℕ). (Some w, false)) (λ a. refl) (λ a g. record { workers = λ w e. some_in a w g e; stealing = λ h. absurd (true≢false (sym h)) }),
          tt,
        ),
      )
      (λ three. (made-takes workers_slots (IsMode version) (codes "steal") (number-reads 1 16) (λ (w : ℕ). (Some w, true)) (λ a. refl) (λ a g. record { workers = λ w e. some_in a w g e; stealing = λ h. (is_three version three, λ k. some_none a k) }), tt))) words y e;
  again = λ words x rest p g. workers-again version words x.0 x.1 rest p g;
}
  where
    is_three : (n : ℕ) → (n == 3) ≡ true → n ≡ 3
    is_three n h = grind arith

up_to-reads : (most : ℕ) → Reads (number 0 most) (λ n. Numeral n ∷ []) (λ n. n ≤ most)
up_to-reads most = Reads-good (number 0 most) (λ n. Numeral n ∷ []) (IsIn 0 most) (λ n. n ≤ most) (λ n h. h.1) (λ n h. (omega arith, h)) (number-reads 0 most)

-- ---- optional lines

-- what an optional line gave
pub record IsGiven (name : List ℕ) (usual : ℕ) (IsGood : ℕ → Type 0) (lines : List Line) (n : ℕ) (rest : List Line) (read : List (List Slot)) : Type 0 where
  pub choice : IsOptional name n usual read
  pub took : LinesTake read lines rest
  pub good : IsGood n

pub ring-takes : (lines : List Line) (y : ℕ × List Line) → optional 16 (codes "ring") (number 1 64) lines ≡ Ok y → (read : List (List Slot)) × IsGiven (codes "ring") 16 (IsIn 1 64) lines y.0 y.1 read
ring-takes lines y e = let o = optional-takes (number-reads 1 64) (codes "ring") refl 16 (omega arith, omega arith) lines y e in (o.0, record { choice = o.1; took = o.2; good = o.3 })

pub ring-again : (lines : List Line) (n : ℕ) (rest : List Line) (read : List (List Slot)) → IsOptional (codes "ring") n 16 read → LinesTake read lines rest → IsIn 1 64 n → NotBegun (codes "ring") rest → optional 16 (codes "ring") (number 1 64) lines ≡ Ok (n, rest)
ring-again lines n rest read o p g none = optional-again (number-reads 1 64) (codes "ring") refl 16 lines n rest read o p g none

pub drain-takes : (lines : List Line) (y : ℕ × List Line) → optional 4 (codes "drain") (number 0 64) lines ≡ Ok y → (read : List (List Slot)) × IsGiven (codes "drain") 4 (λ n. n ≤ 64) lines y.0 y.1 read
drain-takes lines y e = let o = optional-takes (up_to-reads 64) (codes "drain") refl 4 (omega arith) lines y e in (o.0, record { choice = o.1; took = o.2; good = o.3 })

pub drain-again : (lines : List Line) (n : ℕ) (rest : List Line) (read : List (List Slot)) → IsOptional (codes "drain") n 4 read → LinesTake read lines rest → n ≤ 64 → NotBegun (codes "drain") rest → optional 4 (codes "drain") (number 0 64) lines ≡ Ok (n, rest)
drain-again lines n rest read o p g none = optional-again (up_to-reads 64) (codes "drain") refl 4 lines n rest read o p g none

pub fill-takes : (new : Bool) (lines : List Line) (y : ℕ × List Line) → (if new then optional 4 (codes "fill") (number 0 64) lines else Ok (4, lines)) ≡ Ok y → (read : List (List Slot)) × IsGiven (codes "fill") 4 (λ n. n ≤ 64) lines y.0 y.1 read × (new ≡ false → (read ≡ []) × (y.0 ≡ 4))
fill-takes true lines y e = let o = optional-takes (up_to-reads 64) (codes "fill") refl 4 (omega arith) lines y e in (o.0, record { choice = o.1; took = o.2; good = o.3 }, λ h. absurd (true≢false h))
fill-takes false lines y e = subst (λ (y : ℕ × List Line). (read : List (List Slot)) × IsGiven (codes "fill") 4 (λ n. n ≤ 64) lines y.0 y.1 read × (false ≡ false → (read ≡ []) × (y.0 ≡ 4))) (ok_is (4, lines) y e) ([], record { choice = inr (refl, refl); took = refl; good = omega arith }, λ h. (refl, refl))

pub fill-again : (new : Bool) (lines : List Line) (n : ℕ) (rest : List Line) (read : List (List Slot)) → IsOptional (codes "fill") n 4 read → LinesTake read lines rest → n ≤ 64 → NotBegun (codes "fill") rest → (new ≡ false → (read ≡ []) × (n ≡ 4)) → (if new then optional 4 (codes "fill") (number 0 64) lines else Ok (4, lines)) ≡ Ok (n, rest)
fill-again true lines n rest read o p g none old = optional-again (up_to-reads 64) (codes "fill") refl 4 lines n rest read o p g none
fill-again false lines n rest read o p g none old =
    let q : lines ≡ rest = subst (λ (s : List (List Slot)). LinesTake s lines rest) (old refl).0 p in
    let four : n ≡ 4 = (old refl).1 in
    rw (q, four) refl

-- ---- several lines

goods-each : {X : Type 0} (P : X → Type 0) (found new : List X) → Goods (λ found. P) found new → AllByRecursion P new
goods-each P found [] g = tt
goods-each P found (x ∷ new) g = (g.0, goods-each P (found ++ x ∷ []) new g.1)

each-goods : {X : Type 0} (P : X → Type 0) (found new : List X) → AllByRecursion P new → Goods (λ found. P) found new
each-goods P found [] g = tt
each-goods P found (x ∷ new) g = (g.0, each-goods P (found ++ x ∷ []) new g.1)

pub recorders-take : (rate : ℕ) (lines : List Line) (y : List Format × List Line) → several Recorders 4 (codes "recorder") (recorder rate) [] lines ≡ Ok y → LinesTake (map recorder_slots y.0) lines y.1 × All (IsFormat rate) y.0 × (length y.0 ≤ 4)
recorders-take rate lines y e =
    let s = several-takes (recorder-reads rate) (codes "recorder") refl Recorders 4 [] lines y (omega arith) e in
    (subst (λ (xs : List Format). LinesTake (map recorder_slots xs) lines y.1) (sym s.1) s.2, subst (λ (xs : List Format). All (IsFormat rate) xs) (sym s.1) (All-from_recursion (IsFormat rate) s.0 (goods-each (IsFormat rate) [] s.0 s.3)), s.4)

pub recorders-again : (rate : ℕ) (lines : List Line) (new : List Format) (rest : List Line) → LinesTake (map recorder_slots new) lines rest → All (IsFormat rate) new → length new ≤ 4 → NotBegun (codes "recorder") rest → several Recorders 4 (codes "recorder") (recorder rate) [] lines ≡ Ok (new, rest)
recorders-again rate lines new rest p g le none = several-again (recorder-reads rate) (codes "recorder") refl Recorders 4 [] lines new rest p (each-goods (IsFormat rate) [] new (recursion_from_All (IsFormat rate) new g)) le none

pub disks-take : (new : Bool) (lines : List Line) (y : List ℕ × List Line) → (if new then several Disks 4 (codes "disk") (λ found. number 1 8) [] lines else Ok ([], lines)) ≡ Ok y → LinesTake (map (number_slots (codes "disk")) y.0) lines y.1 × All (IsIn 1 8) y.0 × (length y.0 ≤ 4) × (new ≡ false → y.0 ≡ [])
disks-take true lines y e =
    let s = several-takes {IsGood = λ found. IsIn 1 8} (λ found. number-reads 1 8) (codes "disk") refl Disks 4 [] lines y (omega arith) e in
    (subst (λ (xs : List ℕ). LinesTake (map (number_slots (codes "disk")) xs) lines y.1) (sym s.1) s.2, subst (λ (xs : List ℕ). All (IsIn 1 8) xs) (sym s.1) (All-from_recursion (IsIn 1 8) s.0 (goods-each (IsIn 1 8) [] s.0 s.3)), s.4, λ h. absurd (true≢false h))
disks-take false lines y e = subst (λ (y : List ℕ × List Line). LinesTake (map (number_slots (codes "disk")) y.0) lines y.1 × All (IsIn 1 8) y.0 × (length y.0 ≤ 4) × (false ≡ false → y.0 ≡ [])) (ok_is ([], lines) y e) (refl, All-from_recursion (IsIn 1 8) [] tt, omega arith, λ h. refl)

pub disks-again : (new : Bool) (lines : List Line) (disks : List ℕ) (rest : List Line) → LinesTake (map (number_slots (codes "disk")) disks) lines rest → All (IsIn 1 8) disks → length disks ≤ 4 → NotBegun (codes "disk") rest → (new ≡ false → disks ≡ []) → (if new then several Disks 4 (codes "disk") (λ found. number 1 8) [] lines else Ok ([], lines)) ≡ Ok (disks, rest)
disks-again true lines disks rest p g le none old = several-again {IsGood = λ found. IsIn 1 8} (λ found. number-reads 1 8) (codes "disk") refl Disks 4 [] lines disks rest p (each-goods (IsIn 1 8) [] disks (recursion_from_All (IsIn 1 8) disks g)) le none
disks-again false lines disks rest p g le none old =
    let empty : disks ≡ [] = old refl in
    let q : lines ≡ rest = subst (λ (xs : List ℕ). LinesTake (map (number_slots (codes "disk")) xs) lines rest) empty p in
    rw (q, empty) refl

pub events-take : (new : Bool) (lines : List Line) (y : List Item × List Line) → (if new then several Events 4096 (codes "event") event [] lines else Ok ([], lines)) ≡ Ok y → LinesTake (map event_slots y.0) lines y.1 × Goods IsItem [] y.0 × (length y.0 ≤ 4096) × (new ≡ false → y.0 ≡ [])
events-take true lines y e =
    let s = several-takes event-reads (codes "event") refl Events 4096 [] lines y (omega arith) e in
    (subst (λ (xs : List Item). LinesTake (map event_slots xs) lines y.1) (sym s.1) s.2, subst (λ (xs : List Item). Goods IsItem [] xs) (sym s.1) s.3, s.4, λ h. absurd (true≢false h))
events-take false lines y e = subst (λ (y : List Item × List Line). LinesTake (map event_slots y.0) lines y.1 × Goods IsItem [] y.0 × (length y.0 ≤ 4096) × (false ≡ false → y.0 ≡ [])) (ok_is ([], lines) y e) (refl, tt, omega arith, λ h. refl)

pub events-again : (new : Bool) (lines : List Line) (order : List Item) (rest : List Line) → LinesTake (map event_slots order) lines rest → Goods IsItem [] order → length order ≤ 4096 → NotBegun (codes "event") rest → (new ≡ false → order ≡ []) → (if new then several Events 4096 (codes "event") event [] lines else Ok ([], lines)) ≡ Ok (order, rest)
events-again true lines order rest p g le none old = several-again event-reads (codes "event") refl Events 4096 [] lines order rest p g le none
events-again false lines order rest p g le none old =
    let empty : order ≡ [] = old refl in
    let q : lines ≡ rest = subst (λ (xs : List Item). LinesTake (map event_slots xs) lines rest) empty p in
    rw (q, empty) refl

-- ---- first words apart

pub optional-apart : (name word : List ℕ) (n usual : ℕ) (read : List (List Slot)) → bytes_eq word name ≡ false → IsOptional word n usual read → AllApart name read
optional-apart name word n usual read h (inl same) = subst (λ (s : List (List Slot)). AllApart name s) (sym same) (h, tt)
optional-apart name word n usual read h (inr same) = subst (λ (s : List (List Slot)). AllApart name s) (sym same.0) tt

pub record ApartFromBody (name : List ℕ) : Type 0 where
  pub dos : bytes_eq (codes "do") name ≡ false
  pub run : bytes_eq (codes "run") name ≡ false
  pub freewheel : bytes_eq (codes "freewheel") name ≡ false
  pub lane : bytes_eq (codes "lane") name ≡ false
  pub period : bytes_eq (codes "period") name ≡ false

pub body-apart : (name : List ℕ) → ApartFromBody name → (body : Body) → HeadApart name (body_slots body)
body-apart name h (Do command) = h.dos
body-apart name h (Run cycles) = h.run
body-apart name h (Freewheel cycles) = h.freewheel
body-apart name h (Lane lane begun command) = h.lane
body-apart name h (Period period) = h.period
