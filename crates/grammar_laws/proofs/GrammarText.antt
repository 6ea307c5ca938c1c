-- The printed script spells the script.
use Rattle.std.proofs.Common.{◌≡◌, ℕ, zero, suc, ◌+◌, ◌*◌, ◌^◌, ◌<◌, ◌≤◌, Bool, true, false, inl, inr, List, [], ◌∷◌, ◌++◌, length, map, filter, Option, Some, None, refl, sym, ap, subst, ◌∙◌, arith}
use Rattle.std.specs.Prelude.{if◌then◌else◌, ◌==◌, codes, flat_map, nat_le, sum_by, slice_index_or}
use Rattle.std.specs.List.{AllByRecursion}
use Rattle.std.proofs.lemmas.List.{append-nil, map-append}
use Rattle.std.proofs.lemmas.List.Concat.{flat_map-append}
use Rattle.std.proofs.lemmas.List.Elements.{All-from_recursion, recursion_from_All, filter-append}
use Rattle.session_laws.specs.jack_types.specs.declared.events.Event.{Event}
use Rattle.session_laws.specs.jack_types.specs.declared.files.Format.{Format}
use Rattle.session_laws.specs.session_model.specs.Events.{event_bytes}
use Rattle.session_laws.specs.session_model.specs.Grammar.{Slot, Word, Fixed, Numeral, SignedNumeral, Hexed, Fills, FillAll, LinesFill, IsIn, IsBits, IsFormat, IsListed, IsScript, IsOptional, AreEvents, Choices, AreChoices, widths, number_slots, mode_slots, recorder_slots, event_slots, body_slots, required_lines, lines_by, printed_choices, script_text, Spells}
use Rattle.session_laws.specs.session_model.specs.Samples.{below}
use Rattle.session_laws.specs.session_model.specs.Scripts.{Script}
use Rattle.session_laws.specs.session_model.specs.Texts.{Line, said}
use Rattle.grammar_laws.proofs.GrammarBodies.{period_in, contained}
use Rattle.grammar_laws.proofs.GrammarEvents.{listed-status}
use Rattle.grammar_laws.proofs.GrammarLists.{Item, list_of, lists_of, lists_of-same, lists_of-count, AreLists, lists-goods, goods-listed}
use Rattle.grammar_laws.proofs.GrammarLoops.{bodies-from}
use Rattle.grammar_laws.proofs.GrammarWords.{IsPlainLine, lines-fill}
use Rattle.grammar_laws.proofs.GrammarWidths.{line_width, total_width, total_width-append, text-width, bodies-plain}

all-append : {X : Type 0} (P : X → Type 0) (a b : List X) → AllByRecursion P a → AllByRecursion P b → AllByRecursion P (a ++ b)
all-append P [] b p q = q
all-append P (x ∷ a) b p q = (p.0, all-append P a b p.1 q)

-- ---- the events, list by list

module _ (events : List (List (ℕ × Event))) where
  abbrev numbered_list : ℕ → List Item
  numbered_list list = map (λ item. (list, item)) (slice_index_or events list [])

  abbrev first_lists : ℕ → List Item
  first_lists n = flat_map numbered_list (below n)

  first_lists-more : (n : ℕ) → first_lists (suc n) ≡ first_lists n ++ numbered_list n
  first_lists-more n = flat_map-append numbered_list (below n) (n ∷ []) ∙ ap (λ (xs : List Item). first_lists n ++ xs) (append-nil (numbered_list n))

  numbered_small : (list most : ℕ) (xs : List (ℕ × Event)) → list < most → AllByRecursion (λ (item : Item). item.0 < most) (map (λ item. (list, item)) xs)
  numbered_small list most [] h = tt
  numbered_small list most (x ∷ xs) h = (h, numbered_small list most xs h)

  first_lists-small : (n most : ℕ) → n ≤ most → AllByRecursion (λ (item : Item). item.0 < most) (first_lists n)
  first_lists-small zero most h = tt
  first_lists-small (suc n) most h =
      subst (λ (xs : List Item). AllByRecursion (λ (item : Item). item.0 < most) xs) (sym (first_lists-more n))
      (all-append (λ (item : Item). item.0 < most) (first_lists n) (numbered_list n) (first_lists-small n most (omega (arith, h))) (numbered_small n most (slice_index_or events n []) (omega (arith, h))))

list_of-append : (list : ℕ) (a b : List Item) → list_of list (a ++ b) ≡ list_of list a ++ list_of list b
list_of-append list a b = ap (λ (xs : List Item). map (λ (item : Item). item.1) xs) (filter-append (λ (item : Item). item.0 == list) a b) ∙ map-append (λ (item : Item). item.1) (filter (λ (item : Item). item.0 == list) a) (filter (λ (item : Item). item.0 == list) b)

list_of-own : (list : ℕ) (xs : List (ℕ × Event)) → list_of list (map (λ item. (list, item)) xs) ≡ xs
list_of-own list [] = refl
list_of-own list (x ∷ xs) = let t : (list == list) ≡ true = same_number list in rw t (ap (λ (ys : List (ℕ × Event)). x ∷ ys) (list_of-own list xs))
  where
    same_number : (n : ℕ) → (n == n) ≡ true
    same_number n = grind arith

list_of-other : (list other : ℕ) (xs : List (ℕ × Event)) → (other == list) ≡ false → list_of list (map (λ item. (other, item)) xs) ≡ []
list_of-other list other [] h = refl
list_of-other list other (x ∷ xs) h = rw h (list_of-other list other xs h)

module _ (events : List (List (ℕ × Event))) where
  past : (n list : ℕ) → n ≤ list → list_of list (first_lists events n) ≡ []
  past zero list h = refl
  past (suc n) list h =
      ap (λ (xs : List Item). list_of list xs) (first_lists-more events n) ∙ list_of-append list (first_lists events n) (numbered_list events n)
      ∙ both (past n list (omega (arith, h))) (list_of-other list n (slice_index_or events n []) (apart n list h))
    where
      apart : (n list : ℕ) → suc n ≤ list → (n == list) ≡ false
      apart n list h = grind arith

      both : {a b : List (ℕ × Event)} → a ≡ [] → b ≡ [] → a ++ b ≡ []
      both p q = rw (p, q) refl

  within : (n list : ℕ) → list < n → list_of list (first_lists events n) ≡ slice_index_or events list []
  within zero list h = absurd (omega (arith, h))
  within (suc n) list h =
      ap (λ (xs : List Item). list_of list xs) (first_lists-more events n) ∙ list_of-append list (first_lists events n) (numbered_list events n)
      ∙ go (n == list) refl (λ lt. within n list lt)
    where
      nil_behind : (a b c : List (ℕ × Event)) → a ≡ c → b ≡ [] → a ++ b ≡ c
      nil_behind a b c p q = rw (p, q) (append-nil c)

      go : (b : Bool) → (n == list) ≡ b → (list < n → list_of list (first_lists events n) ≡ slice_index_or events list []) → list_of list (first_lists events n) ++ list_of list (numbered_list events n) ≡ slice_index_or events list []
      go true e later =
          let same : n ≡ list = grind arith in
          subst (λ (l : ℕ). list_of l (first_lists events n) ++ list_of l (numbered_list events n) ≡ slice_index_or events l []) same (rw (past n n (omega arith), list_of-own n (slice_index_or events n [])) refl)
      go false e later = let lt : list < n = grind arith in nil_behind _ _ _ (later lt) (list_of-other list n (slice_index_or events n []) e)

-- ---- the header's lines

number-plain : (word : List ℕ) (n : ℕ) → IsPlainLine (number_slots word 0) → n < 10 ^ 10 → IsPlainLine (number_slots word n)
number-plain word n p h = ((p.0.0, (h, tt)), p.1)

abbrev nat_le32 : ℕ → Bool
nat_le32 n = nat_le n 32

bits-small : (n : ℕ) → IsBits n → n ≤ 32
bits-small n h = let b : nat_le32 n ≡ true = contained nat_le32 widths n refl h in grind (arith, b)

line-plain : (word : List ℕ) (n : ℕ) → IsPlainLine (number_slots word 0) → n < 10 ^ 10 → AllByRecursion IsPlainLine (number_slots word n ∷ []) × (total_width (number_slots word n ∷ []) ≤ length word + 12)
line-plain word n p h = ((number-plain word n p h, tt), omega arith)

mode-plain : (threads : Option ℕ) (steal : Bool) → ((w : ℕ) → threads ≡ Some w → IsIn 1 16 w) → IsPlainLine (mode_slots threads steal) × (line_width (mode_slots threads steal) ≤ 24)
mode-plain None steal h = ((((omega arith, refl), ((omega arith, refl), tt)), refl), omega arith)
mode-plain (Some w) true h = let i = h w refl in ((((omega arith, refl), ((omega arith, refl), (omega (arith, i), tt))), refl), omega arith)
mode-plain (Some w) false h = let i = h w refl in ((((omega arith, refl), ((omega arith, refl), (omega (arith, i), tt))), refl), omega arith)

formats-plain : (rate : ℕ) (formats : List Format) → AllByRecursion (IsFormat rate) formats → AllByRecursion IsPlainLine (map recorder_slots formats) × (total_width (map recorder_slots formats) ≤ 31 * length formats)
formats-plain rate [] h = (tt, omega arith)
formats-plain rate (format ∷ formats) h =
    let c = h.0.channels in
    let b = bits-small format.bits h.0.bits in
    let later = formats-plain rate formats h.1 in
    (((((omega arith, refl), (omega (arith, c), (omega (arith, b), tt))), refl), later.0), omega (arith, later.1))

disks-plain : (disks : List ℕ) → AllByRecursion (IsIn 1 8) disks → AllByRecursion IsPlainLine (map (number_slots (codes "disk")) disks) × (total_width (map (number_slots (codes "disk")) disks) ≤ 16 * length disks)
disks-plain [] h = (tt, omega arith)
disks-plain (disk ∷ disks) h =
    let c = h.0 in
    let later = disks-plain disks h.1 in
    (((((omega arith, refl), (omega (arith, c), tt)), refl), later.0), omega (arith, later.1))

events-plain : (order : List Item) → AllByRecursion (λ (item : Item). item.0 < 16) order → AllByRecursion (λ (item : Item). IsListed item.1) order → AllByRecursion IsPlainLine (map event_slots order) × (total_width (map event_slots order) ≤ 61 * length order)
events-plain [] p q = (tt, omega arith)
events-plain (item ∷ order) p q =
    let lt = p.0 in
    let listed = q.0 in
    let frame = listed.frame in
    let status = listed-status item.1 listed in
    let least = status.least in
    let most = status.most in
    let later = events-plain order p.1 q.1 in
    (((((omega arith, refl), (omega (arith, lt), (omega (arith, frame), ((least, recursion_from_All (λ b. b < 256) (event_bytes item.1.1) listed.bytes), tt)))), refl), later.0), omega (arith, later.1, most))

-- ---- the whole

printed_order : (script : Script) → IsScript script → AreEvents script (first_lists script.events 16)
printed_order script is = record {
  lists = All-from_recursion (λ (item : Item). item.0 < 16) (first_lists script.events 16) (first_lists-small script.events 16 16 (omega arith));
  each = λ list lt. within script.events 16 list lt;
}

printed-choices : (script : Script) → IsScript script → AreChoices script (printed_choices script)
printed-choices script is = record {
  ring = inl refl;
  drain = inl refl;
  fill = fill (script.header.version == 3) refl;
  old = λ lt. old lt (script.header.version == 3) refl;
  events = printed_order script is;
}
  where
    below_three : (n : ℕ) → IsIn 1 3 n → (n == 3) ≡ false → n < 3
    below_three n h k = let a = h.0 in let b = h.1 in grind arith

    fill : (b : Bool) → (script.header.version == 3) ≡ b → IsOptional (codes "fill") script.header.fill 4 (if b then number_slots (codes "fill") script.header.fill ∷ [] else [])
    fill true e = inl refl
    fill false e = inr (refl, (is.old (below_three script.header.version is.header.version e)).0)

    old : script.header.version < 3 → (b : Bool) → (script.header.version == 3) ≡ b → (if b then number_slots (codes "fill") script.header.fill ∷ [] else []) ≡ []
    old lt true e = absurd (not_three script.header.version lt e)
      where
        not_three : (n : ℕ) → n < 3 → (n == 3) ≡ true → ⊥
        not_three n h e = grind arith
    old lt false e = refl

pub printed : (script : Script) → IsScript script → Spells (script_text script) script
printed script is =
    let h = is.header in
    let order = first_lists script.events 16 in
    let events_are = printed_order script is in
    let lists : AreLists script.events = record { lists = is.lists; listed = is.listed; by_frame = is.by_frame } in
    let goods = goods-listed [] order (lists-goods script.events order lists events_are.lists events_are.each) in
    let few : length order ≤ 4096 = few_lists (lists_of order) script.events (length order) (lists_of-same script.events order is.lists events_are.each) (lists_of-count order goods.0) is.few_events in
    let required = required-plain in
    let ring = line-plain (codes "ring") script.header.ring (((omega arith, refl), (omega arith, tt)), refl) (omega (arith, h.ring)) in
    let drain = line-plain (codes "drain") script.header.drain (((omega arith, refl), (omega arith, tt)), refl) (omega (arith, h.drain)) in
    let fill = fill-plain (script.header.version == 3) in
    let recorders = formats-plain script.header.rate script.header.recorders (recursion_from_All (IsFormat script.header.rate) script.header.recorders h.recorders) in
    let disks = disks-plain script.header.disks (recursion_from_All (IsIn 1 8) script.header.disks h.disks) in
    let events = events-plain order goods.0 goods.1 in
    let bodies = bodies-plain script.header h [] script.lines tt (bodies-from script.header [] script.lines is.lines) in
    let all = join (required_lines script.header) (printed_choices script).ring (printed_choices script).drain (printed_choices script).fill (map recorder_slots script.header.recorders) (map (number_slots (codes "disk")) script.header.disks) (map event_slots order) (map body_slots script.lines)
    required.0 ring.0 drain.0 fill.0 recorders.0 disks.0 events.0 bodies.0 in
    let width = text-width (lines_by script (printed_choices script)) all.0 in
    let sizes = all.1 in (
      size _ _ _ _ _ _ _ _ _ _ _ _ _ _ _ _ width sizes required.1 ring.1 drain.1 fill.1 recorders.1 disks.1 events.1 bodies.1 h.few_recorders h.few_disks few is.few_calls is.few_segments is.few_periods,
      is,
      (printed_choices script, printed-choices script is, lines-fill (lines_by script (printed_choices script)) 1 all.0),
    )
  where
    few_lists : (made given : List (List (ℕ × Event))) (n : ℕ) → made ≡ given → sum_by length made ≡ n → sum_by length given ≤ 4096 → n ≤ 4096
    few_lists made given n same count few = let e = ap (λ (xs : List (List (ℕ × Event))). sum_by length xs) same in omega (arith, e, count, few)

    required-plain : AllByRecursion IsPlainLine (required_lines script.header) × (total_width (required_lines script.header) ≤ 125)
    required-plain =
        let h = is.header in
        let mode = mode-plain script.header.threads script.header.steal h.workers in
        let period = period_in script.header.period h.period in
        let bits = bits-small script.header.bits h.bits in (
          ((
            (((omega arith, refl), (omega (arith, h.version), tt)), refl),
            (
              ((((omega arith, refl), (omega (arith, h.rate), tt)), refl)),
              (
                ((((omega arith, refl), (omega (arith, period), tt)), refl)),
                (
                  ((((omega arith, refl), (omega (arith, h.capture), tt)), refl)),
                  (
                    ((((omega arith, refl), (omega (arith, h.playback), (omega (arith, bits), tt))), refl)),
                    (mode.0, tt),
                  ),
                ),
              ),
            ),
          )),
          omega (arith, mode.1),
        )

    fill-plain : (b : Bool) → AllByRecursion IsPlainLine (if b then number_slots (codes "fill") script.header.fill ∷ [] else []) × (total_width (if b then number_slots (codes "fill") script.header.fill ∷ [] else []) ≤ 16)
    fill-plain true = line-plain (codes "fill") script.header.fill (((omega arith, refl), (omega arith, tt)), refl) (omega (arith, is.header.fill))
    fill-plain false = (tt, omega arith)

    join : (a b c d e f g h : List (List Slot)) → AllByRecursion IsPlainLine a → AllByRecursion IsPlainLine b → AllByRecursion IsPlainLine c → AllByRecursion IsPlainLine d → AllByRecursion IsPlainLine e → AllByRecursion IsPlainLine f → AllByRecursion IsPlainLine g → AllByRecursion IsPlainLine h
        → AllByRecursion IsPlainLine (a ++ b ++ c ++ d ++ e ++ f ++ g ++ h) × (total_width (a ++ b ++ c ++ d ++ e ++ f ++ g ++ h) ≡ total_width a + total_width b + total_width c + total_width d + total_width e + total_width f + total_width g + total_width h)
    join a b c d e f g h pa pb pc pd pe pf pg ph = (
      all-append IsPlainLine (a ++ b ++ c ++ d ++ e ++ f ++ g) h (all-append IsPlainLine (a ++ b ++ c ++ d ++ e ++ f) g (all-append IsPlainLine (a ++ b ++ c ++ d ++ e) f (all-append IsPlainLine (a ++ b ++ c ++ d) e (all-append IsPlainLine (a ++ b ++ c) d (all-append IsPlainLine (a ++ b) c (all-append IsPlainLine a b pa pb) pc) pd) pe) pf) pg) ph,
      omega (arith, total_width-append (a ++ b ++ c ++ d ++ e ++ f ++ g) h, total_width-append (a ++ b ++ c ++ d ++ e ++ f) g, total_width-append (a ++ b ++ c ++ d ++ e) f, total_width-append (a ++ b ++ c ++ d) e, total_width-append (a ++ b ++ c) d, total_width-append (a ++ b) c, total_width-append a b),
    )

    size : (n width a b c d e f g h recorders disks events calls segments periods : ℕ) → n ≤ width → width ≡ a + b + c + d + e + f + g + h → a ≤ 125 → b ≤ 16 → c ≤ 17 → d ≤ 16 → e ≤ 31 * recorders → f ≤ 16 * disks → g ≤ 61 * events → h ≤ 171 * calls + 21 * segments + 18 * periods → recorders ≤ 4 → disks ≤ 4 → events ≤ 4096 → calls ≤ 4096 → segments ≤ 256 → periods ≤ 256 → n ≤ 1048576
    size n width a b c d e f g h recorders disks events calls segments periods p0 p1 p2 p3 p4 p5 p6 p7 p8 p9 q0 q1 q2 q3 q4 q5 = omega arith

-- a script that was read is printed as a text that spells it
pub printed-again : (bytes : List ℕ) (script : Script) → Spells bytes script → Spells (script_text script) script
printed-again bytes script s = printed script s.1
