-- The printed script spells the script.
use Rattle.std.proofs.Common.{◌≡◌, ℕ, suc, ◌+◌, ◌*◌, ◌<◌, ◌≤◌, Bool, true, false, not, ◌&&◌, ◌||◌, cond, List, [], ◌∷◌, ◌++◌, length, map, fold, Option, Some, None, refl, sym, subst, arith}
use Rattle.std.specs.Prelude.{if◌then◌else◌, ◌==◌, nat_lt, codes, flat_map, ℤ, pos, negsuc, ◌≤ℤ◌, count_by}
use Rattle.std.specs.List.{prefix_len, list_all, AllByRecursion}
use Rattle.std.proofs.lemmas.Int.{ints}
use Rattle.std.proofs.lemmas.List.{length-append}
use Rattle.std.proofs.lemmas.List.Sums.{sum_by-cons}
use Rattle.std.proofs.lemmas.Fmt.{length-decimal-le_wide}
use Rattle.session_laws.specs.jack_types.specs.Names.{IsClientName, IsPortName, is_name_byte, is_colon, bad_byte, has_one_colon, client_part}
use Rattle.session_laws.specs.jack_types.specs.declared.names.NameFault.{NameFault}
use Rattle.session_laws.specs.jack_types.specs.declared.names.NameFault.TheVariants.{Empty, TooLong, NoColon, BadByte}
use Rattle.session_laws.specs.jack_types.specs.declared.commands.Command.{Command}
use Rattle.session_laws.specs.jack_types.specs.declared.commands.Command.TheVariants.{Open, Close, Activate, Deactivate, Register, Unregister, Connect, Disconnect, Start, Stop, Locate, Timeout, Slow, Timebase, TimebaseIf, Release, Latency}
use Rattle.session_laws.specs.jack_types.specs.declared.kinds.Kind.{Kind}
use Rattle.session_laws.specs.jack_types.specs.declared.kinds.Kind.TheVariants.{Pass, Gain, Mix, Delay, Tone, Click, Meter, Tape, Guest, Midiplay, Midithru, Midilog, Disk}
use Rattle.session_laws.specs.jack_types.specs.declared.ports.Mode.{Mode}
use Rattle.session_laws.specs.jack_types.specs.declared.ports.Mode.TheVariants.{Capture, Playback}
use Rattle.session_laws.specs.jack_types.specs.declared.ports.PortKind.{PortKind}
use Rattle.session_laws.specs.jack_types.specs.declared.ports.PortKind.TheVariants.{Audio, Midi}
use Rattle.session_laws.specs.jack_types.specs.declared.ports.Way.{Way}
use Rattle.session_laws.specs.jack_types.specs.declared.ports.Way.TheVariants.{In, Out}
use Rattle.session_laws.specs.jack_types.specs.declared.scripts.Body.{Body}
use Rattle.session_laws.specs.jack_types.specs.declared.scripts.Body.TheVariants.{Do, Run, Freewheel, Lane, Period}
use Rattle.session_laws.specs.jack_types.specs.declared.scripts.Header.{Header}
use Rattle.session_laws.specs.session_model.specs.Grammar.{Slot, Word, Fixed, Numeral, SignedNumeral, Hexed, IsIntIn, IsKind, IsCommand, IsBody, IsHeader, kind_slots, command_slots, body_slots, way_word, type_word, mode_word, segment_after, open_segment, is_call, is_segment, is_period_line, slot_text}
use Rattle.session_laws.specs.session_model.specs.Reports.{spaced, hex_byte}
use Rattle.session_laws.proofs.LoopLemmas.{and_parts, and_true}
use Rattle.grammar_laws.proofs.GrammarBodies.{period_in}
use Rattle.grammar_laws.proofs.GrammarLoops.{AreBodies}
use Rattle.grammar_laws.proofs.GrammarWords.{is_plain, IsWord, IsPlainSlot, IsPlainLine, line_text}

-- ---- names are words

lawful_all : (lawful : ℕ → Bool) (bytes : List ℕ) → nat_lt (prefix_len (λ b. not (not (lawful b))) bytes) (length bytes) ≡ false → list_all lawful bytes ≡ true
lawful_all lawful [] h = refl
lawful_all lawful (b ∷ bytes) h = go (lawful b) h (λ k. lawful_all lawful bytes k)
  where
    next : (m n : ℕ) → nat_lt (1 + m) (suc n) ≡ false → nat_lt m n ≡ false
    next m n h = grind arith

    first : (n : ℕ) → nat_lt 0 (suc n) ≡ false → ⊥
    first n h = grind arith

    go : (c : Bool) → nat_lt (cond (not (not c)) (1 + prefix_len (λ b. not (not (lawful b))) bytes) 0) (suc (length bytes)) ≡ false → (nat_lt (prefix_len (λ b. not (not (lawful b))) bytes) (length bytes) ≡ false → list_all lawful bytes ≡ true) → (c && list_all lawful bytes) ≡ true
    go true k later = later (next (prefix_len (λ b. not (not (lawful b))) bytes) (length bytes) k)
    go false k later = absurd (first (length bytes) k)

no_bad_byte : (lawful : ℕ → Bool) (bytes : List ℕ) → bad_byte lawful bytes ≡ None → list_all lawful bytes ≡ true
no_bad_byte lawful bytes h = go (nat_lt (prefix_len (λ b. not (not (lawful b))) bytes) (length bytes)) refl h
  where
    fault_at : Option ℕ → Option NameFault
    fault_at None = None
    fault_at (Some place) = Some (BadByte place)

    go : (c : Bool) → nat_lt (prefix_len (λ b. not (not (lawful b))) bytes) (length bytes) ≡ c → fault_at (cond c (Some (prefix_len (λ b. not (not (lawful b))) bytes)) None) ≡ None → list_all lawful bytes ≡ true
    go true e k = absurd (some_none (BadByte (prefix_len (λ b. not (not (lawful b))) bytes)) k)
      where
        some_none : (f : NameFault) → Some f ≡ None → ⊥
        some_none f e = absurd cc
    go false e k = lawful_all lawful bytes e

all_plain : (lawful : ℕ → Bool) → ((b : ℕ) → lawful b ≡ true → 32 < b) → (bytes : List ℕ) → list_all lawful bytes ≡ true → is_plain bytes ≡ true
all_plain lawful h [] p = refl
all_plain lawful h (b ∷ bytes) p = let q = and_parts (lawful b) (list_all lawful bytes) p in and_true (nat_lt 32 b) (is_plain bytes) (large b (h b q.0)) (all_plain lawful h bytes q.1)
  where
    large : (b : ℕ) → 32 < b → nat_lt 32 b ≡ true
    large b h = grind arith

name_byte-large : (b : ℕ) → is_name_byte b ≡ true → 32 < b
name_byte-large b h = grind arith

port_byte-large : (b : ℕ) → (is_name_byte b || is_colon b) ≡ true → 32 < b
port_byte-large b h = grind arith

if_some_none : {C : Type 0} (b : Bool) (c : C) (o : Option C) → (if b then Some c else o) ≡ None → (b ≡ false) × (o ≡ None)
if_some_none true c o e = absurd cc
if_some_none false c o e = (refl, e)

pub client-word : (name : List ℕ) → IsClientName name → IsWord name × (length name ≤ 32)
client-word name h =
    let a = if_some_none (length name == 0) Empty (if nat_lt 32 (length name) then Some TooLong else bad_byte is_name_byte name) h in
    let b = if_some_none (nat_lt 32 (length name)) TooLong (bad_byte is_name_byte name) a.1 in
    ((some (length name) a.0, all_plain is_name_byte name_byte-large name (no_bad_byte is_name_byte name b.1)), few (length name) b.0)
  where
    some : (n : ℕ) → (n == 0) ≡ false → 0 < n
    some n h = grind arith

    few : (n : ℕ) → nat_lt 32 n ≡ false → n ≤ 32
    few n h = grind arith

pub port-word : (name : List ℕ) → IsPortName name → IsWord name × (length name ≤ 64)
port-word name h =
    let lawful : ℕ → Bool = λ b. is_name_byte b || is_colon b in
    let a = if_some_none (length name == 0) Empty _ h in
    let b = if_some_none (nat_lt 64 (length name)) TooLong _ a.1 in
    let c = if_some_none (not (has_one_colon name)) NoColon _ b.1 in
    ((some (length name) a.0, all_plain (λ b. is_name_byte b || is_colon b) port_byte-large name (no_bad_byte (λ b. is_name_byte b || is_colon b) name (first_none (bad_byte (λ b. is_name_byte b || is_colon b) name) (if nat_lt 32 (length (client_part name)) then Some TooLong else None) c.1))), few (length name) b.0)
  where
    some : (n : ℕ) → (n == 0) ≡ false → 0 < n
    some n h = grind arith

    few : (n : ℕ) → nat_lt 64 n ≡ false → n ≤ 64
    few n h = grind arith

    first_of : Option NameFault → Option NameFault → Option NameFault
    first_of None other = other
    first_of (Some fault) _ = Some fault

    first_none : (a b : Option NameFault) → first_of a b ≡ None → a ≡ None
    first_none None b e = refl
    first_none (Some fault) b e = absurd cc

-- ---- how long a line is at most

abbrev pub slot_width : Slot → ℕ
slot_width (Word text) = length text + 1
slot_width (Fixed text) = length text + 1
slot_width (Numeral n) = 11
slot_width (SignedNumeral z) = 12
slot_width (Hexed bytes) = 2 * length bytes + 1

abbrev pub line_width : List Slot → ℕ
line_width [] = 0
line_width (slot ∷ slots) = slot_width slot + line_width slots

slot-width : (slot : Slot) → IsPlainSlot slot → length (slot_text slot) + 1 ≤ slot_width slot
slot-width (Word text) p = omega arith
slot-width (Fixed text) p = omega arith
slot-width (Numeral n) p = let h = length-decimal-le_wide 10 n (omega arith) p (omega (arith, p)) in omega (arith, h)
slot-width (SignedNumeral (pos n)) p = let h = length-decimal-le_wide 10 n (omega arith) (omega (arith, ints, p.1)) (omega (arith, ints, p.1)) in omega (arith, h)
slot-width (SignedNumeral (negsuc n)) p = let h = length-decimal-le_wide 10 (n + 1) (omega arith) (omega (arith, ints, p.0)) (omega (arith, ints, p.0)) in omega (arith, h)
slot-width (Hexed bytes) p = let h = two_each bytes in omega (arith, h)
  where
    two_each : (bytes : List ℕ) → length (flat_map hex_byte bytes) ≡ 2 * length bytes
    two_each [] = refl
    two_each (b ∷ bytes) = let h = two_each bytes in omega (arith, h)

spaced-width : (slot : Slot) (slots : List Slot) → AllByRecursion IsPlainSlot (slot ∷ slots) → length (spaced (map slot_text (slot ∷ slots))) + 1 ≤ line_width (slot ∷ slots)
spaced-width slot [] p = let h = slot-width slot p.0 in omega (arith, h)
spaced-width slot (next ∷ slots) p =
    let h = slot-width slot p.0 in
    let later = spaced-width next slots p.1 in
    let a = length-append (slot_text slot ++ codes " ") (spaced (map slot_text (next ∷ slots))) in
    let b = length-append (slot_text slot) (codes " ") in
    omega (arith, h, later, a, b)

pub line-width : (slots : List Slot) → IsPlainLine slots → length (line_text slots) ≤ line_width slots
line-width [] p = absurd p.1
line-width (slot ∷ slots) p = let h = spaced-width slot slots p.0 in let a = length-append (spaced (map slot_text (slot ∷ slots))) (10 ∷ []) in omega (arith, h, a)

abbrev pub total_width : List (List Slot) → ℕ
total_width [] = 0
total_width (slots ∷ lines) = line_width slots + total_width lines

pub total_width-append : (a b : List (List Slot)) → total_width (a ++ b) ≡ total_width a + total_width b
total_width-append [] b = omega arith
total_width-append (slots ∷ a) b = let h = total_width-append a b in omega (arith, h)

pub text-width : (lines : List (List Slot)) → AllByRecursion IsPlainLine lines → length (flat_map line_text lines) ≤ total_width lines
text-width [] p = omega arith
text-width (slots ∷ lines) p =
    let h = line-width slots p.0 in
    let later = text-width lines p.1 in
    let a = length-append (line_text slots) (flat_map line_text lines) in
    omega (arith, h, later, a)

-- ---- kinds, commands and body lines are of plain words

-- plain slots, and how wide they are at most
abbrev AreWithin : ℕ → List Slot → Type 0
AreWithin most slots = AllByRecursion IsPlainSlot slots × (line_width slots ≤ most)

level_in : (least : ℤ) (z : ℤ) → (negsuc 2147483647 ≤ℤ least) → IsIntIn least (pos 2147483647) z → IsIntIn (negsuc 2147483647) (pos 2147483647) z
level_in least z h p = (omega (arith, ints, h, p.0), p.1)

kind-plain : (header : Header) → IsHeader header → (kind : Kind) → IsKind header kind → AreWithin 36 (kind_slots kind)
kind-plain header h Pass p = (((omega arith, refl), tt), omega arith)
kind-plain header h (Gain factor shift) p = (((omega arith, refl), ((omega (arith, ints, p.0), omega (arith, ints, p.0)), (omega (arith, p.1), tt))), omega arith)
kind-plain header h Mix p = (((omega arith, refl), tt), omega arith)
kind-plain header h (Delay frames) p = (((omega arith, refl), (omega (arith, p), tt)), omega arith)
kind-plain header h (Tone half level) p = (((omega arith, refl), (omega (arith, p.0), ((omega (arith, ints, p.1), p.1.1), tt))), omega arith)
kind-plain header h (Click level) p = (((omega arith, refl), (p, tt)), omega arith)
kind-plain header h Meter p = (((omega arith, refl), tt), omega arith)
kind-plain header h (Tape recorder) p = (((omega arith, refl), (omega (arith, p, h.few_recorders), tt)), omega arith)
kind-plain header h (Guest guest) p = (((omega arith, refl), (omega (arith, p), tt)), omega arith)
kind-plain header h (Midiplay list) p = (((omega arith, refl), (omega (arith, p.1), tt)), omega arith)
kind-plain header h Midithru p = (((omega arith, refl), tt), omega arith)
kind-plain header h Midilog p = (((omega arith, refl), tt), omega arith)
kind-plain header h (Disk disk) p = (((omega arith, refl), (omega (arith, p.1, h.few_disks), tt)), omega arith)

way-plain : (way : Way) → IsWord (way_word way) × (length (way_word way) ≤ 3)
way-plain In = ((omega arith, refl), omega arith)
way-plain Out = ((omega arith, refl), omega arith)

type-plain : (kind : PortKind) → IsWord (type_word kind) × (length (type_word kind) ≤ 5)
type-plain Audio = ((omega arith, refl), omega arith)
type-plain Midi = ((omega arith, refl), omega arith)

mode-plain : (mode : Mode) → IsWord (mode_word mode) × (length (mode_word mode) ≤ 8)
mode-plain Capture = ((omega arith, refl), omega arith)
mode-plain Playback = ((omega arith, refl), omega arith)

command-plain : (header : Header) → IsHeader header → (command : Command) → IsCommand header command → AreWithin 141 (command_slots command)
command-plain header h (Open client kind) p = let w = client-word client p.0 in let k = kind-plain header h kind p.1 in (((omega arith, refl), (w.0, k.0)), omega (arith, w.1, k.1))
command-plain header h (Close client) p = let w = client-word client p in (((omega arith, refl), (w.0, tt)), omega (arith, w.1))
command-plain header h (Activate client) p = let w = client-word client p in (((omega arith, refl), (w.0, tt)), omega (arith, w.1))
command-plain header h (Deactivate client) p = let w = client-word client p in (((omega arith, refl), (w.0, tt)), omega (arith, w.1))
command-plain header h (Register port way kind) p = let w = port-word port p in let a = way-plain way in let b = type-plain kind in (((omega arith, refl), (w.0, (a.0, (b.0, tt)))), omega (arith, w.1, a.1, b.1))
command-plain header h (Unregister port) p = let w = port-word port p in (((omega arith, refl), (w.0, tt)), omega (arith, w.1))
command-plain header h (Connect source destination) p = let w = port-word source p.0 in let v = port-word destination p.1 in (((omega arith, refl), (w.0, (v.0, tt))), omega (arith, w.1, v.1))
command-plain header h (Disconnect source destination) p = let w = port-word source p.0 in let v = port-word destination p.1 in (((omega arith, refl), (w.0, (v.0, tt))), omega (arith, w.1, v.1))
command-plain header h Start p = (((omega arith, refl), tt), omega arith)
command-plain header h Stop p = (((omega arith, refl), tt), omega arith)
command-plain header h (Locate frame) p = (((omega arith, refl), (omega (arith, p), tt)), omega arith)
command-plain header h (Timeout cycles) p = (((omega arith, refl), (omega (arith, p), tt)), omega arith)
command-plain header h (Slow client cycles) p = let w = client-word client p.0 in (((omega arith, refl), (w.0, (omega (arith, p.1), tt))), omega (arith, w.1))
command-plain header h (Timebase client mbpm beats ticks) p = let w = client-word client p.0 in let t = p.1 in (((omega arith, refl), (w.0, (omega (arith, t.mbpm_in), (omega (arith, t.beats_in), (omega (arith, t.ticks_in), tt))))), omega (arith, w.1))
command-plain header h (TimebaseIf client mbpm beats ticks) p = let w = client-word client p.0 in let t = p.1 in (((omega arith, refl), (w.0, (omega (arith, t.mbpm_in), (omega (arith, t.beats_in), (omega (arith, t.ticks_in), tt))))), omega (arith, w.1))
command-plain header h (Release client) p = let w = client-word client p in (((omega arith, refl), (w.0, tt)), omega (arith, w.1))
command-plain header h (Latency mode port) p = let w = port-word port p in let m = mode-plain mode in (((omega arith, refl), (m.0, (w.0, tt))), omega (arith, w.1, m.1))

-- a segment that is open has at most a million cycles
abbrev pub IsSmall : Option ℕ → Type 0
IsSmall None = Unit {0}
IsSmall (Some cycles) = cycles ≤ 1000000

abbrev body_room : Body → ℕ
body_room (Do _) = 171
body_room (Run _) = 21
body_room (Freewheel _) = 21
body_room (Lane _ _ _) = 171
body_room (Period _) = 18

some_small : (o : Option ℕ) (cycles : ℕ) → o ≡ Some cycles → IsSmall o → cycles ≤ 1000000
some_small None cycles e h = absurd cc
some_small (Some c) cycles e h = let same : c ≡ cycles = cc in omega (arith, same, h)

body-plain : (header : Header) → IsHeader header → (earlier : List Body) (body : Body) → IsSmall (open_segment earlier) → IsBody header earlier body → IsPlainLine (body_slots body) × (line_width (body_slots body) ≤ body_room body) × IsSmall (segment_after (open_segment earlier) body)
body-plain header h earlier (Do command) o p = let c = command-plain header h command p in ((((omega arith, refl), c.0), refl), omega (arith, c.1), tt)
body-plain header h earlier (Run cycles) o p = ((((omega arith, refl), (omega (arith, p), tt)), refl), omega arith, p.1)
body-plain header h earlier (Freewheel cycles) o p = ((((omega arith, refl), (omega (arith, p), tt)), refl), omega arith, p.1)
body-plain header h earlier (Lane lane begun command) o p =
    let c = command-plain header h command p.3 in
    let small = some_small (open_segment earlier) p.1.0 p.1.1 o in
    ((((omega arith, refl), (omega (arith, p.0), ((omega arith, refl), (omega (arith, p.1.2, small), c.0)))), refl), omega (arith, c.1), o)
body-plain header h earlier (Period n) o p = let i = period_in n p.2 in ((((omega arith, refl), (omega (arith, i), tt)), refl), omega arith, tt)

pub open_segment-more : (before : Option ℕ) (earlier : List Body) (body : Body) → fold segment_after before (earlier ++ body ∷ []) ≡ segment_after (fold segment_after before earlier) body
open_segment-more before [] body = refl
open_segment-more before (first ∷ earlier) body = open_segment-more (segment_after before first) earlier body

pub bodies-plain : (header : Header) → IsHeader header → (earlier bodies : List Body) → IsSmall (open_segment earlier) → AreBodies header earlier bodies
    → AllByRecursion IsPlainLine (map body_slots bodies) × (total_width (map body_slots bodies) ≤ 171 * count_by is_call bodies + 21 * count_by is_segment bodies + 18 * count_by is_period_line bodies)
bodies-plain header h earlier [] o g = (tt, omega arith)
bodies-plain header h earlier (body ∷ bodies) o g =
    let b = body-plain header h earlier body o g.0 in
    let later = bodies-plain header h (earlier ++ body ∷ []) bodies (subst (λ (s : Option ℕ). IsSmall s) (sym (open_segment-more None earlier body)) b.2) g.1 in
    ((b.0, later.0), room body (line_width (body_slots body)) b.1 later.1)
  where
    room : (body : Body) (width : ℕ) → width ≤ body_room body → total_width (map body_slots bodies) ≤ 171 * count_by is_call bodies + 21 * count_by is_segment bodies + 18 * count_by is_period_line bodies
        → width + total_width (map body_slots bodies) ≤ 171 * count_by is_call (body ∷ bodies) + 21 * count_by is_segment (body ∷ bodies) + 18 * count_by is_period_line (body ∷ bodies)
    room body width le k =
        let a = sum_by-cons (λ (b : Body). cond (is_call b) 1 0) body bodies in
        let b = sum_by-cons (λ (b : Body). cond (is_segment b) 1 0) body bodies in
        let c = sum_by-cons (λ (b : Body). cond (is_period_line b) 1 0) body bodies in
        let d = kinds body in
        omega (arith, a, b, c, d, le, k)
      where
        kinds : (body : Body) → body_room body ≤ 171 * cond (is_call body) 1 0 + 21 * cond (is_segment body) 1 0 + 18 * cond (is_period_line body) 1 0
        kinds (Do command) = omega arith
        kinds (Run cycles) = omega arith
        kinds (Freewheel cycles) = omega arith
        kinds (Lane lane begun command) = omega arith
        kinds (Period n) = omega arith
