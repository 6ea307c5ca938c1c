-- What is read is spelled so, and what is spelled so is read.
use Rattle.std.proofs.Common.{◌≡◌, ℕ, ◌<◌, ◌≤◌, Bool, true, false, ◌⊎◌, ◌↔◌, inl, inr, List, [], ◌∷◌, ◌++◌, length, map, All, Option, Result, Ok, Err, refl, sym, ap, subst, ◌∙◌, arith}
use Rattle.std.specs.Prelude.{if◌then◌else◌, ◌==◌, nat_lt, codes, sum_by, slice_index_or}
use Rattle.std.specs.List.{AllByRecursion}
use Rattle.std.specs.Str.{bytes_eq}
use Rattle.std.proofs.lemmas.List.Elements.{All-from_recursion, recursion_from_All}
use Rattle.session_laws.specs.jack_types.specs.declared.events.Event.{Event}
use Rattle.session_laws.specs.jack_types.specs.declared.files.Format.{Format}
use Rattle.session_laws.specs.jack_types.specs.declared.scripts.Body.{Body}
use Rattle.session_laws.specs.jack_types.specs.declared.scripts.Cause.TheVariants.{TooLong}
use Rattle.session_laws.specs.jack_types.specs.declared.scripts.Header.{Header}
use Rattle.session_laws.specs.jack_types.specs.declared.scripts.Many.TheVariants.{Recorders, Events, Disks}
use Rattle.session_laws.specs.jack_types.specs.declared.scripts.ScriptFault.{ScriptFault}
use Rattle.session_laws.specs.session_model.specs.Grammar.{Slot, Word, Numeral, LinesFill, number_slots, mode_slots, recorder_slots, event_slots, body_slots, required_lines, IsIn, AreEvents, Choices, AreChoices, lines_by, IsHeader, IsScript, Spells}
use Rattle.session_laws.specs.session_model.specs.Reading.{◌>>=◌, required, optional, several, version, number, period, channels_and_bits, workers, recorder, event, body_lines, script_of_lines, script_of, fault_of}
use Rattle.session_laws.specs.session_model.specs.Scripts.{Script}
use Rattle.session_laws.specs.session_model.specs.Texts.{Line, said, line_after}
use Rattle.grammar_laws.proofs.GrammarReaders.{ok_is, number-reads}
use Rattle.grammar_laws.proofs.GrammarBodies.{period-reads}
use Rattle.grammar_laws.proofs.GrammarEvents.{IsItem}
use Rattle.grammar_laws.proofs.GrammarLimits.{Limits, Limits-none}
use Rattle.grammar_laws.proofs.GrammarLines.{Goods, LinesTake, LinesTake-join, LinesTake-split, LinesTake-all, LinesTake-from_all, AllApart, AllApart-append, AllApart-map, NotBegun-apart, required-takes, required-again}
use Rattle.grammar_laws.proofs.GrammarLists.{Item, list_of, lists_of, lists_of-at, lists_of-same, lists_of-count, All-lists_of, AreLists, goods-lists, goods-listed, lists-goods, no_lists-no_order}
use Rattle.grammar_laws.proofs.GrammarLoops.{AreBodies, body_lines-take, body_lines-again, bodies-at, bodies-from}
use Rattle.grammar_laws.proofs.GrammarHeaders.{version-reads, channels_and_bits-reads, workers-reads, workers_slots, workers_slots-mode, IsMode, ring-takes, ring-again, drain-takes, drain-again, fill-takes, fill-again, recorders-take, recorders-again, disks-take, disks-again, events-take, events-again, optional-apart, ApartFromBody, body-apart}
use Rattle.grammar_laws.specs.Spellings.{HasScript, HasScriptFault}

not_three : (n : ℕ) → n < 3 → (n == 3) ≡ false
not_three n h = grind arith

old_version : (n : ℕ) → IsIn 1 3 n → (n == 3) ≡ false → n < 3
old_version n h k = let a = h.0 in let b = h.1 in grind arith

-- ---- what is read is spelled so

bind_case : {A B E G : Type 0} (r : Result A E) (f : A → Result B E) (y : B) → (r >>= f) ≡ Ok y → ((x : A) → r ≡ Ok x → f x ≡ Ok y → G) → G
bind_case (Ok x) f y e g = g x refl e
bind_case (Err d) f y e g = absurd (failed d y e)
  where
    failed : {B E : Type 0} (d : E) (y : B) → Err d ≡ Ok y → ⊥
    failed d y e = absurd cc

abbrev header_of : ℕ → ℕ → ℕ → ℕ → ℕ × ℕ → Option ℕ × Bool → ℕ → ℕ → ℕ → List Format → List ℕ → Header
header_of version rate period capture playback m ring drain fill recorders disks = record { version = version; rate = rate; period = period; capture = capture; playback = playback.0; bits = playback.1; threads = m.0; steal = m.1; ring = ring; drain = drain; fill = fill; recorders = recorders; disks = disks }

bind_again : {A B E : Type 0} (f : A → Result B E) {r : Result A E} {x : A} {y : Result B E} → r ≡ Ok x → f x ≡ y → (r >>= f) ≡ y
bind_again f e h = rw e h

-- the parts of a script's lines, joined and split
join_parts : (a b c d e f g h : List (List Slot)) (l0 l1 l2 l3 l4 l5 l6 l7 : List Line) → LinesTake a l0 l1 → LinesTake b l1 l2 → LinesTake c l2 l3 → LinesTake d l3 l4 → LinesTake e l4 l5 → LinesTake f l5 l6 → LinesTake g l6 l7 → LinesTake h l7 []
    → LinesTake (a ++ b ++ c ++ d ++ e ++ f ++ g ++ h) l0 []
join_parts a b c d e f g h l0 l1 l2 l3 l4 l5 l6 l7 pa pb pc pd pe pf pg ph =
    LinesTake-join (a ++ b ++ c ++ d ++ e ++ f ++ g) h l0 l7 [] (
    LinesTake-join (a ++ b ++ c ++ d ++ e ++ f) g l0 l6 l7 (
    LinesTake-join (a ++ b ++ c ++ d ++ e) f l0 l5 l6 (
    LinesTake-join (a ++ b ++ c ++ d) e l0 l4 l5 (
    LinesTake-join (a ++ b ++ c) d l0 l3 l4 (
    LinesTake-join (a ++ b) c l0 l2 l3 (
    LinesTake-join a b l0 l1 l2 pa pb) pc) pd) pe) pf) pg) ph

join_six : (a b c d e f : List Slot) (l0 l1 l2 l3 l4 l5 l6 : List Line) → LinesTake (a ∷ []) l0 l1 → LinesTake (b ∷ []) l1 l2 → LinesTake (c ∷ []) l2 l3 → LinesTake (d ∷ []) l3 l4 → LinesTake (e ∷ []) l4 l5 → LinesTake (f ∷ []) l5 l6 → LinesTake (a ∷ b ∷ c ∷ d ∷ e ∷ f ∷ []) l0 l6
join_six a b c d e f l0 l1 l2 l3 l4 l5 l6 pa pb pc pd pe pf =
    LinesTake-join (a ∷ []) (b ∷ c ∷ d ∷ e ∷ f ∷ []) l0 l1 l6 pa (
    LinesTake-join (b ∷ []) (c ∷ d ∷ e ∷ f ∷ []) l1 l2 l6 pb (
    LinesTake-join (c ∷ []) (d ∷ e ∷ f ∷ []) l2 l3 l6 pc (
    LinesTake-join (d ∷ []) (e ∷ f ∷ []) l3 l4 l6 pd (
    LinesTake-join (e ∷ []) (f ∷ []) l4 l5 l6 pe pf))))

empty_each : (order : List Item) → order ≡ [] → All (λ list. list ≡ []) (lists_of order)
empty_each order same = All-lists_of (λ list. list ≡ []) order (λ list. ap (λ (o : List Item). list_of list o) same)

is_script : (header : Header) (order : List Item) (bodies : List Body) → IsHeader header → ((header.version == 3) ≡ false → (header.fill ≡ 4) × (header.disks ≡ []) × (order ≡ [])) → Goods IsItem [] order → length order ≤ 4096 → AreBodies header [] bodies → Limits header bodies → IsScript (record { header = header; events = lists_of order; lines = bodies })
is_script header order bodies h old goods few good limits =
    let lists = goods-lists order goods in
    let count = lists_of-count order (goods-listed [] order goods).0 in
    record {
      header = h;
      old = λ lt. let o = old (not_three header.version lt) in (o.0, o.1, empty_each order o.2);
      lists = refl;
      listed = lists.listed;
      by_frame = lists.by_frame;
      few_events = omega (arith, count, few);
      lines = λ i body e. bodies-at header [] bodies good i body e;
      few_calls = limits.calls;
      few_opens = limits.opened;
      few_segments = limits.segments;
      few_periods = limits.periods;
      few_cycles = limits.cycles;
      few_bytes = limits.bytes;
    }

are_events : (header : Header) (order : List Item) (bodies : List Body) → Goods IsItem [] order → AreEvents (record { header = header; events = lists_of order; lines = bodies }) order
are_events header order bodies goods = record { lists = All-from_recursion (λ (item : Item). item.0 < 16) order (goods-listed [] order goods).0; each = λ list lt. lists_of-at order list lt }

abbrev pub IsSpelled : List Line → Script → Type 0
IsSpelled lines script = IsScript script × ((choices : Choices) × AreChoices script choices × LinesFill lines (lines_by script choices))

assemble : (end : ℕ) (lines : List Line) (v rate p capture : ℕ × List Line) (playback : (ℕ × ℕ) × List Line) (m : (Option ℕ × Bool) × List Line) (ring drain fill : ℕ × List Line) (recorders : List Format × List Line) (disks : List ℕ × List Line) (events : List Item × List Line) (body : List Body)
    → required end (codes "jackd") version lines ≡ Ok v
    → required end (codes "rate") (number 8000 192000) v.1 ≡ Ok rate
    → required end (codes "period") period rate.1 ≡ Ok p
    → required end (codes "capture") (number 1 8) p.1 ≡ Ok capture
    → required end (codes "playback") channels_and_bits capture.1 ≡ Ok playback
    → required end (codes "mode") (workers v.0) playback.1 ≡ Ok m
    → optional 16 (codes "ring") (number 1 64) m.1 ≡ Ok ring
    → optional 4 (codes "drain") (number 0 64) ring.1 ≡ Ok drain
    → (if v.0 == 3 then optional 4 (codes "fill") (number 0 64) drain.1 else Ok (4, drain.1)) ≡ Ok fill
    → several Recorders 4 (codes "recorder") (recorder rate.0) [] fill.1 ≡ Ok recorders
    → (if v.0 == 3 then several Disks 4 (codes "disk") (λ found. number 1 8) [] recorders.1 else Ok ([], recorders.1)) ≡ Ok disks
    → (if v.0 == 3 then several Events 4096 (codes "event") event [] disks.1 else Ok ([], disks.1)) ≡ Ok events
    → body_lines (header_of v.0 rate.0 p.0 capture.0 playback.0 m.0 ring.0 drain.0 fill.0 recorders.0 disks.0) [] events.1 ≡ Ok body
    → IsSpelled lines (record { header = header_of v.0 rate.0 p.0 capture.0 playback.0 m.0 ring.0 drain.0 fill.0 recorders.0 disks.0; events = lists_of events.0; lines = body })
assemble end lines v rate p capture playback m ring drain fill recorders disks events body ev erate ep ecapture eplayback em ering edrain efill erecorders edisks eevents ebody =
    let header : Header = header_of v.0 rate.0 p.0 capture.0 playback.0 m.0 ring.0 drain.0 fill.0 recorders.0 disks.0 in
    let v-is = required-takes version-reads (codes "jackd") refl end lines v ev in
    let rate-is = required-takes (number-reads 8000 192000) (codes "rate") refl end v.1 rate erate in
    let p-is = required-takes period-reads (codes "period") refl end rate.1 p ep in
    let capture-is = required-takes (number-reads 1 8) (codes "capture") refl end p.1 capture ecapture in
    let playback-is = required-takes channels_and_bits-reads (codes "playback") refl end capture.1 playback eplayback in
    let m-is = required-takes (workers-reads v.0) (codes "mode") refl end playback.1 m em in
    let ring-is = ring-takes m.1 ring ering in
    let drain-is = drain-takes ring.1 drain edrain in
    let fill-is = fill-takes (v.0 == 3) drain.1 fill efill in
    let recorders-are = recorders-take rate.0 fill.1 recorders erecorders in
    let disks-are = disks-take (v.0 == 3) recorders.1 disks edisks in
    let events-are = events-take (v.0 == 3) disks.1 events eevents in
    let body-is = body_lines-take header [] events.1 body (Limits-none header) ebody in
    let choices : Choices = record { ring = ring-is.0; drain = drain-is.0; fill = fill-is.0; events = events.0 } in
    let mode-is : LinesTake (mode_slots m.0.0 m.0.1 ∷ []) playback.1 m.1 = subst (λ (s : List Slot). LinesTake (s ∷ []) playback.1 m.1) (workers_slots-mode m.0.0 m.0.1) m-is.0 in
    let bodies : LinesFill events.1 (map body_slots body) = subst (λ (xs : List Body). LinesFill events.1 (map body_slots xs)) (sym body-is.1) body-is.2 in
    let good_bodies : AreBodies header [] body = subst (λ (xs : List Body). AreBodies header [] xs) (sym body-is.1) body-is.3 in (
      is_script header events.0 body
          (record {
            version = v-is.1;
            rate = rate-is.1;
            period = p-is.1;
            capture = capture-is.1;
            playback = playback-is.1.0;
            bits = playback-is.1.1;
            workers = m-is.1.workers;
            stealing = m-is.1.stealing;
            ring = ring-is.1.good;
            drain = drain-is.1.good;
            fill = fill-is.1.good;
            few_recorders = recorders-are.2;
            recorders = recorders-are.1;
            few_disks = disks-are.2;
            disks = disks-are.1;
          })
          (λ h. ((fill-is.2 h).1, disks-are.3 h, events-are.3 h)) events-are.1 events-are.2 good_bodies body-is.4,
      (
        choices,
        record { ring = ring-is.1.choice; drain = drain-is.1.choice; fill = fill-is.1.choice; old = λ lt. (fill-is.2 (not_three v.0 lt)).0; events = are_events header events.0 body events-are.1 },
        LinesTake-all (lines_by (record { header = header; events = lists_of events.0; lines = body }) choices) lines
            (join_parts (required_lines header) ring-is.0 drain-is.0 fill-is.0 (map recorder_slots recorders.0) (map (number_slots (codes "disk")) disks.0) (map event_slots events.0) (map body_slots body)
            lines m.1 ring.1 drain.1 fill.1 recorders.1 disks.1 events.1
            (join_six _ _ _ _ _ _ lines v.1 rate.1 p.1 capture.1 playback.1 m.1 v-is.0 rate-is.0 p-is.0 capture-is.0 playback-is.0 mode-is)
            ring-is.1.took drain-is.1.took fill-is.1.took recorders-are.0 disks-are.0 events-are.0 (LinesTake-from_all (map body_slots body) events.1 bodies)),
      ),
    )

lines-spelled : (end : ℕ) (lines : List Line) (script : Script) → script_of_lines end lines ≡ Ok script → IsSpelled lines script
lines-spelled end lines script e =
    bind_case (required end (codes "jackd") version lines) _ script e (λ v ev e.
    bind_case (required end (codes "rate") (number 8000 192000) v.1) _ script e (λ rate erate e.
    bind_case (required end (codes "period") period rate.1) _ script e (λ p ep e.
    bind_case (required end (codes "capture") (number 1 8) p.1) _ script e (λ capture ecapture e.
    bind_case (required end (codes "playback") channels_and_bits capture.1) _ script e (λ playback eplayback e.
    bind_case (required end (codes "mode") (workers v.0) playback.1) _ script e (λ m em e.
    bind_case (optional 16 (codes "ring") (number 1 64) m.1) _ script e (λ ring ering e.
    bind_case (optional 4 (codes "drain") (number 0 64) ring.1) _ script e (λ drain edrain e.
    bind_case (if v.0 == 3 then optional 4 (codes "fill") (number 0 64) drain.1 else Ok (4, drain.1)) _ script e (λ fill efill e.
    bind_case (several Recorders 4 (codes "recorder") (recorder rate.0) [] fill.1) _ script e (λ recorders erecorders e.
    bind_case (if v.0 == 3 then several Disks 4 (codes "disk") (λ found. number 1 8) [] recorders.1 else Ok ([], recorders.1)) _ script e (λ disks edisks e.
    bind_case (if v.0 == 3 then several Events 4096 (codes "event") event [] disks.1 else Ok ([], disks.1)) _ script e (λ events eevents e.
    bind_case (body_lines (header_of v.0 rate.0 p.0 capture.0 playback.0 m.0 ring.0 drain.0 fill.0 recorders.0 disks.0) [] events.1) _ script e (λ body ebody e.
    subst (λ (s : Script). IsSpelled lines s) (ok_is (record { header = header_of v.0 rate.0 p.0 capture.0 playback.0 m.0 ring.0 drain.0 fill.0 recorders.0 disks.0; events = lists_of events.0; lines = body }) script e)
    (assemble end lines v rate p capture playback m ring drain fill recorders disks events body ev erate ep ecapture eplayback em ering edrain efill erecorders edisks eevents ebody))))))))))))))

pub spelled : (bytes : List ℕ) (script : Script) → script_of bytes ≡ Ok script → Spells bytes script
spelled bytes script e = go (nat_lt 1048576 (length bytes)) refl e
  where
    go : (b : Bool) → nat_lt 1048576 (length bytes) ≡ b → (if b then Err (record { line = 0; cause = TooLong }) else script_of_lines (line_after bytes) (said bytes)) ≡ Ok script → Spells bytes script
    go true h k = absurd cc
    go false h k = let s = lines-spelled (line_after bytes) (said bytes) script k in (short, s.0, s.1)
      where
        short : length bytes ≤ 1048576
        short = grind arith

-- ---- what is spelled so is read

split_parts : (a b c d e f g h : List (List Slot)) (l0 : List Line) → LinesTake (a ++ b ++ c ++ d ++ e ++ f ++ g ++ h) l0 []
    → (l1 l2 l3 l4 l5 l6 l7 : List Line) × LinesTake a l0 l1 × LinesTake b l1 l2 × LinesTake c l2 l3 × LinesTake d l3 l4 × LinesTake e l4 l5 × LinesTake f l5 l6 × LinesTake g l6 l7 × LinesTake h l7 []
split_parts a b c d e f g h l0 p =
    let s7 = LinesTake-split (a ++ b ++ c ++ d ++ e ++ f ++ g) h l0 [] p in
    let s6 = LinesTake-split (a ++ b ++ c ++ d ++ e ++ f) g l0 s7.0 s7.1 in
    let s5 = LinesTake-split (a ++ b ++ c ++ d ++ e) f l0 s6.0 s6.1 in
    let s4 = LinesTake-split (a ++ b ++ c ++ d) e l0 s5.0 s5.1 in
    let s3 = LinesTake-split (a ++ b ++ c) d l0 s4.0 s4.1 in
    let s2 = LinesTake-split (a ++ b) c l0 s3.0 s3.1 in
    let s1 = LinesTake-split a b l0 s2.0 s2.1 in
    (s1.0, s2.0, s3.0, s4.0, s5.0, s6.0, s7.0, s1.1, s1.2, s2.2, s3.2, s4.2, s5.2, s6.2, s7.2)

split_six : (a b c d e f : List Slot) (l0 l6 : List Line) → LinesTake (a ∷ b ∷ c ∷ d ∷ e ∷ f ∷ []) l0 l6 → (l1 l2 l3 l4 l5 : List Line) × LinesTake (a ∷ []) l0 l1 × LinesTake (b ∷ []) l1 l2 × LinesTake (c ∷ []) l2 l3 × LinesTake (d ∷ []) l3 l4 × LinesTake (e ∷ []) l4 l5 × LinesTake (f ∷ []) l5 l6
split_six a b c d e f l0 l6 p =
    let s1 = LinesTake-split (a ∷ []) (b ∷ c ∷ d ∷ e ∷ f ∷ []) l0 l6 p in
    let s2 = LinesTake-split (b ∷ []) (c ∷ d ∷ e ∷ f ∷ []) s1.0 l6 s1.2 in
    let s3 = LinesTake-split (c ∷ []) (d ∷ e ∷ f ∷ []) s2.0 l6 s2.2 in
    let s4 = LinesTake-split (d ∷ []) (e ∷ f ∷ []) s3.0 l6 s3.2 in
    let s5 = LinesTake-split (e ∷ []) (f ∷ []) s4.0 l6 s4.2 in
    (s1.0, s2.0, s3.0, s4.0, s5.0, s1.1, s2.1, s3.1, s4.1, s5.1, s5.2)

-- the lines behind one do not begin with its word
not-begun : (name : List ℕ) (b c : List (List Slot)) (l0 l1 : List Line) → AllApart name b → AllApart name c → LinesTake b l0 l1 → LinesTake c l1 [] → AllApart name (b ++ c) × LinesTake (b ++ c) l0 []
not-begun name b c l0 l1 p q r s = (AllApart-append name b c p q, LinesTake-join b c l0 l1 [] r s)

-- the script that is read from the parts
reassemble : (end : ℕ) (script : Script) (choices : Choices) (l0 l1 l2 l3 l4 l5 l6 l7 l8 l9 l10 l11 l12 : List Line) → IsScript script → AreChoices script choices
    → LinesTake (number_slots (codes "jackd") script.header.version ∷ []) l0 l1
    → LinesTake (number_slots (codes "rate") script.header.rate ∷ []) l1 l2
    → LinesTake (number_slots (codes "period") script.header.period ∷ []) l2 l3
    → LinesTake (number_slots (codes "capture") script.header.capture ∷ []) l3 l4
    → LinesTake ((Word (codes "playback") ∷ Numeral script.header.playback ∷ Numeral script.header.bits ∷ []) ∷ []) l4 l5
    → LinesTake (mode_slots script.header.threads script.header.steal ∷ []) l5 l6
    → LinesTake choices.ring l6 l7
    → LinesTake choices.drain l7 l8
    → LinesTake choices.fill l8 l9
    → LinesTake (map recorder_slots script.header.recorders) l9 l10
    → LinesTake (map (number_slots (codes "disk")) script.header.disks) l10 l11
    → LinesTake (map event_slots choices.events) l11 l12
    → LinesTake (map body_slots script.lines) l12 []
    → script_of_lines end l0 ≡ Ok script
reassemble end script choices l0 l1 l2 l3 l4 l5 l6 l7 l8 l9 l10 l11 l12 is ch t1 t2 t3 t4 t5 t6 t7 t8 t9 t10 t11 t12 t13 =
    let h = is.header in
    let lists : AreLists script.events = record { lists = is.lists; listed = is.listed; by_frame = is.by_frame } in
    let small : AllByRecursion (λ (item : Item). item.0 < 16) choices.events = recursion_from_All (λ (item : Item). item.0 < 16) choices.events ch.events.lists in
    let goods = lists-goods script.events choices.events lists ch.events.lists ch.events.each in
    let sorted : lists_of choices.events ≡ script.events = lists_of-same script.events choices.events is.lists ch.events.each in
    let count = lists_of-count choices.events small in
    let few : length choices.events ≤ 4096 = few_lists (lists_of choices.events) script.events (length choices.events) sorted count is.few_events in
    let mode-is : LinesTake ((Word (codes "mode") ∷ workers_slots (script.header.threads, script.header.steal)) ∷ []) l5 l6 = subst (λ (s : List Slot). LinesTake (s ∷ []) l5 l6) (sym (workers_slots-mode script.header.threads script.header.steal)) t6 in
    let is_mode : IsMode script.header.version (script.header.threads, script.header.steal) = record { workers = h.workers; stealing = h.stealing } in
    let old_fill : (script.header.version == 3) ≡ false → (choices.fill ≡ []) × (script.header.fill ≡ 4) = λ k. let lt = old_version script.header.version h.version k in (ch.old lt, (is.old lt).0) in
    let old_disks : (script.header.version == 3) ≡ false → script.header.disks ≡ [] = λ k. (is.old (old_version script.header.version h.version k)).1 in
    let old_events : (script.header.version == 3) ≡ false → choices.events ≡ [] = λ k. no_events choices.events small script.events is.lists ((is.old (old_version script.header.version h.version k)).2) ch.events.each in
    let b_event = from_body (codes "event") (record { dos = refl; run = refl; freewheel = refl; lane = refl; period = refl }) in
    let b_disk = not-begun (codes "disk") (map event_slots choices.events) (map body_slots script.lines) l11 l12 (AllApart-map (codes "disk") event_slots (λ item. refl) choices.events) (from_body (codes "disk") (record { dos = refl; run = refl; freewheel = refl; lane = refl; period = refl })) t12 t13 in
    let b_recorder = behind_disks (codes "recorder") (record { dos = refl; run = refl; freewheel = refl; lane = refl; period = refl }) (λ item. refl) (λ n. refl) in
    let b_fill = behind_recorders (codes "fill") (record { dos = refl; run = refl; freewheel = refl; lane = refl; period = refl }) (λ item. refl) (λ n. refl) (λ format. refl) in
    let r_drain = behind_recorders (codes "drain") (record { dos = refl; run = refl; freewheel = refl; lane = refl; period = refl }) (λ item. refl) (λ n. refl) (λ format. refl) in
    let b_drain = not-begun (codes "drain") choices.fill _ l8 l9 (optional-apart (codes "drain") (codes "fill") script.header.fill 4 choices.fill refl ch.fill) r_drain.0 t9 r_drain.1 in
    let r_ring = behind_recorders (codes "ring") (record { dos = refl; run = refl; freewheel = refl; lane = refl; period = refl }) (λ item. refl) (λ n. refl) (λ format. refl) in
    let f_ring = not-begun (codes "ring") choices.fill _ l8 l9 (optional-apart (codes "ring") (codes "fill") script.header.fill 4 choices.fill refl ch.fill) r_ring.0 t9 r_ring.1 in
    let b_ring = not-begun (codes "ring") choices.drain _ l7 l8 (optional-apart (codes "ring") (codes "drain") script.header.drain 4 choices.drain refl ch.drain) f_ring.0 t8 f_ring.1 in
    bind_again _ (required-again version-reads (codes "jackd") refl end l0 script.header.version l1 t1 h.version) (
    bind_again _ (required-again (number-reads 8000 192000) (codes "rate") refl end l1 script.header.rate l2 t2 h.rate) (
    bind_again _ (required-again period-reads (codes "period") refl end l2 script.header.period l3 t3 h.period) (
    bind_again _ (required-again (number-reads 1 8) (codes "capture") refl end l3 script.header.capture l4 t4 h.capture) (
    bind_again _ (required-again channels_and_bits-reads (codes "playback") refl end l4 (script.header.playback, script.header.bits) l5 t5 (h.playback, h.bits)) (
    bind_again _ (required-again (workers-reads script.header.version) (codes "mode") refl end l5 (script.header.threads, script.header.steal) l6 mode-is is_mode) (
    bind_again _ (ring-again l6 script.header.ring l7 choices.ring ch.ring t7 h.ring (NotBegun-apart (codes "ring") _ l7 b_ring.0 b_ring.1)) (
    bind_again _ (drain-again l7 script.header.drain l8 choices.drain ch.drain t8 h.drain (NotBegun-apart (codes "drain") _ l8 b_drain.0 b_drain.1)) (
    bind_again _ (fill-again (script.header.version == 3) l8 script.header.fill l9 choices.fill ch.fill t9 h.fill (NotBegun-apart (codes "fill") _ l9 b_fill.0 b_fill.1) old_fill) (
    bind_again _ (recorders-again script.header.rate l9 script.header.recorders l10 t10 h.recorders h.few_recorders (NotBegun-apart (codes "recorder") _ l10 b_recorder.0 b_recorder.1)) (
    bind_again _ (disks-again (script.header.version == 3) l10 script.header.disks l11 t11 h.disks h.few_disks (NotBegun-apart (codes "disk") _ l11 b_disk.0 b_disk.1) old_disks) (
    bind_again _ (events-again (script.header.version == 3) l11 choices.events l12 t12 goods few (NotBegun-apart (codes "event") (map body_slots script.lines) l12 b_event t13) old_events) (
    bind_again _ (body_lines-again script.header [] l12 script.lines (LinesTake-all (map body_slots script.lines) l12 t13) (bodies-from script.header [] script.lines is.lines)
    (record { calls = is.few_calls; opened = is.few_opens; segments = is.few_segments; periods = is.few_periods; cycles = is.few_cycles; bytes = is.few_bytes })) (
    ap (λ (events : List (List (ℕ × Event))). Ok (record { header = script.header; events = events; lines = script.lines })) sorted)))))))))))))
  where
    few_lists : (made given : List (List (ℕ × Event))) (n : ℕ) → made ≡ given → sum_by length made ≡ n → sum_by length given ≤ 4096 → n ≤ 4096
    few_lists made given n same count few = let e = ap (λ (xs : List (List (ℕ × Event))). sum_by length xs) same in omega (arith, e, count, few)

    no_events : (order : List Item) → AllByRecursion (λ (item : Item). item.0 < 16) order → (events : List (List (ℕ × Event))) → length events ≡ 16 → All (λ list. list ≡ []) events → ((list : ℕ) → list < 16 → list_of list order ≡ slice_index_or events list []) → order ≡ []
    no_events order small events len empty each = no_lists-no_order order small (λ list lt. each list lt ∙ empty list [] (omega (arith, lt, len)))

    from_body : (name : List ℕ) → ApartFromBody name → AllApart name (map body_slots script.lines)
    from_body name a = AllApart-map name body_slots (body-apart name a) script.lines

    behind_disks : (name : List ℕ) → ApartFromBody name → ((item : Item) → bytes_eq (codes "event") name ≡ false) → ((n : ℕ) → bytes_eq (codes "disk") name ≡ false) → AllApart name (map (number_slots (codes "disk")) script.header.disks ++ (map event_slots choices.events ++ map body_slots script.lines)) × LinesTake (map (number_slots (codes "disk")) script.header.disks ++ (map event_slots choices.events ++ map body_slots script.lines)) l10 []
    behind_disks name a e d =
        let one = not-begun name (map event_slots choices.events) (map body_slots script.lines) l11 l12 (AllApart-map name event_slots e choices.events) (from_body name a) t12 t13 in
        not-begun name (map (number_slots (codes "disk")) script.header.disks) (map event_slots choices.events ++ map body_slots script.lines) l10 l11 (AllApart-map name (number_slots (codes "disk")) d script.header.disks) one.0 t11 one.1

    behind_recorders : (name : List ℕ) → ApartFromBody name → ((item : Item) → bytes_eq (codes "event") name ≡ false) → ((n : ℕ) → bytes_eq (codes "disk") name ≡ false) → ((format : Format) → bytes_eq (codes "recorder") name ≡ false) → AllApart name (map recorder_slots script.header.recorders ++ (map (number_slots (codes "disk")) script.header.disks ++ (map event_slots choices.events ++ map body_slots script.lines))) × LinesTake (map recorder_slots script.header.recorders ++ (map (number_slots (codes "disk")) script.header.disks ++ (map event_slots choices.events ++ map body_slots script.lines))) l9 []
    behind_recorders name a e d r =
        let two = behind_disks name a e d in
        not-begun name (map recorder_slots script.header.recorders) (map (number_slots (codes "disk")) script.header.disks ++ (map event_slots choices.events ++ map body_slots script.lines)) l9 l10 (AllApart-map name recorder_slots r script.header.recorders) two.0 t10 two.1

lines-read : (end : ℕ) (lines : List Line) (script : Script) → IsSpelled lines script → script_of_lines end lines ≡ Ok script
lines-read end lines script s =
    let choices = s.1.0 in
    let p = split_parts (required_lines script.header) choices.ring choices.drain choices.fill (map recorder_slots script.header.recorders) (map (number_slots (codes "disk")) script.header.disks) (map event_slots choices.events) (map body_slots script.lines) lines (LinesTake-from_all (lines_by script choices) lines s.1.2) in
    let q = split_six _ _ _ _ _ _ lines p.0 p.7 in
    reassemble end script choices lines q.0 q.1 q.2 q.3 q.4 p.0 p.1 p.2 p.3 p.4 p.5 p.6 s.0 s.1.1 q.5 q.6 q.7 q.8 q.9 q.10 p.8 p.9 p.10 p.11 p.12 p.13 p.14

pub read : (bytes : List ℕ) (script : Script) → Spells bytes script → script_of bytes ≡ Ok script
read bytes script s =
    let short : nat_lt 1048576 (length bytes) ≡ false = not_long (length bytes) s.0 in
    rw short (lines-read (line_after bytes) (said bytes) script (s.1, s.2))
  where
    not_long : (n : ℕ) → n ≤ 1048576 → nat_lt 1048576 n ≡ false
    not_long n h = grind arith

pub script_of-Spells : (bytes : List ℕ) (script : Script) → (script_of bytes ≡ Ok script) ↔ Spells bytes script
script_of-Spells bytes script = (λ e. spelled bytes script e, λ s. read bytes script s)

-- for all bytes there is one script that they spell, and no fault, or one fault, and no script
pub script_or_fault : (bytes : List ℕ) → HasScript bytes ⊎ HasScriptFault bytes
script_or_fault bytes = go (script_of bytes) refl
  where
    go : (r : Result Script ScriptFault) → script_of bytes ≡ r → HasScript bytes ⊎ HasScriptFault bytes
    go (Ok script) e = inl (record {
      script = script;
      spells = spelled bytes script e;
      only = λ other s. ok_is script other (sym e ∙ read bytes other s);
      no_fault = ap fault_of e;
    })
    go (Err fault) e = inr (record { fault = fault; is_fault = ap fault_of e; no_script = λ script s. failed (sym e ∙ read bytes script s) })
      where
        failed : {script : Script} → Err fault ≡ Ok script → ⊥
        failed e = absurd cc
