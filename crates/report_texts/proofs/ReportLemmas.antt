-- Equal report texts come only from equal reports, as far as calls, numbers, overruns and underruns go.
--     calls_of_part .. disks_of_part      which part the lines are of
--     in_parts, part_1, part_2, part_5, part_6      the lines of a part among all
--     none-cons, first-same, rest-same, images-same      lists back from equal ones
--     Report-same      of two reports whose numbers are below 2^64 and whose names have no LF
use Rattle.std.proofs.Common.{◌≡◌, ℕ, ◌<◌, ◌^◌, ◌≢◌, Bool, true, false, cond, not, ◌==◌, List, [], ◌∷◌, ◌++◌, length, map, flat_map, filter, get_or, decimal, codes, Option, Some, None, refl, sym, ◌∙◌, ap, ap₂, subst, arith, append_assoc, append-nil, true≢false, eq-eqb, ne_eqb}
use Rattle.std.specs.List.{list_all}
use Rattle.std.proofs.lemmas.Fmt.{decimal_injective}
use Rattle.std.proofs.lemmas.List.Elements.{filter-append}
use Rattle.jack_types.specs.declared.moments.Bbt.{Bbt}
use Rattle.jack_types.specs.declared.moments.TransportState.{TransportState}
use Rattle.jack_types.specs.declared.moments.TransportState.TheVariants.{Stopped, Rolling, Starting}
use Rattle.jack_types.specs.declared.replies.Overrun.{Overrun}
use Rattle.jack_types.specs.declared.replies.Refusal.{Refusal}
use Rattle.jack_types.specs.declared.replies.Refusal.TheVariants.{NoClient, NoPort, IsOpen, IsSystem, NameTaken, AlreadyActive, NotActive, ClientsFull, PortsFull, NoSource, NoDestination, NotOutput, NotInput, TypeDiffers, Inactive, Exists, Full, NotConnected, Busy, NotMaster, InUse}
use Rattle.jack_types.specs.declared.replies.Reply.{Reply}
use Rattle.jack_types.specs.declared.replies.Reply.TheVariants.{Accepted, Refused, Latency}
use Rattle.jack_types.specs.declared.replies.Underrun.{Underrun}
use Rattle.session_laws.specs.session_model.specs.Events.{event_bytes}
use Rattle.session_laws.specs.session_model.specs.Reports.{spaced, line, reply_words, PrintedCall, PrintedCycle, PrintedMeter, PrintedEvent, PrintedRecorder, PrintedDisk, Report, call_line, cycle_line, meter_line, event_line, overrun_line, recorder_lines, underrun_line, disk_lines, report_lines, state_name, bbt_word, hex_byte}
use Rattle.jack_types.specs.Refusals.{refusal_number, refusal_name}
use Rattle.session_laws.proofs.LoopLemmas.{and_parts}
use Rattle.session_laws.proofs.ListLemmas.{Each, Each-weaker, Each-all, Each-append, Each-map, Each-flat_map, filter-all, filter-none}
use Rattle.session_laws.proofs.TextLemmas.{Lacks, cut-same, IsLine, joined_lines, lines-same, IsLine-line, Lacks-decimal, Lacks-hex}

-- of constant bytes
pub lacks : (s : ℕ) (bytes : List ℕ) → list_all (λ b. not (b == s)) bytes ≡ true → Lacks s bytes
lacks s [] h = tt
lacks s (b ∷ bytes) h =
    let parts : (not (b == s) ≡ true) × (list_all (λ c. not (c == s)) bytes ≡ true) = and_parts (not (b == s)) (list_all (λ c. not (c == s)) bytes) h in
    ((λ e. true≢false (sym parts.0 ∙ ap not (eq-eqb b s e))), lacks s bytes parts.1)

-- ---- no LF within a line

pub Lacks-name : (refusal : Refusal) → Lacks 10 (refusal_name refusal)
Lacks-name NoClient = lacks 10 (codes "NoClient") refl
Lacks-name NoPort = lacks 10 (codes "NoPort") refl
Lacks-name IsOpen = lacks 10 (codes "IsOpen") refl
Lacks-name IsSystem = lacks 10 (codes "IsSystem") refl
Lacks-name NameTaken = lacks 10 (codes "NameTaken") refl
Lacks-name AlreadyActive = lacks 10 (codes "AlreadyActive") refl
Lacks-name NotActive = lacks 10 (codes "NotActive") refl
Lacks-name ClientsFull = lacks 10 (codes "ClientsFull") refl
Lacks-name PortsFull = lacks 10 (codes "PortsFull") refl
Lacks-name NoSource = lacks 10 (codes "NoSource") refl
Lacks-name NoDestination = lacks 10 (codes "NoDestination") refl
Lacks-name NotOutput = lacks 10 (codes "NotOutput") refl
Lacks-name NotInput = lacks 10 (codes "NotInput") refl
Lacks-name TypeDiffers = lacks 10 (codes "TypeDiffers") refl
Lacks-name Inactive = lacks 10 (codes "Inactive") refl
Lacks-name Exists = lacks 10 (codes "Exists") refl
Lacks-name Full = lacks 10 (codes "Full") refl
Lacks-name NotConnected = lacks 10 (codes "NotConnected") refl
Lacks-name Busy = lacks 10 (codes "Busy") refl
Lacks-name NotMaster = lacks 10 (codes "NotMaster") refl
Lacks-name InUse = lacks 10 (codes "InUse") refl

pub number_lacks : (n : ℕ) → Lacks 10 (decimal n)
number_lacks n = Lacks-decimal 10 n (omega arith)

pub no_space : (n : ℕ) → Lacks 32 (decimal n)
no_space n = Lacks-decimal 32 n (omega arith)

pub reply_lacks : (reply : Reply) → Each (Lacks 10) (reply_words reply)
reply_lacks (Accepted number) = (lacks 10 (codes "ok") refl, (number_lacks number, tt))
reply_lacks (Refused refusal) = (lacks 10 (codes "refused") refl, (number_lacks (refusal_number refusal), (Lacks-name refusal, tt)))
reply_lacks (Latency range) = (lacks 10 (codes "latency") refl, (number_lacks range.min, (number_lacks range.max, tt)))

pub state_lacks : (state : TransportState) → Lacks 10 (state_name state)
state_lacks Stopped = lacks 10 (codes "stopped") refl
state_lacks Starting = lacks 10 (codes "starting") refl
state_lacks Rolling = lacks 10 (codes "rolling") refl

pub bbt_lacks : (place : Option Bbt) → Lacks 10 (bbt_word place)
bbt_lacks None = lacks 10 (codes "-") refl
bbt_lacks (Some place) =
    Each-append (λ b. b ≢ 10) (decimal place.bar ++ codes "|" ++ decimal place.beat ++ codes "|") (decimal place.tick)
    (Each-append (λ b. b ≢ 10) (decimal place.bar ++ codes "|" ++ decimal place.beat) (codes "|")
    (Each-append (λ b. b ≢ 10) (decimal place.bar ++ codes "|") (decimal place.beat)
    (Each-append (λ b. b ≢ 10) (decimal place.bar) (codes "|") (number_lacks place.bar) (lacks 10 (codes "|") refl)) (number_lacks place.beat))
    (lacks 10 (codes "|") refl))
    (number_lacks place.tick)

pub call_is_line : (call : PrintedCall) → IsLine (call_line call)
call_is_line call =
    IsLine-line (codes "call" ∷ decimal call.lane ∷ decimal call.index ∷ reply_words call.reply)
    (lacks 10 (codes "call") refl, (number_lacks call.lane, (number_lacks call.index, reply_lacks call.reply)))

pub cycle_is_line : (cycle : PrintedCycle) → IsLine (cycle_line cycle)
cycle_is_line cycle =
    IsLine-line (codes "cycle" ∷ decimal cycle.moment.cycle ∷ decimal cycle.number ∷ state_name cycle.moment.state ∷ decimal cycle.moment.frame ∷ bbt_word cycle.moment.bbt ∷ [])
    (lacks 10 (codes "cycle") refl, (number_lacks cycle.moment.cycle, (number_lacks cycle.number, (state_lacks cycle.moment.state, (number_lacks cycle.moment.frame, (bbt_lacks cycle.moment.bbt, tt))))))

pub meter_is_line : (meter : PrintedMeter) → Lacks 10 meter.client → IsLine (meter_line meter)
meter_is_line meter h = IsLine-line (codes "meter" ∷ meter.client ∷ decimal meter.peak ∷ []) (lacks 10 (codes "meter") refl, (h, (number_lacks meter.peak, tt)))

pub event_is_line : (event : PrintedEvent) → Lacks 10 event.client → IsLine (event_line event)
event_is_line event h =
    IsLine-line (codes "midi" ∷ event.client ∷ decimal event.logged.cycle ∷ decimal event.logged.event.offset ∷ flat_map hex_byte (event_bytes event.logged.event) ∷ [])
    (lacks 10 (codes "midi") refl, (h, (number_lacks event.logged.cycle, (number_lacks event.logged.event.offset, (Lacks-hex (event_bytes event.logged.event), tt)))))

pub overrun_is_line : (overrun : Overrun) → IsLine (overrun_line overrun)
overrun_is_line overrun =
    IsLine-line (codes "overrun" ∷ decimal overrun.recorder ∷ decimal overrun.cycle ∷ decimal overrun.sent ∷ decimal overrun.taken ∷ [])
    (lacks 10 (codes "overrun") refl, (number_lacks overrun.recorder, (number_lacks overrun.cycle, (number_lacks overrun.sent, (number_lacks overrun.taken, tt)))))

pub underrun_is_line : (underrun : Underrun) → IsLine (underrun_line underrun)
underrun_is_line underrun =
    IsLine-line (codes "underrun" ∷ decimal underrun.disk ∷ decimal underrun.cycle ∷ decimal underrun.sent ∷ decimal underrun.taken ∷ [])
    (lacks 10 (codes "underrun") refl, (number_lacks underrun.disk, (number_lacks underrun.cycle, (number_lacks underrun.sent, (number_lacks underrun.taken, tt)))))

pub recorder_are_lines : (recorder : PrintedRecorder) → Each IsLine (recorder_lines recorder)
recorder_are_lines recorder = (
  IsLine-line (codes "recorder" ∷ decimal recorder.recorder ∷ decimal recorder.blocks ∷ decimal (length recorder.overruns) ∷ [])
      (lacks 10 (codes "recorder") refl, (number_lacks recorder.recorder, (number_lacks recorder.blocks, (number_lacks (length recorder.overruns), tt)))),
  Each-map IsLine overrun_line recorder.overruns (Each-all (λ overrun. IsLine (overrun_line overrun)) overrun_is_line recorder.overruns),
)

pub disk_are_lines : (disk : PrintedDisk) → Each IsLine (disk_lines disk)
disk_are_lines disk = (
  IsLine-line (codes "disk" ∷ decimal disk.disk ∷ decimal disk.blocks ∷ decimal (length disk.underruns) ∷ [])
      (lacks 10 (codes "disk") refl, (number_lacks disk.disk, (number_lacks disk.blocks, (number_lacks (length disk.underruns), tt)))),
  Each-map IsLine underrun_line disk.underruns (Each-all (λ underrun. IsLine (underrun_line underrun)) underrun_is_line disk.underruns),
)

-- the numbers that are read back, and the names
pub record IsSmallCall (call : PrintedCall) : Type 0 where
  pub lane : call.lane < 2 ^ 64
  pub index : call.index < 2 ^ 64

pub record IsSmallOverrun (overrun : Overrun) : Type 0 where
  pub recorder : overrun.recorder < 2 ^ 64
  pub cycle : overrun.cycle < 2 ^ 64
  pub sent : overrun.sent < 2 ^ 64
  pub taken : overrun.taken < 2 ^ 64

pub record IsSmallUnderrun (underrun : Underrun) : Type 0 where
  pub disk : underrun.disk < 2 ^ 64
  pub cycle : underrun.cycle < 2 ^ 64
  pub sent : underrun.sent < 2 ^ 64
  pub taken : underrun.taken < 2 ^ 64

pub record IsReadable (report : Report) : Type 0 where
  pub calls : Each IsSmallCall report.calls
  pub cycles : Each (λ (cycle : PrintedCycle). cycle.number < 2 ^ 64) report.cycles
  pub meters : Each (λ (meter : PrintedMeter). Lacks 10 meter.client) report.meters
  pub events : Each (λ (event : PrintedEvent). Lacks 10 event.client) report.events
  pub overruns : Each (λ (recorder : PrintedRecorder). Each IsSmallOverrun recorder.overruns) report.recorders
  pub underruns : Each (λ (disk : PrintedDisk). Each IsSmallUnderrun disk.underruns) report.disks

pub report_are_lines : (report : Report) → IsReadable report → Each IsLine (report_lines report)
report_are_lines report h =
    let a : List (List ℕ) = line (codes "report" ∷ codes "1" ∷ []) ∷ map call_line report.calls in
    let b : List (List ℕ) = map cycle_line report.cycles in
    let c : List (List ℕ) = map meter_line report.meters in
    let d : List (List ℕ) = map event_line report.events in
    let e : List (List ℕ) = flat_map recorder_lines report.recorders in
    let f : List (List ℕ) = flat_map disk_lines report.disks in
    let g : List (List ℕ) = line (codes "end" ∷ []) ∷ [] in
    let a_lines : Each IsLine a =
    (IsLine-line (codes "report" ∷ codes "1" ∷ []) (lacks 10 (codes "report") refl, (lacks 10 (codes "1") refl, tt)), Each-map IsLine call_line report.calls (Each-all (λ call. IsLine (call_line call)) call_is_line report.calls)) in
    let b_lines : Each IsLine b = Each-map IsLine cycle_line report.cycles (Each-all (λ cycle. IsLine (cycle_line cycle)) cycle_is_line report.cycles) in
    let c_lines : Each IsLine c = Each-map IsLine meter_line report.meters (Each-weaker (λ (meter : PrintedMeter). Lacks 10 meter.client) (λ meter. IsLine (meter_line meter)) meter_is_line report.meters h.meters) in
    let d_lines : Each IsLine d = Each-map IsLine event_line report.events (Each-weaker (λ (event : PrintedEvent). Lacks 10 event.client) (λ event. IsLine (event_line event)) event_is_line report.events h.events) in
    let e_lines : Each IsLine e = Each-flat_map IsLine recorder_lines report.recorders (Each-all (λ recorder. Each IsLine (recorder_lines recorder)) recorder_are_lines report.recorders) in
    let f_lines : Each IsLine f = Each-flat_map IsLine disk_lines report.disks (Each-all (λ disk. Each IsLine (disk_lines disk)) disk_are_lines report.disks) in
    let g_lines : Each IsLine g = (IsLine-line (codes "end" ∷ []) (lacks 10 (codes "end") refl, tt), tt) in
    Each-append IsLine (a ++ b ++ c ++ d ++ e ++ f) g
    (Each-append IsLine (a ++ b ++ c ++ d ++ e) f
    (Each-append IsLine (a ++ b ++ c ++ d) e (Each-append IsLine (a ++ b ++ c) d (Each-append IsLine (a ++ b) c (Each-append IsLine a b a_lines b_lines) c_lines) d_lines) e_lines) f_lines) g_lines

-- ---- the parts of the text

-- which part a line is of, by its first bytes: calls 1, cycles 2, meters 3, events 4, recorders 5, disks 6
abbrev pub part_of : List ℕ → ℕ
part_of text =
    let a : ℕ = get_or text 0 0 in
    let b : ℕ = get_or text 1 0 in
    cond (a == 99) (cond (b == 97) 1 2) (cond (a == 109) (cond (b == 101) 3 4) (cond (a == 114) (cond (get_or text 2 0 == 99) 5 0) (cond (a == 111) 5 (cond (a == 100) 6 (cond (a == 117) 6 0)))))

abbrev pub IsOf : ℕ → List ℕ → Type 0
IsOf part text = part_of text ≡ part

pub taken_all : (part : ℕ) (lines : List (List ℕ)) → Each (IsOf part) lines → filter (λ text. part_of text == part) lines ≡ lines
taken_all part lines h = filter-all (λ text. part_of text == part) lines (Each-weaker (IsOf part) (λ text. (part_of text == part) ≡ true) (λ text e. eq-eqb (part_of text) part e) lines h)

pub taken_none : (part other : ℕ) (lines : List (List ℕ)) → other ≢ part → Each (IsOf other) lines → filter (λ text. part_of text == part) lines ≡ []
taken_none part other lines apart h =
    filter-none (λ text. part_of text == part) lines (Each-weaker (IsOf other) (λ text. (part_of text == part) ≡ false) (λ text e. ne_eqb (part_of text) part (λ f. apart (sym e ∙ f))) lines h)

module _ (report : Report) where
  pub calls_of_part : Each (IsOf 1) (map call_line report.calls)
  calls_of_part = Each-map (IsOf 1) call_line report.calls (Each-all (λ call. IsOf 1 (call_line call)) (λ call. refl) report.calls)

  pub cycles_of_part : Each (IsOf 2) (map cycle_line report.cycles)
  cycles_of_part = Each-map (IsOf 2) cycle_line report.cycles (Each-all (λ cycle. IsOf 2 (cycle_line cycle)) (λ cycle. refl) report.cycles)

  pub meters_of_part : Each (IsOf 3) (map meter_line report.meters)
  meters_of_part = Each-map (IsOf 3) meter_line report.meters (Each-all (λ meter. IsOf 3 (meter_line meter)) (λ meter. refl) report.meters)

  pub events_of_part : Each (IsOf 4) (map event_line report.events)
  events_of_part = Each-map (IsOf 4) event_line report.events (Each-all (λ event. IsOf 4 (event_line event)) (λ event. refl) report.events)

  pub recorders_of_part : Each (IsOf 5) (flat_map recorder_lines report.recorders)
  recorders_of_part =
      Each-flat_map (IsOf 5) recorder_lines report.recorders
      (Each-all (λ recorder. Each (IsOf 5) (recorder_lines recorder))
      (λ recorder. (refl, Each-map (IsOf 5) overrun_line recorder.overruns (Each-all (λ overrun. IsOf 5 (overrun_line overrun)) (λ overrun. refl) recorder.overruns))) report.recorders)

  pub disks_of_part : Each (IsOf 6) (flat_map disk_lines report.disks)
  disks_of_part =
      Each-flat_map (IsOf 6) disk_lines report.disks
      (Each-all (λ disk. Each (IsOf 6) (disk_lines disk))
      (λ disk. (refl, Each-map (IsOf 6) underrun_line disk.underruns (Each-all (λ underrun. IsOf 6 (underrun_line underrun)) (λ underrun. refl) disk.underruns))) report.disks)

  abbrev pub from_part : ℕ → List (List ℕ) → List (List ℕ)
  from_part part lines = filter (λ text. part_of text == part) lines

  pub in_parts : (part : ℕ) → from_part part (report_lines report)
      ≡ from_part part (line (codes "report" ∷ codes "1" ∷ []) ∷ map call_line report.calls) ++ from_part part (map cycle_line report.cycles) ++ from_part part (map meter_line report.meters)
      ++ from_part part (map event_line report.events) ++ from_part part (flat_map recorder_lines report.recorders) ++ from_part part (flat_map disk_lines report.disks) ++ from_part part (line (codes "end" ∷ []) ∷ [])
  in_parts part =
      let t : List ℕ → Bool = λ text. part_of text == part in
      let a : List (List ℕ) = line (codes "report" ∷ codes "1" ∷ []) ∷ map call_line report.calls in
      let b : List (List ℕ) = map cycle_line report.cycles in
      let c : List (List ℕ) = map meter_line report.meters in
      let d : List (List ℕ) = map event_line report.events in
      let e : List (List ℕ) = flat_map recorder_lines report.recorders in
      let f : List (List ℕ) = flat_map disk_lines report.disks in
      let g : List (List ℕ) = line (codes "end" ∷ []) ∷ [] in
      filter-append t (a ++ b ++ c ++ d ++ e ++ f) g
      ∙ ap (λ xs. xs ++ filter t g)
      (filter-append t (a ++ b ++ c ++ d ++ e) f
      ∙ ap (λ xs. xs ++ filter t f)
      (filter-append t (a ++ b ++ c ++ d) e
      ∙ ap (λ xs. xs ++ filter t e)
      (filter-append t (a ++ b ++ c) d
      ∙ ap (λ xs. xs ++ filter t d)
      (filter-append t (a ++ b) c ∙ ap (λ xs. xs ++ filter t c) (filter-append t a b)))))

  pub part_1 : from_part 1 (report_lines report) ≡ map call_line report.calls
  part_1 =
      in_parts 1
      ∙ rw (
        taken_all 1 (map call_line report.calls) calls_of_part,
        taken_none 1 2 (map cycle_line report.cycles) (λ e. omega arith) cycles_of_part,
        taken_none 1 3 (map meter_line report.meters) (λ e. omega arith) meters_of_part,
        taken_none 1 4 (map event_line report.events) (λ e. omega arith) events_of_part,
        taken_none 1 5 (flat_map recorder_lines report.recorders) (λ e. omega arith) recorders_of_part,
        taken_none 1 6 (flat_map disk_lines report.disks) (λ e. omega arith) disks_of_part,
      ) (simp append-nil)

  pub part_2 : from_part 2 (report_lines report) ≡ map cycle_line report.cycles
  part_2 =
      in_parts 2
      ∙ rw (
        taken_none 2 1 (map call_line report.calls) (λ e. omega arith) calls_of_part,
        taken_all 2 (map cycle_line report.cycles) cycles_of_part,
        taken_none 2 3 (map meter_line report.meters) (λ e. omega arith) meters_of_part,
        taken_none 2 4 (map event_line report.events) (λ e. omega arith) events_of_part,
        taken_none 2 5 (flat_map recorder_lines report.recorders) (λ e. omega arith) recorders_of_part,
        taken_none 2 6 (flat_map disk_lines report.disks) (λ e. omega arith) disks_of_part,
      ) (simp append-nil)

  pub part_5 : from_part 5 (report_lines report) ≡ flat_map recorder_lines report.recorders
  part_5 =
      in_parts 5
      ∙ rw (
        taken_none 5 1 (map call_line report.calls) (λ e. omega arith) calls_of_part,
        taken_none 5 2 (map cycle_line report.cycles) (λ e. omega arith) cycles_of_part,
        taken_none 5 3 (map meter_line report.meters) (λ e. omega arith) meters_of_part,
        taken_none 5 4 (map event_line report.events) (λ e. omega arith) events_of_part,
        taken_all 5 (flat_map recorder_lines report.recorders) recorders_of_part,
        taken_none 5 6 (flat_map disk_lines report.disks) (λ e. omega arith) disks_of_part,
      ) (simp append-nil)

  pub part_6 : from_part 6 (report_lines report) ≡ flat_map disk_lines report.disks
  part_6 =
      in_parts 6
      ∙ rw (
        taken_none 6 1 (map call_line report.calls) (λ e. omega arith) calls_of_part,
        taken_none 6 2 (map cycle_line report.cycles) (λ e. omega arith) cycles_of_part,
        taken_none 6 3 (map meter_line report.meters) (λ e. omega arith) meters_of_part,
        taken_none 6 4 (map event_line report.events) (λ e. omega arith) events_of_part,
        taken_none 6 5 (flat_map recorder_lines report.recorders) (λ e. omega arith) recorders_of_part,
        taken_all 6 (flat_map disk_lines report.disks) disks_of_part,
      ) (simp append-nil)

-- ---- lines back to what they say

-- a line with at least two words is the first, a space and the line of the others
pub line-cons : (word next : List ℕ) (words : List (List ℕ)) → line (word ∷ next ∷ words) ≡ word ++ 32 ∷ line (next ∷ words)
line-cons word next words =
    append_assoc (word ++ codes " ") (spaced (next ∷ words)) (10 ∷ []) ∙ append_assoc word (codes " ") (line (next ∷ words))

pub next-word : (w v a b : List ℕ) (ws vs : List (List ℕ)) → Lacks 32 w → Lacks 32 v → line (w ∷ a ∷ ws) ≡ line (v ∷ b ∷ vs) → (w ≡ v) × (line (a ∷ ws) ≡ line (b ∷ vs))
next-word w v a b ws vs h k e = cut-same 32 w v (line (a ∷ ws)) (line (b ∷ vs)) h k (sym (line-cons w a ws) ∙ e ∙ line-cons v b vs)

pub next-number : (m n : ℕ) (a b : List ℕ) (ws vs : List (List ℕ)) → m < 2 ^ 64 → n < 2 ^ 64 → line (decimal m ∷ a ∷ ws) ≡ line (decimal n ∷ b ∷ vs) → (m ≡ n) × (line (a ∷ ws) ≡ line (b ∷ vs))
next-number m n a b ws vs p q e =
    let w = next-word (decimal m) (decimal n) a b ws vs (no_space m) (no_space n) e in
    (decimal_injective m n p q w.0, w.1)

pub last-number : (m n : ℕ) → m < 2 ^ 64 → n < 2 ^ 64 → line (decimal m ∷ []) ≡ line (decimal n ∷ []) → m ≡ n
last-number m n p q e = decimal_injective m n p q (cut-same 10 (decimal m) (decimal n) [] [] (number_lacks m) (number_lacks n) e).0

pub reply_some : (reply : Reply) → (word : List ℕ) × (words : List (List ℕ)) × (reply_words reply ≡ word ∷ words)
reply_some (Accepted number) = (codes "ok", decimal number ∷ [], refl)
reply_some (Refused refusal) = (codes "refused", decimal (refusal_number refusal) ∷ refusal_name refusal ∷ [], refl)
reply_some (Latency range) = (codes "latency", decimal range.min ∷ decimal range.max ∷ [], refl)

abbrev pub place_of_call : PrintedCall → ℕ × ℕ
place_of_call call = (call.lane, call.index)

call-same : (a b : PrintedCall) → IsSmallCall a → IsSmallCall b → call_line a ≡ call_line b → place_of_call a ≡ place_of_call b
call-same a b p q e =
    let f = next-word (codes "call") (codes "call") (decimal a.lane) (decimal b.lane) (decimal a.index ∷ reply_words a.reply) (decimal b.index ∷ reply_words b.reply) (lacks 32 (codes "call") refl) (lacks 32 (codes "call") refl) e in
    let g = next-number a.lane b.lane (decimal a.index) (decimal b.index) (reply_words a.reply) (reply_words b.reply) p.lane q.lane f.1 in
    let u = reply_some a.reply in
    let v = reply_some b.reply in
    let h : line (decimal a.index ∷ u.0 ∷ u.1) ≡ line (decimal b.index ∷ v.0 ∷ v.1) = ap (λ ws. line (decimal a.index ∷ ws)) (sym u.2) ∙ g.1 ∙ ap (λ ws. line (decimal b.index ∷ ws)) v.2 in
    let k = next-number a.index b.index u.0 v.0 u.1 v.1 p.index q.index h in
    (λ i. (g.0 i, k.0 i))

pub cycle-same : (a b : PrintedCycle) → a.number < 2 ^ 64 → b.number < 2 ^ 64 → cycle_line a ≡ cycle_line b → a.number ≡ b.number
cycle-same a b p q e =
    let ws : PrintedCycle → List (List ℕ) = λ (c : PrintedCycle). decimal c.moment.frame ∷ bbt_word c.moment.bbt ∷ [] in
    let f = next-word (codes "cycle") (codes "cycle") (decimal a.moment.cycle) (decimal b.moment.cycle) (decimal a.number ∷ state_name a.moment.state ∷ ws a) (decimal b.number ∷ state_name b.moment.state ∷ ws b)
    (lacks 32 (codes "cycle") refl) (lacks 32 (codes "cycle") refl) e in
    let g = next-word (decimal a.moment.cycle) (decimal b.moment.cycle) (decimal a.number) (decimal b.number) (state_name a.moment.state ∷ ws a) (state_name b.moment.state ∷ ws b) (no_space a.moment.cycle) (no_space b.moment.cycle) f.1 in
    (next-number a.number b.number (state_name a.moment.state) (state_name b.moment.state) (ws a) (ws b) p q g.1).0

pub overrun-same : (a b : Overrun) → IsSmallOverrun a → IsSmallOverrun b → overrun_line a ≡ overrun_line b → a ≡ b
overrun-same a b p q e =
    let f = next-word (codes "overrun") (codes "overrun") (decimal a.recorder) (decimal b.recorder) (decimal a.cycle ∷ decimal a.sent ∷ decimal a.taken ∷ []) (decimal b.cycle ∷ decimal b.sent ∷ decimal b.taken ∷ [])
    (lacks 32 (codes "overrun") refl) (lacks 32 (codes "overrun") refl) e in
    let g = next-number a.recorder b.recorder (decimal a.cycle) (decimal b.cycle) (decimal a.sent ∷ decimal a.taken ∷ []) (decimal b.sent ∷ decimal b.taken ∷ []) p.recorder q.recorder f.1 in
    let h = next-number a.cycle b.cycle (decimal a.sent) (decimal b.sent) (decimal a.taken ∷ []) (decimal b.taken ∷ []) p.cycle q.cycle g.1 in
    let k = next-number a.sent b.sent (decimal a.taken) (decimal b.taken) [] [] p.sent q.sent h.1 in
    let l = last-number a.taken b.taken p.taken q.taken k.1 in
    (λ i. record { recorder = g.0 i; cycle = h.0 i; sent = k.0 i; taken = l i })

pub underrun-same : (a b : Underrun) → IsSmallUnderrun a → IsSmallUnderrun b → underrun_line a ≡ underrun_line b → a ≡ b
underrun-same a b p q e =
    let f = next-word (codes "underrun") (codes "underrun") (decimal a.disk) (decimal b.disk) (decimal a.cycle ∷ decimal a.sent ∷ decimal a.taken ∷ []) (decimal b.cycle ∷ decimal b.sent ∷ decimal b.taken ∷ [])
    (lacks 32 (codes "underrun") refl) (lacks 32 (codes "underrun") refl) e in
    let g = next-number a.disk b.disk (decimal a.cycle) (decimal b.cycle) (decimal a.sent ∷ decimal a.taken ∷ []) (decimal b.sent ∷ decimal b.taken ∷ []) p.disk q.disk f.1 in
    let h = next-number a.cycle b.cycle (decimal a.sent) (decimal b.sent) (decimal a.taken ∷ []) (decimal b.taken ∷ []) p.cycle q.cycle g.1 in
    let k = next-number a.sent b.sent (decimal a.taken) (decimal b.taken) [] [] p.sent q.sent h.1 in
    let l = last-number a.taken b.taken p.taken q.taken k.1 in
    (λ i. record { disk = g.0 i; cycle = h.0 i; sent = k.0 i; taken = l i })

-- ---- lists of lines back to lists

module _ {X : Type 0} where
  pub none-cons : (x : X) (xs : List X) → [] ≡ x ∷ xs → ⊥
  none-cons x xs e = cc

  pub first-same : (x y : X) (xs ys : List X) → x ∷ xs ≡ y ∷ ys → x ≡ y
  first-same x y xs ys e = cc

  pub rest-same : (x y : X) (xs ys : List X) → x ∷ xs ≡ y ∷ ys → xs ≡ ys
  rest-same x y xs ys e = cc

  -- equal images by a function that tells apart what the second tells apart
  pub images-same : {Y : Type 0} (f : X → List ℕ) (g : X → Y) (P : X → Type 0) → ((a b : X) → P a → P b → f a ≡ f b → g a ≡ g b) → (xs ys : List X) → Each P xs → Each P ys → map f xs ≡ map f ys → map g xs ≡ map g ys
  images-same f g P tell [] [] h k e = refl
  images-same f g P tell [] (y ∷ ys) h k e = absurd (no_line (f y) (map f ys) e)
    where
      no_line : (t : List ℕ) (ts : List (List ℕ)) → [] ≡ t ∷ ts → ⊥
      no_line t ts q = cc
  images-same f g P tell (x ∷ xs) [] h k e = absurd (no_line (f x) (map f xs) (sym e))
    where
      no_line : (t : List ℕ) (ts : List (List ℕ)) → [] ≡ t ∷ ts → ⊥
      no_line t ts q = cc
  images-same f g P tell (x ∷ xs) (y ∷ ys) h k e =
      ap₂ (λ z zs. z ∷ zs) (tell x y h.0 k.0 (one e)) (images-same f g P tell xs ys h.1 k.1 (others e))
    where
      one : f x ∷ map f xs ≡ f y ∷ map f ys → f x ≡ f y
      one q = cc

      others : f x ∷ map f xs ≡ f y ∷ map f ys → map f xs ≡ map f ys
      others q = cc

pub map-same_items : {X : Type 0} (xs : List X) → map (λ x. x) xs ≡ xs
map-same_items [] = refl
map-same_items (x ∷ xs) = ap (λ ys. x ∷ ys) (map-same_items xs)

-- a run of lines that pass a test, with a line behind it that does not
abbrev pub StartsOff : (List ℕ → Bool) → List (List ℕ) → Type 0
StartsOff test [] = Unit {0}
StartsOff test (text ∷ lines) = test text ≡ false

pub runs-same : (test : List ℕ → Bool) (a b x y : List (List ℕ)) → Each (λ text. test text ≡ true) a → Each (λ text. test text ≡ true) b → StartsOff test x → StartsOff test y → a ++ x ≡ b ++ y → (a ≡ b) × (x ≡ y)
runs-same test [] [] x y h k p q e = (refl, e)
runs-same test [] (c ∷ b) x y h k p q e = absurd (true≢false (sym (k.0) ∙ subst (StartsOff test) e p))
runs-same test (c ∷ a) [] x y h k p q e = absurd (true≢false (sym (h.0) ∙ subst (StartsOff test) (sym e) q))
runs-same test (c ∷ a) (d ∷ b) x y h k p q e =
    let rest = runs-same test a b x y h.1 k.1 p q (rest-same c d (a ++ x) (b ++ y) e) in
    (ap₂ (λ z zs. z ∷ zs) (first-same c d (a ++ x) (b ++ y) e) rest.0, rest.1)

abbrev pub is_overrun_line : List ℕ → Bool
is_overrun_line text = get_or text 0 0 == 111

abbrev pub is_underrun_line : List ℕ → Bool
is_underrun_line text = get_or text 0 0 == 117

recorders-same : (a b : List PrintedRecorder) → Each (λ (recorder : PrintedRecorder). Each IsSmallOverrun recorder.overruns) a → Each (λ (recorder : PrintedRecorder). Each IsSmallOverrun recorder.overruns) b
    → flat_map recorder_lines a ≡ flat_map recorder_lines b → map (λ (recorder : PrintedRecorder). recorder.overruns) a ≡ map (λ (recorder : PrintedRecorder). recorder.overruns) b
recorders-same [] [] h k e = refl
recorders-same [] (y ∷ b) h k e = absurd (none-cons (line (codes "recorder" ∷ decimal y.recorder ∷ decimal y.blocks ∷ decimal (length y.overruns) ∷ [])) (map overrun_line y.overruns ++ flat_map recorder_lines b) e)
recorders-same (x ∷ a) [] h k e = absurd (none-cons (line (codes "recorder" ∷ decimal x.recorder ∷ decimal x.blocks ∷ decimal (length x.overruns) ∷ [])) (map overrun_line x.overruns ++ flat_map recorder_lines a) (sym e))
recorders-same (x ∷ a) (y ∷ b) h k e =
    let tail : map overrun_line x.overruns ++ flat_map recorder_lines a ≡ map overrun_line y.overruns ++ flat_map recorder_lines b =
    rest-same (line (codes "recorder" ∷ decimal x.recorder ∷ decimal x.blocks ∷ decimal (length x.overruns) ∷ [])) (line (codes "recorder" ∷ decimal y.recorder ∷ decimal y.blocks ∷ decimal (length y.overruns) ∷ []))
    (map overrun_line x.overruns ++ flat_map recorder_lines a) (map overrun_line y.overruns ++ flat_map recorder_lines b) e in
    let all : (os : List Overrun) → Each (λ text. is_overrun_line text ≡ true) (map overrun_line os) = λ os.
    Each-map (λ text. is_overrun_line text ≡ true) overrun_line os (Each-all (λ overrun. is_overrun_line (overrun_line overrun) ≡ true) (λ overrun. refl) os) in
    let cut = runs-same is_overrun_line (map overrun_line x.overruns) (map overrun_line y.overruns) (flat_map recorder_lines a) (flat_map recorder_lines b) (all x.overruns) (all y.overruns) (off a) (off b) tail in
    let here : x.overruns ≡ y.overruns =
    sym (map-same_items x.overruns) ∙ images-same overrun_line (λ overrun. overrun) IsSmallOverrun overrun-same x.overruns y.overruns h.0 k.0 cut.0 ∙ map-same_items y.overruns in
    ap₂ (λ z zs. z ∷ zs) here (recorders-same a b h.1 k.1 cut.1)
  where
    off : (rs : List PrintedRecorder) → StartsOff is_overrun_line (flat_map recorder_lines rs)
    off [] = tt
    off (r ∷ rs) = refl

disks-same : (a b : List PrintedDisk) → Each (λ (disk : PrintedDisk). Each IsSmallUnderrun disk.underruns) a → Each (λ (disk : PrintedDisk). Each IsSmallUnderrun disk.underruns) b
    → flat_map disk_lines a ≡ flat_map disk_lines b → map (λ (disk : PrintedDisk). disk.underruns) a ≡ map (λ (disk : PrintedDisk). disk.underruns) b
disks-same [] [] h k e = refl
disks-same [] (y ∷ b) h k e = absurd (none-cons (line (codes "disk" ∷ decimal y.disk ∷ decimal y.blocks ∷ decimal (length y.underruns) ∷ [])) (map underrun_line y.underruns ++ flat_map disk_lines b) e)
disks-same (x ∷ a) [] h k e = absurd (none-cons (line (codes "disk" ∷ decimal x.disk ∷ decimal x.blocks ∷ decimal (length x.underruns) ∷ [])) (map underrun_line x.underruns ++ flat_map disk_lines a) (sym e))
disks-same (x ∷ a) (y ∷ b) h k e =
    let tail : map underrun_line x.underruns ++ flat_map disk_lines a ≡ map underrun_line y.underruns ++ flat_map disk_lines b =
    rest-same (line (codes "disk" ∷ decimal x.disk ∷ decimal x.blocks ∷ decimal (length x.underruns) ∷ [])) (line (codes "disk" ∷ decimal y.disk ∷ decimal y.blocks ∷ decimal (length y.underruns) ∷ []))
    (map underrun_line x.underruns ++ flat_map disk_lines a) (map underrun_line y.underruns ++ flat_map disk_lines b) e in
    let all : (us : List Underrun) → Each (λ text. is_underrun_line text ≡ true) (map underrun_line us) = λ us.
    Each-map (λ text. is_underrun_line text ≡ true) underrun_line us (Each-all (λ underrun. is_underrun_line (underrun_line underrun) ≡ true) (λ underrun. refl) us) in
    let cut = runs-same is_underrun_line (map underrun_line x.underruns) (map underrun_line y.underruns) (flat_map disk_lines a) (flat_map disk_lines b) (all x.underruns) (all y.underruns) (off a) (off b) tail in
    let here : x.underruns ≡ y.underruns =
    sym (map-same_items x.underruns) ∙ images-same underrun_line (λ underrun. underrun) IsSmallUnderrun underrun-same x.underruns y.underruns h.0 k.0 cut.0 ∙ map-same_items y.underruns in
    ap₂ (λ z zs. z ∷ zs) here (disks-same a b h.1 k.1 cut.1)
  where
    off : (ds : List PrintedDisk) → StartsOff is_underrun_line (flat_map disk_lines ds)
    off [] = tt
    off (d ∷ ds) = refl

-- ---- reports

-- what two reports have to share
pub record SaysSame (a b : Report) : Type 0 where
  pub calls : map place_of_call a.calls ≡ map place_of_call b.calls
  pub numbers : map (λ (cycle : PrintedCycle). cycle.number) a.cycles ≡ map (λ (cycle : PrintedCycle). cycle.number) b.cycles
  pub overruns : map (λ (recorder : PrintedRecorder). recorder.overruns) a.recorders ≡ map (λ (recorder : PrintedRecorder). recorder.overruns) b.recorders
  pub underruns : map (λ (disk : PrintedDisk). disk.underruns) a.disks ≡ map (λ (disk : PrintedDisk). disk.underruns) b.disks

pub Report-same : (a b : Report) → IsReadable a → IsReadable b → joined_lines (report_lines a) ≡ joined_lines (report_lines b) → SaysSame a b
Report-same a b h k e =
    let lines : report_lines a ≡ report_lines b = lines-same (report_lines a) (report_lines b) (report_are_lines a h) (report_are_lines b k) e in
    let calls : map call_line a.calls ≡ map call_line b.calls = sym (part_1 a) ∙ ap (filter (λ text. part_of text == 1)) lines ∙ part_1 b in
    let cycles : map cycle_line a.cycles ≡ map cycle_line b.cycles = sym (part_2 a) ∙ ap (filter (λ text. part_of text == 2)) lines ∙ part_2 b in
    let recorders : flat_map recorder_lines a.recorders ≡ flat_map recorder_lines b.recorders = sym (part_5 a) ∙ ap (filter (λ text. part_of text == 5)) lines ∙ part_5 b in
    let disks : flat_map disk_lines a.disks ≡ flat_map disk_lines b.disks = sym (part_6 a) ∙ ap (filter (λ text. part_of text == 6)) lines ∙ part_6 b in
    record {
      calls = images-same call_line place_of_call IsSmallCall call-same a.calls b.calls h.calls k.calls calls;
      numbers = images-same cycle_line (λ (cycle : PrintedCycle). cycle.number) (λ (cycle : PrintedCycle). cycle.number < 2 ^ 64) cycle-same a.cycles b.cycles h.cycles k.cycles cycles;
      overruns = recorders-same a.recorders b.recorders h.overruns k.overruns recorders;
      underruns = disks-same a.disks b.disks h.underruns k.underruns disks;
    }
