-- The lines of a report of the form are short.
--     lines-short
use Rattle.std.proofs.Common.{◌≡◌, ℕ, ◌+◌, ◌*◌, ◌<◌, ◌≤◌, List, [], ◌∷◌, ◌++◌, length, map, flat_map, codes, decimal, slice_get, All, Option, Some, None, refl, arith, length-append}
use Rattle.std.proofs.lemmas.Fmt.{length-decimal-le}
use Rattle.jack_types.specs.Events.{event_bytes}
use Rattle.jack_types.specs.declared.moments.Bbt.{Bbt}
use Rattle.jack_types.specs.declared.moments.TransportState.{TransportState}
use Rattle.jack_types.specs.declared.moments.TransportState.TheVariants.{Stopped, Rolling, Starting}
use Rattle.jack_types.specs.declared.replies.Overrun.{Overrun}
use Rattle.jack_types.specs.declared.replies.Refusal.{Refusal}
use Rattle.jack_types.specs.declared.replies.Reply.{Reply}
use Rattle.jack_types.specs.declared.replies.Reply.TheVariants.{Accepted, Refused, Latency}
use Rattle.jack_types.specs.declared.replies.Underrun.{Underrun}
use Rattle.jack_types.specs.Refusals.{refusal_number, refusal_name}
use Rattle.jack_types.specs.declared.replies.Refusal.TheVariants.{NoClient, NoPort, IsOpen, IsSystem, NameTaken, AlreadyActive, NotActive, ClientsFull, PortsFull, NoSource, NoDestination, NotOutput, NotInput, TypeDiffers, Inactive, Exists, Full, NotConnected, Busy, NotMaster, InUse}
use Rattle.session_model.specs.Grammar.{IsScript}
use Rattle.session_model.specs.Reports.{spaced, line, reply_words, PrintedCall, PrintedCycle, PrintedMeter, PrintedEvent, PrintedRecorder, PrintedDisk, Report, call_line, cycle_line, meter_line, event_line, overrun_line, recorder_lines, underrun_line, disk_lines, report_lines, state_name, bbt_word, hex_byte}
use Rattle.session_model.specs.Scripts.{Script}
use Rattle.grammar_laws.specs.session_laws.proofs.ListLemmas.{Each, Each-weaker, Each-map, Each-append, Each-flat_map}
use Rattle.report_texts.proofs.SameReportLemmas.{turns-few}
use Rattle.grammar_laws.specs.session_laws.proofs.SerialLossLemmas.{All-from_each}
use Rattle.check_model.specs.Checking.{IsNumber, IsReplyForm, IsBbtForm, IsCallLine, IsCycleLine, IsMeterLine, IsEventLine, IsOverrunLine, IsUnderrunLine, IsRecorderLine, IsDiskLine}
use Rattle.check_laws.proofs.NameLemmas.{name-bytes}
use Rattle.check_laws.proofs.SameLemmas.{Each-from_all, Each-from_get, place-inside, event-size}

-- words of at most so many bytes
abbrev AreWords : List (List ℕ) → Type 0
AreWords words = Each (λ w. length w ≤ 64) words

words-short : (words : List (List ℕ)) → AreWords words → length (line words) ≤ 65 * length words + 1
words-short words h = omega (arith, length-append (spaced words) (10 ∷ []), spaced-short words h)
  where
    spaced-short : (ws : List (List ℕ)) → AreWords ws → length (spaced ws) ≤ 65 * length ws
    spaced-short [] h = omega arith
    spaced-short (w ∷ []) h = omega (arith, h.0)
    spaced-short (w ∷ next ∷ ws) h =
        omega (arith, h.0, spaced-short (next ∷ ws) h.1, length-append (w ++ codes " ") (spaced (next ∷ ws)), length-append w (codes " "))

number-short : (n : ℕ) → IsNumber n → length (decimal n) ≤ 19
number-short n h = length-decimal-le 19 n (omega arith) h (omega (arith, h))

number-word : (n : ℕ) → IsNumber n → length (decimal n) ≤ 64
number-word n h = omega (arith, number-short n h)

refusal-word : (refusal : Refusal) → (length (decimal (refusal_number refusal)) ≤ 64) × (length (refusal_name refusal) ≤ 64)
refusal-word NoClient = (number-word (refusal_number NoClient) (omega arith), omega arith)
refusal-word NoPort = (number-word (refusal_number NoPort) (omega arith), omega arith)
refusal-word IsOpen = (number-word (refusal_number IsOpen) (omega arith), omega arith)
refusal-word IsSystem = (number-word (refusal_number IsSystem) (omega arith), omega arith)
refusal-word NameTaken = (number-word (refusal_number NameTaken) (omega arith), omega arith)
refusal-word AlreadyActive = (number-word (refusal_number AlreadyActive) (omega arith), omega arith)
refusal-word NotActive = (number-word (refusal_number NotActive) (omega arith), omega arith)
refusal-word ClientsFull = (number-word (refusal_number ClientsFull) (omega arith), omega arith)
refusal-word PortsFull = (number-word (refusal_number PortsFull) (omega arith), omega arith)
refusal-word NoSource = (number-word (refusal_number NoSource) (omega arith), omega arith)
refusal-word NoDestination = (number-word (refusal_number NoDestination) (omega arith), omega arith)
refusal-word NotOutput = (number-word (refusal_number NotOutput) (omega arith), omega arith)
refusal-word NotInput = (number-word (refusal_number NotInput) (omega arith), omega arith)
refusal-word TypeDiffers = (number-word (refusal_number TypeDiffers) (omega arith), omega arith)
refusal-word Inactive = (number-word (refusal_number Inactive) (omega arith), omega arith)
refusal-word Exists = (number-word (refusal_number Exists) (omega arith), omega arith)
refusal-word Full = (number-word (refusal_number Full) (omega arith), omega arith)
refusal-word NotConnected = (number-word (refusal_number NotConnected) (omega arith), omega arith)
refusal-word Busy = (number-word (refusal_number Busy) (omega arith), omega arith)
refusal-word NotMaster = (number-word (refusal_number NotMaster) (omega arith), omega arith)
refusal-word InUse = (number-word (refusal_number InUse) (omega arith), omega arith)

reply-short : (reply : Reply) → IsReplyForm reply → AreWords (reply_words reply) × (length (reply_words reply) ≤ 3)
reply-short (Accepted number) h = ((omega arith, (number-word number (omega (arith, h)), tt)), omega arith)
reply-short (Refused refusal) h = ((omega arith, ((refusal-word refusal).0, ((refusal-word refusal).1, tt))), omega arith)
reply-short (Latency range) h = ((omega arith, (number-word range.min h.0, (number-word range.max h.1, tt))), omega arith)

abbrev IsShort : List ℕ → Type 0
IsShort text = length text ≤ 513

call-short : (call : PrintedCall) → IsCallLine call → IsShort (call_line call)
call-short call h =
    let r = reply-short call.reply h.reply in
    omega (arith, r.1, words-short (codes "call" ∷ decimal call.lane ∷ decimal call.index ∷ reply_words call.reply) (omega arith, (number-word call.lane h.lane, (number-word call.index h.index, r.0))))

state-short : (state : TransportState) → length (state_name state) ≤ 64
state-short Stopped = omega arith
state-short Starting = omega arith
state-short Rolling = omega arith

bbt-short : (place : Option Bbt) → IsBbtForm place → length (bbt_word place) ≤ 64
bbt-short None h = omega arith
bbt-short (Some place) h =
    let a : List ℕ = decimal place.bar in
    let b : List ℕ = decimal place.beat in
    let c : List ℕ = decimal place.tick in
    omega (
      arith,
      number-short place.bar h.0,
      number-short place.beat h.1,
      number-short place.tick h.2,
      length-append (a ++ codes "|" ++ b ++ codes "|") c,
      length-append (a ++ codes "|" ++ b) (codes "|"),
      length-append (a ++ codes "|") b,
      length-append a (codes "|"),
    )

cycle-short : (i : ℕ) (cycle : PrintedCycle) → i < 1000000 → IsCycleLine i cycle → IsShort (cycle_line cycle)
cycle-short i cycle low h =
    omega (
      arith,
      words-short (codes "cycle" ∷ decimal cycle.moment.cycle ∷ decimal cycle.number ∷ state_name cycle.moment.state ∷ decimal cycle.moment.frame ∷ bbt_word cycle.moment.bbt ∷ [])
          (omega arith, (number-word cycle.moment.cycle (omega (arith, low, h.cycle_is)), (number-word cycle.number h.number, (state-short cycle.moment.state, (number-word cycle.moment.frame h.frame, (bbt-short cycle.moment.bbt h.bbt, tt)))))),
    )

name-word : (name : List ℕ) → length name ≤ 32 → length name ≤ 64
name-word name h = omega (arith, h)

meter-short : (meter : PrintedMeter) → IsMeterLine meter → IsShort (meter_line meter)
meter-short meter h =
    omega (arith, words-short (codes "meter" ∷ meter.client ∷ decimal meter.peak ∷ []) (omega arith, (name-word meter.client (name-bytes meter.client h.client).0, (number-word meter.peak h.peak, tt))))

hex-length : (bytes : List ℕ) → length (flat_map hex_byte bytes) ≡ 2 * length bytes
hex-length [] = refl
hex-length (b ∷ bytes) = omega (arith, hex-length bytes, length-append (hex_byte b) (flat_map hex_byte bytes))

event-short : (event : PrintedEvent) → IsEventLine event → IsShort (event_line event)
event-short event h =
    let size : length (event_bytes event.logged.event) ≡ event.logged.event.size = event-size event.logged.event h.held in
    omega (
      arith,
      words-short (codes "midi" ∷ event.client ∷ decimal event.logged.cycle ∷ decimal event.logged.event.offset ∷ flat_map hex_byte (event_bytes event.logged.event) ∷ [])
          (omega arith, (name-word event.client (name-bytes event.client h.client).0, (number-word event.logged.cycle h.cycle, (number-word event.logged.event.offset h.offset, (omega (arith, hex-length (event_bytes event.logged.event), size, h.held.most), tt))))),
    )

overrun-short : (i : ℕ) (overrun : Overrun) → i < 1000000 → IsOverrunLine i overrun → IsShort (overrun_line overrun)
overrun-short i overrun low h =
    omega (
      arith,
      words-short (codes "overrun" ∷ decimal overrun.recorder ∷ decimal overrun.cycle ∷ decimal overrun.sent ∷ decimal overrun.taken ∷ [])
          (omega arith, (number-word overrun.recorder (omega (arith, low, h.recorder_is)), (number-word overrun.cycle h.cycle, (number-word overrun.sent h.sent, (number-word overrun.taken h.taken, tt))))),
    )

underrun-short : (i : ℕ) (underrun : Underrun) → i < 1000000 → IsUnderrunLine i underrun → IsShort (underrun_line underrun)
underrun-short i underrun low h =
    omega (
      arith,
      words-short (codes "underrun" ∷ decimal underrun.disk ∷ decimal underrun.cycle ∷ decimal underrun.sent ∷ decimal underrun.taken ∷ [])
          (omega arith, (number-word underrun.disk (omega (arith, low, h.disk_is)), (number-word underrun.cycle h.cycle, (number-word underrun.sent h.sent, (number-word underrun.taken h.taken, tt))))),
    )

module _ (script : Script) (script_is : IsScript script) where
  recorder-short : (i : ℕ) (recorder : PrintedRecorder) → i < 1000000 → IsRecorderLine script i recorder → Each IsShort (recorder_lines recorder)
  recorder-short i recorder low h = (
    omega (
      arith,
      words-short (codes "recorder" ∷ decimal recorder.recorder ∷ decimal recorder.blocks ∷ decimal (length recorder.overruns) ∷ [])
          (omega arith, (number-word recorder.recorder (omega (arith, low, h.number_is)), (number-word recorder.blocks h.blocks, (number-word (length recorder.overruns) (omega (arith, h.few, turns-few script script_is)), tt)))),
    ),
    Each-map IsShort overrun_line recorder.overruns (Each-weaker (IsOverrunLine i) (λ (o : Overrun). IsShort (overrun_line o)) (λ o q. overrun-short i o low q) recorder.overruns (Each-from_all (IsOverrunLine i) recorder.overruns h.each)),
  )

  disk-short : (i : ℕ) (disk : PrintedDisk) → i < 1000000 → IsDiskLine script i disk → Each IsShort (disk_lines disk)
  disk-short i disk low h = (
    omega (
      arith,
      words-short (codes "disk" ∷ decimal disk.disk ∷ decimal disk.blocks ∷ decimal (length disk.underruns) ∷ [])
          (omega arith, (number-word disk.disk (omega (arith, low, h.number_is)), (number-word disk.blocks h.blocks, (number-word (length disk.underruns) (omega (arith, h.few, turns-few script script_is)), tt)))),
    ),
    Each-map IsShort underrun_line disk.underruns (Each-weaker (IsUnderrunLine i) (λ (o : Underrun). IsShort (underrun_line o)) (λ o q. underrun-short i o low q) disk.underruns (Each-from_all (IsUnderrunLine i) disk.underruns h.each)),
  )

  -- what `IsForm` says but for the lengths gives the lengths
  pub lines-short : (report : Report) → Each IsCallLine report.calls → length report.cycles ≤ 1000000 → ((i : ℕ) (cycle : PrintedCycle) → slice_get report.cycles i ≡ Some cycle → IsCycleLine i cycle)
      → Each IsMeterLine report.meters → Each IsEventLine report.events
      → length report.recorders ≤ 4 → ((i : ℕ) (recorder : PrintedRecorder) → slice_get report.recorders i ≡ Some recorder → IsRecorderLine script i recorder)
      → length report.disks ≤ 4 → ((i : ℕ) (disk : PrintedDisk) → slice_get report.disks i ≡ Some disk → IsDiskLine script i disk)
      → All IsShort (report_lines report)
  lines-short report calls few cycles meters events some recorders many disks =
      let a : List (List ℕ) = line (codes "report" ∷ codes "1" ∷ []) ∷ map call_line report.calls in
      let b : List (List ℕ) = map cycle_line report.cycles in
      let c : List (List ℕ) = map meter_line report.meters in
      let d : List (List ℕ) = map event_line report.events in
      let e : List (List ℕ) = flat_map recorder_lines report.recorders in
      let f : List (List ℕ) = flat_map disk_lines report.disks in
      let g : List (List ℕ) = line (codes "end" ∷ []) ∷ [] in
      All-from_each IsShort (report_lines report)
      (Each-append IsShort (a ++ b ++ c ++ d ++ e ++ f) g
      (Each-append IsShort (a ++ b ++ c ++ d ++ e) f
      (Each-append IsShort (a ++ b ++ c ++ d) e
      (Each-append IsShort (a ++ b ++ c) d
      (Each-append IsShort (a ++ b) c
      (Each-append IsShort a b
      (omega arith, Each-map IsShort call_line report.calls (Each-weaker IsCallLine (λ (x : PrintedCall). IsShort (call_line x)) call-short report.calls calls))
      (Each-map IsShort cycle_line report.cycles (Each-from_get (λ (x : PrintedCycle). IsShort (cycle_line x)) report.cycles (λ i x q. cycle-short i x (omega (arith, few, place-inside report.cycles i x q)) (cycles i x q)))))
      (Each-map IsShort meter_line report.meters (Each-weaker IsMeterLine (λ (x : PrintedMeter). IsShort (meter_line x)) meter-short report.meters meters)))
      (Each-map IsShort event_line report.events (Each-weaker IsEventLine (λ (x : PrintedEvent). IsShort (event_line x)) event-short report.events events)))
      (Each-flat_map IsShort recorder_lines report.recorders (Each-from_get (λ (x : PrintedRecorder). Each IsShort (recorder_lines x)) report.recorders (λ i x q. recorder-short i x (omega (arith, some, place-inside report.recorders i x q)) (recorders i x q)))))
      (Each-flat_map IsShort disk_lines report.disks (Each-from_get (λ (x : PrintedDisk). Each IsShort (disk_lines x)) report.disks (λ i x q. disk-short i x (omega (arith, many, place-inside report.disks i x q)) (disks i x q)))))
      (omega arith, tt))
