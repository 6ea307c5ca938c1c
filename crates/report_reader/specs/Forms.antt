-- What lines may say, and their texts by the definitions.
--     line_text line      the line's text with its LF
--     IsLineForm line      its numbers have at most 19 digits, that of an accepted change is below 2^32
--     IsLineOf text read      the line of a text without its LF, or none where no line has this text
use Rattle.std.specs.Prelude.{◌≡◌, ℕ, ◌<◌, ◌^◌, List, [], ◌∷◌, ◌++◌, All, codes, decimal, Option, Some, None}
use Rattle.jack_types.specs.Events.{IsEvent, event_bytes}
use Rattle.jack_types.specs.Names.{IsClientName}
use Rattle.jack_types.specs.declared.moments.Bbt.{Bbt}
use Rattle.jack_types.specs.declared.replies.Reply.{Reply}
use Rattle.jack_types.specs.declared.replies.Reply.TheVariants.{Accepted, Refused, Latency}
use Rattle.session_model.specs.Reports.{line, PrintedCall, PrintedCycle, PrintedMeter, PrintedEvent, call_line, cycle_line, meter_line, event_line, overrun_line, underrun_line}
use Rattle.check_model.specs.Checking.{IsNumber}
use Rattle.report_reader.specs.declared.rows.CallLine.{CallLine}
use Rattle.report_reader.specs.declared.rows.Count.{Count}
use Rattle.report_reader.specs.declared.rows.CycleLine.{CycleLine}
use Rattle.report_reader.specs.declared.rows.EventLine.{EventLine}
use Rattle.report_reader.specs.declared.rows.Line.{Line}
use Rattle.report_reader.specs.declared.rows.Line.TheVariants.{Report, Call, Cycle, Meter, Midi, Recorder, Overrun, Disk, Underrun, End}
use Rattle.report_reader.specs.declared.rows.Loss.{Loss}
use Rattle.report_reader.specs.declared.rows.MeterLine.{MeterLine}
use Rattle.report_reader.specs.declared.rows.Place.{Place}
use Rattle.report_reader.specs.declared.rows.ReplyLine.{ReplyLine}
use Rattle.report_reader.specs.declared.rows.ReplyLine.TheVariants.{Accepted as AcceptedLine, Refused as RefusedLine, Latency as LatencyLine}

abbrev pub printed_reply : ReplyLine → Reply
printed_reply (AcceptedLine number) = Accepted number
printed_reply (RefusedLine refusal) = Refused refusal
printed_reply (LatencyLine min max) = Latency (record { min = min; max = max })

abbrev pub printed_call : CallLine → PrintedCall
printed_call call = record { lane = call.lane; index = call.index; reply = printed_reply call.reply }

-- what a line does not say is 0
abbrev pub printed_place : Option Place → Option Bbt
printed_place None = None
printed_place (Some place) = Some (record { bar = place.bar; beat = place.beat; tick = place.tick; mbpm = 0; beats = 0; ticks = 0 })

abbrev pub printed_cycle : CycleLine → PrintedCycle
printed_cycle cycle = record { number = cycle.number; moment = record { cycle = cycle.cycle; state = cycle.state; frame = cycle.frame; rate = 0; bbt = printed_place cycle.place } }

abbrev pub printed_meter : MeterLine → PrintedMeter
printed_meter meter = record { client = meter.client; peak = meter.peak }

abbrev pub printed_event : EventLine → PrintedEvent
printed_event event = record { client = event.client; logged = record { cycle = event.cycle; event = record { offset = event.offset; size = event.event.size; bytes = event.event.bytes } } }

abbrev pub count_words : Count → List (List ℕ)
count_words count = decimal count.file ∷ decimal count.blocks ∷ decimal count.losses ∷ []

abbrev pub line_text : Line → List ℕ
line_text Report = line (codes "report" ∷ codes "1" ∷ [])
line_text (Call call) = call_line (printed_call call)
line_text (Cycle cycle) = cycle_line (printed_cycle cycle)
line_text (Meter meter) = meter_line (printed_meter meter)
line_text (Midi event) = event_line (printed_event event)
line_text (Recorder count) = line (codes "recorder" ∷ count_words count)
line_text (Overrun loss) = overrun_line (record { recorder = loss.file; cycle = loss.cycle; sent = loss.sent; taken = loss.taken })
line_text (Disk count) = line (codes "disk" ∷ count_words count)
line_text (Underrun loss) = underrun_line (record { disk = loss.file; cycle = loss.cycle; sent = loss.sent; taken = loss.taken })
line_text End = line (codes "end" ∷ [])

abbrev pub IsReply : ReplyLine → Type 0
IsReply (AcceptedLine number) = number < 2 ^ 32
IsReply (RefusedLine refusal) = Unit {0}
IsReply (LatencyLine min max) = IsNumber min × IsNumber max

abbrev pub IsCall : CallLine → Type 0
IsCall call = IsNumber call.lane × IsNumber call.index × IsReply call.reply

abbrev pub IsThree : Place → Type 0
IsThree place = IsNumber place.bar × IsNumber place.beat × IsNumber place.tick

abbrev pub IsPlace : Option Place → Type 0
IsPlace None = Unit {0}
IsPlace (Some place) = IsThree place

abbrev pub IsCycle : CycleLine → Type 0
IsCycle cycle = IsNumber cycle.cycle × IsNumber cycle.number × IsNumber cycle.frame × IsPlace cycle.place

abbrev pub IsMeter : MeterLine → Type 0
IsMeter meter = IsClientName meter.client × IsNumber meter.peak

abbrev pub IsMidi : EventLine → Type 0
IsMidi event = IsClientName event.client × IsNumber event.cycle × IsNumber event.offset × (event.event.offset ≡ 0) × IsEvent event.event × All (λ b. b < 256) (event_bytes event.event)

abbrev pub IsCount : Count → Type 0
IsCount count = IsNumber count.file × IsNumber count.blocks × IsNumber count.losses

abbrev pub IsLoss : Loss → Type 0
IsLoss loss = IsNumber loss.file × IsNumber loss.cycle × IsNumber loss.sent × IsNumber loss.taken

abbrev pub IsLineForm : Line → Type 0
IsLineForm Report = Unit {0}
IsLineForm (Call call) = IsCall call
IsLineForm (Cycle cycle) = IsCycle cycle
IsLineForm (Meter meter) = IsMeter meter
IsLineForm (Midi event) = IsMidi event
IsLineForm (Recorder count) = IsCount count
IsLineForm (Overrun loss) = IsLoss loss
IsLineForm (Disk count) = IsCount count
IsLineForm (Underrun loss) = IsLoss loss
IsLineForm End = Unit {0}

abbrev pub IsLineOf : List ℕ → Option Line → Type 0
IsLineOf text (Some read) = IsLineForm read × (text ++ 10 ∷ [] ≡ line_text read)
IsLineOf text None = (other : Line) → IsLineForm other → text ++ 10 ∷ [] ≡ line_text other → ⊥
