-- Reports back from their lines.
--     Same a b      two reports say the same, as far as their lines go
--     Form-same      reports of the form with equal lines say the same
use Rattle.std.proofs.Common.{◌≡◌, ℕ, zero, suc, ◌+◌, ◌-◌, ◌/◌, ◌%◌, ◌^◌, ◌<◌, ◌≤◌, ◌≢◌, true, cond, ◌==◌, nat_lt, List, [], ◌∷◌, ◌++◌, length, map, flat_map, filter, get_or, replicate, slice_get, decimal, codes, All, Some, None, refl, sym, ◌∙◌, ap, ap₂, arith, append-nil, length-append, length-take-le}
use Rattle.jack_types.specs.Events.{IsEvent, event_bytes}
use Rattle.jack_types.specs.Held.{filled_to}
use Rattle.jack_types.specs.Refusals.{refusal_number, refusal_name}
use Rattle.jack_types.specs.declared.events.Event.{Event}
use Rattle.jack_types.specs.declared.replies.Overrun.{Overrun}
use Rattle.jack_types.specs.declared.replies.Refusal.{Refusal}
use Rattle.jack_types.specs.declared.replies.Refusal.TheVariants.{NoClient, NoPort, IsOpen, IsSystem, NameTaken, AlreadyActive, NotActive, ClientsFull, PortsFull, NoSource, NoDestination, NotOutput, NotInput, TypeDiffers, Inactive, Exists, Full, NotConnected, Busy, NotMaster, InUse}
use Rattle.jack_types.specs.declared.replies.Reply.{Reply}
use Rattle.jack_types.specs.declared.replies.Reply.TheVariants.{Accepted, Refused, Latency}
use Rattle.jack_types.specs.declared.replies.Underrun.{Underrun}
use Rattle.session_model.specs.Grammar.{IsScript}
use Rattle.session_model.specs.Reports.{line, reply_words, PrintedCall, PrintedCycle, PrintedMeter, PrintedEvent, PrintedRecorder, PrintedDisk, Report, call_line, cycle_line, meter_line, event_line, overrun_line, recorder_lines, underrun_line, disk_lines, report_lines, hex_digit, hex_byte}
use Rattle.session_model.specs.Scripts.{Script}
use Rattle.grammar_laws.specs.session_laws.proofs.ListLemmas.{Each, Each-weaker, Each-map, Each-all}
use Rattle.report_texts.proofs.ReportLemmas.{IsSmallOverrun, IsSmallUnderrun, lacks, images-same, first-same, rest-same, none-cons, in_parts, part_1, part_2, part_5, part_6, from_part, calls_of_part, cycles_of_part, meters_of_part, events_of_part, recorders_of_part, disks_of_part, next-word, next-number, last-number, map-same_items, runs-same, StartsOff, is_overrun_line, is_underrun_line, overrun-same, underrun-same, cycle-same, part_of, taken_all, taken_none, reply_some}
use Rattle.grammar_laws.specs.session_laws.proofs.TextLemmas.{cut-same, Lacks-hex}
use Rattle.check_model.specs.Checking.{IsNumber, IsReplyForm, IsCallLine, IsMeterLine, IsEventLine, IsOverrunLine, IsUnderrunLine, IsRecorderLine, IsDiskLine, IsForm}
use Rattle.check_laws.proofs.NameLemmas.{name-lacks}

-- ---- lists

pub Each-from_all : {X : Type 0} (P : X → Type 0) (xs : List X) → All P xs → Each P xs
Each-from_all P [] h = tt
Each-from_all P (x ∷ xs) h = (h 0 x (omega arith), Each-from_all P xs (λ k d b. h (suc k) d (omega (arith, b))))

pub Each-from_get : {X : Type 0} (P : X → Type 0) (xs : List X) → ((i : ℕ) (x : X) → slice_get xs i ≡ Some x → P x) → Each P xs
Each-from_get P [] h = tt
Each-from_get P (x ∷ xs) h = (h 0 x refl, Each-from_get P xs (λ i y e. h (suc i) y e))

pub place-inside : {X : Type 0} (xs : List X) (i : ℕ) (x : X) → slice_get xs i ≡ Some x → i < length xs
place-inside [] i x e = absurd (none x e)
  where
    none : {X : Type 0} (x : X) → None ≡ Some x → ⊥
    none x q = cc
place-inside (y ∷ xs) zero x e = omega arith
place-inside (y ∷ xs) (suc i) x e = omega (arith, place-inside xs i x e)

pub small : (n : ℕ) → IsNumber n → n < 2 ^ 64
small n h = omega (arith, h)

-- ---- replies

refusal_small : (refusal : Refusal) → refusal_number refusal < 2 ^ 64
refusal_small NoClient = omega arith
refusal_small NoPort = omega arith
refusal_small IsOpen = omega arith
refusal_small IsSystem = omega arith
refusal_small NameTaken = omega arith
refusal_small AlreadyActive = omega arith
refusal_small NotActive = omega arith
refusal_small ClientsFull = omega arith
refusal_small PortsFull = omega arith
refusal_small NoSource = omega arith
refusal_small NoDestination = omega arith
refusal_small NotOutput = omega arith
refusal_small NotInput = omega arith
refusal_small TypeDiffers = omega arith
refusal_small Inactive = omega arith
refusal_small Exists = omega arith
refusal_small Full = omega arith
refusal_small NotConnected = omega arith
refusal_small Busy = omega arith
refusal_small NotMaster = omega arith
refusal_small InUse = omega arith

abbrev refusal_of : ℕ → Refusal
refusal_of n =
    cond (n == 1) NoClient (
    cond (n == 2) NoPort (
    cond (n == 3) IsOpen (
    cond (n == 4) IsSystem (
    cond (n == 5) NameTaken (
    cond (n == 6) AlreadyActive (
    cond (n == 7) NotActive (
    cond (n == 8) ClientsFull (
    cond (n == 9) PortsFull (
    cond (n == 10) NoSource (
    cond (n == 11) NoDestination (
    cond (n == 12) NotOutput (
    cond (n == 13) NotInput (
    cond (n == 14) TypeDiffers (
    cond (n == 15) Inactive (
    cond (n == 16) Exists (
    cond (n == 17) Full (
    cond (n == 18) NotConnected (
    cond (n == 19) Busy (
    cond (n == 20) NotMaster (
    InUse))))))))))))))))))))

refusal_back : (refusal : Refusal) → refusal_of (refusal_number refusal) ≡ refusal
refusal_back NoClient = refl
refusal_back NoPort = refl
refusal_back IsOpen = refl
refusal_back IsSystem = refl
refusal_back NameTaken = refl
refusal_back AlreadyActive = refl
refusal_back NotActive = refl
refusal_back ClientsFull = refl
refusal_back PortsFull = refl
refusal_back NoSource = refl
refusal_back NoDestination = refl
refusal_back NotOutput = refl
refusal_back NotInput = refl
refusal_back TypeDiffers = refl
refusal_back Inactive = refl
refusal_back Exists = refl
refusal_back Full = refl
refusal_back NotConnected = refl
refusal_back Busy = refl
refusal_back NotMaster = refl
refusal_back InUse = refl

differ-first : (a b : List ℕ) → get_or a 0 0 ≢ get_or b 0 0 → a ≡ b → ⊥
differ-first a b h e = h (ap (λ t. get_or t 0 0) e)

reply-same : (r s : Reply) → IsReplyForm r → IsReplyForm s → line (reply_words r) ≡ line (reply_words s) → r ≡ s
reply-same (Accepted m) (Accepted n) h k e =
    ap Accepted (last-number m n (omega (arith, h)) (omega (arith, k)) (next-word (codes "ok") (codes "ok") (decimal m) (decimal n) [] [] (lacks 32 (codes "ok") refl) (lacks 32 (codes "ok") refl) e).1)
reply-same (Refused r) (Refused s) h k e =
    let f = next-word (codes "refused") (codes "refused") (decimal (refusal_number r)) (decimal (refusal_number s)) (refusal_name r ∷ []) (refusal_name s ∷ []) (lacks 32 (codes "refused") refl) (lacks 32 (codes "refused") refl) e in
    let g = next-number (refusal_number r) (refusal_number s) (refusal_name r) (refusal_name s) [] [] (refusal_small r) (refusal_small s) f.1 in
    ap Refused (sym (refusal_back r) ∙ ap refusal_of g.0 ∙ refusal_back s)
reply-same (Latency a) (Latency b) h k e =
    let f = next-word (codes "latency") (codes "latency") (decimal a.min) (decimal b.min) (decimal a.max ∷ []) (decimal b.max ∷ []) (lacks 32 (codes "latency") refl) (lacks 32 (codes "latency") refl) e in
    let g = next-number a.min b.min (decimal a.max) (decimal b.max) [] [] (small a.min h.0) (small b.min k.0) f.1 in
    let l = last-number a.max b.max (small a.max h.1) (small b.max k.1) g.1 in
    ap Latency (λ i. record { min = g.0 i; max = l i })
reply-same (Accepted m) (Refused s) h k e = absurd (differ-first (line (reply_words (Accepted m))) (line (reply_words (Refused s))) (λ q. omega (arith, q)) e)
reply-same (Accepted m) (Latency b) h k e = absurd (differ-first (line (reply_words (Accepted m))) (line (reply_words (Latency b))) (λ q. omega (arith, q)) e)
reply-same (Refused r) (Accepted n) h k e = absurd (differ-first (line (reply_words (Refused r))) (line (reply_words (Accepted n))) (λ q. omega (arith, q)) e)
reply-same (Refused r) (Latency b) h k e = absurd (differ-first (line (reply_words (Refused r))) (line (reply_words (Latency b))) (λ q. omega (arith, q)) e)
reply-same (Latency a) (Accepted n) h k e = absurd (differ-first (line (reply_words (Latency a))) (line (reply_words (Accepted n))) (λ q. omega (arith, q)) e)
reply-same (Latency a) (Refused s) h k e = absurd (differ-first (line (reply_words (Latency a))) (line (reply_words (Refused s))) (λ q. omega (arith, q)) e)

call-whole : (a b : PrintedCall) → IsCallLine a → IsCallLine b → call_line a ≡ call_line b → a ≡ b
call-whole a b p q e =
    let f = next-word (codes "call") (codes "call") (decimal a.lane) (decimal b.lane) (decimal a.index ∷ reply_words a.reply) (decimal b.index ∷ reply_words b.reply) (lacks 32 (codes "call") refl) (lacks 32 (codes "call") refl) e in
    let g = next-number a.lane b.lane (decimal a.index) (decimal b.index) (reply_words a.reply) (reply_words b.reply) (small a.lane p.lane) (small b.lane q.lane) f.1 in
    let u = reply_some a.reply in
    let v = reply_some b.reply in
    let h : line (decimal a.index ∷ u.0 ∷ u.1) ≡ line (decimal b.index ∷ v.0 ∷ v.1) = ap (λ ws. line (decimal a.index ∷ ws)) (sym u.2) ∙ g.1 ∙ ap (λ ws. line (decimal b.index ∷ ws)) v.2 in
    let k = next-number a.index b.index u.0 v.0 u.1 v.1 (small a.index p.index) (small b.index q.index) h in
    let l : line (reply_words a.reply) ≡ line (reply_words b.reply) = ap line u.2 ∙ k.1 ∙ ap line (sym v.2) in
    let r : a.reply ≡ b.reply = reply-same a.reply b.reply p.reply q.reply l in
    (λ i. record { lane = g.0 i; index = k.0 i; reply = r i })

number-of_cycle : (a b : PrintedCycle) → IsNumber a.number → IsNumber b.number → cycle_line a ≡ cycle_line b → a.number ≡ b.number
number-of_cycle a b p q e = cycle-same a b (small a.number p) (small b.number q) e

-- ---- meters and events

meter-whole : (a b : PrintedMeter) → IsMeterLine a → IsMeterLine b → meter_line a ≡ meter_line b → a ≡ b
meter-whole a b p q e =
    let f = next-word (codes "meter") (codes "meter") a.client b.client (decimal a.peak ∷ []) (decimal b.peak ∷ []) (lacks 32 (codes "meter") refl) (lacks 32 (codes "meter") refl) e in
    let g = next-word a.client b.client (decimal a.peak) (decimal b.peak) [] [] (name-lacks 32 a.client refl p.client) (name-lacks 32 b.client refl q.client) f.1 in
    let l = last-number a.peak b.peak (small a.peak p.peak) (small b.peak q.peak) g.1 in
    (λ i. record { client = g.0 i; peak = l i })

abbrev hex_value : ℕ → ℕ
hex_value c = cond (nat_lt c 97) (c - 48) (c - 87)

hex-back : (n : ℕ) → n < 16 → hex_value (hex_digit n) ≡ n
hex-back zero h = refl
hex-back (suc zero) h = refl
hex-back (suc (suc zero)) h = refl
hex-back (suc (suc (suc zero))) h = refl
hex-back (suc (suc (suc (suc zero)))) h = refl
hex-back (suc (suc (suc (suc (suc zero))))) h = refl
hex-back (suc (suc (suc (suc (suc (suc zero)))))) h = refl
hex-back (suc (suc (suc (suc (suc (suc (suc zero))))))) h = refl
hex-back (suc (suc (suc (suc (suc (suc (suc (suc zero)))))))) h = refl
hex-back (suc (suc (suc (suc (suc (suc (suc (suc (suc zero))))))))) h = refl
hex-back (suc (suc (suc (suc (suc (suc (suc (suc (suc (suc zero)))))))))) h = refl
hex-back (suc (suc (suc (suc (suc (suc (suc (suc (suc (suc (suc zero))))))))))) h = refl
hex-back (suc (suc (suc (suc (suc (suc (suc (suc (suc (suc (suc (suc zero)))))))))))) h = refl
hex-back (suc (suc (suc (suc (suc (suc (suc (suc (suc (suc (suc (suc (suc zero))))))))))))) h = refl
hex-back (suc (suc (suc (suc (suc (suc (suc (suc (suc (suc (suc (suc (suc (suc zero)))))))))))))) h = refl
hex-back (suc (suc (suc (suc (suc (suc (suc (suc (suc (suc (suc (suc (suc (suc (suc zero))))))))))))))) h = refl
hex-back (suc (suc (suc (suc (suc (suc (suc (suc (suc (suc (suc (suc (suc (suc (suc (suc n)))))))))))))))) h = absurd (omega (arith, h))

hex-same : (xs ys : List ℕ) → Each (λ b. b < 256) xs → Each (λ b. b < 256) ys → flat_map hex_byte xs ≡ flat_map hex_byte ys → xs ≡ ys
hex-same [] [] h k e = refl
hex-same [] (y ∷ ys) h k e = absurd (none-cons (hex_digit (y / 16)) (hex_digit (y % 16) ∷ flat_map hex_byte ys) e)
hex-same (x ∷ xs) [] h k e = absurd (none-cons (hex_digit (x / 16)) (hex_digit (x % 16) ∷ flat_map hex_byte xs) (sym e))
hex-same (x ∷ xs) (y ∷ ys) h k e =
    let high : hex_digit (x / 16) ≡ hex_digit (y / 16) = first-same (hex_digit (x / 16)) (hex_digit (y / 16)) (hex_digit (x % 16) ∷ flat_map hex_byte xs) (hex_digit (y % 16) ∷ flat_map hex_byte ys) e in
    let rest : hex_digit (x % 16) ∷ flat_map hex_byte xs ≡ hex_digit (y % 16) ∷ flat_map hex_byte ys = rest-same (hex_digit (x / 16)) (hex_digit (y / 16)) (hex_digit (x % 16) ∷ flat_map hex_byte xs) (hex_digit (y % 16) ∷ flat_map hex_byte ys) e in
    let low : hex_digit (x % 16) ≡ hex_digit (y % 16) = first-same (hex_digit (x % 16)) (hex_digit (y % 16)) (flat_map hex_byte xs) (flat_map hex_byte ys) rest in
    let a : x / 16 ≡ y / 16 = sym (hex-back (x / 16) (omega (arith, h.0))) ∙ ap hex_value high ∙ hex-back (y / 16) (omega (arith, k.0)) in
    let b : x % 16 ≡ y % 16 = sym (hex-back (x % 16) (omega arith)) ∙ ap hex_value low ∙ hex-back (y % 16) (omega arith) in
    let one : x ≡ y = omega (arith, a, b) in
    ap₂ (λ z zs. z ∷ zs) one (hex-same xs ys h.1 k.1 (rest-same (hex_digit (x % 16)) (hex_digit (y % 16)) (flat_map hex_byte xs) (flat_map hex_byte ys) rest))

-- an event's size is the number of its bytes
pub event-size : (event : Event) → IsEvent event → length (event_bytes event) ≡ event.size
event-size event h = length-take-le event.size event.bytes.0 (long (length event.bytes.0) refl)
  where
    room : length event.bytes.0 ≡ length (event_bytes event) + length {A = ℕ} (replicate (16 - length (event_bytes event)) 0)
    room = ap length h.padding ∙ length-append (event_bytes event) (replicate (16 - length (event_bytes event)) 0)

    so_many : (n : ℕ) → length {A = ℕ} (replicate n 0) ≡ n
    so_many zero = refl
    so_many (suc n) = ap suc (so_many n)

    long : (n : ℕ) → length event.bytes.0 ≡ n → event.size ≤ length event.bytes.0
    long n e = omega (arith, room, so_many (16 - length (event_bytes event)), h.most)

event-whole : (a b : Event) → IsEvent a → IsEvent b → a.offset ≡ b.offset → event_bytes a ≡ event_bytes b → a ≡ b
event-whole a b h k offsets bytes =
    let size : a.size ≡ b.size = sym (event-size a h) ∙ ap length bytes ∙ event-size b k in
    let all : a.bytes.0 ≡ b.bytes.0 = h.padding ∙ ap (filled_to 0 16) bytes ∙ sym k.padding in
    (λ i. record { offset = offsets i; size = size i; bytes = record { 0 = all i } })

midi-whole : (a b : PrintedEvent) → IsEventLine a → IsEventLine b → event_line a ≡ event_line b → a ≡ b
midi-whole a b p q e =
    let x : List ℕ = flat_map hex_byte (event_bytes a.logged.event) in
    let y : List ℕ = flat_map hex_byte (event_bytes b.logged.event) in
    let f = next-word (codes "midi") (codes "midi") a.client b.client (decimal a.logged.cycle ∷ decimal a.logged.event.offset ∷ x ∷ []) (decimal b.logged.cycle ∷ decimal b.logged.event.offset ∷ y ∷ []) (lacks 32 (codes "midi") refl) (lacks 32 (codes "midi") refl) e in
    let g = next-word a.client b.client (decimal a.logged.cycle) (decimal b.logged.cycle) (decimal a.logged.event.offset ∷ x ∷ []) (decimal b.logged.event.offset ∷ y ∷ []) (name-lacks 32 a.client refl p.client) (name-lacks 32 b.client refl q.client) f.1 in
    let h = next-number a.logged.cycle b.logged.cycle (decimal a.logged.event.offset) (decimal b.logged.event.offset) (x ∷ []) (y ∷ []) (small a.logged.cycle p.cycle) (small b.logged.cycle q.cycle) g.1 in
    let k = next-number a.logged.event.offset b.logged.event.offset x y [] [] (small a.logged.event.offset p.offset) (small b.logged.event.offset q.offset) h.1 in
    let l = cut-same 10 x y [] [] (Lacks-hex (event_bytes a.logged.event)) (Lacks-hex (event_bytes b.logged.event)) k.1 in
    let bytes = hex-same (event_bytes a.logged.event) (event_bytes b.logged.event) (Each-from_all (λ c. c < 256) (event_bytes a.logged.event) p.bytes) (Each-from_all (λ c. c < 256) (event_bytes b.logged.event) q.bytes) l.0 in
    let one : a.logged.event ≡ b.logged.event = event-whole a.logged.event b.logged.event p.held q.held k.0 bytes in
    (λ i. record { client = g.0 i; logged = record { cycle = h.0 i; event = one i } })

-- ---- recorders and disks

pub record IsSmallRecorder (recorder : PrintedRecorder) : Type 0 where
  pub number : recorder.recorder < 2 ^ 64
  pub blocks : recorder.blocks < 2 ^ 64
  pub each : Each IsSmallOverrun recorder.overruns

pub record IsSmallDisk (disk : PrintedDisk) : Type 0 where
  pub number : disk.disk < 2 ^ 64
  pub blocks : disk.blocks < 2 ^ 64
  pub each : Each IsSmallUnderrun disk.underruns

recorders-whole : (a b : List PrintedRecorder) → Each IsSmallRecorder a → Each IsSmallRecorder b → flat_map recorder_lines a ≡ flat_map recorder_lines b → a ≡ b
recorders-whole [] [] h k e = refl
recorders-whole [] (y ∷ b) h k e = absurd (none-cons (line (codes "recorder" ∷ decimal y.recorder ∷ decimal y.blocks ∷ decimal (length y.overruns) ∷ [])) (map overrun_line y.overruns ++ flat_map recorder_lines b) e)
recorders-whole (x ∷ a) [] h k e = absurd (none-cons (line (codes "recorder" ∷ decimal x.recorder ∷ decimal x.blocks ∷ decimal (length x.overruns) ∷ [])) (map overrun_line x.overruns ++ flat_map recorder_lines a) (sym e))
recorders-whole (x ∷ a) (y ∷ b) h k e =
    let head : line (codes "recorder" ∷ decimal x.recorder ∷ decimal x.blocks ∷ decimal (length x.overruns) ∷ []) ≡ line (codes "recorder" ∷ decimal y.recorder ∷ decimal y.blocks ∷ decimal (length y.overruns) ∷ []) =
    first-same (line (codes "recorder" ∷ decimal x.recorder ∷ decimal x.blocks ∷ decimal (length x.overruns) ∷ [])) (line (codes "recorder" ∷ decimal y.recorder ∷ decimal y.blocks ∷ decimal (length y.overruns) ∷ [])) (map overrun_line x.overruns ++ flat_map recorder_lines a) (map overrun_line y.overruns ++ flat_map recorder_lines b) e in
    let tail : map overrun_line x.overruns ++ flat_map recorder_lines a ≡ map overrun_line y.overruns ++ flat_map recorder_lines b =
    rest-same (line (codes "recorder" ∷ decimal x.recorder ∷ decimal x.blocks ∷ decimal (length x.overruns) ∷ [])) (line (codes "recorder" ∷ decimal y.recorder ∷ decimal y.blocks ∷ decimal (length y.overruns) ∷ [])) (map overrun_line x.overruns ++ flat_map recorder_lines a) (map overrun_line y.overruns ++ flat_map recorder_lines b) e in
    let all : (os : List Overrun) → Each (λ text. is_overrun_line text ≡ true) (map overrun_line os) = λ os.
    Each-map (λ text. is_overrun_line text ≡ true) overrun_line os (Each-all (λ one. is_overrun_line (overrun_line one) ≡ true) (λ one. refl) os) in
    let cut = runs-same is_overrun_line (map overrun_line x.overruns) (map overrun_line y.overruns) (flat_map recorder_lines a) (flat_map recorder_lines b) (all x.overruns) (all y.overruns) (off a) (off b) tail in
    let here : x.overruns ≡ y.overruns =
    sym (map-same_items x.overruns) ∙ images-same overrun_line (λ one. one) IsSmallOverrun overrun-same x.overruns y.overruns (h.0).each (k.0).each cut.0 ∙ map-same_items y.overruns in
    let f = next-word (codes "recorder") (codes "recorder") (decimal x.recorder) (decimal y.recorder) (decimal x.blocks ∷ decimal (length x.overruns) ∷ []) (decimal y.blocks ∷ decimal (length y.overruns) ∷ []) (lacks 32 (codes "recorder") refl) (lacks 32 (codes "recorder") refl) head in
    let g = next-number x.recorder y.recorder (decimal x.blocks) (decimal y.blocks) (decimal (length x.overruns) ∷ []) (decimal (length y.overruns) ∷ []) (h.0).number (k.0).number f.1 in
    let l = next-number x.blocks y.blocks (decimal (length x.overruns)) (decimal (length y.overruns)) [] [] (h.0).blocks (k.0).blocks g.1 in
    let one : x ≡ y = (λ i. record { recorder = g.0 i; blocks = l.0 i; overruns = here i }) in
    ap₂ (λ z zs. z ∷ zs) one (recorders-whole a b h.1 k.1 cut.1)
  where
    off : (rs : List PrintedRecorder) → StartsOff is_overrun_line (flat_map recorder_lines rs)
    off [] = tt
    off (r ∷ rs) = refl

disks-whole : (a b : List PrintedDisk) → Each IsSmallDisk a → Each IsSmallDisk b → flat_map disk_lines a ≡ flat_map disk_lines b → a ≡ b
disks-whole [] [] h k e = refl
disks-whole [] (y ∷ b) h k e = absurd (none-cons (line (codes "disk" ∷ decimal y.disk ∷ decimal y.blocks ∷ decimal (length y.underruns) ∷ [])) (map underrun_line y.underruns ++ flat_map disk_lines b) e)
disks-whole (x ∷ a) [] h k e = absurd (none-cons (line (codes "disk" ∷ decimal x.disk ∷ decimal x.blocks ∷ decimal (length x.underruns) ∷ [])) (map underrun_line x.underruns ++ flat_map disk_lines a) (sym e))
disks-whole (x ∷ a) (y ∷ b) h k e =
    let head : line (codes "disk" ∷ decimal x.disk ∷ decimal x.blocks ∷ decimal (length x.underruns) ∷ []) ≡ line (codes "disk" ∷ decimal y.disk ∷ decimal y.blocks ∷ decimal (length y.underruns) ∷ []) =
    first-same (line (codes "disk" ∷ decimal x.disk ∷ decimal x.blocks ∷ decimal (length x.underruns) ∷ [])) (line (codes "disk" ∷ decimal y.disk ∷ decimal y.blocks ∷ decimal (length y.underruns) ∷ [])) (map underrun_line x.underruns ++ flat_map disk_lines a) (map underrun_line y.underruns ++ flat_map disk_lines b) e in
    let tail : map underrun_line x.underruns ++ flat_map disk_lines a ≡ map underrun_line y.underruns ++ flat_map disk_lines b =
    rest-same (line (codes "disk" ∷ decimal x.disk ∷ decimal x.blocks ∷ decimal (length x.underruns) ∷ [])) (line (codes "disk" ∷ decimal y.disk ∷ decimal y.blocks ∷ decimal (length y.underruns) ∷ [])) (map underrun_line x.underruns ++ flat_map disk_lines a) (map underrun_line y.underruns ++ flat_map disk_lines b) e in
    let all : (os : List Underrun) → Each (λ text. is_underrun_line text ≡ true) (map underrun_line os) = λ os.
    Each-map (λ text. is_underrun_line text ≡ true) underrun_line os (Each-all (λ one. is_underrun_line (underrun_line one) ≡ true) (λ one. refl) os) in
    let cut = runs-same is_underrun_line (map underrun_line x.underruns) (map underrun_line y.underruns) (flat_map disk_lines a) (flat_map disk_lines b) (all x.underruns) (all y.underruns) (off a) (off b) tail in
    let here : x.underruns ≡ y.underruns =
    sym (map-same_items x.underruns) ∙ images-same underrun_line (λ one. one) IsSmallUnderrun underrun-same x.underruns y.underruns (h.0).each (k.0).each cut.0 ∙ map-same_items y.underruns in
    let f = next-word (codes "disk") (codes "disk") (decimal x.disk) (decimal y.disk) (decimal x.blocks ∷ decimal (length x.underruns) ∷ []) (decimal y.blocks ∷ decimal (length y.underruns) ∷ []) (lacks 32 (codes "disk") refl) (lacks 32 (codes "disk") refl) head in
    let g = next-number x.disk y.disk (decimal x.blocks) (decimal y.blocks) (decimal (length x.underruns) ∷ []) (decimal (length y.underruns) ∷ []) (h.0).number (k.0).number f.1 in
    let l = next-number x.blocks y.blocks (decimal (length x.underruns)) (decimal (length y.underruns)) [] [] (h.0).blocks (k.0).blocks g.1 in
    let one : x ≡ y = (λ i. record { disk = g.0 i; blocks = l.0 i; underruns = here i }) in
    ap₂ (λ z zs. z ∷ zs) one (disks-whole a b h.1 k.1 cut.1)
  where
    off : (rs : List PrintedDisk) → StartsOff is_underrun_line (flat_map disk_lines rs)
    off [] = tt
    off (r ∷ rs) = refl

-- ---- the parts that are left

part_3 : (report : Report) → from_part report 3 (report_lines report) ≡ map meter_line report.meters
part_3 report =
    in_parts report 3
    ∙ rw (
      taken_none 3 1 (map call_line report.calls) (λ e. omega arith) (calls_of_part report),
      taken_none 3 2 (map cycle_line report.cycles) (λ e. omega arith) (cycles_of_part report),
      taken_all 3 (map meter_line report.meters) (meters_of_part report),
      taken_none 3 4 (map event_line report.events) (λ e. omega arith) (events_of_part report),
      taken_none 3 5 (flat_map recorder_lines report.recorders) (λ e. omega arith) (recorders_of_part report),
      taken_none 3 6 (flat_map disk_lines report.disks) (λ e. omega arith) (disks_of_part report),
    ) (simp append-nil)

part_4 : (report : Report) → from_part report 4 (report_lines report) ≡ map event_line report.events
part_4 report =
    in_parts report 4
    ∙ rw (
      taken_none 4 1 (map call_line report.calls) (λ e. omega arith) (calls_of_part report),
      taken_none 4 2 (map cycle_line report.cycles) (λ e. omega arith) (cycles_of_part report),
      taken_none 4 3 (map meter_line report.meters) (λ e. omega arith) (meters_of_part report),
      taken_all 4 (map event_line report.events) (events_of_part report),
      taken_none 4 5 (flat_map recorder_lines report.recorders) (λ e. omega arith) (recorders_of_part report),
      taken_none 4 6 (flat_map disk_lines report.disks) (λ e. omega arith) (disks_of_part report),
    ) (simp append-nil)

-- ---- reports

pub record Same (a b : Report) : Type 0 where
  pub calls : a.calls ≡ b.calls
  pub numbers : map (λ (cycle : PrintedCycle). cycle.number) a.cycles ≡ map (λ (cycle : PrintedCycle). cycle.number) b.cycles
  pub lines : map cycle_line a.cycles ≡ map cycle_line b.cycles
  pub meters : a.meters ≡ b.meters
  pub events : a.events ≡ b.events
  pub recorders : a.recorders ≡ b.recorders
  pub disks : a.disks ≡ b.disks

whole : {X : Type 0} (f : X → List ℕ) (P : X → Type 0) → ((a b : X) → P a → P b → f a ≡ f b → a ≡ b) → (xs ys : List X) → Each P xs → Each P ys → map f xs ≡ map f ys → xs ≡ ys
whole f P tell xs ys h k e = sym (map-same_items xs) ∙ images-same f (λ x. x) P tell xs ys h k e ∙ map-same_items ys

module _ (script : Script) (script_is : IsScript script) (report : Report) (form : IsForm script report) where
  pub cycles-small : Each (λ (cycle : PrintedCycle). IsNumber cycle.number) report.cycles
  cycles-small = Each-from_get (λ (cycle : PrintedCycle). IsNumber cycle.number) report.cycles (λ i cycle e. (form.cycle_each i cycle e).number)

  pub recorders-small : Each IsSmallRecorder report.recorders
  recorders-small =
      Each-from_get IsSmallRecorder report.recorders
      (λ i recorder e.
      let f : IsRecorderLine script i recorder = form.recorder_each i recorder e in
      let inside : i < length report.recorders = place-inside report.recorders i recorder e in
      let low : recorder.recorder < 2 ^ 64 = omega (arith, f.number_is, inside, form.recorders, script_is.header.few_recorders) in
      record {
        number = low;
        blocks = small recorder.blocks f.blocks;
        each = Each-weaker (IsOverrunLine i) IsSmallOverrun
            (λ overrun o. record { recorder = omega (arith, low, o.recorder_is, f.number_is); cycle = small overrun.cycle o.cycle; sent = small overrun.sent o.sent; taken = small overrun.taken o.taken })
            recorder.overruns (Each-from_all (IsOverrunLine i) recorder.overruns f.each);
      })

  pub disks-small : Each IsSmallDisk report.disks
  disks-small =
      Each-from_get IsSmallDisk report.disks
      (λ i disk e.
      let f : IsDiskLine script i disk = form.disk_each i disk e in
      let inside : i < length report.disks = place-inside report.disks i disk e in
      let low : disk.disk < 2 ^ 64 = omega (arith, f.number_is, inside, form.disks, script_is.header.few_disks) in
      record {
        number = low;
        blocks = small disk.blocks f.blocks;
        each = Each-weaker (IsUnderrunLine i) IsSmallUnderrun
            (λ underrun o. record { disk = omega (arith, low, o.disk_is, f.number_is); cycle = small underrun.cycle o.cycle; sent = small underrun.sent o.sent; taken = small underrun.taken o.taken })
            disk.underruns (Each-from_all (IsUnderrunLine i) disk.underruns f.each);
      })

pub Form-same : (script : Script) → IsScript script → (a b : Report) → IsForm script a → IsForm script b → report_lines a ≡ report_lines b → Same a b
Form-same script is a b h k e =
    let of : (part : ℕ) → filter (λ text. part_of text == part) (report_lines a) ≡ filter (λ text. part_of text == part) (report_lines b) = λ part. ap (filter (λ text. part_of text == part)) e in
    let cycles : map cycle_line a.cycles ≡ map cycle_line b.cycles = sym (part_2 a) ∙ of 2 ∙ part_2 b in
    record {
      calls = whole call_line IsCallLine call-whole a.calls b.calls (Each-from_all IsCallLine a.calls h.call_each) (Each-from_all IsCallLine b.calls k.call_each) (sym (part_1 a) ∙ of 1 ∙ part_1 b);
      numbers = images-same cycle_line (λ (cycle : PrintedCycle). cycle.number) (λ (cycle : PrintedCycle). IsNumber cycle.number) number-of_cycle a.cycles b.cycles (cycles-small script is a h) (cycles-small script is b k) cycles;
      lines = cycles;
      meters = whole meter_line IsMeterLine meter-whole a.meters b.meters (Each-from_all IsMeterLine a.meters h.meter_each) (Each-from_all IsMeterLine b.meters k.meter_each) (sym (part_3 a) ∙ of 3 ∙ part_3 b);
      events = whole event_line IsEventLine midi-whole a.events b.events (Each-from_all IsEventLine a.events h.event_each) (Each-from_all IsEventLine b.events k.event_each) (sym (part_4 a) ∙ of 4 ∙ part_4 b);
      recorders = recorders-whole a.recorders b.recorders (recorders-small script is a h) (recorders-small script is b k) (sym (part_5 a) ∙ of 5 ∙ part_5 b);
      disks = disks-whole a.disks b.disks (disks-small script is a h) (disks-small script is b k) (sym (part_6 a) ∙ of 6 ∙ part_6 b);
    }
