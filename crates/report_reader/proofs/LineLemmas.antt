-- Lines: what is read is what was written.
--     line-is, line-again      the two directions
--     line-found      the clause of the reader
--     same-line      a text is the line of one row at most
use Rattle.std.proofs.Common.{◌≡◌, ℕ, Bool, true, false, List, [], ◌∷◌, ◌++◌, flat_map, decimal, codes, Option, Some, None, refl, sym, ap, ap₂, subst, ◌∙◌, ◌≢◌, arith, append_assoc, append-nil}
use Rattle.std.specs.Prelude.{if◌then◌else◌}
use Rattle.std.specs.Str.{bytes_eq}
use Rattle.jack_types.specs.Events.{event_bytes}
use Rattle.jack_types.specs.Refusals.{refusal_name}
use Rattle.jack_types.specs.declared.moments.TransportState.{TransportState}
use Rattle.jack_types.specs.declared.moments.TransportState.TheVariants.{Stopped, Rolling, Starting}
use Rattle.jack_types.specs.declared.replies.Refusal.{Refusal}
use Rattle.jack_types.specs.declared.replies.Refusal.TheVariants.{NoClient, NoPort, IsOpen, IsSystem, NameTaken, AlreadyActive, NotActive, ClientsFull, PortsFull, NoSource, NoDestination, NotOutput, NotInput, TypeDiffers, Inactive, Exists, Full, NotConnected, Busy, NotMaster, InUse}
use Rattle.session_model.specs.Reports.{line, spaced, state_name, bbt_word, hex_byte}
use Rattle.session_laws.proofs.ListLemmas.{Each, Each-append, slice-some}
use Rattle.session_laws.proofs.TextLemmas.{Lacks}
use Rattle.report_texts.proofs.ReportLemmas.{lacks, no_space}
use Rattle.check_laws.proofs.NameLemmas.{name-lacks}
use Rattle.report_reader.proofs.CallLemmas.{same_word, call-back, call_words, reply_of_words}
use Rattle.report_reader.proofs.CycleLemmas.{whole-is, cycle-back, cycle_words, place_word}
use Rattle.report_reader.proofs.EventLemmas.{hexed-back, Lacks-hexed}
use Rattle.report_reader.proofs.JoinLemmas.{joined, joined-fields, fields-joined, joined-spaced, snoc-same}
use Rattle.report_reader.proofs.NumberLemmas.{number_of-again}
use Rattle.report_reader.proofs.ReaderLemmas.{bind_some, some_same, Inverse, number-back, client-back, count-back, loss-back, loss_words, meter-back, meter_words}
use Rattle.report_reader.specs.Forms.{line_text, IsLineForm, IsLineOf, IsMidi, count_words, printed_place}
use Rattle.report_reader.specs.Readers.{Reader, number, client, hexed, event, call, cycle, meter, count, loss, made, report, file_by, end_by, line_by, line_words, line_of, whole}
use Rattle.report_reader.specs.Splits.{fields}
use Rattle.report_reader.specs.declared.rows.EventLine.{EventLine}
use Rattle.report_reader.specs.declared.rows.Line.{Line}
use Rattle.report_reader.specs.declared.rows.Line.TheVariants.{Report, Call, Cycle, Meter, Midi, Recorder, Overrun, Disk, Underrun, End}
use Rattle.report_reader.specs.declared.rows.Place.{Place}
use Rattle.report_reader.specs.declared.rows.ReplyLine.{ReplyLine}
use Rattle.report_reader.specs.declared.rows.ReplyLine.TheVariants.{Accepted, Refused, Latency}

abbrev pub event_words : EventLine → List (List ℕ)
event_words event = event.client ∷ decimal event.cycle ∷ decimal event.offset ∷ flat_map hex_byte (event_bytes event.event) ∷ []

pub event-back : Inverse event event_words IsMidi
event-back = record { takes = λ ws x rest e. takes ws x rest e; again = λ x rest g. rw (client-back.again x.client (decimal x.cycle ∷ decimal x.offset ∷ flat_map hex_byte (event_bytes x.event) ∷ rest) g.0, number_of-again x.cycle g.1, number_of-again x.offset g.2, hexed-back.again x.event rest (g.3, g.4, g.5)) refl }
  where
    takes : (ws : List (List ℕ)) (x : EventLine) (rest : List (List ℕ)) → event ws ≡ Some (x, rest) → (ws ≡ event_words x ++ rest) × IsMidi x
    takes ws x rest e =
        let a = bind_some (client ws) _ (x, rest) e in
        let b = bind_some (number a.0.1) _ (x, rest) a.2 in
        let c = bind_some (number b.0.1) _ (x, rest) b.2 in
        let d = bind_some (hexed c.0.1) _ (x, rest) c.2 in
        let p = client-back.takes ws a.0.0 a.0.1 a.1 in
        let q = number-back.takes a.0.1 b.0.0 b.0.1 b.1 in
        let r = number-back.takes b.0.1 c.0.0 c.0.1 c.1 in
        let s = hexed-back.takes c.0.1 d.0.0 d.0.1 d.1 in
        subst (λ (y : EventLine × List (List ℕ)). (ws ≡ event_words y.0 ++ y.1) × IsMidi y.0) (some_same (record { client = a.0.0; cycle = b.0.0; offset = c.0.0; event = d.0.0 }, d.0.1) (x, rest) d.2)
        (p.0 ∙ ap (λ (l : List (List ℕ)). a.0.0 ∷ l) (q.0 ∙ ap (λ (l : List (List ℕ)). decimal b.0.0 ∷ l) (r.0 ∙ ap (λ (l : List (List ℕ)). decimal c.0.0 ∷ l) s.0)), (p.1, q.1, r.1, s.1.0, s.1.1, s.1.2))

-- ---- by the first word

abbrev pub words_of : Line → List (List ℕ)
words_of Report = codes "report" ∷ codes "1" ∷ []
words_of (Call x) = codes "call" ∷ call_words x
words_of (Cycle x) = codes "cycle" ∷ cycle_words x
words_of (Meter x) = codes "meter" ∷ meter_words x
words_of (Midi x) = codes "midi" ∷ event_words x
words_of (Recorder x) = codes "recorder" ∷ count_words x
words_of (Overrun x) = codes "overrun" ∷ loss_words x
words_of (Disk x) = codes "disk" ∷ count_words x
words_of (Underrun x) = codes "underrun" ∷ loss_words x
words_of End = codes "end" ∷ []

-- a line is read as it was written
abbrev IsRead : List (List ℕ) → Line → List (List ℕ) → Type 0
IsRead ws x rest = (ws ≡ words_of x ++ rest) × IsLineForm x

made-is : {X : Type 0} (make : X → Line) (o : Option (X × List (List ℕ))) (x : Line) (rest : List (List ℕ)) → made make o ≡ Some (x, rest) → (y : X) × (o ≡ Some (y, rest)) × (make y ≡ x)
made-is make None x rest e = absurd cc
made-is {X} make (Some y) x rest e =
    let same : (make y.0, y.1) ≡ (x, rest) = some_same (make y.0, y.1) (x, rest) e in
    (y.0, ap (λ (z : Line × List (List ℕ)). Some (y.0, z.1)) same, ap (λ (z : Line × List (List ℕ)). z.0) same)

branch : {X : Type 0} (reader : Reader X) (words : X → List (List ℕ)) (Good : X → Type 0) → Inverse reader words Good → (make : X → Line) (name : List ℕ) → ((y : X) → words_of (make y) ≡ name ∷ words y) → ((y : X) → Good y → IsLineForm (make y))
    → (w : List ℕ) (ws : List (List ℕ)) (x : Line) (rest : List (List ℕ)) → w ≡ name → made make (reader ws) ≡ Some (x, rest) → IsRead (w ∷ ws) x rest
branch reader words Good inverse make name is good w ws x rest h e =
    let m = made-is make (reader ws) x rest e in
    let t = inverse.takes ws m.0 rest m.1 in
    subst (λ (z : Line). IsRead (w ∷ ws) z rest) m.2 (ap₂ (λ (v : List ℕ) (vs : List (List ℕ)). v ∷ vs) h t.0 ∙ ap (λ (vs : List (List ℕ)). vs ++ rest) (sym (is m.0)), good m.0 t.1)

file-takes : (w : List ℕ) (ws : List (List ℕ)) (x : Line) (rest : List (List ℕ)) → file_by w ws ≡ Some (x, rest) → IsRead (w ∷ ws) x rest
file-takes w ws x rest e = go (bytes_eq w (codes "recorder")) refl (bytes_eq w (codes "overrun")) refl (bytes_eq w (codes "disk")) refl (bytes_eq w (codes "underrun")) refl e
  where
    go : (a : Bool) → bytes_eq w (codes "recorder") ≡ a → (b : Bool) → bytes_eq w (codes "overrun") ≡ b → (c : Bool) → bytes_eq w (codes "disk") ≡ c → (d : Bool) → bytes_eq w (codes "underrun") ≡ d
        → (if a then made Recorder (count ws) else if b then made Overrun (loss ws) else if c then made Disk (count ws) else if d then made Underrun (loss ws) else None) ≡ Some (x, rest) → IsRead (w ∷ ws) x rest
    go true h b i c j d k f = branch count count_words _ count-back Recorder (codes "recorder") (λ y. refl) (λ y g. g) w ws x rest (same_word w (codes "recorder") h) f
    go false h true i c j d k f = branch loss loss_words _ loss-back Overrun (codes "overrun") (λ y. refl) (λ y g. g) w ws x rest (same_word w (codes "overrun") i) f
    go false h false i true j d k f = branch count count_words _ count-back Disk (codes "disk") (λ y. refl) (λ y g. g) w ws x rest (same_word w (codes "disk") j) f
    go false h false i false j true k f = branch loss loss_words _ loss-back Underrun (codes "underrun") (λ y. refl) (λ y g. g) w ws x rest (same_word w (codes "underrun") k) f
    go false h false i false j false k f = absurd cc

abbrev one : Bool → List (List ℕ) → Option (Line × List (List ℕ))
one k ws = if k then Some (Report, ws) else None

abbrev ended : Bool → Bool → List ℕ → List (List ℕ) → Option (Line × List (List ℕ))
ended a b w ws = if a then report ws else if b then Some (End, ws) else file_by w ws

report-takes : (w : List ℕ) (ws : List (List ℕ)) (x : Line) (rest : List (List ℕ)) → w ≡ codes "report" → report ws ≡ Some (x, rest) → IsRead (w ∷ ws) x rest
report-takes w [] x rest h e = absurd cc
report-takes w (v ∷ ws) x rest h e = go (bytes_eq v (codes "1")) refl e
  where
    go : (k : Bool) → bytes_eq v (codes "1") ≡ k → one k ws ≡ Some (x, rest) → IsRead (w ∷ v ∷ ws) x rest
    go true i f = subst (λ (z : Line × List (List ℕ)). IsRead (w ∷ v ∷ ws) z.0 z.1) (some_same (Report, ws) (x, rest) f) (ap₂ (λ (a b : List ℕ). a ∷ b ∷ ws) h (same_word v (codes "1") i), tt)
    go false i f = absurd cc

end-takes : (w : List ℕ) (ws : List (List ℕ)) (x : Line) (rest : List (List ℕ)) → end_by w ws ≡ Some (x, rest) → IsRead (w ∷ ws) x rest
end-takes w ws x rest e = go (bytes_eq w (codes "report")) refl (bytes_eq w (codes "end")) refl e
  where
    go : (a : Bool) → bytes_eq w (codes "report") ≡ a → (b : Bool) → bytes_eq w (codes "end") ≡ b → ended a b w ws ≡ Some (x, rest) → IsRead (w ∷ ws) x rest
    go true h b i f = report-takes w ws x rest (same_word w (codes "report") h) f
    go false h true i f = subst (λ (z : Line × List (List ℕ)). IsRead (w ∷ ws) z.0 z.1) (some_same (End, ws) (x, rest) f) (ap (λ (a : List ℕ). a ∷ ws) (same_word w (codes "end") i), tt)
    go false h false i f = file-takes w ws x rest f

line-takes : (w : List ℕ) (ws : List (List ℕ)) (x : Line) (rest : List (List ℕ)) → line_by w ws ≡ Some (x, rest) → IsRead (w ∷ ws) x rest
line-takes w ws x rest e = go (bytes_eq w (codes "cycle")) refl (bytes_eq w (codes "call")) refl (bytes_eq w (codes "midi")) refl (bytes_eq w (codes "meter")) refl e
  where
    go : (a : Bool) → bytes_eq w (codes "cycle") ≡ a → (b : Bool) → bytes_eq w (codes "call") ≡ b → (c : Bool) → bytes_eq w (codes "midi") ≡ c → (d : Bool) → bytes_eq w (codes "meter") ≡ d
        → (if a then made Cycle (cycle ws) else if b then made Call (call ws) else if c then made Midi (event ws) else if d then made Meter (meter ws) else end_by w ws) ≡ Some (x, rest) → IsRead (w ∷ ws) x rest
    go true h b i c j d k f = branch cycle cycle_words _ cycle-back Cycle (codes "cycle") (λ y. refl) (λ y g. g) w ws x rest (same_word w (codes "cycle") h) f
    go false h true i c j d k f = branch call call_words _ call-back Call (codes "call") (λ y. refl) (λ y g. g) w ws x rest (same_word w (codes "call") i) f
    go false h false i true j d k f = branch event event_words _ event-back Midi (codes "midi") (λ y. refl) (λ y g. g) w ws x rest (same_word w (codes "midi") j) f
    go false h false i false j true k f = branch meter meter_words _ meter-back Meter (codes "meter") (λ y. refl) (λ y g. g) w ws x rest (same_word w (codes "meter") k) f
    go false h false i false j false k f = end-takes w ws x rest f

words-take : (ws : List (List ℕ)) (x : Line) (rest : List (List ℕ)) → line_words ws ≡ Some (x, rest) → IsRead ws x rest
words-take [] x rest e = absurd cc
words-take (w ∷ ws) x rest e = line-takes w ws x rest e

words-again : (x : Line) → IsLineForm x → line_words (words_of x) ≡ Some (x, [])
words-again Report g = refl
words-again (Call x) g = ap (made Call) (ap call (sym (append-nil (call_words x))) ∙ call-back.again x [] g)
words-again (Cycle x) g = ap (made Cycle) (cycle-back.again x [] g)
words-again (Meter x) g = ap (made Meter) (meter-back.again x [] g)
words-again (Midi x) g = ap (made Midi) (event-back.again x [] g)
words-again (Recorder x) g = ap (made Recorder) (count-back.again x [] g)
words-again (Overrun x) g = ap (made Overrun) (loss-back.again x [] g)
words-again (Disk x) g = ap (made Disk) (count-back.again x [] g)
words-again (Underrun x) g = ap (made Underrun) (loss-back.again x [] g)
words-again End g = refl

-- ---- no space within a word

name_lacks : (refusal : Refusal) → Lacks 32 (refusal_name refusal)
name_lacks NoClient = lacks 32 (codes "NoClient") refl
name_lacks NoPort = lacks 32 (codes "NoPort") refl
name_lacks IsOpen = lacks 32 (codes "IsOpen") refl
name_lacks IsSystem = lacks 32 (codes "IsSystem") refl
name_lacks NameTaken = lacks 32 (codes "NameTaken") refl
name_lacks AlreadyActive = lacks 32 (codes "AlreadyActive") refl
name_lacks NotActive = lacks 32 (codes "NotActive") refl
name_lacks ClientsFull = lacks 32 (codes "ClientsFull") refl
name_lacks PortsFull = lacks 32 (codes "PortsFull") refl
name_lacks NoSource = lacks 32 (codes "NoSource") refl
name_lacks NoDestination = lacks 32 (codes "NoDestination") refl
name_lacks NotOutput = lacks 32 (codes "NotOutput") refl
name_lacks NotInput = lacks 32 (codes "NotInput") refl
name_lacks TypeDiffers = lacks 32 (codes "TypeDiffers") refl
name_lacks Inactive = lacks 32 (codes "Inactive") refl
name_lacks Exists = lacks 32 (codes "Exists") refl
name_lacks Full = lacks 32 (codes "Full") refl
name_lacks NotConnected = lacks 32 (codes "NotConnected") refl
name_lacks Busy = lacks 32 (codes "Busy") refl
name_lacks NotMaster = lacks 32 (codes "NotMaster") refl
name_lacks InUse = lacks 32 (codes "InUse") refl

state_lacks : (state : TransportState) → Lacks 32 (state_name state)
state_lacks Stopped = lacks 32 (codes "stopped") refl
state_lacks Starting = lacks 32 (codes "starting") refl
state_lacks Rolling = lacks 32 (codes "rolling") refl

place_lacks : (place : Option Place) → Lacks 32 (place_word place)
place_lacks None = lacks 32 (codes "-") refl
place_lacks (Some p) =
    Each-append (λ b. b ≢ 32) (decimal p.bar) (124 ∷ decimal p.beat ++ 124 ∷ decimal p.tick) (no_space p.bar)
    ((λ e. omega (arith, e)), Each-append (λ b. b ≢ 32) (decimal p.beat) (124 ∷ decimal p.tick) (no_space p.beat) ((λ e. omega (arith, e)), no_space p.tick))

reply_lacks : (reply : ReplyLine) → Each (Lacks 32) (reply_of_words reply)
reply_lacks (Accepted n) = (lacks 32 (codes "ok") refl, (no_space n, tt))
reply_lacks (Refused r) = (lacks 32 (codes "refused") refl, (no_space _, (name_lacks r, tt)))
reply_lacks (Latency min max) = (lacks 32 (codes "latency") refl, (no_space min, (no_space max, tt)))

words_lack : (x : Line) → IsLineForm x → Each (Lacks 32) (words_of x)
words_lack Report g = (lacks 32 (codes "report") refl, (lacks 32 (codes "1") refl, tt))
words_lack (Call x) g = (lacks 32 (codes "call") refl, (no_space x.lane, (no_space x.index, reply_lacks x.reply)))
words_lack (Cycle x) g = (lacks 32 (codes "cycle") refl, (no_space x.cycle, (no_space x.number, (state_lacks x.state, (no_space x.frame, (place_lacks x.place, tt))))))
words_lack (Meter x) g = (lacks 32 (codes "meter") refl, (name-lacks 32 x.client refl g.0, (no_space x.peak, tt)))
words_lack (Midi x) g = (lacks 32 (codes "midi") refl, (name-lacks 32 x.client refl g.0, (no_space x.cycle, (no_space x.offset, (Lacks-hexed 32 (event_bytes x.event) (omega arith) g.5, tt)))))
words_lack (Recorder x) g = (lacks 32 (codes "recorder") refl, (no_space x.file, (no_space x.blocks, (no_space x.losses, tt))))
words_lack (Overrun x) g = (lacks 32 (codes "overrun") refl, (no_space x.file, (no_space x.cycle, (no_space x.sent, (no_space x.taken, tt)))))
words_lack (Disk x) g = (lacks 32 (codes "disk") refl, (no_space x.file, (no_space x.blocks, (no_space x.losses, tt))))
words_lack (Underrun x) g = (lacks 32 (codes "underrun") refl, (no_space x.file, (no_space x.cycle, (no_space x.sent, (no_space x.taken, tt)))))
words_lack End g = (lacks 32 (codes "end") refl, tt)

words-fields : (x : Line) → IsLineForm x → fields 32 (joined 32 (words_of x)) ≡ words_of x
words-fields x g = go (words_of x) (some x) (words_lack x g)
  where
    some : (x : Line) → (w : List ℕ) × (ws : List (List ℕ)) × (words_of x ≡ w ∷ ws)
    some Report = (_, _, refl)
    some (Call x) = (_, _, refl)
    some (Cycle x) = (_, _, refl)
    some (Meter x) = (_, _, refl)
    some (Midi x) = (_, _, refl)
    some (Recorder x) = (_, _, refl)
    some (Overrun x) = (_, _, refl)
    some (Disk x) = (_, _, refl)
    some (Underrun x) = (_, _, refl)
    some End = (_, _, refl)

    go : (ws : List (List ℕ)) → (w : List ℕ) × (vs : List (List ℕ)) × (ws ≡ w ∷ vs) → Each (Lacks 32) ws → fields 32 (joined 32 ws) ≡ ws
    go [] p h = absurd (no p.0 p.1 p.2)
      where
        no : (w : List ℕ) (vs : List (List ℕ)) → [] ≡ w ∷ vs → ⊥
        no w vs e = cc
    go (w ∷ vs) p h = fields-joined 32 w vs h

-- ---- the texts by the definitions

bar-word : (p : Option Place) → bbt_word (printed_place p) ≡ place_word p
bar-word None = refl
bar-word (Some p) =
    append_assoc (decimal p.bar ++ codes "|" ++ decimal p.beat) (codes "|") (decimal p.tick)
    ∙ append_assoc (decimal p.bar ++ codes "|") (decimal p.beat) (124 ∷ decimal p.tick)
    ∙ append_assoc (decimal p.bar) (codes "|") (decimal p.beat ++ 124 ∷ decimal p.tick)

pub text-words : (x : Line) → line_text x ≡ line (words_of x)
text-words Report = refl
text-words (Call x) = go x.reply
  where
    go : (r : ReplyLine) → line_text (Call (record { lane = x.lane; index = x.index; reply = r })) ≡ line (words_of (Call (record { lane = x.lane; index = x.index; reply = r })))
    go (Accepted n) = refl
    go (Refused r) = refl
    go (Latency min max) = refl
text-words (Cycle x) = ap (λ (w : List ℕ). line (codes "cycle" ∷ decimal x.cycle ∷ decimal x.number ∷ state_name x.state ∷ decimal x.frame ∷ w ∷ [])) (bar-word x.place)
text-words (Meter x) = refl
text-words (Midi x) = refl
text-words (Recorder x) = refl
text-words (Overrun x) = refl
text-words (Disk x) = refl
text-words (Underrun x) = refl
text-words End = refl

text-joined : (x : Line) → line_text x ≡ joined 32 (words_of x) ++ 10 ∷ []
text-joined x = text-words x ∙ ap (λ (t : List ℕ). t ++ 10 ∷ []) (sym (joined-spaced (words_of x)))

pub line-is : (text : List ℕ) (x : Line) → line_of text ≡ Some x → IsLineForm x × (text ++ 10 ∷ [] ≡ line_text x)
line-is text x e =
    let r = words-take (fields 32 text) x [] (whole-is (line_words (fields 32 text)) x e) in
    let same : text ≡ joined 32 (words_of x) = sym (joined-fields 32 text) ∙ ap (joined 32) (r.0 ∙ append-nil (words_of x)) in
    (r.1, ap (λ (t : List ℕ). t ++ 10 ∷ []) same ∙ sym (text-joined x))

pub line-again : (text : List ℕ) (x : Line) → IsLineForm x → text ++ 10 ∷ [] ≡ line_text x → line_of text ≡ Some x
line-again text x g e =
    let same : text ≡ joined 32 (words_of x) = snoc-same text (joined 32 (words_of x)) 10 (e ∙ text-joined x) in
    ap line_of same ∙ ap (λ (ws : List (List ℕ)). whole (line_words ws)) (words-fields x g) ∙ ap whole (words-again x g)

pub line-found : (text : List ℕ) (o : Option Line) → o ≡ line_of text → IsLineOf text o
line-found text (Some x) e = line-is text x (sym e)
line-found text None e = λ other g h. none other (e ∙ line-again text other g h)
  where
    none : (y : Line) → None ≡ Some y → ⊥
    none y q = cc

pub same-line : (x y : Line) → IsLineForm x → IsLineForm y → line_text x ≡ line_text y → x ≡ y
same-line x y g h e = slice-some x y (sym (line-again (spaced (words_of x)) x g (sym (text-words x))) ∙ line-again (spaced (words_of x)) y h (sym (text-words x) ∙ e))
