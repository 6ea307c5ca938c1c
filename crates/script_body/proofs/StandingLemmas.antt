-- A body line behind these lines, read by where it stands.
use Rattle.std.proofs.Common.{◌≡◌, ◌≢◌, ℕ, zero, suc, ◌+◌, ◌-◌, ◌*◌, ◌<◌, ◌≤◌, Bool, true, false, ◌&&◌, List, [], ◌∷◌, ◌++◌, length, refl, sym, ap, subst, ◌∙◌, arith}
use Rattle.std.specs.Prelude.{Option, Some, None, Result, Ok, Err, codes, count_by, sum_by, fold, nat_le, nat_lt, slice_index, slice_set, if◌then◌else◌, ◌==◌}
use Rattle.std.specs.Str.{bytes_eq}
use Rattle.std.proofs.lemmas.List.{get_or-set_same, get_or-set_other, length-set}
use Rattle.std.proofs.lemmas.List.Sums.{sum_by-cons}
use Rattle.jack_types.specs.declared.scripts.Body.{Body}
use Rattle.jack_types.specs.declared.scripts.Body.TheVariants.{Do, Run, Freewheel, Lane, Period}
use Rattle.jack_types.specs.declared.scripts.Cause.{Cause}
use Rattle.jack_types.specs.declared.scripts.Cause.TheVariants.{TooMany, TooLong}
use Rattle.jack_types.specs.declared.scripts.Header.{Header}
use Rattle.jack_types.specs.declared.scripts.Many.TheVariants.{Calls, Opens, Segments, Periods, Cycles}
use Rattle.script_commands.proofs.ChoosingLemmas.{found_in-maybe}
use Rattle.script_commands.specs.Choosing.{Choice, found_in, or_else}
use Rattle.script_commands.specs.script_words.specs.Reads.{Reads}
use Rattle.grammar_laws.proofs.GrammarLimits.{Limits, Limits-none, Limits-more, period_behind, cycles_in, bytes_in, count_by-append, all_cycles-append, all_bytes-append}
use Rattle.grammar_laws.proofs.GrammarReaders.{number-reads}
use Rattle.grammar_laws.proofs.GrammarWidths.{open_segment-more}
use Rattle.grammar_laws.specs.session_model.specs.Grammar.{is_call, opens, is_segment, is_period_line, segment_after, open_segment, begun_after, last_begun, most_channels, all_cycles, all_bytes}
use Rattle.grammar_laws.specs.session_model.specs.Reading.{◌>>=◌, Read, word, chosen, made, number, any_number, fixed, begun_in, command, lane_line, old_lines, has_periods, body_line, Limit, body_limits, passed_limit, unless, whole, body_of, at_line, body_lines}
use Rattle.grammar_laws.specs.session_model.specs.Scripts.{phases_of}
use Rattle.grammar_laws.specs.session_model.specs.Texts.{Line}
use Rattle.script_body.specs.declared.standing.Standing.{Standing}
use Rattle.script_body.specs.Standings.{begun_by, lane_line_at, lines_at, period_lines, line_at, body_line_at, cycles_of, bytes_of, limits_at, none_begun, one_if, start, moved, IsWithin, IsSmall, Follows, body_at}

bind_same : {A B E : Type 0} (r : Result A E) (f g : A → Result B E) → ((x : A) → r ≡ Ok x → f x ≡ g x) → (r >>= f) ≡ (r >>= g)
bind_same (Ok x) f g h = h x refl
bind_same (Err e) f g h = refl

pub line-read : (header : Header) (standing : Standing) (words others after : List (List ℕ)) (first : List ℕ) (result : Result Body Cause) → word words ≡ Ok (first, others) → Reads result after (chosen (line_at header standing first) others) → Reads result after (body_line_at header standing words)
line-read header standing words others after first result e h =
    subst (λ (r : Read (List ℕ)). Reads result after (r >>= λ w. chosen (found_in (if has_periods header then lines_at header standing ++ period_lines else lines_at header standing) w.0) w.1)) (sym e)
    (subst (λ (o : Option (Choice Body)). Reads result after (chosen o others)) (sym (found_in-maybe (has_periods header) (lines_at header standing) period_lines first)) h)

-- ---- the line's words

lane-same : (header : Header) (earlier : List Body) (standing : Standing) → Follows header earlier standing → (words : List (List ℕ)) → lane_line_at header standing words ≡ lane_line header earlier words
lane-same header earlier standing f words =
    bind_same {E = Cause} (number 1 4 words) _ _ (λ lane e.
    let in_range = (number-reads 1 4).takes words lane e in
    let before : begun_by standing lane.0 ≡ last_begun earlier lane.0 = f.begun lane.0 in_range.1.0 in_range.1.1 in
    bind_same {E = Cause} (fixed (codes "at") lane.1) _ _ (λ at a.
    bind_same {E = Cause} (any_number at.1) _ _ (λ n b.
    ap (λ (s : Option ℕ). begun_in s (begun_by standing lane.0) n.0 >>= λ begun. command header n.1 >>= λ c. Ok (Lane lane.0 begun c.0, c.1)) f.segment
    ∙ ap (λ (m : ℕ). begun_in (open_segment earlier) m n.0 >>= λ begun. command header n.1 >>= λ c. Ok (Lane lane.0 begun c.0, c.1)) before)))

four-same : (rest : List (List ℕ)) (t1 t2 t3 t4 : Bool) (c1 c2 c3 c4 d4 : Choice Body) (other : Option (Choice Body)) → c4.1 rest ≡ d4.1 rest
    → chosen (or_else (if t1 then Some c1 else if t2 then Some c2 else if t3 then Some c3 else if t4 then Some c4 else None) other) rest ≡ chosen (or_else (if t1 then Some c1 else if t2 then Some c2 else if t3 then Some c3 else if t4 then Some d4 else None) other) rest
four-same rest true t2 t3 t4 c1 c2 c3 c4 d4 other h = refl
four-same rest false true t3 t4 c1 c2 c3 c4 d4 other h = refl
four-same rest false false true t4 c1 c2 c3 c4 d4 other h = refl
four-same rest false false false true c1 c2 c3 c4 d4 other h = h
four-same rest false false false false c1 c2 c3 c4 d4 other h = refl

body_line-same : (header : Header) (earlier : List Body) (standing : Standing) → Follows header earlier standing → (words : List (List ℕ)) → body_line_at header standing words ≡ body_line header earlier words
body_line-same header earlier standing f words =
    bind_same {E = Cause} (word words) _ _ (λ w e.
    ap (λ (o : Option (Choice Body)). chosen o w.1) (found_in-maybe (has_periods header) (lines_at header standing) period_lines w.0)
    ∙ four-same w.1 (bytes_eq w.0 (codes "do")) (bytes_eq w.0 (codes "run")) (bytes_eq w.0 (codes "freewheel")) (bytes_eq w.0 (codes "lane"))
    (codes "do", made (command header) Do) (codes "run", made (number 1 1000000) Run) (codes "freewheel", made (number 1 1000000) Freewheel) (codes "lane", lane_line_at header standing) (codes "lane", lane_line header earlier)
    (if has_periods header then found_in period_lines w.0 else None) (lane-same header earlier standing f w.1)
    ∙ ap (λ (o : Option (Choice Body)). chosen o w.1) (sym (found_in-maybe (has_periods header) (old_lines header earlier) period_lines w.0)))

-- ---- the limits

six_same : {X : Type 0} (F : ℕ → ℕ → ℕ → ℕ → ℕ → ℕ → X) (a b c d e f a' b' c' d' e' f' : ℕ) → a ≡ a' → b ≡ b' → c ≡ c' → d ≡ d' → e ≡ e' → f ≡ f' → F a b c d e f ≡ F a' b' c' d' e' f'
six_same F a b c d e f a' b' c' d' e' f' p q r s t u = cc

cycles-one : (body : Body) → sum_by cycles_in (body ∷ []) ≡ cycles_of body
cycles-one (Do command) = refl
cycles-one (Run cycles) = plus_none cycles
  where
    plus_none : (n : ℕ) → sum_by cycles_in (Run n ∷ []) ≡ n
    plus_none n = omega (arith, sum_by-cons cycles_in (Run n) [])
cycles-one (Freewheel cycles) = plus_none cycles
  where
    plus_none : (n : ℕ) → sum_by cycles_in (Freewheel n ∷ []) ≡ n
    plus_none n = omega (arith, sum_by-cons cycles_in (Freewheel n) [])
cycles-one (Lane lane begun command) = refl
cycles-one (Period next) = refl

bytes-one : (most period : ℕ) (body : Body) → bytes_in most period (body ∷ []) ≡ cycles_of body * period * 4 * most
bytes-one most period (Do command) = grind arith
bytes-one most period (Run cycles) = omega arith
bytes-one most period (Freewheel cycles) = omega arith
bytes-one most period (Lane lane begun command) = grind arith
bytes-one most period (Period next) = grind arith

cycles-more : (header : Header) (earlier : List Body) (standing : Standing) (body : Body) → Follows header earlier standing → standing.cycles + cycles_of body ≡ all_cycles (phases_of header.period (earlier ++ body ∷ []))
cycles-more header earlier standing body f = let all = all_cycles-append header.period earlier (body ∷ []) in let one = cycles-one body in let so_far = f.cycles in omega (arith, all, one, so_far)

bytes-more : (header : Header) (earlier : List Body) (standing : Standing) (body : Body) → Follows header earlier standing → standing.bytes + bytes_of header standing body ≡ all_bytes header (phases_of header.period (earlier ++ body ∷ []))
bytes-more header earlier standing body f =
    let all = all_bytes-append header header.period earlier (body ∷ []) in
    let one = bytes-one (most_channels header) (period_behind header.period earlier) body in
    let here = ap (λ (p : ℕ). cycles_of body * p * 4 * most_channels header) f.period in
    joined _ _ _ _ _ _ all one here f.bytes
  where
    joined : (whole before added one here so_far : ℕ) → whole ≡ before + added → added ≡ one → here ≡ one → so_far ≡ before → so_far + here ≡ whole
    joined whole before added one here so_far p q r s = omega (arith, p, q, r, s)

limits-same : (header : Header) (earlier : List Body) (standing : Standing) → Follows header earlier standing → (body : Body) → limits_at header standing body ≡ body_limits header earlier body
limits-same header earlier standing f body =
    six_same (λ a b c d e g.
    record { passed = is_call body && nat_le 4096 a; cause = TooMany Calls 4096 }
    ∷ record { passed = opens body && nat_le 256 b; cause = TooMany Opens 256 }
    ∷ record { passed = is_segment body && nat_le 256 c; cause = TooMany Segments 256 }
    ∷ record { passed = is_period_line body && nat_le 256 d; cause = TooMany Periods 256 }
    ∷ record { passed = is_segment body && nat_lt 1000000 e; cause = TooMany Cycles 1000000 }
    ∷ record { passed = is_segment body && nat_lt 2000000000 g; cause = TooLong }
    ∷ [])
    standing.calls standing.opens standing.segments standing.periods (standing.cycles + cycles_of body) (standing.bytes + bytes_of header standing body)
    (count_by is_call earlier) (count_by opens earlier) (count_by is_segment earlier) (count_by is_period_line earlier) (all_cycles (phases_of header.period (earlier ++ body ∷ []))) (all_bytes header (phases_of header.period (earlier ++ body ∷ [])))
    f.calls f.opens f.segments f.periods (cycles-more header earlier standing body f) (bytes-more header earlier standing body f)

pub body-same : (header : Header) (earlier : List Body) (standing : Standing) → Follows header earlier standing → (words : List (List ℕ)) → body_at header standing words ≡ body_of header earlier words
body-same header earlier standing f words =
    ap (λ (r : Read Body). r >>= λ read. whole read >>= λ body. unless (passed_limit (limits_at header standing body)) body) (body_line-same header earlier standing f words)
    ∙ bind_same {E = Cause} (body_line header earlier words) _ _ (λ read e.
    bind_same {E = Cause} (whole read) _ _ (λ body k.
    ap (λ (limits : List Limit). unless (passed_limit limits) body) (limits-same header earlier standing f body)))

-- ---- the next line

count-one : (test : Body → Bool) (earlier : List Body) (body : Body) → count_by test (earlier ++ body ∷ []) ≡ count_by test earlier + one_if (test body)
count-one test earlier body = let all = count_by-append test earlier (body ∷ []) in let one = single (test body) refl in omega (arith, all, one)
  where
    single : (b : Bool) → test body ≡ b → count_by test (body ∷ []) ≡ one_if b
    single true e = rw e refl
    single false e = rw e refl

fold-one : {A B : Type 0} (f : B → A → B) (b : B) (xs : List A) (x : A) → fold f b (xs ++ x ∷ []) ≡ f (fold f b xs) x
fold-one f b [] x = refl
fold-one f b (y ∷ xs) x = fold-one f (f b y) xs x

period-more : (period : ℕ) (earlier : List Body) (body : Body) → period_behind period (earlier ++ body ∷ []) ≡ period_behind (period_behind period earlier) (body ∷ [])
period-more period [] body = refl
period-more period (Do command ∷ earlier) body = period-more period earlier body
period-more period (Run cycles ∷ earlier) body = period-more period earlier body
period-more period (Freewheel cycles ∷ earlier) body = period-more period earlier body
period-more period (Lane lane begun command ∷ earlier) body = period-more period earlier body
period-more period (Period next ∷ earlier) body = period-more next earlier body

calls-moved : (header : Header) (s : Standing) (body : Body) → (moved header s body).calls ≡ s.calls + one_if (is_call body)
calls-moved header s (Do command) = refl
calls-moved header s (Run cycles) = omega arith
calls-moved header s (Freewheel cycles) = omega arith
calls-moved header s (Lane lane begun command) = refl
calls-moved header s (Period next) = omega arith

opens-moved : (header : Header) (s : Standing) (body : Body) → (moved header s body).opens ≡ s.opens + one_if (opens body)
opens-moved header s (Do command) = refl
opens-moved header s (Run cycles) = omega arith
opens-moved header s (Freewheel cycles) = omega arith
opens-moved header s (Lane lane begun command) = refl
opens-moved header s (Period next) = omega arith

segments-moved : (header : Header) (s : Standing) (body : Body) → (moved header s body).segments ≡ s.segments + one_if (is_segment body)
segments-moved header s (Do command) = omega arith
segments-moved header s (Run cycles) = refl
segments-moved header s (Freewheel cycles) = refl
segments-moved header s (Lane lane begun command) = omega arith
segments-moved header s (Period next) = omega arith

periods-moved : (header : Header) (s : Standing) (body : Body) → (moved header s body).periods ≡ s.periods + one_if (is_period_line body)
periods-moved header s (Do command) = omega arith
periods-moved header s (Run cycles) = omega arith
periods-moved header s (Freewheel cycles) = omega arith
periods-moved header s (Lane lane begun command) = omega arith
periods-moved header s (Period next) = refl

cycles-moved : (header : Header) (s : Standing) (body : Body) → (moved header s body).cycles ≡ s.cycles + cycles_of body
cycles-moved header s (Do command) = omega arith
cycles-moved header s (Run cycles) = refl
cycles-moved header s (Freewheel cycles) = refl
cycles-moved header s (Lane lane begun command) = omega arith
cycles-moved header s (Period next) = omega arith

bytes-moved : (header : Header) (s : Standing) (body : Body) → (moved header s body).bytes ≡ s.bytes + bytes_of header s body
bytes-moved header s (Do command) = grind arith
bytes-moved header s (Run cycles) = refl
bytes-moved header s (Freewheel cycles) = refl
bytes-moved header s (Lane lane begun command) = grind arith
bytes-moved header s (Period next) = grind arith

period-moved : (header : Header) (s : Standing) (body : Body) → (moved header s body).period ≡ period_behind s.period (body ∷ [])
period-moved header s (Do command) = refl
period-moved header s (Run cycles) = refl
period-moved header s (Freewheel cycles) = refl
period-moved header s (Lane lane begun command) = refl
period-moved header s (Period next) = refl

segment-moved : (header : Header) (s : Standing) (body : Body) → (moved header s body).segment ≡ segment_after s.segment body
segment-moved header s (Do command) = refl
segment-moved header s (Run cycles) = refl
segment-moved header s (Freewheel cycles) = refl
segment-moved header s (Lane lane begun command) = refl
segment-moved header s (Period next) = refl

lanes-moved : (header : Header) (s : Standing) (body : Body) → length s.begun ≡ 4 → length (moved header s body).begun ≡ 4
lanes-moved header s (Do command) h = refl
lanes-moved header s (Run cycles) h = refl
lanes-moved header s (Freewheel cycles) h = refl
lanes-moved header s (Lane lane begun command) h = length-set s.begun (lane - 1) begun ∙ h
lanes-moved header s (Period next) h = refl

no_begun : (i : ℕ) → slice_index none_begun i ≡ 0
no_begun zero = refl
no_begun (suc zero) = refl
no_begun (suc (suc zero)) = refl
no_begun (suc (suc (suc zero))) = refl
no_begun (suc (suc (suc (suc i)))) = refl

begun-moved : (header : Header) (s : Standing) (body : Body) → IsSmall body → length s.begun ≡ 4 → (lane : ℕ) → 1 ≤ lane → lane ≤ 4 → begun_by (moved header s body) lane ≡ begun_after lane (begun_by s lane) body
begun-moved header s (Do command) small h lane least most = no_begun (lane - 1)
begun-moved header s (Run cycles) small h lane least most = no_begun (lane - 1)
begun-moved header s (Freewheel cycles) small h lane least most = no_begun (lane - 1)
begun-moved header s (Period next) small h lane least most = no_begun (lane - 1)
begun-moved header s (Lane other begun command) small h lane least most = go (other == lane) refl
  where
    go : (b : Bool) → (other == lane) ≡ b → slice_index (slice_set s.begun (other - 1) begun) (lane - 1) ≡ (if b then begun else slice_index s.begun (lane - 1))
    go true e =
        let same : other ≡ lane = grind arith in
        let fits : other - 1 < length s.begun = omega (arith, h, small.0, small.1) in
        subst (λ (l : ℕ). slice_index (slice_set s.begun (other - 1) begun) (l - 1) ≡ begun) same (get_or-set_same s.begun (other - 1) begun 0 fits)
    go false e =
        let apart : lane ≢ other = grind arith in
        let away : lane - 1 ≢ other - 1 = omega (arith, small.0, least, apart) in
        get_or-set_other s.begun (other - 1) (lane - 1) begun 0 away

pub follows-start : (header : Header) → Follows header [] (start header)
follows-start header = record {
  calls = refl;
  opens = refl;
  segments = refl;
  periods = refl;
  cycles = refl;
  bytes = nothing (all_bytes header (phases_of header.period [])) (Limits-none header).bytes;
  period = refl;
  segment = refl;
  lanes = refl;
  begun = λ lane least most. no_begun (lane - 1);
}
  where
    nothing : (n : ℕ) → n ≤ 2000000000 → 0 ≡ all_bytes header (phases_of header.period [])
    nothing n h = grind arith

pub follows-moved : (header : Header) (earlier : List Body) (standing : Standing) (body : Body) → Follows header earlier standing → IsSmall body → Follows header (earlier ++ body ∷ []) (moved header standing body)
follows-moved header earlier s body f small = record {
  calls = calls-moved header s body ∙ ap (λ (n : ℕ). n + one_if (is_call body)) f.calls ∙ sym (count-one is_call earlier body);
  opens = opens-moved header s body ∙ ap (λ (n : ℕ). n + one_if (opens body)) f.opens ∙ sym (count-one opens earlier body);
  segments = segments-moved header s body ∙ ap (λ (n : ℕ). n + one_if (is_segment body)) f.segments ∙ sym (count-one is_segment earlier body);
  periods = periods-moved header s body ∙ ap (λ (n : ℕ). n + one_if (is_period_line body)) f.periods ∙ sym (count-one is_period_line earlier body);
  cycles = cycles-moved header s body ∙ cycles-more header earlier s body f;
  bytes = bytes-moved header s body ∙ bytes-more header earlier s body f;
  period = period-moved header s body ∙ ap (λ (p : ℕ). period_behind p (body ∷ [])) f.period ∙ sym (period-more header.period earlier body);
  segment = segment-moved header s body ∙ ap (λ (o : Option ℕ). segment_after o body) f.segment ∙ sym (open_segment-more None earlier body);
  lanes = lanes-moved header s body f.lanes;
  begun = λ lane least most. begun-moved header s body small f.lanes lane least most ∙ ap (λ (n : ℕ). begun_after lane n body) (f.begun lane least most) ∙ sym (fold-one (begun_after lane) 0 earlier body);
}

-- ---- the loop over the lines

pub within : (header : Header) (earlier : List Body) (standing : Standing) → Follows header earlier standing → Limits header earlier → standing.period ≤ 4096 → IsWithin standing
within header earlier s f l p = record {
  calls = under _ _ _ f.calls l.calls;
  opens = under _ _ _ f.opens l.opened;
  segments = under _ _ _ f.segments l.segments;
  periods = under _ _ _ f.periods l.periods;
  cycles = under _ _ _ f.cycles l.cycles;
  bytes = under _ _ _ f.bytes l.bytes;
  period = p;
  lanes = f.lanes;
}
  where
    under : (n m most : ℕ) → n ≡ m → m ≤ most → n ≤ most
    under n m most e h = omega (arith, e, h)

-- what a line gives where it is whole
given : (header : Header) (standing : Standing) (words : List (List ℕ)) (body : Body) → Ok body ≡ body_at header standing words → passed_limit (limits_at header standing body) ≡ None
given header standing words body e = go (body_line_at header standing words) e
  where
    limited : (found : Body) (o : Option Cause) → passed_limit (limits_at header standing found) ≡ o → Ok body ≡ unless o found → passed_limit (limits_at header standing body) ≡ None
    limited found None h k = let same : body ≡ found = cc in rw same h
    limited found (Some cause) h k = absurd cc

    left : (x : Body × List (List ℕ)) (w : Result Body Cause) → Ok body ≡ (w >>= λ found. unless (passed_limit (limits_at header standing found)) found) → passed_limit (limits_at header standing body) ≡ None
    left x (Ok found) k = limited found (passed_limit (limits_at header standing found)) refl k
    left x (Err cause) k = absurd cc

    go : (r : Read Body) → Ok body ≡ (r >>= λ read. whole read >>= λ found. unless (passed_limit (limits_at header standing found)) found) → passed_limit (limits_at header standing body) ≡ None
    go (Ok x) k = left x (whole x) k
    go (Err cause) k = absurd cc

pub limits-moved : (header : Header) (earlier : List Body) (standing : Standing) (words : List (List ℕ)) (body : Body) → Follows header earlier standing → Limits header earlier → Ok body ≡ body_at header standing words → Limits header (earlier ++ body ∷ [])
limits-moved header earlier s words body f l e = Limits-more header earlier body l (ap passed_limit (sym (limits-same header earlier s f body)) ∙ given header s words body e)

pub period-moved-small : (header : Header) (s : Standing) (body : Body) → s.period ≤ 4096 → IsSmall body → (moved header s body).period ≤ 4096
period-moved-small header s (Do command) h small = h
period-moved-small header s (Run cycles) h small = h
period-moved-small header s (Freewheel cycles) h small = h
period-moved-small header s (Lane lane begun command) h small = h
period-moved-small header s (Period next) h small = small

-- one line that gives a body line
pub lines-more : (header : Header) (earlier : List Body) (standing : Standing) (lines after : List Line) (line : Line) (body : Body) → Follows header earlier standing → lines ≡ line ∷ after → Ok body ≡ body_at header standing line.words → body_lines header earlier lines ≡ body_lines header (earlier ++ body ∷ []) after
lines-more header earlier s lines after line body f is e =
    ap (λ (ls : List Line). body_lines header earlier ls) is
    ∙ ap (λ (r : Result Body Cause). at_line line.number r >>= λ b. body_lines header (earlier ++ b ∷ []) after) (sym (body-same header earlier s f line.words) ∙ sym e)

-- one that is faulty
pub lines-faulty : (header : Header) (earlier : List Body) (standing : Standing) (lines after : List Line) (line : Line) (cause : Cause) → Follows header earlier standing → lines ≡ line ∷ after → Err cause ≡ body_at header standing line.words → body_lines header earlier lines ≡ Err (record { line = line.number; cause = cause })
lines-faulty header earlier s lines after line cause f is e =
    ap (λ (ls : List Line). body_lines header earlier ls) is
    ∙ ap (λ (r : Result Body Cause). at_line line.number r >>= λ b. body_lines header (earlier ++ b ∷ []) after) (sym (body-same header earlier s f line.words) ∙ sym e)

-- the loop's step, and its end at a fault
pub line-added : (header : Header) (earlier now : List Body) (s next : Standing) (lines after first : List Line) (line : Line) (body : Body)
    → body_lines header [] first ≡ body_lines header earlier lines → Follows header earlier s → Limits header earlier → s.period ≤ 4096 → lines ≡ line ∷ after
    → body_at header s line.words ≡ Ok body → IsSmall body → next ≡ moved header s body → now ≡ earlier ++ body ∷ []
    → (body_lines header [] first ≡ body_lines header now after) × Follows header now next × Limits header now × (next.period ≤ 4096)
line-added header earlier now s next lines after first line body same f l p is read small next-is now-is = (
  same ∙ lines-more header earlier s lines after line body f is (sym read) ∙ ap (λ (bs : List Body). body_lines header bs after) (sym now-is),
  subst (λ (bs : List Body). Follows header bs next) (sym now-is) (subst (λ (t : Standing). Follows header (earlier ++ body ∷ []) t) (sym next-is) (follows-moved header earlier s body f small)),
  subst (λ (bs : List Body). Limits header bs) (sym now-is) (limits-moved header earlier s line.words body f l (sym read)),
  subst (λ (t : Standing). t.period ≤ 4096) (sym next-is) (period-moved-small header s body p small),
)
