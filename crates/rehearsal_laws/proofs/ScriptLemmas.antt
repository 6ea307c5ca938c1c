-- The script of a rehearsal: its lines are lawful, and keep the limits.
--     lines-are      its lines, part by part
--     script      it is a script
--     counts      how many lines of each sort it has
use Rattle.std.proofs.Common.{◌≡◌, ℕ, zero, suc, ◌+◌, ◌*◌, ◌<◌, ◌≤◌, Bool, true, false, cond, ◌==◌, List, [], ◌∷◌, ◌++◌, map, All, pos, Some, None, refl, sym, ◌∙◌, ap, subst, arith, append_assoc, true≢false}
use Rattle.std.specs.Prelude.{⊤, count_by, sum_by, if◌then◌else◌}
use Rattle.std.specs.List.{AllByRecursion}
use Rattle.std.specs.List.Sorted.{IsNonDecreasing}
use Rattle.std.proofs.Math.Nat.{mod-lt}
use Rattle.std.proofs.lemmas.Int.{ints}
use Rattle.std.proofs.lemmas.List.{append-nil}
use Rattle.std.proofs.lemmas.List.Elements.{All-from_recursion}
use Rattle.std.proofs.lemmas.List.Sums.{fold_push, sum_by-append, sum_by-cons}
use Rattle.jack_types.specs.declared.commands.Command.TheVariants.{Connect}
use Rattle.jack_types.specs.declared.events.Event.{Event}
use Rattle.jack_types.specs.declared.kinds.Kind.{Kind}
use Rattle.jack_types.specs.declared.kinds.Kind.TheVariants.{Pass, Gain, Mix, Delay}
use Rattle.jack_types.specs.declared.scripts.Body.{Body}
use Rattle.jack_types.specs.declared.scripts.Body.TheVariants.{Do, Run, Freewheel, Lane, Period}
use Rattle.rand_pcg.specs.Lcg.{Lcg}
use Rattle.rehearsal_model.specs.Rehearsals.{any_line, capture_samples, chain_line, client_lines, draw, drawn, generator, input_name, kind_by, lane_lines, no_events, output_name, rehearsal, rehearsal_header, sample_drawn}
use Rattle.session_model.specs.Grammar.{IsCommand, IsFormat, IsHeader, IsIn, IsKind, IsListed, IsScript, all_bytes, all_cycles, begun_after, is_call, is_period_line, is_segment, last_begun, open_segment, opens, segment_after}
use Rattle.session_model.specs.Samples.{below}
use Rattle.session_model.specs.Scripts.{phases_of}
use Rattle.grammar_laws.proofs.GrammarLimits.{all_bytes-append, all_cycles-append, bytes_in, count_by-append, cycles_in}
use Rattle.grammar_laws.proofs.GrammarLoops.{AreBodies, bodies-at}
use Rattle.session_laws.proofs.ListLemmas.{IsNonDecreasing-ordered}
use Rattle.rehearsal_laws.specs.Lines.{HasCounts, capture_line, end_lines, is_do, is_lane, lines_drawn}
use Rattle.rehearsal_laws.proofs.DrawnLemmas.{all-append, drawn-count, drawn-each}
use Rattle.rehearsal_laws.proofs.NameLemmas.{clients_are_named, inputs_are_named, outputs_are_named}

-- ---- sorts of lines

-- a call of lane 0, in range
abbrev pub IsDo : Body → Type 0
IsDo (Do command) = IsCommand rehearsal_header command
IsDo (Run cycles) = ⊥
IsDo (Freewheel cycles) = ⊥
IsDo (Lane lane begun command) = ⊥
IsDo (Period period) = ⊥

abbrev pub AreDos : List Body → Type 0
AreDos lines = AllByRecursion IsDo lines

-- calls of lane 1 whose numbers of cycles do not fall
abbrev pub AreLanes : ℕ → List Body → Type 0
AreLanes before [] = ⊤
AreLanes before (Do command ∷ lines) = ⊥
AreLanes before (Run cycles ∷ lines) = ⊥
AreLanes before (Freewheel cycles ∷ lines) = ⊥
AreLanes before (Period period ∷ lines) = ⊥
AreLanes before (Lane lane begun command ∷ lines) = (lane ≡ 1) × (before ≤ begun) × (begun ≤ 10000) × IsCommand rehearsal_header command × AreLanes begun lines

-- ---- lines behind lines

dos-are : (earlier dos rest : List Body) → AreDos dos → AreBodies rehearsal_header (earlier ++ dos) rest → AreBodies rehearsal_header earlier (dos ++ rest)
dos-are earlier [] rest are behind = subst (λ (lines : List Body). AreBodies rehearsal_header lines rest) (append-nil earlier) behind
dos-are earlier (Do command ∷ dos) rest are behind =
    (are.0, dos-are (earlier ++ Do command ∷ []) dos rest are.1 (subst (λ (lines : List Body). AreBodies rehearsal_header lines rest) (sym (append_assoc earlier (Do command ∷ []) dos)) behind))
dos-are earlier (Run cycles ∷ dos) rest are behind = absurd are.0
dos-are earlier (Freewheel cycles ∷ dos) rest are behind = absurd are.0
dos-are earlier (Lane lane begun command ∷ dos) rest are behind = absurd are.0
dos-are earlier (Period period ∷ dos) rest are behind = absurd are.0

lanes-are : (earlier : List Body) (before : ℕ) (lines : List Body) → open_segment earlier ≡ Some 10000 → last_begun earlier 1 ≤ before → AreLanes before lines → AreBodies rehearsal_header earlier lines
lanes-are earlier before [] run least are = tt
lanes-are earlier before (Do command ∷ lines) run least are = absurd are
lanes-are earlier before (Run cycles ∷ lines) run least are = absurd are
lanes-are earlier before (Freewheel cycles ∷ lines) run least are = absurd are
lanes-are earlier before (Period period ∷ lines) run least are = absurd are
lanes-are earlier before (Lane lane begun command ∷ lines) run least are = (
  (
    (let one = are.0 in omega (arith, one), let one = are.0 in omega (arith, one)),
    (10000, run, are.2),
    subst (λ l. last_begun earlier l ≤ begun) (sym are.0) (let more = are.1 in omega (arith, least, more)),
    are.3,
  ),
  lanes-are (earlier ++ Lane lane begun command ∷ []) begun lines
      (fold_push segment_after None earlier (Lane lane begun command) ∙ run)
      (least_behind (last_begun (earlier ++ Lane lane begun command ∷ []) 1) (fold_push (begun_after 1) 0 earlier (Lane lane begun command) ∙ ap (λ l. if l == 1 then begun else last_begun earlier 1) are.0))
      are.4,
)
  where
    least_behind : (n : ℕ) → n ≡ begun → n ≤ begun
    least_behind n same = omega (arith, same)

-- ---- what is drawn

connects : (a b : ℕ) → a < 32 → b < 32 → IsCommand rehearsal_header (Connect (output_name a) (input_name b))
connects a b few also = (outputs_are_named a few, inputs_are_named b also)

drawn-below : (m : ℕ) (g : Lcg) → 0 < m → (draw m g).0 < m
drawn-below m g some = mod-lt _ some

kind-in : (choice : ℕ) (g : Lcg) → IsKind rehearsal_header (kind_by choice g).0
kind-in choice g = go (choice == 0) (choice == 1) (choice == 2)
  where
    kind : Bool → Bool → Bool → Kind × Lcg
    kind a b c = if a then (Pass, g) else if b then (Gain (pos (draw 512 g).0) 8, (draw 512 g).1) else if c then (Mix, g) else (Delay (draw 256 g).0, (draw 256 g).1)

    go : (a b c : Bool) → IsKind rehearsal_header (kind a b c).0
    go true b c = tt
    go false true c = ((omega (arith, ints), let few = drawn-below 512 g (omega arith) in omega (arith, ints, few)), omega arith)
    go false false true = tt
    go false false false = let few = drawn-below 256 g (omega arith) in omega (arith, few)

clients-in : (i : ℕ) (g : Lcg) → i < 32 → AreDos (client_lines i g).0
clients-in i g few = ((clients_are_named i few, kind-in (draw 4 g).0 (draw 4 g).1), (inputs_are_named i few, (outputs_are_named i few, (clients_are_named i few, tt))))

chain-in : (i : ℕ) (g : Lcg) → 0 < i → i < 32 → AreDos (chain_line i g).0
chain-in i g some few = (connects (draw i g).0 i (let less = drawn-below i g some in omega (arith, less, few)) few, tt)

any-in : (i : ℕ) (g : Lcg) → AreDos (any_line i g).0
any-in i g = (connects (draw 32 g).0 (draw 32 (draw 32 g).1).0 (drawn-below 32 g (omega arith)) (drawn-below 32 (draw 32 g).1 (omega arith)), tt)

end-in : (last : ℕ) → last < 32 → AreDos (end_lines last)
end-in last few =
    ((outputs_are_named 31 (omega arith), refl), ((outputs_are_named last few, refl), ((refl, omega arith), (refl, (refl, ((outputs_are_named 15 (omega arith), refl), (tt, tt)))))))

capture-in : AreDos (capture_line ∷ [])
capture-in = ((refl, inputs_are_named 0 (omega arith)), tt)

lanes-in : (n i : ℕ) (g : Lcg) (before : ℕ) → before ≤ 100 * (2 * i + 1) → i + n ≤ 32 → AreLanes before (drawn lane_lines n i g).0
lanes-in zero i g before least few = tt
lanes-in (suc n) i g before least few =
    (refl, least, omega (arith, few), connected, (refl, omega arith, omega (arith, few), connected, lanes-in n (i + 1) (draw 32 (draw 32 g).1).1 (100 * (2 * i + 2)) (omega arith) (omega (arith, few))))
  where
    connected : IsCommand rehearsal_header (Connect (output_name (draw 32 g).0) (input_name (draw 32 (draw 32 g).1).0))
    connected = connects (draw 32 g).0 (draw 32 (draw 32 g).1).0 (drawn-below 32 g (omega arith)) (drawn-below 32 (draw 32 g).1 (omega arith))

-- ---- all lines

-- the lines of lane 0 in front of the segment
abbrev pub dos_of : List Body → List Body → List Body → ℕ → List Body
dos_of clients chain others last = clients ++ (capture_line ∷ []) ++ chain ++ others ++ end_lines last

-- what is drawn, part by part
pub record Parts (n : ℕ) : Type 0 where
  pub clients : List Body
  pub chain : List Body
  pub others : List Body
  pub last : ℕ
  pub lanes : List Body
  pub lines_are : (rehearsal n).script.lines ≡ dos_of clients chain others last ++ Run 10000 ∷ lanes
  pub clients_in : AreDos clients
  pub chain_in : AreDos chain
  pub others_in : AreDos others
  pub last_in : last < 32
  pub lanes_in : AreLanes 0 lanes

-- the part of a record's lines that clients are, and so on: the generators behind each
abbrev behind_clients : ℕ → Lcg
behind_clients n = (drawn client_lines 32 0 (generator n)).1

abbrev behind_chain : ℕ → Lcg
behind_chain n = (drawn chain_line 31 1 (behind_clients n)).1

abbrev behind_others : ℕ → Lcg
behind_others n = (drawn any_line 32 0 (behind_chain n)).1

abbrev behind_last : ℕ → Lcg
behind_last n = (draw 32 (behind_others n)).1

regroup : (a b c e l : List Body) (x : Body) → a ++ x ∷ b ++ c ++ (e ++ l) ≡ (a ++ (x ∷ []) ++ b ++ c ++ e) ++ l
regroup a b c e l x =
    ap (λ (front : List Body). front ++ c ++ (e ++ l)) (sym (append_assoc a (x ∷ []) b))
    ∙ sym (append_assoc (a ++ (x ∷ []) ++ b ++ c) e l)

pub parts : (n : ℕ) → Parts n
parts n =
    record {
      clients = (drawn client_lines 32 0 (generator n)).0;
      chain = (drawn chain_line 31 1 (behind_clients n)).0;
      others = (drawn any_line 32 0 (behind_chain n)).0;
      last = (draw 32 (behind_others n)).0;
      lanes = (drawn lane_lines 32 0 (behind_last n)).0;
      lines_are = regroup (drawn client_lines 32 0 (generator n)).0 (drawn chain_line 31 1 (behind_clients n)).0 (drawn any_line 32 0 (behind_chain n)).0 (end_lines (draw 32 (behind_others n)).0) (Run 10000 ∷ (drawn lane_lines 32 0 (behind_last n)).0) capture_line;
      clients_in = drawn-each IsDo client_lines 32 0 (generator n) (λ k h low high. clients-in k h (omega (arith, high)));
      chain_in = drawn-each IsDo chain_line 31 1 (behind_clients n) (λ k h low high. chain-in k h (omega (arith, low)) (omega (arith, high)));
      others_in = drawn-each IsDo any_line 32 0 (behind_chain n) (λ k h low high. any-in k h);
      last_in = drawn-below 32 (behind_others n) (omega arith);
      lanes_in = lanes-in 32 0 (behind_last n) 0 (omega arith) (omega arith);
    }

-- what holds of each turn's lines holds of the part
module _ (P : Body → Type 0) (n : ℕ) where
  pub each-client : ((k : ℕ) (h : Lcg) → AllByRecursion P (client_lines k h).0) → AllByRecursion P (parts n).clients
  unfolding parts
  each-client each = drawn-each P client_lines 32 0 (generator n) (λ k h low high. each k h)

  pub each-chain : ((k : ℕ) (h : Lcg) → AllByRecursion P (chain_line k h).0) → AllByRecursion P (parts n).chain
  unfolding parts
  each-chain each = drawn-each P chain_line 31 1 (behind_clients n) (λ k h low high. each k h)

  pub each-other : ((k : ℕ) (h : Lcg) → AllByRecursion P (any_line k h).0) → AllByRecursion P (parts n).others
  unfolding parts
  each-other each = drawn-each P any_line 32 0 (behind_chain n) (λ k h low high. each k h)

  pub each-lane : ((k : ℕ) (h : Lcg) → AllByRecursion P (lane_lines k h).0) → AllByRecursion P (parts n).lanes
  unfolding parts
  each-lane each = drawn-each P lane_lines 32 0 (behind_last n) (λ k h low high. each k h)

-- ---- it is a script

-- so many lines of lane 0 have no cycle and no byte
dos-cycles : (dos : List Body) → AreDos dos → sum_by cycles_in dos ≡ 0
dos-cycles [] are = refl
dos-cycles (Do command ∷ dos) are = let one = sum_by-cons cycles_in (Do command) dos in let others = dos-cycles dos are.1 in omega (arith, one, others)
dos-cycles (Run cycles ∷ dos) are = absurd are.0
dos-cycles (Freewheel cycles ∷ dos) are = absurd are.0
dos-cycles (Lane lane begun command ∷ dos) are = absurd are.0
dos-cycles (Period period ∷ dos) are = absurd are.0

dos-bytes : (most period : ℕ) (dos rest : List Body) → AreDos dos → bytes_in most period (dos ++ rest) ≡ bytes_in most period rest
dos-bytes most period [] rest are = refl
dos-bytes most period (Do command ∷ dos) rest are = dos-bytes most period dos rest are.1
dos-bytes most period (Run cycles ∷ dos) rest are = absurd are.0
dos-bytes most period (Freewheel cycles ∷ dos) rest are = absurd are.0
dos-bytes most period (Lane lane begun command ∷ dos) rest are = absurd are.0
dos-bytes most period (Period next ∷ dos) rest are = absurd are.0

-- nor have those of other lanes
lanes-cycles : (before : ℕ) (lines : List Body) → AreLanes before lines → sum_by cycles_in lines ≡ 0
lanes-cycles before [] are = refl
lanes-cycles before (Do command ∷ lines) are = absurd are
lanes-cycles before (Run cycles ∷ lines) are = absurd are
lanes-cycles before (Freewheel cycles ∷ lines) are = absurd are
lanes-cycles before (Period period ∷ lines) are = absurd are
lanes-cycles before (Lane lane begun command ∷ lines) are = let one = sum_by-cons cycles_in (Lane lane begun command) lines in let others = lanes-cycles begun lines are.4 in omega (arith, one, others)

lanes-bytes : (most period before : ℕ) (lines : List Body) → AreLanes before lines → bytes_in most period lines ≡ 0
lanes-bytes most period before [] are = refl
lanes-bytes most period before (Do command ∷ lines) are = absurd are
lanes-bytes most period before (Run cycles ∷ lines) are = absurd are
lanes-bytes most period before (Freewheel cycles ∷ lines) are = absurd are
lanes-bytes most period before (Period next ∷ lines) are = absurd are
lanes-bytes most period before (Lane lane begun command ∷ lines) are = lanes-bytes most period begun lines are.4

-- lines of lane 0, a segment of 10,000 cycles, and lines of lane 1
dos-behind : (dos lanes : List Body) → AreDos dos → AreLanes 0 lanes → AreBodies rehearsal_header [] (dos ++ Run 10000 ∷ lanes)
dos-behind dos lanes are also =
    dos-are [] dos (Run 10000 ∷ lanes) are
    ((omega arith, omega arith), lanes-are (dos ++ Run 10000 ∷ []) 0 lanes (fold_push segment_after None dos (Run 10000)) (none (last_begun (dos ++ Run 10000 ∷ []) 1) (fold_push (begun_after 1) 0 dos (Run 10000))) also)
  where
    none : (n : ℕ) → n ≡ 0 → n ≤ 0
    none n same = omega (arith, same)

cycles-of : (dos lanes : List Body) → AreDos dos → AreLanes 0 lanes → all_cycles (phases_of 64 (dos ++ Run 10000 ∷ lanes)) ≡ 10000
cycles-of dos lanes are also =
    let all = all_cycles-append 64 [] (dos ++ Run 10000 ∷ lanes) in
    let two : sum_by cycles_in (dos ++ Run 10000 ∷ lanes) ≡ sum_by cycles_in dos + sum_by cycles_in (Run 10000 ∷ lanes) = sum_by-append cycles_in dos (Run 10000 ∷ lanes) in
    let front = dos-cycles dos are in
    let run : sum_by cycles_in (Run 10000 ∷ lanes) ≡ 10000 + sum_by cycles_in lanes = sum_by-cons cycles_in (Run 10000) lanes in
    let rest = lanes-cycles 0 lanes also in
    omega (arith, all, two, front, run, rest)

bytes-of : (dos lanes : List Body) → AreDos dos → AreLanes 0 lanes → all_bytes rehearsal_header (phases_of 64 (dos ++ Run 10000 ∷ lanes)) ≡ 5120000
bytes-of dos lanes are also =
    let all = all_bytes-append rehearsal_header 64 [] (dos ++ Run 10000 ∷ lanes) in
    let front = dos-bytes 2 64 dos (Run 10000 ∷ lanes) are in
    let rest = lanes-bytes 2 64 0 lanes also in
    omega (arith, all, front, rest)

-- ---- how many lines of each sort there are

count-of : (test : Body → Bool) (clients capture chain others ends lanes : List Body) (run : Body)
    → count_by test (clients ++ capture ++ chain ++ others ++ ends ++ run ∷ lanes) ≡ count_by test clients + count_by test capture + count_by test chain + count_by test others + count_by test ends + (cond (test run) 1 0 + count_by test lanes)
count-of test clients capture chain others ends lanes run =
    let last : count_by test (run ∷ lanes) ≡ cond (test run) 1 0 + count_by test lanes = sum_by-cons (λ line. cond (test line) 1 0) run lanes in
    let a = count_by-append test clients capture in
    let b = count_by-append test (clients ++ capture) chain in
    let c = count_by-append test (clients ++ capture ++ chain) others in
    let d = count_by-append test (clients ++ capture ++ chain ++ others) ends in
    let e = count_by-append test (clients ++ capture ++ chain ++ others ++ ends) (run ∷ lanes) in
    omega (arith, a, b, c, d, e, last)

-- where each turn has so many lines of a sort, so have all
counted : (test : Body → Bool) (client chain any ends lane : ℕ) → ((k : ℕ) (h : Lcg) → count_by test (client_lines k h).0 ≡ client) → ((k : ℕ) (h : Lcg) → count_by test (chain_line k h).0 ≡ chain) → ((k : ℕ) (h : Lcg) → count_by test (any_line k h).0 ≡ any)
    → ((last : ℕ) → count_by test (end_lines last) ≡ ends) → ((k : ℕ) (h : Lcg) → count_by test (lane_lines k h).0 ≡ lane)
    → (n : ℕ) → count_by test (rehearsal n).script.lines ≡ 32 * client + count_by test (capture_line ∷ []) + 31 * chain + 32 * any + ends + (cond (test (Run 10000)) 1 0 + 32 * lane)
unfolding parts
counted test client chain any ends lane clients chains others last lanes n =
    ap (count_by test) (parts n).lines_are
    ∙ count-of test (parts n).clients (capture_line ∷ []) (parts n).chain (parts n).others (end_lines (parts n).last) (parts n).lanes (Run 10000)
    ∙ sums (count_by test (parts n).clients) (count_by test (parts n).chain) (count_by test (parts n).others) (count_by test (end_lines (parts n).last)) (count_by test (parts n).lanes) (count_by test (capture_line ∷ [])) (cond (test (Run 10000)) 1 0)
    (drawn-count test client client_lines 32 0 (generator n) clients) (drawn-count test chain chain_line 31 1 (behind_clients n) chains) (drawn-count test any any_line 32 0 (behind_chain n) others) (last (parts n).last) (drawn-count test lane lane_lines 32 0 (behind_last n) lanes)
  where
    sums : (a b c d e first run : ℕ) → a ≡ 32 * client → b ≡ 31 * chain → c ≡ 32 * any → d ≡ ends → e ≡ 32 * lane
        → a + first + b + c + d + (run + e) ≡ 32 * client + first + 31 * chain + 32 * any + ends + (run + 32 * lane)
    sums a b c d e first run p q r s t = omega (arith, p, q, r, s, t)

pub counts : (n : ℕ) → HasCounts (rehearsal n).script.lines
counts n =
    record {
      dos = counted is_do 4 1 1 7 0 (λ k h. refl) (λ k h. refl) (λ k h. refl) (λ last. refl) (λ k h. refl) n;
      lanes = counted is_lane 0 0 0 0 2 (λ k h. refl) (λ k h. refl) (λ k h. refl) (λ last. refl) (λ k h. refl) n;
      calls = counted is_call 4 1 1 7 2 (λ k h. refl) (λ k h. refl) (λ k h. refl) (λ last. refl) (λ k h. refl) n;
      opened = counted opens 1 0 0 1 0 (λ k h. refl) (λ k h. refl) (λ k h. refl) (λ last. refl) (λ k h. refl) n;
      segments = counted is_segment 0 0 0 0 0 (λ k h. refl) (λ k h. refl) (λ k h. refl) (λ last. refl) (λ k h. refl) n;
    }

no-periods : (n : ℕ) → count_by is_period_line (rehearsal n).script.lines ≡ 0
no-periods n = counted is_period_line 0 0 0 0 0 (λ k h. refl) (λ k h. refl) (λ k h. refl) (λ last. refl) (λ k h. refl) n

-- ---- the whole

pub dos-in : (n : ℕ) → AreDos (dos_of (parts n).clients (parts n).chain (parts n).others (parts n).last)
dos-in n =
    all-append IsDo ((parts n).clients ++ (capture_line ∷ []) ++ (parts n).chain ++ (parts n).others) (end_lines (parts n).last)
    (all-append IsDo ((parts n).clients ++ (capture_line ∷ []) ++ (parts n).chain) (parts n).others
    (all-append IsDo ((parts n).clients ++ (capture_line ∷ [])) (parts n).chain (all-append IsDo (parts n).clients (capture_line ∷ []) (parts n).clients_in capture-in) (parts n).chain_in) (parts n).others_in)
    (end-in (parts n).last (parts n).last_in)

lines-in : (n : ℕ) → AreBodies rehearsal_header [] (rehearsal n).script.lines
lines-in n =
    subst (λ (lines : List Body). AreBodies rehearsal_header [] lines) (sym (parts n).lines_are)
    (dos-behind (dos_of (parts n).clients (parts n).chain (parts n).others (parts n).last) (parts n).lanes (dos-in n) (parts n).lanes_in)

header-in : IsHeader rehearsal_header
header-in =
    record {
      version = (omega arith, omega arith);
      rate = (omega arith, omega arith);
      period = (4, omega arith, refl);
      capture = (omega arith, omega arith);
      playback = (omega arith, omega arith);
      bits = (1, omega arith, refl);
      workers = λ workers none. absurd cc;
      stealing = λ steals. absurd (true≢false (sym steals));
      ring = (omega arith, omega arith);
      drain = omega arith;
      fill = omega arith;
      few_recorders = omega arith;
      recorders = All-from_recursion (IsFormat 48000) rehearsal_header.recorders (record { rate_is = refl; channels = (omega arith, omega arith); bits = (1, omega arith, refl) }, tt);
      few_disks = omega arith;
      disks = All-from_recursion (IsIn 1 8) [] tt;
    }

-- sixteen lists without an event
lists-in : (P : List (ℕ × Event) → Type 0) → P [] → (numbers : List ℕ) → AllByRecursion P (map (λ list. []) numbers)
lists-in P none [] = tt
lists-in P none (n ∷ numbers) = (none, lists-in P none numbers)

all-lists : (P : List (ℕ × Event) → Type 0) → P [] → All P no_events
all-lists P none = All-from_recursion P no_events (lists-in P none (below 16))

pub cycles : (n : ℕ) → all_cycles (phases_of 64 (rehearsal n).script.lines) ≡ 10000
cycles n = ap (λ (lines : List Body). all_cycles (phases_of 64 lines)) (parts n).lines_are ∙ cycles-of (dos_of (parts n).clients (parts n).chain (parts n).others (parts n).last) (parts n).lanes (dos-in n) (parts n).lanes_in

bytes : (n : ℕ) → all_bytes rehearsal_header (phases_of 64 (rehearsal n).script.lines) ≡ 5120000
bytes n = ap (λ (lines : List Body). all_bytes rehearsal_header (phases_of 64 lines)) (parts n).lines_are ∙ bytes-of (dos_of (parts n).clients (parts n).chain (parts n).others (parts n).last) (parts n).lanes (dos-in n) (parts n).lanes_in

pub script : (n : ℕ) → IsScript (rehearsal n).script
script n =
    record {
      header = header-in;
      old = λ less. (refl, refl, all-lists (λ list. list ≡ []) refl);
      lists = refl;
      listed = all-lists (All IsListed) (All-from_recursion IsListed [] tt);
      by_frame = all-lists (λ list. IsNonDecreasing (map (λ item. item.0) list)) (IsNonDecreasing-ordered [] tt);
      few_events = omega arith;
      lines = bodies-at rehearsal_header [] (rehearsal n).script.lines (lines-in n);
      few_calls = at_most 263 4096 (count_by is_call (rehearsal n).script.lines) (counts n).calls (omega arith);
      few_opens = at_most 33 256 (count_by opens (rehearsal n).script.lines) (counts n).opened (omega arith);
      few_segments = at_most 1 256 (count_by is_segment (rehearsal n).script.lines) (counts n).segments (omega arith);
      few_periods = at_most 0 256 (count_by is_period_line (rehearsal n).script.lines) (no-periods n) (omega arith);
      few_cycles = at_most 10000 1000000 (all_cycles (phases_of 64 (rehearsal n).script.lines)) (cycles n) (omega arith);
      few_bytes = at_most 5120000 2000000000 (all_bytes rehearsal_header (phases_of 64 (rehearsal n).script.lines)) (bytes n) (omega arith);
    }
  where
    at_most : (is most m : ℕ) → m ≡ is → is ≤ most → m ≤ most
    at_most is most m same few = omega (arith, same, few)

-- the lines that are drawn part by part are those of the script, and then the samples are drawn
pub lines-drawn : (n : ℕ) → (lines_drawn (generator n)).0 ≡ (rehearsal n).script.lines
unfolding lines_drawn parts
lines-drawn n = sym (parts n).lines_are

pub samples-drawn : (n : ℕ) → (drawn sample_drawn capture_samples 0 (lines_drawn (generator n)).1).0 ≡ (rehearsal n).capture
unfolding lines_drawn
samples-drawn n = refl
