-- Calls that lines tell of, made one after the other.
--     accepted-append, told-append      lines behind lines
--     replay-first, replay-more      before the first, and one more
--     not-told, not-next, not-so      a call that is not right
--     used-front, wrong-call, too-many      how a replay ends
use Rattle.std.proofs.Common.{◌≡◌, ℕ, zero, suc, ◌+◌, ◌<◌, ◌≤◌, ◌==◌, count_by, List, [], ◌∷◌, ◌++◌, length, length-append, map, take, drop, slice_get, Some, None, refl, sym, ap, subst, ◌∙◌, arith, inl, inr}
use Rattle.std.specs.Prelude.{◌⊎◌, ◌-◌}
use Rattle.std.specs.Option.{option_map}
use Rattle.std.proofs.lemmas.List.{take-append-drop, take_all}
use Rattle.std.proofs.lemmas.List.Elements.{filter_map-append}
use Rattle.jack_types.specs.declared.replies.Entry.{Entry}
use Rattle.jack_types.specs.declared.replies.Reply.{Reply}
use Rattle.jack_types.specs.declared.replies.Reply.TheVariants.{Accepted, Refused, Latency}
use Rattle.session_model.specs.Commands.{after}
use Rattle.session_model.specs.Grammar.{IsScript}
use Rattle.session_model.specs.Histories.{accepted, change_of, state_after}
use Rattle.session_model.specs.Replies.{reply}
use Rattle.session_model.specs.Samples.{below}
use Rattle.session_model.specs.Scripts.{Script, Planned, planned_of}
use Rattle.session_model.specs.Serial.{answered}
use Rattle.session_model.specs.State.{State, opening}
use Rattle.session_laws.proofs.ListLemmas.{slice-some}
use Rattle.check_laws.proofs.PlaceLists.{none-some}
use Rattle.port_registry.proofs.PlaceLemmas.{slice_get-below, slice_get-push}
use Rattle.call_laws.proofs.KeptLemmas.{state-answered}
use Rattle.graph_replies.specs.Told.{HasShortDelays}
use Rattle.report_reader.specs.Forms.{printed_reply}
use Rattle.report_reader.specs.Reports.{reply_row}
use Rattle.report_reader.specs.declared.rows.CallLine.{CallLine}
use Rattle.told_laws.proofs.StuckLemmas.{take-front}
use Rattle.session_graph.specs.Replays.{IsReplay}
use Rattle.session_graph.specs.Told.{AreRight, IsRight, IsTooMany, IsUsed, IsWrongCall, call_told, entry_told, history_told, run_changes}
use Rattle.session_graph.proofs.ShortLemmas.{plan-lawful, short-after, short-opening}

printed-row : (r : Reply) → printed_reply (reply_row r) ≡ r
printed-row (Accepted number) = refl
printed-row (Refused refusal) = refl
printed-row (Latency range) = refl

pub accepted-append : (xs ys : List Entry) → accepted (xs ++ ys) ≡ accepted xs ++ accepted ys
accepted-append xs ys = filter_map-append change_of xs ys

pub told-append : (script : Script) (xs ys : List CallLine) → history_told script (xs ++ ys) ≡ history_told script xs ++ history_told script ys
told-append script xs ys = filter_map-append (entry_told script) xs ys

told-one : (script : Script) (line : CallLine) (entry : Entry) → entry_told script line ≡ Some entry → history_told script (line ∷ []) ≡ entry ∷ []
told-one script line entry e = rw e refl

module _ (script : Script) (before : List CallLine) (line : CallLine) where
  -- what is answered of a right call
  told-answered : (plan : Planned) → call_told script line ≡ Some plan
      → line.reply ≡ reply_row (reply (state_after script (history_told script before)) (length (accepted (history_told script before)) + 1) plan.call.command)
      → history_told script (before ++ line ∷ []) ≡ history_told script before ++ answered script (history_told script before) plan.call ∷ []
  told-answered plan told so =
      let history : List Entry = history_told script before in
      let entry : entry_told script line ≡ Some (answered script history plan.call) =
      ap (option_map (λ (p : Planned). record { call = p.call; reply = printed_reply line.reply })) told
      ∙ ap (λ (r : Reply). Some (record { call = plan.call; reply = r })) (ap printed_reply so ∙ printed-row (reply (state_after script history) (length (accepted history) + 1) plan.call.command)) in
      told-append script before (line ∷ []) ∙ ap (λ (es : List Entry). history ++ es) (told-one script line (answered script history plan.call) entry)

right-more : (script : Script) (before : List CallLine) (line : CallLine) → AreRight script before → IsRight script before line → AreRight script (before ++ line ∷ [])
right-more script before line all one i other at = go (slice_get-push before line i other at)
  where
    front : (xs ys : List CallLine) (n : ℕ) → n ≤ length xs → take n (xs ++ ys) ≡ take n xs
    front xs ys zero few = refl
    front [] ys (suc n) few = absurd (omega (arith, few))
    front (x ∷ xs) ys (suc n) few = ap (λ (zs : List CallLine). x ∷ zs) (front xs ys n (omega (arith, few)))

    go : (slice_get before i ≡ Some other) ⊎ ((i ≡ length before) × (line ≡ other)) → IsRight script (take i (before ++ line ∷ [])) other
    go (inl there) =
        let few : i < length before = slice_get-below before i other there in
        subst (λ (zs : List CallLine). IsRight script zs other) (sym (front before (line ∷ []) i (omega (arith, few)))) (all i other there)
    go (inr p) =
        let all_of : take i (before ++ line ∷ []) ≡ before = front before (line ∷ []) i (omega (arith, p.0)) ∙ take_all i before (omega (arith, p.0)) in
        subst (λ (zs : List CallLine). IsRight script zs other) (sym all_of) (subst (IsRight script before) p.1 one)

pub replay-first : (script : Script) (state : State) (calls : List (List Planned)) → IsScript script → state ≡ opening script.header.capture script.header.playback → calls ≡ map (planned_of script) (below 5) → IsReplay script [] state calls 1
replay-first script state calls is e c = record {
  lawful = is;
  right = λ i line at. absurd (none-some line at);
  state_is = e;
  short = subst HasShortDelays (sym e) (short-opening script.header.capture script.header.playback);
  calls_are = c;
  next_is = refl;
}

module _ (script : Script) (before : List CallLine) (line : CallLine) (state : State) (calls : List (List Planned)) (next : ℕ) (is : IsReplay script before state calls next) where
  -- what is answered
  same-reply : (plan : Planned) (given : Reply) → given ≡ reply state next plan.call.command
      → given ≡ reply (state_after script (history_told script before)) (length (accepted (history_told script before)) + 1) plan.call.command
  same-reply plan given e =
      e ∙ ap (λ (s : State). reply s next plan.call.command) is.state_is ∙ ap (λ (n : ℕ). reply (state_after script (history_told script before)) n plan.call.command) is.next_is

  pub replay-more : (plan : Planned) (given : Reply) (new : State) (behind : ℕ) → call_told script line ≡ Some plan → line.index ≡ count_by (λ (other : CallLine). other.lane == line.lane) before + 1
      → given ≡ reply state next plan.call.command → new ≡ after state next plan.call.command → line.reply ≡ reply_row given
      → behind ≡ next + length (accepted (record { call = plan.call; reply = given } ∷ []))
      → IsReplay script (before ++ line ∷ []) new calls behind
  replay-more plan given new behind told counted answer made so step =
      let history : List Entry = history_told script before in
      let same = same-reply plan given answer in
      let row : line.reply ≡ reply_row (reply (state_after script history) (length (accepted history) + 1) plan.call.command) = so ∙ ap reply_row same in
      let longer = told-answered script before line plan told row in
      let entry : record { call = plan.call; reply = given } ≡ answered script history plan.call = ap (λ (r : Reply). record { call = plan.call; reply = r }) same in
      record {
        lawful = is.lawful;
        right = right-more script before line is.right (record { plan = plan; told = told; next = counted; answered = row });
        state_is =
            made ∙ ap (λ (s : State). after s next plan.call.command) is.state_is ∙ ap (λ (n : ℕ). after (state_after script history) n plan.call.command) is.next_is
            ∙ sym (state-answered script history plan.call) ∙ ap (state_after script) (sym longer);
        short = subst HasShortDelays (sym made) (short-after script.header state next plan.call.command (plan-lawful script is.lawful line plan told) is.short);
        calls_are = is.calls_are;
        next_is =
            let size : length (accepted (history_told script (before ++ line ∷ []))) ≡ length (accepted history) + length (accepted (answered script history plan.call ∷ [])) =
            ap (λ (es : List Entry). length (accepted es)) longer ∙ ap length (accepted-append history (answered script history plan.call ∷ [])) ∙ length-append (accepted history) (accepted (answered script history plan.call ∷ [])) in
            let one : length (accepted (record { call = plan.call; reply = given } ∷ [])) ≡ length (accepted (answered script history plan.call ∷ [])) = ap (λ (e : Entry). length (accepted (e ∷ []))) entry in
            let old = is.next_is in
            omega (arith, size, one, old, step);
      }

  pub not-told : None ≡ call_told script line → IsRight script before line → ⊥
  not-told none right = none-some right.plan (none ∙ right.told)

  pub not-so : (plan : Planned) (given : Reply) → call_told script line ≡ Some plan → given ≡ reply state next plan.call.command → (line.reply ≡ reply_row given → ⊥) → IsRight script before line → ⊥
  not-so plan given told answer other right =
      let same : right.plan ≡ plan = slice-some right.plan plan (sym right.told ∙ told) in
      other (right.answered ∙ ap (λ (p : Planned). reply_row (reply (state_after script (history_told script before)) (length (accepted (history_told script before)) + 1) p.call.command)) same ∙ ap reply_row (sym (same-reply plan given answer)))

-- ---- how it ends

module _ (script : Script) (lines : List CallLine) (i number : ℕ) (state : State) (calls : List (List Planned)) (next : ℕ) (is : IsReplay script (take i lines) state calls next) where
  pub used-front : next ≡ number + 1 → IsUsed script lines number state
  used-front e =
      let front : List Entry = history_told script (take i lines) in
      let rest : List Entry = history_told script (drop i lines) in
      let whole : accepted (history_told script lines) ≡ accepted front ++ accepted rest =
      ap (λ (ls : List CallLine). accepted (history_told script ls)) (sym (take-append-drop i lines)) ∙ ap accepted (told-append script (take i lines) (drop i lines)) ∙ accepted-append front rest in
      let old = is.next_is in
      let enough : length (accepted front) ≡ number = omega (arith, old, e) in
      record {
        state_is =
            is.state_is ∙ ap (run_changes script) (sym (take-front (length (accepted front)) (accepted front) (accepted rest) refl) ∙ ap (λ (n : ℕ). take n (accepted front ++ accepted rest)) enough ∙ ap (take number) (sym whole));
        made = i;
        right = is.right;
        number_is = enough;
      }

  pub wrong-call : (line : CallLine) → slice_get lines i ≡ Some line → next ≤ number → (IsRight script (take i lines) line → ⊥) → IsWrongCall script lines number (i + 1)
  wrong-call line at few isnt =
      let same : (i + 1) - 1 ≡ i = omega arith in
      let old = is.next_is in
      record {
        right = subst (λ (n : ℕ). AreRight script (take n lines)) (sym same) is.right;
        line = line;
        at = subst (λ (n : ℕ). slice_get lines n ≡ Some line) (sym same) at;
        counted = omega arith;
        wrong = subst (λ (n : ℕ). IsRight script (take n lines) line → ⊥) (sym same) isnt;
        fewer = subst (λ (n : ℕ). length (accepted (history_told script (take n lines))) < number) (sym same) (omega (arith, old, few));
      }

  pub too-many : length lines ≤ i → next ≤ number → IsTooMany script lines number
  too-many all few =
      let whole : take i lines ≡ lines = take_all i lines all in
      let old = is.next_is in
      let fewer : length (accepted (history_told script (take i lines))) < number = omega (arith, old, few) in
      record {
        right = subst (AreRight script) whole is.right;
        fewer = subst (λ (ls : List CallLine). length (accepted (history_told script ls)) < number) whole fewer;
      }
