-- What a reply leaves of a state, and how many calls were made.
use Rattle.std.proofs.Common.{◌≡◌, ℕ, zero, suc, ◌+◌, ◌≤◌, Bool, true, false, cond, ◌==◌, List, [], ◌∷◌, ◌++◌, length, map, set, Option, Some, None, is_none, refl, sym, ◌∙◌, ap, arith}
use Rattle.jack_types.specs.declared.commands.Call.{Call}
use Rattle.jack_types.specs.declared.commands.Change.{Change}
use Rattle.jack_types.specs.declared.commands.Command.{Command}
use Rattle.jack_types.specs.declared.commands.Command.TheVariants.{Latency}
use Rattle.jack_types.specs.declared.replies.Entry.{Entry}
use Rattle.jack_types.specs.declared.replies.Refusal.{Refusal}
use Rattle.session_model.specs.Commands.{after, effect, refusal, replay}
use Rattle.session_model.specs.Histories.{accepted, state_after}
use Rattle.session_model.specs.Replies.{granted, reply, reply_by}
use Rattle.session_model.specs.Samples.{below}
use Rattle.session_model.specs.Scripts.{Script}
use Rattle.session_model.specs.Serial.{answered}
use Rattle.session_model.specs.State.{State, opening}
use Rattle.call_laws.proofs.RoomLemmas.{accepted-push}

pub replay-append : (state : State) (xs ys : List Change) → replay state (xs ++ ys) ≡ replay (replay state xs) ys
replay-append state [] ys = refl
replay-append state (x ∷ xs) ys = replay-append (after state x.number x.command) xs ys

-- a reply says what the command makes of the state
pub behind-reply : (state : State) (number : ℕ) (call : Call) → replay state (accepted (record { call = call; reply = reply state number call.command } ∷ [])) ≡ after state number call.command
behind-reply state number call = go (refusal state call.command) refl
  where
    grants : (c : Command) → replay state (accepted (record { call = record call { command = c }; reply = granted state number c } ∷ [])) ≡ after state number c
    grants (Latency mode port) = same (is_none (refusal state (Latency mode port)))
      where
        same : (b : Bool) → state ≡ cond b state state
        same true = refl
        same false = refl
    grants _ = refl

    go : (o : Option Refusal) → refusal state call.command ≡ o → replay state (accepted (record { call = call; reply = reply_by state number call.command o } ∷ [])) ≡ after state number call.command
    go (Some r) e = ap (λ q. cond (is_none q) (effect state number call.command) state) (sym e)
    go None e = grants call.command

pub state-answered : (script : Script) (history : List Entry) (call : Call) → state_after script (history ++ answered script history call ∷ []) ≡ after (state_after script history) (length (accepted history) + 1) call.command
state-answered script history call =
    ap (replay (opening script.header.capture script.header.playback)) (accepted-push history (answered script history call))
    ∙ replay-append (opening script.header.capture script.header.playback) (accepted history) (accepted (answered script history call ∷ []))
    ∙ behind-reply (state_after script history) (length (accepted history) + 1) call

pub five-same : (a0 a1 a2 a3 a4 : ℕ) (b : ℕ → ℕ) → a0 ≡ b 0 → a1 ≡ b 1 → a2 ≡ b 2 → a3 ≡ b 3 → a4 ≡ b 4 → a0 ∷ a1 ∷ a2 ∷ a3 ∷ a4 ∷ [] ≡ map b (below 5)
five-same a0 a1 a2 a3 a4 b e0 e1 e2 e3 e4 =
    ap (λ x. x ∷ a1 ∷ a2 ∷ a3 ∷ a4 ∷ []) e0 ∙ ap (λ x. b 0 ∷ x ∷ a2 ∷ a3 ∷ a4 ∷ []) e1 ∙ ap (λ x. b 0 ∷ b 1 ∷ x ∷ a3 ∷ a4 ∷ []) e2
    ∙ ap (λ x. b 0 ∷ b 1 ∷ b 2 ∷ x ∷ a4 ∷ []) e3 ∙ ap (λ x. b 0 ∷ b 1 ∷ b 2 ∷ b 3 ∷ x ∷ []) e4

-- one of five counts is one more
pub counts-set : (count new : ℕ → ℕ) (lane : ℕ) → lane ≤ 4 → ((k : ℕ) → new k ≡ count k + cond (lane == k) 1 0) → set (map count (below 5)) lane (count lane + 1) ≡ map new (below 5)
counts-set count new zero h more =
    let m0 = more 0 in let m1 = more 1 in let m2 = more 2 in let m3 = more 3 in let m4 = more 4 in
    five-same (count 0 + 1) (count 1) (count 2) (count 3) (count 4) new (omega (arith, m0)) (omega (arith, m1)) (omega (arith, m2)) (omega (arith, m3)) (omega (arith, m4))
counts-set count new (suc zero) h more =
    let m0 = more 0 in let m1 = more 1 in let m2 = more 2 in let m3 = more 3 in let m4 = more 4 in
    five-same (count 0) (count 1 + 1) (count 2) (count 3) (count 4) new (omega (arith, m0)) (omega (arith, m1)) (omega (arith, m2)) (omega (arith, m3)) (omega (arith, m4))
counts-set count new (suc (suc zero)) h more =
    let m0 = more 0 in let m1 = more 1 in let m2 = more 2 in let m3 = more 3 in let m4 = more 4 in
    five-same (count 0) (count 1) (count 2 + 1) (count 3) (count 4) new (omega (arith, m0)) (omega (arith, m1)) (omega (arith, m2)) (omega (arith, m3)) (omega (arith, m4))
counts-set count new (suc (suc (suc zero))) h more =
    let m0 = more 0 in let m1 = more 1 in let m2 = more 2 in let m3 = more 3 in let m4 = more 4 in
    five-same (count 0) (count 1) (count 2) (count 3 + 1) (count 4) new (omega (arith, m0)) (omega (arith, m1)) (omega (arith, m2)) (omega (arith, m3)) (omega (arith, m4))
counts-set count new (suc (suc (suc (suc zero)))) h more =
    let m0 = more 0 in let m1 = more 1 in let m2 = more 2 in let m3 = more 3 in let m4 = more 4 in
    five-same (count 0) (count 1) (count 2) (count 3) (count 4 + 1) new (omega (arith, m0)) (omega (arith, m1)) (omega (arith, m2)) (omega (arith, m3)) (omega (arith, m4))
counts-set count new (suc (suc (suc (suc (suc lane))))) h more = absurd (omega (arith, h))
