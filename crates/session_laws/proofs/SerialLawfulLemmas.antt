-- Serial mode's history and numbers are lawful for every script that the grammar allows.
--     KeepsLanes-phases      in each phase of such a script the lane calls keep their ranges and order
--     serial-is_legal, serial-has_cycles      its serial history and numbers are lawful
use Rattle.std.proofs.Common.{◌≡◌, ℕ, suc, ◌≤◌, Bool, true, false, cond, ◌==◌, List, [], ◌∷◌, ◌++◌, take, fold, slice_get, Some, None, refl, sym, ◌∙◌, ap, subst, arith, append_assoc, append-nil}
use Rattle.std.proofs.lemmas.Bool.Decides.{nat_tests}
use Rattle.session_model.specs.jack_types.specs.declared.commands.Command.{Command}
use Rattle.session_model.specs.jack_types.specs.declared.scripts.Body.{Body}
use Rattle.session_model.specs.jack_types.specs.declared.scripts.Body.TheVariants.{Do, Run, Freewheel, Lane, Period}
use Rattle.session_model.specs.jack_types.specs.declared.scripts.Header.{Header}
use Rattle.session_model.specs.Grammar.{IsScript, IsBody, open_segment, segment_after, last_begun, begun_after}
use Rattle.session_model.specs.Histories.{Legal, Cycles}
use Rattle.session_model.specs.Scripts.{Script, Phase, LaneCall, phases, phases_of, lane_calls, with_do}
use Rattle.session_model.specs.Serial.{serial}
use Rattle.session_laws.proofs.ListLemmas.{Each, Ordered, Each-weaker}
use Rattle.session_laws.proofs.SerialCallsLemmas.{KeepsLanes}
use Rattle.session_laws.proofs.SerialLemmas.{Legal-serial}
use Rattle.session_laws.proofs.SerialNumbersLemmas.{Cycles-serial}

fold_push : {X Y : Type 0} (f : Y → X → Y) (a : Y) (xs : List X) (x : X) → fold f a (xs ++ x ∷ []) ≡ f (fold f a xs) x
fold_push f a [] x = refl
fold_push f a (y ∷ xs) x = fold_push f (f a y) xs x

-- each of these lines is lawful behind the earlier ones
abbrev pub AreBodies : Header → List Body → List Body → Type 0
AreBodies header earlier lines = (i : ℕ) (body : Body) → slice_get lines i ≡ Some body → IsBody header (earlier ++ take i lines) body

AreBodies-first : (header : Header) (earlier : List Body) (line : Body) (lines : List Body) → AreBodies header earlier (line ∷ lines) → IsBody header earlier line
AreBodies-first header earlier line lines h = subst (λ es. IsBody header es line) (append-nil earlier) (h 0 line refl)

pub AreBodies-rest : (header : Header) (earlier : List Body) (line : Body) (lines : List Body) → AreBodies header earlier (line ∷ lines) → AreBodies header (earlier ++ line ∷ []) lines
AreBodies-rest header earlier line lines h i body e = subst (λ es. IsBody header es body) (sym (append_assoc earlier (line ∷ []) (take i lines))) (h (suc i) body e)

some-cycles : (a b : ℕ) → Some a ≡ Some b → a ≡ b
some-cycles a b e = cc

abbrev pub InRange : ℕ → LaneCall → Type 0
InRange cycles call = (1 ≤ call.lane) × (call.lane ≤ 4) × (call.begun ≤ cycles)

abbrev pub InOrder : LaneCall → LaneCall → Type 0
InOrder a b = a.lane ≡ b.lane → a.begun ≤ b.begun

abbrev pub IsAtLeast : List Body → LaneCall → Type 0
IsAtLeast earlier call = last_begun earlier call.lane ≤ call.begun

module _ (header : Header) where
  calls_keep : (lines earlier : List Body) (cycles : ℕ) → AreBodies header earlier lines → open_segment earlier ≡ Some cycles
      → Each (InRange cycles) (lane_calls lines) × Ordered InOrder (lane_calls lines) × Each (IsAtLeast earlier) (lane_calls lines)
  calls_keep [] earlier cycles h o = (tt, tt, tt)
  calls_keep (Do command ∷ lines) earlier cycles h o = (tt, tt, tt)
  calls_keep (Run n ∷ lines) earlier cycles h o = (tt, tt, tt)
  calls_keep (Freewheel n ∷ lines) earlier cycles h o = (tt, tt, tt)
  calls_keep (Period period ∷ lines) earlier cycles h o = (tt, tt, tt)
  calls_keep (Lane lane begun command ∷ lines) earlier cycles h o =
      go (AreBodies-first header earlier (Lane lane begun command) lines h)
      (calls_keep lines (earlier ++ Lane lane begun command ∷ []) cycles (AreBodies-rest header earlier (Lane lane begun command) lines h)
      (fold_push segment_after None earlier (Lane lane begun command) ∙ o))
    where
      now : ℕ → ℕ
      now l = last_begun (earlier ++ Lane lane begun command ∷ []) l

      now_is : (l : ℕ) → now l ≡ cond (lane == l) begun (last_begun earlier l)
      now_is l = fold_push (begun_after l) 0 earlier (Lane lane begun command)

      go : IsBody header earlier (Lane lane begun command)
          → Each (InRange cycles) (lane_calls lines) × Ordered InOrder (lane_calls lines) × Each (IsAtLeast (earlier ++ Lane lane begun command ∷ [])) (lane_calls lines)
          → Each (InRange cycles) (lane_calls (Lane lane begun command ∷ lines)) × Ordered InOrder (lane_calls (Lane lane begun command ∷ lines)) × Each (IsAtLeast earlier) (lane_calls (Lane lane begun command ∷ lines))
      go b rest =
          let same : (b.1).0 ≡ cycles = some-cycles (b.1).0 cycles (sym (b.1).1 ∙ o) in (
            ((b.0.0, b.0.1, omega (arith, (b.1).2, same)), rest.0),
            (Each-weaker (IsAtLeast (earlier ++ Lane lane begun command ∷ [])) (InOrder (record { lane = lane; begun = begun; command = command })) (λ call q e. ordered call q e) (lane_calls lines) rest.2, rest.1),
            (b.2, Each-weaker (IsAtLeast (earlier ++ Lane lane begun command ∷ [])) (IsAtLeast earlier) (λ call q. least call q) (lane_calls lines) rest.2),
          )
        where
          ordered : (call : LaneCall) → now call.lane ≤ call.begun → lane ≡ call.lane → begun ≤ call.begun
          ordered call q e = let is = now_is call.lane in grind (arith, nat_tests)

          least : (call : LaneCall) → now call.lane ≤ call.begun → last_begun earlier call.lane ≤ call.begun
          least call q = cases (lane == call.lane) refl
            where
              cases : (t : Bool) → (lane == call.lane) ≡ t → last_begun earlier call.lane ≤ call.begun
              cases true e =
                  let s : lane ≡ call.lane = grind (arith, nat_tests) in
                  let l : last_begun earlier call.lane ≤ begun = subst (λ n. last_begun earlier n ≤ begun) s b.2 in
                  omega (arith, l, ordered call q s)
              cases false e = let is : now call.lane ≡ last_begun earlier call.lane = now_is call.lane ∙ ap (λ t. cond t begun (last_begun earlier call.lane)) e in omega (arith, is, q)

  with_do-keeps : (command : Command) (phs : List Phase) → Each KeepsLanes phs → Each KeepsLanes (with_do command phs)
  with_do-keeps command [] k = tt
  with_do-keeps command (phase ∷ phs) k = (record { each = k.0.each; order = k.0.order }, k.1)

  phases_keep : (lines earlier : List Body) (period : ℕ) → AreBodies header earlier lines → Each KeepsLanes (phases_of period lines)
  phases_keep [] earlier period h = (record { each = tt; order = tt }, tt)
  phases_keep (Do command ∷ lines) earlier period h =
      with_do-keeps command (phases_of period lines) (phases_keep lines (earlier ++ Do command ∷ []) period (AreBodies-rest header earlier (Do command) lines h))
  phases_keep (Run cycles ∷ lines) earlier period h =
      let rest : AreBodies header (earlier ++ Run cycles ∷ []) lines = AreBodies-rest header earlier (Run cycles) lines h in
      let c = calls_keep lines (earlier ++ Run cycles ∷ []) cycles rest (fold_push segment_after None earlier (Run cycles)) in
      (record { each = c.0; order = c.1 }, phases_keep lines (earlier ++ Run cycles ∷ []) period rest)
  phases_keep (Freewheel cycles ∷ lines) earlier period h =
      let rest : AreBodies header (earlier ++ Freewheel cycles ∷ []) lines = AreBodies-rest header earlier (Freewheel cycles) lines h in
      let c = calls_keep lines (earlier ++ Freewheel cycles ∷ []) cycles rest (fold_push segment_after None earlier (Freewheel cycles)) in
      (record { each = c.0; order = c.1 }, phases_keep lines (earlier ++ Freewheel cycles ∷ []) period rest)
  phases_keep (Lane lane begun command ∷ lines) earlier period h =
      phases_keep lines (earlier ++ Lane lane begun command ∷ []) period (AreBodies-rest header earlier (Lane lane begun command) lines h)
  phases_keep (Period next ∷ lines) earlier period h =
      phases_keep lines (earlier ++ Period next ∷ []) next (AreBodies-rest header earlier (Period next) lines h)

pub KeepsLanes-phases : (script : Script) → IsScript script → Each KeepsLanes (phases script)
KeepsLanes-phases script h = phases_keep script.header script.lines [] script.header.period h.lines

pub serial-is_legal : (script : Script) → IsScript script → Legal script (serial script).history
serial-is_legal script h = Legal-serial script (KeepsLanes-phases script h)

pub serial-has_cycles : (script : Script) → IsScript script → Cycles script (serial script).history (serial script).numbers
serial-has_cycles script h = Cycles-serial script (KeepsLanes-phases script h)
