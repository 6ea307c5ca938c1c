-- A call that a desk makes.
--     new-changes, new-front      what is published behind it
--     IsDesk-published, IsDesk-kept      the desk, where the call was accepted and where it was not
--     HasSeen-looked      what a look shows
use Rattle.std.proofs.Common.{◌≡◌, ℕ, zero, suc, ◌+◌, ◌*◌, ◌<◌, ◌≤◌, List, [], ◌∷◌, ◌++◌, length, Contains, refl, sym, ◌∙◌, ap, subst, arith, append-nil}
use Rattle.std.proofs.lemmas.List.Elements.{Contains-append_right}
use Rattle.jack_types.specs.declared.commands.Change.{Change}
use Rattle.jack_types.specs.declared.commands.Command.{Command}
use Rattle.jack_types.specs.declared.replies.Entry.{Entry}
use Rattle.jack_types.specs.declared.replies.Reply.TheVariants.{Accepted}
use Rattle.graph_word.specs.Publications.{Publishing, IsFront}
use Rattle.graph_word.proofs.Fronts.{front_longer}
use Rattle.session_model.specs.Grammar.{IsScript}
use Rattle.session_model.specs.Histories.{accepted}
use Rattle.session_model.specs.Publication.{SeenPair}
use Rattle.session_model.specs.Replies.{AreLawful}
use Rattle.session_model.specs.Scripts.{Script, Phase, LaneCall, Planned, Uncounted, phases, planned, uncounted}
use Rattle.session_model.specs.Serial.{answered}
use Rattle.session_model.specs.State.{opening}
use Rattle.session_laws.proofs.ListLemmas.{Each, Each-all, Each-append, Each-contains, Each-map, Each-weaker}
use Rattle.session_laws.proofs.LoopLemmas.{Contains-first}
use Rattle.session_laws.proofs.SerialCallsLemmas.{KeepsLanes, Each-counted, calls_at, dos_of}
use Rattle.session_laws.proofs.SerialLawfulLemmas.{KeepsLanes-phases}
use Rattle.call_laws.specs.cycle_plan.specs.Plans.{HasTempos, opening_of}
use Rattle.call_laws.proofs.RoomLemmas.{accepted-push}
use Rattle.control_desk.specs.Desks.{Desk, HasSeen, IsDesk, LooksBy, base_of}
use Rattle.control_desk.specs.Past.{IsNext, Past}
use Rattle.control_desk.proofs.AcceptedLemmas.{accepted-few, accepted-not, accepted-one, accepted-tempos}
use Rattle.control_desk.proofs.DeskLemmas.{IsDesk-made}
use Rattle.control_desk.proofs.LawfulLemmas.{lawful_accepted}
use Rattle.control_desk.proofs.PastLemmas.{legal-next}

-- ---- what a look shows

asks-none : (phs : List Phase) (index base : ℕ) → Each KeepsLanes phs → Each (λ (u : Uncounted). u.lane ≡ 0 → u.asked ≡ 0) (uncounted index base phs)
asks-none [] index base keeps = tt
asks-none (phase ∷ phs) index base keeps =
    Each-append AsksNone (dos_of index phase ++ calls_at index base phase) (uncounted (index + 1) (base + phase.cycles) phs)
    (Each-append AsksNone (dos_of index phase) (calls_at index base phase)
    (Each-map AsksNone (λ (command : Command). record { lane = 0; command = command; stage = 2 * index; asked = 0 }) phase.dos (Each-all (λ (command : Command). 0 ≡ 0 → 0 ≡ 0) (λ command e. refl) phase.dos))
    (Each-map AsksNone (λ (call : LaneCall). record { lane = call.lane; command = call.command; stage = 2 * index + 1; asked = base + call.begun }) phase.calls
    (Each-weaker (λ (call : LaneCall). (1 ≤ call.lane) × (call.lane ≤ 4) × (call.begun ≤ phase.cycles)) (λ (call : LaneCall). call.lane ≡ 0 → base + call.begun ≡ 0) (λ call q e. absurd (clash call.lane q.0 e)) phase.calls keeps.0.each)))
    (asks-none phs (index + 1) (base + phase.cycles) keeps.1)
  where
    AsksNone : Uncounted → Type 0
    AsksNone u = u.lane ≡ 0 → u.asked ≡ 0

    clash : (lane : ℕ) → 1 ≤ lane → lane ≡ 0 → ⊥
    clash lane low e = omega (arith, low, e)

asked-none : (script : Script) → IsScript script → (plan : Planned) → Contains (planned script) plan → plan.call.lane ≡ 0 → plan.asked ≡ 0
asked-none script is plan listed =
    Each-contains (λ (p : Planned). p.call.lane ≡ 0 → p.asked ≡ 0) (planned script) plan
    (Each-counted (λ (u : Uncounted). u.lane ≡ 0 → u.asked ≡ 0) [] (uncounted 0 0 (phases script)) (asks-none (phases script) 0 0 (KeepsLanes-phases script is))) listed

pub HasSeen-looked : (desk looked : Desk) (lane seen : ℕ) (plan : Planned) → IsScript desk.script → IsDesk desk → Contains (planned desk.script) plan → plan.call.lane ≡ lane → LooksBy lane desk.publishing seen looked.publishing
    → looked ≡ record desk { publishing = looked.publishing } → plan.asked ≤ seen → HasSeen looked plan
HasSeen-looked desk looked zero seen plan is_script is listed own looks same enough some =
    let none : plan.asked ≡ 0 = asked-none desk.script is_script plan listed own in
    absurd (omega (arith, none, some))
HasSeen-looked desk looked (suc lane) seen plan is_script is listed own looks same enough some =
    let pair : SeenPair = record { cycle = seen; number = length desk.publishing.all } in
    let pairs : looked.publishing.pairs ≡ desk.publishing.pairs ++ pair ∷ [] = ap (λ (p : Publishing). p.pairs) looks.after_is in
    let history : looked.history ≡ desk.history = ap (λ (d : Desk). d.history) same in (
      pair,
      subst (λ ps. Contains ps pair) (sym pairs) (Contains-append_right desk.publishing.pairs (pair ∷ []) pair (Contains-first pair [])),
      enough,
      ap length (is.published ∙ ap accepted (sym history)),
    )

-- ---- a call that is made

module _ (desk : Desk) (is_script : IsScript desk.script) (is : IsDesk desk) (plan : Planned) (next : IsNext desk.script desk.history plan) (new : Past)
    (made : new ≡ record { script = desk.script; history = desk.history ++ answered desk.script desk.history plan.call ∷ [] }) where
  abbrev pub entry : Entry
  entry = answered desk.script desk.history plan.call

  pub script-same : new.script ≡ desk.script
  script-same = ap (λ (p : Past). p.script) made

  pub history-made : new.history ≡ desk.history ++ entry ∷ []
  history-made = ap (λ (p : Past). p.history) made

  -- the accepted changes, where the call was accepted
  pub new-changes : (changes : List Change) (number : ℕ) → changes ≡ accepted new.history → entry.reply ≡ Accepted number → changes ≡ desk.publishing.all ++ record { number = number; command = plan.call.command } ∷ []
  new-changes changes number value e =
      value ∙ ap accepted history-made ∙ accepted-push desk.history entry ∙ ap (λ cs. accepted desk.history ++ cs) (accepted-one entry number e)
      ∙ ap (λ cs. cs ++ record { number = number; command = plan.call.command } ∷ []) (sym is.published)

  -- and where it was not
  unchanged : ((number : ℕ) → entry.reply ≡ Accepted number → ⊥) → accepted (desk.history ++ entry ∷ []) ≡ accepted desk.history
  unchanged other = accepted-push desk.history entry ∙ ap (λ cs. accepted desk.history ++ cs) (accepted-not entry other) ∙ append-nil (accepted desk.history)

  pub new-front : (changes : List Change) → changes ≡ accepted new.history → IsFront desk.publishing.held changes
  new-front changes value =
      subst (IsFront desk.publishing.held) (sym (value ∙ ap accepted history-made ∙ accepted-push desk.history entry)) (front_longer desk.publishing.held (accepted desk.history) (accepted (entry ∷ [])) is.held)

  pub new-lawful : (changes : List Change) → changes ≡ accepted new.history → AreLawful (opening_of desk.publishing.base) changes
  new-lawful changes value =
      subst (λ b. AreLawful (opening_of b) changes) (sym is.base)
      (subst (AreLawful (opening desk.script.header.capture desk.script.header.playback)) (sym (value ∙ ap accepted history-made))
      (lawful_accepted desk.script (desk.history ++ entry ∷ []) (legal-next desk.script desk.history is.legal plan next)))

  pub new-few : (changes : List Change) → changes ≡ accepted new.history → length changes ≤ 4096
  new-few changes value = subst (λ cs. length cs ≤ 4096) (sym (value ∙ ap accepted history-made)) (accepted-few desk.script is_script (desk.history ++ entry ∷ []) (legal-next desk.script desk.history is.legal plan next))

  pub new-tempos : (changes : List Change) → changes ≡ accepted new.history → HasTempos changes
  new-tempos changes value = subst HasTempos (sym (value ∙ ap accepted history-made)) (accepted-tempos desk.script is_script (desk.history ++ entry ∷ []) (legal-next desk.script desk.history is.legal plan next))

  module _ (low : plan.stage < 2 * desk.phase) (seen : HasSeen desk plan) where
    pub IsDesk-published : (publishing : Publishing) (changes : List Change) → changes ≡ accepted new.history → publishing ≡ record desk.publishing { all = changes; held = publishing.held } → IsFront publishing.held changes
        → IsDesk (record { script = new.script; history = new.history; phase = desk.phase; publishing = publishing })
    IsDesk-published publishing changes value same front =
        let now : changes ≡ accepted (desk.history ++ entry ∷ []) = value ∙ ap accepted history-made in
        subst (λ (p : Past). IsDesk (record { script = p.script; history = p.history; phase = desk.phase; publishing = publishing })) (sym made)
        (IsDesk-made desk is_script is plan next low seen publishing (same ∙ ap (λ cs. record desk.publishing { all = cs; held = publishing.held }) now) (subst (IsFront publishing.held) now front))

    pub IsDesk-kept : ((number : ℕ) → entry.reply ≡ Accepted number → ⊥) → IsDesk (record { script = new.script; history = new.history; phase = desk.phase; publishing = desk.publishing })
    IsDesk-kept other =
        subst (λ (p : Past). IsDesk (record { script = p.script; history = p.history; phase = desk.phase; publishing = desk.publishing })) (sym made)
        (IsDesk-made desk is_script is plan next low seen desk.publishing
        (ap (λ cs. record desk.publishing { all = cs; held = desk.publishing.held }) (is.published ∙ sym (unchanged other)))
        (subst (IsFront desk.publishing.held) (sym (unchanged other)) is.held))

  pub publishing-kept : ((number : ℕ) → entry.reply ≡ Accepted number → ⊥) → desk.publishing ≡ record desk.publishing { all = accepted new.history; held = desk.publishing.held }
  publishing-kept other = ap (λ cs. record desk.publishing { all = cs; held = desk.publishing.held }) (is.published ∙ sym (unchanged other) ∙ ap accepted (sym history-made))

  pub base-kept : (base : _) → base ≡ base_of desk.script → base ≡ base_of new.script
  base-kept base e = e ∙ ap base_of (sym script-same)
