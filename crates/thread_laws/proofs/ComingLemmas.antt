-- How far a session came behind a phase in threads mode that failed.
--     come_behind_fault      its history is legal so far, its numbers do not fall, and each is within its phase's bounds
use Rattle.std.proofs.Common.{◌≡◌, ℕ, suc, ◌+◌, ◌-◌, ◌*◌, ◌<◌, ◌≤◌, Bool, true, false, nat_lt, List, ◌++◌, length, All, get_or, take, drop, slice_get, Some, refl, sym, ◌∙◌, ap, subst, arith}
use Rattle.std.proofs.lemmas.Bool.Decides.{nat_tests}
use Rattle.std.proofs.lemmas.List.Elements.{All-weaker}
use Rattle.std.proofs.lemmas.Option.{slice_get_within}
use Rattle.std.specs.List.Sorted.{IsNonDecreasing}
use Rattle.jack_types.specs.declared.replies.Entry.{Entry}
use Rattle.session_model.specs.Grammar.{IsScript}
use Rattle.session_model.specs.Histories.{IsWithinPhase, LegalSoFar, accepted_below, stage_of}
use Rattle.session_model.specs.Scripts.{Script, ScriptCycle, turns}
use Rattle.graph_word.specs.Publications.{Reading}
use Rattle.control_desk.specs.Desks.{GoesOn, IsOfPhases}
use Rattle.control_desk.specs.Laws.{AcceptedLater, AcceptedUpTo}
use Rattle.driver_laws.specs.Drivers.{run, turn_of}
use Rattle.driver_laws.specs.Segments.{cycles_before}
use Rattle.run_laws.proofs.LossLemmas.{front-short}
use Rattle.run_laws.specs.Runs.{RanPhases}
use Rattle.run_laws.specs.Sessions.{Session}
use Rattle.serial_laws.proofs.RowLemmas.{accepted-front}
use Rattle.thread_laws.specs.Laws.{GroupBelow, GroupStays, LaterPhases, Took}
use Rattle.thread_laws.proofs.ChainLemmas.{goes-later, goes-met, goes-same, least-met}
use Rattle.thread_laws.proofs.GroupLemmas.{front-group}
use Rattle.thread_laws.proofs.ItemLemmas.{each-there, front-front, slice_get-left, slice_get-right}
use Rattle.thread_laws.proofs.LaterLemmas.{below_later}
use Rattle.thread_laws.proofs.TakeLemmas.{rising_more}
use Rattle.thread_laws.proofs.TurnLemmas.{turn-at, turn-before}
use Rattle.thread_laws.proofs.WithinLemmas.{CycleIs, NumbersArePublished}
use Rattle.thread_laws.specs.Faults.{ThreadFault}
use Rattle.thread_laws.specs.Coming.{ComeBehindFault}
use Rattle.thread_laws.proofs.BegunLemmas.{Begun, BegunSome, JoinStays, begun-join, join-stays}

module _ (done many kept : ℕ) (freewheel : Bool) (session after : Session) (fault : ThreadFault done many freewheel kept session after) where
  stays : JoinStays fault.paced fault.served
  stays = join-stays many freewheel kept fault.paced fault.served fault.joins

  some : BegunSome many fault.paced.driver fault.served.driver
  some = begun-join many freewheel kept fault.paced fault.served fault.joins

  begun : Begun some.0 fault.paced.driver fault.served.driver
  begun = some.2

  -- ---- the desk

  goes-gone : GoesOn fault.grouped.desk fault.gone.desk
  goes-gone =
      goes-later fault.grouped.desk fault.met.desk fault.gone.desk (goes-met fault.grouped fault.met fault.meets)
      (goes-later fault.met.desk fault.served.desk fault.gone.desk (goes-same fault.met.desk fault.served.desk (stays.desk ∙ ap (λ (s : Session). s.desk) fault.paces.same)) fault.goes.goes)

  script-grouped : fault.grouped.desk.script ≡ session.desk.script
  script-grouped = ap (λ (s : Session). s.desk.script) fault.groups.same

  phase-grouped : fault.grouped.desk.phase ≡ suc done
  phase-grouped = ap (λ (s : Session). s.desk.phase) fault.groups.same

  pub script-gone : fault.gone.desk.script ≡ session.desk.script
  script-gone = goes-gone.script ∙ script-grouped

  phase-gone : fault.gone.desk.phase ≡ suc done
  phase-gone = goes-gone.phase ∙ phase-grouped

  pub history-gone : after.desk.history ≡ fault.gone.desk.history
  history-gone = ap (λ (s : Session). s.desk.history) fault.meets_again.same ∙ ap (λ (s : Session). s.desk.history) fault.tells.same ∙ ap (λ (s : Session). s.desk.history) fault.renews.same

  front-gone : session.desk.history ≡ take (length session.desk.history) fault.gone.desk.history
  front-gone = front-front session.desk.history fault.grouped.desk.history fault.gone.desk.history (front-group done session fault.grouped fault.groups) goes-gone.more

  -- ---- the numbers

  numbers-before : fault.paced.driver.numbers ≡ session.driver.numbers
  numbers-before = ap (λ (s : Session). s.driver.numbers) fault.paces.same ∙ ap (λ (s : Session). s.driver.numbers) fault.meets.same ∙ ap (λ (s : Session). s.driver.numbers) fault.groups.same

  reading-told : fault.told.driver.reading ≡ fault.served.driver.reading
  reading-told = ap (λ (s : Session). s.driver.reading) fault.tells.same ∙ ap (λ (s : Session). s.driver.reading) fault.renews.same ∙ ap (λ (s : Session). s.driver.reading) fault.goes.same

  numbers-after : after.driver.numbers ≡ session.driver.numbers ++ begun.took.more
  numbers-after =
      ap (λ (s : Session). s.driver.numbers) fault.meets_again.same ∙ ap (λ (s : Session). s.driver.numbers) fault.tells.same ∙ ap (λ (s : Session). s.driver.numbers) fault.renews.same ∙ ap (λ (s : Session). s.driver.numbers) fault.goes.same
      ∙ begun.took.numbers ∙ ap (λ ns. ns ++ begun.took.more) numbers-before

  least-paced : fault.paced.driver.reading.least ≡ length fault.grouped.desk.publishing.all
  least-paced = ap (λ (s : Session). s.driver.reading.least) fault.paces.same ∙ least-met fault.grouped fault.met fault.meets

  low-after : All (λ number. length fault.grouped.desk.publishing.all ≤ number) begun.took.more
  low-after = subst (λ n. All (λ number. n ≤ number) begun.took.more) least-paced begun.took.low

  -- the plan that the reader holds is a front of what is published
  held-after : length fault.served.driver.reading.held ≤ length fault.gone.desk.publishing.all
  held-after =
      let front = front-short fault.told.driver.reading.held fault.told.desk.publishing.all fault.meets_again.meets.met.held in
      let reading = ap (λ (r : Reading). length r.held) reading-told in
      let published : length fault.told.desk.publishing.all ≡ length fault.gone.desk.publishing.all =
      ap (λ (s : Session). length s.desk.publishing.all) fault.tells.same ∙ ap (λ (s : Session). length s.desk.publishing.all) fault.renews.same in
      omega (arith, front, reading, published)

  high-after : All (λ number. number ≤ length fault.gone.desk.publishing.all) begun.took.more
  high-after =
      All-weaker (λ n. n ≤ length fault.served.driver.reading.held) (λ n. n ≤ length fault.gone.desk.publishing.all) (λ n h. omega (arith, h, held-after)) begun.took.more begun.held

  module _ (ran : RanPhases session done) where
    script-is : fault.gone.desk.script ≡ session.script
    script-is = script-gone ∙ ran.one.desk_script

    legal-after : LegalSoFar session.script after.desk.history
    legal-after = subst (λ (s : Script). LegalSoFar s after.desk.history) script-is (subst (λ (history : List Entry). LegalSoFar fault.gone.desk.script history) (sym history-gone) fault.goes.desk.legal)

    bound-below : GroupBelow → GroupStays → accepted_below session.script after.desk.history (2 * done + 1) ≡ length fault.grouped.desk.publishing.all
    bound-below below group =
        let next : 2 * fault.grouped.desk.phase ≡ 2 * done + 1 + 1 = let is = phase-grouped in omega (arith, is) in
        ap (λ (h : List Entry). accepted_below session.script h (2 * done + 1)) history-gone
        ∙ subst (λ (s : Script). accepted_below s fault.gone.desk.history (2 * done + 1) ≡ accepted_below s fault.grouped.desk.history (2 * done + 1)) script-is
        (group fault.grouped.desk fault.gone.desk (2 * done + 1) (subst IsScript (sym script-is) ran.one.lawful) fault.groups.desk fault.goes.desk goes-gone fault.groups.group next)
        ∙ below session fault.grouped done ran.one ran.phase fault.groups

    bound-above : AcceptedUpTo → accepted_below session.script after.desk.history (2 * done + 2) ≡ length fault.gone.desk.publishing.all
    bound-above up_to =
        let stage : 2 * done + 2 ≡ 2 * suc done = omega arith in
        let of : All (IsOfPhases session.script (suc done)) fault.gone.desk.history =
        subst (λ (s : Script). All (IsOfPhases s (suc done)) fault.gone.desk.history) script-is
        (subst (λ n. All (IsOfPhases fault.gone.desk.script n) fault.gone.desk.history) phase-gone fault.goes.desk.phases) in
        ap (λ (h : List Entry). accepted_below session.script h (2 * done + 2)) history-gone
        ∙ ap (accepted_below session.script fault.gone.desk.history) stage ∙ up_to session.script fault.gone.desk.history (suc done) (omega arith) of ∙ ap length (sym fault.goes.desk.published)

    -- what was accepted of the earlier phases stays
    below-stays : AcceptedLater → LaterPhases → (stage : ℕ) → stage ≤ 2 * done → accepted_below session.script after.desk.history stage ≡ accepted_below session.script session.desk.history stage
    below-stays more later stage low =
        let high : All (λ (entry : Entry). stage ≤ stage_of session.script entry.call) (drop (length session.desk.history) fault.gone.desk.history) =
        λ k d inside.
        let above = later session.desk fault.gone.desk fault.goes.desk script-gone front-gone ran.used k d inside in
        let same : stage_of fault.gone.desk.script (get_or (drop (length session.desk.history) fault.gone.desk.history) k d).call ≡ stage_of session.script (get_or (drop (length session.desk.history) fault.gone.desk.history) k d).call =
        ap (λ (s : Script). stage_of s (get_or (drop (length session.desk.history) fault.gone.desk.history) k d).call) script-is in
        omega (arith, above, same, low, ran.phase) in
        ap (λ (h : List Entry). accepted_below session.script h stage) history-gone
        ∙ below_later more session.script session.desk.history fault.gone.desk.history stage front-gone high

    -- what was published before the phase is no more than behind its group
    published-group : length session.desk.publishing.all ≤ length fault.grouped.desk.publishing.all
    published-group =
        let fewer = front-short _ _ (accepted-front session.desk.history fault.grouped.desk.history (front-group done session fault.grouped fault.groups)) in
        let before = ap length ran.one.desk.published in
        let behind = ap length fault.groups.desk.published in
        omega (arith, fewer, before, behind)

    rising-after : NumbersArePublished → IsNonDecreasing after.driver.numbers
    rising-after published =
        let least : session.driver.reading.least ≡ length session.desk.publishing.all = ran.met.reader in
        subst IsNonDecreasing (sym numbers-after)
        (rising_more session.driver.numbers begun.took.more (length fault.grouped.desk.publishing.all) ran.rising begun.took.rising
        (All-weaker (λ n. n ≤ session.driver.reading.least) (λ n. n ≤ length fault.grouped.desk.publishing.all) (λ n h. let group = published-group in omega (arith, h, least, group)) session.driver.numbers (published session ran.one ran.met))
        low-after)

pub come_behind_fault : NumbersArePublished → CycleIs → AcceptedUpTo → AcceptedLater → GroupBelow → GroupStays → LaterPhases → ComeBehindFault
come_behind_fault published cycle up_to more below group later session after done kept phase ran here fault = record {
  legal = legal-after done phase.cycles kept phase.is_freewheel session after fault ran;
  rising = rising-after done phase.cycles kept phase.is_freewheel session after fault ran published;
  within = λ k number turn at of. within k number turn at of (nat_lt k (run session.driver)) refl;
}
  where
    took : Took (some done phase.cycles kept phase.is_freewheel session after fault).0 fault.paced.driver fault.served.driver
    took = (begun done phase.cycles kept phase.is_freewheel session after fault).took

    fewer : (some done phase.cycles kept phase.is_freewheel session after fault).0 ≤ phase.cycles
    fewer = (some done phase.cycles kept phase.is_freewheel session after fault).1

    stay : (stage : ℕ) → stage ≤ 2 * done → accepted_below session.script after.desk.history stage ≡ accepted_below session.script session.desk.history stage
    stay = below-stays done phase.cycles kept phase.is_freewheel session after fault ran more later

    within : (k number : ℕ) (turn : ScriptCycle) → slice_get after.driver.numbers k ≡ Some number → slice_get (turns session.script) k ≡ Some turn → (b : Bool) → nat_lt k (run session.driver) ≡ b → IsWithinPhase session.script after.desk.history turn number
    within k number turn at of true e =
        let there : slice_get (session.driver.numbers ++ took.more) k ≡ Some number = ap (λ ns. slice_get ns k) (sym (numbers-after done phase.cycles kept phase.is_freewheel session after fault)) ∙ at in
        let old : k < run session.driver = grind (arith, nat_tests) in
        let early : turn.phase < done = turn-before session.script done k turn (omega (arith, old, ran.cycles)) of in
        let inside = ran.within k number turn (sym (slice_get-left session.driver.numbers took.more k old) ∙ there) of in
        let low = stay (2 * turn.phase + 1) (omega (arith, early)) in
        let high = stay (2 * turn.phase + 2) (omega (arith, early)) in
        (omega (arith, inside.0, low), omega (arith, inside.1, high))
    within k number turn at of false e =
        let there : slice_get (session.driver.numbers ++ took.more) k ≡ Some number = ap (λ ns. slice_get ns k) (sym (numbers-after done phase.cycles kept phase.is_freewheel session after fault)) ∙ at in
        let new : run session.driver ≤ k = grind (arith, nat_tests) in
        let t : ℕ = k - run session.driver in
        let own : slice_get took.more t ≡ Some number = sym (slice_get-right session.driver.numbers took.more k new) ∙ there in
        let inside : t < phase.cycles = let size = slice_get_within took.more t number own in let count = took.count in let most = fewer in omega (arith, size, count, most) in
        let place : k + 1 ≡ cycles_before session.script done + t + 1 = omega (arith, new, ran.cycles) in
        let is : turn.phase ≡ done = ap (λ (u : ScriptCycle). u.phase) (sym (turn-at session.script k turn of) ∙ ap (turn_of session.script) place ∙ cycle session.script done t phase here inside) in
        let least : length fault.grouped.desk.publishing.all ≤ number =
        each-there (λ n. length fault.grouped.desk.publishing.all ≤ n) took.more t number (low-after done phase.cycles kept phase.is_freewheel session after fault) own in
        let most : number ≤ length fault.gone.desk.publishing.all =
        each-there (λ n. n ≤ length fault.gone.desk.publishing.all) took.more t number (high-after done phase.cycles kept phase.is_freewheel session after fault) own in
        let low = bound-below done phase.cycles kept phase.is_freewheel session after fault ran below group in
        let high = bound-above done phase.cycles kept phase.is_freewheel session after fault ran up_to in
        subst (λ q. (accepted_below session.script after.desk.history (2 * q + 1) ≤ number) × (number ≤ accepted_below session.script after.desk.history (2 * q + 2))) (sym is)
        (omega (arith, least, low), omega (arith, most, high))
