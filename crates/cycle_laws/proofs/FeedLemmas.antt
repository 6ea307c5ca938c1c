-- What the players of disks are given in a cycle.
--     kind-of_calls      the kind of a plan's client is in its script's range
--     first-now      where there is a disk, the cycle has the first period
--     fed-now      a player of the plan is given what the driver's cycle gives it
use Rattle.std.proofs.Common.{◌≡◌, ℕ, ◌+◌, ◌<◌, Bool, true, List, length, ℤ, refl, sym, ◌∙◌, ap, subst, eq-eqb}
use Rattle.std.proofs.lemmas.List.{length-map}
use Rattle.std.proofs.lemmas.List.Folds.{list_any_at}
use Rattle.jack_types.specs.declared.commands.Change.{Change}
use Rattle.jack_types.specs.declared.kinds.Kind.{Kind}
use Rattle.jack_types.specs.declared.kinds.Kind.TheVariants.{Disk}
use Rattle.jack_types.specs.declared.moments.Moment.{Moment}
use Rattle.session_model.specs.Benches.{node_at}
use Rattle.session_model.specs.Courses.{is_disk}
use Rattle.session_model.specs.Grammar.{IsCommand, IsKind, IsScript}
use Rattle.session_model.specs.Kinds.{Memory, Sound}
use Rattle.session_model.specs.Scripts.{Script, turns}
use Rattle.session_model.specs.State.{OpenClient, system_client}
use Rattle.client_kinds.specs.Scores.{Score}
use Rattle.session_laws.proofs.ListLemmas.{Each-contains}
use Rattle.port_registry.specs.Registered.{open_client, open_clients}
use Rattle.plan_transport.specs.cycle_plan.specs.Plans.{IsPlanned, Planned}
use Rattle.driver_words.specs.Feeding.{AreUpTo, Fed, fed_at}
use Rattle.plan_transport.specs.driver_laws.specs.Cycling.{MayCycle}
use Rattle.plan_transport.specs.driver_laws.specs.Drivers.{Driver, run, turn_of}
use Rattle.plan_transport.specs.driver_laws.specs.Keeping.{AreOfCalls}
use Rattle.plan_transport.specs.driver_laws.specs.Playing.{fed_now, with_fed}
use Rattle.disk_feeds.specs.Cycling.{GetsAll, HasFeeds, is_fed}
use Rattle.script_needs.specs.task_laws.specs.Calls.{HasOpened}
use Rattle.script_needs.specs.task_laws.proofs.CallLemmas.{changes-all, planned-lawful}
use Rattle.script_needs.specs.task_laws.proofs.KindLemmas.{opened-kind}
use Rattle.play_laws.proofs.PlayLemmas.{node-opened}
use Rattle.cycle_laws.specs.Gears.{Gear, IsGear, driver_of}
use Rattle.cycle_laws.specs.Turnings.{Turns}
use Rattle.cycle_laws.proofs.PeriodLemmas.{greatest-first}

-- where the changes of a plan are calls of a lawful script
pub kind-of_calls : (script : Script) (plan : Planned) → IsScript script → AreOfCalls script plan.changes → IsPlanned plan
    → (n : ℕ) → n < length (open_clients plan.nodes) → IsKind script.header (node_at (open_clients plan.nodes) n).kind
kind-of_calls script plan is of planned n low =
    let opened : HasOpened plan.changes (node_at (open_clients plan.nodes) n).birth (node_at (open_clients plan.nodes) n).kind = node-opened plan planned n low in
    opened-kind script.header opened.0.command (node_at (open_clients plan.nodes) n).kind
    (Each-contains (λ (change : Change). IsCommand script.header change.command) plan.changes opened.0 (changes-all (IsCommand script.header) script plan.changes of (planned-lawful script is)) opened.1)
    opened.3

-- whoever plays a disk is given the same of both, and nobody else is given anything
with_fed-same : (fed other : ℕ → List (List ℤ)) (kind : Kind) (memory : Memory) → ((disk : ℕ) → kind ≡ Disk disk → fed disk ≡ other disk) → with_fed fed kind memory ≡ with_fed other kind memory
with_fed-same fed other (Disk disk) memory same = ap (λ (given : List (List ℤ)). record memory { fed = given }) (same disk refl)
with_fed-same fed other _ memory same = refl

module _ (sounding : Score → Sound) {freewheel : Bool} {before after : Gear} {plan : Planned} {moment : Moment} (gear : IsGear sounding before) (may : MayCycle (driver_of sounding before) freewheel) (turned : Turns sounding freewheel before plan moment after)
    (keeps_period : (script : Script) → IsScript script → 0 < length script.header.disks → (k : ℕ) → k < length (turns script) → (turn_of script (k + 1)).period ≡ script.header.period) where
  abbrev driver : Driver
  driver = driver_of sounding before

  abbrev played : Driver
  played = driver_of sounding after

  some-disk : 0 < length before.disks.disks → 0 < length before.script.header.disks
  some-disk some = subst (λ n. 0 < n) gear.disks.as_many some

  pub first-now : 0 < length before.disks.disks → before.set ≡ before.script.header.period
  first-now some = sym may.period_is ∙ keeps_period before.script gear.lawful (some-disk some) (run driver) may.left

  period-now : 0 < length before.disks.disks → before.set ≡ before.disks.period
  period-now some = first-now some ∙ sym (greatest-first before.script gear.lawful (some-disk some)) ∙ sym gear.disks.period

  feeds-before : HasFeeds before.disks driver
  feeds-before = record { disks = refl; played = refl; underruns = refl; channels = sym gear.disks.channels; period = period-now }

  feeds-after : HasFeeds after.disks played
  feeds-after = record {
    disks = refl;
    played = refl;
    underruns = refl;
    channels = ap (λ (s : Script). s.header.disks) turned.script ∙ sym gear.disks.channels ∙ sym (ap (λ (f : Fed). f.channels) turned.gets.same);
    period = λ some. turned.set ∙ period-now (subst (λ n. 0 < n) turned.gets.as_many some) ∙ sym (ap (λ (f : Fed). f.period) turned.gets.same);
  }

  module _ (given : (nodes : List OpenClient) (before after : Fed) (driver driver_after : Driver) → GetsAll nodes (run driver + 1) before after → HasFeeds before driver → HasFeeds after driver_after
      → AreUpTo (run driver) before → (disk : ℕ) → disk < length before.disks → is_fed nodes disk ≡ true → fed_at after disk ≡ fed_now driver driver_after disk)
      (of_calls : AreOfCalls before.script plan.changes) where
    -- a player of a disk is given what its ring gave, and nobody else is
    pub fed-now : (n : ℕ) → n < length plan.nodes → (memory : Memory)
        → with_fed (fed_now driver played) (node_at (open_clients plan.nodes) n).kind memory ≡ with_fed (fed_at after.disks) (node_at (open_clients plan.nodes) n).kind memory
    fed-now n low memory = with_fed-same (fed_now driver played) (fed_at after.disks) (client n).kind memory (λ disk e. sym (given (open_clients plan.nodes) before.disks after.disks driver played turned.gets feeds-before feeds-after gear.disks.up_to disk (there disk e) (active disk e)))
      where
        client : ℕ → OpenClient
        client m = node_at (open_clients plan.nodes) m

        within : n < length (open_clients plan.nodes)
        within = subst (λ k. n < k) (sym (length-map plan.nodes open_client)) low

        there : (disk : ℕ) → (client n).kind ≡ Disk disk → disk < length before.disks.disks
        there disk e = subst (λ k. disk < k) (sym gear.disks.as_many) (subst (IsKind before.script.header) e (kind-of_calls before.script plan gear.lawful of_calls turned.planned n within)).1

        active : (disk : ℕ) → (client n).kind ≡ Disk disk → is_fed (open_clients plan.nodes) disk ≡ true
        active disk e = list_any_at (λ (c : OpenClient). is_disk disk c.kind) (open_clients plan.nodes) n system_client within (ap (is_disk disk) e ∙ eq-eqb disk disk refl)
