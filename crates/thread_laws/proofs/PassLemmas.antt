-- Steps of a phase in threads mode that leave the recorders' rings.
--     LeavesRings session after      a step that leaves the rings, their other ends, the files and the overruns
--     LeavesRings-grouped, -met, -paced, -went, -rounded      these do
--     LeavesDisks session after      a step that leaves the players, and the ends that get
--     LeavesDisks-grouped, -met, -paced, -went, -rounded, -renewed      these do
--     HasEach session      each recorder has two ends, a file and a count
--     IsGot session      of each ring all is got, or a get answered its end
use Rattle.std.proofs.Common.{◌≡◌, ◌⊎◌, ℕ, suc, true, length, slice_get, Some, sym, ◌∙◌, ap}
use Rattle.graph_word.specs.Publications.{Reading}
use Rattle.driver_words.specs.Rings.{Getting, Sending}
use Rattle.control_desk.specs.Desks.{Desk}
use Rattle.run_laws.specs.Sessions.{Session}
use Rattle.serial_laws.specs.Steps.{IsSound, Met, Rounded}
use Rattle.serial_laws.proofs.GiveLemmas.{many-counts, many-rings, many-tapes}
use Rattle.thread_laws.specs.Segments.{Grouped, Paced, Renewed, WentOn}
use Rattle.thread_laws.proofs.RestLemmas.{LeavesLosses, LeavesLosses-both, LeavesLosses-turned, turned_to}

pub record LeavesRings (session after : Session) : Type 0 where
  pub losses : LeavesLosses session after
  pub numbers : after.driver.numbers ≡ session.driver.numbers
  pub rings : after.driver.rings ≡ session.driver.rings
  pub getting : after.getting ≡ session.getting
  pub tapes : after.tapes ≡ session.tapes
  pub counts : after.counts ≡ session.counts

pub LeavesRings-both : (session between after : Session) → LeavesRings session between → LeavesRings between after → LeavesRings session after
LeavesRings-both session between after one two = record {
  losses = LeavesLosses-both session between after one.losses two.losses;
  numbers = two.numbers ∙ one.numbers;
  rings = two.rings ∙ one.rings;
  getting = two.getting ∙ one.getting;
  tapes = two.tapes ∙ one.tapes;
  counts = two.counts ∙ one.counts;
}

pub LeavesRings-turned : (session after : Session) (desk : Desk) (least set : ℕ) → after ≡ record session { desk = desk; driver = turned_to session.driver least set session.driver.rings } → LeavesRings session after
LeavesRings-turned session after desk least set same = record {
  losses = LeavesLosses-turned session after least set session.driver.rings (ap (λ (s : Session). s.script) same) (ap (λ (s : Session). s.driver) same);
  numbers = ap (λ (s : Session). s.driver.numbers) same;
  rings = ap (λ (s : Session). s.driver.rings) same;
  getting = ap (λ (s : Session). s.getting) same;
  tapes = ap (λ (s : Session). s.tapes) same;
  counts = ap (λ (s : Session). s.counts) same;
}

pub LeavesRings-grouped : (done : ℕ) (session after : Session) → Grouped done session after → LeavesRings session after
LeavesRings-grouped done session after grouped =
    LeavesRings-turned session after (record session.desk { history = after.desk.history; phase = suc done; publishing = after.desk.publishing }) session.driver.reading.least session.driver.set grouped.same

pub LeavesRings-met : (session after : Session) → Met session after → LeavesRings session after
LeavesRings-met session after met =
    LeavesRings-turned session after (record session.desk { publishing = met.publishing }) (length session.desk.publishing.all) session.driver.set
    (met.same ∙ ap (λ (r : Reading). record session { desk = record session.desk { publishing = met.publishing }; driver = record session.driver { reading = r } }) met.meets.reader_is)

pub LeavesRings-paced : (session after : Session) → Paced session after → LeavesRings session after
LeavesRings-paced session after paced = LeavesRings-turned session after session.desk session.driver.reading.least paced.period paced.same

pub LeavesRings-went : (session after : Session) → WentOn session after → LeavesRings session after
LeavesRings-went session after went = LeavesRings-turned session after after.desk session.driver.reading.least session.driver.set went.same

pub LeavesRings-rounded : (session after : Session) → Rounded session after → LeavesRings session after
LeavesRings-rounded session after rounded = LeavesRings-turned session after after.desk session.driver.reading.least session.driver.set rounded.same

-- ---- the disks

pub record LeavesDisks (session after : Session) : Type 0 where
  pub script : after.script ≡ session.script
  pub players : after.players ≡ session.players
  pub disks : after.driver.disks ≡ session.driver.disks

pub LeavesDisks-both : (session between after : Session) → LeavesDisks session between → LeavesDisks between after → LeavesDisks session after
LeavesDisks-both session between after one two = record {
  script = two.script ∙ one.script;
  players = two.players ∙ one.players;
  disks = two.disks ∙ one.disks;
}

pub LeavesDisks-grouped : (done : ℕ) (session after : Session) → Grouped done session after → LeavesDisks session after
LeavesDisks-grouped done session after grouped = record {
  script = ap (λ (s : Session). s.script) grouped.same;
  players = ap (λ (s : Session). s.players) grouped.same;
  disks = ap (λ (s : Session). s.driver.disks) grouped.same;
}

pub LeavesDisks-met : (session after : Session) → Met session after → LeavesDisks session after
LeavesDisks-met session after met = record {
  script = ap (λ (s : Session). s.script) met.same;
  players = ap (λ (s : Session). s.players) met.same;
  disks = ap (λ (s : Session). s.driver.disks) met.same;
}

pub LeavesDisks-paced : (session after : Session) → Paced session after → LeavesDisks session after
LeavesDisks-paced session after paced = record {
  script = ap (λ (s : Session). s.script) paced.same;
  players = ap (λ (s : Session). s.players) paced.same;
  disks = ap (λ (s : Session). s.driver.disks) paced.same;
}

pub LeavesDisks-went : (session after : Session) → WentOn session after → LeavesDisks session after
LeavesDisks-went session after went = record {
  script = ap (λ (s : Session). s.script) went.same;
  players = ap (λ (s : Session). s.players) went.same;
  disks = ap (λ (s : Session). s.driver.disks) went.same;
}

pub LeavesDisks-rounded : (session after : Session) → Rounded session after → LeavesDisks session after
LeavesDisks-rounded session after rounded = record {
  script = ap (λ (s : Session). s.script) rounded.same;
  players = ap (λ (s : Session). s.players) rounded.same;
  disks = ap (λ (s : Session). s.driver.disks) rounded.same;
}

pub LeavesDisks-renewed : (session after : Session) → Renewed session after → LeavesDisks session after
LeavesDisks-renewed session after renewed = record {
  script = ap (λ (s : Session). s.script) renewed.same;
  players = ap (λ (s : Session). s.players) renewed.same;
  disks = ap (λ (s : Session). s.driver.disks) renewed.same;
}

-- ---- each recorder has its parts

pub record HasEach (session : Session) : Type 0 where
  pub getting : length session.getting ≡ length session.driver.rings
  pub tapes : length session.tapes ≡ length session.driver.rings
  pub counts : length session.counts ≡ length session.driver.rings

pub HasEach-sound : (session : Session) → IsSound session → HasEach session
HasEach-sound session sound = record {
  getting = sound.one.recorder_ends ∙ sym (many-rings session sound);
  tapes = many-tapes session sound ∙ sym (many-rings session sound);
  counts = many-counts session sound ∙ sym (many-rings session sound);
}

pub HasEach-left : (session after : Session) → LeavesRings session after → HasEach session → HasEach after
HasEach-left session after leaves each = record {
  getting = ap length leaves.getting ∙ each.getting ∙ sym (ap length leaves.rings);
  tapes = ap length leaves.tapes ∙ each.tapes ∙ sym (ap length leaves.rings);
  counts = ap length leaves.counts ∙ each.counts ∙ sym (ap length leaves.rings);
}

-- ---- all is got

abbrev pub IsGot : Session → Type 0
IsGot session = (recorder : ℕ) (ring : Sending) (got : Getting) → slice_get session.driver.rings recorder ≡ Some ring → slice_get session.getting recorder ≡ Some got → (got.done ≡ true) ⊎ (got.got ≡ ring.put)

pub IsGot-left : (session after : Session) → LeavesRings session after → IsGot session → IsGot after
IsGot-left session after leaves got recorder ring getting here there =
    got recorder ring getting (ap (λ rings. slice_get rings recorder) (sym leaves.rings) ∙ here) (ap (λ gets. slice_get gets recorder) (sym leaves.getting) ∙ there)
