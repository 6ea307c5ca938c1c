-- What was kept of what was given is kept by each step of a session in serial mode.
--     FitsBefore, StaysKept      what the driver's laws say
--     KeepsOwn-gave, KeepsOwn-read, KeepsOwn-cycled, KeepsOwn-told, KeepsOwn-met, KeepsOwn-rounded, KeepsOwn-begun
use Rattle.std.proofs.Common.{◌≡◌, ℕ, suc, List, length, slice_get, Some, refl, sym, ◌∙◌, ap, subst, le_refl}
use Rattle.session_model.specs.Courses.{Course}
use Rattle.session_model.specs.Explanations.{Given}
use Rattle.session_model.specs.Scripts.{Script}
use Rattle.graph_word.specs.Publications.{Reading}
use Rattle.driver_words.specs.Rings.{Sending}
use Rattle.run_laws.specs.control_desk.specs.Desks.{Desk}
use Rattle.run_laws.specs.driver_laws.specs.Cycling.{HasMetOthers, RingStays, StepsOnce}
use Rattle.run_laws.specs.driver_laws.specs.Drivers.{Driver}
use Rattle.run_laws.specs.driver_laws.specs.Keeping.{Fits, Keeps}
use Rattle.serial_laws.specs.Steps.{Begun, Cycled, GiveUp, IsSound, KeepsOwn, Met, Rounded}
use Rattle.run_laws.specs.Sessions.{Session}
use Rattle.disk_runs.specs.Readings.{DisksBroke, DisksRead, DisksTold}
use Rattle.disk_runs.proofs.PartLemmas.{HasMetOthers-tried}
use Rattle.disk_runs.proofs.StepLemmas.{tried-read, tried-told}
use Rattle.serial_laws.proofs.GiveLemmas.{RingStays-gave}

-- what fits behind fits before
abbrev pub FitsBefore : (Driver → Driver → Type 0) → Type 0
FitsBefore Step = (driver after : Driver) (course : Course) → Step driver after → Fits after course → Fits driver course

-- what is kept before is kept behind
abbrev pub StaysKept : (Driver → Driver → Type 0) → Type 0
StaysKept Step = (driver after : Driver) (course : Course) → Step driver after → Keeps driver course → Keeps after course

-- rings that met others, whose bounds did not fall
HasMetOthers-rings : (driver : Driver) (rings : List Sending) → ((recorder : ℕ) (ring : Sending) → slice_get rings recorder ≡ Some ring → (old : Sending) × (slice_get driver.rings recorder ≡ Some old) × RingStays old ring)
    → HasMetOthers driver (record driver { rings = rings })
HasMetOthers-rings driver rings stays = record {
  rows = refl;
  rings = stays;
  disks = λ disk got here. (got, here, record { samples = refl; got = refl; done = refl });
  back = λ disk old here. (old, here, record { samples = refl; got = refl; done = refl });
  same = refl;
}

-- a reader that met its publisher
HasMetOthers-reading : (driver : Driver) (least : ℕ) → HasMetOthers driver (record driver { reading = record driver.reading { least = least } })
HasMetOthers-reading driver least = record {
  rows = refl;
  rings = λ recorder ring here. (ring, here, record { put = refl; capacity = refl; samples = refl; most = refl; least = le_refl ring.least });
  disks = λ disk got here. (got, here, record { samples = refl; got = refl; done = refl });
  back = λ disk old here. (old, here, record { samples = refl; got = refl; done = refl });
  same = refl;
}

-- the desk is no part of it
KeepsOwn-desk : (given : Given) (session : Session) (desk : Desk) → KeepsOwn given session → KeepsOwn given (record session { desk = desk })
KeepsOwn-desk given session desk keeps = record { own = record { script = keeps.own.script; scores = keeps.own.scores; channels = keeps.own.channels }; keeps = keeps.keeps }

pub KeepsOwn-cycled : FitsBefore StepsOnce → (given : Given) (session after : Session) → Cycled session after → KeepsOwn given session → KeepsOwn given after
KeepsOwn-cycled fits given session after cycled keeps =
    let steps = cycled.cycles.steps in
    let behind : KeepsOwn given (record session { driver = after.driver }) = record {
      own = record { script = keeps.own.script; scores = keeps.own.scores ∙ sym steps.scores; channels = keeps.own.channels };
      keeps = λ course over fitting. cycled.cycles.keeps course fitting (keeps.keeps course over (fits session.driver after.driver course steps fitting));
    } in
    subst (KeepsOwn given) (sym cycled.same) behind

pub KeepsOwn-rounded : (given : Given) (session after : Session) → Rounded session after → KeepsOwn given session → KeepsOwn given after
KeepsOwn-rounded given session after rounded keeps = subst (KeepsOwn given) (sym rounded.same) (KeepsOwn-desk given session after.desk keeps)

module _ (fits : FitsBefore HasMetOthers) (stays : StaysKept HasMetOthers) (given : Given) where
  -- a driver whose lent ends met others
  KeepsOwn-others : (session after : Session) → after.script ≡ session.script → HasMetOthers session.driver after.driver → KeepsOwn given session → KeepsOwn given after
  KeepsOwn-others session after script met keeps = record {
    own = record {
      script = keeps.own.script ∙ sym script;
      scores = keeps.own.scores ∙ sym (ap (λ (d : Driver). d.scores) met.same);
      channels = keeps.own.channels ∙ ap (λ (s : Script). s.header.disks) (sym script);
    };
    keeps = λ course over fitting. stays session.driver after.driver course met (keeps.keeps course over (fits session.driver after.driver course met fitting));
  }

  pub KeepsOwn-gave : (most : ℕ) (session after : Session) → IsSound session → GiveUp most session after → KeepsOwn given session → KeepsOwn given after
  KeepsOwn-gave most session after sound give keeps =
      let met : HasMetOthers session.driver after.driver = subst (HasMetOthers session.driver) (sym (ap (λ (s : Session). s.driver) give.same))
      (HasMetOthers-rings session.driver after.driver.rings (RingStays-gave session sound most after give)) in
      KeepsOwn-others session after (ap (λ (s : Session). s.script) give.same) met keeps

  pub KeepsOwn-met : (session after : Session) → Met session after → KeepsOwn given session → KeepsOwn given after
  KeepsOwn-met session after meeting keeps =
      let driver_is : after.driver ≡ record session.driver { reading = record session.driver.reading { least = length session.desk.publishing.all } } =
      ap (λ (s : Session). s.driver) meeting.same ∙ ap (λ (r : Reading). record session.driver { reading = r }) meeting.meets.reader_is in
      KeepsOwn-others session after (ap (λ (s : Session). s.script) meeting.same)
      (subst (HasMetOthers session.driver) (sym driver_is) (HasMetOthers-reading session.driver (length session.desk.publishing.all))) keeps

  pub KeepsOwn-begun : (done : ℕ) (session after : Session) → Begun done session after → KeepsOwn given session → KeepsOwn given after
  KeepsOwn-begun done session after begun keeps =
      let grouped : KeepsOwn given begun.grouped = subst (KeepsOwn given) (sym begun.group_same)
      (KeepsOwn-desk given session (record session.desk { history = begun.grouped.desk.history; phase = suc done; publishing = begun.grouped.desk.publishing }) keeps) in
      let met : KeepsOwn given begun.met = KeepsOwn-met begun.grouped begun.met begun.meets grouped in
      KeepsOwn-met begun.rounded after begun.meets_again (KeepsOwn-rounded given begun.met begun.rounded begun.rounds met)

  pub KeepsOwn-tried : (most : ℕ) (session after : Session) → IsSound session → DisksBroke most session after → KeepsOwn given session → KeepsOwn given after
  KeepsOwn-tried most session after sound tried keeps =
      KeepsOwn-others session after (ap (λ (s : Session). s.script) tried.same) (HasMetOthers-tried most session after tried sound.one) keeps

  pub KeepsOwn-read : (most : ℕ) (session after : Session) → IsSound session → DisksRead most session after → KeepsOwn given session → KeepsOwn given after
  KeepsOwn-read most session after sound reads keeps = KeepsOwn-tried most session after sound (tried-read most session after reads) keeps

  pub KeepsOwn-told : (session after : Session) → IsSound session → DisksTold session after → KeepsOwn given session → KeepsOwn given after
  KeepsOwn-told session after sound tells keeps = KeepsOwn-tried 0 session after sound (tried-told 0 session after tells) keeps
