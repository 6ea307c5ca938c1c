-- What was read before a session or a check is made, and what a status says that ended the reading.
use Rattle.std.proofs.Common.{◌≡◌, ◌∙◌, ℕ, ℤ, List, Some, None, Ok as IsOk, Err, inl, inr, refl, sym, ap, subst, length, map}
use Rattle.std.specs.Prelude.{IfErr, OnOk, Option, Result}
use Rattle.jack_types.specs.declared.scripts.Header.{Header}
use Rattle.jack_host.specs.Files.{IsThere, SameFiles}
use Rattle.session_model.specs.Courses.{DiskFile}
use Rattle.session_model.specs.Explanations.{Given}
use Rattle.session_model.specs.Kinds.{Sound}
use Rattle.session_model.specs.Scripts.{Script}
use Rattle.play_words.specs.Words.{Play}
use Rattle.disk_inputs.specs.declared.faults.Against.{Against}
use Rattle.disk_inputs.specs.declared.faults.Against.TheVariants.{Bad, Other}
use Rattle.disk_inputs.specs.DiskFiles.{AreDiskFiles}
use Rattle.disk_inputs.specs.Openings.{AreOpened, IsFirstUnfit, LacksDisk}
use Rattle.play_inputs.specs.declared.status.Difference.{Difference}
use Rattle.play_inputs.specs.declared.status.Status.{Status}
use Rattle.play_inputs.specs.declared.status.Status.TheVariants.{Ok, NoMemory, Words, ReadFault, BadWave, BadScript, WriteFault, Differs, Wrong}
use Rattle.play_inputs.specs.Answers.{IfCapture, IfDisks, IfScript, IsFirstDifference, IsUnfitDisk, LacksDiskFile, LacksInput}
use Rattle.play_inputs.specs.Captures.{CaptureStatus, IsOpened}
use Rattle.play_inputs.specs.Disks.{DisksStatus, status_of_against}
use Rattle.play_inputs.specs.Inputs.{Files, first_difference, HasCapture, IfBytes, IfBytesAll, IsBadWave, IsCapture, IsDifferent, IsInput, IsScriptOf}
use Rattle.play_inputs.specs.Openings.{FittingStatus, GivesInput, OpeningStatus}
use Rattle.play_inputs.proofs.DiskLemmas.{all-before, all-map, lacks-before, unfit-before}
use Rattle.play_inputs.proofs.InputLemmas.{if_bytes_before, if_bytes_map, there_after}

pub one_err : {T E : Type 0} (r : Result T E) (x y : E) → r ≡ Err x → r ≡ Err y → x ≡ y
one_err r x y e f = cc

-- the first comparison that fails, with as many guests as there are scores
abbrev pub differs : Script → List Sound → Play → Option Difference
differs script scores play = first_difference script (length scores) (length play.records) (length play.disks)

-- by so many guests
pub counted : (script : Script) (scores : List Sound) (play : Play) (guests : ℕ) (answer : Option Difference) → length scores ≡ guests
    → first_difference script guests (length play.records) (length play.disks) ≡ answer → differs script scores play ≡ answer
counted script scores play guests answer many e = ap (λ n. first_difference script n (length play.records) (length play.disks)) many ∙ e

-- by the numbers of names
pub named : (script : Script) (play : Play) (guests records disks : ℕ) (found answer : Option Difference) → found ≡ first_difference script guests records disks
    → records ≡ length play.records → disks ≡ length play.disks → found ≡ answer → first_difference script guests (length play.records) (length play.disks) ≡ answer
named script play guests records disks found answer e named_records named_disks is =
    sym (sym is ∙ e ∙ ap (λ n. first_difference script guests n disks) named_records ∙ ap (λ n. first_difference script guests (length play.records) n) named_disks)

pub ok-any : {T E P : Type 0} (r : Result T E) → P → OnOk r P
ok-any (IsOk x) p = p
ok-any (Err x) p = tt

-- nothing differs that needs no capture, and so the capture's answer is that of both
pub capture-fits : {T : Type 0} (r : Result T Status) (files : Option Files) (play : Play) (guests : ℕ) (script : Script) (name : List ℕ) (header : Header)
    → first_difference script guests (length play.records) (length play.disks) ≡ None → name ≡ play.capture → header ≡ script.header
    → IfErr r (CaptureStatus files name header) → IfErr r (FittingStatus files play guests script)
capture-fits (IsOk x) files play guests script name header fits named of told = tt
capture-fits (Err status) files play guests script name header fits named of told =
    inr (fits, subst (λ (h : Header). CaptureStatus files play.capture h status) of (subst (λ (n : List ℕ). CaptureStatus files n header status) named told))

module _ (files : Option Files) (scores : List Sound) (play : Play) (script : Script) (is : IfBytes files play.script (λ bytes. IsScriptOf bytes script)) where
  script_told : (P : Script → Type 0) → P script → IfScript files play P
  script_told P p = if_bytes_map files play.script (λ bytes. IsScriptOf bytes script) (λ bytes. (other : Script) × IsScriptOf bytes other × P other) (λ bytes of. (script, of, p)) is

  pub first-told : (difference : Difference) → differs script scores play ≡ Some difference → IsFirstDifference files scores play difference
  first-told difference e = inl (script_told (λ other. differs other scores play ≡ Some difference) e)

  module _ (after : Option Files) (same : SameFiles files after) where
    capture_told : (P : Script → List ℕ → Type 0) → differs script scores play ≡ None → IfBytes after play.capture (P script) → IfCapture files scores play P
    capture_told P fits p = script_told (λ other. (differs other scores play ≡ None) × IfBytes files play.capture (P other)) (fits, if_bytes_before files after play.capture (P script) same p)

    capture-status : (status : Status) → differs script scores play ≡ None → CaptureStatus after play.capture script.header status → OpeningStatus files scores play status
    capture-status Ok fits h = h
    capture-status NoMemory fits h = tt
    capture-status Words fits h = h
    capture-status ReadFault fits h = tt
    capture-status (BadWave fault) fits h = inl (capture_told (λ other bytes. IsBadWave bytes fault) fits h)
    capture-status (BadScript fault) fits h = absurd h
    capture-status WriteFault fits h = h
    capture-status (Differs difference) fits h = inr (inl (capture_told (λ other bytes. IsDifferent bytes other.header difference) fits h))
    capture-status (Wrong row sight) fits h = h

    pub fitting-status : (guests : ℕ) (status : Status) → length scores ≡ guests → FittingStatus after play guests script status → OpeningStatus files scores play status
    fitting-status guests status many (inl differ) =
        subst (OpeningStatus files scores play) (sym differ.1) (first-told differ.0 (counted script scores play guests (Some differ.0) many differ.2))
    fitting-status guests status many (inr told) = capture-status status (counted script scores play guests None many told.0) told.1

    pub lacks-capture : differs script scores play ≡ None → ¬ IsThere after play.capture → LacksInput files scores play
    lacks-capture fits none = inr (inl (script_told (λ other. differs other scores play ≡ None) fits, λ there. none (there_after files after play.capture same there)))

    module _ (fits : differs script scores play ≡ None) (left : Option (List ℤ)) (opened : IsOpened after play.capture script.header left) where
      abbrev IsRead : List ℕ → Type 0
      IsRead bytes = (samples : List ℤ) × IsCapture bytes script.header samples × (left ≡ Some samples)

      disks_told : (P : Script → Type 0) → P script → IfDisks files scores play P
      disks_told P p =
          capture_told (λ other bytes. HasCapture bytes other.header × P other) fits
          (if_bytes_map after play.capture IsRead (λ bytes. HasCapture bytes script.header × P script) (λ bytes read. ((read.0, read.1), p)) opened)

      module _ (later : Option Files) (still : SameFiles files later) where
        unfit_told : (place : ℕ) (against : Against) → IsFirstUnfit later play.disks script.header.rate script.header.disks place against → IsUnfitDisk files scores play (status_of_against against)
        unfit_told place against unfit = (
          place,
          against,
          refl,
          disks_told (λ other. IsFirstUnfit files play.disks other.header.rate other.header.disks place against)
              (unfit-before files later play.disks script.header.rate script.header.disks place against still unfit),
        )

        against-status : (against : Against) → IsUnfitDisk files scores play (status_of_against against) → OpeningStatus files scores play (status_of_against against)
        against-status (Bad fault) h = inr h
        against-status (Other told) h = inr (inr h)

        pub disks-status : (status : Status) → DisksStatus later play script.header status → OpeningStatus files scores play status
        disks-status status (inl e) = subst (OpeningStatus files scores play) (sym e) tt
        disks-status status (inr (inl e)) = subst (OpeningStatus files scores play) (sym e) tt
        disks-status status (inr (inr (place, against, e, own, unfit))) = subst (OpeningStatus files scores play) (sym e) (against-status against (unfit_told place against unfit))

        lacks_told : (own : Option Files) → files ≡ own → LacksDisk own play.disks script.header.rate script.header.disks → LacksDiskFile own scores play
        lacks_told None e lacks = absurd lacks
        lacks_told (Some told) e lacks =
            subst (λ (o : Option Files). IfDisks o scores play (λ other. LacksDisk (Some told) play.disks other.header.rate other.header.disks)) e
            (disks_told (λ other. LacksDisk (Some told) play.disks other.header.rate other.header.disks) lacks)

        pub lacks-disk : LacksDisk later play.disks script.header.rate script.header.disks → LacksInput files scores play
        lacks-disk lacks = inr (inr (lacks_told files refl (lacks-before files later play.disks script.header.rate script.header.disks still lacks)))

        module _ (lefts : List (Option (List ℤ))) where
          abbrev Tells : List ℕ → List ℕ → List (List ℕ) → Type 0
          Tells script_bytes capture_bytes disk_bytes =
              (given : Given) × IsInput script_bytes capture_bytes disk_bytes scores play given × (given.script ≡ script) × (left ≡ Some given.capture) × (lefts ≡ map (λ (file : DiskFile). Some file.samples) given.disks)

          abbrev AreRead : List (List ℕ) → Type 0
          AreRead all = (disks : List DiskFile) × AreDiskFiles all script.header.rate script.header.disks disks × (lefts ≡ map (λ (file : DiskFile). Some file.samples) disks)

          tells : (script_bytes capture_bytes : List ℕ) (disk_bytes : List (List ℕ)) → IsScriptOf script_bytes script → IsRead capture_bytes → AreRead disk_bytes → Tells script_bytes capture_bytes disk_bytes
          tells script_bytes capture_bytes disk_bytes of read are =
              let given : Given = record { script = script; capture = read.0; disks = are.0; scores = scores } in
              (given, record { script = of; fits = fits; capture = read.1; disks = are.1; scores_are = refl }, refl, read.2, are.2)

          pub input-told : AreOpened later play.disks script.header.rate script.header.disks lefts → GivesInput files scores play script left lefts
          input-told disks =
              if_bytes_map files play.script (λ bytes. IsScriptOf bytes script) (λ script_bytes. IfBytes files play.capture (λ capture_bytes. IfBytesAll files play.disks (Tells script_bytes capture_bytes)))
              (λ script_bytes of. if_bytes_map files play.capture IsRead (λ capture_bytes. IfBytesAll files play.disks (Tells script_bytes capture_bytes))
              (λ capture_bytes read. all-map files play.disks AreRead (Tells script_bytes capture_bytes) (λ disk_bytes are. tells script_bytes capture_bytes disk_bytes of read are)
              (all-before files later play.disks AreRead still disks))
              (if_bytes_before files after play.capture IsRead same opened))
              is
