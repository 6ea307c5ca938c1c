-- A script has one fault or none, and so have a capture and disk files: which status a play must end with.
use Rattle.std.proofs.Common.{◌≡◌, ◌∙◌, ◌⊎◌, ℕ, ℤ, List, Some, None, inl, inr, refl, sym, ap, subst, take}
use Rattle.std.specs.Prelude.{Option}
use Rattle.jack_types.specs.declared.files.WaveFault.{WaveFault}
use Rattle.jack_types.specs.declared.scripts.Header.{Header}
use Rattle.jack_types.specs.declared.scripts.ScriptFault.{ScriptFault}
use Rattle.jack_host.specs.Files.{IsThere}
use Rattle.session_model.specs.Explanations.{Given}
use Rattle.session_model.specs.Grammar.{Spells}
use Rattle.session_model.specs.Kinds.{Sound}
use Rattle.session_model.specs.Reading.{fault_of, script_fault}
use Rattle.session_model.specs.Scripts.{Script}
use Rattle.session_model.specs.WaveOpening.{Opened, wave_in}
use Rattle.grammar_laws.proofs.GrammarLaws.{read}
use Rattle.play_words.specs.Words.{Play}
use Rattle.disk_inputs.specs.declared.faults.Against.{Against}
use Rattle.disk_inputs.specs.DiskFiles.{AreDiskFiles}
use Rattle.disk_inputs.specs.Openings.{HasDisks, IsFirstUnfit, LacksDisk}
use Rattle.disk_inputs.proofs.ListLemmas.{one-files}
use Rattle.disk_inputs.proofs.NameLemmas.{fit-unfit, one-unfit, there-lacks, unfit-lacks}
use Rattle.play_inputs.specs.declared.status.Difference.{Difference}
use Rattle.play_inputs.specs.declared.status.Status.{Status}
use Rattle.play_inputs.specs.declared.status.Status.TheVariants.{Ok, NoMemory, Words, ReadFault, BadWave, BadScript, WriteFault, Differs, Wrong}
use Rattle.play_inputs.specs.Answers.{HasInput, HasRefusal, IfCapture, IfDisks, IfInput, IfScript, IsFirstBadWave, IsFirstDifference, IsUnfitDisk, LacksInput, PlayStatus}
use Rattle.play_inputs.specs.Disks.{status_of_against}
use Rattle.play_inputs.specs.Inputs.{Files, HasCapture, IfBytes, IsBadScript, IsBadWave, IsCapture, IsDifferent, IsInput, IsScriptOf, difference_in}
use Rattle.play_inputs.proofs.OpeningLemmas.{differs}

-- ---- a script

-- bytes spell one script
pub one_script : (bytes : List ℕ) (a b : Script) → Spells bytes a → Spells bytes b → a ≡ b
one_script bytes a b ha hb = cc (read bytes a ha, read bytes b hb)

-- and then have no fault
no_fault : (bytes : List ℕ) (script : Script) → Spells bytes script → script_fault bytes ≡ None
no_fault bytes script h = ap fault_of (read bytes script h)

some_none : {X : Type 0} (o : Option X) (x : X) → o ≡ Some x → o ≡ None → ⊥
some_none None x e f = cc
some_none (Some y) x e f = cc

one_some : {X : Type 0} (o : Option X) (x y : X) → o ≡ Some x → o ≡ Some y → x ≡ y
one_some o x y e f = cc

-- a script has no fault
pub good_script : (whole : List ℕ) (script : Script) (fault : ScriptFault) → IsScriptOf whole script → IsBadScript whole fault → ⊥
good_script whole script fault is found = some_none (script_fault (take 1048577 whole)) fault found (no_fault (take 1048577 whole) script is)

-- ---- a capture

-- it is a wave that fits the script
abbrev pub Fits : Script → List ℕ → Type 0
Fits script bytes = HasCapture bytes script.header

fits-no_fault : (script : Script) (bytes : List ℕ) (fault : WaveFault) → Fits script bytes → IsBadWave bytes fault → ⊥
fits-no_fault script bytes fault fits bad = cc (fits.1.opens, bad.0)

fits-no_difference : (script : Script) (bytes : List ℕ) (difference : Difference) → Fits script bytes → IsDifferent bytes script.header difference → ⊥
fits-no_difference script bytes difference fits other =
    let same : other.0 ≡ fits.1.told = cc (other.1, fits.1.opens) in
    some_none (difference_in script.header fits.1.told.format) difference (subst (λ (told : Opened). difference_in script.header told.format ≡ Some difference) same other.2) fits.1.fits

bad-no_difference : (header : Header) (bytes : List ℕ) (fault : WaveFault) (difference : Difference) → IsBadWave bytes fault → IsDifferent bytes header difference → ⊥
bad-no_difference header bytes fault difference bad other = cc (bad.0, other.1)

one_bad : (bytes : List ℕ) (a b : WaveFault) → IsBadWave bytes a → IsBadWave bytes b → a ≡ b
one_bad bytes a b x y = cc (x.0, y.0)

one_difference : (header : Header) (bytes : List ℕ) (a b : Difference) → IsDifferent bytes header a → IsDifferent bytes header b → a ≡ b
one_difference header bytes a b x y =
    let same : y.0 ≡ x.0 = cc (x.1, y.1) in
    one_some (difference_in header x.0.format) a b x.2 (subst (λ (told : Opened). difference_in header told.format ≡ Some b) same y.2)

-- ---- what the files give

-- a capture is one list of samples
pub one_capture : (bytes : List ℕ) (header other : Header) (a b : List ℤ) → IsCapture bytes header a → IsCapture bytes other b → a ≡ b
one_capture bytes header other a b x y =
    let same : x.told ≡ y.told = cc (x.opens, y.opens) in
    x.samples_are ∙ ap wave_in same ∙ sym y.samples_are

-- they give a play one thing
pub one_input : (script_bytes capture_bytes : List ℕ) (disk_bytes : List (List ℕ)) (scores : List Sound) (play : Play) (a b : Given)
    → IsInput script_bytes capture_bytes disk_bytes scores play a → IsInput script_bytes capture_bytes disk_bytes scores play b → a ≡ b
one_input script_bytes capture_bytes disk_bytes scores play a b x y =
    let scripts : a.script ≡ b.script = one_script (take 1048577 script_bytes) a.script b.script x.script y.script in
    let captures : a.capture ≡ b.capture = one_capture capture_bytes a.script.header b.script.header a.capture b.capture x.capture y.capture in
    let others : AreDiskFiles disk_bytes a.script.header.rate a.script.header.disks b.disks =
    subst (λ (script : Script). AreDiskFiles disk_bytes script.header.rate script.header.disks b.disks) (sym scripts) y.disks in
    let disks : a.disks ≡ b.disks = one-files disk_bytes a.script.header.rate a.script.header.disks a.disks b.disks x.disks others in
    let same : a.scores ≡ b.scores = x.scores_are ∙ sym y.scores_are in
    (λ k. record { script = scripts k; capture = captures k; disks = disks k; scores = same k })

module _ (files : Files) (scores : List Sound) (play : Play) where
  -- ---- what is known of a name's bytes

  -- a name has one list of bytes
  both : (name : List ℕ) (P Q : List ℕ → Type 0) (R : Type 0) → ((bytes : List ℕ) → P bytes → Q bytes → R) → IfBytes (Some files) name P → IfBytes (Some files) name Q → R
  both name P Q R f p q =
      let same : q.0 ≡ p.0 = cc (p.1, q.1) in
      f p.0 p.2 (subst Q same q.2)

  is_there : (name : List ℕ) (P : List ℕ → Type 0) → IfBytes (Some files) name P → IsThere (Some files) name
  is_there name P p = rw p.1 refl

  abbrev Of : (Script → Type 0) → List ℕ → Type 0
  Of P bytes = (script : Script) × IsScriptOf bytes script × P script

  -- two facts of one script
  of_one : (P Q : Script → Type 0) (R : Type 0) → ((script : Script) → P script → Q script → R) → IfScript (Some files) play P → IfScript (Some files) play Q → R
  of_one P Q R f =
      both play.script (Of P) (Of Q) R (λ bytes x y. f x.0 x.2 (subst Q (one_script (take 1048577 bytes) y.0 x.0 y.1 x.1) y.2))

  abbrev Fitting : (Script → List ℕ → Type 0) → Script → Type 0
  Fitting P script = (differs script scores play ≡ None) × IfBytes (Some files) play.capture (P script)

  -- two facts of one capture
  of_capture : (P Q : Script → List ℕ → Type 0) (R : Type 0) → ((script : Script) (bytes : List ℕ) → P script bytes → Q script bytes → R)
      → IfCapture (Some files) scores play P → IfCapture (Some files) scores play Q → R
  of_capture P Q R f = of_one (Fitting P) (Fitting Q) R (λ script x y. both play.capture (P script) (Q script) R (f script) x.1 y.1)

  -- a script, beside a fault
  bad-and-good : (fault : ScriptFault) (P : Script → Type 0) → IfBytes (Some files) play.script (λ bytes. IsBadScript bytes fault) → IfScript (Some files) play P → ⊥
  bad-and-good fault P = both play.script (λ bytes. IsBadScript bytes fault) (Of P) ⊥ (λ bytes x y. good_script bytes y.0 fault y.1 x)

  has_capture : (P : Script → List ℕ → Type 0) → IfCapture (Some files) scores play P → IsThere (Some files) play.capture
  has_capture P h = is_there play.capture (P h.2.0) h.2.2.1

  -- a difference that needs no capture, beside none
  first-and-none : (difference : Difference) (P : Script → Type 0) → IfScript (Some files) play (λ script. differs script scores play ≡ Some difference)
      → IfScript (Some files) play (λ script. (differs script scores play ≡ None) × P script) → ⊥
  first-and-none difference P =
      of_one (λ script. differs script scores play ≡ Some difference) (λ script. (differs script scores play ≡ None) × P script) ⊥ (λ script x y. some_none (differs script scores play) difference x y.0)

  -- two facts of one script, where the capture fits
  of_disks : (P Q : Script → Type 0) (R : Type 0) → ((script : Script) → P script → Q script → R) → IfDisks (Some files) scores play P → IfDisks (Some files) scores play Q → R
  of_disks P Q R f =
      of_capture (λ script bytes. HasCapture bytes script.header × P script) (λ script bytes. HasCapture bytes script.header × Q script) R (λ script bytes x y. f script x.1 y.1)

  -- a capture that fits, beside something of its bytes that no capture has
  disks-or : (P : Script → List ℕ → Type 0) (Q : Script → Type 0) → ((script : Script) (bytes : List ℕ) → P script bytes → Fits script bytes → ⊥)
      → IfCapture (Some files) scores play P → IfDisks (Some files) scores play Q → ⊥
  disks-or P Q none = of_capture P (λ script bytes. HasCapture bytes script.header × Q script) ⊥ (λ script bytes x y. none script bytes x y.0)

  abbrev IsUnfit : ℕ → Against → Script → Type 0
  IsUnfit place against script = IsFirstUnfit (Some files) play.disks script.header.rate script.header.disks place against

  abbrev Lacks : Script → Type 0
  Lacks script = LacksDisk (Some files) play.disks script.header.rate script.header.disks

  abbrev pub AllFit : Script → Type 0
  AllFit script = HasDisks (Some files) play.disks script.header.rate script.header.disks

  -- one disk file is the first that does not fit, and one thing stands against it
  one-status : (a b : Status) → IsUnfitDisk (Some files) scores play a → IsUnfitDisk (Some files) scores play b → a ≡ b
  one-status a b x y =
      let same : x.1 ≡ y.1 =
      of_disks (IsUnfit x.0 x.1) (IsUnfit y.0 y.1) (x.1 ≡ y.1) (λ script u v. (one-unfit files play.disks script.header.rate script.header.disks x.0 y.0 x.1 y.1 u v).1) x.3 y.3 in
      sym x.2 ∙ ap status_of_against same ∙ y.2

  bad-unfit : (fault : WaveFault) (status : Status) → IfCapture (Some files) scores play (λ script bytes. IsBadWave bytes fault) → IsUnfitDisk (Some files) scores play status → ⊥
  bad-unfit fault status h unfit = disks-or (λ script bytes. IsBadWave bytes fault) (IsUnfit unfit.0 unfit.1) (λ script bytes x y. fits-no_fault script bytes fault y x) h unfit.3

  differs-unfit : (difference : Difference) (status : Status) → IfCapture (Some files) scores play (λ script bytes. IsDifferent bytes script.header difference) → IsUnfitDisk (Some files) scores play status → ⊥
  differs-unfit difference status h unfit =
      disks-or (λ script bytes. IsDifferent bytes script.header difference) (IsUnfit unfit.0 unfit.1) (λ script bytes x y. fits-no_difference script bytes difference y x) h unfit.3

  first-unfit : (difference : Difference) (status : Status) → IfScript (Some files) play (λ script. differs script scores play ≡ Some difference) → IsUnfitDisk (Some files) scores play status → ⊥
  first-unfit difference status first unfit =
      first-and-none difference (λ script. IfBytes (Some files) play.capture (λ bytes. HasCapture bytes script.header × IsUnfit unfit.0 unfit.1 script)) first unfit.3

  script-unfit : (fault : ScriptFault) (status : Status) → IfBytes (Some files) play.script (λ bytes. IsBadScript bytes fault) → IsUnfitDisk (Some files) scores play status → ⊥
  script-unfit fault status h unfit = bad-and-good fault (Fitting (λ script bytes. HasCapture bytes script.header × IsUnfit unfit.0 unfit.1 script)) h unfit.3

  -- ---- the answers

  pub input-fits : HasInput (Some files) scores play → IfDisks (Some files) scores play AllFit
  input-fits h =
      let disks = h.2.2 in
      let is = disks.2.1 in
      let given : Given = disks.2.0 in
      (h.0, h.1, (given.script, is.script, (is.fits, (h.2.0, h.2.1, ((given.capture, is.capture), (disks.0, disks.1, (given.disks, is.disks)))))))

  fit-and-unfit : (status : Status) → IsUnfitDisk (Some files) scores play status → IfDisks (Some files) scores play AllFit → ⊥
  fit-and-unfit status unfit fits =
      of_disks AllFit (IsUnfit unfit.0 unfit.1) ⊥ (λ script x y. fit-unfit files play.disks script.header.rate script.header.disks unfit.0 unfit.1 x y) fits unfit.3

  -- a refusal, beside files that fit
  pub refused-fits : (status : Status) → HasRefusal (Some files) scores play status → IfDisks (Some files) scores play AllFit → ⊥
  refused-fits Ok h fits = h
  refused-fits NoMemory h fits = h
  refused-fits Words h fits = h
  refused-fits ReadFault h fits = h
  refused-fits (BadWave fault) (inl bad) fits = disks-or (λ script bytes. IsBadWave bytes fault) AllFit (λ script bytes x y. fits-no_fault script bytes fault y x) bad fits
  refused-fits (BadWave fault) (inr unfit) fits = fit-and-unfit (BadWave fault) unfit fits
  refused-fits (BadScript fault) h fits = bad-and-good fault (Fitting (λ script bytes. HasCapture bytes script.header × AllFit script)) h fits
  refused-fits WriteFault h fits = h
  refused-fits (Differs difference) (inl first) fits = first-and-none difference (λ script. IfBytes (Some files) play.capture (λ bytes. HasCapture bytes script.header × AllFit script)) first fits
  refused-fits (Differs difference) (inr (inl later)) fits =
      disks-or (λ script bytes. IsDifferent bytes script.header difference) AllFit (λ script bytes x y. fits-no_difference script bytes difference y x) later fits
  refused-fits (Differs difference) (inr (inr unfit)) fits = fit-and-unfit (Differs difference) unfit fits
  refused-fits (Wrong row sight) h fits = h

  script_lacks : (P : Script → Type 0) → IfScript (Some files) play P → ¬ IsThere (Some files) play.script → ⊥
  script_lacks P h none = none (is_there play.script (Of P) h)

  -- what a capture has, beside a name that is missing: there it fits, and a disk file is not there
  capture_lacks : (P : Script → List ℕ → Type 0) → IfCapture (Some files) scores play P → LacksInput (Some files) scores play → IfDisks (Some files) scores play Lacks
  capture_lacks P h (inl none) = absurd (script_lacks (Fitting P) h none)
  capture_lacks P h (inr (inl none)) = absurd (none.1 (has_capture P h))
  capture_lacks P h (inr (inr lacks)) = lacks

  input-lacks : IfDisks (Some files) scores play AllFit → LacksInput (Some files) scores play → ⊥
  input-lacks fits lacks =
      of_disks AllFit Lacks ⊥ (λ script x y. there-lacks files play.disks script.header.rate script.header.disks x y) fits
      (capture_lacks (λ script bytes. HasCapture bytes script.header × AllFit script) fits lacks)

  unfit-there : (status : Status) → IsUnfitDisk (Some files) scores play status → LacksInput (Some files) scores play → ⊥
  unfit-there status unfit lacks =
      of_disks (IsUnfit unfit.0 unfit.1) Lacks ⊥ (λ script x y. unfit-lacks files play.disks script.header.rate script.header.disks unfit.0 unfit.1 x y) unfit.3
      (capture_lacks (λ script bytes. HasCapture bytes script.header × IsUnfit unfit.0 unfit.1 script) unfit.3 lacks)

  bad-there : (fault : WaveFault) → IfCapture (Some files) scores play (λ script bytes. IsBadWave bytes fault) → LacksInput (Some files) scores play → ⊥
  bad-there fault h lacks =
      disks-or (λ script bytes. IsBadWave bytes fault) Lacks (λ script bytes x y. fits-no_fault script bytes fault y x) h (capture_lacks (λ script bytes. IsBadWave bytes fault) h lacks)

  differs-there : (difference : Difference) → IfCapture (Some files) scores play (λ script bytes. IsDifferent bytes script.header difference) → LacksInput (Some files) scores play → ⊥
  differs-there difference h lacks =
      disks-or (λ script bytes. IsDifferent bytes script.header difference) Lacks (λ script bytes x y. fits-no_difference script bytes difference y x) h
      (capture_lacks (λ script bytes. IsDifferent bytes script.header difference) h lacks)

  first-there : (difference : Difference) → IfScript (Some files) play (λ script. differs script scores play ≡ Some difference) → LacksInput (Some files) scores play → ⊥
  first-there difference first (inl none) = script_lacks (λ script. differs script scores play ≡ Some difference) first none
  first-there difference first (inr (inl none)) =
      of_one (λ script. differs script scores play ≡ Some difference) (λ script. differs script scores play ≡ None) ⊥ (λ script x y. some_none (differs script scores play) difference x y) first none.0
  first-there difference first (inr (inr lacks)) = first-and-none difference (λ script. IfBytes (Some files) play.capture (λ bytes. HasCapture bytes script.header × Lacks script)) first lacks

  script-there : (fault : ScriptFault) → IfBytes (Some files) play.script (λ bytes. IsBadScript bytes fault) → LacksInput (Some files) scores play → ⊥
  script-there fault h (inl none) = none (is_there play.script (λ bytes. IsBadScript bytes fault) h)
  script-there fault h (inr (inl none)) = bad-and-good fault (λ script. differs script scores play ≡ None) h none.0
  script-there fault h (inr (inr lacks)) = bad-and-good fault (Fitting (λ script bytes. HasCapture bytes script.header × Lacks script)) h lacks

  -- a refusal, beside a name that is missing where it is opened
  refused-there : (status : Status) → HasRefusal (Some files) scores play status → LacksInput (Some files) scores play → ⊥
  refused-there Ok h lacks = h
  refused-there NoMemory h lacks = h
  refused-there Words h lacks = h
  refused-there ReadFault h lacks = h
  refused-there (BadWave fault) (inl bad) lacks = bad-there fault bad lacks
  refused-there (BadWave fault) (inr unfit) lacks = unfit-there (BadWave fault) unfit lacks
  refused-there (BadScript fault) h lacks = script-there fault h lacks
  refused-there WriteFault h lacks = h
  refused-there (Differs difference) (inl first) lacks = first-there difference first lacks
  refused-there (Differs difference) (inr (inl later)) lacks = differs-there difference later lacks
  refused-there (Differs difference) (inr (inr unfit)) lacks = unfit-there (Differs difference) unfit lacks
  refused-there (Wrong row sight) h lacks = h

  -- a bad wave is no difference
  wave-or-differs : (fault : WaveFault) (difference : Difference) → IsFirstBadWave (Some files) scores play fault → IsFirstDifference (Some files) scores play difference → ⊥
  wave-or-differs fault difference (inl bad) (inl first) = first-and-none difference (λ script. IfBytes (Some files) play.capture (λ bytes. IsBadWave bytes fault)) first bad
  wave-or-differs fault difference (inl bad) (inr (inl later)) =
      of_capture (λ script bytes. IsBadWave bytes fault) (λ script bytes. IsDifferent bytes script.header difference) ⊥ (λ script bytes x y. bad-no_difference script.header bytes fault difference x y) bad later
  wave-or-differs fault difference (inl bad) (inr (inr unfit)) = bad-unfit fault (Differs difference) bad unfit
  wave-or-differs fault difference (inr unfit) (inl first) = first-unfit difference (BadWave fault) first unfit
  wave-or-differs fault difference (inr unfit) (inr (inl later)) = differs-unfit difference (BadWave fault) later unfit
  wave-or-differs fault difference (inr unfit) (inr (inr other)) = cc (one-status (BadWave fault) (Differs difference) unfit other)

  script-or-wave : (fault : ScriptFault) (bad : WaveFault) → IfBytes (Some files) play.script (λ bytes. IsBadScript bytes fault) → IsFirstBadWave (Some files) scores play bad → ⊥
  script-or-wave fault bad h (inl wave) = bad-and-good fault (Fitting (λ script bytes. IsBadWave bytes bad)) h wave
  script-or-wave fault bad h (inr unfit) = script-unfit fault (BadWave bad) h unfit

  script-or-differs : (fault : ScriptFault) (difference : Difference) → IfBytes (Some files) play.script (λ bytes. IsBadScript bytes fault) → IsFirstDifference (Some files) scores play difference → ⊥
  script-or-differs fault difference h (inl first) = bad-and-good fault (λ script. differs script scores play ≡ Some difference) h first
  script-or-differs fault difference h (inr (inl later)) = bad-and-good fault (Fitting (λ script bytes. IsDifferent bytes script.header difference)) h later
  script-or-differs fault difference h (inr (inr unfit)) = script-unfit fault (Differs difference) h unfit

  one-wave : (a b : WaveFault) → IsFirstBadWave (Some files) scores play a → IsFirstBadWave (Some files) scores play b → BadWave a ≡ BadWave b
  one-wave a b (inl x) (inl y) =
      ap BadWave (of_capture (λ script bytes. IsBadWave bytes a) (λ script bytes. IsBadWave bytes b) (a ≡ b) (λ script bytes p q. one_bad bytes a b p q) x y)
  one-wave a b (inl x) (inr y) = absurd (bad-unfit a (BadWave b) x y)
  one-wave a b (inr x) (inl y) = absurd (bad-unfit b (BadWave a) y x)
  one-wave a b (inr x) (inr y) = one-status (BadWave a) (BadWave b) x y

  one_first : (a b : Difference) → IsFirstDifference (Some files) scores play a → IsFirstDifference (Some files) scores play b → Differs a ≡ Differs b
  one_first a b (inl x) (inl y) =
      ap Differs (of_one (λ script. differs script scores play ≡ Some a) (λ script. differs script scores play ≡ Some b) (a ≡ b) (λ script p q. one_some (differs script scores play) a b p q) x y)
  one_first a b (inl x) (inr (inl y)) = absurd (first-and-none a (λ script. IfBytes (Some files) play.capture (λ bytes. IsDifferent bytes script.header b)) x y)
  one_first a b (inl x) (inr (inr y)) = absurd (first-unfit a (Differs b) x y)
  one_first a b (inr (inl x)) (inl y) = absurd (first-and-none b (λ script. IfBytes (Some files) play.capture (λ bytes. IsDifferent bytes script.header a)) y x)
  one_first a b (inr (inl x)) (inr (inl y)) =
      ap Differs (of_capture (λ script bytes. IsDifferent bytes script.header a) (λ script bytes. IsDifferent bytes script.header b) (a ≡ b) (λ script bytes p q. one_difference script.header bytes a b p q) x y)
  one_first a b (inr (inl x)) (inr (inr y)) = absurd (differs-unfit a (Differs b) x y)
  one_first a b (inr (inr x)) (inl y) = absurd (first-unfit b (Differs a) y x)
  one_first a b (inr (inr x)) (inr (inl y)) = absurd (differs-unfit b (Differs a) y x)
  one_first a b (inr (inr x)) (inr (inr y)) = one-status (Differs a) (Differs b) x y

  -- of two refusals of the same bytes
  same_refusal : (status fault : Status) → HasRefusal (Some files) scores play fault → HasRefusal (Some files) scores play status → status ≡ fault
  same_refusal (BadWave a) (BadWave b) h k = one-wave a b k h
  same_refusal (BadWave a) (BadScript b) h k = absurd (script-or-wave b a h k)
  same_refusal (BadWave a) (Differs b) h k = absurd (wave-or-differs a b k h)
  same_refusal (BadScript a) (BadWave b) h k = absurd (script-or-wave a b k h)
  same_refusal (BadScript a) (BadScript b) h k =
      ap BadScript (both play.script (λ bytes. IsBadScript bytes a) (λ bytes. IsBadScript bytes b) (a ≡ b) (λ bytes x y. one_some (script_fault (take 1048577 bytes)) a b x y) k h)
  same_refusal (BadScript a) (Differs b) h k = absurd (script-or-differs a b k h)
  same_refusal (Differs a) (BadWave b) h k = absurd (wave-or-differs b a h k)
  same_refusal (Differs a) (BadScript b) h k = absurd (script-or-differs b a h k)
  same_refusal (Differs a) (Differs b) h k = one_first a b k h
  same_refusal Ok fault h k = absurd k
  same_refusal NoMemory fault h k = absurd k
  same_refusal Words fault h k = absurd k
  same_refusal ReadFault fault h k = absurd k
  same_refusal WriteFault fault h k = absurd k
  same_refusal (Wrong row sight) fault h k = absurd k
  same_refusal (BadWave a) Ok h k = absurd h
  same_refusal (BadScript a) Ok h k = absurd h
  same_refusal (Differs a) Ok h k = absurd h
  same_refusal (BadWave a) NoMemory h k = absurd h
  same_refusal (BadScript a) NoMemory h k = absurd h
  same_refusal (Differs a) NoMemory h k = absurd h
  same_refusal (BadWave a) Words h k = absurd h
  same_refusal (BadScript a) Words h k = absurd h
  same_refusal (Differs a) Words h k = absurd h
  same_refusal (BadWave a) ReadFault h k = absurd h
  same_refusal (BadScript a) ReadFault h k = absurd h
  same_refusal (Differs a) ReadFault h k = absurd h
  same_refusal (BadWave a) WriteFault h k = absurd h
  same_refusal (BadScript a) WriteFault h k = absurd h
  same_refusal (Differs a) WriteFault h k = absurd h
  same_refusal (BadWave a) (Wrong row sight) h k = absurd h
  same_refusal (BadScript a) (Wrong row sight) h k = absurd h
  same_refusal (Differs a) (Wrong row sight) h k = absurd h

-- where the bytes have a refusal, a play that ended early ended with it
pub exact-err : (files : Option Files) (scores : List Sound) (play : Play) (fault status : Status) (reads : Type 0) → HasRefusal files scores play fault → PlayStatus files scores play status
    → (status ≡ ReadFault → reads ⊎ LacksInput files scores play) → (status ≡ WriteFault → IfInput files scores play) → ¬ reads
    → (status ≡ fault) ⊎ (status ≡ NoMemory)
exact-err None scores play fault status reads h is lacks input none = absurd h
exact-err (Some files) scores play fault Ok reads h is lacks input none = absurd is
exact-err (Some files) scores play fault NoMemory reads h is lacks input none = inr refl
exact-err (Some files) scores play fault Words reads h is lacks input none = absurd is
exact-err (Some files) scores play fault ReadFault reads h is lacks input none = absurd (go (lacks refl))
  where
    go : reads ⊎ LacksInput (Some files) scores play → ⊥
    go (inl rose) = none rose
    go (inr missing) = refused-there files scores play fault h missing
exact-err (Some files) scores play fault (BadWave a) reads h is lacks input none = inl (same_refusal files scores play (BadWave a) fault h is)
exact-err (Some files) scores play fault (BadScript a) reads h is lacks input none = inl (same_refusal files scores play (BadScript a) fault h is)
exact-err (Some files) scores play fault WriteFault reads h is lacks input none = absurd (refused-fits files scores play fault h (input-fits files scores play (input refl)))
exact-err (Some files) scores play fault (Differs a) reads h is lacks input none = inl (same_refusal files scores play (Differs a) fault h is)
exact-err (Some files) scores play fault (Wrong row sight) reads h is lacks input none = absurd is

-- files that fit are played, if nothing outside fails and memory is found
pub complete-err : (files : Option Files) (scores : List Sound) (play : Play) (status : Status) (reads writes puts : Type 0) → HasInput files scores play → PlayStatus files scores play status
    → (status ≡ ReadFault → reads ⊎ LacksInput files scores play) → (status ≡ WriteFault → writes ⊎ puts) → ¬ reads → ¬ writes → ¬ puts
    → (status ≡ Ok) ⊎ (status ≡ NoMemory)
complete-err None scores play status reads writes puts h is lacks cut no_read no_write no_put = absurd h
complete-err (Some files) scores play status reads writes puts h is lacks cut no_read no_write no_put = go status is lacks cut
  where
    fits : IfDisks (Some files) scores play (AllFit files scores play)
    fits = input-fits files scores play h

    read_or : reads ⊎ LacksInput (Some files) scores play → ⊥
    read_or (inl rose) = no_read rose
    read_or (inr missing) = input-lacks files scores play fits missing

    write_or : writes ⊎ puts → ⊥
    write_or (inl rose) = no_write rose
    write_or (inr rose) = no_put rose

    go : (status : Status) → PlayStatus (Some files) scores play status → (status ≡ ReadFault → reads ⊎ LacksInput (Some files) scores play) → (status ≡ WriteFault → writes ⊎ puts)
        → (status ≡ Ok) ⊎ (status ≡ NoMemory)
    go Ok is lacks cut = absurd is
    go NoMemory is lacks cut = inr refl
    go Words is lacks cut = absurd is
    go ReadFault is lacks cut = absurd (read_or (lacks refl))
    go (BadWave fault) is lacks cut = absurd (refused-fits files scores play (BadWave fault) is fits)
    go (BadScript fault) is lacks cut = absurd (refused-fits files scores play (BadScript fault) is fits)
    go WriteFault is lacks cut = absurd (write_or (cut refl))
    go (Differs difference) is lacks cut = absurd (refused-fits files scores play (Differs difference) is fits)
    go (Wrong row sight) is lacks cut = absurd is
