-- The script of a check, which has no disk, and what was read with it.
--     script-told, refusal-told, unread-told      what was read of a file
--     is-without, undecided-or, without-good      a script without a disk, and one with it
--     script-opening, fitting-opening, lacks-opening      what ended the reading
--     check-told      and what was read
--     none-given, no-names      of no bytes of disks there are no disks
use Rattle.std.proofs.Common.{◌≡◌, ◌∙◌, ◌⊎◌, ℕ, ℤ, List, [], ◌∷◌, Ok, Err, Some, None, inl, inr, ap, arith, length, refl, subst, sym, take}
use Rattle.std.specs.Prelude.{IfErr, IfOk, Option, Result}
use Rattle.jack_types.specs.declared.scripts.ScriptFault.{ScriptFault}
use Rattle.jack_host.specs.Files.{IsThere, SameFiles, bytes_under}
use Rattle.session_model.specs.Courses.{DiskFile}
use Rattle.session_model.specs.Explanations.{Given}
use Rattle.session_model.specs.Grammar.{Spells}
use Rattle.session_model.specs.Kinds.{Sound}
use Rattle.session_model.specs.Reading.{script_fault}
use Rattle.session_model.specs.Scripts.{Script}
use Rattle.play_words.specs.Words.{Play}
use Rattle.play_inputs.specs.disk_inputs.specs.DiskFiles.{AreDiskFiles}
use Rattle.play_inputs.specs.declared.status.Status.{Status}
use Rattle.play_inputs.specs.declared.status.Status.TheVariants.{Ok as Done, NoMemory, Words, ReadFault, BadWave, BadScript, WriteFault, Differs, Wrong}
use Rattle.play_inputs.specs.Answers.{LacksInput}
use Rattle.play_inputs.specs.Captures.{IsOpened}
use Rattle.play_inputs.specs.Inputs.{Files, IfBytes, IfBytesAll, IsBadScript, IsCapture, IsInput, IsScriptOf}
use Rattle.play_inputs.specs.Openings.{FittingStatus, OpeningStatus}
use Rattle.play_inputs.specs.Scripts.{RefusesBytes}
use Rattle.play_inputs.proofs.DifferenceLemmas.{all_fit}
use Rattle.play_inputs.proofs.ExactLemmas.{good_script, one_script}
use Rattle.play_inputs.proofs.InputLemmas.{if_bytes_before, if_bytes_map}
use Rattle.play_inputs.proofs.OpeningLemmas.{counted, differs, fitting-status, lacks-capture}
use Rattle.check_command.specs.Scripts.{AreWithoutDisks, CheckOpening, CheckScriptStatus, GivesCheck, HasNoDisk, IsRefusedScript, IsUndecided, IsWithoutDisks, LacksPlay, RefusesScript, undecided}

-- ---- what was read of a file

pub script-told : (r : Result Script Status) (files : Option Files) (name bytes : List ℕ) → IfBytes files name (λ whole. bytes ≡ take 1048577 whole)
    → IfOk r (λ script. Spells bytes script × HasNoDisk script) → IfOk r (λ script. IfBytes files name (λ whole. IsScriptOf whole script))
script-told (Ok script) files name bytes h is =
    if_bytes_map files name (λ whole. bytes ≡ take 1048577 whole) (λ whole. IsScriptOf whole script) (λ whole e. subst (λ (read : List ℕ). Spells read script) e is.0) h
script-told (Err status) files name bytes h is = tt

pub refusal-told : (r : Result Script Status) (files : Option Files) (name bytes : List ℕ) → IfBytes files name (λ whole. bytes ≡ take 1048577 whole)
    → IfErr r (RefusesScript bytes) → IfErr r (CheckScriptStatus files name)
refusal-told (Ok script) files name bytes h is = tt
refusal-told (Err status) files name bytes h (inl (inl none)) = inl (inl none)
refusal-told (Err status) files name bytes h (inl (inr (fault, e, found))) = inr (
  fault,
  e,
  if_bytes_map files name (λ whole. bytes ≡ take 1048577 whole) (λ whole. IsRefusedScript whole fault) (λ whole same. inl (subst (λ (read : List ℕ). script_fault read ≡ Some fault) same found)) h,
)
refusal-told (Err status) files name bytes h (inr (script, spells, has, e)) = inr (
  undecided bytes,
  e,
  if_bytes_map files name (λ whole. bytes ≡ take 1048577 whole) (λ whole. IsRefusedScript whole (undecided bytes))
      (λ whole same. inr (script, subst (λ (read : List ℕ). Spells read script) same spells, has, ap undecided same)) h,
)

pub unread-told : (files : Option Files) (name : List ℕ) (status : Status) → (status ≡ NoMemory) ⊎ (status ≡ ReadFault) → CheckScriptStatus files name status
unread-told files name status h = inl h

-- ---- a script without a disk, and one with it

pub is-without : (files : Option Files) (play : Play) (script : Script) → IfBytes files play.script (λ bytes. IsScriptOf bytes script) → HasNoDisk script → IsWithoutDisks files play
is-without files play script is none =
    if_bytes_map files play.script (λ bytes. IsScriptOf bytes script) AreWithoutDisks (λ bytes of other is_other. subst HasNoDisk (one_script (take 1048577 bytes) script other of is_other) none) is

pub undecided-or : (files : Files) (play : Play) (fault : ScriptFault) → IfBytes (Some files) play.script (λ bytes. IsUndecided bytes fault) → IsWithoutDisks (Some files) play → ⊥
undecided-or files play fault (bytes, is, (script, of, has, e)) (other, also, without) =
    let same : other ≡ bytes = cc (is, also) in
    has (without script (subst (λ (b : List ℕ). IsScriptOf b script) (sym same) of))

-- of a script without a disk a refusal is a fault of the bytes
pub without-good : (files : Option Files) (play : Play) (fault : ScriptFault) → IsWithoutDisks files play → IfBytes files play.script (λ bytes. IsRefusedScript bytes fault) → IfBytes files play.script (λ bytes. IsBadScript bytes fault)
without-good None play fault without h = tt
without-good (Some files) play fault without (bytes, is, inl bad) = (bytes, is, bad)
without-good (Some files) play fault without (bytes, is, inr other) = absurd (undecided-or files play fault (bytes, is, other) without)

-- of a script with one it is the one that tells so
pub undecided-same : (files : Files) (play : Play) (one other : ScriptFault) → IfBytes (Some files) play.script (λ bytes. IsUndecided bytes one) → IfBytes (Some files) play.script (λ bytes. IsRefusedScript bytes other) → other ≡ one
undecided-same files play one other (bytes, is, (script, of, has, e)) (more, also, inl bad) =
    let same : more ≡ bytes = cc (is, also) in
    absurd (good_script bytes script other of (subst (λ (b : List ℕ). IsBadScript b other) same bad))
undecided-same files play one other (bytes, is, (script, of, has, e)) (more, also, inr (again, of_again, has_again, f)) =
    let same : more ≡ bytes = cc (is, also) in
    f ∙ ap (λ (b : List ℕ). undecided (take 1048577 b)) same ∙ sym e

-- ---- what ended the reading

pub script-opening : (files : Option Files) (scores : List Sound) (play : Play) (status : Status) → CheckScriptStatus files play.script status → CheckOpening files scores play status
script-opening files scores play status (inl (inl e)) = subst (CheckOpening files scores play) (sym e) tt
script-opening files scores play status (inl (inr e)) = subst (CheckOpening files scores play) (sym e) tt
script-opening files scores play status (inr (fault, e, told)) = subst (CheckOpening files scores play) (sym e) told

play-opening : (files : Option Files) (scores : List Sound) (play : Play) (status : Status) → IsWithoutDisks files play → OpeningStatus files scores play status → CheckOpening files scores play status
play-opening files scores play Done without h = h
play-opening files scores play NoMemory without h = tt
play-opening files scores play Words without h = h
play-opening files scores play ReadFault without h = tt
play-opening files scores play (BadWave fault) without h = (without, h)
play-opening files scores play (BadScript fault) without h = if_bytes_map files play.script (λ bytes. IsBadScript bytes fault) (λ bytes. IsRefusedScript bytes fault) (λ bytes bad. inl bad) h
play-opening files scores play WriteFault without h = h
play-opening files scores play (Differs difference) without h = (without, h)
play-opening files scores play (Wrong row sight) without h = h

module _ (files : Option Files) (scores : List Sound) (play : Play) (script : Script) (is : IfBytes files play.script (λ bytes. IsScriptOf bytes script)) (none : HasNoDisk script)
    (after : Option Files) (same : SameFiles files after) where
  pub fitting-opening : (guests : ℕ) (status : Status) → length scores ≡ guests → FittingStatus after play guests script status → CheckOpening files scores play status
  fitting-opening guests status many h = play-opening files scores play status (is-without files play script is none) (fitting-status files scores play script is after same guests status many h)

  pub lacks-opening : differs script scores play ≡ None → ¬ IsThere after play.capture → LacksPlay files scores play
  lacks-opening fits missing = inr (is-without files play script is none, lacks-capture files scores play script is after same fits missing)

  -- ---- and what was read

  module _ (fits : differs script scores play ≡ None) (left : Option (List ℤ)) where
    abbrev Tells : List ℕ → List ℕ → Type 0
    Tells script_bytes capture_bytes = (given : Given) × IsInput script_bytes capture_bytes [] scores play given × (given.script ≡ script) × (left ≡ Some given.capture)

    abbrev IsRead : List ℕ → Type 0
    IsRead bytes = (samples : List ℤ) × IsCapture bytes script.header samples × (left ≡ Some samples)

    no-files : AreDiskFiles [] script.header.rate script.header.disks []
    no-files = subst (λ (channels : List ℕ). AreDiskFiles [] script.header.rate channels []) (sym none) tt

    tells : (script_bytes capture_bytes : List ℕ) → IsScriptOf script_bytes script → IsRead capture_bytes → Tells script_bytes capture_bytes
    tells script_bytes capture_bytes of read =
        let given : Given = record { script = script; capture = read.0; disks = []; scores = scores } in
        (given, record { script = of; fits = fits; capture = read.1; disks = no-files; scores_are = refl }, refl, read.2)

    pub check-told : IsOpened after play.capture script.header left → GivesCheck files scores play script left
    check-told opened =
        if_bytes_map files play.script (λ bytes. IsScriptOf bytes script) (λ script_bytes. IfBytes files play.capture (Tells script_bytes))
        (λ script_bytes of. if_bytes_map files play.capture IsRead (Tells script_bytes) (λ capture_bytes read. tells script_bytes capture_bytes of read) (if_bytes_before files after play.capture IsRead same opened))
        is

-- ---- of no bytes of disks there are no disks

pub none-given : (rate : ℕ) (channels : List ℕ) (disks : List DiskFile) → AreDiskFiles [] rate channels disks → (channels ≡ []) × (disks ≡ [])
none-given rate [] [] are = (refl, refl)
none-given rate [] (file ∷ files) are = absurd are
none-given rate (c ∷ cs) disks are = absurd are

pub without-input : (script_bytes capture_bytes : List ℕ) (scores : List Sound) (play : Play) (given : Given) → IsInput script_bytes capture_bytes [] scores play given → HasNoDisk given.script
without-input script_bytes capture_bytes scores play given input = (none-given given.script.header.rate given.script.header.disks given.disks input.disks).0

pub no-names : (script_bytes capture_bytes : List ℕ) (scores : List Sound) (play : Play) (given : Given) → IsInput script_bytes capture_bytes [] scores play given → play.disks ≡ []
no-names script_bytes capture_bytes scores play given input =
    empty play.disks (sym (all_fit given.script (length scores) (length play.records) (length play.disks) input.fits).2 ∙ ap length (without-input script_bytes capture_bytes scores play given input))
  where
    empty : (names : List (List ℕ)) → length names ≡ 0 → names ≡ []
    empty [] e = refl
    empty (name ∷ names) e = absurd (omega (arith, e))

pub all-none : (files : Option Files) (names : List (List ℕ)) (P : List (List ℕ) → Type 0) → names ≡ [] → P [] → IfBytesAll files names P
all-none files names P e p = subst (λ (ns : List (List ℕ)). IfBytesAll files ns P) (sym e) (go files)
  where
    go : (own : Option Files) → IfBytesAll own [] P
    go None = tt
    go (Some told) = ([], refl, p)
