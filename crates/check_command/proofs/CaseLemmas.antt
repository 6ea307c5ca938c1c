-- The case of the files of a check, which is one.
--     one-case, case-of      two cases are the same, and so of each holds what holds of one
--     case-map, case-told      what holds of it, and what the opened files tell of it
--     input-of, input-named, gives-named      and the input of a play in it
--     case-without, without-named      whose script has no disk
--     there-none      its names are there
--     read-of, kept-of, verdict-told      and the verdict on it
use Rattle.std.proofs.Common.{◌≡◌, ◌∙◌, ℕ, zero, suc, ◌<◌, ℤ, List, [], ◌∷◌, Some, None, Ok, Err, ap, arith, length, map, refl, sym, subst, take, true}
use Rattle.std.specs.Prelude.{Contains, IfOk, OnOk, Option, Result, is_some}
use Rattle.std.proofs.lemmas.Option.{none-some}
use Rattle.check_sights.specs.declared.sights.Sight.{Sight}
use Rattle.jack_types.specs.declared.replies.Row.{Row}
use Rattle.jack_host.specs.Files.{IsThere, bytes_under}
use Rattle.check_model.specs.Checking.{IsFirstWrong}
use Rattle.session_model.specs.Explanations.{Given, Written}
use Rattle.session_model.specs.Kinds.{Sound}
use Rattle.session_model.specs.Scripts.{Script}
use Rattle.session_check.specs.Cases.{IsCase as IsGivenCase}
use Rattle.session_check.specs.declared.verdict.CheckFault.{CheckFault}
use Rattle.session_check.specs.declared.verdict.CheckFault.TheVariants.{Read, Memory}
use Rattle.session_check.specs.declared.verdict.Verdict.{Verdict}
use Rattle.session_check.specs.declared.verdict.Verdict.TheVariants.{Explained as IsRight, Wrong as IsWrong}
use Rattle.play_words.specs.Checks.{Check}
use Rattle.play_words.specs.Words.{Play}
use Rattle.play_inputs.specs.declared.status.Status.{Status}
use Rattle.play_inputs.specs.declared.status.Status.TheVariants.{ReadFault}
use Rattle.play_inputs.specs.Answers.{HasInput, IfInput}
use Rattle.play_inputs.specs.Inputs.{Files, IfBytes, IfBytesAll, IsInput, IsScriptOf}
use Rattle.play_inputs.proofs.ExactLemmas.{one_input, one_script}
use Rattle.play_inputs.proofs.InputLemmas.{if_bytes_map}
use Rattle.check_command.specs.Cases.{HasCase, IfCase, IsCase, LacksOne, OfCase, checked_names}
use Rattle.check_command.specs.Files.{GivesWritten}
use Rattle.check_command.specs.Lines.{IsExplained}
use Rattle.check_command.specs.Scripts.{AreWithoutDisks, GivesCheck, HasNoDisk, IsWithoutDisks}
use Rattle.check_command.specs.Verdicts.{IsVerdict, answer_of}
use Rattle.check_command.proofs.ScriptLemmas.{all-none, no-names, none-given, without-input}

some-same : (xs ys : List (List ℕ)) → map Some xs ≡ map Some ys → xs ≡ ys
some-same [] [] e = refl
some-same [] (y ∷ ys) e = cc e
some-same (x ∷ xs) [] e = cc e
some-same (x ∷ xs) (y ∷ ys) e =
    let head : x ≡ y = cc e in
    let rest : map Some xs ≡ map Some ys = cc e in
    let tail : xs ≡ ys = some-same xs ys rest in
    (λ k. head k ∷ tail k)

module _ (files : Files) (scores : List Sound) (check : Check) where
  one-given : (given other : Given) (written more : Written) → IsCase files scores check given written → IsCase files scores check other more → given ≡ other
  one-given given other written more a b =
      let scripts : b.script_bytes ≡ a.script_bytes = cc (a.script_is, b.script_is) in
      let captures : b.capture_bytes ≡ a.capture_bytes = cc (a.capture_is, b.capture_is) in
      one_input a.script_bytes a.capture_bytes [] scores check.play given other a.input
      (subst (λ (bytes : List ℕ). IsInput bytes a.capture_bytes [] scores check.play other) scripts (subst (λ (bytes : List ℕ). IsInput b.script_bytes bytes [] scores check.play other) captures b.input))

  one-written : (given other : Given) (written more : Written) → IsCase files scores check given written → IsCase files scores check other more → written ≡ more
  one-written given other written more a b =
      let playbacks : written.playback ≡ more.playback = cc (a.playback_is, b.playback_is) in
      let records : written.records ≡ more.records = some-same written.records more.records (sym a.records_are ∙ b.records_are) in
      let reports : written.report ≡ more.report = cc (a.report_is, b.report_is) in
      (λ k. record { playback = playbacks k; records = records k; report = reports k })

  -- what holds of one case holds of each
  pub case-of : (P : Given → Written → Type 0) → IfCase (Some files) scores check P → (given : Given) (written : Written) → IsCase files scores check given written → P given written
  case-of P has given written is =
      subst (λ (w : Written). P given w) (one-written has.0 given has.1 written has.2 is)
      (subst (λ (g : Given). P g has.1) (one-given has.0 given has.1 written has.2 is) has.3)

pub case-map : (files : Option Files) (scores : List Sound) (check : Check) (P Q : Given → Written → Type 0) → ((given : Given) (written : Written) → P given written → Q given written) → IfCase files scores check P → IfCase files scores check Q
case-map None scores check P Q f has = tt
case-map (Some files) scores check P Q f has = (has.0, has.1, has.2, f has.0 has.1 has.3)

-- the sources that were opened tell a case of the files
pub case-told : (files : Option Files) (scores : List Sound) (check : Check) (script : Script) (left : Option (List ℤ)) (report playback : Option (List ℕ)) (records : List (Option (List ℕ)))
    (P : Given → Written → Type 0) → GivesCheck files scores check.play script left → GivesWritten files check.report check.play report playback records
    → ((given : Given) (written : Written) → IsGivenCase script left scores report playback records given written → P given written) → IfCase files scores check P
case-told None scores check script left report playback records P gives tells f = tt
case-told (Some files) scores check script left report playback records P (script_bytes, script_is, (capture_bytes, capture_is, (given, input, of, samples))) tells f = (
  given,
  tells.written,
  record {
    script_bytes = script_bytes;
    capture_bytes = capture_bytes;
    script_is = script_is;
    capture_is = capture_is;
    input = input;
    report_is = tells.report_there;
    playback_is = tells.playback_there;
    records_are = tells.records_there;
  },
  f given tells.written (record {
    input = record { script_is = of; capture_is = samples; scores_are = input.scores_are; no_disks = (none-given given.script.header.rate given.script.header.disks given.disks input.disks).1 };
    report_is = tells.report_is;
    playback_is = tells.playback_is;
    records_are = tells.records_are;
  }),
)

-- what a play is given, and that it has no disk, is told by what was opened
input-told : (files : Option Files) (scores : List Sound) (play : Play) (script : Script) (left : Option (List ℤ)) → GivesCheck files scores play script left → IfInput files scores play
input-told files scores play script left =
    if_bytes_map files play.script (λ script_bytes. IfBytes files play.capture (Reads script_bytes)) (λ script_bytes. IfBytes files play.capture (Has script_bytes))
    (λ script_bytes. if_bytes_map files play.capture (Reads script_bytes) (Has script_bytes)
    (λ capture_bytes has. all-none files play.disks (Fits script_bytes capture_bytes) (no-names script_bytes capture_bytes scores play has.0 has.1) (has.0, has.1)))
  where
    Reads : List ℕ → List ℕ → Type 0
    Reads script_bytes capture_bytes = (given : Given) × IsInput script_bytes capture_bytes [] scores play given × (given.script ≡ script) × (left ≡ Some given.capture)

    Fits : List ℕ → List ℕ → List (List ℕ) → Type 0
    Fits script_bytes capture_bytes disk_bytes = (given : Given) × IsInput script_bytes capture_bytes disk_bytes scores play given

    Has : List ℕ → List ℕ → Type 0
    Has script_bytes capture_bytes = IfBytesAll files play.disks (Fits script_bytes capture_bytes)

without-of : (script_bytes capture_bytes : List ℕ) (scores : List Sound) (play : Play) (given : Given) → IsInput script_bytes capture_bytes [] scores play given → AreWithoutDisks script_bytes
without-of script_bytes capture_bytes scores play given input = λ other of.
    subst HasNoDisk (one_script (take 1048577 script_bytes) given.script other input.script of) (without-input script_bytes capture_bytes scores play given input)

without-told : (files : Option Files) (scores : List Sound) (play : Play) (script : Script) (left : Option (List ℤ)) → GivesCheck files scores play script left → IsWithoutDisks files play
without-told None scores play script left gives = tt
without-told (Some files) scores play script left (script_bytes, script_is, (capture_bytes, capture_is, (given, input, of, samples))) = (script_bytes, script_is, without-of script_bytes capture_bytes scores play given input)

pub without-named : (files : Option Files) (scores : List Sound) (check : Check) (play : Play) (script : Script) (left : Option (List ℤ)) → play ≡ check.play → GivesCheck files scores play script left → IsWithoutDisks files check.play
without-named files scores check play script left are gives = subst (λ (p : Play). IsWithoutDisks files p) are (without-told files scores play script left gives)

pub input-named : (files : Option Files) (scores : List Sound) (check : Check) (play : Play) (script : Script) (left : Option (List ℤ)) → play ≡ check.play → GivesCheck files scores play script left → IfInput files scores check.play
input-named files scores check play script left are gives = subst (λ (p : Play). IfInput files scores p) are (input-told files scores play script left gives)

pub gives-named : (files : Option Files) (scores : List Sound) (check : Check) (play : Play) (script : Script) (left : Option (List ℤ)) → play ≡ check.play → GivesCheck files scores play script left
    → GivesCheck files scores check.play script left
gives-named files scores check play script left are gives = subst (λ (p : Play). GivesCheck files scores p script left) are gives

-- and is there where a case is
pub input-of : (files : Option Files) (scores : List Sound) (check : Check) → HasCase files scores check → HasInput files scores check.play
input-of None scores check has = has
input-of (Some files) scores check has =
    let is = has.2 in (
      is.script_bytes,
      is.script_is,
      (
        is.capture_bytes,
        is.capture_is,
        all-none (Some files) check.play.disks (λ disk_bytes. (given : Given) × IsInput is.script_bytes is.capture_bytes disk_bytes scores check.play given)
            (no-names is.script_bytes is.capture_bytes scores check.play has.0 is.input) (has.0, is.input),
      ),
    )

-- its script has no disk
pub case-without : (files : Files) (scores : List Sound) (check : Check) → HasCase (Some files) scores check → IsWithoutDisks (Some files) check.play
case-without files scores check has = (has.2.script_bytes, has.2.script_is, without-of has.2.script_bytes has.2.capture_bytes scores check.play has.0 has.2.input)

pub has-case : (files : Files) (scores : List Sound) (check : Check) (P : Given → Written → Type 0) → IfCase (Some files) scores check P → HasCase (Some files) scores check
has-case files scores check P has = (has.0, has.1, has.2)

-- each of these names has bytes
all-there : (files : Files) (names all : List (List ℕ)) → map (bytes_under files) names ≡ map Some all → (name : List ℕ) → Contains names name → IsThere (Some files) name
all-there files [] all e name (k, within, is) = absurd (omega (arith, within))
all-there files (own ∷ names) [] e name (k, within, is) = cc e
all-there files (own ∷ names) (bytes ∷ all) e name (zero, within, is) = let here : bytes_under files own ≡ Some bytes = cc e in subst (λ (n : List ℕ). IsThere (Some files) n) is (ap is_some here)
all-there files (own ∷ names) (bytes ∷ all) e name (suc k, within, is) = let rest : map (bytes_under files) names ≡ map Some all = cc e in all-there files names all rest name (k, omega (arith, within), is)

pub there-none : (files : Option Files) (scores : List Sound) (check : Check) → HasCase files scores check → LacksOne files (checked_names check) → ⊥
there-none None scores check has lacks = has
there-none (Some files) scores check has (name, among, none) =
    let written : Written = has.1 in
    let report = has.2.report_is in
    let playback = has.2.playback_is in
    let records = has.2.records_are in
    none (all-there files (checked_names check) (written.report ∷ written.playback ∷ written.records) (λ k. report k ∷ playback k ∷ records k) name among)

-- ---- the verdict

pub read-of : (verdict : Result Verdict CheckFault) (result : Result Verdict Status) → result ≡ answer_of verdict → result ≡ Err ReadFault → verdict ≡ Err Read
read-of (Ok verdict) result is e = absurd (cc (is, e))
read-of (Err Read) result is e = refl
read-of (Err Memory) result is e = absurd (cc (is, e))

pub kept-of : (verdict : Result Verdict CheckFault) (result : Result Verdict Status) (a b n : ℕ) → result ≡ answer_of verdict → OnOk verdict (n ≡ b) → b ≡ a → OnOk result (n ≡ a)
kept-of verdict result a b n is same kept = subst (λ (r : Result Verdict Status). OnOk r (n ≡ a)) (sym is) (go verdict same)
  where
    go : (v : Result Verdict CheckFault) → OnOk v (n ≡ b) → OnOk (answer_of v) (n ≡ a)
    go (Ok v) same = same ∙ kept
    go (Err Read) same = tt
    go (Err Memory) same = tt

module _ (files : Option Files) (scores : List Sound) (check : Check) (script : Script) (left : Option (List ℤ)) (report playback : Option (List ℕ)) (records : List (Option (List ℕ)))
    (gives : GivesCheck files scores check.play script left) (tells : GivesWritten files check.report check.play report playback records) where
  abbrev Case : Given → Written → Type 0
  Case given written = IsGivenCase script left scores report playback records given written

  pub verdict-told : (verdict : Result Verdict CheckFault) (result : Result Verdict Status)
      → ((given : Given) (written : Written) → Case given written → verdict ≡ Ok IsRight → IsExplained given written)
      → ((given : Given) (written : Written) → Case given written → (row : Row) (sight : Sight) → verdict ≡ Ok (IsWrong row sight) → IsFirstWrong given written row)
      → result ≡ answer_of verdict → IfOk result (λ (v : Verdict). IfCase files scores check (IsVerdict v))
  verdict-told verdict result right wrong is = subst (λ (r : Result Verdict Status). IfOk r (λ (v : Verdict). IfCase files scores check (IsVerdict v))) (sym is) (go verdict right wrong)
    where
      go : (v : Result Verdict CheckFault)
          → ((given : Given) (written : Written) → Case given written → v ≡ Ok IsRight → IsExplained given written)
          → ((given : Given) (written : Written) → Case given written → (row : Row) (sight : Sight) → v ≡ Ok (IsWrong row sight) → IsFirstWrong given written row)
          → IfOk (answer_of v) (λ (w : Verdict). IfCase files scores check (IsVerdict w))
      go (Ok IsRight) right wrong = case-told files scores check script left report playback records (IsVerdict IsRight) gives tells (λ given written case. right given written case refl)
      go (Ok (IsWrong row sight)) right wrong =
          case-told files scores check script left report playback records (IsVerdict (IsWrong row sight)) gives tells (λ given written case. wrong given written case row sight refl)
      go (Err Read) right wrong = tt
      go (Err Memory) right wrong = tt
