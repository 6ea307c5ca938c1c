-- The answer of a check: by a verdict that was put, or by what ended it before there was one.
--     IsPut verdict result same rose      the line was put, or the sink's count rose
--     put-explained .. put-writes      what that says of the status
--     early-fault .. early-exact      and what a status without a verdict says
use Rattle.std.proofs.Common.{◌≡◌, ◌≢◌, ◌∙◌, ◌⊎◌, ℕ, List, Some, None, inl, inr, ap, refl, subst, sym, take}
use Rattle.std.specs.Prelude.{⊤, Option}
use Rattle.check_sights.specs.declared.sights.Sight.{Sight}
use Rattle.jack_types.specs.declared.replies.Row.{Row}
use Rattle.jack_types.specs.declared.scripts.ScriptFault.{ScriptFault}
use Rattle.jack_host.specs.Bytes.{Gains}
use Rattle.check_model.specs.Checking.{IsFirstWrong}
use Rattle.session_model.specs.Explanations.{Explained, Given, Printed, Written}
use Rattle.session_model.specs.Grammar.{IsScript}
use Rattle.session_model.specs.Kinds.{Sound}
use Rattle.session_check.specs.declared.verdict.Verdict.{Verdict}
use Rattle.session_check.specs.declared.verdict.Verdict.TheVariants.{Explained as IsRight, Wrong as IsWrong}
use Rattle.play_words.specs.Checks.{Check}
use Rattle.play_words.specs.Words.{Play}
use Rattle.play_inputs.specs.declared.status.Status.{Status}
use Rattle.play_inputs.specs.declared.status.Status.TheVariants.{Ok, NoMemory, Words, ReadFault, BadWave, BadScript, WriteFault, Differs, Wrong}
use Rattle.play_inputs.specs.Answers.{HasLine, HasOwnFault, HasRefusal, IfInput, IsDoneOrNoMemory, LacksInput, PlayStatus}
use Rattle.play_inputs.specs.Inputs.{Files, IfBytes}
use Rattle.play_inputs.proofs.ExactLemmas.{complete-err, exact-err, input-fits, refused-fits}
use Rattle.check_command.specs.Answers.{CheckStatus, HasCheckRefusal, IsDecided, IsVerdictCut, IsWrongAt, PutsVerdict}
use Rattle.check_command.specs.Cases.{HasCase, IfCase, IsCase, LacksCase, LacksOne, OfCase, checked_names}
use Rattle.check_command.specs.Lines.{IsExplained, IsVerdictLine}
use Rattle.check_command.specs.Scripts.{CheckOpening, IsRefusedScript, IsUndecided, IsWithoutDisks, LacksPlay}
use Rattle.check_command.specs.Verdicts.{IsVerdict, line_of, status_of}
use Rattle.check_command.proofs.CaseLemmas.{case-map, case-of, case-without, has-case, input-of, there-none}
use Rattle.check_command.proofs.ScriptLemmas.{undecided-or, undecided-same, without-good}

-- ---- a verdict was put

abbrev pub IsPut : Verdict → Status → Type 0 → Type 0 → Type 0
IsPut verdict result same rose = ((result ≡ status_of verdict) × same) ⊎ ((result ≡ WriteFault) × rose)

-- Ok, a wrong part, or a line that could not be put whole
abbrev pub IsAnswer : Status → Type 0
IsAnswer Ok = ⊤
IsAnswer NoMemory = ⊥
IsAnswer Words = ⊥
IsAnswer ReadFault = ⊥
IsAnswer (BadWave fault) = ⊥
IsAnswer (BadScript fault) = ⊥
IsAnswer WriteFault = ⊤
IsAnswer (Differs difference) = ⊥
IsAnswer (Wrong row sight) = ⊤

pub put-answer : (verdict : Verdict) (result : Status) (same rose : Type 0) → IsPut verdict result same rose → IsAnswer result
put-answer verdict result same rose (inr put) = subst IsAnswer (sym put.0) tt
put-answer IsRight result same rose (inl put) = subst IsAnswer (sym put.0) tt
put-answer (IsWrong row sight) result same rose (inl put) = subst IsAnswer (sym put.0) tt

answer-own : (status : Status) → IsAnswer status → HasOwnFault status
answer-own Ok is = tt
answer-own NoMemory is = tt
answer-own Words is = tt
answer-own ReadFault is = tt
answer-own (BadWave fault) is = absurd is
answer-own (BadScript fault) is = absurd is
answer-own WriteFault is = tt
answer-own (Differs difference) is = tt
answer-own (Wrong row sight) is = tt

answer-line : (status : Status) → IsAnswer status → HasLine status → ⊥
answer-line Ok is line = line
answer-line NoMemory is line = line
answer-line Words is line = is
answer-line ReadFault is line = is
answer-line (BadWave fault) is line = is
answer-line (BadScript fault) is line = is
answer-line WriteFault is line = line
answer-line (Differs difference) is line = is
answer-line (Wrong row sight) is line = line

pub put-own : (verdict : Verdict) (result : Status) (same rose : Type 0) → IsPut verdict result same rose → HasOwnFault result
put-own verdict result same rose put = answer-own result (put-answer verdict result same rose put)

pub put-line : (verdict : Verdict) (result : Status) (same rose : Type 0) → IsPut verdict result same rose → HasLine result → ⊥
put-line verdict result same rose put = answer-line result (put-answer verdict result same rose put)

pub put-never : (verdict : Verdict) (result other : Status) (same rose : Type 0) → IsPut verdict result same rose → result ≡ other → IsAnswer other
put-never verdict result other same rose put e = subst IsAnswer e (put-answer verdict result same rose put)

pub put-puts : (verdict : Verdict) (result : Status) (same rose : Type 0) → IsPut verdict result same rose → result ≡ Ok → same
put-puts verdict result same rose (inl put) e = put.1
put-puts verdict result same rose (inr put) e = absurd (cc (put.0, e))

pub put-writes : (verdict : Verdict) (result : Status) (same rose : Type 0) → IsPut verdict result same rose → result ≡ WriteFault → rose
put-writes verdict result same rose (inr put) e = put.1
put-writes IsRight result same rose (inl put) e = absurd (cc (put.0, e))
put-writes (IsWrong row sight) result same rose (inl put) e = absurd (cc (put.0, e))

pub put-decided : (verdict : Verdict) (result : Status) (same rose : Type 0) → IsPut verdict result same rose → ¬ rose → IsDecided result
put-decided verdict result same rose (inr put) none = absurd (none put.1)
put-decided IsRight result same rose (inl put) none = subst IsDecided (sym put.0) tt
put-decided (IsWrong row sight) result same rose (inl put) none = subst IsDecided (sym put.0) tt

-- nothing explains what has a first wrong part, and it has one
abbrev pub Unexplained : Type 0
Unexplained = (given : Given) → IsScript given.script → (printed : Printed) (written : Written) (row : Row) → IsFirstWrong given written row → Explained given printed written → ⊥

abbrev pub OneWrong : Type 0
OneWrong = (given : Given) → IsScript given.script → (written : Written) (one two : Row) → IsFirstWrong given written one → IsFirstWrong given written two → one ≡ two

module _ (given : Given) (written : Written) (lawful : IsScript given.script) (law : Unexplained) where
  done : (verdict : Verdict) (result : Status) (same rose : Type 0) → IsPut verdict result same rose → ¬ rose → IsVerdict verdict given written → IsExplained given written → IsDoneOrNoMemory result
  done verdict result same rose (inr put) none is explained = absurd (none put.1)
  done IsRight result same rose (inl put) none is explained = inl put.0
  done (IsWrong row sight) result same rose (inl put) none is explained = absurd (law given lawful explained.0 written row is explained.1)

  named : (one : OneWrong) (verdict : Verdict) (result : Status) (same rose : Type 0) → IsPut verdict result same rose → ¬ rose → IsVerdict verdict given written → (row : Row) → IsFirstWrong given written row
      → IsWrongAt row result ⊎ (result ≡ NoMemory)
  named one verdict result same rose (inr put) none is row first = absurd (none put.1)
  named one IsRight result same rose (inl put) none is row first = absurd (law given lawful is.0 written row first is.1)
  named one (IsWrong row sight) result same rose (inl put) none is other first =
      inl (sight, put.0 ∙ ap (λ r. Wrong r sight) (one given lawful written row other is first))

module _ (scores : List Sound) (check : Check) where
  pub put-explained : (files : Option Files) (verdict : Verdict) (result : Status) (same rose : Type 0) → IfCase files scores check (IsVerdict verdict) → IsPut verdict result same rose → result ≡ Ok
      → IfCase files scores check IsExplained
  put-explained files IsRight result same rose told put e = told
  put-explained files (IsWrong row sight) result same rose told (inl put) e = absurd (cc (put.0, e))
  put-explained files (IsWrong row sight) result same rose told (inr put) e = absurd (cc (put.0, e))

  pub put-wrong : (files : Option Files) (verdict : Verdict) (result : Status) (same rose : Type 0) → IfCase files scores check (IsVerdict verdict) → IsPut verdict result same rose → (row : Row) (sight : Sight)
      → result ≡ Wrong row sight → IfCase files scores check (λ given written. IsFirstWrong given written row)
  put-wrong files verdict result same rose told (inr put) row sight e = absurd (cc (put.0, e))
  put-wrong files IsRight result same rose told (inl put) row sight e = absurd (cc (put.0, e))
  put-wrong files (IsWrong own seen) result same rose told (inl put) row sight e =
      let is : own ≡ row = cc (put.0, e) in
      subst (λ (r : Row). IfCase files scores check (λ given written. IsFirstWrong given written r)) is told

  pub put-fault : (files : Option Files) (verdict : Verdict) (result : Status) (same rose : Type 0) → IfCase files scores check (IsVerdict verdict) → IsPut verdict result same rose → result ≢ Ok
      → CheckStatus files scores check result
  put-fault files verdict result same rose told (inr put) not = subst (CheckStatus files scores check) (sym put.0) tt
  put-fault files IsRight result same rose told (inl put) not = absurd (not put.0)
  put-fault files (IsWrong row sight) result same rose told (inl put) not = subst (CheckStatus files scores check) (sym put.0) told

  pub put-decides : (files : Option Files) (verdict : Verdict) (result : Status) (same rose read : Type 0) → Unexplained → IfCase files scores check (IsVerdict verdict) → IsPut verdict result same rose
      → OfCase files scores check (λ given written. IsExplained given written → ¬ read → ¬ rose → IsDoneOrNoMemory result)
  put-decides None verdict result same rose read law told put = tt
  put-decides (Some files) verdict result same rose read law told put = λ given written is explained no_read no_put.
      done given written is.input.script.1 law verdict result same rose put no_put (case-of files scores check (IsVerdict verdict) told given written is) explained

  pub put-names : (files : Option Files) (verdict : Verdict) (result : Status) (same rose read : Type 0) → Unexplained → OneWrong → IfCase files scores check (IsVerdict verdict) → IsPut verdict result same rose
      → OfCase files scores check (λ given written. (row : Row) → IsFirstWrong given written row → ¬ read → ¬ rose → IsWrongAt row result ⊎ (result ≡ NoMemory))
  put-names None verdict result same rose read law one told put = tt
  put-names (Some files) verdict result same rose read law one told put = λ given written is row first no_read no_put.
      named given written is.input.script.1 law one verdict result same rose put no_put (case-of files scores check (IsVerdict verdict) told given written is) row first

  pub put-exact : (files : Option Files) (verdict : Verdict) (status : Status) → IfCase files scores check (IsVerdict verdict) → HasCheckRefusal files scores check status → ⊥
  put-exact None verdict status told refused = refused
  put-exact (Some files) verdict status told (inl refused) =
      refused-fits files scores check.play status refused.0 (input-fits files scores check.play (input-of (Some files) scores check (has-case files scores check (IsVerdict verdict) told)))
  put-exact (Some files) verdict status told (inr (fault, e, undecided)) = undecided-or files check.play fault undecided (case-without files scores check (has-case files scores check (IsVerdict verdict) told))

  line-is : (verdict : Verdict) (given : Given) (written : Written) → IsVerdict verdict given written → IsVerdictLine given written (line_of verdict)
  line-is IsRight given written is = inl (is, refl)
  line-is (IsWrong row sight) given written is = inr (row, is, refl)

  pub put-cut : (files : Option Files) (verdict : Verdict) (out out_after : Option (List ℕ)) → IfCase files scores check (IsVerdict verdict) → (k : ℕ) × Gains out out_after (take k (line_of verdict))
      → IsVerdictCut files scores check out out_after
  put-cut files verdict out out_after told cut =
      case-map files scores check (IsVerdict verdict) (λ given written. (line : List ℕ) × IsVerdictLine given written line × ((k : ℕ) × Gains out out_after (take k line)))
      (λ given written is. (line_of verdict, line-is verdict given written is, cut)) told

-- ---- there was none

module _ (scores : List Sound) (check : Check) where
  pub early-fault : (files : Option Files) (status : Status) → CheckOpening files scores check.play status → CheckStatus files scores check status
  early-fault files Ok is = is
  early-fault files NoMemory is = tt
  early-fault files Words is = is
  early-fault files ReadFault is = tt
  early-fault files (BadWave fault) is = is
  early-fault files (BadScript fault) is = is
  early-fault files WriteFault is = tt
  early-fault files (Differs difference) is = is
  early-fault files (Wrong row sight) is = absurd is

  early-play : (files : Option Files) (status : Status) → IsWithoutDisks files check.play → CheckOpening files scores check.play status → PlayStatus files scores check.play status
  early-play files Ok without is = is
  early-play files NoMemory without is = tt
  early-play files Words without is = is
  early-play files ReadFault without is = tt
  early-play files (BadWave fault) without is = is.1
  early-play files (BadScript fault) without is = without-good files check.play fault without is
  early-play files WriteFault without is = absurd is
  early-play files (Differs difference) without is = is.1
  early-play files (Wrong row sight) without is = is

  pub early-never : (files : Option Files) (status other : Status) → CheckOpening files scores check.play status → status ≡ other → CheckOpening files scores check.play other
  early-never files status other is e = subst (CheckOpening files scores check.play) e is

  pub early-verdict : (files : Option Files) (status : Status) (out out_after : Option (List ℕ)) → CheckOpening files scores check.play status → PutsVerdict out out_after status
  early-verdict files Ok out out_after is = absurd is
  early-verdict files NoMemory out out_after is = tt
  early-verdict files Words out out_after is = tt
  early-verdict files ReadFault out out_after is = tt
  early-verdict files (BadWave fault) out out_after is = tt
  early-verdict files (BadScript fault) out out_after is = tt
  early-verdict files WriteFault out out_after is = tt
  early-verdict files (Differs difference) out out_after is = tt
  early-verdict files (Wrong row sight) out out_after is = absurd is

  -- the play lacks what the check lacks, but for what is compared
  play-lacks : (files : Option Files) → LacksPlay files scores check.play → LacksInput files scores check.play
  play-lacks files (inl none) = inl none
  play-lacks files (inr lacks) = lacks.1

  -- with a case, and no read that failed, it is want of memory
  early-memory : (files : Option Files) (status : Status) (read : Type 0) → HasCase files scores check → CheckOpening files scores check.play status → (status ≡ ReadFault → read ⊎ LacksCase files scores check) → ¬ read
      → status ≡ NoMemory
  early-memory None status read has is why none = absurd has
  early-memory (Some files) status read has is why none =
      only (complete-err (Some files) scores check.play status (read ⊎ LacksOne (Some files) (checked_names check)) ⊥ ⊥ (input-of (Some files) scores check has)
      (early-play (Some files) status (case-without files scores check has) is)
      (λ e. or (why e)) (λ e. absurd (early-never (Some files) status WriteFault is e)) no_read (λ no. no) (λ no. no))
    where
      or : read ⊎ LacksCase (Some files) scores check → (read ⊎ LacksOne (Some files) (checked_names check)) ⊎ LacksInput (Some files) scores check.play
      or (inl rose) = inl (inl rose)
      or (inr (inl lacks)) = inr (play-lacks (Some files) lacks)
      or (inr (inr lacks)) = inl (inr lacks.1)

      no_read : read ⊎ LacksOne (Some files) (checked_names check) → ⊥
      no_read (inl rose) = none rose
      no_read (inr lacks) = there-none (Some files) scores check has lacks

      only : (status ≡ Ok) ⊎ (status ≡ NoMemory) → status ≡ NoMemory
      only (inl e) = absurd (early-never (Some files) status Ok is e)
      only (inr e) = e

  pub early-decided : (files : Option Files) (status : Status) (read : Type 0) → CheckOpening files scores check.play status → (status ≡ ReadFault → read ⊎ LacksCase files scores check)
      → HasCase files scores check → ¬ read → IsDecided status
  early-decided files status read is why has none = subst IsDecided (sym (early-memory files status read has is why none)) tt

  pub early-decides : (files : Option Files) (status : Status) (read rose : Type 0) → CheckOpening files scores check.play status → (status ≡ ReadFault → read ⊎ LacksCase files scores check)
      → OfCase files scores check (λ given written. IsExplained given written → ¬ read → ¬ rose → IsDoneOrNoMemory status)
  early-decides None status read rose is why = tt
  early-decides (Some files) status read rose is why = λ given written case explained no_read no_put. inr (early-memory (Some files) status read (given, written, case) is why no_read)

  pub early-names : (files : Option Files) (status : Status) (read rose : Type 0) → CheckOpening files scores check.play status → (status ≡ ReadFault → read ⊎ LacksCase files scores check)
      → OfCase files scores check (λ given written. (row : Row) → IsFirstWrong given written row → ¬ read → ¬ rose → IsWrongAt row status ⊎ (status ≡ NoMemory))
  early-names None status read rose is why = tt
  early-names (Some files) status read rose is why = λ given written case row first no_read no_put. inr (early-memory (Some files) status read (given, written, case) is why no_read)

  -- a script with a disk is refused by its fault
  undecided-exact : (files : Files) (fault : ScriptFault) (status : Status) (read : Type 0) → CheckOpening (Some files) scores check.play status → (status ≡ ReadFault → read ⊎ LacksCase (Some files) scores check)
      → IfBytes (Some files) check.play.script (λ bytes. IsUndecided bytes fault) → ¬ read → (status ≡ BadScript fault) ⊎ (status ≡ NoMemory)
  undecided-exact files fault Ok read is why has none = absurd is
  undecided-exact files fault NoMemory read is why has none = inr refl
  undecided-exact files fault Words read is why has none = absurd is
  undecided-exact files fault ReadFault read is why has none = absurd (or (why refl))
    where
      or : read ⊎ LacksCase (Some files) scores check → ⊥
      or (inl rose) = none rose
      or (inr (inl (inl missing))) = missing (rw has.1 refl)
      or (inr (inl (inr lacks))) = undecided-or files check.play fault has lacks.0
      or (inr (inr lacks)) = undecided-or files check.play fault has lacks.0.0
  undecided-exact files fault (BadWave bad) read is why has none = absurd (undecided-or files check.play fault has is.0)
  undecided-exact files fault (BadScript other) read is why has none = inl (ap BadScript (undecided-same files check.play fault other has is))
  undecided-exact files fault WriteFault read is why has none = absurd is
  undecided-exact files fault (Differs difference) read is why has none = absurd (undecided-or files check.play fault has is.0)
  undecided-exact files fault (Wrong row sight) read is why has none = absurd is

  pub early-exact : (files : Option Files) (fault status : Status) (read : Type 0) → CheckOpening files scores check.play status → (status ≡ ReadFault → read ⊎ LacksCase files scores check)
      → HasCheckRefusal files scores check fault → ¬ read → (status ≡ fault) ⊎ (status ≡ NoMemory)
  early-exact None fault status read is why refused none = absurd refused
  early-exact (Some files) fault status read is why (inr (told, e, has)) none =
      subst (λ (s : Status). (status ≡ s) ⊎ (status ≡ NoMemory)) (sym e) (undecided-exact files told status read is why has none)
  early-exact (Some files) fault status read is why (inl (refused, without)) none =
      exact-err (Some files) scores check.play fault status (read ⊎ IfInput (Some files) scores check.play) refused (early-play (Some files) status without is) (λ e. or (why e))
      (λ e. absurd (early-never (Some files) status WriteFault is e)) no_read
    where
      or : read ⊎ LacksCase (Some files) scores check → (read ⊎ IfInput (Some files) scores check.play) ⊎ LacksInput (Some files) scores check.play
      or (inl rose) = inl (inl rose)
      or (inr (inl lacks)) = inr (play-lacks (Some files) lacks)
      or (inr (inr lacks)) = inl (inr lacks.0.1)

      no_read : read ⊎ IfInput (Some files) scores check.play → ⊥
      no_read (inl rose) = none rose
      no_read (inr input) = refused-fits files scores check.play fault refused (input-fits files scores check.play input)
