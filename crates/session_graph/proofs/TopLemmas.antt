-- What is put out, and where each fault comes, by what was read of the script and the report.
--     front-fault, replay-fault-at      of the report's lines, and of its calls
--     shown      the text
--     lacks-report      a report that was not read behind a script that was
--     own-script, own-front, own-replay      what a fault of each step tells
--     put-shown, put-cut, has-fault      what the command answers
--     exact-shown, exact-fault, complete-fault      the same beside what the files have
use Rattle.std.proofs.Common.{◌≡◌, ◌≢◌, ◌≤◌, ℕ, List, Option, take, inl, inr, length, refl, ap, subst, sym}
use Rattle.std.specs.Prelude.{◌⊎◌, IfErr, IsOk, OnErr, OnOk, Result, Ok, Err}
use Rattle.jack_types.specs.declared.replies.Part.{Part}
use Rattle.jack_types.specs.declared.replies.Part.TheVariants.{Report as InReport, Call as InCall, Cycle as InCycle}
use Rattle.jack_host.specs.Bytes.{Gains}
use Rattle.jack_host.specs.Causes.{HasCause, Rose}
use Rattle.jack_host.specs.Files.{IsThere, SameFiles}
use Rattle.session_model.specs.Grammar.{Spells}
use Rattle.session_model.specs.Scripts.{Script, turns}
use Rattle.session_model.specs.State.{State}
use Rattle.report_reader.specs.declared.rows.CallLine.{CallLine}
use Rattle.report_reader.specs.declared.rows.CycleLine.{CycleLine}
use Rattle.session_graph.specs.Askings.{Asking, IsGraph}
use Rattle.session_graph.specs.Faults.{IsOwnFault, IsOwnPart}
use Rattle.session_graph.specs.Files.{Files, IfBoth, IfBytes, IsOfScript}
use Rattle.session_graph.specs.Fronts.{IsBroken, IsFront}
use Rattle.session_graph.specs.Graphs.{HasCycle, HasFault, HasGraph, HasRefusal, IsCut, IsFaultOf, IsPut, IsShown, IsTextOf, IsWrongRow, LacksFile}
use Rattle.session_graph.specs.Readings.{IsOfFront}
use Rattle.session_graph.specs.Replays.{IsOfReplay}
use Rattle.session_graph.specs.Told.{IsOfRow, IsUsed}
use Rattle.session_graph.specs.declared.faults.GraphFault.{GraphFault}
use Rattle.session_graph.specs.declared.faults.GraphFault.TheVariants.{NoMemory, Words, ReadFault, BadScript, WriteFault, Wrong}
use Rattle.session_graph.proofs.ExactLemmas.{asking-one, complete-at, exact-at, shown-exact}
use Rattle.session_graph.proofs.FileLemmas.{err, if_bytes_before, if_bytes_map, there_after}

module _ (files after : Option Files) (same : SameFiles files after) (asking : Asking) (script : Script) (spelled : IfBytes files asking.script (λ bytes. Spells (take 1048577 bytes) script))
    (within : asking.cycle ≤ length (turns script)) where
  both : (P : List ℕ → Type 0) (R : List ℕ → List ℕ → Type 0) → ((s r : List ℕ) → Spells s script → P r → R s r) → IfBytes after asking.report P → IfBoth files asking R
  both P R f h =
      if_bytes_map files asking.script (λ s. Spells (take 1048577 s) script) (λ s. IfBytes files asking.report (λ r. R (take 1048577 s) r))
      (λ s sp. if_bytes_map files asking.report P (λ r. R (take 1048577 s) r) (λ r p. f (take 1048577 s) r sp p) (if_bytes_before files after asking.report P same h)) spelled

  pub front-fault : (fault : GraphFault) → IsOfFront after asking script fault → HasFault files asking fault
  front-fault NoMemory h = tt
  front-fault Words h = absurd h
  front-fault ReadFault h = tt
  front-fault (BadScript fault) h = absurd h
  front-fault WriteFault h = absurd h
  front-fault (Wrong row) h =
      both (λ r. IsBroken script r asking.cycle row.number) (λ s r. IsWrongRow s r asking.cycle row) (λ s r sp b. record { script = script; spelled = sp; within = within; place = h.1; wrong = inl (h.0, b) }) h.2

  pub lacks-report : (before between now : ℕ) → between ≡ before → Rose between now ⊎ (IsThere after asking.report → ⊥) → Rose before now ⊎ LacksFile files asking
  lacks-report before between now kept (inl rose) = inl (subst (λ (n : ℕ). Rose n now) kept rose)
  lacks-report before between now kept (inr none) =
      inr (inr (
        if_bytes_map files asking.script (λ bytes. Spells (take 1048577 bytes) script) (λ bytes. HasCycle (take 1048577 bytes) asking.cycle) (λ bytes sp. record { script = script; spelled = sp; within = within }) spelled,
        λ there. none (there_after files after asking.report same there),
      ))

  module _ (calls : List CallLine) (line : CycleLine) (is : line.cycle ≡ asking.cycle) (front : IfBytes after asking.report (λ r. IsFront script r calls line)) where
    replay-fault : (fault : GraphFault) → IsOfReplay script calls line.number asking.cycle fault → HasFault files asking fault
    replay-fault NoMemory h = tt
    replay-fault Words h = absurd h
    replay-fault ReadFault h = absurd h
    replay-fault (BadScript fault) h = absurd h
    replay-fault WriteFault h = absurd h
    replay-fault (Wrong row) h =
        both (λ r. IsFront script r calls line) (λ s r. IsWrongRow s r asking.cycle row)
        (λ s r sp fr. record { script = script; spelled = sp; within = within; place = h.0; wrong = inr (record { calls = calls; line = line; cycle_is = is; front = fr; wrong = h.1 }) }) front

    pub replay-fault-at : (fault : GraphFault) (lines : List CallLine) (cycle : ℕ) → lines ≡ calls → cycle ≡ asking.cycle → IsOfReplay script lines line.number cycle fault → HasFault files asking fault
    replay-fault-at fault lines cycle e d h =
        replay-fault fault (subst (λ (n : ℕ). IsOfReplay script calls line.number n fault) d (subst (λ (ls : List CallLine). IsOfReplay script ls line.number cycle fault) e h))

    pub shown : (state : State) (text : List ℕ) → IsUsed script calls line.number state → IsTextOf asking.dot line state text → IfBoth files asking (λ s r. IsShown asking s r text)
    shown state text used so =
        both (λ r. IsFront script r calls line) (λ s r. IsShown asking s r text)
        (λ s r sp fr. record { script = script; spelled = sp; calls = calls; cycle = line; cycle_is = is; front = fr; state = state; used = used; text_is = so }) front

-- ---- what a fault tells, whatever the host tells

pub own-script : (files : Option Files) (name : List ℕ) (fault : GraphFault) → IsOfScript files name fault → IsOwnFault fault
own-script files name NoMemory h = tt
own-script files name Words h = tt
own-script files name ReadFault h = tt
own-script files name (BadScript fault) h = h.0
own-script files name WriteFault h = tt
own-script files name (Wrong row) h = absurd h

pub own-front : (files : Option Files) (asking : Asking) (script : Script) (fault : GraphFault) → IsOfFront files asking script fault → IsOwnFault fault
own-front files asking script NoMemory h = tt
own-front files asking script Words h = tt
own-front files asking script ReadFault h = tt
own-front files asking script (BadScript fault) h = absurd h
own-front files asking script WriteFault h = tt
own-front files asking script (Wrong row) h = (subst IsOwnPart (sym h.0) tt, h.1)

pub own-replay : (script : Script) (calls : List CallLine) (number cycle : ℕ) (fault : GraphFault) → IsOfReplay script calls number cycle fault → IsOwnFault fault
own-replay script calls number cycle NoMemory h = tt
own-replay script calls number cycle Words h = tt
own-replay script calls number cycle ReadFault h = tt
own-replay script calls number cycle (BadScript fault) h = absurd h
own-replay script calls number cycle WriteFault h = tt
own-replay script calls number cycle (Wrong row) h = (part row.what h.1, h.0)
  where
    part : (what : Part) → IsOfRow script calls number cycle row what → IsOwnPart what
    part InReport h = tt
    part InCall h = tt
    part InCycle h = tt
    part _ h = h

-- ---- what the command answers, by how its text was put

module _ {T : Type 0} (r : Result T GraphFault) where
  pub only-write : (P : GraphFault → Type 0) → IfErr r (λ fault. fault ≡ WriteFault) → IfErr r (λ fault. fault ≢ WriteFault → P fault)
  only-write P h = go r h
    where
      go : (s : Result T GraphFault) → IfErr s (λ fault. fault ≡ WriteFault) → IfErr s (λ fault. fault ≢ WriteFault → P fault)
      go (Ok x) h = tt
      go (Err fault) h = λ other. absurd (other h)

  pub no-read : IfErr r (λ fault. fault ≡ WriteFault) → r ≡ Err ReadFault → ⊥
  no-read h e = go (subst (λ s. IfErr s (λ fault. fault ≡ WriteFault)) e h)
    where
      go : ReadFault ≡ WriteFault → ⊥
      go w = cc

  pub at-err : (P : Type 0) (fault : GraphFault) → OnErr r P → r ≡ Err fault → P
  at-err P fault h e = subst (λ s. OnErr s P) e h

pub put-shown : {T : Type 0} (r : Result T GraphFault) (files : Option Files) (words : List (List ℕ)) (out after : Option (List ℕ)) (asking : Asking) (text : List ℕ) → IsGraph words asking
    → IfBoth files asking (λ s t. IsShown asking s t text) → OnOk r (Gains out after text) → OnOk r ((asked : Asking) × IsGraph words asked × IsPut files out after asked)
put-shown (Ok x) files words out after asking text is both h = (asking, is, (text, h, both))
put-shown (Err fault) files words out after asking text is both h = tt

pub put-cut : (files : Option Files) (words : List (List ℕ)) (out after : Option (List ℕ)) (asking : Asking) (text : List ℕ) → IsGraph words asking → IfBoth files asking (λ s t. IsShown asking s t text)
    → (k : ℕ) × (k ≤ length text) × Gains out after (take k text) → (asked : Asking) × IsGraph words asked × IsCut files out after asked
put-cut files words out after asking text is both h = (asking, is, (text, h.0, h.1, h.2, both))

pub has-fault : (files : Option Files) (words : List (List ℕ)) (asking : Asking) (fault : GraphFault) → IsGraph words asking → HasFault files asking fault → IsFaultOf files words fault
has-fault files words asking fault is h = inl (asking, is, h)

-- what is answered where the words ask for a graph, beside what the files have
module _ (files : Option Files) (words : List (List ℕ)) (asked asking : Asking) (one : IsGraph words asked) (two : IsGraph words asking) where
  same-asking : asked ≡ asking
  same-asking = asking-one words asked asking one two

  pub exact-shown : (fault : GraphFault) (text : List ℕ) → IfBoth files asked (λ s r. IsShown asked s r text) → HasRefusal files asking fault → ⊥
  exact-shown fault text shown = shown-exact files asking fault text (subst (λ (a : Asking). IfBoth files a (λ s r. IsShown a s r text)) same-asking shown)

  module _ {T : Type 0} (told : GraphFault) (before now : ℕ) (has : HasFault files asked told) (read : err T told ≡ err T ReadFault → Rose before now ⊎ LacksFile files asked) (unrisen : Rose before now → ⊥) where
    has-same : HasFault files asking told
    has-same = subst (λ (a : Asking). HasFault files a told) same-asking has

    lacks-same : told ≡ ReadFault → Rose before now ⊎ LacksFile files asking
    lacks-same is = subst (λ (a : Asking). Rose before now ⊎ LacksFile files a) same-asking (read (ap (err T) is))

    pub exact-fault : {U : Type 0} (fault : GraphFault) → HasRefusal files asking fault → (err U told ≡ err U fault) ⊎ (err U told ≡ err U NoMemory)
    exact-fault {U} fault refusal = go (exact-at files asking before now unrisen told fault has-same lacks-same refusal)
      where
        go : (told ≡ fault) ⊎ (told ≡ NoMemory) → (err U told ≡ err U fault) ⊎ (err U told ≡ err U NoMemory)
        go (inl is) = inl (ap (err U) is)
        go (inr is) = inr (ap (err U) is)

    pub complete-fault : {U : Type 0} (text : List ℕ) → HasGraph files asking text → err U told ≡ err U NoMemory
    complete-fault {U} text shown = ap (err U) (complete-at files asking before now unrisen told text has-same lacks-same shown)

pub read-at : {T U : Type 0} (files : Option Files) (words : List (List ℕ)) (asked : Asking) (told : GraphFault) (before now : ℕ) → IsGraph words asked
    → (err T told ≡ err T ReadFault → Rose before now ⊎ LacksFile files asked) → err U told ≡ err U ReadFault → (asking : Asking) × IsGraph words asking × (Rose before now ⊎ LacksFile files asking)
read-at {T} {U} files words asked told before now is read e = (asked, is, read (ap (err T) (same e)))
  where
    same : err U told ≡ err U ReadFault → told ≡ ReadFault
    same f = cc

pub put-done : {T : Type 0} (r : Result T GraphFault) (before now : ℕ) → HasCause before now r → (Rose before now → ⊥) → IsOk r
put-done (Ok x) before now cause unrisen = refl
put-done (Err fault) before now cause unrisen = absurd (unrisen cause.failed)

pub own-write : {T : Type 0} (r : Result T GraphFault) → IfErr r (λ fault. fault ≡ WriteFault) → IfErr r IsOwnFault
own-write (Ok x) h = tt
own-write (Err fault) h = subst IsOwnFault (sym h) tt

pub no-write : (files : Option Files) (asking : Asking) (fault : GraphFault) → HasFault files asking fault → fault ≡ WriteFault → ⊥
no-write files asking fault h e = subst (HasFault files asking) e h
