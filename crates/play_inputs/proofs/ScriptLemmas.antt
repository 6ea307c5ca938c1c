-- The script that was read of a file, or the status that it has.
use Rattle.std.proofs.Common.{◌≡◌, ℕ, List, Ok, Err, Some, inl, inr, subst, sym, take}
use Rattle.std.specs.Prelude.{◌⊎◌, IfErr, IfOk, Option, Result}
use Rattle.session_model.specs.Grammar.{Spells}
use Rattle.session_model.specs.Reading.{script_fault}
use Rattle.session_model.specs.Scripts.{Script}
use Rattle.play_inputs.specs.declared.status.Status.{Status}
use Rattle.play_inputs.specs.declared.status.Status.TheVariants.{NoMemory, ReadFault}
use Rattle.play_inputs.specs.Answers.{HasOwnFault}
use Rattle.play_inputs.specs.Inputs.{Files, IfBytes, IsBadScript, IsScriptOf}
use Rattle.play_inputs.specs.Scripts.{RefusesBytes, ScriptStatus}
use Rattle.play_inputs.proofs.InputLemmas.{if_bytes_map}

-- what the first bytes of a file spell is the file's script
pub script-told : (r : Result Script Status) (files : Option Files) (name bytes : List ℕ) → IfBytes files name (λ whole. bytes ≡ take 1048577 whole)
    → IfOk r (λ script. Spells bytes script) → IfOk r (λ script. IfBytes files name (λ whole. IsScriptOf whole script))
script-told (Ok script) files name bytes h is =
    if_bytes_map files name (λ whole. bytes ≡ take 1048577 whole) (λ whole. IsScriptOf whole script) (λ whole e. subst (λ (read : List ℕ). Spells read script) e is) h
script-told (Err status) files name bytes h is = tt

pub fault-told : (r : Result Script Status) (files : Option Files) (name bytes : List ℕ) → IfBytes files name (λ whole. bytes ≡ take 1048577 whole)
    → IfErr r (RefusesBytes bytes) → IfErr r (ScriptStatus files name)
fault-told (Ok script) files name bytes h is = tt
fault-told (Err status) files name bytes h (inl none) = subst (ScriptStatus files name) (sym none) tt
fault-told (Err status) files name bytes h (inr told) =
    subst (ScriptStatus files name) (sym told.1)
    (if_bytes_map files name (λ whole. bytes ≡ take 1048577 whole) (λ whole. IsBadScript whole told.0) (λ whole e. subst (λ (read : List ℕ). script_fault read ≡ Some told.0) e told.2) h)

-- where it was not read
pub unread-told : (files : Option Files) (name : List ℕ) (status : Status) → (status ≡ NoMemory) ⊎ (status ≡ ReadFault) → ScriptStatus files name status
unread-told files name status (inl e) = subst (ScriptStatus files name) (sym e) tt
unread-told files name status (inr e) = subst (ScriptStatus files name) (sym e) tt

pub own-unread : (status : Status) → (status ≡ NoMemory) ⊎ (status ≡ ReadFault) → HasOwnFault status
own-unread status (inl e) = subst HasOwnFault (sym e) tt
own-unread status (inr e) = subst HasOwnFault (sym e) tt
