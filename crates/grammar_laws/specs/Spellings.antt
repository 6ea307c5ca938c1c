-- Bytes spell one script and have no fault, or have one fault and spell none.
use Rattle.std.specs.Prelude.{◌≡◌, ℕ, List, Some, None}
use Rattle.session_laws.specs.jack_types.specs.declared.scripts.ScriptFault.{ScriptFault}
use Rattle.session_laws.specs.session_model.specs.Grammar.{Spells}
use Rattle.session_laws.specs.session_model.specs.Reading.{script_fault}
use Rattle.session_laws.specs.session_model.specs.Scripts.{Script}

pub record HasScript (bytes : List ℕ) : Type 0 where
  pub script : Script
  pub spells : Spells bytes script
  pub only : (other : Script) → Spells bytes other → script ≡ other
  pub no_fault : script_fault bytes ≡ None

pub record HasScriptFault (bytes : List ℕ) : Type 0 where
  pub fault : ScriptFault
  pub is_fault : script_fault bytes ≡ Some fault
  pub no_script : (script : Script) → Spells bytes script → ⊥
