-- What a name's bytes have, where the files are told.
--     if_bytes_map, if_bytes_before      another fact, and the files before
--     if-some-map      the same of a source
--     fault-told, kept-err, passed-on      the fault of a script, and one that is handed on
use Rattle.std.proofs.Common.{◌≡◌, ◌≢◌, ℕ, List, Option, Some, None, refl, sym, ◌∙◌, ap, subst, take}
use Rattle.std.specs.Prelude.{IfErr, IfSome, IsErrAnd, Result, Ok, Err}
use Rattle.jack_types.specs.declared.scripts.Cause.{Cause}
use Rattle.jack_types.specs.declared.scripts.Cause.TheVariants as cause
use Rattle.jack_types.specs.declared.scripts.ScriptFault.{ScriptFault}
use Rattle.jack_host.specs.Files.{IsThere, SameFiles}
use Rattle.session_model.specs.Reading.{script_fault}
use Rattle.session_graph.specs.Files.{Files, IfBytes, IsOfScript, fault_by, fault_of_script}
use Rattle.session_graph.specs.declared.faults.GraphFault.{GraphFault}
use Rattle.session_graph.specs.declared.faults.GraphFault.TheVariants.{BadScript}

pub if_bytes_map : (files : Option Files) (name : List ℕ) (P Q : List ℕ → Type 0) → ((bytes : List ℕ) → P bytes → Q bytes) → IfBytes files name P → IfBytes files name Q
if_bytes_map None name P Q f h = tt
if_bytes_map (Some files) name P Q f h = (h.0, h.1, f h.0 h.2)

pub if_bytes_before : (a b : Option Files) (name : List ℕ) (P : List ℕ → Type 0) → SameFiles a b → IfBytes b name P → IfBytes a name P
if_bytes_before None None name P s h = tt
if_bytes_before None (Some b) name P s h = absurd s
if_bytes_before (Some a) None name P s h = absurd s
if_bytes_before (Some a) (Some b) name P s h = (h.0, sym (s name) ∙ h.1, h.2)

pub there_after : (a b : Option Files) (name : List ℕ) → SameFiles a b → IsThere a name → IsThere b name
there_after None None name s h = tt
there_after None (Some b) name s h = absurd s
there_after (Some a) None name s h = absurd s
there_after (Some a) (Some b) name s h = rw (s name) h

pub if-some-map : {X : Type 0} (o : Option X) (P Q : X → Type 0) → ((x : X) → P x → Q x) → IfSome o P → IfSome o Q
if-some-map None P Q f h = tt
if-some-map (Some x) P Q f h = f x h

pub fault-told : (files : Option Files) (name bytes : List ℕ) (fault : ScriptFault) → IfBytes files name (λ whole. bytes ≡ take 1048577 whole) → (fault.cause ≢ cause.Memory → script_fault bytes ≡ Some fault)
    → IsOfScript files name (fault_of_script fault)
fault-told files name bytes fault h f = go fault.cause refl
  where
    told : (c : Cause) → fault.cause ≡ c → c ≢ cause.Memory → IsOfScript files name (BadScript fault)
    told c e other = (
      λ is. other (sym e ∙ is),
      if_bytes_map files name (λ whole. bytes ≡ take 1048577 whole) (λ whole. script_fault (take 1048577 whole) ≡ Some fault)
          (λ whole same. ap script_fault (sym same) ∙ f (λ is. other (sym e ∙ is))) h,
    )

    go : (c : Cause) → fault.cause ≡ c → IsOfScript files name (fault_by c fault)
    go cause.Header e = told cause.Header e (λ is. cc)
    go cause.Unknown e = told cause.Unknown e (λ is. cc)
    go cause.Words e = told cause.Words e (λ is. cc)
    go cause.Number e = told cause.Number e (λ is. cc)
    go (cause.Range given least most) e = told (cause.Range given least most) e (λ is. cc)
    go (cause.Name name_fault) e = told (cause.Name name_fault) e (λ is. cc)
    go (cause.Choice given) e = told (cause.Choice given) e (λ is. cc)
    go (cause.Lane before given) e = told (cause.Lane before given) e (λ is. cc)
    go (cause.TooMany many limit) e = told (cause.TooMany many limit) e (λ is. cc)
    go cause.TooLong e = told cause.TooLong e (λ is. cc)
    go cause.Memory e = tt

-- the fault that ends a `?` is the one that was met
pub kept-err : {T : Type 0} (r : Result T GraphFault) (e : GraphFault) (P : GraphFault → Type 0) → IsErrAnd r (λ y. y ≡ e) → P e → IfErr r P
kept-err (Ok x) e P h p = tt
kept-err (Err y) e P h p = subst P (sym h) p

abbrev pub err : (T : Type 0) → GraphFault → Result T GraphFault
err T fault = Err fault

pub passed-on : {T U : Type 0} (r : Result T GraphFault) (e fault : GraphFault) → IsErrAnd r (λ y. y ≡ e) → r ≡ err T fault → err U e ≡ err U fault
passed-on (Ok x) e fault h is = absurd h
passed-on {T} {U} (Err y) e fault h is = ap (err U) (sym h ∙ same is)
  where
    same : err T y ≡ err T fault → y ≡ fault
    same eq = cc
