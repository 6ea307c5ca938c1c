-- What holds of files that are told: before and after a call that keeps them, and one call after the other; and of a script that is read whole.
use Rattle.std.proofs.Common.{◌≡◌, ◌∙◌, ◌≤◌, ℕ, List, Some, None, arith, length, refl, subst, sym, take}
use Rattle.std.proofs.lemmas.List.{length-take, take_all}
use Rattle.std.specs.declared.option.Option.{Option}
use Rattle.jack_host.specs.Causes.{Rose}
use Rattle.jack_host.specs.Files.{bytes_under, IsThere, SameFiles}
use Rattle.session_model.specs.Grammar.{Spells}
use Rattle.session_model.specs.Scripts.{Script}
use Rattle.play_inputs.specs.Inputs.{Files, IfBytes}

pub if_bytes_map : (files : Option Files) (name : List ℕ) (P Q : List ℕ → Type 0) → ((bytes : List ℕ) → P bytes → Q bytes) → IfBytes files name P → IfBytes files name Q
if_bytes_map None name P Q f h = tt
if_bytes_map (Some files) name P Q f h = (h.0, h.1, f h.0 h.2)

pub if_bytes_elim : (files : Files) (name : List ℕ) (P : List ℕ → Type 0) (R : Type 0) → ((bytes : List ℕ) → bytes_under files name ≡ Some bytes → P bytes → R) → IfBytes (Some files) name P → R
if_bytes_elim files name P R f h = f h.0 h.1 h.2

pub if_bytes_before : (a b : Option Files) (name : List ℕ) (P : List ℕ → Type 0) → SameFiles a b → IfBytes b name P → IfBytes a name P
if_bytes_before None None name P s h = tt
if_bytes_before None (Some b) name P s h = absurd s
if_bytes_before (Some a) None name P s h = absurd s
if_bytes_before (Some a) (Some b) name P s h = (h.0, sym (s name) ∙ h.1, h.2)

pub there_after : (a b : Option Files) (name : List ℕ) → SameFiles a b → IsThere a name → IsThere b name
there_after None None name s h = tt
there_after None (Some b) name s h = absurd s
there_after (Some a) None name s h = absurd s
there_after (Some a) (Some b) name s h = rw (s name) h

pub same_refl : (a : Option Files) → SameFiles a a
same_refl None = tt
same_refl (Some a) = λ name. refl

pub same_after : (a b c : Option Files) → SameFiles a b → SameFiles b c → SameFiles a c
same_after None None None s t = tt
same_after None None (Some c) s t = absurd t
same_after None (Some b) c s t = absurd s
same_after (Some a) None c s t = absurd s
same_after (Some a) (Some b) None s t = absurd t
same_after (Some a) (Some b) (Some c) s t = λ name. t name ∙ s name

-- a count that did not fall before it rose
pub rose-earlier : (a b c : ℕ) → a ≤ b → Rose b c → Rose a c
rose-earlier a b c later rose = omega (arith, later, rose)

-- nor behind
pub rose-later : (a b c : ℕ) → Rose a b → b ≤ c → Rose a c
rose-later a b c rose later = omega (arith, rose, later)

-- a script that is read whole is not longer than a script may be
pub spelled_whole : (whole : List ℕ) (script : Script) → Spells (take 1048577 whole) script → Spells whole script
spelled_whole whole script h =
    let few : length (take 1048577 whole) ≤ 1048576 = h.0 in
    let short : take 1048577 whole ≡ whole = take_all 1048577 whole (omega (arith, few, length-take 1048577 whole)) in
    subst (λ (bytes : List ℕ). Spells bytes script) short h
