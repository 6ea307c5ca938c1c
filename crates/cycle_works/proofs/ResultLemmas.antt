-- What holds of a result.
--     on-ok, on-err      what follows from what holds where a result is Ok, and where it is Err
--     any-err      what holds in any case, where it is Err
--     on-both      what follows from what holds where it is Ok, and where it is Err
--     as-err      what holds of an error, of whether it is one
--     ok-held, err-held      and what holds of a result that is no error, or one
--     if-some      what follows from what holds where there is something
--     either      what holds whether something is true or false
--     last-row      the cycle of the last row of so many
use Rattle.std.proofs.Common.{◌≡◌, ℕ, zero, suc, ◌+◌, ◌<◌, Bool, true, false, List, [], ◌∷◌, ◌++◌, map, Option, Some, None, refl, sym, ◌∙◌, ap, subst, arith, true≢false}
use Rattle.std.specs.Prelude.{IfSome, OnErr, OnOk, Result, Ok, Err, is_err}
use Rattle.std.proofs.lemmas.List.{map-append}
use Rattle.session_model.specs.Samples.{below}
use Rattle.graph_word.specs.Publications.{last_row}
use Rattle.graph_word.specs.declared.view.TakenRow.{TakenRow}

pub on-ok : {T E : Type 0} (result : Result T E) (P Q : Type 0) → (P → Q) → OnOk result P → OnOk result Q
on-ok (Ok x) P Q follows holds = follows holds
on-ok (Err e) P Q follows holds = holds

pub on-err : {T E : Type 0} (result : Result T E) (P Q : Type 0) → (P → Q) → OnErr result P → OnErr result Q
on-err (Ok x) P Q follows holds = holds
on-err (Err e) P Q follows holds = follows holds

pub any-err : {T E : Type 0} (result : Result T E) (P : Type 0) → P → OnErr result P
any-err (Ok x) P holds = tt
any-err (Err e) P holds = holds

pub on-both : {T E : Type 0} (result : Result T E) (P : Bool → Type 0) (failed : Bool) → failed ≡ is_err result → OnOk result (P false) → OnErr result (P true) → P failed
on-both (Ok x) P failed is ok err = subst P (sym is) ok
on-both (Err e) P failed is ok err = subst P (sym is) err

pub as-err : {T E : Type 0} (result : Result T E) (P : Bool → Type 0) (failed : Bool) → failed ≡ is_err result → OnErr result (P true) → OnErr result (P failed)
as-err (Ok x) P failed is holds = holds
as-err (Err e) P failed is holds = subst P (sym is) holds

-- the last of these numbers, 0 of none
abbrev last_of : List ℕ → ℕ
last_of [] = 0
last_of (n ∷ []) = n
last_of (n ∷ m ∷ ns) = last_of (m ∷ ns)

last-mapped : (rows : List TakenRow) → last_row rows ≡ last_of (map (λ (row : TakenRow). row.cycle) rows)
last-mapped [] = refl
last-mapped (row ∷ []) = refl
last-mapped (row ∷ next ∷ rows) = last-mapped (next ∷ rows)

last-added : (ns : List ℕ) (n : ℕ) → last_of (ns ++ n ∷ []) ≡ n
last-added [] n = refl
last-added (m ∷ []) n = refl
last-added (m ∷ k ∷ ns) n = last-added (k ∷ ns) n

last-below : (n : ℕ) → last_of (map (λ i. i + 1) (below n)) ≡ n
last-below zero = refl
last-below (suc n) =
    ap last_of (map-append (λ (i : ℕ). i + 1) (below n) (n ∷ [])) ∙ last-added (map (λ i. i + 1) (below n)) (n + 1)
    ∙ (let next : n + 1 ≡ suc n = omega arith in next)

pub last-row : (rows : List TakenRow) (n : ℕ) → map (λ (row : TakenRow). row.cycle) rows ≡ map (λ i. i + 1) (below n) → last_row rows < n + 1
last-row rows n cycles = let last = last-mapped rows ∙ ap last_of cycles ∙ last-below n in omega (arith, last)

-- a result that is no error, and one that is
pub ok-held : {T E : Type 0} (result : Result T E) (P : Type 0) → false ≡ is_err result → OnOk result P → P
ok-held (Ok x) P is holds = holds
ok-held (Err e) P is holds = absurd (true≢false (sym is))

pub err-held : {T E : Type 0} (result : Result T E) (P : Type 0) → true ≡ is_err result → OnErr result P → P
err-held (Ok x) P is holds = absurd (true≢false is)
err-held (Err e) P is holds = holds

pub either : {P : Type 0} (b : Bool) → (b ≡ true → P) → (b ≡ false → P) → P
either true holds fails = holds refl
either false holds fails = fails refl

pub if-some : {X : Type 0} (o : Option X) (P Q : X → Type 0) → ((x : X) → P x → Q x) → IfSome o P → IfSome o Q
if-some None P Q follows holds = tt
if-some (Some x) P Q follows holds = follows x holds
