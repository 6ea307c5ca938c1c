-- What holds of a result.
--     on-ok_any, on-ok_both, on-ok_all      where it is Ok: in any case, or from what holds there
--     on-err, on-err_both      and where it is Err
--     of-ok, at-ok, at-err      of a result that is Ok, or Err
--     ok-held, err-held      or that was asked whether it is
use Rattle.std.proofs.Common.{◌≡◌, true, false, Result, Ok, Err, OnOk, OnErr, IsOk, sym, subst, true≢false}
use Rattle.std.specs.Prelude.{is_err}

pub on-ok_any : {T E P : Type 0} (r : Result T E) → P → OnOk r P
on-ok_any (Ok x) p = p
on-ok_any (Err e) p = tt

pub on-ok_both : {T E : Type 0} (r : Result T E) {P Q K : Type 0} → (P → Q → K) → OnOk r P → OnOk r Q → OnOk r K
on-ok_both (Ok x) f p q = f p q
on-ok_both (Err e) f p q = tt

pub on-ok_all : {T E : Type 0} (r : Result T E) {P Q R K : Type 0} → (P → Q → R → K) → OnOk r P → OnOk r Q → OnOk r R → OnOk r K
on-ok_all (Ok x) f p q k = f p q k
on-ok_all (Err e) f p q k = tt

pub on-err : {T E : Type 0} (r : Result T E) {P : Type 0} → P → OnErr r P
on-err (Ok x) h = tt
on-err (Err e) h = h

pub on-err_both : {T E : Type 0} (r : Result T E) {P Q K : Type 0} → (P → Q → K) → OnErr r P → OnErr r Q → OnErr r K
on-err_both (Ok x) f p q = tt
on-err_both (Err e) f p q = f p q

pub of-ok : {T E P : Type 0} (r : Result T E) → IsOk r → OnOk r P → P
of-ok (Ok x) ok p = p
of-ok (Err e) ok p = absurd (true≢false (sym ok))

pub at-ok : {T E P : Type 0} (r : Result T E) (x : T) → r ≡ Ok x → OnOk r P → P
at-ok {T = T} {E = E} {P = P} r x is = subst (λ (q : Result T E). OnOk q P) is

pub at-err : {T E P : Type 0} (r : Result T E) (e : E) → r ≡ Err e → OnErr r P → P
at-err {T = T} {E = E} {P = P} r e is = subst (λ (q : Result T E). OnErr q P) is

pub ok-held : {T E : Type 0} (r : Result T E) (P : Type 0) → false ≡ is_err r → OnOk r P → P
ok-held (Ok x) P is holds = holds
ok-held (Err e) P is holds = absurd (true≢false (sym is))

pub err-held : {T E : Type 0} (r : Result T E) (P : Type 0) → true ≡ is_err r → OnErr r P → P
err-held (Ok x) P is holds = absurd (true≢false is)
err-held (Err e) P is holds = holds
