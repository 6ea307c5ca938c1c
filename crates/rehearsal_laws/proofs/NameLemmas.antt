-- The names of clients and ports.
--     clients_are_named, inputs_are_named, outputs_are_named      each of the 32 is lawful
use Rattle.std.proofs.Common.{◌≡◌, ℕ, zero, suc, ◌<◌, Bool, true, false, ◌&&◌, nat_lt, ◌⊎◌, inl, inr, ⊎_elim, Option, Some, None, refl, sym, subst, arith, true≢false}
use Rattle.std.proofs.lemmas.Bool.Decides.{nat_tests}
use Rattle.std.specs.Fmt.{digits}
use Rattle.jack_types.specs.Names.{client_name_fault, port_name_fault}
use Rattle.jack_types.specs.declared.names.NameFault.{NameFault}
use Rattle.rehearsal_model.specs.Rehearsals.{client_name, input_name, output_name}

abbrev is_none : Option NameFault → Bool
is_none None = true
is_none (Some fault) = false

-- a test that each number below this one passes
abbrev all_pass : (ℕ → Bool) → ℕ → Bool
all_pass p zero = true
all_pass p (suc n) = p n && all_pass p n

both : (a b : Bool) → (a && b) ≡ true → (a ≡ true) × (b ≡ true)
both true true e = (refl, refl)
both true false e = (refl, e)
both false b e = absurd (true≢false (sym e))

none : (fault : Option NameFault) → is_none fault ≡ true → fault ≡ None
none None e = refl
none (Some fault) e = absurd (true≢false (sym e))

same_or_below : (i n : ℕ) → i < suc n → (i ≡ n) ⊎ (i < n)
same_or_below i n few = pick (nat_lt i n) refl
  where
    pick : (b : Bool) → nat_lt i n ≡ b → (i ≡ n) ⊎ (i < n)
    pick true is = inr (grind (arith, nat_tests, is))
    pick false is = inl (grind (arith, nat_tests, is, few))

passes : (p : ℕ → Bool) (n i : ℕ) → all_pass p n ≡ true → i < n → p i ≡ true
passes p zero i all few = absurd (omega (arith, few))
passes p (suc n) i all few =
    let two = both (p n) (all_pass p n) all in
    ⊎_elim (λ same. subst (λ k. p k ≡ true) (sym same) two.0) (λ less. passes p n i two.1 less) (same_or_below i n few)

clients-pass : all_pass (λ i. is_none (client_name_fault (client_name i))) 32 ≡ true
unfolding digits
clients-pass = refl

inputs-pass : all_pass (λ i. is_none (port_name_fault (input_name i))) 32 ≡ true
unfolding digits
inputs-pass = refl

outputs-pass : all_pass (λ i. is_none (port_name_fault (output_name i))) 32 ≡ true
unfolding digits
outputs-pass = refl

pub clients_are_named : (i : ℕ) → i < 32 → client_name_fault (client_name i) ≡ None
clients_are_named i few = none (client_name_fault (client_name i)) (passes (λ i. is_none (client_name_fault (client_name i))) 32 i clients-pass few)

pub inputs_are_named : (i : ℕ) → i < 32 → port_name_fault (input_name i) ≡ None
inputs_are_named i few = none (port_name_fault (input_name i)) (passes (λ i. is_none (port_name_fault (input_name i))) 32 i inputs-pass few)

pub outputs_are_named : (i : ℕ) → i < 32 → port_name_fault (output_name i) ≡ None
outputs_are_named i few = none (port_name_fault (output_name i)) (passes (λ i. is_none (port_name_fault (output_name i))) 32 i outputs-pass few)
