-- What the entry that was changed in place leaves of the refusals, under its name and under the others.
use Rattle.std.proofs.Common.{rules, ◌∙◌, ap, Some, Result, Ok, Err}
use Rattle.std.specs.Result.{OnErr}
use Rattle.host_memory.proofs.ListedLemmas.{other_calls_stay, calls_stay, closings_stay, calls_of, closing_of}
use Rattle.host_memory.specs.declared.refusals.Refusals.{Refusals}
use Rattle.host_memory.proofs.refusals.refuse_call.Goals as goal

on_err : {T E : Type 0} {P : Type 0} (r : Result T E) → P → OnErr r P
on_err (Ok v) p = tt
on_err (Err e) p = p

pub returns-in_ok-push-clause-others : goal.returns-in_ok-push-clause-others
returns-in_ok-push-clause-others c =
    let now : Refusals = record { calls = c.push.new.self; closing = c.in-Some.refused.now.closing } in
    λ other e.
    other_calls_stay c.args.name.now c.have_entry.new.refusals (c.get_mut.follows.lender now) (Some now)
    ((c.get_mut.follows.holds now).3 (search rules)) other e
    ∙ c.in_ok-have_entry.ensures.calls other

pub returns-in_ok-push-clause-closings : goal.returns-in_ok-push-clause-closings
returns-in_ok-push-clause-closings c =
    let now : Refusals = record { calls = c.push.new.self; closing = c.in-Some.refused.now.closing } in
    λ other.
    closings_stay c.args.name.now c.have_entry.new.refusals (c.get_mut.follows.lender now) (Some now)
    ((c.get_mut.follows.holds now).3 (search rules)) (ap closing_of c.in-Some.ensures.value) other
    ∙ c.in_ok-have_entry.ensures.closings other

pub returns-in_err-push-clause-err : goal.returns-in_err-push-clause-err
returns-in_err-push-clause-err c =
    let now : Refusals = record { calls = c.push.new.self; closing = c.in-Some.refused.now.closing } in
    on_err c.from_residual-in_err-push.result (λ other.
    calls_stay c.args.name.now c.have_entry.new.refusals (c.get_mut.follows.lender now) (Some now)
    ((c.get_mut.follows.holds now).3 (search rules)) (c.in_err-push.ensures.items ∙ ap calls_of c.in-Some.ensures.value) other
    ∙ c.in_ok-have_entry.ensures.calls other)

pub returns-in_err-push-clause-others : goal.returns-in_err-push-clause-others
returns-in_err-push-clause-others c =
    let now : Refusals = record { calls = c.push.new.self; closing = c.in-Some.refused.now.closing } in
    λ other e.
    other_calls_stay c.args.name.now c.have_entry.new.refusals (c.get_mut.follows.lender now) (Some now)
    ((c.get_mut.follows.holds now).3 (search rules)) other e
    ∙ c.in_ok-have_entry.ensures.calls other

pub returns-in_err-push-clause-closings : goal.returns-in_err-push-clause-closings
returns-in_err-push-clause-closings c =
    let now : Refusals = record { calls = c.push.new.self; closing = c.in-Some.refused.now.closing } in
    λ other.
    closings_stay c.args.name.now c.have_entry.new.refusals (c.get_mut.follows.lender now) (Some now)
    ((c.get_mut.follows.holds now).3 (search rules)) (ap closing_of c.in-Some.ensures.value) other
    ∙ c.in_ok-have_entry.ensures.closings other
