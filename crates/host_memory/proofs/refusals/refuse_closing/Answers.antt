-- What the entry that was changed in place leaves of the refusals, under its name and under the others.
use Rattle.std.proofs.Common.{rules, ◌∙◌, ap, true, Some}
use Rattle.host_memory.proofs.ListedLemmas.{other_closings_stay, calls_stay, calls_of}
use Rattle.host_memory.specs.declared.refusals.Refusals.{Refusals}
use Rattle.host_memory.proofs.refusals.refuse_closing.Goals as goal

pub returns-in-Some-clause-others : goal.returns-in-Some-clause-others
returns-in-Some-clause-others c =
    let now : Refusals = record { calls = c.in-Some.refused.now.calls; closing = true } in
    λ other e.
    other_closings_stay c.args.name.now c.have_entry.new.refusals (c.get_mut.follows.lender now) (Some now)
    ((c.get_mut.follows.holds now).3 (search rules)) other e
    ∙ c.in_ok-have_entry.ensures.closings other

pub returns-in-Some-clause-calls : goal.returns-in-Some-clause-calls
returns-in-Some-clause-calls c =
    let now : Refusals = record { calls = c.in-Some.refused.now.calls; closing = true } in
    λ other.
    calls_stay c.args.name.now c.have_entry.new.refusals (c.get_mut.follows.lender now) (Some now)
    ((c.get_mut.follows.holds now).3 (search rules)) (ap calls_of c.in-Some.ensures.value) other
    ∙ c.in_ok-have_entry.ensures.calls other
