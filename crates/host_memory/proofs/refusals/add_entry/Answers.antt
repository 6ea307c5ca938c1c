-- An empty entry refuses what no entry refuses.
use Rattle.std.proofs.Common.{◌≡◌, ℕ, List, ap, sym, ◌∙◌, Some, None, false, refl, string_bytes}
use Rattle.std.specs.Option.{IsNone}
use Rattle.std.specs.declared.option.Option.{Option}
use Rattle.std.specs.BTreeMap.{get_by_text}
use Rattle.host_memory.specs.declared.refusals.Refusals.{Refusals}
use Rattle.host_memory.proofs.ListedLemmas.{calls_stay, closings_stay, calls_of, closing_of}
use Rattle.host_memory.proofs.refusals.add_entry.Goals as goal

is_nothing : (o : Option Refusals) → IsNone o → None ≡ o
is_nothing None p = refl
is_nothing (Some v) p = cc

pub returns-clause-calls : goal.returns-clause-calls
returns-clause-calls c =
    let none : Refusals = record { calls = c.new.result; closing = false } in
    let nothing = is_nothing (get_by_text c.args.refusals.now c.args.name.now) c.requires in
    calls_stay (string_bytes c.in_ok-key.key) c.args.refusals.now c.insert.new.self (Some none) c.in_ok-insert.ensures.updates
    (c.new.ensures.items ∙ ap calls_of nothing ∙ ap (λ (name : List ℕ). calls_of (get_by_text c.args.refusals.now name)) (sym c.in_ok-key.ensures.ok))

pub returns-clause-closings : goal.returns-clause-closings
returns-clause-closings c =
    let none : Refusals = record { calls = c.new.result; closing = false } in
    let nothing = is_nothing (get_by_text c.args.refusals.now c.args.name.now) c.requires in
    closings_stay (string_bytes c.in_ok-key.key) c.args.refusals.now c.insert.new.self (Some none) c.in_ok-insert.ensures.updates
    (ap closing_of nothing ∙ ap (λ (name : List ℕ). closing_of (get_by_text c.args.refusals.now name)) (sym c.in_ok-key.ensures.ok))
