use Rattle.std.proofs.Common.{sym, ◌∙◌, ap}
use Rattle.bench_crew.specs.client_benches.specs.Seen.{Seen}
use Rattle.bench_crew.specs.client_benches.specs.Wires.{kept_count}
use Rattle.bench_rack.specs.Racks.{bench_at, with_bench}
use Rattle.bench_rack.proofs.WholeLemmas.{IsSlot, changed-is, changed-there, slot-is, whole-stays}
use Rattle.bench_rack.proofs.racks.Rack.lend.Goals as goal

pub invariant_of-self : goal.invariant_of-self
invariant_of-self g c =
    let slot : IsSlot c.args.self.now c.self.inside.benches.items c.self.inside.links c.args.place c.index_mut.result.now = record { view = c.self.view_is; within = c.requires.place; is = c.index_mut.ensures.value } in
    whole-stays slot c.lend.new.self c.self.inside.spare c.self.inside.spare_links
    (ap (λ (seen : Seen). kept_count seen.kept.wires) c.lend.ensures.others) (ap (λ (seen : Seen). seen.rooms) c.lend.ensures.others) c.self.invariant

pub returns-clause-kind : goal.returns-clause-kind
returns-clause-kind g c =
    let slot : IsSlot c.args.self.now c.self.inside.benches.items c.self.inside.links c.args.place c.index_mut.result.now = record { view = c.self.view_is; within = c.requires.place; is = c.index_mut.ensures.value } in
    ap (λ (seen : Seen). seen.kept.standing.kind) (changed-there slot c.lend.new.self) ∙ c.lend.ensures.kind ∙ ap (λ (seen : Seen). seen.kept.standing.kind) (slot-is slot)

pub returns-clause-period : goal.returns-clause-period
returns-clause-period g c =
    let slot : IsSlot c.args.self.now c.self.inside.benches.items c.self.inside.links c.args.place c.index_mut.result.now = record { view = c.self.view_is; within = c.requires.place; is = c.index_mut.ensures.value } in
    ap (λ (seen : Seen). seen.kept.standing.period) (changed-there slot c.lend.new.self) ∙ c.lend.ensures.period ∙ ap (λ (seen : Seen). seen.kept.standing.period) (slot-is slot)

pub returns-clause-others : goal.returns-clause-others
returns-clause-others g c =
    let slot : IsSlot c.args.self.now c.self.inside.benches.items c.self.inside.links c.args.place c.index_mut.result.now = record { view = c.self.view_is; within = c.requires.place; is = c.index_mut.ensures.value } in
    changed-is slot (λ (seen : Seen). record seen { kept = record seen.kept { standing = c.lend.new.self.kept.standing } }) c.lend.new.self c.lend.ensures.others
    ∙ ap (λ (seen : Seen). with_bench c.args.self.now c.args.place (record (bench_at c.args.self.now c.args.place) { kept = record (bench_at c.args.self.now c.args.place).kept { standing = seen.kept.standing } })) (sym (changed-there slot c.lend.new.self))
