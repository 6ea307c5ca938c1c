use Rattle.std.proofs.Common.{◌≡◌, ◌<◌, List, [], length, refl, sym, ◌∙◌, ap, subst}
use Rattle.std.specs.Prelude.{slice_index_or}
use Rattle.std.proofs.lemmas.List.{length-set, with_items_is}
use Rattle.bench_crew.specs.client_benches.specs.Seen.{Seen}
use Rattle.bench_rack.specs.Insides.{IsWhole, bench_among, racked}
use Rattle.bench_rack.specs.Racks.{Racked, bench_at, filled, with_bench}
use Rattle.bench_rack.proofs.TotalLemmas.{kept_count-filled}
use Rattle.bench_rack.proofs.WholeLemmas.{slot-among, whole-stays}
use Rattle.bench_rack.proofs.racks.Rack.fill_back.Goals as goal

pub fill_among-requires-clause-place : goal.fill_among-requires-clause-place
fill_among-requires-clause-place g c =
    let e : racked c.deref_mut.result.now c.self.inside.links ≡ c.args.self.now = ap (λ (benches : List Seen). racked benches c.self.inside.links) c.deref_mut.ensures.value ∙ c.self.view_is in
    subst (λ (rack : Racked). c.args.place < length rack.benches) (sym e) c.requires.place

pub fill_among-requires-clause-from : goal.fill_among-requires-clause-from
fill_among-requires-clause-from g c =
    let e : racked c.deref_mut.result.now c.self.inside.links ≡ c.args.self.now = ap (λ (benches : List Seen). racked benches c.self.inside.links) c.deref_mut.ensures.value ∙ c.self.view_is in
    subst (λ (rack : Racked). c.args.from < length rack.benches) (sym e) c.requires.from

pub fill_among-requires-clause-wire : goal.fill_among-requires-clause-wire
fill_among-requires-clause-wire g c =
    let e : racked c.deref_mut.result.now c.self.inside.links ≡ c.args.self.now = ap (λ (benches : List Seen). racked benches c.self.inside.links) c.deref_mut.ensures.value ∙ c.self.view_is in
    subst (λ (rack : Racked). c.args.wire < length (bench_at rack c.args.place).kept.wires) (sym e) c.requires.wire

pub invariant_of-self : goal.invariant_of-self
invariant_of-self g c =
    let e : racked c.deref_mut.result.now c.self.inside.links ≡ c.args.self.now = ap (λ (benches : List Seen). racked benches c.self.inside.links) c.deref_mut.ensures.value ∙ c.self.view_is in
    subst (λ (benches : List Seen). IsWhole (racked benches c.self.inside.links) c.self.inside.spare c.self.inside.spare_links) (sym (with_items_is c.self.inside.benches c.fill_among.new.benches (ap length c.fill_among.ensures ∙ length-set c.deref_mut.result.now c.args.place (filled c.args.wire (slice_index_or (bench_among c.deref_mut.result.now c.args.from).kept.audio c.args.output []) (bench_among c.deref_mut.result.now c.args.place)) ∙ c.deref_mut.ensures.len) ∙ c.fill_among.ensures))
    (whole-stays (slot-among c.args.self.now c.deref_mut.result.now c.self.inside.links c.args.place e c.requires.place)
    (filled c.args.wire (slice_index_or (bench_among c.deref_mut.result.now c.args.from).kept.audio c.args.output []) (bench_among c.deref_mut.result.now c.args.place))
    c.self.inside.spare c.self.inside.spare_links
    (kept_count-filled (bench_among c.deref_mut.result.now c.args.place).kept.wires c.args.wire (slice_index_or (bench_among c.deref_mut.result.now c.args.from).kept.audio c.args.output [])
    (subst (λ (rack : Racked). c.args.wire < length (bench_at rack c.args.place).kept.wires) (sym e) c.requires.wire))
    refl
    (subst (λ (benches : List Seen). IsWhole (racked benches c.self.inside.links) c.self.inside.spare c.self.inside.spare_links) (sym c.deref_mut.ensures.value) c.self.invariant))

pub returns : goal.returns
returns g c =
    let e : racked c.deref_mut.result.now c.self.inside.links ≡ c.args.self.now = ap (λ (benches : List Seen). racked benches c.self.inside.links) c.deref_mut.ensures.value ∙ c.self.view_is in
    ap (λ (benches : List Seen). racked benches c.self.inside.links) (with_items_is c.self.inside.benches c.fill_among.new.benches (ap length c.fill_among.ensures ∙ length-set c.deref_mut.result.now c.args.place (filled c.args.wire (slice_index_or (bench_among c.deref_mut.result.now c.args.from).kept.audio c.args.output []) (bench_among c.deref_mut.result.now c.args.place)) ∙ c.deref_mut.ensures.len) ∙ c.fill_among.ensures)
    ∙ ap (λ (rack : Racked). with_bench rack c.args.place (filled c.args.wire (slice_index_or (bench_at rack c.args.from).kept.audio c.args.output []) (bench_at rack c.args.place))) e
