use Rattle.std.proofs.Common.{◌≡◌, ℕ, ◌<◌, ◌≤◌, true, List, length, sym, ◌∙◌, ap, subst}
use Rattle.std.specs.Vec.{with_items}
use Rattle.std.proofs.lemmas.List.{with_items_is}
use Rattle.session_model.specs.Activation.{link_at, place_among, sequential}
use Rattle.bench_crew.specs.client_benches.specs.Seen.{Seen, has_room_at, kept_after, kept_gives}
use Rattle.bench_rack.specs.Insides.{IsWhole, bench_among, racked}
use Rattle.bench_rack.specs.Racks.{Racked, bench_at}
use Rattle.bench_rack.proofs.PlayedLemmas.{whole-played, wires-played}
use Rattle.bench_rack.proofs.racks.Rack.play.Goals as goal

pub play_front-requires-clause-count : goal.play_front-requires-clause-count
play_front-requires-clause-count g c κs within =
    let e : racked c.deref_mut.result.now c.self.inside.links ≡ c.args.self.now = ap (λ (benches : List Seen). racked benches c.self.inside.links) c.deref_mut.ensures.value ∙ c.self.view_is in
    subst (λ (rack : Racked). c.args.ensemble.now.nodes ≤ length rack.benches) (sym e) c.requires.count

pub play_front-requires-clause-rooms : goal.play_front-requires-clause-rooms
play_front-requires-clause-rooms g c κs within =
    let e : racked c.deref_mut.result.now c.self.inside.links ≡ c.args.self.now = ap (λ (benches : List Seen). racked benches c.self.inside.links) c.deref_mut.ensures.value ∙ c.self.view_is in
    subst (λ (rack : Racked). (l : ℕ) → l < length c.args.links.now → has_room_at (bench_at rack (link_at c.args.links.now l).from) (place_among c.args.links.now l) ≡ true) (sym e) c.requires.rooms

pub invariant_of-self : goal.invariant_of-self
invariant_of-self g c =
    let same : (with_items c.self.inside.benches c.play_front.new.benches).items ≡ c.play_front.new.benches = with_items_is c.self.inside.benches c.play_front.new.benches (c.play_front.ensures.count ∙ c.deref_mut.ensures.len) in
    subst (λ (benches : List Seen). IsWhole (racked benches c.self.inside.links) c.self.inside.spare c.self.inside.spare_links) (sym same)
    (whole-played c.deref_mut.result.now c.play_front.new.benches c.self.inside.links c.self.inside.spare c.self.inside.spare_links c.play_front.ensures.count
    (λ n h. wires-played g.G.Guest.sound c.deref_mut.result.now c.play_front.new.benches c.args.ensemble.now.nodes c.args.links.now c.play_front.ensures.played c.play_front.ensures.others n)
    c.play_front.ensures.rooms
    (subst (λ (benches : List Seen). IsWhole (racked benches c.self.inside.links) c.self.inside.spare c.self.inside.spare_links) (sym c.deref_mut.ensures.value) c.self.invariant))

pub returns-clause-count : goal.returns-clause-count
returns-clause-count g c =
    let same : (with_items c.self.inside.benches c.play_front.new.benches).items ≡ c.play_front.new.benches = with_items_is c.self.inside.benches c.play_front.new.benches (c.play_front.ensures.count ∙ c.deref_mut.ensures.len) in
    let e : racked c.deref_mut.result.now c.self.inside.links ≡ c.args.self.now = ap (λ (benches : List Seen). racked benches c.self.inside.links) c.deref_mut.ensures.value ∙ c.self.view_is in
    ap (λ (benches : List Seen). length benches) same ∙ c.play_front.ensures.count ∙ ap (λ (rack : Racked). length rack.benches) e

pub returns-clause-links : goal.returns-clause-links
returns-clause-links g c = ap (λ (rack : Racked). rack.links) c.self.view_is

pub returns-clause-played : goal.returns-clause-played
returns-clause-played g c = λ n low.
    let same : (with_items c.self.inside.benches c.play_front.new.benches).items ≡ c.play_front.new.benches = with_items_is c.self.inside.benches c.play_front.new.benches (c.play_front.ensures.count ∙ c.deref_mut.ensures.len) in
    let e : racked c.deref_mut.result.now c.self.inside.links ≡ c.args.self.now = ap (λ (benches : List Seen). racked benches c.self.inside.links) c.deref_mut.ensures.value ∙ c.self.view_is in
    ap (λ (benches : List Seen). (bench_among benches n).kept) same
    ∙ c.play_front.ensures.played n low
    ∙ ap (λ (rack : Racked). sequential (kept_after g.G.Guest.sound) (kept_gives g.G.Guest.sound) c.args.links.now (λ m. (bench_at rack m).kept) n) e

pub returns-clause-rooms : goal.returns-clause-rooms
returns-clause-rooms g c = λ n place.
    let same : (with_items c.self.inside.benches c.play_front.new.benches).items ≡ c.play_front.new.benches = with_items_is c.self.inside.benches c.play_front.new.benches (c.play_front.ensures.count ∙ c.deref_mut.ensures.len) in
    let e : racked c.deref_mut.result.now c.self.inside.links ≡ c.args.self.now = ap (λ (benches : List Seen). racked benches c.self.inside.links) c.deref_mut.ensures.value ∙ c.self.view_is in
    ap (λ (benches : List Seen). has_room_at (bench_among benches n) place) same
    ∙ c.play_front.ensures.rooms n place
    ∙ ap (λ (rack : Racked). has_room_at (bench_at rack n) place) e

pub returns-clause-others : goal.returns-clause-others
returns-clause-others g c = λ n high.
    let same : (with_items c.self.inside.benches c.play_front.new.benches).items ≡ c.play_front.new.benches = with_items_is c.self.inside.benches c.play_front.new.benches (c.play_front.ensures.count ∙ c.deref_mut.ensures.len) in
    let e : racked c.deref_mut.result.now c.self.inside.links ≡ c.args.self.now = ap (λ (benches : List Seen). racked benches c.self.inside.links) c.deref_mut.ensures.value ∙ c.self.view_is in
    ap (λ (benches : List Seen). bench_among benches n) same
    ∙ c.play_front.ensures.others n high
    ∙ ap (λ (rack : Racked). bench_at rack n) e
