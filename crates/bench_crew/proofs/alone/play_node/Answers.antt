use Rattle.std.proofs.Common.{ℕ, List, true, false, length, map, get_or, set, All, Some, IsSome, sym, ◌∙◌, ap, subst, length-set}
use Rattle.std.proofs.lemmas.List.{length-map}
use Rattle.session_model.specs.Activation.{link_at, place_among}
use Rattle.bench_crew.specs.Turns.{IsRow, IsApart, ShowRoom, AreLike}
use Rattle.bench_crew.proofs.TurnLemmas.{row-incoming, shown-into, shown-still, are_some, turn-of}
use Rattle.bench_crew.proofs.alone.play_node.Goals as goal

pub take_values-requires-clause-row : goal.take_values-requires-clause-row
take_values-requires-clause-row g c κs within =
    let sources = c.args.sources.now in (
      c.requires.benches.0,
      subst (IsRow sources.links.items) (sym c.into-which.ensures) (row-incoming sources.links.items c.args.node sources.listing.short),
    )

pub take_values-requires-clause-room : goal.take_values-requires-clause-room
take_values-requires-clause-room g c κs within =
    let sources = c.args.sources.now in
    let benches = c.args.benches.now in
    subst (λ (which : List ℕ). ShowRoom g.B.Work.has_room true sources.links.items which 0 (length which) benches) (sym c.into-which.ensures)
    (shown-into g.B.Work.memory g.B.Work.has_room g.B.Work.value_at g.B.Work.after g.B.Work.gives sources.nodes sources.links.items sources.listing.are benches c.args.node c.requires.benches.0 c.requires.benches.1)

pub play-requires : goal.play-requires
play-requires g c = record {
  given =
      let links = c.args.sources.now.links.items in
      let benches = c.args.benches.now in
      let e = c.index-benches-node.result in
      subst (All (λ value. IsSome value)) (sym (c.as_slice.ensures.value ∙ c.take_values.ensures.given e))
      (are_some (λ l. g.B.Work.value_at (get_or benches (link_at links l).from e) (place_among links l)) c.into-which.result.now);
}

pub return_values-requires-clause-row : goal.return_values-requires-clause-row
return_values-requires-clause-row g c κs within =
    let sources = c.args.sources.now in (
      length-set c.take_values.new.benches c.args.node c.play.new.self ∙ (c.take_values.ensures.benches.count ∙ c.requires.benches.0),
      subst (IsRow sources.links.items) (sym c.into-which.ensures) (row-incoming sources.links.items c.args.node sources.listing.short),
    )

pub return_values-requires-clause-room : goal.return_values-requires-clause-room
return_values-requires-clause-room g c κs within =
    let sources = c.args.sources.now in
    let links = sources.links.items in
    let out = c.take_values.new.benches in
    let bench = c.play.new.self in
    let n : ℕ = c.args.node in
    subst (λ (which : List ℕ). ShowRoom g.B.Work.has_room false links which 0 (length which) (set out n bench)) (sym c.into-which.ensures)
    (shown-still g.B.Work.memory g.B.Work.has_room g.B.Work.value_at g.B.Work.after g.B.Work.gives sources.nodes links sources.listing.are false n out bench
    (subst (λ (which : List ℕ). ShowRoom g.B.Work.has_room false links which 0 (length which) out) c.into-which.ensures c.take_values.ensures.room))

pub return_values-requires-clause-given : goal.return_values-requires-clause-given
return_values-requires-clause-given g c κs within =
    let links = c.args.sources.now.links.items in
    let benches = c.args.benches.now in
    let e = c.index-benches-node.result in
    let which = c.into-which.result.now in (
      subst (All (λ value. IsSome value)) (sym (c.take_values.ensures.given e)) (are_some (λ l. g.B.Work.value_at (get_or benches (link_at links l).from e) (place_among links l)) which),
      ap length (c.take_values.ensures.given e) ∙ length-map which (λ l. Some (g.B.Work.value_at (get_or benches (link_at links l).from e) (place_among links l))),
    )

pub returns-clause-turn : goal.returns-clause-turn
returns-clause-turn g c =
    let sources = c.args.sources.now in
    let links = sources.links.items in
    let old = c.args.benches.now in
    let out = c.take_values.new.benches in
    let back = c.return_values.new.benches in
    let bench = c.play.new.self in
    let e = c.index-benches-node.result in
    let given = c.as_slice.result.now in
    let n : ℕ = c.args.node in
    turn-of g.B.Work.memory g.B.Work.has_room g.B.Work.value_at g.B.Work.after g.B.Work.gives sources.nodes links sources.listing.are n old out back bench e given c.requires.node c.requires.benches.0 c.requires.benches.1
    (subst (λ (which : List ℕ). AreLike g.B.Work.memory g.B.Work.has_room g.B.Work.value_at (IsApart links which 0 (length which)) old out) c.into-which.ensures c.take_values.ensures.benches)
    (λ d. c.as_slice.ensures.value ∙ (c.take_values.ensures.given d ∙ ap (map (λ l. Some (g.B.Work.value_at (get_or old (link_at links l).from d) (place_among links l)))) c.into-which.ensures))
    c.play.ensures.memory c.play.ensures.values c.play.ensures.room
    (subst (λ (which : List ℕ). AreLike g.B.Work.memory g.B.Work.has_room g.B.Work.value_at (IsApart links which 0 (length which)) (set out n bench) back) c.into-which.ensures c.return_values.ensures.benches)
    (subst (λ (which : List ℕ). ShowRoom g.B.Work.has_room true links which 0 (length which) back) c.into-which.ensures c.return_values.ensures.room)
