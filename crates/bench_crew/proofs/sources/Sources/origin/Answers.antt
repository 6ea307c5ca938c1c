use Rattle.std.proofs.Common.{rules, arith, ◌≡◌, length, ◌∙◌, ap}
use Rattle.std.proofs.lemmas.List.{get_or_default}
use Rattle.session_model.specs.Activation.{no_link}
use Rattle.bench_crew.proofs.ListingLemmas.{place-at}
use Rattle.bench_crew.proofs.sources.Sources.origin.Goals as goal

pub index-requires-2 : goal.index-requires-2
index-requires-2 c =
    let there = place-at c.args.self.now.links.items c.args.self.now.places.items (length c.args.self.now.links.items) c.args.position 0 c.args.self.now.listing.placed c.requires.position in
    let long : c.args.self.now.places.len ≡ length c.args.self.now.places.items = search rules in
    omega (arith, there.0, long)

pub returns : goal.returns
returns c =
    let there = place-at c.args.self.now.links.items c.args.self.now.places.items (length c.args.self.now.links.items) c.args.position c.index-2.result.now c.args.self.now.listing.placed c.requires.position in (
      ap (λ link. link.from) (c.index.ensures ∙ get_or_default c.args.self.now.links.items c.args.position c.index.result.now no_link c.requires.position),
      c.index-2.ensures ∙ there.1,
    )
