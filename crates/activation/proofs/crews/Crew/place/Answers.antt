use Rattle.std.proofs.Common.{arith, ◌≡◌, ◌∙◌, ap, length}
use Rattle.session_laws.specs.session_model.specs.Activation.{place_among}
use Rattle.session_laws.proofs.ActivationLemmas.{length-map_below}
use Rattle.activation.proofs.Played.{at_listed}
use Rattle.activation.proofs.crews.Crew.place.Goals as goal

pub index-requires : goal.index-requires
index-requires g c =
    let long : length c.args.self.now.places.items ≡ length c.args.self.now.links.items = ap length c.args.self.now.shape.places_are ∙ length-map_below (place_among c.args.self.now.links.items) (length c.args.self.now.links.items) in
    omega (arith, c.requires, long, c.args.self.now.places.ok.0)

pub returns : goal.returns
returns g c = c.index.ensures ∙ at_listed c.args.self.now.places.items (place_among c.args.self.now.links.items) (length c.args.self.now.links.items) c.args.link _ c.args.self.now.shape.places_are c.requires
