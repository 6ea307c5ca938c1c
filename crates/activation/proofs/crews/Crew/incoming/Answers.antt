use Rattle.std.proofs.Common.{arith, ◌≡◌, ◌∙◌, ap, length}
use Rattle.session_laws.specs.session_model.specs.Activation.{incoming}
use Rattle.activation.proofs.Played.{at_mapped, length-mapped}
use Rattle.activation.proofs.crews.Crew.incoming.Goals as goal

pub index-requires : goal.index-requires
index-requires g c =
    let long : length c.args.self.now.into.items ≡ c.args.self.now.nodes = length-mapped _ c.args.self.now.into.items (incoming c.args.self.now.links.items) c.args.self.now.nodes c.args.self.now.shape.into_are in
    omega (arith, c.requires, long, c.args.self.now.into.ok.0)

pub returns : goal.returns
returns g c = c.as_slice.ensures.value ∙ (ap (λ v. v.items) c.index.ensures ∙ at_mapped _ c.args.self.now.into.items (incoming c.args.self.now.links.items) c.args.self.now.nodes c.args.node _ c.args.self.now.shape.into_are c.requires)
