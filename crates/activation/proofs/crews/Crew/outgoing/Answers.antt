use Rattle.std.proofs.Common.{arith, ◌≡◌, ◌∙◌, ap, length}
use Rattle.session_laws.specs.session_model.specs.Activation.{outgoing}
use Rattle.activation.proofs.Played.{at_mapped, length-mapped}
use Rattle.activation.proofs.crews.Crew.outgoing.Goals as goal

pub index-requires : goal.index-requires
index-requires g c =
    let long : length c.args.self.now.out.items ≡ c.args.self.now.nodes = length-mapped _ c.args.self.now.out.items (outgoing c.args.self.now.links.items) c.args.self.now.nodes c.args.self.now.outward.0 in
    omega (arith, c.requires.node, long, c.args.self.now.out.ok.0)

pub returns : goal.returns
returns g c = c.as_slice.ensures.value ∙ (ap (λ v. v.items) c.index.ensures ∙ at_mapped _ c.args.self.now.out.items (outgoing c.args.self.now.links.items) c.args.self.now.nodes c.args.node _ c.args.self.now.outward.0 c.requires.node)
