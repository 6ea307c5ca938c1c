use Rattle.std.proofs.Common.{rules, ◌≡◌, length}
use Rattle.session_laws.specs.session_model.specs.Activation.{link_at}
use Rattle.activation.proofs.Indexed.{index_whole}
use Rattle.activation.proofs.indexes.refill.Goals as goal

pub returns-clause-into : goal.returns-clause-into
returns-clause-into c =
    let long : length c.sort_links.new.into.items ≡ length c.args.into.now.items = search rules in
    index_whole (λ l. (link_at c.args.links.now l).to) (length c.args.links.now) c.sort_links.new.into.items (length c.args.into.now.items) long c.sort_links.ensures.into.0

pub returns-clause-out : goal.returns-clause-out
returns-clause-out c =
    let long : length c.sort_links.new.out.items ≡ length c.args.into.now.items = search rules in
    index_whole (λ l. (link_at c.args.links.now l).from) (length c.args.links.now) c.sort_links.new.out.items (length c.args.into.now.items) long c.sort_links.ensures.out.0
