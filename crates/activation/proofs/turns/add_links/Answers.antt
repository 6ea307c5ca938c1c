use Rattle.std.proofs.Common.{rules, arith, ◌<◌, ℕ, length, get_or, ap, ◌∙◌}
use Rattle.std.proofs.lemmas.Grind.{common_steps}
use lib.ListN.{get_elem?}
use Rattle.atomic_table.proofs.Lists.{set_else}
use Rattle.session_laws.specs.jack_types.specs.declared.ports.Link.{Link}
use Rattle.session_laws.specs.session_model.specs.Activation.{no_link}
use Rattle.activation.specs.Contents.{IsFull, IsDone}
use Rattle.activation.proofs.Alone.{unlink_alone, link_alone}
use Rattle.activation.proofs.turns.add_links.Goals as goal

pub load-requires : goal.load-requires
load-requires g c = (
  c.requires.seat.0,
  c.requires.seat.2,
  unlink_alone (IsFull g.B.Work.memory g.B.Work.has_room g.B.Work.after g.B.Work.gives) (IsDone g.B.Work.memory g.B.Work.has_room g.B.Work.after g.B.Work.gives) _ _ c.args.seat.now.me 0 c.requires.seat.1,
)

pub store-requires : goal.store-requires
store-requires g c =
    let i = c.loop-link.invariant in
    let low : c.loop-link.link-index < length c.args.links.now = c.loop-link-test.true in
    let up = c.requires.links.upward c.loop-link.link-index no_link low in
    let within = c.requires.links.within c.loop-link.link-index no_link low in
    let sole = c.requires.seat.1 in (
      i.0 ∙ c.requires.seat.0,
      omega (arith, up, within),
      link_alone (IsFull g.B.Work.memory g.B.Work.has_room g.B.Work.after g.B.Work.gives) (IsDone g.B.Work.memory g.B.Work.has_room g.B.Work.after g.B.Work.gives) _ _ c.loop-link.seat.me _ _
          record { live = ap (λ m. m.0.is_live) i.1 ∙ sole.live; on = ap (λ m. m.0.is_still) i.1 ∙ sole.on; none_out = ap (λ m. m.0.shelf.out) i.1 ∙ sole.none_out; clear = ap (λ m. m.1) i.1 },
    )

pub loop-link-preserved : goal.loop-link-preserved
loop-link-preserved g c =
    let k : ℕ = c.loop-link.link-index in
    let low : k < length c.args.links.now = c.loop-link-test.true in
    let link : Link = get_or c.args.links.now k no_link in (
      search rules,
      grind (arith, common_steps),
      search rules,
      (λ nodes word are far.
          let up : link.from < link.to = are.upward k no_link low in
          let within : link.to < nodes = are.within k no_link low in
          ap (λ m. get_elem? m.0.shelf.words word) c.store.ensures.2 ∙ (set_else c.loop-link.seat.me.0.shelf.words _ word _ (λ e. absurd (omega (arith, up, within, far, e))) ∙ c.loop-link.invariant.3 nodes word are far)),
    )
