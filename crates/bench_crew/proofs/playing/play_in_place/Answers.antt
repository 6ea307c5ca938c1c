use Rattle.std.proofs.Common.{rules, sym, subst, ap, ◌∙◌, List, ◌++◌, length, take, drop}
use Rattle.jack_types.specs.declared.ports.Link.{Link}
use Rattle.session_model.specs.Activation.{AreLinks}
use Rattle.client_benches.specs.activation.specs.Rounds.{AreFresh, AreReturned, AreUnused, HavePlayed, Know}
use Rattle.steal_workers.specs.cycle_workers.specs.Runs.{HaveRoom}
use Rattle.steal_workers.proofs.Changing.{written}
use Rattle.bench_crew.specs.Ensembles.{AreReady}
use Rattle.bench_crew.proofs.ReadyLemmas.{unused-fresh, known-fresh}
use Rattle.bench_crew.proofs.playing.play_in_place.Goals as goal

pub swap-requires-clause-unused : goal.swap-requires-clause-unused
swap-requires-clause-unused g c κs within =
    let ready = c.requires.ready in
    subst AreUnused (sym c.as_mut_slice.ensures.value) (unused-fresh c.args.crew.now.links.items ready.before c.args.crew.now.seats c.args.seats.now.items ready.fresh)

pub play_cycle-requires-clause-fresh : goal.play_cycle-requires-clause-fresh
play_cycle-requires-clause-fresh g c κs within =
    let links = ap (λ e. e.links.items) c.swap.ensures.crew ∙ c.requires.links.0 in
    let swapped = written c.args.seats.now.len c.args.seats.now.items c.swap.new.seats (search rules) in (
      c.args.benches.now,
      subst (AreFresh c.swap.new.self.links.items c.args.benches.now c.swap.new.self.seats) (sym swapped) c.swap.ensures.fresh,
      subst (λ ls. HaveRoom g.B.Work.has_room ls c.args.benches.now) (sym links) c.requires.benches.1,
    )

pub reset-requires-clause-links : goal.reset-requires-clause-links
reset-requires-clause-links g c κs within = (
  subst (λ nodes. AreLinks nodes c.args.links.now) (sym (ap (λ e. e.nodes) c.swap.ensures.crew)) c.requires.links.1,
  c.requires.links.2,
)

pub swap-requires-2-clause-unused : goal.swap-requires-2-clause-unused
swap-requires-2-clause-unused g c κs within =
    let fresh = c.reset.ensures.fresh in
    let renewed = c.as_mut_slice-3.ensures.value ∙ written c.play_cycle.new.seats.len c.play_cycle.new.seats.items c.reset.new.seats (search rules) in
    subst AreUnused (sym renewed) (unused-fresh c.args.links.now fresh.0 c.reset.new.self.seats c.reset.new.seats fresh.2)

pub returns-clause-played : goal.returns-clause-played
returns-clause-played g c =
    let before = c.args.benches.now in
    let fresh = c.reset.ensures.fresh in
    let links = ap (λ e. e.links.items) c.swap.ensures.crew ∙ c.requires.links.0 in
    let swapped = written c.args.seats.now.len c.args.seats.now.items c.swap.new.seats (search rules) in
    let played = c.as_mut_slice-2.ensures.value in
    let renewed = c.as_mut_slice-3.ensures.value ∙ written c.play_cycle.new.seats.len c.play_cycle.new.seats.items c.reset.new.seats (search rules) in
    let known = c.play_cycle.ensures.before before (subst (Know before) (sym swapped) (known-fresh c.swap.new.self.links.items before c.swap.new.self.seats c.swap.new.seats c.swap.ensures.fresh)) in
    let back = fresh.3 before (subst (Know before) (sym played) known) (subst (HavePlayed c.swap.new.self.nodes c.swap.new.self.seats) (sym played) c.play_cycle.ensures.played) in
    let out = c.swap-2.ensures.benches fresh.0 (subst (Know fresh.0) (sym renewed) (known-fresh c.args.links.now fresh.0 c.reset.new.self.seats c.reset.new.seats fresh.2)) in
    subst (λ (z : List Link × List g.row.B.Denot). AreReturned g.B.Work.memory g.B.Work.has_room g.B.Work.after g.B.Work.gives z.0 before z.1) (λ i. (links i, sym out i)) back

pub returns-clause-ready : goal.returns-clause-ready
returns-clause-ready g c =
    let crew = c.swap-2.new.self in
    let back = written c.play_cycle.new.seats.len (take c.play_cycle.new.seats.len (c.reset.new.seats ++ drop (length c.reset.new.seats) c.play_cycle.new.seats.items)) c.swap-2.new.seats (search rules) in
    subst (AreReady crew.board.shared.table_id crew.links.items crew.nodes crew.seats) (sym back) (record { are = c.swap-2.ensures.seats; before = c.swap.new.benches; fresh = c.swap-2.ensures.fresh })
