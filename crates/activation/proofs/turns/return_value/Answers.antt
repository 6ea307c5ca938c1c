use Rattle.std.proofs.Common.{arith, ◌≡◌, ◌≢◌, ℕ, length, Some, None, sym, ap, ◌∙◌, refl, length-set}
use mathlib.Core.Option.{some}
use lib.ListN.{get_elem?}
use Rattle.atomic_table.proofs.Lists.{set_here, set_else}
use Rattle.table_lemmas.proofs.Readings.{inside}
use Rattle.activation.specs.declared.views.Item.TheVariants.{Bench}
use Rattle.activation.proofs.Turning.{found_tray}
use Rattle.activation.proofs.turns.return_value.Goals as goal

pub take_tray-tray-requires-clause-bench : goal.take_tray-tray-requires-clause-bench
take_tray-tray-requires-clause-bench g c κs within =
    let items = c.args.seat.now.me.0.shelf.items in
    let ne : c.args.node ≢ c.args.slot = λ e. let low = c.requires.seat.3 in absurd (omega (arith, low, e)) in
    (c.requires.bench.0, ap (λ m. get_elem? m.0.shelf.items c.args.node) c.take_value-value.ensures.seat.1 ∙ (set_else items c.args.slot c.args.node None ne ∙ c.requires.bench.1))

pub back-requires : goal.back-requires
back-requires g c =
    let items = c.args.seat.now.me.0.shelf.items in
    let ne : c.args.node ≢ c.args.slot = λ e. let low = c.requires.seat.3 in absurd (omega (arith, low, e)) in
    let same = found_tray c.take_value-value.new.seat.me.0.shelf.items c.args.node c.take_tray-tray.result c.requires.bench.0 _ c.take_tray-tray.ensures.tray refl
    (ap (λ m. get_elem? m.0.shelf.items c.args.node) c.take_value-value.ensures.seat.1 ∙ (set_else items c.args.slot c.args.node None ne ∙ c.requires.bench.1)) in
    record { room = (c.requires.seat.4, ap (λ d. g.B.Work.has_room d.bench c.args.place) (sym same) ∙ c.requires.bench.2) }

pub put-requires-clause-slot : goal.put-requires-clause-slot
put-requires-clause-slot g c κs within =
    let items = c.take_value-value.new.seat.me.0.shelf.items in
    let low = inside items c.args.node _ c.take_tray-tray.ensures.tray in
    let before = c.requires.seat.3 in
    (omega (arith, before, c.requires.seat.2), omega (arith, low, ap (λ m. length m.0.shelf.items) c.take_tray-tray.ensures.seat.1, length-set items c.args.node None))

pub returns-clause-bench : goal.returns-clause-bench
returns-clause-bench g c tray at =
    let items = c.args.seat.now.me.0.shelf.items in
    let mid = c.take_value-value.new.seat.me.0.shelf.items in
    let node : ℕ = c.args.node in
    let ne : node ≢ c.args.slot = λ e. let low = c.requires.seat.3 in absurd (omega (arith, low, e)) in
    let took = c.take_tray-tray.ensures in
    let result = c.take_tray-tray.result in
    let same : tray ≡ result = found_tray mid node result tray _ took.tray refl (ap (λ m. get_elem? m.0.shelf.items node) c.take_value-value.ensures.seat.1 ∙ (set_else items c.args.slot node None ne ∙ at)) in
    let low = inside mid node _ took.tray in (
      c.back.new.self,
      ap (λ m. get_elem? m.0.shelf.items node) c.put.ensures.seat.1
          ∙ (set_here c.take_tray-tray.new.seat.me.0.shelf.items node _ (omega (arith, low, ap (λ m. length m.0.shelf.items) took.seat.1, length-set mid node None)) ∙ ap (λ d. some (Some (Bench record { bench = c.back.new.self; given = d.given }))) (sym same)),
      c.back.ensures.memory ∙ ap (λ d. g.B.Work.memory d.bench) (sym same),
      c.back.ensures.room,
      (λ other apart. (c.back.ensures.others other apart).0 ∙ ap (λ d. g.B.Work.has_room d.bench other) (sym same)),
    )

pub returns-clause-others : goal.returns-clause-others
returns-clause-others g c other ne ne' =
    let items = c.args.seat.now.me.0.shelf.items in
    let mid = c.take_value-value.new.seat.me.0.shelf.items in
    ap (λ m. get_elem? m.0.shelf.items other) c.put.ensures.seat.1
    ∙ (set_else c.take_tray-tray.new.seat.me.0.shelf.items c.args.node other _ ne
    ∙ (ap (λ m. get_elem? m.0.shelf.items other) c.take_tray-tray.ensures.seat.1
    ∙ (set_else mid c.args.node other None ne ∙ (ap (λ m. get_elem? m.0.shelf.items other) c.take_value-value.ensures.seat.1 ∙ set_else items c.args.slot other None ne'))))
