use Rattle.std.proofs.Common.{◌≡◌, ◌+◌, ◌<◌, ◌∙◌, ℕ, ap, arith, filter, get_or, length, set, subst, sym, take}
use Rattle.std.proofs.lemmas.List.{get_or-replicate, length-replicate, length-set}
use Rattle.jack_types.specs.declared.ports.Port.{Port}
use Rattle.client_wiring.specs.Tables.{class_place, in_class}
use Rattle.client_wiring.proofs.ListLemmas.{zeros_few, counts_few, counts_more, table_more}
use Rattle.client_wiring.proofs.tables.place_ports.Goals as goal

pub loop-port-init : goal.loop-port-init
loop-port-init c = record {
  size = length-replicate {A = ℕ} 268 0;
  so_far = λ class h. get_or-replicate 268 class 0 0 h;
  few = λ class h. zeros_few 268 class 0 h;
  room = length-replicate {A = ℕ} 2064 0;
  held = λ k port h. absurd (omega (arith, h));
}

pub loop-port-preserved : goal.loop-port-preserved
loop-port-preserved c =
    let low : (c.port-item.result).id.0 < 2064 = subst (λ (x : Port). x.id.0 < 2064) (sym c.port-item.is) (c.requires.ids c.loop-port.port-index c.port-item.result c.loop-port-test.true) in
    let more : (class : ℕ) → class < 268 → get_or (set c.loop-port.counts c.class_of_port-class.result (get_or c.loop-port.counts c.class_of_port-class.result 0 + 1)) class 0 ≡ length (filter (in_class class) (take (c.loop-port.port-index + 1) c.args.ports.now)) =
    λ class h. counts_more c.args.ports.now c.loop-port.counts c.loop-port.port-index c.class_of_port-class.result c.port-item.result c.loop-port-test.true c.port-item.is c.class_of_port-class.ensures.value
    (omega (arith, c.class_of_port-class.ensures.below, c.loop-port.invariant.size)) class (c.loop-port.invariant.so_far class h) in
    record {
      size = length-set c.loop-port.counts c.class_of_port-class.result (get_or c.loop-port.counts c.class_of_port-class.result 0 + 1) ∙ c.loop-port.invariant.size;
      so_far = more;
      few = λ class h. counts_few c.args.ports.now (c.loop-port.port-index + 1) class (get_or (set c.loop-port.counts c.class_of_port-class.result (get_or c.loop-port.counts c.class_of_port-class.result 0 + 1)) class 0) (omega (arith, c.loop-port-test.true)) (more class h);
      room = length-set c.loop-port.places (c.port-item.result).id.0 (get_or c.loop-port.counts c.class_of_port-class.result 0) ∙ c.loop-port.invariant.room;
      held = table_more c.args.ports.now c.requires.apart (class_place c.args.ports.now) c.loop-port.places c.loop-port.port-index (get_or c.loop-port.counts c.class_of_port-class.result 0) c.port-item.result
          c.loop-port-test.true c.port-item.is (omega (arith, low, c.loop-port.invariant.room))
          (c.loop-port.invariant.so_far c.class_of_port-class.result c.class_of_port-class.ensures.below ∙ ap (λ n. length (filter (in_class n) (take c.loop-port.port-index c.args.ports.now))) c.class_of_port-class.ensures.value)
          c.loop-port.invariant.held;
    }
