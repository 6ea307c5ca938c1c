use Rattle.std.proofs.Common.{◌≡◌, ◌<◌, length, slice_get, get_or, Some, rules, sym, ◌∙◌, ap, arith}
use Rattle.std.proofs.lemmas.Option.{slice_get-get_or}
use Rattle.port_registry.proofs.PlaceLemmas.{slice_get-below}
use Rattle.port_registry.proofs.TableLemmas.{settled-there, settled-before}
use Rattle.port_registry.proofs.tables.settle.Goals as goal

pub loop-place-preserved : goal.loop-place-preserved
loop-place-preserved c =
    let here : slice_get c.args.ports.now c.loop-place.place ≡ Some (get_or c.args.ports.now c.loop-place.place c.index-ports-place.result) = slice_get-get_or c.args.ports.now c.loop-place.place c.index-ports-place.result c.loop-place-test.true in
    record {
      there = settled-there c.args.ports.now c.requires.apart c.loop-place.places c.put.new.places c.loop-place.place _ here c.put.ensures.updates c.loop-place.invariant.there;
      before = settled-before c.args.ports.now c.requires.apart c.loop-place.places c.put.new.places c.loop-place.place _ here c.put.ensures.updates c.loop-place.invariant.before;
      len = c.put.ensures.len ∙ c.loop-place.invariant.len;
      capacity = c.put.ensures.capacity ∙ c.loop-place.invariant.capacity;
    }

pub returns-clause-placed : goal.returns-clause-placed
returns-clause-placed c = λ i port e.
    let low : i < length c.args.ports.now = slice_get-below c.args.ports.now i port e in
    c.loop-place.invariant.before i port e (omega (arith, low))
