use Rattle.std.proofs.Common.{◌∙◌, ℕ, List, [], ap, arith, subst, sym}
use Rattle.std.specs.Prelude.{Contains}
use Rattle.std.proofs.lemmas.List.Elements.{Contains-get_or}
use Rattle.file_compare.specs.Comparisons.{Compared}
use Rattle.jack_host.specs.Causes.{Rose}
use Rattle.play_inputs.proofs.InputLemmas.{same_after}
use Rattle.check_command.proofs.OpenedLemmas.{fresh-next, length-next, on_err, opened-next, why-failed}
use Rattle.check_command.proofs.files.open_records.Goals as goal

pub returns-in_err-source-clause-read : goal.returns-in_err-source-clause-read
returns-in_err-source-clause-read g c =
    let test = c.loop-place-test.true in
    let end = c.loop-place.invariant.end in
    let kept = c.loop-place.invariant.kept in
    let names = c.args.names.now.records in
    on_err c.from_residual.result
    (why-failed (g.H.Host.files c.args.host.now) (g.H.Host.files c.loop-place.host) c.record.result.now _ names (Rose (g.H.Host.read_faults c.args.host.now) (g.H.Host.read_faults c.open_in.new.self))
    c.loop-place.invariant.files c.record.ensures (Contains-get_or names c.loop-place.place [] (omega (arith, test, end)))
    (λ there. let rose = c.in_err-source.ensures.failed there in omega (arith, kept, rose)))

pub loop-place-preserved : goal.loop-place-preserved
loop-place-preserved g c =
    let test = c.loop-place-test.true in
    let end = c.loop-place.invariant.end in
    let lent = c.loop-place.invariant.lent in
    let out = c.in_ok-source.ensures.lent in
    let capacity = c.push_reserved.ensures.capacity in
    let room = c.loop-place.invariant.room in
    record {
      opened = opened-next (g.H.Host.files c.args.host.now) (g.H.Host.files c.loop-place.host) c.args.names.now.records c.loop-place.place c.loop-place.records.items c.push_reserved.new.self.items c.of.result
          c.record.result.now _ (omega (arith, test, end)) c.loop-place.invariant.files c.loop-place.invariant.opened c.record.ensures c.in_ok-source.ensures.bytes (ap (λ (one : Compared). one.left) c.of.ensures) c.push_reserved.ensures.items;
      fresh = fresh-next c.loop-place.records.items c.push_reserved.new.self.items c.of.result _ _ c.of.ensures c.in_ok-source.ensures.fresh c.loop-place.invariant.fresh c.push_reserved.ensures.items;
      end = end;
      within = omega (arith, test);
      many = length-next c.loop-place.records.items c.push_reserved.new.self.items c.of.result c.loop-place.place c.loop-place.invariant.many c.push_reserved.ensures.items;
      room = omega (arith, capacity, room);
      kept = c.in_ok-source.ensures.kept ∙ c.loop-place.invariant.kept;
      writes = c.in_ok-source.ensures.writes ∙ c.loop-place.invariant.writes;
      files = same_after _ _ _ c.loop-place.invariant.files c.in_ok-source.ensures.files;
      lent = omega (arith, lent, out);
    }
