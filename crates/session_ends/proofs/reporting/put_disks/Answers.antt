use Rattle.std.proofs.Common.{ℕ, ◌<◌, ◌≤◌, ◌∙◌, List, length, sym, subst, arith}
use Rattle.jack_host.specs.Bytes.{Gains, Puts}
use Rattle.session_model.specs.Samples.{below}
use Rattle.session_laws.proofs.SequentialLemmas.{get_or-below, length-below}
use Rattle.report_lines.proofs.PutLemmas.{all_put, item_cut, item_put}
use Rattle.session_ends.proofs.MeterLemmas.{disk_text, disk_text_is, text-disks}
use Rattle.session_ends.proofs.reporting.put_disks.Goals as goal

pub returns-in_err-put_disk-clause-puts : goal.returns-in_err-put_disk-clause-puts
returns-in_err-put_disk-clause-puts g c =
    let there : c.loop-disk.disk < c.args.disks = search in
    let within : c.loop-disk.disk < length (below c.args.disks) = omega (arith, there, length-below c.args.disks) in
    let same = disk_text_is c.args.driver.now.disks.played c.args.driver.now.disks.underruns c.underruns-underruns.result.now c.loop-disk.disk c.disk_played-played.result c.underruns-underruns.ensures c.disk_played-played.ensures in
    item_cut (disk_text c.args.driver.now.disks.played c.args.driver.now.disks.underruns) (below c.args.disks) c.loop-disk.disk c.loop-disk.disk _ c.put_disk.result c.from_residual.result _ _ _ within
    (sym (get_or-below c.args.disks c.loop-disk.disk c.loop-disk.disk there)) (text-disks c.args.driver.now.disks.played c.args.driver.now.disks.underruns c.args.disks) c.loop-disk.invariant.gained
    (subst (λ (t : List ℕ). Puts (g.K.Sink.content c.loop-disk.out) (g.K.Sink.content c.put_disk.new.out) c.put_disk.result t) same c.put_disk.ensures.puts) _ c.in_err-put_disk.was c.from_residual.ensures.0

pub loop-disk-preserved : goal.loop-disk-preserved
loop-disk-preserved g c =
    let there : c.loop-disk.disk < c.args.disks = search in
    let within : c.loop-disk.disk < length (below c.args.disks) = omega (arith, there, length-below c.args.disks) in
    let same = disk_text_is c.args.driver.now.disks.played c.args.driver.now.disks.underruns c.underruns-underruns.result.now c.loop-disk.disk c.disk_played-played.result c.underruns-underruns.ensures c.disk_played-played.ensures in
    record {
      gained = item_put (disk_text c.args.driver.now.disks.played c.args.driver.now.disks.underruns) (below c.args.disks) c.loop-disk.disk c.loop-disk.disk _ _ _ within
          (sym (get_or-below c.args.disks c.loop-disk.disk c.loop-disk.disk there)) c.loop-disk.invariant.gained
          (subst (λ (t : List ℕ). Gains (g.K.Sink.content c.loop-disk.out) (g.K.Sink.content c.put_disk.new.out) t) same c.in_ok-put_disk.ensures.puts);
      kept = (rw c.in_ok-put_disk.was at c.put_disk.ensures.cause.kept) ∙ c.loop-disk.invariant.kept;
    }

pub returns-clause-puts : goal.returns-clause-puts
returns-clause-puts g c =
    let past : length (below c.args.disks) ≤ c.loop-disk.disk = omega (arith, c.loop-disk-test.false, length-below c.args.disks) in
    all_put (disk_text c.args.driver.now.disks.played c.args.driver.now.disks.underruns) (below c.args.disks) c.loop-disk.disk _ _ _ past (text-disks c.args.driver.now.disks.played c.args.driver.now.disks.underruns c.args.disks) c.loop-disk.invariant.gained
