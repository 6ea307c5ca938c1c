use Rattle.std.proofs.Common.{◌≡◌, ℕ, ◌<◌, ◌≤◌, ◌∙◌, List, length, get_or, sym, subst, arith}
use Rattle.jack_host.specs.Bytes.{Gains, Puts}
use Rattle.session_model.specs.Samples.{below}
use Rattle.session_laws.proofs.SequentialLemmas.{get_or-below, length-below}
use Rattle.report_lines.proofs.PutLemmas.{all_put, item_cut, item_put}
use Rattle.session_ends.proofs.MeterLemmas.{recorder_text, text-recorder, text-recorders}
use Rattle.session_ends.proofs.reporting.put_recorders.Goals as goal

pub returns-in_err-put_recorder-clause-puts : goal.returns-in_err-put_recorder-clause-puts
returns-in_err-put_recorder-clause-puts g c =
    let there : c.loop-recorder.recorder < length c.args.recorders.now = search in
    let n : ℕ = length c.args.recorders.now in
    let within : c.loop-recorder.recorder < length (below n) = omega (arith, there, length-below n) in
    let at : c.index-recorders-recorder.result ≡ get_or c.args.recorders.now c.loop-recorder.recorder c.index-recorders-recorder.result = search in
    let same = text-recorder c.args.recorders.now c.args.overruns.now c.loop-recorder.recorder c.index-recorders-recorder.result c.blocks-in-loop-recorder.result there at c.blocks-in-loop-recorder.ensures in
    item_cut (recorder_text c.args.recorders.now c.args.overruns.now) (below n) c.loop-recorder.recorder c.loop-recorder.recorder _ c.put_recorder.result c.from_residual.result _ _ _ within
    (sym (get_or-below n c.loop-recorder.recorder c.loop-recorder.recorder there)) (text-recorders c.args.recorders.now c.args.overruns.now) c.loop-recorder.invariant.gained
    (subst (λ (t : List ℕ). Puts (g.K.Sink.content c.loop-recorder.out) (g.K.Sink.content c.put_recorder.new.out) c.put_recorder.result t) same c.put_recorder.ensures.puts) _ c.in_err-put_recorder.was c.from_residual.ensures.0

pub loop-recorder-preserved : goal.loop-recorder-preserved
loop-recorder-preserved g c =
    let there : c.loop-recorder.recorder < length c.args.recorders.now = search in
    let n : ℕ = length c.args.recorders.now in
    let within : c.loop-recorder.recorder < length (below n) = omega (arith, there, length-below n) in
    let at : c.index-recorders-recorder.result ≡ get_or c.args.recorders.now c.loop-recorder.recorder c.index-recorders-recorder.result = search in
    let same = text-recorder c.args.recorders.now c.args.overruns.now c.loop-recorder.recorder c.index-recorders-recorder.result c.blocks-in-loop-recorder.result there at c.blocks-in-loop-recorder.ensures in
    record {
      gained = item_put (recorder_text c.args.recorders.now c.args.overruns.now) (below n) c.loop-recorder.recorder c.loop-recorder.recorder _ _ _ within
          (sym (get_or-below n c.loop-recorder.recorder c.loop-recorder.recorder there)) c.loop-recorder.invariant.gained
          (subst (λ (t : List ℕ). Gains (g.K.Sink.content c.loop-recorder.out) (g.K.Sink.content c.put_recorder.new.out) t) same c.in_ok-put_recorder.ensures.puts);
      kept = (rw c.in_ok-put_recorder.was at c.put_recorder.ensures.cause.kept) ∙ c.loop-recorder.invariant.kept;
    }

pub returns-clause-puts : goal.returns-clause-puts
returns-clause-puts g c =
    let past : length (below (length c.args.recorders.now)) ≤ c.loop-recorder.recorder = omega (arith, c.loop-recorder-test.false, length-below (length c.args.recorders.now)) in
    all_put (recorder_text c.args.recorders.now c.args.overruns.now) (below (length c.args.recorders.now)) c.loop-recorder.recorder _ _ _ past (text-recorders c.args.recorders.now c.args.overruns.now) c.loop-recorder.invariant.gained
