use Rattle.std.proofs.Common.{◌≡◌, ℕ, List, [], ◌∷◌, ◌++◌, ap, arith, length, refl, subst, suc, sym, take, ◌∙◌}
use Rattle.play_words.specs.Words.{Play}
use Rattle.session_run.specs.Seen.{stores_in}
use Rattle.jack_control.specs.Files.{AreOut}
use Rattle.jack_control.specs.Plays.{made_by}
use Rattle.jack_control.proofs.MadeLemmas.{HaveMade, left-cause, left-empties, left-fronts, left-out, left-rest, made-all, made-count, made-fronts, made-more, made-none, made-touches, on_err}
use Rattle.jack_control.proofs.NameLemmas.{front-more, front-next}
use Rattle.jack_control.proofs.files.make_files.Goals as goal

pub returns-in_err-make_file-clause-cut : goal.returns-in_err-make_file-clause-cut
returns-in_err-make_file-clause-cut g c =
    on_err c.from_residual.result
    (left-out g.G.Guest.sound (g.H.Host.files c.args.host.now) (g.H.Host.files c.args.host.now) (g.H.Host.files c.make_file.new.host) [] c.names.inside.playback.now c.args.session.now c.args.session.now c.make_file.new.session (g.H.Host.write_faults c.args.host.now) (g.H.Host.write_faults c.make_file.new.host) (made-none g.G.Guest.sound (g.H.Host.files c.args.host.now) c.args.session.now c.requires.attaching.0 c.requires.attaching.1 c.requires.attaching.2) (made_by c.args.names.now) 0 refl (ap (λ (name : List ℕ). name ∷ []) (sym (ap (λ (play : Play). play.playback) c.names.view_is))) c.in_err-make_file.ensures.cut)

pub returns-in_err-make_file-clause-fronts : goal.returns-in_err-make_file-clause-fronts
returns-in_err-make_file-clause-fronts g c =
    left-fronts g.G.Guest.sound (g.H.Host.files c.args.host.now) (g.H.Host.files c.args.host.now) (g.H.Host.files c.make_file.new.host) [] c.names.inside.playback.now c.args.session.now c.args.session.now c.make_file.new.session (g.H.Host.write_faults c.args.host.now) (g.H.Host.write_faults c.make_file.new.host) (made-none g.G.Guest.sound (g.H.Host.files c.args.host.now) c.args.session.now c.requires.attaching.0 c.requires.attaching.1 c.requires.attaching.2) c.in_err-make_file.ensures.cut

pub returns-in_err-make_file-clause-empties : goal.returns-in_err-make_file-clause-empties
returns-in_err-make_file-clause-empties g c =
    left-empties g.G.Guest.sound (g.H.Host.files c.args.host.now) (g.H.Host.files c.args.host.now) (g.H.Host.files c.make_file.new.host) [] c.names.inside.playback.now c.args.session.now c.args.session.now c.make_file.new.session (g.H.Host.write_faults c.args.host.now) (g.H.Host.write_faults c.make_file.new.host) (made-none g.G.Guest.sound (g.H.Host.files c.args.host.now) c.args.session.now c.requires.attaching.0 c.requires.attaching.1 c.requires.attaching.2) c.in_err-make_file.ensures.cut

pub returns-in_err-make_file-clause-others : goal.returns-in_err-make_file-clause-others
returns-in_err-make_file-clause-others g c =
    let left = left-out g.G.Guest.sound (g.H.Host.files c.args.host.now) (g.H.Host.files c.args.host.now) (g.H.Host.files c.make_file.new.host) [] c.names.inside.playback.now c.args.session.now c.args.session.now c.make_file.new.session (g.H.Host.write_faults c.args.host.now) (g.H.Host.write_faults c.make_file.new.host) (made-none g.G.Guest.sound (g.H.Host.files c.args.host.now) c.args.session.now c.requires.attaching.0 c.requires.attaching.1 c.requires.attaching.2) (made_by c.args.names.now) 0 refl (ap (λ (name : List ℕ). name ∷ []) (sym (ap (λ (play : Play). play.playback) c.names.view_is))) c.in_err-make_file.ensures.cut in
    made-touches (g.H.Host.files c.args.host.now) (g.H.Host.files c.make_file.new.host) left.0 (made_by c.args.names.now) left.2

pub returns-in_err-make_file-clause-cause : goal.returns-in_err-make_file-clause-cause
returns-in_err-make_file-clause-cause g c =
    on_err c.from_residual.result
    (left-cause g.G.Guest.sound (g.H.Host.files c.args.host.now) (g.H.Host.files c.args.host.now) (g.H.Host.files c.make_file.new.host) [] c.names.inside.playback.now c.args.session.now c.args.session.now c.make_file.new.session (g.H.Host.write_faults c.args.host.now) (g.H.Host.write_faults c.make_file.new.host) (made-none g.G.Guest.sound (g.H.Host.files c.args.host.now) c.args.session.now c.requires.attaching.0 c.requires.attaching.1 c.requires.attaching.2) (g.H.Host.write_faults c.args.host.now) (omega arith) c.in_err-make_file.ensures.cut)

pub loop-recorder-init : goal.loop-recorder-init
loop-recorder-init g c = record {
  made =
      subst (λ (name : List ℕ). HaveMade g.G.Guest.sound (g.H.Host.files c.args.host.now) (g.H.Host.files c.make_file.new.host) (name ∷ []) c.args.session.now c.make_file.new.session) (ap (λ (play : Play). play.playback) c.names.view_is)
      (made-more g.G.Guest.sound (g.H.Host.files c.args.host.now) (g.H.Host.files c.args.host.now) (g.H.Host.files c.make_file.new.host) [] c.names.inside.playback.now c.args.session.now c.args.session.now c.make_file.new.session (made-none g.G.Guest.sound (g.H.Host.files c.args.host.now) c.args.session.now c.requires.attaching.0 c.requires.attaching.1 c.requires.attaching.2)
      c.in_ok-make_file.ensures.made.0 c.in_ok-make_file.ensures.made.1 c.in_ok-make_file.ensures.made.2 c.in_ok-make_file.ensures.same);
  end = c.records-recorder-end.ensures.value;
  within = omega arith;
  kept = c.in_ok-make_file.ensures.kept;
  reads = c.in_ok-make_file.ensures.reads;
  lent = let none = ap length c.requires.attaching.2 in let lent = c.in_ok-make_file.ensures.lent in omega (arith, none, lent);
}

pub make_file-requires-in-loop-recorder-clause-out : goal.make_file-requires-in-loop-recorder-clause-out
make_file-requires-in-loop-recorder-clause-out g c κs within =
    let test = c.loop-recorder-test.true in
    let end = c.loop-recorder.invariant.end in
    let few = c.records-recorder-end.ensures.few in
    let lent = c.loop-recorder.invariant.lent in
    let start = c.requires.out in
    let many = c.loop-recorder.invariant.made.out.as_many in
    let attached = c.loop-recorder.invariant.made.attached in
    let count = made-count g.G.Guest.sound (g.H.Host.files c.args.host.now) (g.H.Host.files c.loop-recorder.host) (suc c.loop-recorder.recorder) (made_by c.args.names.now) c.args.session.now c.loop-recorder.session c.loop-recorder.invariant.made (omega (arith, test, end)) in
    omega (arith, test, few, lent, start, many, attached, count)

pub make_file-requires-in-loop-recorder-clause-attaching : goal.make_file-requires-in-loop-recorder-clause-attaching
make_file-requires-in-loop-recorder-clause-attaching g c κs within = c.loop-recorder.invariant.made.attaching

pub make_file-requires-in-loop-recorder-clause-fewer : goal.make_file-requires-in-loop-recorder-clause-fewer
make_file-requires-in-loop-recorder-clause-fewer g c κs within =
    let test = c.loop-recorder-test.true in
    let end = c.loop-recorder.invariant.end in
    let recorders = c.requires.recorders in
    let same = c.loop-recorder.invariant.made.rest.as_many in
    let count = made-count g.G.Guest.sound (g.H.Host.files c.args.host.now) (g.H.Host.files c.loop-recorder.host) (suc c.loop-recorder.recorder) (made_by c.args.names.now) c.args.session.now c.loop-recorder.session c.loop-recorder.invariant.made (omega (arith, test, end)) in
    omega (arith, test, end, recorders, same, count)

pub returns-in_err-make_file-2-clause-cut : goal.returns-in_err-make_file-2-clause-cut
returns-in_err-make_file-2-clause-cut g c =
    on_err c.from_residual-in_err-make_file-2.result
    (left-out g.G.Guest.sound (g.H.Host.files c.args.host.now) (g.H.Host.files c.loop-recorder.host) (g.H.Host.files c.make_file-in-loop-recorder.new.host) (take (suc c.loop-recorder.recorder) (made_by c.args.names.now)) c.record.result.now c.args.session.now c.loop-recorder.session c.make_file-in-loop-recorder.new.session (g.H.Host.write_faults c.loop-recorder.host) (g.H.Host.write_faults c.make_file-in-loop-recorder.new.host) c.loop-recorder.invariant.made (made_by c.args.names.now) (suc c.loop-recorder.recorder) refl (front-next c.args.names.now.playback c.args.names.now.records c.loop-recorder.recorder (let test = c.loop-recorder-test.true in let end = c.loop-recorder.invariant.end in omega (arith, test, end)) ∙ ap (λ (name : List ℕ). take (suc c.loop-recorder.recorder) (made_by c.args.names.now) ++ name ∷ []) (sym c.record.ensures)) c.in_err-make_file-2.ensures.cut)

pub returns-in_err-make_file-2-clause-fronts : goal.returns-in_err-make_file-2-clause-fronts
returns-in_err-make_file-2-clause-fronts g c =
    left-fronts g.G.Guest.sound (g.H.Host.files c.args.host.now) (g.H.Host.files c.loop-recorder.host) (g.H.Host.files c.make_file-in-loop-recorder.new.host) (take (suc c.loop-recorder.recorder) (made_by c.args.names.now)) c.record.result.now c.args.session.now c.loop-recorder.session c.make_file-in-loop-recorder.new.session (g.H.Host.write_faults c.loop-recorder.host) (g.H.Host.write_faults c.make_file-in-loop-recorder.new.host) c.loop-recorder.invariant.made c.in_err-make_file-2.ensures.cut

pub returns-in_err-make_file-2-clause-empties : goal.returns-in_err-make_file-2-clause-empties
returns-in_err-make_file-2-clause-empties g c =
    left-empties g.G.Guest.sound (g.H.Host.files c.args.host.now) (g.H.Host.files c.loop-recorder.host) (g.H.Host.files c.make_file-in-loop-recorder.new.host) (take (suc c.loop-recorder.recorder) (made_by c.args.names.now)) c.record.result.now c.args.session.now c.loop-recorder.session c.make_file-in-loop-recorder.new.session (g.H.Host.write_faults c.loop-recorder.host) (g.H.Host.write_faults c.make_file-in-loop-recorder.new.host) c.loop-recorder.invariant.made c.in_err-make_file-2.ensures.cut

pub returns-in_err-make_file-2-clause-others : goal.returns-in_err-make_file-2-clause-others
returns-in_err-make_file-2-clause-others g c =
    let left = left-out g.G.Guest.sound (g.H.Host.files c.args.host.now) (g.H.Host.files c.loop-recorder.host) (g.H.Host.files c.make_file-in-loop-recorder.new.host) (take (suc c.loop-recorder.recorder) (made_by c.args.names.now)) c.record.result.now c.args.session.now c.loop-recorder.session c.make_file-in-loop-recorder.new.session (g.H.Host.write_faults c.loop-recorder.host) (g.H.Host.write_faults c.make_file-in-loop-recorder.new.host) c.loop-recorder.invariant.made (made_by c.args.names.now) (suc c.loop-recorder.recorder) refl (front-next c.args.names.now.playback c.args.names.now.records c.loop-recorder.recorder (let test = c.loop-recorder-test.true in let end = c.loop-recorder.invariant.end in omega (arith, test, end)) ∙ ap (λ (name : List ℕ). take (suc c.loop-recorder.recorder) (made_by c.args.names.now) ++ name ∷ []) (sym c.record.ensures)) c.in_err-make_file-2.ensures.cut in
    made-touches (g.H.Host.files c.args.host.now) (g.H.Host.files c.make_file-in-loop-recorder.new.host) left.0 (made_by c.args.names.now) left.2

pub returns-in_err-make_file-2-clause-cause : goal.returns-in_err-make_file-2-clause-cause
returns-in_err-make_file-2-clause-cause g c =
    on_err c.from_residual-in_err-make_file-2.result
    (left-cause g.G.Guest.sound (g.H.Host.files c.args.host.now) (g.H.Host.files c.loop-recorder.host) (g.H.Host.files c.make_file-in-loop-recorder.new.host) (take (suc c.loop-recorder.recorder) (made_by c.args.names.now)) c.record.result.now c.args.session.now c.loop-recorder.session c.make_file-in-loop-recorder.new.session (g.H.Host.write_faults c.loop-recorder.host) (g.H.Host.write_faults c.make_file-in-loop-recorder.new.host) c.loop-recorder.invariant.made (g.H.Host.write_faults c.args.host.now) (let kept = c.loop-recorder.invariant.kept in omega (arith, kept)) c.in_err-make_file-2.ensures.cut)

pub returns-in_err-make_file-2-clause-same : goal.returns-in_err-make_file-2-clause-same
returns-in_err-make_file-2-clause-same g c =
    left-rest g.G.Guest.sound (g.H.Host.files c.args.host.now) (g.H.Host.files c.loop-recorder.host) (g.H.Host.files c.make_file-in-loop-recorder.new.host) (take (suc c.loop-recorder.recorder) (made_by c.args.names.now)) c.record.result.now c.args.session.now c.loop-recorder.session c.make_file-in-loop-recorder.new.session (g.H.Host.write_faults c.loop-recorder.host) (g.H.Host.write_faults c.make_file-in-loop-recorder.new.host) c.loop-recorder.invariant.made c.in_err-make_file-2.ensures.same

pub returns-in_err-make_file-2-clause-lent : goal.returns-in_err-make_file-2-clause-lent
returns-in_err-make_file-2-clause-lent g c = let before = c.loop-recorder.invariant.lent in let lent = c.in_err-make_file-2.ensures.lent in omega (arith, before, lent)

pub loop-recorder-preserved : goal.loop-recorder-preserved
loop-recorder-preserved g c = record {
  made =
      subst (λ (names : List (List ℕ)). HaveMade g.G.Guest.sound (g.H.Host.files c.args.host.now) (g.H.Host.files c.make_file-in-loop-recorder.new.host) names c.args.session.now c.make_file-in-loop-recorder.new.session)
      (sym (front-more c.args.names.now.playback c.args.names.now.records c.loop-recorder.recorder (let test = c.loop-recorder-test.true in let end = c.loop-recorder.invariant.end in omega (arith, test, end)) ∙ ap (λ (name : List ℕ). take (suc c.loop-recorder.recorder) (made_by c.args.names.now) ++ name ∷ []) (sym c.record.ensures)))
      (made-more g.G.Guest.sound (g.H.Host.files c.args.host.now) (g.H.Host.files c.loop-recorder.host) (g.H.Host.files c.make_file-in-loop-recorder.new.host) (take (suc c.loop-recorder.recorder) (made_by c.args.names.now)) c.record.result.now c.args.session.now c.loop-recorder.session c.make_file-in-loop-recorder.new.session c.loop-recorder.invariant.made
      c.in_ok-make_file-2.ensures.made.0 c.in_ok-make_file-2.ensures.made.1 c.in_ok-make_file-2.ensures.made.2 c.in_ok-make_file-2.ensures.same);
  end = c.loop-recorder.invariant.end;
  within = let test = c.loop-recorder-test.true in omega (arith, test);
  kept = c.in_ok-make_file-2.ensures.kept ∙ c.loop-recorder.invariant.kept;
  reads = c.in_ok-make_file-2.ensures.reads ∙ c.loop-recorder.invariant.reads;
  lent = let before = c.loop-recorder.invariant.lent in let lent = c.in_ok-make_file-2.ensures.lent in omega (arith, before, lent);
}

pub returns-clause-made : goal.returns-clause-made
returns-clause-made g c =
    let made = c.loop-recorder.invariant.made in
    let test = c.loop-recorder-test.false in
    let end = c.loop-recorder.invariant.end in
    let within = c.loop-recorder.invariant.within in
    let recorders = c.requires.recorders in
    let same = made.rest.as_many in
    let all : suc c.loop-recorder.recorder ≡ length (made_by c.args.names.now) = omega (arith, test, end, within) in
    let count = made-count g.G.Guest.sound (g.H.Host.files c.args.host.now) (g.H.Host.files c.loop-recorder.host) (suc c.loop-recorder.recorder) (made_by c.args.names.now) c.args.session.now c.loop-recorder.session made (omega (arith, all)) in (
      made.attaching,
      omega (arith, test, end, within, recorders, same, count),
      subst (λ (names : List (List ℕ)). AreOut (g.H.Host.files c.loop-recorder.host) names (stores_in c.loop-recorder.session)) (made-all (made_by c.args.names.now) (suc c.loop-recorder.recorder) all) made.out,
    )

pub returns-clause-fronts : goal.returns-clause-fronts
returns-clause-fronts g c = made-fronts g.G.Guest.sound (g.H.Host.files c.args.host.now) (g.H.Host.files c.loop-recorder.host) (take (suc c.loop-recorder.recorder) (made_by c.args.names.now)) c.args.session.now c.loop-recorder.session c.loop-recorder.invariant.made

pub returns-clause-others : goal.returns-clause-others
returns-clause-others g c = made-touches (g.H.Host.files c.args.host.now) (g.H.Host.files c.loop-recorder.host) (suc c.loop-recorder.recorder) (made_by c.args.names.now) c.loop-recorder.invariant.made.others

pub returns-clause-empties : goal.returns-clause-empties
returns-clause-empties g c = c.loop-recorder.invariant.made.empties

pub returns-clause-same : goal.returns-clause-same
returns-clause-same g c = c.loop-recorder.invariant.made.rest
