use Rattle.std.proofs.Common.{◌∙◌, ap, arith, length, refl, sym}
use Rattle.session_run.specs.Seen.{stores_in}
use Rattle.jack_control.specs.Files.{IsPart, IsWhole}
use Rattle.jack_control.proofs.FileLemmas.{hands-part, hands-whole}
use Rattle.jack_control.proofs.HandedLemmas.{err_of, handing-end, handing-named, handing-next, handing-none, ok_of, on_err-map, on_ok-map, owing-end, owing-next, owing-none}
use Rattle.jack_control.proofs.files.hand_back.Goals as goal

pub handing-init : goal.handing-init
handing-init g c = record {
  whole = λ wanted. handing-none IsWhole (g.H.Host.files c.args.host.now) (stores_in c.args.session.now);
  part = handing-none IsPart (g.H.Host.files c.args.host.now) (stores_in c.args.session.now);
  owing = owing-none (g.H.Host.write_faults c.args.host.now) (stores_in c.args.session.now);
  later = omega arith;
  failed = tt;
  kept = λ wanted. refl;
  report = refl;
  ended = λ ended. ended;
  capture = refl;
  players = refl;
  reads = refl;
  lent = refl;
}

pub hand_one-requires-clause-out : goal.hand_one-requires-clause-out
hand_one-requires-clause-out g c κs within =
    let enough = c.requires.lent in
    let lent = c.handing.invariant.lent in
    let one = ap length c.in-Some.ensures.taken in
    omega (arith, enough, lent, one)

pub hand_one-requires-clause-named : goal.hand_one-requires-clause-named
hand_one-requires-clause-named g c κs within =
    let out = c.requires.out in
    handing-named IsPart (g.H.Host.files c.args.host.now) (g.H.Host.files c.handing.host) (stores_in c.args.session.now) (stores_in c.handing.session) (record { name = g.H.Out.Store.name c.in-Some.store; bytes = g.H.Out.Store.content c.in-Some.store; faults = g.H.Out.Store.faults c.in-Some.store }) (stores_in c.take_store.new.self)
    c.in-Some.ensures.taken c.handing.invariant.part out.0 out.1 out.2

pub handing-preserved-then-is_err : goal.handing-preserved-then-is_err
handing-preserved-then-is_err g c = record {
  whole = tt;
  part = handing-next IsPart (g.H.Host.files c.args.host.now) (g.H.Host.files c.handing.host) (g.H.Host.files c.hand_one.new.host) (stores_in c.args.session.now) (stores_in c.handing.session) (record { name = g.H.Out.Store.name c.in-Some.store; bytes = g.H.Out.Store.content c.in-Some.store; faults = g.H.Out.Store.faults c.in-Some.store }) (stores_in c.take_store.new.self)
      c.in-Some.ensures.taken c.handing.invariant.part (λ name out. hands-part (g.H.Host.files c.handing.host) (g.H.Host.files c.hand_one.new.host) name (record { name = g.H.Out.Store.name c.in-Some.store; bytes = g.H.Out.Store.content c.in-Some.store; faults = g.H.Out.Store.faults c.in-Some.store }) out c.hand_one.ensures.part);
  owing = owing-next (g.H.Host.write_faults c.args.host.now) (g.H.Host.write_faults c.handing.host) (g.H.Host.write_faults c.hand_one.new.host) (stores_in c.args.session.now) (stores_in c.handing.session) (record { name = g.H.Out.Store.name c.in-Some.store; bytes = g.H.Out.Store.content c.in-Some.store; faults = g.H.Out.Store.faults c.in-Some.store }) (stores_in c.take_store.new.self)
      c.in-Some.ensures.taken c.handing.invariant.owing c.hand_one.ensures.adds;
  later = let before = c.handing.invariant.later in let later = c.hand_one.ensures.adds.later in omega (arith, before, later);
  failed = let before = c.handing.invariant.later in let rose = err_of c.hand_one.result (sym c.is_err.ensures.value ∙ c.if-is_err.true) c.hand_one.ensures.failed in omega (arith, before, rose);
  kept = tt;
  report = c.in-Some.ensures.report ∙ c.handing.invariant.report;
  ended = λ ended. c.in-Some.ensures.ended (c.handing.invariant.ended ended);
  capture = c.in-Some.ensures.capture ∙ c.handing.invariant.capture;
  players = c.in-Some.ensures.players ∙ c.handing.invariant.players;
  reads = c.hand_one.ensures.reads ∙ c.handing.invariant.reads;
  lent = let before = c.handing.invariant.lent in let lent = c.hand_one.ensures.lent in let one = ap length c.in-Some.ensures.taken in omega (arith, before, lent, one);
}

pub handing-preserved : goal.handing-preserved
handing-preserved g c = record {
  whole =
      on_ok-map c.handing.handed
      (λ before wanted.
      handing-next IsWhole (g.H.Host.files c.args.host.now) (g.H.Host.files c.handing.host) (g.H.Host.files c.hand_one.new.host) (stores_in c.args.session.now) (stores_in c.handing.session) (record { name = g.H.Out.Store.name c.in-Some.store; bytes = g.H.Out.Store.content c.in-Some.store; faults = g.H.Out.Store.faults c.in-Some.store }) (stores_in c.take_store.new.self)
      c.in-Some.ensures.taken (before wanted)
      (λ name out. hands-whole (g.H.Host.files c.handing.host) (g.H.Host.files c.hand_one.new.host) name (record { name = g.H.Out.Store.name c.in-Some.store; bytes = g.H.Out.Store.content c.in-Some.store; faults = g.H.Out.Store.faults c.in-Some.store }) out (ok_of c.hand_one.result (sym c.is_err.ensures.value ∙ c.if-is_err.false) c.hand_one.ensures.whole wanted)))
      c.handing.invariant.whole;
  part = handing-next IsPart (g.H.Host.files c.args.host.now) (g.H.Host.files c.handing.host) (g.H.Host.files c.hand_one.new.host) (stores_in c.args.session.now) (stores_in c.handing.session) (record { name = g.H.Out.Store.name c.in-Some.store; bytes = g.H.Out.Store.content c.in-Some.store; faults = g.H.Out.Store.faults c.in-Some.store }) (stores_in c.take_store.new.self)
      c.in-Some.ensures.taken c.handing.invariant.part (λ name out. hands-part (g.H.Host.files c.handing.host) (g.H.Host.files c.hand_one.new.host) name (record { name = g.H.Out.Store.name c.in-Some.store; bytes = g.H.Out.Store.content c.in-Some.store; faults = g.H.Out.Store.faults c.in-Some.store }) out c.hand_one.ensures.part);
  owing = owing-next (g.H.Host.write_faults c.args.host.now) (g.H.Host.write_faults c.handing.host) (g.H.Host.write_faults c.hand_one.new.host) (stores_in c.args.session.now) (stores_in c.handing.session) (record { name = g.H.Out.Store.name c.in-Some.store; bytes = g.H.Out.Store.content c.in-Some.store; faults = g.H.Out.Store.faults c.in-Some.store }) (stores_in c.take_store.new.self)
      c.in-Some.ensures.taken c.handing.invariant.owing c.hand_one.ensures.adds;
  later = let before = c.handing.invariant.later in let later = c.hand_one.ensures.adds.later in omega (arith, before, later);
  failed = on_err-map c.handing.handed (λ rose. let later = c.hand_one.ensures.adds.later in omega (arith, rose, later)) c.handing.invariant.failed;
  kept = on_ok-map c.handing.handed (λ same wanted. ok_of c.hand_one.result (sym c.is_err.ensures.value ∙ c.if-is_err.false) c.hand_one.ensures.kept wanted ∙ same wanted) c.handing.invariant.kept;
  report = c.in-Some.ensures.report ∙ c.handing.invariant.report;
  ended = λ ended. c.in-Some.ensures.ended (c.handing.invariant.ended ended);
  capture = c.in-Some.ensures.capture ∙ c.handing.invariant.capture;
  players = c.in-Some.ensures.players ∙ c.handing.invariant.players;
  reads = c.hand_one.ensures.reads ∙ c.handing.invariant.reads;
  lent = let before = c.handing.invariant.lent in let lent = c.hand_one.ensures.lent in let one = ap length c.in-Some.ensures.taken in omega (arith, before, lent, one);
}

pub returns-clause-whole : goal.returns-clause-whole
returns-clause-whole g c =
    on_ok-map c.handing.handed (λ handing wanted. handing-end IsWhole (g.H.Host.files c.args.host.now) (g.H.Host.files c.handing.host) (stores_in c.args.session.now) (stores_in c.handing.session) c.in_default.ensures.none.0 (handing wanted)) c.handing.invariant.whole

pub returns-clause-part : goal.returns-clause-part
returns-clause-part g c = handing-end IsPart (g.H.Host.files c.args.host.now) (g.H.Host.files c.handing.host) (stores_in c.args.session.now) (stores_in c.handing.session) c.in_default.ensures.none.0 c.handing.invariant.part

pub returns-clause-faults : goal.returns-clause-faults
returns-clause-faults g c = owing-end (g.H.Host.write_faults c.args.host.now) (g.H.Host.write_faults c.handing.host) (stores_in c.args.session.now) (stores_in c.handing.session) c.in_default.ensures.none.0 c.handing.invariant.owing
