use Rattle.std.proofs.Common.{arith, inr}
use Rattle.jack_control.proofs.FileLemmas.{out-made}
use Rattle.jack_control.proofs.files.make_file.Goals as goal

pub returns-in-Ok-clause-made : goal.returns-in-Ok-clause-made
returns-in-Ok-clause-made g c =
    let store = c.in-Ok.ensures.store in (
      c.in-Ok.ensures.attached.0,
      c.in-Ok.ensures.attached.1,
      record {
        made = c.in_ok-store.ensures.made;
        back = store.0;
        stores = store.1;
        out = out-made (g.H.Host.files c.args.host.now) (g.H.Host.files c.make_out.new.self) c.args.name.now (g.H.Out.Store.name c.in_ok-store.store) (g.H.Out.Store.content c.in_ok-store.store) store.0
            c.in_ok-store.ensures.name c.in_ok-store.ensures.empty c.in_ok-store.ensures.made store.2 store.3;
      },
    )

pub returns-in-Err-clause-cut : goal.returns-in-Err-clause-cut
returns-in-Err-clause-cut g c =
    let store = c.in-Err.ensures.store in
    let rose = store.5.0 in
    let fresh = c.in_ok-store.ensures.fresh in
    inr (
      record {
        made = c.in_ok-store.ensures.made;
        back = store.0;
        stores = store.1;
        out = out-made (g.H.Host.files c.args.host.now) (g.H.Host.files c.make_out.new.self) c.args.name.now (g.H.Out.Store.name c.in_ok-store.store) (g.H.Out.Store.content c.in_ok-store.store) store.0
            c.in_ok-store.ensures.name c.in_ok-store.ensures.empty c.in_ok-store.ensures.made store.2 store.3;
      },
      omega (arith, rose, fresh),
      store.5.1,
    )
