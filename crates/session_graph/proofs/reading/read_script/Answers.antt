use Rattle.std.proofs.Common.{◌≡◌, ℕ, List, subst, sym, take}
use Rattle.session_model.specs.Grammar.{Spells}
use Rattle.session_graph.specs.Files.{IfBytes, IsOfScript}
use Rattle.session_graph.proofs.FileLemmas.{fault-told, if_bytes_map}
use Rattle.session_graph.proofs.reading.read_script.Goals as goal

pub returns-clause-fault : goal.returns-clause-fault
returns-clause-fault g c =
    subst (IsOfScript (g.H.Host.files c.args.host.now) c.args.name.now) (sym c.fault_of.ensures)
    (fault-told (g.H.Host.files c.args.host.now) c.args.name.now c.deref.result.now c.in-Err.fault
    (subst (λ (bytes : List ℕ). IfBytes (g.H.Host.files c.args.host.now) c.args.name.now (λ whole. bytes ≡ take 1048577 whole)) (sym c.deref.ensures.value) c.in_ok-bytes.ensures.bytes) c.in-Err.ensures.fault)

pub returns-in-Ok-clause-script : goal.returns-in-Ok-clause-script
returns-in-Ok-clause-script g c =
    if_bytes_map (g.H.Host.files c.args.host.now) c.args.name.now (λ whole. c.deref.result.now ≡ take 1048577 whole) (λ bytes. Spells (take 1048577 bytes) c.in-Ok.script)
    (λ whole same. subst (λ (bytes : List ℕ). Spells bytes c.in-Ok.script) same c.in-Ok.ensures.script)
    (subst (λ (bytes : List ℕ). IfBytes (g.H.Host.files c.args.host.now) c.args.name.now (λ whole. bytes ≡ take 1048577 whole)) (sym c.deref.ensures.value) c.in_ok-bytes.ensures.bytes)
