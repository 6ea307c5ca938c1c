use Rattle.std.proofs.Common.{◌≡◌, ℕ, ◌+◌, ◌∙◌, Option, Some, true, false, is_err, length, ap, subst, sym, arith}
use Rattle.jack_host.specs.Told.{BothTold}
use Rattle.driver_words.specs.Tapes.{Tape}
use Rattle.disk_recorder.specs.Recordings.{Fails, Serves}
use Rattle.disk_recorder.proofs.Blocks.{on_err}
use Rattle.recorder_files.specs.Recorders.{Recording, Tears}
use Rattle.recorder_files.proofs.Counting.{err-of, ok-of, served-count, told-of, tore}
use Rattle.recorder_files.proofs.recorder.Recorder.serve.Goals as goal

pub overflow_add-self : goal.overflow_add-self
overflow_add-self g c =
    let low = c.self.invariant.1 in let taken = c.taken-taken.ensures in let few = c.written_behind.ensures.few in
    omega (arith, low, taken, few)

pub returns-in_err-served-clause-broken : goal.returns-in_err-served-clause-broken
returns-in_err-served-clause-broken g c =
    let inside = c.self.inside in let written = c.write_all-served.new.consumer in
    let failed : c.is_err.result ≡ true = c.is_err.ensures.value ∙ ap is_err c.in_err-served.was in
    let lost = c.written_behind.ensures.lost failed in let taken = c.taken-taken.ensures in
    on_err c.from_residual.result _ (λ tape was.
    let there : inside.file ≡ Some tape = ap (λ (r : Recording). r.tape) c.self.view_is ∙ was in
    let told = told-of inside.file c.write_all-served.new.file (λ old new. Fails inside.consumer old written new) tape there
    (err-of c.write_all-served.result c.in_err-served.field-0.0 (BothTold inside.file c.write_all-served.new.file (λ old new. Fails inside.consumer old written new)) c.in_err-served.was c.write_all-served.ensures.err) in
    let after : Recording = record c.args.self.now { getting = written; tape = Some told.0; blocks = inside.blocks + c.written_behind.result } in
    let is = ap (λ (r : Recording). record r { getting = written; tape = c.write_all-served.new.file; blocks = inside.blocks + c.written_behind.result }) c.self.view_is ∙ ap (λ (t : Option Tape). record after { tape = t }) told.1 in (
      told.0,
      is,
      subst (λ (r : Recording). Tears c.args.self.now tape r told.0) (sym is)
          (tore c.args.self.now after tape told.0 c.written_behind.result
          (subst (λ (r : Recording). Fails r.getting tape written told.0) c.self.view_is told.2)
          (subst (λ (r : Recording). length r.getting.got + c.written_behind.result + 1 ≡ length written.got) c.self.view_is (omega (arith, lost, taken)))
          (ap (λ (r : Recording). r.blocks + c.written_behind.result) c.self.view_is)),
    ))

pub returns-clause-served : goal.returns-clause-served
returns-clause-served g c =
    let inside = c.self.inside in let written = c.write_all-served.new.consumer in let count = c.in_ok-served.field-0 in
    let went : c.is_err.result ≡ false = c.is_err.ensures.value ∙ ap is_err c.in_ok-served.was in
    let whole = c.written_behind.ensures.whole went in let taken = c.taken-taken.ensures in
    λ tape was.
    let there : inside.file ≡ Some tape = ap (λ (r : Recording). r.tape) c.self.view_is ∙ was in
    let told = told-of inside.file c.write_all-served.new.file (λ old new. Serves count inside.consumer old written new) tape there
    (ok-of c.write_all-served.result count (λ n. BothTold inside.file c.write_all-served.new.file (λ old new. Serves n inside.consumer old written new)) c.in_ok-served.was c.write_all-served.ensures.ok) in
    let same : c.written_behind.result ≡ count = served-count count inside.consumer written tape told.0 c.written_behind.result told.2 (omega (arith, whole, taken)) in (
      told.0,
      count,
      ap (λ (r : Recording). record r { getting = written; tape = c.write_all-served.new.file; blocks = r.blocks + c.written_behind.result }) c.self.view_is
          ∙ ap (λ (t : Option Tape). record c.args.self.now { getting = written; tape = t; blocks = c.args.self.now.blocks + c.written_behind.result }) told.1
          ∙ ap (λ (n : ℕ). record c.args.self.now { getting = written; tape = Some told.0; blocks = c.args.self.now.blocks + n }) same,
      subst (λ (r : Recording). Serves count r.getting tape written told.0) c.self.view_is told.2,
    )
