use Rattle.std.proofs.Common.{◌≡◌, ◌+◌, ◌∙◌, Option, Some, true, false, is_err, length, ap, ap₂, subst, arith}
use Rattle.jack_host.specs.Told.{BothTold}
use Rattle.driver_words.specs.Rings.{Getting}
use Rattle.driver_words.specs.Tapes.{Tape}
use Rattle.disk_recorder.specs.Recordings.{Drains, Fails}
use Rattle.disk_recorder.proofs.Blocks.{on_err}
use Rattle.recorder_files.specs.Recorders.{BreaksOff, GivesUp, Recording}
use Rattle.recorder_files.proofs.Counting.{broke-off, err-of, gave-up, ok-of, told-of}
use Rattle.recorder_files.proofs.recorder.Recorder.give_up.Goals as goal

pub overflow_add-self : goal.overflow_add-self
overflow_add-self g c =
    let same : length c.renew.new.consumer.got ≡ length c.self.inside.consumer.got = ap (λ (e : Getting). length e.got) c.renew.ensures.getting_is in
    let low = c.self.invariant.1 in let taken = c.taken-taken.ensures in let few = c.written_behind.ensures.few in
    omega (arith, same, low, taken, few)

pub returns-in_err-given-clause-broken : goal.returns-in_err-given-clause-broken
returns-in_err-given-clause-broken g c =
    let inside = c.self.inside in let met = c.renew.new.consumer in let written = c.write-given.new.consumer in
    let failed : c.is_err.result ≡ true = c.is_err.ensures.value ∙ ap is_err c.in_err-given.was in
    let lost = c.written_behind.ensures.lost failed in let taken = c.taken-taken.ensures in
    on_err c.from_residual.result _ (λ tape was.
    let there : inside.file ≡ Some tape = ap (λ (r : Recording). r.tape) c.self.view_is ∙ was in
    let told = told-of inside.file c.write-given.new.file (λ old new. Fails met old written new) tape there (err-of c.write-given.result c.in_err-given.field-0.0 (BothTold inside.file c.write-given.new.file (λ old new. Fails met old written new)) c.in_err-given.was c.write-given.ensures.err) in (
      told.0,
      ap₂ (λ (r : Recording) (t : Option Tape). record r { getting = c.renew-2.new.consumer; tape = t; blocks = inside.blocks + c.written_behind.result }) c.self.view_is told.1,
      subst (λ (r : Recording). BreaksOff (record { ring = c.args.producer.now; getting = r.getting; tape = tape; blocks = r.blocks }) (record { ring = c.renew-2.new.producer; getting = c.renew-2.new.consumer; tape = told.0; blocks = inside.blocks + c.written_behind.result }))
          c.self.view_is
          (broke-off c.args.producer.now c.renew.new.producer c.renew-2.new.producer inside.consumer met written c.renew-2.new.consumer inside.blocks c.written_behind.result tape told.0 c.renew.ensures told.2 c.renew-2.ensures (omega (arith, lost, taken))),
    ))

pub returns-clause-given : goal.returns-clause-given
returns-clause-given g c =
    let inside = c.self.inside in let met = c.renew.new.consumer in let written = c.write-given.new.consumer in let count = c.in_ok-given.field-0 in
    let went : c.is_err.result ≡ false = c.is_err.ensures.value ∙ ap is_err c.in_ok-given.was in
    let whole = c.written_behind.ensures.whole went in let taken = c.taken-taken.ensures in
    λ tape was.
    let there : inside.file ≡ Some tape = ap (λ (r : Recording). r.tape) c.self.view_is ∙ was in
    let told = told-of inside.file c.write-given.new.file (λ old new. Drains c.args.most count met old written new) tape there
    (ok-of c.write-given.result count (λ n. BothTold inside.file c.write-given.new.file (λ old new. Drains c.args.most n met old written new)) c.in_ok-given.was c.write-given.ensures.ok) in (
      told.0,
      ap₂ (λ (r : Recording) (t : Option Tape). record r { getting = c.renew-2.new.consumer; tape = t; blocks = inside.blocks + c.written_behind.result }) c.self.view_is told.1,
      subst (λ (r : Recording). GivesUp c.args.most (record { ring = c.args.producer.now; getting = r.getting; tape = tape; blocks = r.blocks }) (record { ring = c.renew-2.new.producer; getting = c.renew-2.new.consumer; tape = told.0; blocks = inside.blocks + c.written_behind.result }))
          c.self.view_is
          (gave-up c.args.most count c.args.producer.now c.renew.new.producer c.renew-2.new.producer inside.consumer met written c.renew-2.new.consumer inside.blocks c.written_behind.result tape told.0 c.renew.ensures told.2 c.renew-2.ensures (omega (arith, whole, taken))),
    )
