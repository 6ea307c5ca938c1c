use Rattle.std.proofs.Common.{◌≡◌, List, ℕ, length, take, subst, ap, arith}
use Rattle.jack_host.specs.Bytes.{Holds}
use Rattle.wave_write.proofs.FinishingLemmas.{on_err, part_at_pad, part_at_riff, part_last, finished_last, reaches_size}
use Rattle.wave_write.proofs.finishing.complete.Goals as goal

pub returns-in_err-pad-clause-part : goal.returns-in_err-pad-clause-part
returns-in_err-pad-clause-part g c =
    on_err _ _ (part_at_pad _ _ c.args.written c.in_err-pad.ensures.bytes.0 c.requires.long c.in_err-pad.ensures.bytes.2)

pub returns-in_err-write-clause-part : goal.returns-in_err-write-clause-part
returns-in_err-write-clause-part g c =
    let cut = c.in_err-write.ensures.bytes in
    let count : length c.to_le_bytes.result ≡ 4 = ap length c.to_le_bytes.ensures in
    on_err _ _ (part_at_riff _ (g.W.Store.content c.pad.new.store) (g.W.Store.content c.write.new.store) c.args.written cut.0 c.requires.long c.in_ok-pad.ensures.bytes
    (omega (arith, cut.1, count))
    (subst (λ (p : List ℕ). Holds (g.W.Store.content c.pad.new.store) (g.W.Store.content c.write.new.store) 4 (take cut.0 p)) c.to_le_bytes.ensures cut.2))

pub write-requires-2 : goal.write-requires-2
write-requires-2 g c =
    reaches_size _ (g.W.Store.content c.pad.new.store) (g.W.Store.content c.write.new.store) c.args.written c.to_le_bytes.result _ (ap length c.to_le_bytes.ensures) c.requires.long c.in_ok-pad.ensures.bytes c.in_ok-write.ensures.bytes

pub returns-clause-finished : goal.returns-clause-finished
returns-clause-finished g c =
    finished_last c.write-2.result _ (g.W.Store.content c.pad.new.store) (g.W.Store.content c.write.new.store) _ c.args.written c.to_le_bytes-2.result c.to_le_bytes-2.ensures c.requires.long c.in_ok-pad.ensures.bytes
    (subst (λ (p : List ℕ). Holds (g.W.Store.content c.pad.new.store) (g.W.Store.content c.write.new.store) 4 p) c.to_le_bytes.ensures c.in_ok-write.ensures.bytes)
    c.write-2.ensures.bytes

pub returns-clause-part : goal.returns-clause-part
returns-clause-part g c =
    part_last c.write-2.result _ (g.W.Store.content c.pad.new.store) (g.W.Store.content c.write.new.store) _ c.args.written c.to_le_bytes-2.result c.to_le_bytes-2.ensures c.requires.long c.in_ok-pad.ensures.bytes
    (subst (λ (p : List ℕ). Holds (g.W.Store.content c.pad.new.store) (g.W.Store.content c.write.new.store) 4 p) c.to_le_bytes.ensures c.in_ok-write.ensures.bytes)
    c.write-2.ensures.bytes
