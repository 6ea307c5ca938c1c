use Rattle.std.proofs.Common.{◌≡◌, ◌*◌, ◌∙◌, ap, arith}
use Rattle.std.proofs.lemmas.List.{length-take-le}
use Rattle.activation.specs.session_model.specs.Kinds.{play}
use Rattle.client_kinds.specs.Buffers.{buffers_of}
use Rattle.client_benches.specs.Seen.{own_scores, own_sounds}
use Rattle.client_benches.proofs.KeptLemmas.{HasScore-own}
use Rattle.client_benches.proofs.SliceLemmas.{buffers-front, buffers-take}
use Rattle.client_benches.proofs.playing.play_front.Goals as goal

pub returns-clause-bench : goal.returns-clause-bench
returns-clause-bench g c = λ i. record { kind = c.process.ensures.kind i; period = c.process.ensures.period i; score = c.process.ensures.score i; memory = memory i }
  where
    memory : c.process.new.self.memory ≡ (play (own_sounds g.G.Guest.sound c.args.bench.now) c.args.bench.now.kind c.args.bench.now.memory c.args.ports.outputs c.args.moment.now c.args.ports.period (buffers_of c.args.ports.inputs c.args.ports.period c.args.input.now)).memory
    memory = c.process.ensures.memory (own_scores c.args.bench.now) (HasScore-own c.args.bench.now)
        ∙ ap (λ inputs. (play (own_sounds g.G.Guest.sound c.args.bench.now) c.args.bench.now.kind c.args.bench.now.memory c.args.ports.outputs c.args.moment.now c.args.ports.period inputs).memory)
        (buffers-take c.args.ports.inputs c.args.ports.period _ c.args.input.now (omega (arith, ap (λ n. n * c.args.ports.period) c.from.ensures)))

pub returns-clause-output : goal.returns-clause-output
returns-clause-output g c =
    buffers-front c.args.ports.outputs c.args.ports.period c.process.new.output _ (omega (arith, ap (λ n. n * c.args.ports.period) c.from-2.ensures, c.process.auto.output, c.requires.output, length-take-le (c.from-2.result * c.args.ports.period) c.args.output.now (omega (arith, ap (λ n. n * c.args.ports.period) c.from-2.ensures, c.requires.output))))
    ∙ c.process.ensures.output (own_scores c.args.bench.now) (HasScore-own c.args.bench.now)
    ∙ ap (λ inputs. (play (own_sounds g.G.Guest.sound c.args.bench.now) c.args.bench.now.kind c.args.bench.now.memory c.args.ports.outputs c.args.moment.now c.args.ports.period inputs).outputs)
    (buffers-take c.args.ports.inputs c.args.ports.period _ c.args.input.now (omega (arith, ap (λ n. n * c.args.ports.period) c.from.ensures)))
