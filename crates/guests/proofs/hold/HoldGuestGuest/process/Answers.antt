use Rattle.std.proofs.Common.{◌≡◌, ◌∙◌, ◌-◌, [], ◌∷◌, ap, arith, length, replicate, rules, sym}
use Rattle.std.specs.Int.{w32}
use Rattle.std.specs.Prelude.{FitsSigned}
use Rattle.std.proofs.lemmas.Int.{to_z-of_z}
use Rattle.std.proofs.lemmas.List.{length-replicate}
use Rattle.session_model.specs.Kinds.{fitted, input_at}
use Rattle.guests.specs.Sounds.{sound_by}
use Rattle.client_kinds.specs.Buffers.{buffers_of}
use Rattle.client_kinds.specs.Seats.{Playing}
use Rattle.session_model.specs.Samples.{sample}
use Rattle.guests.proofs.EchoLemmas.{last-none, last-one}
use Rattle.guests.proofs.HearingLemmas.{length_heard, played-all}
use Rattle.guests.proofs.hold.HoldGuestGuest.process.Goals as goal

pub returns-then-period-gt0-clause-numbers : goal.returns-then-period-gt0-clause-numbers
returns-then-period-gt0-clause-numbers c =
    let size : length (input_at c.args.ports.period (buffers_of c.args.ports.inputs c.args.ports.period c.args.input.now) 0) ≡ c.args.ports.period = length_heard c.args.ports.inputs c.args.ports.period c.args.input.now c.requires.input in
    let fits : FitsSigned w32 c.sample_at-self-inside.result = search rules in
    ap (λ y. y ∷ []) (to_z-of_z w32 c.sample_at-self-inside.result fits ∙ c.sample_at-self-inside.ensures ∙ c.first_input-x.ensures (c.args.ports.period - 1) ∙ ap (λ n. sample (input_at c.args.ports.period (buffers_of c.args.ports.inputs c.args.ports.period c.args.input.now) 0) (n - 1)) (sym size))
    ∙ sym (last-one c.self.inside.last (input_at c.args.ports.period (buffers_of c.args.ports.inputs c.args.ports.period c.args.input.now) 0) (omega (arith, size, c.if-period-gt0.true)))
    ∙ ap (λ (playing : Playing). ((sound_by playing.score).turn c.args._moment.now c.args.ports.outputs c.args.ports.period playing.numbers (buffers_of c.args.ports.inputs c.args.ports.period c.args.input.now)).numbers) c.self.view_is

pub returns-then-period-gt0-clause-output : goal.returns-then-period-gt0-clause-output
returns-then-period-gt0-clause-output c =
    let size : length (input_at c.args.ports.period (buffers_of c.args.ports.inputs c.args.ports.period c.args.input.now) 0) ≡ c.args.ports.period = length_heard c.args.ports.inputs c.args.ports.period c.args.input.now c.requires.input in
    let fits : FitsSigned w32 c.self.inside.last = search rules in
    c.repeat_first.ensures
    ∙ played-all c.args.ports.outputs c.args.ports.period c.hold.new.output (replicate (length (input_at c.args.ports.period (buffers_of c.args.ports.inputs c.args.ports.period c.args.input.now) 0)) c.self.inside.last) (length-replicate (length (input_at c.args.ports.period (buffers_of c.args.ports.inputs c.args.ports.period c.args.input.now) 0)) c.self.inside.last ∙ size) (c.hold.ensures.length ∙ c.requires.output)
    (λ long. c.hold.ensures.played (omega (arith, long, c.hold.ensures.length)) ∙ ap (replicate c.args.ports.period) (to_z-of_z w32 c.self.inside.last fits) ∙ ap (λ n. replicate n c.self.inside.last) (sym size))
    ∙ ap (λ (playing : Playing). fitted c.args.ports.period c.args.ports.outputs ((sound_by playing.score).turn c.args._moment.now c.args.ports.outputs c.args.ports.period playing.numbers (buffers_of c.args.ports.inputs c.args.ports.period c.args.input.now)).outputs) c.self.view_is

pub returns-else-period-gt0-clause-numbers : goal.returns-else-period-gt0-clause-numbers
returns-else-period-gt0-clause-numbers c =
    let size : length (input_at c.args.ports.period (buffers_of c.args.ports.inputs c.args.ports.period c.args.input.now) 0) ≡ c.args.ports.period = length_heard c.args.ports.inputs c.args.ports.period c.args.input.now c.requires.input in
    ap (λ (playing : Playing). playing.numbers) (sym c.self.view_is)
    ∙ sym (last-none c.self.inside.last (input_at c.args.ports.period (buffers_of c.args.ports.inputs c.args.ports.period c.args.input.now) 0) (omega (arith, size, c.if-period-gt0.false)))
    ∙ ap (λ (playing : Playing). ((sound_by playing.score).turn c.args._moment.now c.args.ports.outputs c.args.ports.period playing.numbers (buffers_of c.args.ports.inputs c.args.ports.period c.args.input.now)).numbers) c.self.view_is

pub returns-else-period-gt0-clause-output : goal.returns-else-period-gt0-clause-output
returns-else-period-gt0-clause-output c =
    let size : length (input_at c.args.ports.period (buffers_of c.args.ports.inputs c.args.ports.period c.args.input.now) 0) ≡ c.args.ports.period = length_heard c.args.ports.inputs c.args.ports.period c.args.input.now c.requires.input in
    let fits : FitsSigned w32 c.self.inside.last = search rules in
    c.repeat_first.ensures
    ∙ played-all c.args.ports.outputs c.args.ports.period c.hold.new.output (replicate (length (input_at c.args.ports.period (buffers_of c.args.ports.inputs c.args.ports.period c.args.input.now) 0)) c.self.inside.last) (length-replicate (length (input_at c.args.ports.period (buffers_of c.args.ports.inputs c.args.ports.period c.args.input.now) 0)) c.self.inside.last ∙ size) (c.hold.ensures.length ∙ c.requires.output)
    (λ long. c.hold.ensures.played (omega (arith, long, c.hold.ensures.length)) ∙ ap (replicate c.args.ports.period) (to_z-of_z w32 c.self.inside.last fits) ∙ ap (λ n. replicate n c.self.inside.last) (sym size))
    ∙ ap (λ (playing : Playing). fitted c.args.ports.period c.args.ports.outputs ((sound_by playing.score).turn c.args._moment.now c.args.ports.outputs c.args.ports.period playing.numbers (buffers_of c.args.ports.inputs c.args.ports.period c.args.input.now)).outputs) c.self.view_is
