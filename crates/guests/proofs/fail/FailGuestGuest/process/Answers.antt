use Rattle.std.proofs.Common.{◌≡◌, ◌∙◌, ap, arith, length, replicate}
use Rattle.session_model.specs.Kinds.{fitted, input_at}
use Rattle.guests.specs.Sounds.{sound_by}
use Rattle.client_kinds.specs.Buffers.{buffers_of}
use Rattle.client_kinds.specs.Seats.{Playing}
use Rattle.guests.proofs.HearingLemmas.{heard-is, length_heard, played-all}
use Rattle.guests.proofs.fail.FailGuestGuest.process.Goals as goal

pub returns-clause-output : goal.returns-clause-output
returns-clause-output c =
    let size : length (input_at c.args.ports.period (buffers_of c.args.ports.inputs c.args.ports.period c.args.input.now) 0) ≡ c.args.ports.period = length_heard c.args.ports.inputs c.args.ports.period c.args.input.now c.requires.input in
    c.repeat_first.ensures
    ∙ played-all c.args.ports.outputs c.args.ports.period c.copy.new.output (input_at c.args.ports.period (buffers_of c.args.ports.inputs c.args.ports.period c.args.input.now) 0) size (c.copy.ensures.length ∙ c.requires.output)
    (λ long. c.copy.ensures.played (omega (arith, long, c.copy.ensures.length)) ∙ heard-is c.args.ports.period c.first_input.result.now (input_at c.args.ports.period (buffers_of c.args.ports.inputs c.args.ports.period c.args.input.now) 0) c.first_input.ensures size)
    ∙ ap (λ (playing : Playing). fitted c.args.ports.period c.args.ports.outputs ((sound_by playing.score).turn c.args._moment.now c.args.ports.outputs c.args.ports.period playing.numbers (buffers_of c.args.ports.inputs c.args.ports.period c.args.input.now)).outputs) c.self.view_is
