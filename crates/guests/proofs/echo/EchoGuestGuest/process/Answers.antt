use Rattle.std.proofs.Common.{◌≡◌, ◌∙◌, ◌++◌, ℤ, List, ap, ap₂, arith, length, replicate, rules}
use Rattle.std.specs.Int.{w32}
use Rattle.std.specs.Prelude.{FitsSigned}
use Rattle.std.proofs.lemmas.Int.{to_z-of_z}
use mir.Val.{of_z, to_z}
use Rattle.circular_buffer.specs.Buffer.{Buffer}
use Rattle.session_model.specs.Kinds.{fitted, input_at}
use Rattle.guests.specs.Sounds.{echoed, last, sound_by}
use Rattle.client_kinds.specs.Buffers.{buffers_of}
use Rattle.client_kinds.specs.Seats.{Playing}
use Rattle.guests.specs.Turns.{heard}
use Rattle.guests.proofs.EchoLemmas.{length-echoed}
use Rattle.guests.proofs.HearingLemmas.{heard-is, length_heard, played-all}
use Rattle.guests.proofs.echo.EchoGuestGuest.process.Goals as goal

pub returns-clause-numbers : goal.returns-clause-numbers
returns-clause-numbers c =
    let size : length (input_at c.args.ports.period (buffers_of c.args.ports.inputs c.args.ports.period c.args.input.now) 0) ≡ c.args.ports.period = length_heard c.args.ports.inputs c.args.ports.period c.args.input.now c.requires.input in
    let fits : FitsSigned w32 c.self.inside.gain = search rules in
    let plays : echoed (to_z w32 (of_z w32 c.self.inside.gain)) c.self.inside.shift c.self.inside.line.items (heard c.args.ports.period c.first_input-x.result.now) ≡ (echoed c.self.inside.gain c.self.inside.shift c.self.inside.line.items (input_at c.args.ports.period (buffers_of c.args.ports.inputs c.args.ports.period c.args.input.now) 0)) =
    ap₂ (λ gain x. echoed gain c.self.inside.shift c.self.inside.line.items x) (to_z-of_z w32 c.self.inside.gain fits) (heard-is c.args.ports.period c.first_input-x.result.now (input_at c.args.ports.period (buffers_of c.args.ports.inputs c.args.ports.period c.args.input.now) 0) c.first_input-x.ensures size) in
    ap (λ (line : Buffer ℤ). line.items) c.echo.ensures.line
    ∙ ap₂ (λ frames (y : List ℤ). last frames (c.self.inside.line.items ++ y)) c.self.invariant.1.room plays
    ∙ ap (λ (playing : Playing). ((sound_by playing.score).turn c.args._moment.now c.args.ports.outputs c.args.ports.period playing.numbers (buffers_of c.args.ports.inputs c.args.ports.period c.args.input.now)).numbers) c.self.view_is

pub returns-clause-output : goal.returns-clause-output
returns-clause-output c =
    let size : length (input_at c.args.ports.period (buffers_of c.args.ports.inputs c.args.ports.period c.args.input.now) 0) ≡ c.args.ports.period = length_heard c.args.ports.inputs c.args.ports.period c.args.input.now c.requires.input in
    let fits : FitsSigned w32 c.self.inside.gain = search rules in
    let plays : echoed (to_z w32 (of_z w32 c.self.inside.gain)) c.self.inside.shift c.self.inside.line.items (heard c.args.ports.period c.first_input-x.result.now) ≡ (echoed c.self.inside.gain c.self.inside.shift c.self.inside.line.items (input_at c.args.ports.period (buffers_of c.args.ports.inputs c.args.ports.period c.args.input.now) 0)) =
    ap₂ (λ gain x. echoed gain c.self.inside.shift c.self.inside.line.items x) (to_z-of_z w32 c.self.inside.gain fits) (heard-is c.args.ports.period c.first_input-x.result.now (input_at c.args.ports.period (buffers_of c.args.ports.inputs c.args.ports.period c.args.input.now) 0) c.first_input-x.ensures size) in
    c.repeat_first.ensures
    ∙ played-all c.args.ports.outputs c.args.ports.period c.echo.new.output (echoed c.self.inside.gain c.self.inside.shift c.self.inside.line.items (input_at c.args.ports.period (buffers_of c.args.ports.inputs c.args.ports.period c.args.input.now) 0)) (length-echoed c.self.inside.gain c.self.inside.shift c.self.inside.line.items (input_at c.args.ports.period (buffers_of c.args.ports.inputs c.args.ports.period c.args.input.now) 0) ∙ size) (c.echo.ensures.length ∙ c.requires.output)
    (λ long. c.echo.ensures.played (omega (arith, long, c.echo.ensures.length)) ∙ plays)
    ∙ ap (λ (playing : Playing). fitted c.args.ports.period c.args.ports.outputs ((sound_by playing.score).turn c.args._moment.now c.args.ports.outputs c.args.ports.period playing.numbers (buffers_of c.args.ports.inputs c.args.ports.period c.args.input.now)).outputs) c.self.view_is
