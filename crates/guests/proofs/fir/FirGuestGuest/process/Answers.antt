use Rattle.std.proofs.Common.{◌≡◌, ◌∙◌, ◌+◌, ◌++◌, ℤ, List, ap, ap₂, arith, drop, length, map, replicate, sym}
use Rattle.session_model.specs.Kinds.{fitted, input_at}
use Rattle.guests.specs.Sounds.{filtered_at, last, sound_by}
use Rattle.session_model.specs.Samples.{below, sample}
use Rattle.session_laws.proofs.ActivationLemmas.{length-map_below}
use Rattle.session_laws.proofs.PlaceLemmas.{map-same}
use Rattle.client_kinds.specs.Buffers.{buffers_of}
use Rattle.client_kinds.specs.Seats.{Playing}
use Rattle.guests.proofs.FilterLemmas.{behind-same, filtered-same, past-kept}
use Rattle.guests.proofs.HearingLemmas.{front, length_heard, played-all}
use Rattle.guests.proofs.fir.FirGuestGuest.process.Goals as goal

pub returns-clause-numbers : goal.returns-clause-numbers
returns-clause-numbers c =
    let size : length (input_at c.args.ports.period (buffers_of c.args.ports.inputs c.args.ports.period c.args.input.now) 0) ≡ c.args.ports.period = length_heard c.args.ports.inputs c.args.ports.period c.args.input.now c.requires.input in
    front c.self.inside.past.len c.step_past.new.past (drop (length c.step_past.new.past) c.self.inside.past.items)
    (ap length c.step_past.ensures ∙ length-map_below (λ j. sample (c.deref_mut.result.now ++ c.first_input-x.result.now) (j + c.args.ports.period)) (length c.deref_mut.result.now) ∙ c.deref_mut.ensures.len)
    ∙ c.step_past.ensures
    ∙ ap (λ (past : List ℤ). map (λ j. sample (past ++ c.first_input-x.result.now) (j + c.args.ports.period)) (below (length past))) c.deref_mut.ensures.value
    ∙ past-kept c.self.inside.past.items c.first_input-x.result.now (input_at c.args.ports.period (buffers_of c.args.ports.inputs c.args.ports.period c.args.input.now) 0) c.args.ports.period c.first_input-x.ensures size
    ∙ ap (λ n. last n (c.self.inside.past.items ++ (input_at c.args.ports.period (buffers_of c.args.ports.inputs c.args.ports.period c.args.input.now) 0))) c.self.invariant.1
    ∙ ap (λ (playing : Playing). ((sound_by playing.score).turn c.args._moment.now c.args.ports.outputs c.args.ports.period playing.numbers (buffers_of c.args.ports.inputs c.args.ports.period c.args.input.now)).numbers) c.self.view_is

pub returns-clause-output : goal.returns-clause-output
returns-clause-output c =
    let size : length (input_at c.args.ports.period (buffers_of c.args.ports.inputs c.args.ports.period c.args.input.now) 0) ≡ c.args.ports.period = length_heard c.args.ports.inputs c.args.ports.period c.args.input.now c.requires.input in
    c.repeat_first.ensures
    ∙ played-all c.args.ports.outputs c.args.ports.period c.filter.new.output (map (filtered_at c.self.inside.taps c.self.inside.shift (c.self.inside.past.items ++ (input_at c.args.ports.period (buffers_of c.args.ports.inputs c.args.ports.period c.args.input.now) 0))) (below (length (input_at c.args.ports.period (buffers_of c.args.ports.inputs c.args.ports.period c.args.input.now) 0)))) (length-map_below (filtered_at c.self.inside.taps c.self.inside.shift (c.self.inside.past.items ++ (input_at c.args.ports.period (buffers_of c.args.ports.inputs c.args.ports.period c.args.input.now) 0))) (length (input_at c.args.ports.period (buffers_of c.args.ports.inputs c.args.ports.period c.args.input.now) 0)) ∙ size) (c.filter.ensures.length ∙ c.requires.output)
    (λ long.
    c.filter.ensures.played (omega (arith, long, c.filter.ensures.length))
    ∙ ap₂ (λ (taps past : List ℤ). map (filtered_at taps c.self.inside.shift (past ++ c.first_input-x.result.now)) (below c.args.ports.period)) c.as_slice.ensures.value c.deref.ensures.value
    ∙ map-same (filtered_at c.self.inside.taps c.self.inside.shift (c.self.inside.past.items ++ c.first_input-x.result.now)) (filtered_at c.self.inside.taps c.self.inside.shift (c.self.inside.past.items ++ (input_at c.args.ports.period (buffers_of c.args.ports.inputs c.args.ports.period c.args.input.now) 0))) (below c.args.ports.period)
    (filtered-same c.self.inside.taps c.self.inside.shift (c.self.inside.past.items ++ c.first_input-x.result.now) (c.self.inside.past.items ++ (input_at c.args.ports.period (buffers_of c.args.ports.inputs c.args.ports.period c.args.input.now) 0)) (behind-same c.self.inside.past.items c.first_input-x.result.now (input_at c.args.ports.period (buffers_of c.args.ports.inputs c.args.ports.period c.args.input.now) 0) c.first_input-x.ensures))
    ∙ ap (λ n. map (filtered_at c.self.inside.taps c.self.inside.shift (c.self.inside.past.items ++ (input_at c.args.ports.period (buffers_of c.args.ports.inputs c.args.ports.period c.args.input.now) 0))) (below n)) (sym size))
    ∙ ap (λ (playing : Playing). fitted c.args.ports.period c.args.ports.outputs ((sound_by playing.score).turn c.args._moment.now c.args.ports.outputs c.args.ports.period playing.numbers (buffers_of c.args.ports.inputs c.args.ports.period c.args.input.now)).outputs) c.self.view_is
