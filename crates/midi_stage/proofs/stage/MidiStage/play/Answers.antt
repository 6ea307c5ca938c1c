use Rattle.std.proofs.Common.{◌≡◌, ℕ, ◌<◌, Bool, true, false, List, [], Some, None, length, not, refl, ap, subst, sym, ◌∙◌}
use Rattle.jack_types.specs.declared.ports.Client.{Client}
use Rattle.session_model.specs.Scripts.{Script}
use Rattle.port_registry.specs.Registered.{open_clients}
use Rattle.midi_wiring.specs.cycle_plan.specs.Plans.{Planned}
use Rattle.midi_seats.specs.driver_laws.specs.Keeping.{AreOfCalls}
use Rattle.midi_wiring.specs.Hearings.{HearsPlan}
use Rattle.driver_words.specs.Hearings.{Heard}
use Rattle.midi_seats.specs.Owning.{IsShort}
use Rattle.midi_seats.specs.Seating.{client_at, midi_code}
use Rattle.midi_stage.specs.Insides.{heard_of, plan_in, script_in, staged_by}
use Rattle.midi_stage.specs.Standing.{HearsNobody, OnMidi, device_of}
use Rattle.midi_stage.specs.declared.stage.MidiStage.TheInside.{Inside}
use Rattle.midi_stage.proofs.PartLemmas.{seating-of}
use Rattle.midi_stage.proofs.StageLemmas.{HearsNobody-quiet, HearsPlan-quiet, all-seated, goes-on, none-here, none-seated, parts-here}
use Rattle.midi_stage.proofs.stage.MidiStage.play.Goals as goal
use Rattle.midi_stage.proofs.stage.MidiStage.play.Goals.{in-Some, in-None}

not-false : (b : Bool) → not b ≡ true → b ≡ false
not-false true e = sym e
not-false false e = refl

pub returns-clause-all : goal.returns-clause-all
returns-clause-all c of =
    let script : Script = script_in c.self.inside.script.items in
    let last : Planned = plan_in script c.self.inside.plan.items in
    let same : c.args.self.now.script ≡ script = sym (ap (λ (seen : OnMidi). seen.script) c.self.view_is) in
    let of_script : AreOfCalls script c.args.plan.now.changes = subst (λ (s : Script). AreOfCalls s c.args.plan.now.changes) same of in
    let goes = goes-on last c.args.plan.now (device_of script) c.args.self.now.changes c.self.invariant.base (c.requires.base ∙ ap device_of same) (ap (λ (seen : OnMidi). seen.changes) c.self.view_is) c.requires.front in
    elim c.match-self.branch [
      | in-Some w ↦
          let are = parts-here script last c.self.inside.parts w.in-Some.parts w.in-Some.is c.self.invariant.parts in
          w.result-is
          ∙ all-seated script c.args.plan.now c.nodes-nodes.ensures.planned (λ benches. c.a_scripts_clients_have_benches.ensures script c.args.plan.now benches of_script c.nodes-nodes.ensures.planned) w.perform.result w.perform.new.parts
          (w.perform.ensures.kinds ∙ are.kinds) (w.perform.ensures.stands last are.stands goes) (w.perform.ensures.short last are.stands goes)
      | in-None w ↦
          w.result-is
          ∙ ap not (none-seated script c.args.plan.now c.nodes-nodes.ensures.planned (λ benches. c.a_scripts_clients_have_benches.ensures script c.args.plan.now benches of_script c.nodes-nodes.ensures.planned) w.has_midi.result
          (none-here script last c.self.inside.parts w.in-None.is c.self.invariant.parts)
          (λ e. subst (λ (nodes : List Client). IsShort (open_clients nodes) []) c.nodes-nodes.ensures.value (w.has_midi.ensures.short e)))
    ]

pub returns-clause-hears : goal.returns-clause-hears
returns-clause-hears c heard =
    let script : Script = script_in c.self.inside.script.items in
    let last : Planned = plan_in script c.self.inside.plan.items in
    let same : c.args.self.now.script ≡ script = sym (ap (λ (seen : OnMidi). seen.script) c.self.view_is) in
    let goes = goes-on last c.args.plan.now (device_of script) c.args.self.now.changes c.self.invariant.base (c.requires.base ∙ ap device_of same) (ap (λ (seen : OnMidi). seen.changes) c.self.view_is) c.requires.front in
    elim c.match-self.branch [
      | in-Some w ↦
          let are = parts-here script last c.self.inside.parts w.in-Some.parts w.in-Some.is c.self.invariant.parts in
          subst (λ (s : Inside). HearsPlan c.args.self.now.heard c.args.plan.now c.args.moment.now c.args.period (heard_of (script_in s.script.items) s.period s.parts)) (sym w.self-inside-is)
          (subst (λ (old : Heard). HearsPlan old c.args.plan.now c.args.moment.now c.args.period (heard_of script c.args.period (Some w.perform.new.parts)))
          (ap (heard_of script c.self.inside.period) (sym w.in-Some.is) ∙ ap (λ (seen : OnMidi). seen.heard) c.self.view_is)
          (c.a_stage_hears_its_plan.ensures (staged_by c.self.inside.period w.in-Some.parts) (staged_by c.args.period w.perform.new.parts) c.args.plan.now c.args.moment.now c.args.period c.nodes-nodes.ensures.planned
          (seating-of last c.self.inside.period w.in-Some.parts are.stands) (w.perform.ensures.plays last c.self.inside.period are.stands goes refl (sym w.result-is ∙ heard))))
      | in-None w ↦
          let none : (n : ℕ) → n < length c.args.plan.now.nodes → midi_code (client_at c.args.plan.now.nodes n).kind ≡ None =
          subst (λ (nodes : List Client). (n : ℕ) → n < length nodes → midi_code (client_at nodes n).kind ≡ None) c.nodes-nodes.ensures.value (w.has_midi.ensures.none (not-false w.has_midi.result (sym w.result-is ∙ heard))) in
          subst (λ (s : Inside). HearsPlan c.args.self.now.heard c.args.plan.now c.args.moment.now c.args.period (heard_of (script_in s.script.items) s.period s.parts)) (sym w.self-inside-is)
          (subst (λ (old : Heard). HearsPlan old c.args.plan.now c.args.moment.now c.args.period (heard_of script c.args.period c.self.inside.parts)) (ap (λ (seen : OnMidi). seen.heard) c.self.view_is)
          (subst (λ parts. HearsPlan (heard_of script c.self.inside.period parts) c.args.plan.now c.args.moment.now c.args.period (heard_of script c.args.period parts)) (sym w.in-None.is)
          (HearsPlan-quiet script c.args.plan.now c.args.moment.now c.self.inside.period c.args.period none)))
    ]

pub returns-clause-nobody : goal.returns-clause-nobody
returns-clause-nobody c refused =
    let script : Script = script_in c.self.inside.script.items in
    let last : Planned = plan_in script c.self.inside.plan.items in
    let same : c.args.self.now.script ≡ script = sym (ap (λ (seen : OnMidi). seen.script) c.self.view_is) in
    let goes = goes-on last c.args.plan.now (device_of script) c.args.self.now.changes c.self.invariant.base (c.requires.base ∙ ap device_of same) (ap (λ (seen : OnMidi). seen.changes) c.self.view_is) c.requires.front in
    elim c.match-self.branch [
      | in-Some w ↦
          let are = parts-here script last c.self.inside.parts w.in-Some.parts w.in-Some.is c.self.invariant.parts in
          subst (λ (s : Inside). HearsNobody c.args.self.now.heard c.args.period (heard_of (script_in s.script.items) s.period s.parts)) (sym w.self-inside-is)
          (subst (λ (old : Heard). HearsNobody old c.args.period (heard_of script c.args.period (Some w.perform.new.parts)))
          (ap (heard_of script c.self.inside.period) (sym w.in-Some.is) ∙ ap (λ (seen : OnMidi). seen.heard) c.self.view_is)
          (w.perform.ensures.rests last c.self.inside.period are.stands goes refl (sym w.result-is ∙ refused)))
      | in-None w ↦
          subst (λ (s : Inside). HearsNobody c.args.self.now.heard c.args.period (heard_of (script_in s.script.items) s.period s.parts)) (sym w.self-inside-is)
          (subst (λ (old : Heard). HearsNobody old c.args.period (heard_of script c.args.period c.self.inside.parts)) (ap (λ (seen : OnMidi). seen.heard) c.self.view_is)
          (subst (λ parts. HearsNobody (heard_of script c.self.inside.period parts) c.args.period (heard_of script c.args.period parts)) (sym w.in-None.is)
          (HearsNobody-quiet script c.args.plan.now c.args.moment.now c.self.inside.period c.args.period)))
    ]
