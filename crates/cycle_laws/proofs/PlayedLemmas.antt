-- What the calls of a cycle played is the driver's own.
--     calls-now, calls-last, calls-behind      what the cycle took is of the script's calls; so is what the one before took, and what the stage has behind it
--     device-now      the device has a port for each channel that was captured
--     plays-own      where the stage played what is settled, the cycle played what is the driver's own
use Rattle.std.proofs.Common.{◌≡◌, ℕ, ◌<◌, Bool, true, List, length, map, ℤ, Some, None, sym, ◌∙◌, ap, ap₂, subst, arith}
use Rattle.std.specs.Option.{option_map}
use Rattle.std.proofs.lemmas.List.{length-map}
use Rattle.jack_types.specs.declared.commands.Change.{Change}
use Rattle.jack_types.specs.declared.moments.Moment.{Moment}
use Rattle.session_model.specs.Benches.{Bench, IsPlan, IsReady, node_at}
use Rattle.session_model.specs.Commands.{replay}
use Rattle.session_model.specs.Cycles.{audio_outputs, player_born}
use Rattle.session_model.specs.Kinds.{Sound}
use Rattle.session_model.specs.Samples.{below}
use Rattle.session_model.specs.State.{OpenClient, capture_port, opening, system_name}
use Rattle.client_kinds.specs.Scores.{Score}
use Rattle.session_laws.proofs.SequentialLemmas.{length-below}
use Rattle.port_registry.specs.Registered.{open_client, open_clients}
use Rattle.plan_transport.specs.cycle_plan.specs.Plans.{Planned, state_of_plan}
use Rattle.graph_word.specs.declared.plans.Base.{Base}
use Rattle.plan_transport.specs.driver_laws.specs.Cycling.{MayCycle, StepsOnce}
use Rattle.plan_transport.specs.driver_laws.specs.Drivers.{Driver, bench_at, content_now, memory_in}
use Rattle.plan_transport.specs.driver_laws.specs.Keeping.{AreOfCalls}
use Rattle.plan_transport.specs.driver_laws.specs.Playing.{PlaysOwn, own_course, settled_now}
use Rattle.midi_wiring.specs.Hearings.{HearsPlan}
use Rattle.client_seats.proofs.SeatLemmas.{bench-within}
use Rattle.play_laws.specs.Plays.{PlaysPlan, bench_on, with_log}
use Rattle.cycle_laws.specs.Gears.{Gear, IsGear, driver_of}
use Rattle.cycle_laws.specs.Turnings.{Turns}
use Rattle.cycle_laws.proofs.FrontLemmas.{AreOfCalls-front}
use Rattle.cycle_laws.proofs.SeenLemmas.{bench-seen, memory-logged}
use Rattle.cycle_laws.proofs.SettledLemmas.{base-now, content-now, goes-on, graph-now}

module _ (sounding : Score → Sound) {freewheel : Bool} {before after : Gear} {plan : Planned} {moment : Moment} (gear : IsGear sounding before) (may : MayCycle (driver_of sounding before) freewheel) (turns : Turns sounding freewheel before plan moment after)
    (steps : StepsOnce (driver_of sounding before) (driver_of sounding after)) (of_calls : AreOfCalls before.script (content_now (driver_of sounding after))) where
  abbrev driver : Driver
  driver = driver_of sounding before

  abbrev played : Driver
  played = driver_of sounding after

  pub calls-now : AreOfCalls before.script plan.changes
  calls-now = subst (AreOfCalls before.script) (content-now sounding gear may turns steps) of_calls

  -- the changes that the stage played last are a front of the plan's
  pub calls-last : AreOfCalls before.script before.stage.plan.changes
  calls-last = AreOfCalls-front before.script before.stage.plan.changes plan.changes (goes-on sounding gear may turns steps).front calls-now

  pub calls-behind : AreOfCalls after.script after.stage.plan.changes
  calls-behind = subst (λ (p : Planned). AreOfCalls after.script p.changes) (sym turns.plan_is) (subst (λ script. AreOfCalls script plan.changes) (sym turns.script) calls-now)

  within-nodes : (n : ℕ) → n < length plan.nodes → n < length (open_clients plan.nodes)
  within-nodes n low = subst (λ k. n < k) (sym (length-map plan.nodes open_client)) low

  -- the device has a port for each channel that was captured
  pub device-now : ((capture playback : ℕ) (changes : List Change) → audio_outputs (replay (opening capture playback) changes) system_name ≡ map capture_port (below capture))
      → length after.capture.channels ≡ before.script.header.capture → length after.capture.channels ≡ length (audio_outputs (state_of_plan plan) system_name)
  device-now has_ports captured =
      captured
      ∙ sym (ap (λ (base : Base). base.capture) (base-now sounding gear may turns steps))
      ∙ sym (length-below plan.base.capture)
      ∙ sym (length-map (below plan.base.capture) capture_port)
      ∙ sym (ap length (has_ports plan.base.capture plan.base.playback plan.changes))

  nodes-now : open_clients after.stage.staged.nodes ≡ open_clients plan.nodes
  nodes-now = ap open_clients turns.stands.stands.nodes

  within-plan : (n : ℕ) → n < length (open_clients after.stage.staged.nodes) → n < length plan.nodes
  within-plan n low = subst (λ k. n < k) (ap length nodes-now ∙ length-map plan.nodes open_client) low

  abbrev client : ℕ → OpenClient
  client n = node_at (open_clients plan.nodes) n

  module _ (left : List ℤ) (staffed : after.stage.staged.is_staffed ≡ true) (hears : HearsPlan before.events plan moment before.set after.events)
      (plays : PlaysPlan sounding (own_course driver) before.stage.staged plan (settled_now driver played left) after.events after.stage.staged) where
    -- each node of the plan has its bench
    bench-now : (n : ℕ) → n < length plan.nodes → bench_at played n ≡ bench_on sounding plan after.events after.stage.staged n
    bench-now n low =
        bench-seen sounding after n (bench-within (open_clients plan.nodes) after.stage.staged.racked after.stage.staged.owned n n turns.stands.stands.seating ((turns.stands.staffed staffed).has n low))
        ∙ ap (λ (p : Planned). bench_on sounding p after.events after.stage.staged n) turns.plan_is

    -- and its client remembers what the bench does
    remembered-now : (n : ℕ) → n < length plan.nodes → memory_in played (client n).birth ≡ Some (bench_at played n).memory
    remembered-now n low =
        memory-logged sounding after (client n).birth
        ∙ plays.remembered n low
        ∙ ap (λ (bench : Bench). Some bench.memory) (sym (bench-now n low))

    -- who does not play has the same memory, with the same log
    others-now : (birth : ℕ) → player_born (state_of_plan plan) birth ≡ None → memory_in played birth ≡ memory_in driver birth
    others-now birth none =
        memory-logged sounding after birth
        ∙ ap₂ (λ log held. option_map (with_log log) held) (hears.others birth unborn) (plays.others birth none)
        ∙ sym (memory-logged sounding before birth)
      where
        not_none : (player : OpenClient) → Some player ≡ None → ⊥
        not_none player p = cc

        unborn : (n : ℕ) → n < length plan.nodes → (client n).birth ≡ birth → ⊥
        unborn n low e = not_none (client n) (sym (turns.planned.is_plan.born n (within-nodes n low)) ∙ ap (player_born (state_of_plan plan)) e ∙ none)

    pub plays-own : (0 < length before.disks.disks → before.set ≡ before.script.header.period) → PlaysOwn driver played left
    plays-own first_period = record {
      period = may.period_is;
      full = λ disk low. first_period (omega (arith, low));
      transport = steps.transport of_calls;
      moments = steps.moments;
      links = plan.links;
      before = plays.before;
      plan = subst (λ state. IsPlan state (open_clients after.stage.staged.nodes) plan.links) (sym (graph-now sounding gear may turns steps))
          (subst (λ nodes. IsPlan (state_of_plan plan) nodes plan.links) (sym nodes-now) turns.planned.is_plan);
      ready = subst (λ nodes. IsReady (own_course driver) (settled_now driver played left) nodes plan.links plays.before) (sym nodes-now) plays.ready;
      played = λ n low. bench-now n (within-plan n low) ∙ plays.played n (within-plan n low);
      remembered = λ n low. ap (λ nodes. memory_in played (node_at nodes n).birth) nodes-now ∙ remembered-now n (within-plan n low);
      others = λ birth none. others-now birth (ap (λ state. player_born state birth) (sym (graph-now sounding gear may turns steps)) ∙ none);
    }
