use Rattle.std.proofs.Common.{ℕ, ◌+◌, ◌∙◌, List, [], None, Option, ap, arith, get_or, length, subst, sym}
use Rattle.session_model.specs.Events.{merge}
use Rattle.midi_stage.specs.declared.sounds.Sounds.{Sounds}
use Rattle.midi_stage.specs.Sounding.{HavePlayed, PlaysOn, all_heard, no_standing, sounded}
use Rattle.midi_stage.proofs.StableLemmas.{kind-played, played-more, played-same, rest-more}
use Rattle.midi_stage.proofs.cycling.play_nodes.Goals as goal
use Rattle.midi_stage.proofs.cycling.play_nodes.Goals.{in-Some, in_default}

pub loop-node-preserved : goal.loop-node-preserved
loop-node-preserved c = elim c.match-seat_of.branch [
  | in-Some w ↦ record {
    played = subst (λ (sounds : Sounds). HavePlayed c.args.lists.now c.args.nodes.now c.args.wiring.now c.args.moment.now c.args.period (c.loop-node.node + 1) c.args.benches.now c.match-seat_of.benches (sounded sounds)) (sym w.sounds-is)
        (subst (λ benches. HavePlayed c.args.lists.now c.args.nodes.now c.args.wiring.now c.args.moment.now c.args.period (c.loop-node.node + 1) c.args.benches.now benches (sounded w.play_node.new.sounds)) (sym w.benches-is)
        (played-more c.args.lists.now c.args.nodes.now c.args.wiring.now c.requires.lower c.args.moment.now c.args.period (length c.args.benches.now) (sounded c.args.sounds.now) c.requires.seated
        c.args.benches.now c.loop-node.benches (sounded c.loop-node.sounds) c.loop-node.node (ap (λ s. s.items) c.loop-node.invariant.seats) c.loop-node.invariant.played
        w.in-Some.bench (ap (λ (seats : List (Option ℕ)). get_or seats c.loop-node.node None) (sym c.deref.ensures.value) ∙ sym c.seat_of.ensures ∙ w.in-Some.is) c.loop-node.invariant.rest
        w.play_node.new.benches (sounded w.play_node.new.sounds) (ap (λ s. s.items) w.play_node.ensures.seats) (ap (λ s. s.items) w.play_node.ensures.gave) (ap (λ s. s.items) w.play_node.ensures.earlier)
        w.play_node.ensures.other_benches w.play_node.ensures.other_events (subst (λ list. PlaysOn list c.args.moment.now c.args.period (merge (all_heard (sounded c.loop-node.sounds) c.args.wiring.now c.loop-node.node)) (get_or c.loop-node.benches w.in-Some.bench no_standing) (get_or w.play_node.new.benches w.in-Some.bench no_standing) (get_or w.play_node.new.sounds.gives.items w.in-Some.bench [])) w.list_of.ensures w.play_node.ensures.plays)));
    rest = λ b none. ap (λ benches. get_or benches b no_standing) w.benches-is ∙ rest-more c.args.lists.now c.args.nodes.now c.args.wiring.now c.requires.lower c.args.moment.now c.args.period (length c.args.benches.now) (sounded c.args.sounds.now) c.requires.seated
        c.args.benches.now c.loop-node.benches (sounded c.loop-node.sounds) c.loop-node.node (ap (λ s. s.items) c.loop-node.invariant.seats) c.loop-node.invariant.played
        w.in-Some.bench (ap (λ (seats : List (Option ℕ)). get_or seats c.loop-node.node None) (sym c.deref.ensures.value) ∙ sym c.seat_of.ensures ∙ w.in-Some.is) c.loop-node.invariant.rest
        w.play_node.new.benches (sounded w.play_node.new.sounds) (ap (λ s. s.items) w.play_node.ensures.seats) (ap (λ s. s.items) w.play_node.ensures.gave) (ap (λ s. s.items) w.play_node.ensures.earlier)
        w.play_node.ensures.other_benches w.play_node.ensures.other_events (subst (λ list. PlaysOn list c.args.moment.now c.args.period (merge (all_heard (sounded c.loop-node.sounds) c.args.wiring.now c.loop-node.node)) (get_or c.loop-node.benches w.in-Some.bench no_standing) (get_or w.play_node.new.benches w.in-Some.bench no_standing) (get_or w.play_node.new.sounds.gives.items w.in-Some.bench [])) w.list_of.ensures w.play_node.ensures.plays) b none;
    kinds = λ b. ap (λ benches. (get_or benches b no_standing).kind) w.benches-is
        ∙ kind-played c.loop-node.benches w.play_node.new.benches w.in-Some.bench w.play_node.ensures.kind w.play_node.ensures.other_benches b
        ∙ c.loop-node.invariant.kinds b;
    benches = ap length w.benches-is ∙ w.play_node.ensures.benches ∙ c.loop-node.invariant.benches;
    gives = ap (λ (s : Sounds). length s.gives.items) w.sounds-is ∙ w.play_node.ensures.gives ∙ c.loop-node.invariant.gives;
    seats = ap (λ (s : Sounds). s.seats) w.sounds-is ∙ w.play_node.ensures.seats ∙ c.loop-node.invariant.seats;
    gave = ap (λ (s : Sounds). s.gave) w.sounds-is ∙ w.play_node.ensures.gave ∙ c.loop-node.invariant.gave;
    outputs = ap (λ (s : Sounds). s.outputs) w.sounds-is ∙ w.play_node.ensures.outputs ∙ c.loop-node.invariant.outputs;
    earlier = ap (λ (s : Sounds). s.earlier) w.sounds-is ∙ w.play_node.ensures.earlier ∙ c.loop-node.invariant.earlier;
    nothing = ap (λ (s : Sounds). s.nothing) w.sounds-is ∙ w.play_node.ensures.nothing;
  }
  | in_default w ↦ record {
    played = subst (λ (sounds : Sounds). HavePlayed c.args.lists.now c.args.nodes.now c.args.wiring.now c.args.moment.now c.args.period (c.loop-node.node + 1) c.args.benches.now c.match-seat_of.benches (sounded sounds)) (sym w.sounds-is)
        (subst (λ benches. HavePlayed c.args.lists.now c.args.nodes.now c.args.wiring.now c.args.moment.now c.args.period (c.loop-node.node + 1) c.args.benches.now benches (sounded c.loop-node.sounds)) (sym w.benches-is)
        (played-same c.args.lists.now c.args.nodes.now c.args.wiring.now c.requires.lower c.args.moment.now c.args.period (length c.args.benches.now) (sounded c.args.sounds.now) c.requires.seated
        c.args.benches.now c.loop-node.benches (sounded c.loop-node.sounds) c.loop-node.node (ap (λ s. s.items) c.loop-node.invariant.seats) c.loop-node.invariant.played
        (ap (λ (seats : List (Option ℕ)). get_or seats c.loop-node.node None) (sym c.deref.ensures.value) ∙ sym c.seat_of.ensures ∙ w.in_default.is)));
    rest = λ b none. ap (λ benches. get_or benches b no_standing) w.benches-is ∙ c.loop-node.invariant.rest b (λ n low e. none n (omega (arith, low)) e);
    kinds = λ b. ap (λ benches. (get_or benches b no_standing).kind) w.benches-is ∙ c.loop-node.invariant.kinds b;
    benches = ap length w.benches-is ∙ c.loop-node.invariant.benches;
    gives = ap (λ (s : Sounds). length s.gives.items) w.sounds-is ∙ c.loop-node.invariant.gives;
    seats = ap (λ (s : Sounds). s.seats) w.sounds-is ∙ c.loop-node.invariant.seats;
    gave = ap (λ (s : Sounds). s.gave) w.sounds-is ∙ c.loop-node.invariant.gave;
    outputs = ap (λ (s : Sounds). s.outputs) w.sounds-is ∙ c.loop-node.invariant.outputs;
    earlier = ap (λ (s : Sounds). s.earlier) w.sounds-is ∙ c.loop-node.invariant.earlier;
    nothing = ap (λ (s : Sounds). s.nothing) w.sounds-is ∙ c.loop-node.invariant.nothing;
  }
]
