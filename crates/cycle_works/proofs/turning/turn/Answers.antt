use Rattle.std.proofs.Common.{◌≡◌, ◌+◌, List, length, All, drop, refl, sym, ◌∙◌, ap, subst, arith}
use Rattle.jack_types.specs.declared.ports.Client.{Client}
use Rattle.session_model.specs.Transport.{next_row, slow_numbers, timeout_of}
use Rattle.port_registry.specs.Registered.{open_clients}
use Rattle.midi_stage.specs.cycle_plan.specs.Plans.{Planned, state_of_plan}
use Rattle.graph_word.specs.Publications.{IsFront, Reading}
use Rattle.session_model.specs.Scripts.{Script}
use Rattle.client_stage.specs.disk_feeds.specs.Cycling.{GetsAll}
use Rattle.driver_words.specs.Feeding.{Fed}
use Rattle.midi_stage.specs.driver_laws.specs.Keeping.{AreOfCalls}
use Rattle.midi_stage.specs.Standing.{device_of}
use Rattle.transport.specs.Standings.{HasTarget}
use Rattle.cycle_laws.specs.Gears.{StandsOn}
use Rattle.cycle_blocks.specs.Blocks.{Sends}
use Rattle.cycle_works.specs.Insides.{gear_of}
use Rattle.cycle_laws.proofs.FrontLemmas.{front-front}
use Rattle.cycle_works.proofs.ResultLemmas.{any-err, either, last-row}
use Rattle.cycle_works.proofs.turning.turn.Goals as goal

pub begin-last-requires-clause-later : goal.begin-last-requires-clause-later
begin-last-requires-clause-later g c = last-row c.args.parts.now.reader.0.rows (length c.args.parts.now.numbers.items) c.requires.may.4.rows.cycles

pub begin-last-requires-clause-few : goal.begin-last-requires-clause-few
begin-last-requires-clause-few g c =
    let gear = gear_of {S = g.row.S.Denot} {G = g.row.G.Denot} c.requires.may.0 c.requires.may.1 c.requires.may.2 c.args.parts.now in
    let few = c.a_cycle_may_be_played.ensures.cycles g.G.Guest.sound gear c.args.freewheel c.requires.may.3 c.requires.may.4 in
    let same = (c.requires.may.3.in_step c.requires.may.4.sound).cycles in
    omega (arith, few, same)

pub step_by_plan-moment-requires-clause-cycles : goal.step_by_plan-moment-requires-clause-cycles
step_by_plan-moment-requires-clause-cycles g c = c.a_cycle_may_be_played.ensures.cycles g.G.Guest.sound (gear_of {S = g.row.S.Denot} {G = g.row.G.Denot} c.requires.may.0 c.requires.may.1 c.requires.may.2 c.args.parts.now) c.args.freewheel c.requires.may.3 c.requires.may.4

pub step_by_plan-moment-requires-clause-frames : goal.step_by_plan-moment-requires-clause-frames
step_by_plan-moment-requires-clause-frames g c = c.a_cycle_may_be_played.ensures.frames g.G.Guest.sound (gear_of {S = g.row.S.Denot} {G = g.row.G.Denot} c.requires.may.0 c.requires.may.1 c.requires.may.2 c.args.parts.now) c.args.freewheel c.requires.may.3 c.requires.may.4

pub step_by_plan-moment-requires-clause-period : goal.step_by_plan-moment-requires-clause-period
step_by_plan-moment-requires-clause-period g c =
    let least = (c.a_cycle_may_be_played.ensures.period g.G.Guest.sound (gear_of {S = g.row.S.Denot} {G = g.row.G.Denot} c.requires.may.0 c.requires.may.1 c.requires.may.2 c.args.parts.now) c.args.freewheel c.requires.may.3 c.requires.may.4).0 in
    omega (arith, least)

pub capture_period-requires-clause-room : goal.capture_period-requires-clause-room
capture_period-requires-clause-room g c =
    let within = (c.a_cycle_may_be_played.ensures.sends g.G.Guest.sound (gear_of {S = g.row.S.Denot} {G = g.row.G.Denot} c.requires.may.0 c.requires.may.1 c.requires.may.2 c.args.parts.now) c.args.freewheel c.requires.may.3 c.requires.may.4).period in
    omega (arith, within, c.requires.may.3.rings_room, c.requires.may.3.capture_room)

pub returns-in_err-capture_period-clause-failed : goal.returns-in_err-capture_period-clause-failed
returns-in_err-capture_period-clause-failed g c script playback failed = any-err c.from_residual.result _ record {
  number = c.begin-last.ensures.begun.0;
  taken = c.begin-last.ensures.begun.1;
  takes = c.begin-last.ensures.begun.2;
  begins = c.begin-last.ensures.begun.3;
  numbers = c.begin-last.ensures.begun.4;
  rate = c.step_by_plan-moment.ensures.rate;
  room = c.capture_period.ensures.room;
  same = refl;
}

pub get_blocks-requires : goal.get_blocks-requires
get_blocks-requires g c = c.a_cycle_may_be_played.ensures.disks g.G.Guest.sound (gear_of {S = g.row.S.Denot} {G = g.row.G.Denot} c.requires.may.0 c.requires.may.1 c.requires.may.2 c.args.parts.now) c.args.freewheel c.requires.may.3 c.requires.may.4

pub play-requires-clause-periods : goal.play-requires-clause-periods
play-requires-clause-periods g c κs within some = ap (λ (disks : Fed). disks.period) c.get_blocks.ensures.same ∙ c.requires.may.3.disks.period ∙ sym c.requires.may.3.room

pub play-requires-2-clause-base : goal.play-requires-2-clause-base
play-requires-2-clause-base g c =
    c.place-plan.ensures.base ∙ ap (λ (r : Reading). r.base) c.begin-last.ensures.begun.3.after_is ∙ ap (λ (r : Reading). r.base) c.begin-last.ensures.begun.2.same
    ∙ c.requires.may.4.rows.base ∙ ap device_of (sym c.requires.may.7)

pub play-requires-2-clause-front : goal.play-requires-2-clause-front
play-requires-2-clause-front g c =
    subst (λ changes. IsFront changes c.place-plan.result.now.changes) (sym c.requires.midi)
    (subst (IsFront c.args.parts.now.stage.plan.changes) (sym (c.place-plan.ensures.content ∙ ap (λ (r : Reading). r.held) c.begin-last.ensures.begun.3.after_is))
    (front-front c.args.parts.now.stage.plan.changes c.args.parts.now.reader.0.held c.begin-last.ensures.begun.1.held c.requires.may.4.rows.place c.begin-last.ensures.begun.2.front))

pub play-requires-clause-period : goal.play-requires-clause-period
play-requires-clause-period g c =
    let within = (c.a_cycle_may_be_played.ensures.sends g.G.Guest.sound (gear_of {S = g.row.S.Denot} {G = g.row.G.Denot} c.requires.may.0 c.requires.may.1 c.requires.may.2 c.args.parts.now) c.args.freewheel c.requires.may.3 c.requires.may.4).period in
    omega (arith, within, c.requires.may.3.rings_room, c.requires.may.3.room)

pub send_blocks-requires : goal.send_blocks-requires
send_blocks-requires g c = c.a_cycle_may_be_played.ensures.sends g.G.Guest.sound (gear_of {S = g.row.S.Denot} {G = g.row.G.Denot} c.requires.may.0 c.requires.may.1 c.requires.may.2 c.args.parts.now) c.args.freewheel c.requires.may.3 c.requires.may.4

pub returns-clause-turned : goal.returns-clause-turned
returns-clause-turned g c script playback later failed stops of_script = (
  c.place-plan.result.now,
  c.step_by_plan-moment.result,
  record {
    number = c.begin-last.ensures.begun.0;
    taken = c.begin-last.ensures.begun.1;
    takes = c.begin-last.ensures.begun.2;
    begins = c.begin-last.ensures.begun.3;
    content = c.place-plan.ensures.content ∙ ap (λ (r : Reading). r.held) c.begin-last.ensures.begun.3.after_is;
    base = c.place-plan.ensures.base ∙ ap (λ (r : Reading). r.base) c.begin-last.ensures.begun.3.after_is;
    planned = c.nodes-nodes.ensures.planned;
    numbers = c.begin-last.ensures.begun.4;
    moments = c.push_reserved.ensures.items;
    standing =
        ap (λ n. record c.step_by_plan-moment.new.transport { rate = n }) c.step_by_plan-moment.ensures.rate
        ∙ ap (λ n. record c.step_by_plan-moment.new.transport { rate = c.args.parts.now.transport.rate; cycles = n }) c.step_by_plan-moment.ensures.cycles
        ∙ ap (λ n. record c.step_by_plan-moment.new.transport { rate = c.args.parts.now.transport.rate; cycles = c.args.parts.now.transport.cycles + 1; frames = n }) c.step_by_plan-moment.ensures.frames;
    row = subst (λ from. All HasTarget (drop from c.place-plan.result.now.changes)
        → c.step_by_plan-moment.new.transport.row ≡ next_row c.args.parts.now.transport.row (drop from c.place-plan.result.now.changes) (slow_numbers (state_of_plan c.place-plan.result.now)) (timeout_of (state_of_plan c.place-plan.result.now) c.args.parts.now.transport.rate c.args.parts.now.set) c.args.parts.now.set)
        c.begin-last.ensures.last c.step_by_plan-moment.ensures.row;
    moment_is = c.step_by_plan-moment.ensures.moment;
    rests = c.in_ok-capture_period.ensures.rests;
    reads = c.in_ok-capture_period.ensures.reads;
    same_reading = c.capture_period.ensures.same;
    capture_room = c.capture_period.ensures.room;
    capture_sound = c.in_ok-capture_period.ensures.failed;
    plan_is = c.play.ensures.plan;
    period = c.play.ensures.period;
    stands = subst (StandsOn c.play.new.self.staged) c.play.ensures.plan c.play.ensures.stands;
    performs = λ was now. c.play.ensures.performs was (c.play.ensures.answer ∙ now);
    hears = λ of. c.play-2.ensures.hears (c.play-2.ensures.all (subst (λ (s : Script). AreOfCalls s c.place-plan.result.now.changes) (sym of_script) of));
    carried = either c.play-2.result (λ all. (c.play-2.ensures.hears all).carried) (λ none. c.what_is_carried.ensures.nobody c.args.parts.now.midi.heard c.play-2.new.self.heard c.place-plan.result.now c.args.parts.now.set (c.play-2.ensures.nobody none));
    lists = either c.play-2.result (λ all. (c.play-2.ensures.hears all).lists) (λ none. (c.play-2.ensures.nobody none).lists);
    heard_period = either c.play-2.result (λ all. (c.play-2.ensures.hears all).period_is) (λ none. (c.play-2.ensures.nobody none).period_is);
    gets =
        subst (λ (nodes : List Client). GetsAll (open_clients nodes) (length c.args.parts.now.numbers.items + 1) c.args.parts.now.disks c.get_blocks.new.self) c.nodes-nodes.ensures.value
        (subst (λ cycle. GetsAll (open_clients c.nodes-nodes.result.now) cycle c.args.parts.now.disks c.get_blocks.new.self) c.begin-last.ensures.cycle c.get_blocks.ensures);
    kinds = c.play.ensures.kinds;
    scores = c.play.ensures.scores;
    room = c.play.ensures.room;
    sends =
        subst (λ rack. Sends rack (open_clients c.place-plan.result.now.nodes) (length c.args.parts.now.numbers.items + 1) c.args.parts.now.set c.args.parts.now.rings c.send_blocks.new.rings) c.rack.ensures
        (subst (λ (nodes : List Client). Sends c.rack.result.now (open_clients nodes) (length c.args.parts.now.numbers.items + 1) c.args.parts.now.set c.args.parts.now.rings c.send_blocks.new.rings) c.nodes-nodes.ensures.value
        (subst (λ cycle. Sends c.rack.result.now (open_clients c.nodes-nodes.result.now) cycle c.args.parts.now.set c.args.parts.now.rings c.send_blocks.new.rings) c.begin-last.ensures.cycle c.send_blocks.ensures));
    script = refl;
    set = refl;
  },
)

pub returns-clause-midi_changes : goal.returns-clause-midi_changes
returns-clause-midi_changes g c = c.play-2.ensures.changes ∙ ap (λ (plan : Planned). plan.changes) (sym c.play.ensures.plan)
