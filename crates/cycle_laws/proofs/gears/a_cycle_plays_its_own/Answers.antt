use Rattle.std.proofs.Common.{◌≡◌, ℕ, ◌<◌, true, length, refl, sym}
use Rattle.session_model.specs.Benches.{node_at}
use Rattle.session_model.specs.Kinds.{Memory}
use Rattle.port_registry.specs.Registered.{open_clients}
use Rattle.driver_words.specs.Feeding.{fed_at}
use Rattle.plan_transport.specs.driver_laws.specs.Cycling.{StepsOnce}
use Rattle.plan_transport.specs.driver_laws.specs.Drivers.{Driver, content_now}
use Rattle.plan_transport.specs.driver_laws.specs.Keeping.{AreOfCalls}
use Rattle.plan_transport.specs.driver_laws.specs.Playing.{fed_now, own_course, settled_now, with_fed}
use Rattle.playback_laws.specs.client_wiring.specs.Keeping.{GoesOn}
use Rattle.midi_wiring.specs.Hearings.{HearsPlan}
use Rattle.midi_wiring.specs.Keeping.{BringsCarried}
use Rattle.play_laws.specs.Plays.{IsSettledOn}
use Rattle.cycle_laws.specs.Gears.{driver_of}
use Rattle.cycle_laws.proofs.FeedLemmas.{fed-now, first-now}
use Rattle.cycle_laws.proofs.PlayedLemmas.{calls-behind, calls-last, calls-now, device-now, plays-own}
use Rattle.cycle_laws.proofs.SettledLemmas.{channels-now, events-now, goes-on, settled-now}
use Rattle.cycle_laws.proofs.gears.a_cycle_plays_its_own.Goals as goal

pub returns : goal.returns
returns c sounding freewheel before after plan moment is may turns left course fits keeps told =
    let driver : Driver = driver_of sounding before in
    let played : Driver = driver_of sounding after in
    let steps : StepsOnce driver played = c.a_cycle_is_a_step.ensures sounding freewheel before after plan moment is may turns in
    let of : AreOfCalls before.script (content_now played) = c.content_is_of_calls.ensures driver played course steps fits in
    let of_plan : AreOfCalls before.script plan.changes = calls-now sounding is may turns steps of in
    let of_last : AreOfCalls before.script before.stage.plan.changes = calls-last sounding is may turns steps of in
    let staffed : before.stage.staged.is_staffed ≡ true = c.all_have_their_benches.ensures sounding before is of_last in
    let staffed_now : after.stage.staged.is_staffed ≡ true =
    c.all_have_their_benches.ensures sounding after (c.a_cycle_leaves_the_parts.ensures sounding freewheel before after plan moment is may turns) (calls-behind sounding is may turns steps of) in
    let hears : HearsPlan before.events plan moment before.set after.events = turns.hears of_plan in
    let goes : GoesOn before.stage.plan plan = goes-on sounding is may turns steps in
    let brings : BringsCarried before.stage.plan plan before.events after.events before.set =
    c.a_feedback_edge_brings_what_was_carried.ensures before.stage.plan plan before.events after.events moment before.set goes is.carried hears in
    let fed : (n : ℕ) → n < length plan.nodes → (memory : Memory)
    → with_fed (fed_now driver played) (node_at (open_clients plan.nodes) n).kind memory ≡ with_fed (fed_at after.disks) (node_at (open_clients plan.nodes) n).kind memory =
    fed-now sounding is may turns c.a_script_with_disks_keeps_its_period.ensures c.a_player_is_given_what_was_got.ensures of_plan in
    let captured : length after.capture.channels ≡ before.script.header.capture =
    channels-now sounding is may turns steps left told c.a_period_is_what_the_capture_has.ensures.as_many c.a_period_is_what_the_capture_has.ensures.read c.a_period_is_what_the_capture_has.ensures.rest in
    let settled : IsSettledOn sounding before.stage.staged before.stage.plan plan moment before.set after.capture.channels before.events after.events after.disks (settled_now driver played left) =
    settled-now sounding is may turns steps left told c.a_period_is_what_the_capture_has.ensures.as_many c.a_period_is_what_the_capture_has.ensures.read c.a_period_is_what_the_capture_has.ensures.rest
    of_last fed (events-now sounding is may turns steps staffed brings left) in
    plays-own sounding is may turns steps of left staffed_now hears
    (c.a_stage_plays_its_plan.ensures sounding (own_course driver) before.stage.staged before.stage.plan plan moment before.set after.capture.channels before.events after.events after.disks
    (settled_now driver played left) after.stage.staged is.stands staffed goes settled refl (sym is.lists)
    (device-now sounding is may turns steps of c.the_device_has_its_ports.ensures.capture captured) hears (turns.performs staffed staffed_now))
    (first-now sounding is may turns c.a_script_with_disks_keeps_its_period.ensures)
