use Rattle.std.proofs.Common.{◌≡◌, ℕ, sym, ◌∙◌, subst}
use Rattle.session_model.specs.Benches.{Task, node_at, task_of}
use Rattle.port_registry.specs.Registered.{open_clients}
use Rattle.event_laws.specs.client_benches.specs.Seen.{Remembered}
use Rattle.client_seats.specs.Seatings.{HasNoPast}
use Rattle.bench_rack.specs.Racks.{bench_at}
use Rattle.event_laws.specs.midi_wiring.specs.Hearings.{HearsPlan}
use Rattle.event_laws.specs.Crews.{heard_task, with_midi_of}
use Rattle.play_laws.proofs.PlayLemmas.{audio-known, plays, ready, scores-known}
use Rattle.play_laws.proofs.laws.a_stage_plays_its_plan.Goals as goal

pub returns : goal.returns
returns c sounding course old last plan moment period channels logs now disks at new stands is_staffed goes settled scores_are lists as_many hears performs =
    plays sounding old last plan moment period channels disks new performs course logs now at stands.stands.seating stands.stands.wiring (stands.staffed is_staffed) goes (c.keeps_by_births.ensures last plan goes) settled scores_are as_many no_past heard
    (c.a_stage_stands_behind_its_cycle.ensures.seating sounding old last plan moment period channels performs.cast performs.places performs.filled disks performs.fed performs.crew new.racked performs.casts performs.fills performs.feeds performs.performs)
    (c.a_crew_plays_what_is_heard.ensures sounding old.owned.scores course at plan logs now begun goes.planned settled.graph lists hears_at settled.events scores_are
    (scores-known sounding old last plan moment period channels disks new performs)
    (ready sounding old last plan moment period channels disks new performs course logs now at stands.stands.seating stands.stands.wiring (stands.staffed is_staffed) goes (c.keeps_by_births.ensures last plan goes) settled scores_are as_many no_past heard)
    (λ n. c.events_change_no_audio.ensures plan logs now n course.scores (begun n) (audio-known sounding old last plan moment period channels disks new performs n goes.planned)))
  where
    begun : ℕ → Remembered
    begun n = (bench_at performs.fed n).kept

    no_past : HasNoPast (open_clients plan.nodes) old.owned
    no_past = c.owners_stay_known.ensures.no_past plan old.racked old.owned goes.planned (c.owners_stay_known.ensures.known last plan old.racked old.owned goes stands.stands.known)

    hears_at : HearsPlan logs plan at.moment at.frames now
    hears_at = subst (λ m. HearsPlan logs plan m at.frames now) (sym settled.moment_is) (subst (λ f. HearsPlan logs plan moment f now) (sym settled.frames) hears)

    heard : (n : ℕ) (task : Task) → task.kind ≡ (node_at (open_clients plan.nodes) n).kind → heard_task plan now n task ≡ with_midi_of (task_of course at (open_clients plan.nodes) plan.links n) task
    heard n task kind = c.a_heard_task_is_its_clients.ensures course at plan now n task goes.planned settled.graph (lists ∙ sym hears.lists) settled.events kind
