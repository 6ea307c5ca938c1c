use Rattle.std.proofs.Common.{◌≡◌, [], Option, sym, ◌∙◌, ap, subst}
use Rattle.std.specs.Option.{option_map_or}
use Rattle.session_model.specs.Kinds.{Memory}
use Rattle.client_stage.specs.client_seats.specs.Seatings.{memory_of}
use Rattle.driver_words.specs.Hearings.{log_at}
use Rattle.midi_stage.specs.driver_laws.specs.Drivers.{log_in}
use Rattle.midi_stage.specs.driver_laws.specs.Keeping.{AreOfCalls}
use Rattle.cycle_laws.specs.Gears.{Gear, driver_of}
use Rattle.cycle_laws.proofs.SeenLemmas.{memory-logged}
use Rattle.cycle_works.specs.Insides.{seen_of}
use Rattle.cycle_works.proofs.EndLemmas.{log-kept}
use Rattle.cycle_works.proofs.works.Works.log.Goals as goal

pub returns-clause-value : goal.returns-clause-value
returns-clause-value g c of = c.log.ensures.value ∙ kept ∙ ap (λ (seen : Gear). log_in (driver_of g.G.Guest.sound seen) c.args.birth) c.self.view_is
  where
    gear : Gear
    gear = seen_of {S = g.row.S.Denot} {G = g.row.G.Denot} c.self.inside

    kept : log_at gear.events c.args.birth ≡ log_in (driver_of g.G.Guest.sound gear) c.args.birth
    kept =
        log-kept (log_at gear.events c.args.birth) (memory_of gear.stage.staged.racked gear.stage.staged.owned c.args.birth)
        (c.self.invariant.gear.logs (subst (λ (seen : Gear). AreOfCalls seen.script seen.stage.plan.changes) (sym c.self.view_is) of) c.args.birth)
        ∙ ap (λ (o : Option Memory). option_map_or (λ (m : Memory). m.log) o []) (sym (memory-logged g.G.Guest.sound gear c.args.birth))
