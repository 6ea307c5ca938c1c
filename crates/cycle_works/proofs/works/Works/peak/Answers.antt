use Rattle.std.proofs.Common.{◌≡◌, Option, sym, ◌∙◌, ap}
use Rattle.std.specs.Option.{option_map_or}
use Rattle.session_model.specs.Kinds.{Memory}
use Rattle.client_stage.specs.client_seats.specs.Seatings.{memory_of}
use Rattle.driver_words.specs.Hearings.{log_at}
use Rattle.midi_stage.specs.driver_laws.specs.Drivers.{peak_in}
use Rattle.cycle_laws.specs.Gears.{Gear, driver_of}
use Rattle.cycle_laws.proofs.SeenLemmas.{memory-logged}
use Rattle.cycle_works.specs.Insides.{seen_of}
use Rattle.cycle_works.proofs.EndLemmas.{peak-logged}
use Rattle.cycle_works.proofs.works.Works.peak.Goals as goal

pub returns : goal.returns
returns g c = c.peak.ensures ∙ kept ∙ ap (λ (seen : Gear). peak_in (driver_of g.G.Guest.sound seen) c.args.birth) c.self.view_is
  where
    gear : Gear
    gear = seen_of {S = g.row.S.Denot} {G = g.row.G.Denot} c.self.inside

    kept : option_map_or (λ (memory : Memory). memory.peak) (memory_of gear.stage.staged.racked gear.stage.staged.owned c.args.birth) 0 ≡ peak_in (driver_of g.G.Guest.sound gear) c.args.birth
    kept =
        peak-logged (log_at gear.events c.args.birth) (memory_of gear.stage.staged.racked gear.stage.staged.owned c.args.birth)
        ∙ ap (λ (o : Option Memory). option_map_or (λ (m : Memory). m.peak) o 0) (sym (memory-logged g.G.Guest.sound gear c.args.birth))
